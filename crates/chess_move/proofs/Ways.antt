-- The reader of coordinate texts behind two squares, case by case, each from what the code knows there, and the two lengths of a written text.
-- Assumes nothing.
use Rattle.std.specs.Prelude.{Ok, Err}
use mathlib.Core.Path.{◌≡◌, refl}
use mathlib.Core.List.{List, [], ◌∷◌}
use Prim.Native.Nat.{ℕ, ◌+◌, ◌*◌, ◌/◌, ◌%◌}
use native.Mathlib.Omega.{arith}
use lib.ListN.{length, get_or, drop}
use borrow.Author.Tests.{eq-eqb, ne_eqb}
use Rattle.square.specs.declared.PairError.{PairError}
use Rattle.square.specs.declared.PairError.TheVariants.{BadFile, BadRank, Missing}
use Rattle.answer.specs.Answer.{read_as, fault_at, invalid_uci_move}
use Rattle.square.specs.Square.{read_square, pair_told}
use Rattle.square.specs.Piece.{letter_of}
use Rattle.chess_move.specs.Number.{source_of, dest_of, promotion_of, number_of}
use Rattle.chess_move.specs.Coordinate.{promotion_named, promoted, with_end, with_dest, with_source, read_move, move_text}

-- what is wrong with the first pair, or with the second
pub bad_source : (s : List ℕ) (e : PairError) → read_square s ≡ Err e → read_move s ≡ pair_told 0 (length s) (Err e)
unfolding read_move with_source
bad_source s BadFile h = rw h
bad_source s BadRank h = rw h
bad_source s Missing h = rw h

pub bad_dest : (s : List ℕ) (source : ℕ) (e : PairError) → with_dest s source (Err e) ≡ pair_told 2 (length s) (Err e)
unfolding with_dest
bad_dest s source BadFile = refl
bad_dest s source BadRank = refl
bad_dest s source Missing = refl

pub good_source : (s : List ℕ) (x : ℕ) → read_square s ≡ Ok x → read_move s ≡ with_dest s x (read_square (drop 2 s))
unfolding read_move with_source
good_source s x e = rw e

pub read_squares : (s : List ℕ) (x y : ℕ) → read_square s ≡ Ok x → read_square (drop 2 s) ≡ Ok y → read_move s ≡ with_end s x y
unfolding read_move with_source with_dest
read_squares s x y e f = rw (e, f)

pub ended_squares : (s : List ℕ) (x y : ℕ) → (length s ≡ 5 → ⊥) → with_end s x y ≡ read_as (x + 64 * y)
ended_squares s x y n = let z : number_of x y 0 ≡ x + 64 * y = omega arith in simp (ne_eqb _ _ n, z)

pub ended_letter : (s : List ℕ) (x y p : ℕ) → length s ≡ 5 → p ≡ promotion_named (get_or s 4 0) → with_end s x y ≡ promoted x y p
ended_letter s x y p e q = simp (eq-eqb _ _ e, ← q)

pub promoted_none : (x y p : ℕ) → p ≡ 0 → promoted x y p ≡ fault_at invalid_uci_move 4
promoted_none x y p e = simp (eq-eqb _ _ e)

pub promoted_some : (x y p : ℕ) → (p ≡ 0 → ⊥) → promoted x y p ≡ read_as (number_of x y p)
promoted_some x y p n = simp (ne_eqb _ _ n)

-- a written text has four bytes without a promotion and five with one
abbrev pub four_bytes : ℕ → ℕ → List ℕ → List ℕ
four_bytes s d t = (97 + s % 8) ∷ (49 + s / 8) ∷ (97 + d % 8) ∷ (49 + d / 8) ∷ t

pub text_four : (n : ℕ) → promotion_of n ≡ 0 → move_text n ≡ four_bytes (source_of n) (dest_of n) []
unfolding move_text
text_four n e = simp (eq-eqb _ _ e)

pub text_five : (n : ℕ) → (promotion_of n ≡ 0 → ⊥) → move_text n ≡ four_bytes (source_of n) (dest_of n) (letter_of (promotion_of n + 6) ∷ [])
unfolding move_text
text_five n e = simp (ne_eqb _ _ e)
