-- Laws of one square: the byte that the inner loop makes of its piece and of the run, and the text of a rank from it on.
-- Assumes nothing.
use mathlib.Core.Path.{◌≡◌, refl, ap, ◌∙◌}
use mathlib.Core.Bool.{Bool, true, false, cond}
use mathlib.Core.List.{List, [], ◌∷◌, ◌++◌}
use Prim.Native.Nat.{ℕ, zero, suc, ◌+◌, ◌%◌, ◌≤◌, zero-le}
use native.Mathlib.Omega.{arith}
use lib.Dec.{eqb, leb, leb→le}
use lib.ListN.{get_or}
use Rattle.square.specs.Piece.{letter_of}
use Rattle.answer.proofs.Below.{below}
use Rattle.answer.specs.Numbers.{all_at_most}
use Rattle.answer.proofs.Numbers.{most_head, most_tail}
use Rattle.fen_text.specs.Write.{digit_text, run_text}
use Rattle.fen_writer.specs.CodeSigns.{sign_of}

-- the next square of a rank: an empty one, a piece
pub row_empty : (n x : ℕ) (xs : List ℕ) → x ≡ 0 → run_text n (x ∷ xs) ≡ run_text (n + 1) xs
unfolding run_text
row_empty n x xs e = ap (λ (k : ℕ). run_text n (k ∷ xs)) e

pub row_letter : (n x : ℕ) (xs : List ℕ) → (x ≡ 0 → ⊥) → run_text n (x ∷ xs) ≡ digit_text n ++ (letter_of x ∷ run_text 0 xs)
unfolding run_text
row_letter n zero xs h = absurd (h refl)
row_letter n (suc x) xs h = refl

-- each square of a board with codes to 12
pub code_at : (xs : List ℕ) (i : ℕ) → all_at_most 12 xs ≡ true → get_or xs i 0 ≤ 12
code_at [] i e = zero-le
code_at (x ∷ xs) zero e = most_head 12 x xs e
code_at (x ∷ xs) (suc i) e = code_at xs i (most_tail 12 x xs e)

-- a sign is at most `z`: sixteen remainders, each computed
pub sign_most : (piece sign : ℕ) → sign ≡ sign_of (piece % 16) → sign ≤ 122
unfolding sign_of letter_of
sign_most piece sign e =
    rw e (leb→le (sign_of (piece % 16)) 122 (below (λ (y : ℕ). leb (sign_of y) 122) 16 tt (piece % 16) (omega arith)))

-- the sign with the run added: a digit where the square is empty, else the letter, since there is no run
pub sign_byte : (piece run next sign : ℕ) → piece ≤ 12 → next ≡ cond (eqb piece 0) (run + 1) 0 → sign ≡ sign_of (piece % 16)
    → sign + next ≡ cond (eqb piece 0) (48 + next) (letter_of piece)
unfolding sign_of
sign_byte piece run next sign h e f = go (eqb piece 0) refl
  where
    same : piece % 16 ≡ piece
    same = omega arith

    go : (t : Bool) → eqb piece 0 ≡ t → sign + next ≡ cond (eqb piece 0) (48 + next) (letter_of piece)
    go true p = rw (f, same, p)
    go false p =
        let none : next ≡ 0 = e ∙ rw p in
        rw (f, same, p, none) (omega arith)
