-- A written move reads back: its two squares, each of sixty-four computed, its promotion letter, of seven computed, and then over the two calls' room.
-- Assumes nothing.
use mathlib.Core.Path.{◌≡◌, refl, sym, ap, ◌∙◌}
use mathlib.Core.Bool.{Bool, true, false, cond}
use mathlib.Core.List.{List, [], ◌∷◌}
use Prim.Native.Nat.{ℕ, ◌+◌, ◌*◌, ◌/◌, ◌%◌, ◌≤◌}
use native.Mathlib.Omega.{arith}
use lib.Dec.{eqb, eqb→eq}
use lib.ListN.{length, drop}
use lib.Seq.{take_at}
use borrow.Author.Tests.{le-leb, eq-eqb, eqb-true, eqb-false}
use Rattle.answer.specs.declared.Answer.{Answer}
use Rattle.std.specs.Prelude.{Ok}
use Rattle.answer.specs.Answer.{accepted, read_as, fault_at, invalid_uci_move, overwrite, write_answer, write_bytes}
use Rattle.square.specs.Square.{square_named, read_square}
use Rattle.square.specs.Piece.{letter_of}
use Rattle.answer.proofs.Below.{below}
use Rattle.square.proofs.Squares.{square_reads_back}
use Rattle.answer.proofs.Writes.{write_fits}
use Rattle.chess_move.specs.Number.{last_move, source_of, dest_of, promotion_of, number_of}
use Rattle.chess_move.specs.Coordinate.{promotion_named, promoted, with_end, read_move, move_text, move_check}
use Rattle.chess_move.specs.Promises.{readable, MovesReadBack}
use Rattle.chess_move.proofs.Numbers.{source_most, dest_most, promotion_most, number_of_its_parts}
use Rattle.chess_move.proofs.Ways.{four_bytes, read_squares, ended_squares, ended_letter, promoted_none, promoted_some, text_four, text_five}

-- a square's two bytes name it
pub pair_back : (square : ℕ) → square ≤ 63 → square_named (97 + square % 8) (49 + square / 8) ≡ Ok square
unfolding read_square
pair_back square h = square_reads_back square (omega arith)

-- a promotion's letter names it where it is readable, and nothing otherwise
letter_test : ℕ → Bool
letter_test p = eqb (promotion_named (letter_of (p + 6))) (cond (readable p) p 0)

pub letter_back : (p : ℕ) → p ≤ 6 → promotion_named (letter_of (p + 6)) ≡ cond (readable p) p 0
unfolding promotion_named letter_of letter_test
letter_back p h = eqb→eq _ _ (below letter_test 7 tt p (omega arith))

-- the two squares that a text's first four bytes name
squares_back : (s d : ℕ) (t : List ℕ) → s ≤ 63 → d ≤ 63 → read_move (four_bytes s d t) ≡ with_end (four_bytes s d t) s d
unfolding read_square
squares_back s d t hs hd = read_squares (four_bytes s d t) s d (pair_back s hs) (pair_back d hd)

-- a promotion that is there
promoted_back : (s d p : ℕ) → (p ≡ 0 → ⊥) → promoted s d (cond (readable p) p 0) ≡ cond (readable p) (read_as (number_of s d p)) (fault_at invalid_uci_move 4)
promoted_back s d p n = go (readable p)
  where
    go : (b : Bool) → promoted s d (cond b p 0) ≡ cond b (read_as (number_of s d p)) (fault_at invalid_uci_move 4)
    go true = promoted_some s d p n
    go false = promoted_none s d 0 refl

without : (n : ℕ) → promotion_of n ≡ 0 → read_move (move_text n) ≡ cond (readable (promotion_of n)) (read_as n) (fault_at invalid_uci_move 4)
without n e =
    let text = four_bytes (source_of n) (dest_of n) [] in
    let z : source_of n + 64 * dest_of n ≡ n = omega arith in
    rw (text_four n e)
    (squares_back (source_of n) (dest_of n) [] (source_most n) (dest_most n)
    ∙ ended_squares text (source_of n) (dest_of n) (λ f. omega arith)
    ∙ simp (eq-eqb _ _ e, z))

with_one : (n : ℕ) → n ≤ last_move → (promotion_of n ≡ 0 → ⊥)
    → read_move (move_text n) ≡ cond (readable (promotion_of n)) (read_as n) (fault_at invalid_uci_move 4)
with_one n h e =
    let p = promotion_of n in
    let letter = letter_of (p + 6) ∷ [] in
    let text = four_bytes (source_of n) (dest_of n) letter in
    rw (text_five n e)
    (squares_back (source_of n) (dest_of n) letter (source_most n) (dest_most n)
    ∙ ended_letter text (source_of n) (dest_of n) (cond (readable p) p 0) refl (sym (letter_back p (promotion_most n h)))
    ∙ promoted_back (source_of n) (dest_of n) p e
    ∙ rw (number_of_its_parts n))

pub text_back : (n : ℕ) → n ≤ last_move → read_move (move_text n) ≡ cond (readable (promotion_of n)) (read_as n) (fault_at invalid_uci_move 4)
text_back n h = go (eqb (promotion_of n) 0) refl
  where
    go : (b : Bool) → eqb (promotion_of n) 0 ≡ b → read_move (move_text n) ≡ cond (readable (promotion_of n)) (read_as n) (fault_at invalid_uci_move 4)
    go true e = without n (eqb-true _ _ e)
    go false e = with_one n h (eqb-false _ _ e)

pub text_most : (n : ℕ) → length (move_text n) ≤ 5
text_most n = go (eqb (promotion_of n) 0) refl
  where
    go : (b : Bool) → eqb (promotion_of n) 0 ≡ b → length (move_text n) ≤ 5
    go true e = rw (text_four n (eqb-true _ _ e)) (omega arith)
    go false e = rw (text_five n (eqb-false _ _ e)) (omega arith)

pub moves_read_back : MovesReadBack
moves_read_back n out h room =
    let text = move_text n in
    let long = text_most n in
    let fits : length text ≤ length out = omega arith in
    let check : move_check n ≡ 0 = simp (le-leb n last_move h) in
    let w = write_fits text out fits in
    let answer : write_answer (move_check n) text (length out) ≡ accepted (length text) = rw check (sym w.answer) in
    let bytes : write_bytes (move_check n) text out ≡ overwrite text out = rw check (sym w.bytes) in
    let value : (write_answer (move_check n) text (length out)).value ≡ length text = ap (λ (a : Answer). a.value) answer in
    record {
      accepts = ap (λ (a : Answer). a.number) answer;
      back = rw (value, bytes, take_at text (drop (length text) out) (length text) refl) (text_back n h);
    }
