-- What one pass over a list gathers for a text: whether each entry is in range, and of the entries that the text may name, everything but the man on the source
-- being looked at, their number, and the sum and the largest of their sources. These determine up to two of them, and with the least source three. For inner
-- functions; the public contract does not speak of this.
-- Assumes nothing.
use Rattle.std.specs.Prelude.{ℕ, ◌+◌, ◌*◌, ◌-◌, ◌%◌, max, min, ◌≡◌, Bool, true, false, cond, ◌&&◌, List, [], ◌∷◌, eqb, ltb, length}
use Rattle.std.specs.Int.Bits.{bit_and, bit_or}
use Rattle.answer.specs.declared.Answer.{Answer}
use Rattle.answer.specs.Answer.{accepted, refused, bad_list, invalid_san_move}
use Rattle.answer.specs.Numbers.{all_at_most, largest}
use Rattle.chess_move.specs.Number.{last_move, source_of}
use Rattle.move_list.specs.MoveList.{list_in_range}
use Rattle.san_text.specs.declared.San.{San}
use Rattle.san_text.specs.Place.{given}
use Rattle.san_text.specs.Resolve.{kind_on}
use Rattle.san_text.specs.Forms.{form_of}
use Rattle.san.specs.declared.gathering.Gathered.{Gathered}

-- the pass goes by blocks of this many entries, and a list has at least one block
abbrev pub block : ℕ
block = 8

-- the number, or none
abbrev pub number_if : Bool → ℕ → ℕ
number_if b n = cond b n 0

-- the bits of an entry that a text fixes, and what they are without a promotion
abbrev pub mask_of : San → ℕ
mask_of t = 65472 + number_if (given t.file) 7 + number_if (given t.rank) 56

abbrev pub want_of : San → ℕ
want_of t = t.dest * 64 + (t.rank - 1) * 8 + (t.file - 1)

unfoldable pub picked : ℕ → ℕ → ℕ → Bool
picked mask want m = eqb (bit_and m mask) want

-- the man on the source is of the text's kind
unfoldable pub kind_fits : List ℕ → San → ℕ → Bool
kind_fits pieces t m = eqb (kind_on pieces (source_of m)) t.piece

-- a source, if its entry is picked, before those of the entries behind it
unfoldable pub kept : Bool → ℕ → List ℕ → List ℕ
kept true x xs = x ∷ xs
kept false x xs = xs

-- the sources of the entries that are picked, in order
unfoldable pub sources : (ℕ → Bool) → List ℕ → List ℕ
sources p [] = []
sources p (m ∷ ms) = kept (p m) (m % 64) (sources p ms)

unfoldable pub total : List ℕ → ℕ
total [] = 0
total (x ∷ xs) = x + total xs

unfoldable pub lowest : ℕ → List ℕ → ℕ
lowest a [] = a
lowest a (x ∷ xs) = lowest (min a x) xs

-- two more entries, each picked or not
unfoldable pub gather_two : Gathered → Bool → ℕ → Bool → ℕ → Gathered
gather_two g here m there n = record {
  above = bit_or (bit_or g.above (m - last_move)) (n - last_move);
  count = g.count + number_if here 1 + number_if there 1;
  sum = g.sum + number_if here (m % 64) + number_if there (n % 64);
  largest = max g.largest (max (number_if here (m % 64)) (number_if there (n % 64)));
}

-- what is gathered from a list
pub record Gathers (p : ℕ → Bool) (l : List ℕ) (g : Gathered) : Type 0 where
  pub range_is : eqb g.above 0 ≡ all_at_most last_move l
  pub count_is : g.count ≡ length (sources p l)
  pub sum_is : g.sum ≡ total (sources p l)
  pub largest_is : g.largest ≡ largest (sources p l)

-- of up to three sources, how many pass a test, and the sum of those that do
abbrev pub passing : (ℕ → Bool) → ℕ → ℕ → ℕ → ℕ → ℕ
passing f n x y z = number_if (ltb 0 n && f x) 1 + number_if (ltb 1 n && f y) 1 + number_if (ltb 2 n && f z) 1

abbrev pub passed : (ℕ → Bool) → ℕ → ℕ → ℕ → ℕ → ℕ
passed f n x y z = number_if (ltb 0 n && f x) x + number_if (ltb 1 n && f y) y + number_if (ltb 2 n && f z) z

-- the answer from how many entries fit and the source of the one that does, in the form that the flag says
unfoldable pub sole_from : Bool → List ℕ → San → ℕ → ℕ → Answer
sole_from form pieces t fit source =
    cond (eqb fit 1)
    (cond ((form_of form).captures pieces t (t.dest * 64 + source % 64)) (accepted (t.dest * 64 + source)) (refused invalid_san_move))
    (refused invalid_san_move)

-- an answer that is given only over a list in range
abbrev pub over_list : List ℕ → Answer → Answer
over_list moves a = cond (list_in_range moves) a (refused bad_list)
