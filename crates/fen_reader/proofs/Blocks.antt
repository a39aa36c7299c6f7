-- Lines by blocks. A byte is looked for in a block without a branch: what is found is gathered, and nothing is gathered exactly if the byte is not there.
-- Assumes nothing.
use mathlib.Core.Path.{◌≡◌, refl, sym, ap, ◌∙◌}
use mathlib.Core.Bool.{Bool, true, false, cond, not, ◌&&◌, ◌||◌}
use Rattle.std.proofs.lemmas.List.Sums.{prefix_len-le-length}
use Rattle.std.specs.Prelude.{position, nat_lt}
use Rattle.std.specs.List.{position_or_len}
use Rattle.std.specs.Option.{unwrap_or}
use mathlib.Core.List.{List, [], ◌∷◌}
use Prim.Native.Nat.{ℕ, zero, suc, ◌+◌, ◌*◌, ◌-◌, ◌≤◌, ◌<◌}
use native.Mathlib.Numerals.{add-one}
use native.Mathlib.Omega.{arith}
use lib.Bits.{bit_or}
use lib.Dec.{eqb}
use borrow.Author.Tests.{ltb-false}
use native.Mathlib.Nat.{zero-mul}
use Rattle.std.specs.Simd.{first_chunks}
use lib.ListN.{length, take, drop, get_or, drop_of_length-le, length-drop}
use lib.Seq.{drop-cons, drop-drop, take_all}
use Rattle.answer.specs.Numbers.{among}
use Rattle.answer.proofs.Bounds.{or_none}
use Rattle.fen_text.specs.Token.{place_of, place_where, place_after}
use Rattle.fen_text.specs.Lines.{ended_lines}
use Rattle.fen_text.proofs.Lines.{ended_parts, none_in_front, place_at_most}
use Rattle.fen_reader.specs.CodeWalk.{found_from}

-- ---- the place of the first byte that passes a test, as the library finds it
place_where_is : (test : ℕ → Bool) (s : List ℕ) → position_or_len test s ≡ place_where test s
unfolding place_where place_after
place_where_is test [] = refl
place_where_is test (x ∷ xs) = by (test x) (place_where_is test xs)
  where
    by : (t : Bool) → position_or_len test xs ≡ place_where test xs → cond (not t) (1 + position_or_len test xs) 0 ≡ place_after t (place_where test xs)
    by true e = refl
    by false e = omega (arith, e)

pub place_by_position : (test : ℕ → Bool) (s : List ℕ) → unwrap_or (position test s) (length s) ≡ place_where test s
place_by_position test s = go (nat_lt (position_or_len test s) (length s)) refl
  where
    go : (t : Bool) → nat_lt (position_or_len test s) (length s) ≡ t → unwrap_or (position test s) (length s) ≡ place_where test s
    go true e = rw e (place_where_is test s)
    go false e = rw e (omega (arith, ltb-false _ _ e, prefix_len-le-length (λ x. not (test x)) s) ∙ place_where_is test s)

found : (hit : ℕ) (here left : Bool) → not (eqb (bit_or hit (cond here 1 0)) 0) || left ≡ not (eqb hit 0) || (here || left)
found hit here left = rw (or_none hit (cond here 1 0)) (by (eqb hit 0) here)
  where
    by : (none here : Bool) → not (none && eqb (cond here 1 0) 0) || left ≡ not none || (here || left)
    by true true = refl
    by true false = refl
    by false here = refl

-- an iteration of the loop over the block, and its end
pub found_turn : (b : ℕ) (s : List ℕ) (hit i : ℕ) → i < length s
    → not (eqb (bit_or hit (cond (eqb (get_or s i 0) b) 1 0)) 0) || among b (drop (i + 1) s) ≡ not (eqb hit 0) || among b (drop i s)
unfolding among
found_turn b s hit i h = rw (add-one i, drop-cons s i 0 h) (found hit (eqb (get_or s i 0) b) (among b (drop (suc i) s)))

pub found_end : (b : ℕ) (s : List ℕ) (hit i : ℕ) → length s ≤ i → not (eqb hit 0) || among b (drop i s) ≡ not (eqb hit 0)
unfolding among
found_end b s hit i h = rw (drop_of_length-le s h) (by (not (eqb hit 0)))
  where
    by : (t : Bool) → t || false ≡ t
    by true = refl
    by false = refl

-- ---- newlines counted by blocks: one more block, and what is left at the end

-- the block at a place
pub block_at : (size n i : ℕ) (s d : List ℕ) → i < n → get_or (first_chunks size n s) i d ≡ take size (drop (i * size) s)
block_at size zero i s d h = absurd (omega arith)
block_at size (suc n) zero s d h = rw (zero-mul size)
block_at size (suc n) (suc i) s d h =
    let past : size + i * size ≡ suc i * size = omega arith in
    block_at size n i (drop size s) d (omega arith) ∙ ap (take size) (drop-drop (i * size) size s ∙ ap (λ (k : ℕ). drop k s) past)

pub counted_turn : (s block : List ℕ) (i n r x : ℕ) → block ≡ take 128 (drop (i * 128) s) → r ≡ length (ended_lines block) → x ≡ r
    → n + length (ended_lines (drop (i * 128) s)) ≡ length (ended_lines s) → n + x + length (ended_lines (drop ((i + 1) * 128) s)) ≡ length (ended_lines s)
counted_turn s block i n r x b f e g =
    let h : r ≡ length (ended_lines (take 128 (drop (i * 128) s))) = f ∙ ap (λ (l : List ℕ). length (ended_lines l)) b in
    let next : i * 128 + 128 ≡ (i + 1) * 128 = omega arith in
    let parts = rw next at (ended_parts s (i * 128) 128) in
    omega arith

pub counted_end : (s left : List ℕ) (i n r x : ℕ) → left ≡ drop (i * 128) s → r ≡ length (ended_lines left) → x ≡ r
    → n + length (ended_lines (drop (i * 128) s)) ≡ length (ended_lines s) → n + x ≡ length (ended_lines s)
counted_end s left i n r x b f e g =
    let h : r ≡ length (ended_lines (drop (i * 128) s)) = f ∙ ap (λ (l : List ℕ). length (ended_lines l)) b in
    omega arith

-- ---- the first byte of a kind: a block that has none is passed over, and in what is left it is looked for byte by byte

pub passed_over_lem : (b : ℕ) (s block : List ℕ) (k : ℕ) → (k + 1) * 16 ≤ length s → block ≡ take 16 (drop (k * 16) s) → among b block ≡ false
    → place_of b s ≡ k * 16 + place_of b (drop (k * 16) s) → place_of b s ≡ (k + 1) * 16 + place_of b (drop ((k + 1) * 16) s)
passed_over_lem b s block k h e none g =
    let long : 16 ≤ length (drop (k * 16) s) = rw (length-drop (k * 16) s) (omega arith) in
    let absent : among b (take 16 (drop (k * 16) s)) ≡ false = ap (among b) (sym e) ∙ none in
    let place = none_in_front b (drop (k * 16) s) 16 long absent in
    let next : k * 16 + 16 ≡ (k + 1) * 16 = omega arith in
    let past : place_of b (drop 16 (drop (k * 16) s)) ≡ place_of b (drop ((k + 1) * 16) s) =
    ap (place_of b) (drop-drop 16 (k * 16) s ∙ ap (λ (n : ℕ). drop n s) next) in
    omega (arith, place, past)

-- what stands from a place on, cut off with a length at hand
pub cut_off : (s : List ℕ) (from k : ℕ) → length s - from ≤ k → take k (drop from s) ≡ drop from s
cut_off s from k h = take_all k (drop from s) (rw (length-drop from s) h)

pub looked_for : (b : ℕ) (s rest tail : List ℕ) (from at r : ℕ) → rest ≡ drop from s → tail ≡ drop at rest → r ≡ place_of b tail
    → place_of b rest ≡ at + place_of b (drop at rest) → from + at + r ≡ found_from b s from
looked_for b s rest tail from at r e f g h =
    let whole : place_of b rest ≡ place_of b (drop from s) = ap (place_of b) e in
    let last : r ≡ place_of b (drop at rest) = g ∙ ap (place_of b) f in
    omega (arith, h)

pub end_within : (b : ℕ) (s : List ℕ) (at : ℕ) → at ≤ length s → found_from b s at ≤ length s
end_within b s at h = omega (arith, place_at_most b (drop at s), length-drop at s)
