-- A list looked at move by move without a branch, and a block of entries that holds the list and zeros past it.
-- Assumes nothing.
use mathlib.Core.Path.{◌≡◌, refl, ap, sym, ◌∙◌}
use mathlib.Core.Bool.{Bool, true, false, ◌&&◌, ◌||◌, and-true, and-false, or_assoc, or-false}
use mathlib.Core.List.{List}
use Prim.Native.Nat.{ℕ, zero, suc, ◌+◌, ◌*◌, ◌-◌, ◌<◌, ◌≤◌}
use native.Mathlib.Omega.{arith}
use lib.Bits.{bit_or}
use lib.Dec.{eqb, leb}
use lib.ListN.{length, take, drop, get_or, length-drop}
use lib.Seq.{get_or-drop, take_all}
use borrow.Author.Tests.{ne_eqb, le-leb}
use Rattle.answer.specs.Numbers.{all_at_most, among}
use Rattle.answer.proofs.Numbers.{both_left}
use Rattle.answer.proofs.Bounds.{gather, bound_at, bound_parts, bound_overlap}
use Rattle.chess_move.specs.Number.{last_move, of_bytes}
use Rattle.position.specs.Layout.{moves_at, position_size, moves_from}
use Rattle.stored_position.specs.CodeParts.{list_fits, list_fits_with}
use Rattle.stored_position.proofs.Listing.{moves_left, move_here, one_less, lists_end}

-- where the bytes begin that a list shorter than a block does not use
abbrev pub behind : ℕ → ℕ
behind block = moves_at + 2 * (block - 1)

-- the start of the loop over the first k entries, an iteration, and its end
pub range_turn : (n : ℕ) (s : List ℕ) (k a i : ℕ) → i < k
    → eqb (bit_or a (move_here s i - n)) 0 && all_at_most n (moves_left s k (i + 1)) ≡ eqb a 0 && all_at_most n (moves_left s k i)
unfolding all_at_most
range_turn n s k a i h = rw (one_less s k i h) (gather a (move_here s i) n (all_at_most n (moves_left s k (i + 1))))

pub range_end : (n : ℕ) (s : List ℕ) (k i : ℕ) → k ≤ i → all_at_most n (moves_left s k i) ≡ true
unfolding all_at_most moves_from
range_end n s k i h = let e : k - i ≡ 0 = omega arith in rw e

-- the part that a slice from a place on is
pub part_to_end : {n : ℕ} (s : List ℕ) (at : ℕ) → length s ≡ n → take (n - at) (drop at s) ≡ drop at s
part_to_end {n} s at long = take_all (n - at) (drop at s) (rw (length-drop at s) (omega arith))

-- a list does not fit if what is past it is not 0, and otherwise its moves decide
module _ (s : List ℕ) (entries : ℕ) where
  abbrev past : List ℕ
  past = drop (moves_at + 2 * entries) s

  pub not_past : all_at_most 0 (drop (moves_at + 2 * entries) s) ≡ false → list_fits s entries ≡ false
  unfolding list_fits
  not_past e = rw e

  pub by_moves : all_at_most 0 (drop (moves_at + 2 * entries) s) ≡ true → list_fits s entries ≡ all_at_most last_move (moves_from s moves_at entries)
  unfolding list_fits
  by_moves e = rw e

  pub not_moves : all_at_most last_move (moves_from s moves_at entries) ≡ false → list_fits s entries ≡ false
  unfolding list_fits
  not_moves e = rw e (and-false (all_at_most 0 past))

  pub by_past : all_at_most last_move (moves_from s moves_at entries) ≡ true → list_fits s entries ≡ all_at_most 0 (drop (moves_at + 2 * entries) s)
  unfolding list_fits
  by_past e = rw e (and-true (all_at_most 0 past))

  -- a short list's zeros, in two parts that overlap
  pub not_near : (block : ℕ) → all_at_most 0 (take (2 * block) (drop (moves_at + 2 * entries) s)) ≡ false → list_fits s entries ≡ false
  not_near block e = not_past
      (bound_parts 0 s (moves_at + 2 * entries) (2 * block) ∙ ap (λ (t : Bool). t && all_at_most 0 (drop (moves_at + 2 * entries + 2 * block) s)) e)

  pub far : (block : ℕ) → entries < block → all_at_most 0 (take (2 * block) (drop (moves_at + 2 * entries) s)) ≡ true
      → all_at_most 0 (drop (behind block) s) ≡ all_at_most 0 (drop (moves_at + 2 * entries) s)
  far block short e = bound_overlap 0 s (moves_at + 2 * entries) (behind block) (2 * block) (omega arith) (omega arith) e

  -- a list with a move
  pub not_list : (m : ℕ) → list_fits s entries ≡ false → list_fits_with s entries m ≡ false
  unfolding list_fits_with
  not_list m e = rw e

  pub by_among : (m : ℕ) → list_fits s entries ≡ true → among m (moves_from s moves_at entries) ≡ list_fits_with s entries m
  unfolding list_fits_with
  by_among m e = rw e

-- from a place on all bytes are 0
abbrev pub ZerosFrom : List ℕ → ℕ → Type 0
ZerosFrom s at = (i : ℕ) → at ≤ i → get_or s i 0 ≡ 0

pub zeros_from : (s : List ℕ) (at : ℕ) → all_at_most 0 (drop at s) ≡ true → ZerosFrom s at
zeros_from s at e i h =
    let f : at + (i - at) ≡ i = omega arith in
    let g : get_or s i 0 ≡ get_or (drop at s) (i - at) 0 = ap (λ (x : ℕ). get_or s x 0) (sym f) ∙ sym (get_or-drop at s (i - at) 0) in
    omega (arith, bound_at 0 (drop at s) (i - at) e)

-- past the list a block holds moves 0, which are in range
zeros_in_range : (n : ℕ) (s : List ℕ) (at j : ℕ) → ZerosFrom s at → all_at_most n (moves_from s at j) ≡ true
unfolding all_at_most moves_from
zeros_in_range n s at zero z = refl
zeros_in_range n s at (suc j) z =
    let h : of_bytes (get_or s at 0) (get_or s (at + 1) 0) ≤ n = omega (arith, z at (omega arith), z (at + 1) (omega arith)) in
    rw (le-leb _ _ h) (zeros_in_range n s (at + 2) j (λ i h. z i (omega arith)))

block_from : (n : ℕ) (s : List ℕ) (at k j : ℕ) → ZerosFrom s (at + 2 * k) → all_at_most n (moves_from s at (k + j)) ≡ all_at_most n (moves_from s at k)
unfolding all_at_most moves_from
block_from n s at zero j z =
    let e : 0 + j ≡ j = omega arith in
    rw e (zeros_in_range n s at j (λ i h. z i (omega arith)))
block_from n s at (suc k) j z =
    let e : suc k + j ≡ suc (k + j) = omega arith in
    rw e (ap (λ (t : Bool). leb (of_bytes (get_or s at 0) (get_or s (at + 1) 0)) n && t) (block_from n s (at + 2) k j (λ i h. z i (omega arith))))

pub block_range : (n : ℕ) (s : List ℕ) (k block : ℕ) → k ≤ block → all_at_most 0 (drop (moves_at + 2 * k) s) ≡ true
    → all_at_most n (moves_from s moves_at block) ≡ all_at_most n (moves_from s moves_at k)
block_range n s k block h z =
    let e : k + (block - k) ≡ block = omega arith in
    ap (λ (x : ℕ). all_at_most n (moves_from s moves_at x)) (sym e) ∙ block_from n s moves_at k (block - k) (zeros_from s (moves_at + 2 * k) z)

-- and which are not any other move
zeros_list : (m : ℕ) (s : List ℕ) (at j : ℕ) → (m ≡ 0 → ⊥) → ZerosFrom s at → among m (moves_from s at j) ≡ false
unfolding among moves_from
zeros_list m s at zero n z = refl
zeros_list m s at (suc j) n z =
    let h : of_bytes (get_or s at 0) (get_or s (at + 1) 0) ≡ m → ⊥ = λ e. n (omega (arith, z at (omega arith), z (at + 1) (omega arith))) in
    rw (ne_eqb _ _ h) (zeros_list m s (at + 2) j n (λ i h. z i (omega arith)))

among_from : (m : ℕ) (s : List ℕ) (at k j : ℕ) → (m ≡ 0 → ⊥) → ZerosFrom s (at + 2 * k) → among m (moves_from s at (k + j)) ≡ among m (moves_from s at k)
unfolding among moves_from
among_from m s at zero j n z =
    let e : 0 + j ≡ j = omega arith in
    rw e (zeros_list m s at j n (λ i h. z i (omega arith)))
among_from m s at (suc k) j n z =
    let e : suc k + j ≡ suc (k + j) = omega arith in
    rw e (ap (λ (t : Bool). eqb (of_bytes (get_or s at 0) (get_or s (at + 1) 0)) m || t) (among_from m s (at + 2) k j n (λ i h. z i (omega arith))))

block_among : (m : ℕ) (s : List ℕ) (k block : ℕ) → k ≤ block → (m ≡ 0 → ⊥) → all_at_most 0 (drop (moves_at + 2 * k) s) ≡ true
    → among m (moves_from s moves_at block) ≡ among m (moves_from s moves_at k)
block_among m s k block h n z =
    let e : k + (block - k) ≡ block = omega arith in
    ap (λ (x : ℕ). among m (moves_from s moves_at x)) (sym e) ∙ among_from m s moves_at k (block - k) n (zeros_from s (moves_at + 2 * k) z)

-- so a block has a move other than 0 exactly if the list, which is shorter, has it
pub block_lists : (m : ℕ) (s : List ℕ) (k block : ℕ) → k ≤ block → (m ≡ 0 → ⊥) → list_fits s k ≡ true
    → among m (moves_from s moves_at block) ≡ list_fits_with s k m
unfolding list_fits
block_lists m s k block h n fits =
    block_among m s k block h n (both_left (all_at_most 0 (drop (moves_at + 2 * k) s)) _ fits) ∙ by_among s k m fits

-- the start of the loop that looks for a move among the first k entries, an iteration, and its end
pub look_turn : (s : List ℕ) (m k i : ℕ) (found : Bool) → i < k
    → (found || eqb (move_here s i) m) || among m (moves_left s k (i + 1)) ≡ found || among m (moves_left s k i)
unfolding among
look_turn s m k i found h = rw (one_less s k i h) (or_assoc found (eqb (move_here s i) m) (among m (moves_left s k (i + 1))))

pub look_end : (s : List ℕ) (m k i : ℕ) (found : Bool) → k ≤ i → found || among m (moves_left s k i) ≡ found
look_end s m k i found h = rw (lists_end s m k i h) (or-false found)
