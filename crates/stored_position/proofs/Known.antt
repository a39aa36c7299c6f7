-- Bytes recognised as those of a position: what is left to look at once the checks pass.
-- Assumes nothing.
use Rattle.std.specs.Array.{IsWholeChunk}
use mathlib.Core.Path.{◌≡◌, refl, ap, ap₂, sym, ◌∙◌}
use mathlib.Core.Bool.{Bool, true, false, ◌&&◌, and_comm, false≢true}
use mathlib.Core.List.{List, [], ◌∷◌, ◌++◌}
use Prim.Native.Nat.{ℕ, zero, suc, ◌+◌, ◌*◌, ◌-◌, ◌<◌, ◌≤◌}
use native.Mathlib.Omega.{arith}
use lib.Dec.{eqb, leb, eqb-suc-zero, leb-suc-zero}
use lib.ListN.{length, take, drop, get_or, replicate, length-drop, take-append-drop}
use lib.Seq.{drop-cons, drop-drop}
use borrow.Author.Tests.{eq-eqb, eqb-true, eqb-false, le-leb, lt-leb, leb-true, leb-false}
use Rattle.answer.specs.Numbers.{all_at_most, same, among}
use Rattle.answer.proofs.Numbers.{both_left, both_right}
use Rattle.answer.proofs.Same.{same_lengths}
use Rattle.board_builder.specs.BoardBuilder.{record_size}
use Rattle.chess_move.specs.Number.{last_move, low_byte, high_byte}
use Rattle.move_list.specs.MoveList.{longest_list, list_in_range}
use Rattle.position.specs.Layout.{half_at, full_at, check_at, length_at, moves_at, position_size, two_bytes_at, moves_from, position_of}
use Rattle.position.proofs.Moves.{AllBytes, length_moves, take_two}
use Rattle.stored_position.specs.Bytes.{move_bytes, counter_bytes, position_bytes, position_check, is_position, lists_move, is_position_with}
use Rattle.stored_position.specs.CodeParts.{record_fits, front_fits, list_fits, list_fits_with, rest_fits, rest_fits_with}
use Rattle.stored_position.proofs.Bytes.{length_position}
use Rattle.stored_position.proofs.Checks.{position_fits, bad_board, bad_check, by_list}

-- a list that is read from bytes is short enough: its range is that of its moves
pub read_list_lem : (s : List ℕ) → AllBytes s → list_in_range (position_of s).moves ≡ all_at_most last_move (moves_from s moves_at (get_or s length_at 0))
unfolding list_in_range position_of
read_list_lem s b =
    let n = get_or s length_at 0 in
    rw (length_moves s moves_at n, le-leb n longest_list (omega (arith, b length_at)))

same_front : (a x y : List ℕ) → same (a ++ x) (a ++ y) ≡ same x y
unfolding same
same_front [] x y = refl
same_front (b ∷ a) x y = rw (eq-eqb b b refl) (same_front a x y)

is_zero : (a : ℕ) → leb a 0 ≡ eqb a 0
is_zero zero = refl
is_zero (suc a) = leb-suc-zero a ∙ sym (eqb-suc-zero a)

same_zeros : (x : List ℕ) → same x (replicate (length x) 0) ≡ all_at_most 0 x
unfolding same all_at_most
same_zeros [] = refl
same_zeros (a ∷ x) = ap₂ ◌&&◌ (sym (is_zero a)) (same_zeros x)

-- the bytes of the moves that were read are the bytes they were read from
read_bytes : (s : List ℕ) → AllBytes s → (k at : ℕ) → at + 2 * k ≤ length s → move_bytes (moves_from s at k) ≡ take (2 * k) (drop at s)
unfolding move_bytes moves_from
read_bytes s b zero at h = refl
read_bytes s b (suc k) at h =
    rw (take_two s at k h)
    (ap₂ ◌∷◌ (omega (arith, b at)) (ap₂ ◌∷◌ (omega (arith, b at)) (read_bytes s b k (at + 2) (omega arith))))

-- bytes of a position's size are those of the position that is read from them exactly if all past the list are 0
module _ (s : List ℕ) (b : AllBytes s) (whole : length s ≡ position_size) where
  abbrev k : ℕ
  k = get_or s length_at 0

  abbrev list : List ℕ
  list = take (2 * k) (drop moves_at s)

  abbrev pub past : List ℕ
  past = drop (moves_at + 2 * get_or s length_at 0) s

  -- the four bytes of the counters, as they stand
  abbrev counters : List ℕ
  counters = get_or s half_at 0 ∷ get_or s (half_at + 1) 0 ∷ get_or s full_at 0 ∷ get_or s (full_at + 1) 0 ∷ []

  in_pieces : s ≡ take record_size s ++ (counters ++ (get_or s check_at 0 ∷ k ∷ (list ++ past)))
  in_pieces =
      let one : drop 68 s ≡ get_or s 68 0 ∷ drop 69 s = drop-cons s 68 0 (omega arith) in
      let two : drop 69 s ≡ get_or s 69 0 ∷ drop 70 s = drop-cons s 69 0 (omega arith) in
      let three : drop 70 s ≡ get_or s 70 0 ∷ drop 71 s = drop-cons s 70 0 (omega arith) in
      let four : drop 71 s ≡ get_or s 71 0 ∷ drop 72 s = drop-cons s 71 0 (omega arith) in
      let behind : drop 68 s ≡ counters ++ drop check_at s = rw (one, two, three, four) refl in
      sym (take-append-drop record_size s)
      ∙ ap (λ (x : List ℕ). take record_size s ++ x)
      (behind
      ∙ ap (λ (x : List ℕ). counters ++ x)
      (drop-cons s check_at 0 (omega arith)
      ∙ ap (λ (x : List ℕ). get_or s check_at 0 ∷ x)
      (drop-cons s length_at 0 (omega arith)
      ∙ ap (λ (x : List ℕ). k ∷ x)
      (sym (take-append-drop (2 * k) (drop moves_at s)) ∙ ap (λ (x : List ℕ). list ++ x) (drop-drop (2 * k) moves_at s)))))

  -- counters that are read are written as they stand
  same_counters : counter_bytes (two_bytes_at s half_at) (two_bytes_at s full_at) ≡ counters
  same_counters =
      let a : low_byte (two_bytes_at s half_at) ≡ get_or s half_at 0 = omega (arith, b half_at) in
      let c : high_byte (two_bytes_at s half_at) ≡ get_or s (half_at + 1) 0 = omega (arith, b half_at) in
      let d : low_byte (two_bytes_at s full_at) ≡ get_or s full_at 0 = omega (arith, b full_at) in
      let e : high_byte (two_bytes_at s full_at) ≡ get_or s (full_at + 1) 0 = omega (arith, b full_at) in
      λ i. a i ∷ c i ∷ d i ∷ e i ∷ []

  written_back : position_bytes (position_of s)
      ≡ take record_size s ++ (counters ++ (get_or s check_at 0 ∷ k ∷ (list ++ replicate (length past) 0)))
  unfolding position_bytes position_of
  written_back =
      let e : length past ≡ 2 * (longest_list - k) = length-drop (moves_at + 2 * k) s ∙ omega (arith, b length_at) in
      let tail : List ℕ = get_or s check_at 0 ∷ k ∷ (list ++ replicate (length past) 0) in
      let read : position_bytes (position_of s) ≡ take record_size s ++ (counter_bytes (two_bytes_at s half_at) (two_bytes_at s full_at) ++ tail) =
      rw (e, length_moves s moves_at k, read_bytes s b k moves_at (omega (arith, b length_at))) in
      read ∙ ap (λ (x : List ℕ). take record_size s ++ (x ++ tail)) same_counters

  same_past : same (get_or s check_at 0 ∷ k ∷ (list ++ past)) (get_or s check_at 0 ∷ k ∷ (list ++ replicate (length past) 0)) ≡ all_at_most 0 past
  unfolding same
  same_past = rw (eq-eqb (get_or s check_at 0) (get_or s check_at 0) refl, eq-eqb k k refl, same_front list past _) (same_zeros past)

  pub known : is_position s ≡ eqb (position_check (position_of s)) 0 && all_at_most 0 past
  unfolding is_position
  known =
      ap (λ (t : Bool). eqb (position_check (position_of s)) 0 && t)
      (ap₂ same in_pieces written_back ∙ same_front (take record_size s) _ _ ∙ same_front counters _ _ ∙ same_past)

  -- with the record and the in-check byte in range, only the list is left to look at
  pub by_its_list : record_fits s ≡ true → get_or s check_at 0 ≤ 1 → is_position s ≡ list_fits s (get_or s length_at 0)
  unfolding position_of list_fits
  by_its_list board check =
      known
      ∙ and_comm (eqb (position_check (position_of s)) 0) (all_at_most 0 past)
      ∙ ap (λ (t : Bool). all_at_most 0 past && t) (by_list (position_of s) board check ∙ read_list_lem s b)

-- the refusals: a position out of range, and another size
pub not_in_range : (s : List ℕ) (n : ℕ) → position_check (position_of s) ≡ suc n → is_position s ≡ false
unfolding is_position
not_in_range s n e = rw (e, eqb-suc-zero n)

pub other_size : (s : List ℕ) → (length s ≡ position_size → ⊥) → is_position s ≡ false
unfolding is_position
other_size s n = go (eqb (position_check (position_of s)) 0) refl
  where
    go : (t : Bool) → eqb (position_check (position_of s)) 0 ≡ t → (t && same s (position_bytes (position_of s))) ≡ false
    go true e =
        let p = position_fits (position_of s) (eqb-true _ _ e) in
        same_lengths s (position_bytes (position_of s)) (λ h. n (h ∙ length_position (position_of s) p.wide p.short))
    go false e = refl

-- the front of a position: without it there is no position, with it only the list is left to look at
module _ (s : List ℕ) where
  pub front_whole : front_fits s ≡ true → length s ≡ position_size
  unfolding front_fits
  front_whole e = eqb-true _ _ (both_left (eqb (length s) position_size) _ e)

  front_board : front_fits s ≡ true → record_fits s ≡ true
  unfolding front_fits
  front_board e = both_left (record_fits s) _ (both_right (eqb (length s) position_size) _ e)

  front_check : front_fits s ≡ true → get_or s check_at 0 ≤ 1
  unfolding front_fits
  front_check e = leb-true _ _ (both_right (record_fits s) _ (both_right (eqb (length s) position_size) _ e))

  pub not_front : front_fits s ≡ false → is_position s ≡ false
  unfolding front_fits position_of
  not_front = go (eqb (length s) position_size) refl (record_fits s) refl (leb (get_or s check_at 0) 1) refl
    where
      go : (a : Bool) → eqb (length s) position_size ≡ a → (b : Bool) → record_fits s ≡ b → (t : Bool) → leb (get_or s check_at 0) 1 ≡ t
          → a && (b && t) ≡ false → is_position s ≡ false
      go false e b f t g h = other_size s (eqb-false _ _ e)
      go true e false f t g h = not_in_range s 4 (bad_board (position_of s) f)
      go true e true f false g h = not_in_range s 4 (bad_check (position_of s) f (leb-false _ _ g))
      go true e true f true g h = absurd (false≢true (sym h))

  pub by_front : AllBytes s → front_fits s ≡ true → is_position s ≡ list_fits s (get_or s length_at 0)
  by_front b e = by_its_list s b (front_whole e) (front_board e) (front_check e)

  pub not_front_with : (m : ℕ) → front_fits s ≡ false → is_position_with s m ≡ false
  unfolding is_position_with
  not_front_with m e = rw (not_front e)

  pub by_front_with : (m : ℕ) → AllBytes s → front_fits s ≡ true → is_position_with s m ≡ list_fits_with s (get_or s length_at 0) m
  unfolding is_position_with list_fits_with lists_move position_of
  by_front_with m b e = ap₂ ◌&&◌ (by_front b e) (ap (λ (t : Bool). t && among m (moves_from s moves_at (get_or s length_at 0))) (eq-eqb _ _ (front_whole e)))

  pub rest_whole : rest_fits s ≡ true → length s ≡ position_size
  rest_whole e = eqb-true _ _ (both_left (eqb (length s) position_size) (leb (get_or s check_at 0) 1) e)

  pub rest_so : (m : ℕ) → rest_fits s ≡ true → list_fits_with s (get_or s length_at 0) m ≡ rest_fits_with s m
  unfolding rest_fits_with
  rest_so m e = rw e

  -- with a record in range, the rest decides whether the bytes are a position that lists a move
  pub by_rest_with : (m : ℕ) → AllBytes s → record_fits s ≡ true → is_position_with s m ≡ rest_fits_with s m
  unfolding rest_fits_with front_fits
  by_rest_with m b r = go (eqb (length s) position_size) refl (leb (get_or s check_at 0) 1) refl
    where
      go : (a : Bool) → eqb (length s) position_size ≡ a → (t : Bool) → leb (get_or s check_at 0) 1 ≡ t
          → is_position_with s m ≡ (a && t) && list_fits_with s (get_or s length_at 0) m
      go true e true f = by_front_with m b (rw (e, f, r))
      go true e false f = not_front_with m (rw (e, f, r))
      go false e t f = not_front_with m (rw e)

  pub no_record : record_fits s ≡ false → is_position s ≡ false
  unfolding position_of
  no_record e = not_in_range s 4 (bad_board (position_of s) e)

-- the rest, where bytes are seen as those of a position
module _ {s p : List ℕ} (e : IsWholeChunk s p position_size) (m : ℕ) where
  pub rest_of : get_or p check_at 0 ≤ 1 → list_fits_with p (get_or p length_at 0) m ≡ rest_fits_with s m
  unfolding rest_fits_with
  rest_of h = rw (e.same) (rw (eq-eqb _ _ e.long, le-leb _ _ (rw e.same at h)))

  pub not_rest : 1 < get_or p check_at 0 → rest_fits_with s m ≡ false
  unfolding rest_fits_with
  not_rest h = rw (eq-eqb _ _ e.long, lt-leb _ _ (rw e.same at h)) refl

-- and the whole, where its record comes first
module _ {s p : List ℕ} (e : IsWholeChunk s p position_size) where
  pub not_record : record_fits p ≡ false → is_position s ≡ false
  unfolding position_of
  not_record h = ap is_position (sym e.same) ∙ not_in_range p 4 (bad_board (position_of p) h)

  pub not_check : record_fits p ≡ true → 1 < get_or p check_at 0 → is_position s ≡ false
  unfolding position_of
  not_check h k = ap is_position (sym e.same) ∙ not_in_range p 4 (bad_check (position_of p) h k)

  pub by_parts : AllBytes s → record_fits p ≡ true → get_or p check_at 0 ≤ 1 → is_position s ≡ list_fits p (get_or p length_at 0)
  by_parts b h k = rw e.same (by_its_list s b e.long (rw e.same at h) (rw e.same at k))
