-- A position in range has 584 bytes, which read back to it, and no other bytes stand for it.
-- Assumes nothing.
use mathlib.Core.Path.{◌≡◌, refl, ap, ap₂, sym, ◌∙◌}
use mathlib.Core.List.{List, [], ◌∷◌, ◌++◌}
use Prim.Native.Nat.{ℕ, ◌+◌, ◌*◌, ◌-◌}
use native.Mathlib.Omega.{arith}
use lib.Dec.{eqb}
use lib.ListN.{length, take, drop, get_or, replicate}
use lib.Seq.{take_at, drop_at, get_or-drop, drop-drop}
use borrow.Author.Tests.{eqb-true}
use Rattle.answer.specs.Numbers.{same}
use Rattle.answer.proofs.Numbers.{both_left, both_right}
use Rattle.answer.proofs.Same.{same_eq, same_refl}
use Rattle.answer.proofs.Writes.{accepted_writes_its_text, check_passed}
use Rattle.board_builder.specs.BoardBuilder.{record_size}
use Rattle.chess_move.specs.Number.{low_byte, high_byte, of_bytes}
use Rattle.move_list.specs.MoveList.{longest_list}
use Rattle.position.specs.Layout.{Position, half_at, full_at, check_at, length_at, moves_at, two_bytes_at, moves_from, position_of}
use Rattle.stored_position.specs.Bytes.{move_bytes, counter_bytes, position_bytes, position_check, is_position}
use Rattle.stored_position.proofs.Bytes.{length_position}
use Rattle.stored_position.proofs.Checks.{Fits, position_fits}
use Rattle.stored_position.specs.Promises.{OneSize, PositionsReadBack, WrittenIsPosition, OnePositionForm}

split : (m : ℕ) → of_bytes (low_byte m) (high_byte m) ≡ m
split m = omega arith

-- a list of moves reads back from wherever its bytes begin
pub moves_round : (ms ys l : List ℕ) (at : ℕ) → drop at l ≡ move_bytes ms ++ ys → moves_from l at (length ms) ≡ ms
unfolding moves_from move_bytes
moves_round [] ys l at h = refl
moves_round (m ∷ ms) ys l at h =
    ap₂ ◌∷◌
    (ap₂ of_bytes
    (ap (λ (n : ℕ). get_or l n 0) (omega arith) ∙ sym (get_or-drop at l 0 0) ∙ ap (λ (d : List ℕ). get_or d 0 0) h)
    (sym (get_or-drop at l 1 0) ∙ ap (λ (d : List ℕ). get_or d 1 0) h)
    ∙ split m)
    (moves_round ms ys l (at + 2) (sym (drop-drop 2 at l) ∙ ap (drop 2) h))

module _ (p : Position) (wide : length p.board ≡ record_size) where
  behind : List ℕ
  behind = move_bytes p.moves ++ replicate (2 * (longest_list - length p.moves)) 0

  read_board : take record_size (position_bytes p) ≡ p.board
  unfolding position_bytes
  read_board = take_at p.board _ record_size wide

  from_counters : drop record_size (position_bytes p) ≡ counter_bytes p.half p.full ++ (p.check ∷ length p.moves ∷ behind)
  unfolding position_bytes behind
  from_counters = drop_at p.board _ record_size wide

  -- the byte so far behind the 68
  at_counters : (k : ℕ) → get_or (position_bytes p) (record_size + k) 0 ≡ get_or (counter_bytes p.half p.full ++ (p.check ∷ length p.moves ∷ behind)) k 0
  at_counters k = sym (get_or-drop record_size (position_bytes p) k 0) ∙ ap (λ (d : List ℕ). get_or d k 0) from_counters

  wide_round : position_of (position_bytes p) ≡ p
  unfolding position_of behind
  wide_round =
      let h : two_bytes_at (position_bytes p) half_at ≡ p.half = ap₂ of_bytes (at_counters 0) (at_counters 1) ∙ split p.half in
      let f : two_bytes_at (position_bytes p) full_at ≡ p.full = ap₂ of_bytes (at_counters 2) (at_counters 3) ∙ split p.full in
      let a : get_or (position_bytes p) check_at 0 ≡ p.check = at_counters 4 in
      let b : get_or (position_bytes p) length_at 0 ≡ length p.moves = at_counters 5 in
      let d : drop moves_at (position_bytes p) ≡ behind = sym (drop-drop 6 record_size (position_bytes p)) ∙ ap (drop 6) from_counters in
      let m : moves_from (position_bytes p) moves_at (get_or (position_bytes p) length_at 0) ≡ p.moves =
      rw b (moves_round p.moves _ (position_bytes p) moves_at d) in
      λ i. record { board = read_board i; half = h i; full = f i; check = a i; moves = m i }

-- a position in range reads back from its bytes
pub position_round : (p : Position) → position_check p ≡ 0 → position_of (position_bytes p) ≡ p
position_round p h = wide_round p (position_fits p h).wide

pub one_size : OneSize
one_size p h = let f : Fits p = position_fits p h in length_position p f.wide f.short

pub positions_read_back : PositionsReadBack
positions_read_back p out h =
    let k : position_check p ≡ 0 = check_passed (position_check p) (position_bytes p) (length out) h in
    let w = (accepted_writes_its_text (position_check p) (position_bytes p) out h).front in
    ap position_of (rw (one_size p k) at w) ∙ position_round p k

pub written_is_position : WrittenIsPosition
unfolding is_position
written_is_position p h = rw (position_round p h, h) (same_refl (position_bytes p))

pub one_position_form : OnePositionForm
unfolding is_position
one_position_form s h = (
  eqb-true _ _ (both_left (eqb (position_check (position_of s)) 0) (same s (position_bytes (position_of s))) h),
  same_eq _ _ (both_right (eqb (position_check (position_of s)) 0) (same s (position_bytes (position_of s))) h),
)
