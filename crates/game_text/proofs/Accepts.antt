-- A move that the standard's reader accepts is listed, on a record in range; so the record after it is in range and has a key that fits a room of 85 bytes.
-- Assumes nothing.
use Prim.Native.Nat.{ℕ, ◌≤◌}
use mathlib.Core.Path.{◌≡◌, ap}
use mathlib.Core.Bool.{true}
use mathlib.Core.List.{List}
use native.Mathlib.Omega.{arith}
use lib.ListN.{length}
use borrow.Author.Tests.{le-leb}
use Rattle.answer.specs.declared.Answer.{Answer}
use Rattle.answer.specs.Answer.{accepted, write_answer}
use Rattle.answer.specs.Numbers.{among}
use Rattle.board_builder.specs.declared.BoardBuilder.{BoardBuilder}
use Rattle.board_builder.specs.BoardBuilder.{in_range}
use Rattle.chess_move.specs.Number.{last_move}
use Rattle.fen_text.specs.Write.{fen_text}
use Rattle.fen_text.proofs.Lengths.{fen_long}
use Rattle.move_list.specs.MoveList.{list_in_range}
use Rattle.move_list.proofs.Listed.{listed_in_range}
use Rattle.move_rules.specs.After.{board_after, after_answer}
use Rattle.move_rules.proofs.Ranges.{after_in_range}
use Rattle.san_text.specs.Standard.{standard, from_san_standard}
use Rattle.san_lists.proofs.Fewer.{accepted_so, text_listed}
use Rattle.game_text.specs.Step.{key_answer}

pub record Playable (b : BoardBuilder) (l : List ℕ) (m : ℕ) : Type 0 where
  pub record_in_range : in_range b ≡ true
  pub list_in_range_fact : list_in_range l ≡ true
  pub listed : among m l ≡ true
  pub small : m ≤ last_move
  pub next_in_range : in_range (board_after b m) ≡ true

abbrev answered : ℕ → ℕ → Answer
answered number value = record { number = number; value = value }

pub accepted_playable : (b : BoardBuilder) (l text : List ℕ) → (from_san_standard b l text).number ≡ 0 → Playable b l (from_san_standard b l text).value
accepted_playable b l text e =
    let m = (from_san_standard b l text).value in
    let so = accepted_so standard b l text m (ap (λ (n : ℕ). answered n m) e) in
    let here = text_listed standard b l m (standard.read text) so.resolves in
    let small = listed_in_range m l so.list_in_range_fact here in
    record {
      record_in_range = so.record_in_range;
      list_in_range_fact = so.list_in_range_fact;
      listed = here;
      small = small;
      next_in_range = after_in_range b m so.record_in_range small;
    }

-- the call for the record after a move answers it
pub played_record : (b : BoardBuilder) (l : List ℕ) (m : ℕ) → Playable b l m → (after_answer b m).board ≡ board_after b m
unfolding after_answer
played_record b l m p = rw (p.record_in_range, le-leb _ _ p.small)

-- the key of a record in range fits a room of 85 bytes
pub key_fits : (c : BoardBuilder) (room : ℕ) → in_range c ≡ true → 85 ≤ room → key_answer c room ≡ accepted (length (fen_text c))
unfolding write_answer
key_fits c room e h =
    let long = fen_long c e in
    let short : length (fen_text c) ≤ room = omega (arith, long.1, h) in
    rw (e, le-leb _ _ short)
