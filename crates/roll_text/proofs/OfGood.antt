-- A good log can be written as a roll.
-- Assumes nothing.
use mathlib.Core.Path.{◌≡◌, refl, ap, ap₂}
use mathlib.Core.Bool.{Bool, true, false, ◌&&◌}
use mathlib.Core.List.{List}
use Prim.Native.Nat.{ℕ, zero, suc}
use native.Mathlib.Omega.{arith}
use lib.Dec.{eqb, leb}
use lib.ListN.{length}
use borrow.Author.Tests.{leb-true, eqb-true}
use Rattle.answer.specs.Parts.{item}
use Rattle.answer.specs.Numbers.{same}
use Rattle.answer.proofs.Numbers.{both_left, both_right}
use Rattle.board_builder.specs.BoardBuilder.{counters_in_range, in_range, numbers_in_range, board_of, with_counters}
use Rattle.actions.specs.Part.{is_held, actions_held}
use Rattle.position.specs.Layout.{Position, position_size, position_at, position_of}
use Rattle.stored_position.specs.Bytes.{position_bytes, position_check, record_good, is_position}
use Rattle.stored_position.proofs.Checks.{bad_board}
use Rattle.game_rules.specs.Limits.{Limits, actions_length, positions_length}
use Rattle.game_rules.specs.Good.{sound, next_sound}
use Rattle.game_rules.proofs.Checks.{actions_most, moves_most}
use Rattle.game_rules.proofs.Decide.{holding_reads}
use Rattle.game_rules.proofs.Log.{sound_held}
use Rattle.roll_text.specs.Promises.{GoodIsWritable}
use Rattle.roll_text.proofs.WritesBack.{board_in_range}

-- each action of a sound log is one
sound_all_held : (L : Limits) (acts ps : List ℕ) (n : ℕ) → sound L acts ps n ≡ true → actions_held acts n ≡ true
unfolding sound actions_held
sound_all_held L acts ps zero e = refl
sound_all_held L acts ps (suc i) e =
    ap₂ ◌&&◌ (sound_all_held L acts ps i (both_left (sound L acts ps i) (next_sound L acts ps i) e))
    (ap is_held (sound_held L acts ps i (both_right (sound L acts ps i) (next_sound L acts ps i) e)))

-- its start is a position
sound_start : (L : Limits) (acts ps : List ℕ) (n : ℕ) → sound L acts ps n ≡ true → is_position (item position_size ps 0) ≡ true
unfolding sound
sound_start L acts ps zero e = e
sound_start L acts ps (suc i) e = sound_start L acts ps i (both_left (sound L acts ps i) (next_sound L acts ps i) e)

start_passes : (s : List ℕ) → is_position s ≡ true → position_check (position_of s) ≡ 0
unfolding is_position
start_passes s e = eqb-true (position_check (position_of s)) 0 (both_left (eqb (position_check (position_of s)) 0) (same s (position_bytes (position_of s))) e)

passes_in_range : (p : Position) → position_check p ≡ 0 → record_good p ≡ true
passes_in_range p e = by (record_good p) refl
  where
    by : (t : Bool) → record_good p ≡ t → record_good p ≡ true
    by true f = f
    by false f = absurd (omega (arith, bad_board p f, e))

good_in_range : (p : Position) → record_good p ≡ true → in_range (with_counters (board_of p.board) p.half p.full) ≡ true
good_in_range p e =
    board_in_range p.board p.half p.full
    (both_left (counters_in_range p.half p.full) (numbers_in_range p.board) e)
    (both_right (counters_in_range p.half p.full) (numbers_in_range p.board) e)

pub good_is_writable : GoodIsWritable
good_is_writable L acts ps n m long (h, a, g) =
    let r = holding_reads L acts ps n m h a g in
    let first = sound_start L acts ps n r.ok in
    record {
      start = good_in_range (position_at ps 0) (passes_in_range (position_at ps 0) (start_passes (item position_size ps 0) first));
      long = leb-true _ _ (both_left (leb (actions_length L) (length acts)) (leb (positions_length L) (length ps)) long);
      few = omega (arith, g.action_count, actions_most L h a);
      few_moves = omega (arith, r.count, g.move_count, moves_most L h a);
      held = sound_all_held L acts ps n r.ok;
    }
