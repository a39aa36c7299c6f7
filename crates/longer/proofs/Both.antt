-- All that is the same under two limits, for any two in order, and for document 01's and those of the contracts.
-- Assumes nothing.
use native.Mathlib.Omega.{arith}
use Rattle.game_rules.specs.Limits.{limits}
use Rattle.roll_text.proofs.Entries.{reach_five}
use Rattle.longer.specs.TwoLimits.{old_limits}
use Rattle.longer.specs.Promises.{AnyTwoLimits, OldAndNew, OldAreCountable}
use Rattle.longer.proofs.Rolls.{reads_alike, old_rolls_read_alike, old_rolls_written_back, old_rolls_written_anew}
use Rattle.longer.proofs.Rolls.{longer_rolls_are_13, other_rolls_read_alike, writes_alike, longer_games_are_13}
use Rattle.longer.proofs.Logs.{same_games, same_good, starts_alike, logs_alike, longer_logs_are_9}

pub any_two_limits : AnyTwoLimits
any_two_limits L M o =
    record {
      reads = reads_alike L M o;
      old_rolls = old_rolls_read_alike L M o;
      written_back = old_rolls_written_back L M o;
      written_anew = old_rolls_written_anew L M o;
      longer_rolls = longer_rolls_are_13 L M o;
      other_rolls = other_rolls_read_alike L M o;
      writes = writes_alike L M o;
      longer_games = longer_games_are_13 L;
      games = same_games L M o;
      good = same_good L M o;
      starts = starts_alike L M o;
      logs = logs_alike L M o;
      longer_logs = longer_logs_are_9 L;
    }

pub old_and_new : OldAndNew
old_and_new = any_two_limits old_limits limits (record { actions = omega arith; moves = omega arith })

pub old_are_countable : OldAreCountable
old_are_countable = omega (arith, reach_five)
