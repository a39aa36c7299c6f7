-- The two counters at their bounds, each row computed.
-- Assumes nothing.
use mathlib.Core.Path.{refl}
use Rattle.answer.specs.Numbers.{all_at_most}
use Rattle.board_builder.specs.BoardBuilder.{in_range}
use Rattle.board_builder.specs.Steps.{step}
use Rattle.board_builder.specs.AtSmallest.{CountersAtBounds, CounterStepsAtBounds}

pub counters_at_bounds : CountersAtBounds
unfolding all_at_most in_range
counters_at_bounds =
    record { clock_least = refl; clock_most = refl; clock_over = refl; number_zero = refl; number_most = refl; number_over = refl }

pub counter_steps_at_bounds : CounterStepsAtBounds
unfolding all_at_most in_range step
counter_steps_at_bounds =
    record {
      half_least = refl;
      half_most = refl;
      half_over = refl;
      half_not_cut = refl;
      full_zero = refl;
      full_least = refl;
      full_most = refl;
      full_over = refl;
      full_not_cut = refl;
    }
