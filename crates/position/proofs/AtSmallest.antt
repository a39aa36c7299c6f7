-- When two positions are equal, and where their bytes have the counters, at their smallest, each row computed.
-- Assumes nothing.
use mathlib.Core.Path.{refl}
use Rattle.answer.specs.Numbers.{same}
use Rattle.position.specs.Layout.{position_of}
use Rattle.position.specs.Repeats.{equal, times}
use Rattle.position.specs.AtSmallest.{EqualAtSmallest, BytesHold}

pub equal_at_smallest : EqualAtSmallest
unfolding same equal times
equal_at_smallest = record { itself = refl; other_clock = refl; other_number = refl; other_board = refl; other_order = refl; repeated = refl }

pub bytes_hold : BytesHold
unfolding position_of
bytes_hold = record { half = refl; full = refl; size = refl }
