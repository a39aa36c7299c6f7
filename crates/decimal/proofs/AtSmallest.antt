-- Numbers in decimal at their smallest, each row computed.
-- Assumes nothing.
use mathlib.Core.Path.{refl}
use Rattle.answer.specs.Ascii.{ascii}
use Rattle.decimal.specs.Decimal.{digits, decimal}
use Rattle.decimal.specs.AtSmallest.{NumbersAtSmallest}

pub numbers_at_smallest : NumbersAtSmallest
unfolding ascii digits decimal
numbers_at_smallest = record { none = refl; nine = refl; ten = refl; hundred = refl }
