-- Two long numbers in decimal, each computed with no more digits than it has: with n + 1 of them antt runs out of stack.
-- Assumes nothing.
use lib.Dec.{lit<}
use Rattle.answer.specs.Ascii.{ascii}
use Rattle.decimal.specs.Decimal.{digits}
use Rattle.decimal.specs.AtSmallest.{NumbersAtLargest}
use Rattle.decimal.proofs.Digits.{decimal_in}

pub numbers_at_largest : NumbersAtLargest
unfolding ascii digits
numbers_at_largest = record { longest_line = decimal_in 5 131071 (lit< tt); largest = decimal_in 19 18446744073709551615 (lit< tt) }
