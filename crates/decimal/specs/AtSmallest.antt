-- Numbers in decimal at the smallest of one, two and three digits and at the largest of one; and two long ones.
-- Assumes nothing.
use Rattle.std.specs.Prelude.{◌≡◌}
use Rattle.answer.specs.Ascii.{ascii}
use Rattle.decimal.specs.Decimal.{decimal}

pub record NumbersAtSmallest : Type 0 where
  pub none : decimal 0 ≡ ascii "0"
  pub nine : decimal 9 ≡ ascii "9"
  pub ten : decimal 10 ≡ ascii "10"
  pub hundred : decimal 100 ≡ ascii "100"

-- the length of the longest line that the program keys reads, and the largest number of 64 bits
pub record NumbersAtLargest : Type 0 where
  pub longest_line : decimal 131071 ≡ ascii "131071"
  pub largest : decimal 18446744073709551615 ≡ ascii "18446744073709551615"
