-- What this crate promises about numbers in decimal, each as a statement that can be read by itself.
-- Assumes nothing.
use Rattle.std.specs.Prelude.{ℕ, ◌+◌, ◌*◌, ◌-◌, ◌^◌, ◌≤◌, ◌<◌, ◌≡◌, List, [], ◌∷◌, length}
use Rattle.answer.specs.Numbers.{number_at}
use Rattle.decimal.specs.Decimal.{decimal}

-- the number that digits say, read from the left behind digits that said v
unfoldable pub value_from : ℕ → List ℕ → ℕ
value_from v [] = v
value_from v (b ∷ bs) = value_from (v * 10 + (b - 48)) bs

abbrev pub value_of : List ℕ → ℕ
value_of s = value_from 0 s

-- a written number reads back
abbrev pub ReadsBack : Type 0
ReadsBack = (n : ℕ) → value_of (decimal n) ≡ n

-- two numbers have two texts
abbrev pub OneTextPerNumber : Type 0
OneTextPerNumber = (m n : ℕ) → decimal m ≡ decimal n → m ≡ n

-- a text of digits, 48 to 57, at least one
pub record DigitsOnly (s : List ℕ) : Type 0 where
  pub some : 0 < length s
  pub least : (i : ℕ) → i < length s → 48 ≤ number_at s i
  pub most : (i : ℕ) → i < length s → number_at s i ≤ 57

abbrev pub Digits : Type 0
Digits = (n : ℕ) → DigitsOnly (decimal n)

-- only 0 begins with a zero
abbrev pub NoNeedlessZero : Type 0
NoNeedlessZero = (n : ℕ) → number_at (decimal n) 0 ≡ 48 → n ≡ 0

-- and there is no other such text: digits without a needless zero are the text of the number that they say
abbrev pub WritesBack : Type 0
WritesBack = (s : List ℕ) → DigitsOnly s → (number_at s 0 ≡ 48 → length s ≡ 1) → decimal (value_of s) ≡ s

-- a number of 64 bits has at most 20 digits
abbrev pub UpTo20 : Type 0
UpTo20 = (n : ℕ) → n < 2 ^ 64 → length (decimal n) ≤ 20
