-- A text that is put together in an array, byte by byte, with a count of the bytes so far. For any array.
-- Assumes nothing.
use Rattle.std.specs.Prelude.{ℕ, ◌+◌, ◌≡◌, List, ◌++◌, length, take}

-- the first `r` bytes of `new` are the first `n` of `old`, and then the text
pub record Pushed (old : List ℕ) (n : ℕ) (text : List ℕ) (new : List ℕ) (r : ℕ) : Type 0 where
  pub count : r ≡ n + length text
  pub bytes : take r new ≡ take n old ++ text

-- the same in an array of a given size, which it keeps: an array behind a reference does not tell a proof its length
pub record Put (size : ℕ) (old : List ℕ) (n : ℕ) (text : List ℕ) (new : List ℕ) (r : ℕ) : Type 0 where
  pub pushed : Pushed old n text new r
  pub long : length new ≡ size
