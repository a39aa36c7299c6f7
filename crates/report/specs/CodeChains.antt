-- New lines linked by their buckets. A line is new if it counts and is like none before it that counts; a link is a line's number + 1, and 0 is none. For the
-- inner functions; the public contract does not speak of this.
-- Assumes nothing.
use Rattle.std.specs.Prelude.{ℕ, zero, suc, ◌+◌, ◌≤◌, ◌<◌, ◌≡◌, Bool, true, cond, not, ◌&&◌, List, eqb, length, get_or}
use Rattle.report_text.specs.Report.{most_lines}
use Rattle.report_text.specs.Repeats.{found_below}
use Rattle.report.specs.CodeSets.{bucket_count}
use Rattle.report.specs.CodeRooms.{counts_at, alike_in}

abbrev pub is_new : (ℕ → Bool) → (ℕ → ℕ → Bool) → ℕ → Bool
is_new counts alike k = counts k && not (found_below counts alike k k)

-- the last of the first k lines that is new and in bucket b, as a link
unfoldable pub latest : (ℕ → Bool) → (ℕ → ℕ → Bool) → (ℕ → ℕ) → ℕ → ℕ → ℕ
latest counts alike bucket b zero = 0
latest counts alike bucket b (suc k) = cond (is_new counts alike k && eqb (bucket k) b) (k + 1) (latest counts alike bucket b k)

-- each link leads to an earlier line
abbrev pub Falling : List ℕ → Type 0
Falling next = (j : ℕ) → get_or next j 0 ≤ j

-- from line i's first link on, the links lead through all new lines before it of its bucket
pub record Chained (counts : ℕ → Bool) (alike : ℕ → ℕ → Bool) (bucket : ℕ → ℕ) (next : List ℕ) (from i : ℕ) : Type 0 where
  pub begins : from ≡ latest counts alike bucket (bucket i) i
  pub goes_on : (j : ℕ) → j < i → is_new counts alike j ≡ true → get_or next j 0 ≡ latest counts alike bucket (bucket j) j
  pub one_bucket : (j : ℕ) → j < i → counts j ≡ true → alike j i ≡ true → bucket j ≡ bucket i

-- the bucket of a line in a list
abbrev pub bucket_in : List ℕ → ℕ → ℕ
bucket_in buckets k = get_or buckets k 0

-- the first k lines are linked
pub record Linked (records told buckets heads next : List ℕ) (k : ℕ) : Type 0 where
  pub heads_long : length heads ≡ bucket_count
  pub next_long : length next ≡ most_lines
  pub heads_latest : (b : ℕ) → b < bucket_count → get_or heads b 0 ≡ latest (counts_at told) (alike_in records) (bucket_in buckets) b k
  pub goes_on : (j : ℕ) → j < k → is_new (counts_at told) (alike_in records) j ≡ true
      → get_or next j 0 ≡ latest (counts_at told) (alike_in records) (bucket_in buckets) (bucket_in buckets j) j
  pub falls : Falling next
