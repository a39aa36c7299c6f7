-- How the code counts men and puts records into buckets. For its inner functions; the public contract does not speak of this.
-- Assumes nothing.
use Rattle.std.specs.Prelude.{ℕ, zero, suc, ◌+◌, ◌-◌, ◌*◌, ◌/◌, ◌%◌, ◌^◌, ◌<◌, ◌≡◌, List, [], ◌∷◌, ◌++◌, length, take, get_or}
use Rattle.std.specs.Int.Bits.{bit_and, bit_or, bit_xor}
use Rattle.board_builder.specs.BoardBuilder.{squares}
use Rattle.report_text.specs.Report.{squares_with, twelve}
use Rattle.report_text.specs.Sets.{set_of}
use Rattle.report.specs.declared.sets.Planes.{Planes}
use Rattle.report.specs.declared.sets.Quarters.{Quarters}

-- a board's squares file by file, each file from its first rank on: in this order the code has them in its sets
abbrev pub of_file : List ℕ → ℕ → List ℕ
of_file xs j =
    get_or xs j 0 ∷ get_or xs (j + 8) 0 ∷ get_or xs (j + 16) 0 ∷ get_or xs (j + 24) 0 ∷ get_or xs (j + 32) 0 ∷ get_or xs (j + 40) 0 ∷ get_or xs (j + 48) 0
    ∷ get_or xs (j + 56) 0 ∷ []

unfoldable pub by_files : List ℕ → List ℕ
by_files xs = of_file xs 0 ++ (of_file xs 1 ++ (of_file xs 2 ++ (of_file xs 3 ++ (of_file xs 4 ++ (of_file xs 5 ++ (of_file xs 6 ++ of_file xs 7))))))

-- a bit for each square, the first square's the lowest
unfoldable pub bits_of : (ℕ → ℕ) → List ℕ → ℕ
bits_of f [] = 0
bits_of f (x ∷ xs) = f x + 2 * bits_of f xs

-- the squares whose codes have the bit of this value
abbrev pub plane_of : ℕ → List ℕ → ℕ
plane_of value xs = bits_of (λ (x : ℕ). x / value % 2) xs

abbrev pub planes_of : List ℕ → Planes
planes_of xs = record { one = plane_of 1 xs; two = plane_of 2 xs; four = plane_of 4 xs; eight = plane_of 8 xs }

-- the sets of the twelve kinds
abbrev pub kind_sets : List ℕ → List ℕ
kind_sets xs = twelve (λ (code : ℕ). set_of code xs)

-- ---- as the code comes to them

-- codes as bytes: four, a rank's eight, and a rank's with the fourth one's behind it in the bytes' upper halves
abbrev pub bytes_at : List ℕ → ℕ → ℕ
bytes_at xs at = get_or xs at 0 + 256 * (get_or xs (at + 1) 0 + 256 * (get_or xs (at + 2) 0 + 256 * get_or xs (at + 3) 0))

abbrev pub rank_at : List ℕ → ℕ → ℕ
rank_at xs at = bytes_at xs at + 2 ^ 32 * bytes_at xs (at + 4)

abbrev pub ranks_at : List ℕ → ℕ → ℕ
ranks_at xs at = rank_at xs at + 16 * rank_at xs (at + 32)

-- the lowest bits of n half bytes; those of a word's sixteen
unfoldable pub lowest_of : ℕ → ℕ
lowest_of zero = 0
lowest_of (suc n) = 1 + 16 * lowest_of n

abbrev pub lowest_bits : ℕ → ℕ
lowest_bits word = bit_and word (lowest_of 16)

abbrev pub plane_from : ℕ → ℕ → ℕ → ℕ → ℕ
plane_from a b c d = lowest_bits a + 2 * lowest_bits b + 4 * lowest_bits c + 8 * lowest_bits d

-- all squares, by whether they are in the one set and in the other
abbrev pub quarters_of : ℕ → ℕ → Quarters
quarters_of a b = record { none = 2 ^ 64 - 1 - bit_or a b; first = a - bit_and a b; second = b - bit_and a b; both = bit_and a b }

-- the men of some squares added to twelve sums
pub record Added (xs before after : List ℕ) : Type 0 where
  pub long : length after ≡ 12
  pub each : (k : ℕ) → k < 12 → get_or after k 0 ≡ get_or before k 0 + squares_with (k + 1) xs

-- ---- buckets

-- a set mixed into what came before
unfoldable pub mixed : ℕ → ℕ → ℕ
mixed h x = bit_xor (bit_xor (h * 2 ^ 7 % 2 ^ 64) (h / 2 ^ 57)) x

abbrev pub bucket_count : ℕ
bucket_count = 4093

unfoldable pub plane_bucket : ℕ → Planes → ℕ
plane_bucket seed p = mixed (mixed (mixed (mixed seed p.one) p.two) p.four) p.eight % bucket_count

-- what a record's bucket starts from: its four other numbers
abbrev pub seed_of : List ℕ → ℕ
seed_of r = bytes_at r 64

unfoldable pub bucket_of : List ℕ → ℕ
bucket_of r = plane_bucket (seed_of r) (planes_of (by_files (take squares r)))
