-- Sets of squares by the bits of the squares' codes: words of bits, one per square, joined and parted; and the four planes as the code gathers them.
-- Assumes nothing.
use mathlib.Core.Path.{◌≡◌, refl, ap, ap₂, sym, ◌∙◌}
use mathlib.Core.Bool.{true}
use mathlib.Core.List.{List, [], ◌∷◌}
use Prim.Native.Nat.{ℕ, zero, suc, ◌+◌, ◌-◌, ◌*◌, ◌/◌, ◌%◌, ◌^◌, ◌≤◌, ◌<◌, min, max, zero-le}
use native.Mathlib.Nat.{pow-suc, min-le_left, min-le_right, max-le}
use native.Mathlib.Omega.{arith}
use lib.Bits.{bit_and, bit_or, and_step, or_step, and_zero_r, and_block, and_mask, and_le_r}
use lib.Dec.{T, eqb, eqb→eq}
use lib.ListN.{length, get_or}
use Rattle.answer.specs.Numbers.{all_at_most}
use Rattle.answer.proofs.Below.{every, below}
use Rattle.answer.proofs.Bounds.{bound_at}
use Rattle.answer.proofs.Numbers.{most_head, most_tail, most_cons}
use Rattle.board_builder.specs.BoardBuilder.{squares}
use Rattle.report_text.specs.Report.{one, squares_with}
use Rattle.report_text.specs.Sets.{set_of}
use Rattle.report.specs.declared.sets.Planes.{Planes}
use Rattle.report.specs.declared.sets.Quarters.{Quarters}
use Rattle.report.specs.CodeSets.{by_files, bits_of, plane_of, planes_of, kind_sets, rank_at, ranks_at, lowest_of, lowest_bits, plane_from, quarters_of}

-- ---- words of bits

-- a bit for each number
abbrev Bits : (ℕ → ℕ) → Type 0
Bits f = (x : ℕ) → f x ≤ 1

set_bits : (code : ℕ) (xs : List ℕ) → set_of code xs ≡ bits_of (λ (x : ℕ). one (eqb x code)) xs
unfolding set_of bits_of
set_bits code [] = refl
set_bits code (x ∷ xs) = ap (λ (n : ℕ). one (eqb x code) + 2 * n) (set_bits code xs)

-- where they are the same for each code
same_bits : (f g : ℕ → ℕ) → ((x : ℕ) → x ≤ 12 → f x ≡ g x) → (xs : List ℕ) → all_at_most 12 xs ≡ true → bits_of f xs ≡ bits_of g xs
unfolding bits_of
same_bits f g e [] codes = refl
same_bits f g e (x ∷ xs) codes =
    ap₂ (λ (m n : ℕ). m + 2 * n) (e x (most_head 12 x xs codes)) (same_bits f g e xs (most_tail 12 x xs codes))

-- the lowest bit and the others
low : (b n : ℕ) → b ≤ 1 → (b + 2 * n) % 2 ≡ b
low b n h = omega arith

others : (b n : ℕ) → b ≤ 1 → (b + 2 * n) / 2 ≡ n
others b n h = omega arith

module _ (f g : ℕ → ℕ) (bits : Bits f) (bits' : Bits g) where
  and_bits : (xs : List ℕ) → bit_and (bits_of f xs) (bits_of g xs) ≡ bits_of (λ (x : ℕ). min (f x) (g x)) xs
  unfolding bits_of
  and_bits [] = refl
  and_bits (x ∷ xs) =
      let a = bits_of f xs in
      let b = bits_of g xs in
      let lows : min ((f x + 2 * a) % 2) ((g x + 2 * b) % 2) ≡ min (f x) (g x) = ap₂ min (low (f x) a (bits x)) (low (g x) b (bits' x)) in
      let rest : bit_and ((f x + 2 * a) / 2) ((g x + 2 * b) / 2) ≡ bits_of (λ (y : ℕ). min (f y) (g y)) xs =
      ap₂ bit_and (others (f x) a (bits x)) (others (g x) b (bits' x)) ∙ and_bits xs in
      and_step (f x + 2 * a) (g x + 2 * b) ∙ omega (arith, lows, rest)

  or_bits : (xs : List ℕ) → bit_or (bits_of f xs) (bits_of g xs) ≡ bits_of (λ (x : ℕ). max (f x) (g x)) xs
  unfolding bits_of
  or_bits [] = refl
  or_bits (x ∷ xs) =
      let a = bits_of f xs in
      let b = bits_of g xs in
      let lows : max ((f x + 2 * a) % 2) ((g x + 2 * b) % 2) ≡ max (f x) (g x) = ap₂ max (low (f x) a (bits x)) (low (g x) b (bits' x)) in
      let rest : bit_or ((f x + 2 * a) / 2) ((g x + 2 * b) / 2) ≡ bits_of (λ (y : ℕ). max (f y) (g y)) xs =
      ap₂ bit_or (others (f x) a (bits x)) (others (g x) b (bits' x)) ∙ or_bits xs in
      or_step (f x + 2 * a) (g x + 2 * b) ∙ omega (arith, lows, rest)

-- what is in the one and not in the other, where that is in the one
less_bits : (f g : ℕ → ℕ) → ((x : ℕ) → g x ≤ f x) → (xs : List ℕ)
    → (bits_of g xs ≤ bits_of f xs) × (bits_of f xs - bits_of g xs ≡ bits_of (λ (x : ℕ). f x - g x) xs)
unfolding bits_of
less_bits f g within [] = (zero-le, refl)
less_bits f g within (x ∷ xs) =
    let here = within x in
    let rest = less_bits f g within xs in
    (omega (arith, rest.0), omega (arith, rest.0, rest.1))

all_bits : (xs : List ℕ) → bits_of (λ (x : ℕ). 1) xs ≡ 2 ^ length xs - 1
unfolding bits_of
all_bits [] = refl
all_bits (x ∷ xs) = rw pow-suc (omega (arith, all_bits xs, positive (length xs)))
  where
    positive : (n : ℕ) → 1 ≤ 2 ^ n
    positive zero = omega arith
    positive (suc n) = rw pow-suc (omega (arith, positive n))

-- ---- parted by two of them

abbrev none_of : (ℕ → ℕ) → (ℕ → ℕ) → ℕ → ℕ
none_of f g x = 1 - max (f x) (g x)

abbrev first_of : (ℕ → ℕ) → (ℕ → ℕ) → ℕ → ℕ
first_of f g x = f x - min (f x) (g x)

abbrev second_of : (ℕ → ℕ) → (ℕ → ℕ) → ℕ → ℕ
second_of f g x = g x - min (f x) (g x)

abbrev both_of : (ℕ → ℕ) → (ℕ → ℕ) → ℕ → ℕ
both_of f g x = min (f x) (g x)

module _ (f g : ℕ → ℕ) (bits : Bits f) (bits' : Bits g) where
  none_bits : Bits (none_of f g)
  none_bits x = omega arith

  first_bits : Bits (first_of f g)
  first_bits x = omega (arith, bits x)

  second_bits : Bits (second_of f g)
  second_bits x = omega (arith, bits' x)

  both_bits : Bits (both_of f g)
  both_bits x = omega (arith, bits x, min-le_left (f x) (g x))

  module _ (xs : List ℕ) (long : length xs ≡ squares) where
    parted_none : 2 ^ 64 - 1 - bit_or (bits_of f xs) (bits_of g xs) ≡ bits_of (none_of f g) xs
    parted_none =
        let most : (x : ℕ) → max (f x) (g x) ≤ 1 = λ x. max-le (bits x) (bits' x) in
        let whole : bits_of (λ (x : ℕ). 1) xs ≡ 2 ^ 64 - 1 = all_bits xs ∙ ap (λ (n : ℕ). 2 ^ n - 1) long in
        ap₂ ◌-◌ (sym whole) (or_bits f g bits bits' xs) ∙ (less_bits (λ (x : ℕ). 1) (λ (x : ℕ). max (f x) (g x)) most xs).1

    parted_first : bits_of f xs - bit_and (bits_of f xs) (bits_of g xs) ≡ bits_of (first_of f g) xs
    parted_first = ap (λ (n : ℕ). bits_of f xs - n) (and_bits f g bits bits' xs) ∙ (less_bits f (both_of f g) (λ x. min-le_left (f x) (g x)) xs).1

    parted_second : bits_of g xs - bit_and (bits_of f xs) (bits_of g xs) ≡ bits_of (second_of f g) xs
    parted_second = ap (λ (n : ℕ). bits_of g xs - n) (and_bits f g bits bits' xs) ∙ (less_bits g (both_of f g) (λ x. min-le_right (f x) (g x)) xs).1

    parted_are : quarters_of (bits_of f xs) (bits_of g xs)
        ≡ record { none = bits_of (none_of f g) xs; first = bits_of (first_of f g) xs; second = bits_of (second_of f g) xs; both = bits_of (both_of f g) xs }
    parted_are =
        λ i. record { none = parted_none i; first = parted_first i; second = parted_second i; both = and_bits f g bits bits' xs i }

-- ---- the twelve sets

-- a code's bit of this value
abbrev bit_of : ℕ → ℕ → ℕ
bit_of value x = x / value % 2

bit_most : (value : ℕ) → Bits (bit_of value)
bit_most value x = omega arith

-- what is in both sets has a kind's code, and nothing else has it
abbrev Makes : (ℕ → ℕ) → (ℕ → ℕ) → ℕ → Type 0
Makes f g code = T (every (λ (x : ℕ). eqb (min (f x) (g x)) (one (eqb x code))) 13)

module _ (xs : List ℕ) (codes : all_at_most 12 xs ≡ true) where
  kind_set : (f g : ℕ → ℕ) (code : ℕ) → Bits f → Bits g → Makes f g code → bit_and (bits_of f xs) (bits_of g xs) ≡ set_of code xs
  kind_set f g code bits bits' makes =
      let at_code = below (λ (x : ℕ). eqb (min (f x) (g x)) (one (eqb x code))) 13 makes in
      and_bits f g bits bits' xs
      ∙ same_bits (λ (x : ℕ). min (f x) (g x)) (λ (x : ℕ). one (eqb x code)) (λ x h. eqb→eq _ _ (at_code x (omega arith))) xs codes
      ∙ sym (set_bits code xs)

-- the sets in common to a quarter by the two lower bits and a quarter by the two upper ones
abbrev pub crossed : Quarters → Quarters → List ℕ
crossed low high =
    bit_and high.none low.first ∷ bit_and high.none low.second ∷ bit_and high.none low.both
    ∷ bit_and high.first low.none ∷ bit_and high.first low.first ∷ bit_and high.first low.second ∷ bit_and high.first low.both
    ∷ bit_and high.second low.none ∷ bit_and high.second low.first ∷ bit_and high.second low.second ∷ bit_and high.second low.both
    ∷ bit_and high.both low.none ∷ []

module _ (xs : List ℕ) (long : length xs ≡ squares) (codes : all_at_most 12 xs ≡ true) where
  crossed_are : crossed (quarters_of (plane_of 1 xs) (plane_of 2 xs)) (quarters_of (plane_of 4 xs) (plane_of 8 xs)) ≡ kind_sets xs
  crossed_are =
      let b1 = bit_most 1 in
      let b2 = bit_most 2 in
      let b4 = bit_most 4 in
      let b8 = bit_most 8 in
      let ln = none_bits (bit_of 1) (bit_of 2) b1 b2 in
      let lf = first_bits (bit_of 1) (bit_of 2) b1 b2 in
      let ls = second_bits (bit_of 1) (bit_of 2) b1 b2 in
      let lb = both_bits (bit_of 1) (bit_of 2) b1 b2 in
      let hn = none_bits (bit_of 4) (bit_of 8) b4 b8 in
      let hf = first_bits (bit_of 4) (bit_of 8) b4 b8 in
      let hs = second_bits (bit_of 4) (bit_of 8) b4 b8 in
      let hb = both_bits (bit_of 4) (bit_of 8) b4 b8 in
      let set = kind_set xs codes in
      ap₂ crossed (parted_are (bit_of 1) (bit_of 2) b1 b2 xs long) (parted_are (bit_of 4) (bit_of 8) b4 b8 xs long)
      ∙ (λ i. set _ _ 1 hn lf tt i ∷ set _ _ 2 hn ls tt i ∷ set _ _ 3 hn lb tt i ∷ set _ _ 4 hf ln tt i ∷ set _ _ 5 hf lf tt i ∷ set _ _ 6 hf ls tt i
      ∷ set _ _ 7 hf lb tt i ∷ set _ _ 8 hs ln tt i ∷ set _ _ 9 hs lf tt i ∷ set _ _ 10 hs ls tt i ∷ set _ _ 11 hs lb tt i ∷ set _ _ 12 hb ln tt i ∷ [])

  pub sets_are : {p : Planes} {low high : Quarters} → p ≡ planes_of xs → low ≡ quarters_of p.one p.two → high ≡ quarters_of p.four p.eight
      → crossed low high ≡ kind_sets xs
  sets_are e l h =
      ap₂ crossed (l ∙ ap (λ (q : Planes). quarters_of q.one q.two) e) (h ∙ ap (λ (q : Planes). quarters_of q.four q.eight) e) ∙ crossed_are

-- ---- the planes as the code gathers them

-- n half bytes from the i-th on
unfoldable word : (ℕ → ℕ) → ℕ → ℕ → ℕ
word f i zero = 0
word f i (suc n) = f i + 16 * word f (suc i) n

-- the half bytes of four words in turn
unfoldable dealt : (ℕ → ℕ) → (ℕ → ℕ) → (ℕ → ℕ) → (ℕ → ℕ) → ℕ → ℕ → List ℕ
dealt a b c d i zero = []
dealt a b c d i (suc n) = a i ∷ b i ∷ c i ∷ d i ∷ dealt a b c d (suc i) n

-- the lowest half byte's lowest bit, and those of the others
lowest_next : (y q r m : ℕ) → y ≡ q * 16 + r → r < 16 → bit_and y (1 + 16 * m) ≡ r % 2 + 16 * bit_and q m
lowest_next y q r m e h =
    let mask : 1 + 16 * m ≡ m * 2 ^ 4 + 1 = omega arith in
    let bit : bit_and r 1 ≡ r % 2 = and_mask r 1 in
    ap₂ bit_and e mask ∙ and_block 4 q m r 1 h (omega arith) ∙ omega (arith, bit)

-- a word moved by some bits has this bit of a code lowest in the code's half byte
pub record Lowers (value x n : ℕ) : Type 0 where
  pub left : ℕ
  pub parts : (x + 16 * n) / value ≡ n / value * 16 + left
  pub small : left < 16
  pub bit : left % 2 ≡ x / value % 2

lowers_1 : (x n : ℕ) → x < 16 → Lowers 1 x n
lowers_1 x n h = record { left = x; parts = omega arith; small = h; bit = omega arith }

lowers_2 : (x n : ℕ) → x < 16 → Lowers 2 x n
lowers_2 x n h = record { left = (x + 16 * n) / 2 % 16; parts = omega arith; small = omega arith; bit = omega arith }

lowers_4 : (x n : ℕ) → x < 16 → Lowers 4 x n
lowers_4 x n h = record { left = (x + 16 * n) / 4 % 16; parts = omega arith; small = omega arith; bit = omega arith }

lowers_8 : (x n : ℕ) → x < 16 → Lowers 8 x n
lowers_8 x n h = record { left = (x + 16 * n) / 8 % 16; parts = omega arith; small = omega arith; bit = omega arith }

-- the lowest bits of n half bytes of a word that is moved
abbrev moved : ℕ → ℕ → ℕ → ℕ
moved value n w = bit_and (w / value) (lowest_of n)

module _ (value : ℕ) (lowers : (x n : ℕ) → x < 16 → Lowers value x n) where
  moved_next : (f : ℕ → ℕ) → ((i : ℕ) → f i ≤ 12) → (i n : ℕ)
      → moved value (suc n) (word f i (suc n)) ≡ f i / value % 2 + 16 * moved value n (word f (suc i) n)
  unfolding word lowest_of
  moved_next f most i n =
      let here = lowers (f i) (word f (suc i) n) (omega (arith, most i)) in
      lowest_next ((f i + 16 * word f (suc i) n) / value) (word f (suc i) n / value) here.left (lowest_of n) here.parts here.small
      ∙ ap (λ (b : ℕ). b + 16 * moved value n (word f (suc i) n)) here.bit

  module _ (a b c d : ℕ → ℕ) (mosta : (i : ℕ) → a i ≤ 12) (mostb : (i : ℕ) → b i ≤ 12) (mostc : (i : ℕ) → c i ≤ 12) (mostd : (i : ℕ) → d i ≤ 12) where
    plane_dealt : (n i : ℕ) → moved value n (word a i n) + 2 * moved value n (word b i n) + 4 * moved value n (word c i n) + 8 * moved value n (word d i n)
        ≡ plane_of value (dealt a b c d i n)
    unfolding dealt bits_of lowest_of
    plane_dealt zero i =
        let none : (f : ℕ → ℕ) → moved value 0 (word f i 0) ≡ 0 = λ f. and_zero_r (word f i 0 / value) in
        omega (arith, none a, none b, none c, none d)
    plane_dealt (suc n) i =
        omega (arith, moved_next a mosta i n, moved_next b mostb i n, moved_next c mostc i n, moved_next d mostd i n, plane_dealt n (suc i))

-- the i-th half byte of the word of two ranks: of the file i / 2
abbrev half : List ℕ → ℕ → ℕ → ℕ
half xs at i = get_or xs (at + (i / 2 + 32 * (i % 2))) 0

module _ (xs : List ℕ) where
  word_0 : ranks_at xs 0 ≡ word (half xs 0) 0 16
  unfolding word
  word_0 = omega arith

  word_8 : ranks_at xs 8 ≡ word (half xs 8) 0 16
  unfolding word
  word_8 = omega arith

  word_16 : ranks_at xs 16 ≡ word (half xs 16) 0 16
  unfolding word
  word_16 = omega arith

  word_24 : ranks_at xs 24 ≡ word (half xs 24) 0 16
  unfolding word
  word_24 = omega arith

  dealt_by_files : dealt (half xs 0) (half xs 8) (half xs 16) (half xs 24) 0 16 ≡ by_files xs
  unfolding dealt by_files
  dealt_by_files = refl

  module _ (codes : all_at_most 12 xs ≡ true) where
    half_most : (at i : ℕ) → half xs at i ≤ 12
    half_most at i = bound_at 12 xs (at + (i / 2 + 32 * (i % 2))) codes

    -- the plane of a bit, from the four words moved by as much
    gathered : (value : ℕ) → ((x n : ℕ) → x < 16 → Lowers value x n)
        → plane_from (ranks_at xs 0 / value) (ranks_at xs 8 / value) (ranks_at xs 16 / value) (ranks_at xs 24 / value) ≡ plane_of value (by_files xs)
    gathered value lowers =
        rw (word_0, word_8, word_16, word_24)
        (plane_dealt value lowers (half xs 0) (half xs 8) (half xs 16) (half xs 24) (half_most 0) (half_most 8) (half_most 16) (half_most 24) 16 0
        ∙ ap (plane_of value) dealt_by_files)

    module _ {a b c d : ℕ} (ea : a ≡ ranks_at xs 0) (eb : b ≡ ranks_at xs 8) (ec : c ≡ ranks_at xs 16) (ed : d ≡ ranks_at xs 24) where
      plane_of_fact : (value : ℕ) → ((x n : ℕ) → x < 16 → Lowers value x n)
          → plane_from (a / value) (b / value) (c / value) (d / value) ≡ plane_of value (by_files xs)
      plane_of_fact value lowers = rw (ea, eb, ec, ed) (gathered value lowers)

      plane_of_1 : plane_from a b c d ≡ plane_of 1 (by_files xs)
      plane_of_1 =
          let whole : (w : ℕ) → w ≡ w / 1 = λ w. omega arith in
          (λ i. plane_from (whole a i) (whole b i) (whole c i) (whole d i)) ∙ plane_of_fact 1 lowers_1

      pub planes_gathered : {one two four eight : ℕ} → one ≡ plane_from a b c d → two ≡ plane_from (a / 2) (b / 2) (c / 2) (d / 2)
          → four ≡ plane_from (a / 4) (b / 4) (c / 4) (d / 4) → eight ≡ plane_from (a / 8) (b / 8) (c / 8) (d / 8)
          → record { one = one; two = two; four = four; eight = eight } ≡ planes_of (by_files xs)
      planes_gathered p q r s =
          let first = p ∙ plane_of_1 in
          let second = q ∙ plane_of_fact 2 lowers_2 in
          let third = r ∙ plane_of_fact 4 lowers_4 in
          let fourth = s ∙ plane_of_fact 8 lowers_8 in
          λ i. record { one = first i; two = second i; four = third i; eight = fourth i }

-- ---- the squares file by file

total : (ℕ → ℕ) → ℕ → ℕ
total t zero = 0
total t (suc n) = t 0 + total (λ (i : ℕ). t (suc i)) n

squares_total : (code : ℕ) (xs : List ℕ) → squares_with code xs ≡ total (λ (i : ℕ). one (eqb (get_or xs i 0) code)) (length xs)
unfolding squares_with total
squares_total code [] = refl
squares_total code (x ∷ xs) = ap (λ (n : ℕ). one (eqb x code) + n) (squares_total code xs)

files_total : (code : ℕ) (xs : List ℕ) → squares_with code (by_files xs) ≡ total (λ (i : ℕ). one (eqb (get_or xs i 0) code)) squares
unfolding squares_with by_files total
files_total code xs = omega arith

pub squares_by_files : (code : ℕ) (xs : List ℕ) → length xs ≡ squares → squares_with code (by_files xs) ≡ squares_with code xs
squares_by_files code xs long =
    files_total code xs ∙ sym (squares_total code xs ∙ ap (total (λ (i : ℕ). one (eqb (get_or xs i 0) code))) long)

pub files_long : (xs : List ℕ) → length (by_files xs) ≡ squares
unfolding by_files
files_long xs = refl

dealt_most : (a b c d : ℕ → ℕ) → ((i : ℕ) → a i ≤ 12) → ((i : ℕ) → b i ≤ 12) → ((i : ℕ) → c i ≤ 12) → ((i : ℕ) → d i ≤ 12) → (n i : ℕ)
    → all_at_most 12 (dealt a b c d i n) ≡ true
unfolding dealt all_at_most
dealt_most a b c d mosta mostb mostc mostd zero i = refl
dealt_most a b c d mosta mostb mostc mostd (suc n) i =
    let rest = dealt a b c d (suc i) n in
    let by-d = most_cons 12 (d i) rest (mostd i) (dealt_most a b c d mosta mostb mostc mostd n (suc i)) in
    let by-c = most_cons 12 (c i) (d i ∷ rest) (mostc i) by-d in
    most_cons 12 (a i) (b i ∷ c i ∷ d i ∷ rest) (mosta i) (most_cons 12 (b i) (c i ∷ d i ∷ rest) (mostb i) by-c)

pub files_most : (xs : List ℕ) → all_at_most 12 xs ≡ true → all_at_most 12 (by_files xs) ≡ true
files_most xs codes =
    let most = half_most xs codes in
    ap (all_at_most 12) (sym (dealt_by_files xs)) ∙ dealt_most (half xs 0) (half xs 8) (half xs 16) (half xs 24) (most 0) (most 8) (most 16) (most 24) 16 0

-- ---- what fits a word

rank_most : (xs : List ℕ) (at : ℕ) → all_at_most 12 xs ≡ true → rank_at xs at ≤ 12 * (2 ^ 64 / 255)
rank_most xs at codes =
    let most : (i : ℕ) → get_or xs i 0 ≤ 12 = λ i. bound_at 12 xs i codes in
    omega (arith, most at, most (at + 1), most (at + 2), most (at + 3), most (at + 4), most (at + 4 + 1), most (at + 4 + 2), most (at + 4 + 3))

pub ranks_fit : (xs : List ℕ) (at : ℕ) → all_at_most 12 xs ≡ true → ranks_at xs at < 2 ^ 64
ranks_fit xs at codes = omega (arith, rank_most xs at codes, rank_most xs (at + 32) codes)

pub plane_fits : (a b c d : ℕ) → plane_from a b c d < 2 ^ 64
unfolding lowest_of
plane_fits a b c d =
    let most : (w : ℕ) → lowest_bits w ≤ lowest_of 16 = λ w. and_le_r w (lowest_of 16) in
    omega (arith, most a, most b, most c, most d)
