-- Laws of sums: twelve sums that a record's men are added to, over the kinds and over the lines; a record as a whole; and the lines' buckets.
-- Assumes nothing.
use mathlib.Core.Path.{◌≡◌, refl, ap, ap₂, sym, ◌∙◌}
use mathlib.Core.Bool.{Bool, true, false, false≢true, cond}
use mathlib.Core.List.{List, [], ◌∷◌}
use Prim.Native.Nat.{ℕ, zero, suc, zero-le, ◌+◌, ◌*◌, ◌^◌, ◌≤◌, ◌<◌}
use native.Mathlib.Numerals.{add-one}
use native.Mathlib.Nat.{le_antisymm, mul_comm}
use native.Mathlib.Omega.{arith}
use lib.Count.{ones}
use lib.Dec.{eqb, ltb}
use lib.ListN.{length, take, drop, get_or, set, length-set, length-take, length-drop, replicate, get_or-eq_default}
use lib.Seq.{length-take-le, get_or-set_same, get_or-set_other}
use borrow.Author.Tests.{eq-eqb, ne_eqb, eqb-true, eqb-false, ltb-true, ltb-false}
use Rattle.answer.specs.Numbers.{all_at_most}
use Rattle.board_builder.specs.BoardBuilder.{squares, record_size}
use Rattle.fen_text.specs.Page.{told_size}
use Rattle.report_text.specs.Report.{most_lines, one, squares_with, twelve}
use Rattle.report_text.specs.Sets.{set_of}
use Rattle.report_text.proofs.Sets.{ones_are_the_squares}
use Rattle.report_text.proofs.Figures.{said_from, said_at}
use Rattle.report.specs.CodeRooms.{counts_at, record_at, squares_at, counted_below, men_below, AddedIf, MenSums, Bucketed}
use Rattle.report.specs.declared.sets.Planes.{Planes}
use Rattle.report.specs.CodeSets.{by_files, planes_of, kind_sets, Added, plane_bucket, seed_of, bucket_of}
use Rattle.report.proofs.Planes.{squares_by_files, files_long, files_most}

-- ---- the kinds

zeros : (n k : ℕ) → get_or {A = ℕ} (replicate n 0) k 0 ≡ 0
zeros zero k = refl
zeros (suc n) zero = refl
zeros (suc n) (suc k) = zeros n k

kind_at : (f : ℕ → ℕ) (k : ℕ) → k < 12 → get_or (twelve f) k 0 ≡ f (k + 1)
unfolding said_from
kind_at f k h = said_at f 1 12 k h ∙ ap f (omega arith)

-- a number added at a place
abbrev plus_at : List ℕ → ℕ → ℕ → List ℕ
plus_at l x n = set l x (get_or l x 0 + n)

-- the bits of the first n kinds' sets are added, and the other sums are as before
pub record CountedTo (sets before after : List ℕ) (n : ℕ) : Type 0 where
  pub long : length after ≡ 12
  pub done : (j : ℕ) → j < n → get_or after j 0 ≡ get_or before j 0 + ones (get_or sets j 0)
  pub left : (j : ℕ) → n ≤ j → get_or after j 0 ≡ get_or before j 0

pub none_counted : (sets men : List ℕ) → length men ≡ 12 → CountedTo sets men men 0
none_counted sets men e = record { long = e; done = λ j h. absurd (omega arith); left = λ j h. refl }

module _ {sets before after : List ℕ} {kind : ℕ} (so_far : CountedTo sets before after kind) where
  module _ {r : ℕ} (e : r ≡ ones (get_or sets kind 0)) where
    other_kind : (j : ℕ) → (j ≡ kind → ⊥) → get_or (plus_at after kind r) j 0 ≡ get_or after j 0
    other_kind j n = get_or-set_other after kind j (get_or after kind 0 + r) 0 n

    pub kind_counted : kind < 12 → CountedTo sets before (plus_at after kind r) (kind + 1)
    kind_counted h = record {
      long = length-set after kind _ ∙ so_far.long;
      done = λ j k. go j k (eqb j kind) refl;
      left = λ j k. other_kind j (λ z. omega arith) ∙ so_far.left j (omega arith);
    }
      where
        go : (j : ℕ) → j < kind + 1 → (t : Bool) → eqb j kind ≡ t → get_or (plus_at after kind r) j 0 ≡ get_or before j 0 + ones (get_or sets j 0)
        go j k true f =
            let stored = get_or-set_same after kind (get_or after kind 0 + r) 0 (omega (arith, so_far.long)) in
            rw (eqb-true j kind f, stored, so_far.left kind (omega arith), e)
        go j k false f =
            let other : j ≡ kind → ⊥ = eqb-false j kind f in
            other_kind j other ∙ so_far.done j (omega arith)

  pub kind_fits : {r : ℕ} → r ≤ squares → ((j : ℕ) → get_or before j 0 ≤ squares * most_lines) → get_or after kind 0 + r < 2 ^ 64
  kind_fits few most = omega (arith, so_far.left kind (omega arith), most kind)

  -- where the sets are those of some squares
  pub all_counted : 12 ≤ kind → (xs : List ℕ) → sets ≡ kind_sets xs → Added xs before after
  all_counted h xs e = record {
    long = so_far.long;
    each = λ k l.
        let set = ap (λ (s : List ℕ). get_or s k 0) e ∙ kind_at (λ (code : ℕ). set_of code xs) k l in
        let men = ap ones set ∙ ones_are_the_squares (k + 1) xs in
        so_far.done k (omega arith) ∙ ap (λ (n : ℕ). get_or before k 0 + n) men;
  }

-- ---- a record

module _ (numbers : List ℕ) {front : List ℕ} (e : front ≡ take squares numbers) (long : length numbers ≡ record_size) where
  pub front_asks : all_at_most 12 (take squares numbers) ≡ true → (length front ≡ squares) × (all_at_most 12 front ≡ true)
  front_asks codes = (ap length e ∙ length-take-le squares numbers (omega arith), ap (all_at_most 12) e ∙ codes)

  module _ {p : Planes} (g : p ≡ planes_of (by_files front)) where
    here : p ≡ planes_of (by_files (take squares numbers))
    here = g ∙ ap (λ (xs : List ℕ). planes_of (by_files xs)) e

    pub record_bucket : {seed r : ℕ} → seed ≡ seed_of numbers → r ≡ plane_bucket seed p → r ≡ bucket_of numbers
    unfolding bucket_of
    record_bucket s b = b ∙ ap₂ plane_bucket s here

    -- the men counted on the sets are those of the squares, in whatever order
    pub record_added : {sets before after : List ℕ} → all_at_most 12 (take squares numbers) ≡ true
        → ((xs : List ℕ) → length xs ≡ squares → all_at_most 12 xs ≡ true → p ≡ planes_of xs → sets ≡ kind_sets xs)
        → ((xs : List ℕ) → sets ≡ kind_sets xs → Added xs before after) → Added (take squares numbers) before after
    record_added {before = before} codes sets_of added =
        let xs = take squares numbers in
        let by-files = added (by_files xs) (sets_of (by_files xs) (files_long xs) (files_most xs codes) here) in
        let few = length-take-le squares numbers (omega arith) in
        record {
          long = by-files.long;
          each = λ k h. by-files.each k h ∙ ap (λ (n : ℕ). get_or before k 0 + n) (squares_by_files (k + 1) xs few);
        }

-- ---- a line

-- its record as the code finds it
module _ (records : List ℕ) {here : List ℕ} (k : ℕ) (e : here ≡ record_at records k) where
  pub here_long : record_size * k + record_size ≤ length records → length here ≡ record_size
  here_long h = ap length e ∙ length-take-le record_size (drop (record_size * k) records) (rw (length-drop (record_size * k) records) (omega arith))

  pub here_codes : all_at_most 12 (squares_at records k) ≡ true → all_at_most 12 (take squares here) ≡ true
  here_codes codes = ap (λ (l : List ℕ). all_at_most 12 (take squares l)) e ∙ codes

-- a number of the second room, where the code reads it
told_at : (told : List ℕ) (k : ℕ) → get_or told (k * 2) 0 ≡ get_or told (told_size * k) 0
told_at told k = ap (λ (n : ℕ). get_or told n 0) (mul_comm k 2)

-- what is noted of a line: a number, sums and buckets
abbrev pub NotedAt : List ℕ → List ℕ → ℕ → ℕ → List ℕ → List ℕ → List ℕ → List ℕ → Type 0
NotedAt records told k r men men' buckets buckets' =
    (r ≡ one (counts_at told k))
    × (AddedIf (counts_at told k) (squares_at records k) men men'
    × (buckets' ≡ cond (counts_at told k) (set buckets k (bucket_of (record_at records k))) buckets))

module _ (records told : List ℕ) (k : ℕ) (men buckets : List ℕ) where
  -- of one that does not count, nothing
  pub line_left : (get_or told (k * 2) 0 ≡ 0 → ⊥) → length men ≡ 12 → NotedAt records told k 0 men men buckets buckets
  line_left n long =
      let e : counts_at told k ≡ false = ne_eqb (get_or told (told_size * k) 0) 0 (λ z. n (told_at told k ∙ z)) in
      rw e (refl, (record { long = long; each = λ j h. omega arith }, refl))

  -- of one that counts, its men and its bucket
  pub line_noted : {here men' : List ℕ} {r : ℕ} → get_or told (k * 2) 0 ≡ 0 → here ≡ record_at records k → r ≡ bucket_of here
      → Added (take squares here) men men'
      → NotedAt records told k 1 men men' buckets (set buckets k r)
  line_noted {men' = men'} {r = r} z f b a =
      let e : counts_at told k ≡ true = eq-eqb (get_or told (told_size * k) 0) 0 (sym (told_at told k) ∙ z) in
      let added : Added (squares_at records k) men men' = rw f at a in
      let bucket : set buckets k r ≡ set buckets k (bucket_of (record_at records k)) = ap (set buckets k) (b ∙ ap bucket_of f) in
      rw e (refl, (record { long = added.long; each = added.each }, bucket))

-- ---- the lines

squares_few : (code : ℕ) (xs : List ℕ) → squares_with code xs ≤ length xs
unfolding squares_with
squares_few code [] = zero-le
squares_few code (x ∷ xs) = go (eqb x code) (squares_few code xs)
  where
    go : (t : Bool) → squares_with code xs ≤ length xs → one t + squares_with code xs ≤ suc (length xs)
    go true h = omega arith
    go false h = omega arith

few_at : (code : ℕ) (records : List ℕ) (k : ℕ) → squares_with code (squares_at records k) ≤ squares
few_at code records k = omega (arith, squares_few code (squares_at records k), length-take squares (record_at records k))

men_few : (code : ℕ) (records told : List ℕ) (n : ℕ) → men_below code records told n ≤ squares * n
unfolding men_below
men_few code records told zero = zero-le
men_few code records told (suc k) = go (counts_at told k) (men_few code records told k)
  where
    go : (t : Bool) → men_below code records told k ≤ squares * k
        → men_below code records told k + cond t (squares_with code (squares_at records k)) 0 ≤ squares * suc k
    go true h = omega (arith, few_at code records k)
    go false h = omega arith

counted_few : (told : List ℕ) (n : ℕ) → counted_below told n ≤ n
unfolding counted_below
counted_few told zero = zero-le
counted_few told (suc k) = go (counts_at told k) (counted_few told k)
  where
    go : (t : Bool) → counted_below told k ≤ k → counted_below told k + one t ≤ suc k
    go true h = omega arith
    go false h = omega arith

-- the sums of so few lines leave room
sums_few : {records told men : List ℕ} {n : ℕ} → MenSums records told men n → n ≤ most_lines → (j : ℕ) → get_or men j 0 ≤ squares * most_lines
sums_few {records} {told} {men} {n} sums few j = go (ltb j 12) refl
  where
    go : (t : Bool) → ltb j 12 ≡ t → get_or men j 0 ≤ squares * most_lines
    go true e = omega (arith, sums.each j (ltb-true j 12 e), men_few (j + 1) records told n)
    go false e = omega (arith, get_or-eq_default men 0 {n = j} (omega (arith, sums.long, ltb-false j 12 e)))

-- a bucket more
module _ {records told buckets : List ℕ} {k : ℕ} (so_far : Bucketed records told buckets k) where
  bucket_left : counts_at told k ≡ false → Bucketed records told buckets (k + 1)
  bucket_left e = record { long = so_far.long; each = λ j l c. go j l c (eqb j k) refl }
    where
      go : (j : ℕ) → j < k + 1 → counts_at told j ≡ true → (t : Bool) → eqb j k ≡ t → get_or buckets j 0 ≡ bucket_of (record_at records j)
      go j l c true g = absurd (false≢true (sym e ∙ (rw (eqb-true j k g) at c)))
      go j l c false g = let other : j ≡ k → ⊥ = eqb-false j k g in so_far.each j (omega arith) c

  bucket_noted : k < most_lines → Bucketed records told (set buckets k (bucket_of (record_at records k))) (k + 1)
  bucket_noted h = record { long = length-set buckets k _ ∙ so_far.long; each = λ j l c. go j l c (eqb j k) refl }
    where
      go : (j : ℕ) → j < k + 1 → counts_at told j ≡ true → (t : Bool) → eqb j k ≡ t
          → get_or (set buckets k (bucket_of (record_at records k))) j 0 ≡ bucket_of (record_at records j)
      go j l c true g = rw (eqb-true j k g) (get_or-set_same buckets k (bucket_of (record_at records k)) 0 (omega (arith, so_far.long)))
      go j l c false g =
          let other : j ≡ k → ⊥ = eqb-false j k g in
          get_or-set_other buckets k j (bucket_of (record_at records k)) 0 other ∙ so_far.each j (omega arith) c

  bucket_more : {buckets' : List ℕ} → k < most_lines → buckets' ≡ cond (counts_at told k) (set buckets k (bucket_of (record_at records k))) buckets
      → Bucketed records told buckets' (k + 1)
  bucket_more {buckets'} h b = go (counts_at told k) refl b
    where
      go : (t : Bool) → counts_at told k ≡ t → buckets' ≡ cond t (set buckets k (bucket_of (record_at records k))) buckets
          → Bucketed records told buckets' (k + 1)
      go true e f = rw f (bucket_noted h)
      go false e f = rw f (bucket_left e)

-- the first k lines are summed, and their buckets noted
pub record LinesTo (records told men buckets : List ℕ) (counted k : ℕ) : Type 0 where
  pub number : counted ≡ counted_below told k
  pub sums : MenSums records told men k
  pub noted : Bucketed records told buckets k

pub no_lines : (records told men buckets : List ℕ) → men ≡ replicate 12 0 → length buckets ≡ most_lines → LinesTo records told men buckets 0 0
unfolding counted_below men_below
no_lines records told men buckets e long = record {
  number = refl;
  sums = record { long = ap length e; each = λ k h. ap (λ (l : List ℕ). get_or l k 0) e ∙ zeros 12 k };
  noted = record { long = long; each = λ k h. absurd (omega arith) };
}

module _ {records told men buckets : List ℕ} {counted k : ℕ} (so_far : LinesTo records told men buckets counted k) where
  -- what the next line asks of the sums and the buckets
  pub sums_ask : k ≤ most_lines → (length men ≡ 12) × (((j : ℕ) → get_or men j 0 ≤ squares * most_lines) × (length buckets ≡ most_lines))
  sums_ask h = (so_far.sums.long, (sums_few so_far.sums h, so_far.noted.long))

  -- a line more
  module _ {r : ℕ} {men' buckets' : List ℕ} (few : k < most_lines) (line : NotedAt records told k r men men' buckets buckets') where
    pub line_fits : counted + r < 2 ^ 64
    line_fits = go (counts_at told k) line.0
      where
        go : (t : Bool) → r ≡ one t → counted + r < 2 ^ 64
        go true f = omega (arith, so_far.number, counted_few told k)
        go false f = omega (arith, so_far.number, counted_few told k)

    pub line_more : LinesTo records told men' buckets' (counted + r) (k + 1)
    unfolding counted_below men_below
    line_more = record {
      number = rw (add-one k, line.0, so_far.number);
      sums = record { long = line.1.0.long; each = λ j l. rw (add-one k) (line.1.0.each j l ∙ rw (so_far.sums.each j l)) };
      noted = bucket_more so_far.noted few line.1.1;
    }

  pub all_lines : {n : ℕ} → k ≤ n → n ≤ k → LinesTo records told men buckets counted n
  all_lines {n} most least = let all : k ≡ n = le_antisymm most least in rw all at so_far
