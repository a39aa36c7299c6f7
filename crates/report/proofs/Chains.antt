-- Laws of new lines linked by their buckets: the latest link, what is found along the links, and a line more. Over any lines that count, any that are alike,
-- and any buckets.
-- Assumes nothing.
use Prim.Native.Nat.{ℕ, zero, suc, ◌+◌, ◌≤◌, ◌<◌, zero-le}
use native.Mathlib.Numerals.{add-one}
use native.Mathlib.Omega.{arith}
use mathlib.Core.Path.{◌≡◌, refl, sym, ap, ◌∙◌}
use mathlib.Core.Bool.{Bool, true, false, cond, not, ◌&&◌, ◌||◌, and-false, or-true, true≢false}
use mathlib.Core.List.{List}
use lib.Dec.{eqb}
use lib.ListN.{length, get_or, set, replicate, length-set, length-replicate}
use lib.Seq.{get_or-set_same, get_or-set_other}
use borrow.Author.Count.{below_more}
use borrow.Author.Tests.{eq-eqb, ne_eqb, eqb-true, eqb-false}
use Rattle.answer.proofs.Numbers.{both_left, both_right}
use Rattle.answer.proofs.Same.{same_eq}
use Rattle.report_text.specs.Report.{most_lines, one}
use Rattle.report_text.specs.Repeats.{found_below, repeats_below}
use Rattle.report.specs.CodeSets.{bucket_count, bucket_of, plane_bucket}
use Rattle.report.specs.CodeRooms.{counts_at, alike_in, record_at, Bucketed}
use Rattle.report.specs.CodeChains.{is_new, latest, Chained, bucket_in, Linked}

-- a line like one that is like line i is like line i
abbrev pub Passes : (ℕ → ℕ → Bool) → Type 0
Passes alike = (j k i : ℕ) → alike j k ≡ true → alike k i ≡ true → alike j i ≡ true

pub alike_passes : (records : List ℕ) → Passes (alike_in records)
alike_passes records j k i e f = rw (same_eq (record_at records j) (record_at records k) e) f

-- counted lines below line i that are like it have its bucket
abbrev pub OneBucket : (ℕ → Bool) → (ℕ → ℕ → Bool) → (ℕ → ℕ) → ℕ → Type 0
OneBucket counts alike bucket i = (j : ℕ) → j < i → counts j ≡ true → alike j i ≡ true → bucket j ≡ bucket i

-- a walk along the links of line i's bucket has come to a link
pub record Walked (counts : ℕ → Bool) (alike : ℕ → ℕ → Bool) (bucket : ℕ → ℕ) (i link : ℕ) : Type 0 where
  pub found : found_below counts alike i i ≡ found_below counts alike i link
  pub stays : latest counts alike bucket (bucket i) link ≡ link

-- ---- found below

module _ (counts : ℕ → Bool) (alike : ℕ → ℕ → Bool) where
  pub found_here : (i k : ℕ) → counts k ≡ true → alike k i ≡ true → found_below counts alike i (k + 1) ≡ true
  unfolding found_below
  found_here i k e f = rw (add-one k, e, f)

  pub found_other : (i k : ℕ) → alike k i ≡ false → found_below counts alike i (k + 1) ≡ found_below counts alike i k
  unfolding found_below
  found_other i k e = rw (add-one k, e, and-false (counts k))

  -- what is found for a line like line i is found for line i
  found_passes : Passes alike → (i k m : ℕ) → alike k i ≡ true → found_below counts alike k m ≡ true → found_below counts alike i m ≡ true
  unfolding found_below
  found_passes passes i k zero e f = f
  found_passes passes i k (suc m) e f = go (counts m) (alike m k) refl f (found_passes passes i k m e)
    where
      go : (t u : Bool) → alike m k ≡ u → (t && u) || found_below counts alike k m ≡ true
          → (found_below counts alike k m ≡ true → found_below counts alike i m ≡ true)
          → (t && alike m i) || found_below counts alike i m ≡ true
      go true true g f was = rw (passes m k i g e)
      go true false g f was = rw (was f) (or-true (alike m i))
      go false u g f was = was f

  pub new_counts : (k : ℕ) → is_new counts alike k ≡ true → counts k ≡ true
  new_counts k e = both_left (counts k) (not (found_below counts alike k k)) e

  pub is_new_fact : (k : ℕ) → counts k ≡ true → found_below counts alike k k ≡ false → is_new counts alike k ≡ true
  is_new_fact k e f = rw (e, f)

  pub old_found : (k : ℕ) → found_below counts alike k k ≡ true → is_new counts alike k ≡ false
  old_found k f = rw f (and-false (counts k))

  pub old_not_counted : (k : ℕ) → counts k ≡ false → is_new counts alike k ≡ false
  old_not_counted k e = rw e

  -- ---- the latest link

  module _ (bucket : ℕ → ℕ) where
    latest_at : (b k : ℕ) → is_new counts alike k && eqb (bucket k) b ≡ true → latest counts alike bucket b (k + 1) ≡ k + 1
    unfolding latest
    latest_at b k e = rw (add-one k, e) (add-one k)

    latest_not : (b k : ℕ) → is_new counts alike k && eqb (bucket k) b ≡ false → latest counts alike bucket b (k + 1) ≡ latest counts alike bucket b k
    unfolding latest
    latest_not b k e = rw (add-one k, e)

    pub latest_new : (k : ℕ) → is_new counts alike k ≡ true → latest counts alike bucket (bucket k) (k + 1) ≡ k + 1
    latest_new k e = latest_at (bucket k) k (rw (e, eq-eqb (bucket k) (bucket k) refl))

    pub latest_old : (b k : ℕ) → is_new counts alike k ≡ false → latest counts alike bucket b (k + 1) ≡ latest counts alike bucket b k
    latest_old b k e = latest_not b k (rw e)

    pub latest_other : (b k : ℕ) → (bucket k ≡ b → ⊥) → latest counts alike bucket b (k + 1) ≡ latest counts alike bucket b k
    latest_other b k n = latest_not b k (rw (ne_eqb (bucket k) b n) (and-false (is_new counts alike k)))

    pub latest_le : (b k : ℕ) → latest counts alike bucket b k ≤ k
    unfolding latest
    latest_le b zero = zero-le
    latest_le b (suc k) = go (is_new counts alike k && eqb (bucket k) b) (latest_le b k)
      where
        go : (t : Bool) → latest counts alike bucket b k ≤ k → cond t (k + 1) (latest counts alike bucket b k) ≤ suc k
        go true h = omega arith
        go false h = omega arith

    -- it is its own latest
    latest_stays : (b k : ℕ) → latest counts alike bucket b (latest counts alike bucket b k) ≡ latest counts alike bucket b k
    unfolding latest
    latest_stays b zero = refl
    latest_stays b (suc k) = go (is_new counts alike k && eqb (bucket k) b) refl (latest_stays b k)
      where
        go : (t : Bool) → is_new counts alike k && eqb (bucket k) b ≡ t
            → latest counts alike bucket b (latest counts alike bucket b k) ≡ latest counts alike bucket b k
            → latest counts alike bucket b (cond t (k + 1) (latest counts alike bucket b k)) ≡ cond t (k + 1) (latest counts alike bucket b k)
        go true e was = latest_at b k e
        go false e was = was

    -- a line to which a link of the bucket leads is new, and of the bucket
    link_line : (b j : ℕ) → latest counts alike bucket b (j + 1) ≡ j + 1 → is_new counts alike j && eqb (bucket j) b ≡ true
    link_line b j e = go (is_new counts alike j && eqb (bucket j) b) refl
      where
        go : (t : Bool) → is_new counts alike j && eqb (bucket j) b ≡ t → t ≡ true
        go true f = refl
        go false f = absurd (omega (arith, e, latest_not b j f, latest_le b j))

    pub link_new : (b j : ℕ) → latest counts alike bucket b (j + 1) ≡ j + 1 → is_new counts alike j ≡ true
    link_new b j e = both_left (is_new counts alike j) (eqb (bucket j) b) (link_line b j e)

    pub link_bucket : (b j : ℕ) → latest counts alike bucket b (j + 1) ≡ j + 1 → bucket j ≡ b
    link_bucket b j e = eqb-true (bucket j) b (both_right (is_new counts alike j) (eqb (bucket j) b) (link_line b j e))

    -- ---- what is found below a line is found below its bucket's latest

    module _ (passes : Passes alike) (i : ℕ) (one_bucket : OneBucket counts alike bucket i) where
      -- a line that is not its bucket's latest: what is like it stands before it
      not_latest : (k : ℕ) → k < i → is_new counts alike k && eqb (bucket k) (bucket i) ≡ false
          → (counts k && alike k i) || found_below counts alike i k ≡ found_below counts alike i k
      not_latest k h e = go (counts k) refl (alike k i) refl (found_below counts alike k k) refl
        where
          go : (t : Bool) → counts k ≡ t → (u : Bool) → alike k i ≡ u → (v : Bool) → found_below counts alike k k ≡ v
              → (t && u) || found_below counts alike i k ≡ found_below counts alike i k
          go false p u q v r = refl
          go true p false q v r = refl
          go true p true q true r = sym (found_passes passes i k k q r)
          go true p true q false r =
              absurd (true≢false (sym (rw (p, r, eq-eqb (bucket k) (bucket i) (one_bucket k h p q)) refl) ∙ e))

      pub found_latest : (k : ℕ) → k ≤ i → found_below counts alike i k ≡ found_below counts alike i (latest counts alike bucket (bucket i) k)
      unfolding found_below latest
      found_latest zero h = refl
      found_latest (suc k) h = go (is_new counts alike k && eqb (bucket k) (bucket i)) refl (found_latest k (omega arith))
        where
          go : (t : Bool) → is_new counts alike k && eqb (bucket k) (bucket i) ≡ t
              → found_below counts alike i k ≡ found_below counts alike i (latest counts alike bucket (bucket i) k)
              → (counts k && alike k i) || found_below counts alike i k
              ≡ found_below counts alike i (cond t (k + 1) (latest counts alike bucket (bucket i) k))
          go true e was = ap (found_below counts alike i) (sym (add-one k))
          go false e was = not_latest k (omega arith) e ∙ was

    -- ---- the walk along the links of line i's bucket

    pub walk_ends : (i : ℕ) → Walked counts alike bucket i 0 → found_below counts alike i i ≡ false
    unfolding found_below
    walk_ends i w = w.found

    pub walk_here : (i j : ℕ) → Walked counts alike bucket i (j + 1) → alike j i ≡ true → found_below counts alike i i ≡ true
    walk_here i j w e = w.found ∙ found_here i j (new_counts j (link_new (bucket i) j w.stays)) e

    module _ (passes : Passes alike) (next : List ℕ) (from i : ℕ) (chain : Chained counts alike bucket next from i) where
      pub walk_begins : Walked counts alike bucket i from
      walk_begins =
          rw chain.begins
          (record { found = found_latest passes i chain.one_bucket i (omega arith); stays = latest_stays (bucket i) i })

      pub walk_on : (j : ℕ) → j < i → Walked counts alike bucket i (j + 1) → alike j i ≡ false → Walked counts alike bucket i (get_or next j 0)
      walk_on j h w e =
          let new = link_new (bucket i) j w.stays in
          let to : get_or next j 0 ≡ latest counts alike bucket (bucket i) j =
          chain.goes_on j h new ∙ ap (λ (b : ℕ). latest counts alike bucket b j) (link_bucket (bucket i) j w.stays) in
          rw to
          (record {
            found = w.found ∙ found_other i j e ∙ found_latest passes i chain.one_bucket j (omega arith);
            stays = latest_stays (bucket i) j;
          })

-- ---- the first lines linked, and one more

abbrev pub new_in : List ℕ → List ℕ → ℕ → Bool
new_in records told k = is_new (counts_at told) (alike_in records) k

abbrev pub latest_in : List ℕ → List ℕ → List ℕ → ℕ → ℕ → ℕ
latest_in records told buckets b k = latest (counts_at told) (alike_in records) (bucket_in buckets) b k

module _ (records told buckets : List ℕ) (i : ℕ) where
  pub bucket_below : Bucketed records told buckets (i + 1) → counts_at told i ≡ true → bucket_in buckets i < bucket_count
  unfolding bucket_of plane_bucket
  bucket_below b e = omega (arith, b.each i (omega arith) e)

  module _ (heads next : List ℕ) (was : Linked records told buckets heads next i) where
    pub chained_at : Bucketed records told buckets (i + 1) → counts_at told i ≡ true
        → Chained (counts_at told) (alike_in records) (bucket_in buckets) next (get_or heads (bucket_in buckets i) 0) i
    chained_at b e = record {
      begins = was.heads_latest (bucket_in buckets i) (bucket_below b e);
      goes_on = was.goes_on;
      one_bucket = λ j h p q.
          b.each j (omega arith) p ∙ ap bucket_of (same_eq (record_at records j) (record_at records i) q) ∙ sym (b.each i (omega arith) e);
    }

    -- a line that is not new changes nothing
    pub linked_old : new_in records told i ≡ false → Linked records told buckets heads next (i + 1)
    linked_old e = record {
      heads_long = was.heads_long;
      next_long = was.next_long;
      heads_latest = λ b h. was.heads_latest b h ∙ sym (latest_old (counts_at told) (alike_in records) (bucket_in buckets) b i e);
      goes_on = below_more _ _ was.goes_on (λ f. absurd (true≢false (sym f ∙ e)));
      falls = was.falls;
    }

    -- a line that is new is linked in front of its bucket's
    pub linked_more : i < most_lines → bucket_in buckets i < bucket_count → new_in records told i ≡ true
        → Linked records told buckets (set heads (bucket_in buckets i) (i + 1)) (set next i (get_or heads (bucket_in buckets i) 0)) (i + 1)
    linked_more few h e = record {
      heads_long = length-set heads (bucket_in buckets i) (i + 1) ∙ was.heads_long;
      next_long = length-set next i from ∙ was.next_long;
      heads_latest = heads_now;
      goes_on = below_more _ _ before now;
      falls = λ j. falls_now j (eqb j i) refl;
    }
      where
        from : ℕ
        from = get_or heads (bucket_in buckets i) 0

        from_latest : from ≡ latest_in records told buckets (bucket_in buckets i) i
        from_latest = was.heads_latest (bucket_in buckets i) h

        in_next : i < length next
        in_next = omega (arith, was.next_long)

        in_heads : bucket_in buckets i < length heads
        in_heads = omega (arith, was.heads_long)

        heads_now : (b : ℕ) → b < bucket_count → get_or (set heads (bucket_in buckets i) (i + 1)) b 0
            ≡ latest_in records told buckets b (i + 1)
        heads_now b k = go (eqb (bucket_in buckets i) b) refl
          where
            go : (t : Bool) → eqb (bucket_in buckets i) b ≡ t
                → get_or (set heads (bucket_in buckets i) (i + 1)) b 0 ≡ latest_in records told buckets b (i + 1)
            go true f =
                rw (← eqb-true (bucket_in buckets i) b f)
                (get_or-set_same heads (bucket_in buckets i) (i + 1) 0 in_heads
                ∙ sym (latest_new (counts_at told) (alike_in records) (bucket_in buckets) i e))
            go false f =
                let other = eqb-false (bucket_in buckets i) b f in
                get_or-set_other heads (bucket_in buckets i) b (i + 1) 0 (λ g. other (sym g))
                ∙ was.heads_latest b k
                ∙ sym (latest_other (counts_at told) (alike_in records) (bucket_in buckets) b i other)

        before : (j : ℕ) → j < i → new_in records told j ≡ true
            → get_or (set next i from) j 0 ≡ latest_in records told buckets (bucket_in buckets j) j
        before j k f = get_or-set_other next i j from 0 (λ g. omega arith) ∙ was.goes_on j k f

        now : new_in records told i ≡ true
            → get_or (set next i from) i 0 ≡ latest_in records told buckets (bucket_in buckets i) i
        now f = get_or-set_same next i from 0 in_next ∙ from_latest

        falls_now : (j : ℕ) (t : Bool) → eqb j i ≡ t → get_or (set next i from) j 0 ≤ j
        falls_now j true f =
            let g = eqb-true j i f in
            rw g (omega (
              arith,
              get_or-set_same next i from 0 in_next,
              from_latest,
              latest_le (counts_at told) (alike_in records) (bucket_in buckets) (bucket_in buckets i) i,
            ))
        falls_now j false f = omega (arith, get_or-set_other next i j from 0 (eqb-false j i f), was.falls j)

-- ---- repeats counted

module _ (counts : ℕ → Bool) (alike : ℕ → ℕ → Bool) where
  pub repeats_next : (k : ℕ) → repeats_below counts alike (k + 1) ≡ repeats_below counts alike k + one (counts k && found_below counts alike k k)
  unfolding repeats_below
  repeats_next k = rw (add-one k)

  pub repeats_most : (k : ℕ) → repeats_below counts alike k ≤ k
  unfolding repeats_below
  repeats_most zero = zero-le
  repeats_most (suc k) = go (counts k && found_below counts alike k k) (repeats_most k)
    where
      go : (t : Bool) → repeats_below counts alike k ≤ k → repeats_below counts alike k + one t ≤ suc k
      go true h = omega arith
      go false h = omega arith

  pub repeats_none : repeats_below counts alike 0 ≡ 0
  unfolding repeats_below
  repeats_none = refl

-- where all links are none, no line is linked
none_at : (n k : ℕ) → get_or {A = ℕ} (replicate n 0) k 0 ≡ 0
none_at zero k = refl
none_at (suc n) zero = refl
none_at (suc n) (suc k) = none_at n k

none_linked : (records told buckets heads next : List ℕ) → length heads ≡ bucket_count → length next ≡ most_lines
    → ((k : ℕ) → get_or heads k 0 ≡ 0) → ((k : ℕ) → get_or next k 0 ≡ 0) → Linked records told buckets heads next 0
unfolding latest
none_linked records told buckets heads next long long_too no-head no-next = record {
  heads_long = long;
  next_long = long_too;
  heads_latest = λ b h. no-head b;
  goes_on = λ j h e. absurd (omega arith);
  falls = λ j. omega (arith, no-next j);
}

pub linked_none : (records told buckets : List ℕ) → Linked records told buckets (replicate bucket_count 0) (replicate most_lines 0) 0
linked_none records told buckets =
    none_linked records told buckets (replicate bucket_count 0) (replicate most_lines 0) (length-replicate {A = ℕ} bucket_count 0)
    (length-replicate {A = ℕ} most_lines 0) (none_at bucket_count) (none_at most_lines)
