-- From how often each number stands in two lists to how many entries pass any test: in a list within another no more pass, and so it is at most as long and as
-- high and lists nothing else; in a list in another order as many pass.
-- Assumes nothing.
use Prim.Native.Nat.{ℕ, suc, ◌≤◌}
use mathlib.Core.Path.{◌≡◌, refl, sym, ap, ◌∙◌}
use mathlib.Core.Bool.{Bool, true, false, cond, not, ◌&&◌, ◌||◌, false≢true}
use mathlib.Core.List.{List, [], ◌∷◌}
use native.Mathlib.Omega.{arith}
use lib.Dec.{eqb, leb, eqb-suc-zero}
use lib.ListN.{length}
use borrow.Author.Tests.{eq-eqb, eqb-true, leb-true, le-leb}
use Rattle.answer.specs.Numbers.{all_at_most, among}
use Rattle.answer.proofs.Numbers.{both_left, both_right}
use Rattle.chess_move.specs.Number.{last_move}
use Rattle.move_list.specs.MoveList.{longest_list, list_in_range, count, first_of}
use Rattle.move_list.proofs.Counting.{count_listed}
use Rattle.san_lists.specs.Lists.{occurrences, Reordered, Within}

-- ---- every test

-- the list without the first entry that is n
unfoldable without : ℕ → List ℕ → List ℕ
without n [] = []
without n (x ∷ xs) = cond (eqb x n) xs (x ∷ without n xs)

-- one more if a test holds
abbrev more : Bool → ℕ → ℕ
more b n = cond b (suc n) n

more_swap : (a b : Bool) (n : ℕ) → more a (more b n) ≡ more b (more a n)
more_swap true true n = refl
more_swap true false n = refl
more_swap false true n = refl
more_swap false false n = refl

-- that entry put back is counted as itself
without_count : (f : ℕ → Bool) (n : ℕ) (k : List ℕ) → 1 ≤ occurrences n k → count f k ≡ more (f n) (count f (without n k))
unfolding count without
without_count f n [] h = absurd (omega arith)
without_count f n (x ∷ xs) h = go (eqb x n) refl (without_count f n xs) h
  where
    go : (b : Bool) → eqb x n ≡ b → (1 ≤ occurrences n xs → count f xs ≡ more (f n) (count f (without n xs))) → 1 ≤ more b (occurrences n xs)
        → more (f x) (count f xs) ≡ more (f n) (count f (cond b xs (x ∷ without n xs)))
    go true e ih p = ap (λ (y : ℕ). more (f y) (count f xs)) (eqb-true x n e)
    go false e ih p = ap (more (f x)) (ih p) ∙ more_swap (f x) (f n) (count f (without n xs))

-- in a list within another no more entries pass any test
pub within_count : (f : ℕ → Bool) (l k : List ℕ) → Within l k → count f l ≤ count f k
unfolding count
within_count f [] k w = omega arith
within_count f (x ∷ xs) k w =
    let here : 1 ≤ occurrences x k = first_there (occurrences x xs) (occurrences x k) (rw (eq-eqb x x refl) at (w x)) in
    let rest = within_count f xs (without x k) (λ n. less (eqb x n) (rw (without_count (λ (y : ℕ). eqb y n) x k here) at (w n))) in
    rw (without_count f x k here) (add (f x) rest)
  where
    first_there : (a b : ℕ) → suc a ≤ b → 1 ≤ b
    first_there a b h = omega arith

    less : {a c : ℕ} (b : Bool) → more b a ≤ more b c → a ≤ c
    less true h = omega arith
    less false h = h

    add : {a c : ℕ} (b : Bool) → a ≤ c → more b a ≤ more b c
    add true h = omega arith
    add false h = h

-- a list in another order is within, in both directions, and as many of its entries pass
pub reordered_within : (l k : List ℕ) → Reordered l k → Within l k
reordered_within l k r n = omega (arith, r n)

pub reordered_count : (f : ℕ → Bool) (l k : List ℕ) → Reordered l k → count f l ≡ count f k
reordered_count f l k r =
    let there = within_count f l k (reordered_within l k r) in
    let back = within_count f k l (λ n. omega (arith, r n)) in
    omega arith

-- ---- what is read off the counts

listed_count : (m : ℕ) (l : List ℕ) → among m l ≡ not (eqb (occurrences m l) 0)
unfolding among count
listed_count m [] = refl
listed_count m (x ∷ xs) = go (eqb x m) (listed_count m xs)
  where
    go : (b : Bool) → among m xs ≡ not (eqb (occurrences m xs) 0) → b || among m xs ≡ not (eqb (more b (occurrences m xs)) 0)
    go true e = rw (eqb-suc-zero (occurrences m xs))
    go false e = e

length_count : (l : List ℕ) → length l ≡ count (λ (x : ℕ). true) l
unfolding count
length_count [] = refl
length_count (x ∷ xs) = ap suc (length_count xs)

most_count : (most : ℕ) (l : List ℕ) → all_at_most most l ≡ eqb (count (λ (x : ℕ). not (leb x most)) l) 0
unfolding all_at_most count
most_count most [] = refl
most_count most (x ∷ xs) = go (leb x most) (most_count most xs)
  where
    c : ℕ
    c = count (λ (x : ℕ). not (leb x most)) xs

    go : (b : Bool) → all_at_most most xs ≡ eqb c 0 → b && all_at_most most xs ≡ eqb (more (not b) c) 0
    go true e = e
    go false e = sym (eqb-suc-zero c)

none_more : {a c : ℕ} → a ≤ c → eqb c 0 ≡ true → eqb a 0 ≡ true
none_more {a} {c} h e =
    let none : c ≡ 0 = eqb-true c 0 e in
    eq-eqb a 0 (omega arith)

some_more : {a c : ℕ} → a ≤ c → not (eqb a 0) ≡ true → not (eqb c 0) ≡ true
some_more {a} {c} h e = go (eqb c 0) refl
  where
    go : (b : Bool) → eqb c 0 ≡ b → not b ≡ true
    go true p = absurd (false≢true (rw (none_more h p) at e))
    go false p = refl

module _ (l k : List ℕ) (w : Within l k) where
  pub within_listed : (m : ℕ) → among m l ≡ true → among m k ≡ true
  within_listed m e = rw (listed_count m k) (some_more (w m) (rw (listed_count m l) at e))

  pub within_range : list_in_range k ≡ true → list_in_range l ≡ true
  unfolding list_in_range
  within_range e =
      let long : length k ≤ longest_list = leb-true (length k) longest_list (both_left (leb (length k) longest_list) (all_at_most last_move k) e) in
      let high : all_at_most last_move k ≡ true = both_right (leb (length k) longest_list) (all_at_most last_move k) e in
      let shorter : count (λ (x : ℕ). true) l ≤ count (λ (x : ℕ). true) k = within_count (λ (x : ℕ). true) l k w in
      let short : length l ≤ longest_list = omega (arith, length_count l, length_count k) in
      let low = none_more (within_count (λ (x : ℕ). not (leb x last_move)) l k w) (rw (most_count last_move k) at high) in
      rw (le-leb (length l) longest_list short) (rw (most_count last_move l) low)

module _ (l k : List ℕ) (r : Reordered l k) where
  pub reordered_listed : (m : ℕ) → among m l ≡ among m k
  reordered_listed m = listed_count m l ∙ ap (λ (n : ℕ). not (eqb n 0)) (r m) ∙ sym (listed_count m k)

  pub reordered_length : length l ≡ length k
  reordered_length = length_count l ∙ reordered_count (λ (x : ℕ). true) l k r ∙ sym (length_count k)

  pub reordered_range : list_in_range l ≡ list_in_range k
  unfolding list_in_range
  reordered_range =
      let high : ℕ → Bool = λ (x : ℕ). not (leb x last_move) in
      let a : all_at_most last_move l ≡ all_at_most last_move k =
      most_count last_move l ∙ ap (λ (n : ℕ). eqb n 0) (reordered_count high l k r) ∙ sym (most_count last_move k) in
      rw (reordered_length, a)

-- ---- the one entry that passes

-- if only one entry passes, any listed entry that passes is the first to do so
pub only_one : (f : ℕ → Bool) (m : ℕ) → f m ≡ true → (l : List ℕ) → count f l ≡ 1 → among m l ≡ true → first_of f l ≡ m
unfolding count first_of among
only_one f m fm [] c e = absurd (false≢true e)
only_one f m fm (x ∷ xs) c e = go (only_one f m fm xs) (f x) (eqb x m) refl refl c e
  where
    go : (count f xs ≡ 1 → among m xs ≡ true → first_of f xs ≡ m) → (p q : Bool) → f x ≡ p → eqb x m ≡ q → more p (count f xs) ≡ 1
        → q || among m xs ≡ true → cond p x (first_of f xs) ≡ m
    go ih true true p q d h = eqb-true x m q
    go ih true false p q d h =
        let n : 1 ≤ count f xs = count_listed f m fm xs h in
        absurd (omega arith)
    go ih false true p q d h = absurd (false≢true (sym p ∙ ap f (eqb-true x m q) ∙ fm))
    go ih false false p q d h = ih d h
