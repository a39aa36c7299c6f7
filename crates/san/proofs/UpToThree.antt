-- Up to three numbers are known from their sum, their largest and their least: how many of them pass a test, and which, if only one does.
-- Assumes nothing.
use Prim.Native.Nat.{ℕ, suc, ◌+◌, ◌-◌, ◌≤◌, max, min}
use mathlib.Core.Path.{◌≡◌, refl, ◌∙◌}
use mathlib.Core.Bool.{Bool, true, false, cond}
use mathlib.Core.List.{List, [], ◌∷◌}
use native.Mathlib.Omega.{arith}
use lib.Dec.{eqb, leb}
use lib.ListN.{length}
use borrow.Author.Tests.{leb-true, leb-false}
use Rattle.answer.specs.Numbers.{all_at_most, largest}
use Rattle.answer.proofs.Numbers.{most_head, most_tail}
use Rattle.move_list.specs.MoveList.{count, first_of}
use Rattle.san.specs.CodeGathered.{number_if, total, lowest, passing, passed}

-- the sum without the largest
abbrev pub others : List ℕ → ℕ
others l = total l - largest l

-- of three, the least; of fewer, what the largest leaves of the sum
abbrev pub low : List ℕ → ℕ
low l = cond (eqb (length l) 3) (lowest 64 l) (others l)

-- how many of the three pass, and the sum of those that do, are those of the list
pub record Same (f : ℕ → Bool) (l : List ℕ) (x y z : ℕ) : Type 0 where
  pub passing_same : passing f (length l) x y z ≡ count f l
  pub passed_same : count f l ≡ 1 → passed f (length l) x y z ≡ first_of f l

-- ---- three numbers in any order

count_three : (p q r : Bool)
    → number_if p 1 + number_if q 1 + number_if r 1 ≡ cond p (suc (cond q (suc (cond r 1 0)) (cond r 1 0))) (cond q (suc (cond r 1 0)) (cond r 1 0))
count_three true true true = refl
count_three true true false = refl
count_three true false true = refl
count_three true false false = refl
count_three false true true = refl
count_three false true false = refl
count_three false false true = refl
count_three false false false = refl

first_three : (p q r : Bool) (a b c : ℕ) → number_if p 1 + number_if q 1 + number_if r 1 ≡ 1
    → number_if p a + number_if q b + number_if r c ≡ cond p a (cond q b (cond r c 0))
first_three true true r a b c h = absurd (omega arith)
first_three true false true a b c h = absurd (omega arith)
first_three true false false a b c h = omega arith
first_three false true true a b c h = absurd (omega arith)
first_three false true false a b c h = omega arith
first_three false false true a b c h = omega arith
first_three false false false a b c h = absurd (omega arith)

module _ (f : ℕ → Bool) (a b c : ℕ) where
  one : ℕ → ℕ
  one x = number_if (f x) 1

  value : ℕ → ℕ
  value x = number_if (f x) x

  three_count : one a + one b + one c ≡ count f (a ∷ b ∷ c ∷ [])
  unfolding one count
  three_count = count_three (f a) (f b) (f c)

  three_first : one a + one b + one c ≡ 1 → value a + value b + value c ≡ first_of f (a ∷ b ∷ c ∷ [])
  unfolding one value first_of
  three_first h = first_three (f a) (f b) (f c) a b c h

  -- any x, y, z that are a, b, c in some order
  same_three : (x y z : ℕ) → one x + one y + one z ≡ one a + one b + one c → value x + value y + value z ≡ value a + value b + value c
      → Same f (a ∷ b ∷ c ∷ []) x y z
  unfolding one value
  same_three x y z e v = record {
    passing_same = e ∙ three_count;
    passed_same = λ h. v ∙ three_first (three_count ∙ h);
  }

  swapped : (x y z x' y' z' : ℕ) → x ≡ x' → y ≡ y' → z ≡ z' → one x' + one y' + one z' ≡ one a + one b + one c
      → value x' + value y' + value z' ≡ value a + value b + value c → Same f (a ∷ b ∷ c ∷ []) x y z
  swapped x y z x' y' z' ex ey ez e v = rw (ex, ey, ez) (same_three x' y' z' e v)

-- two numbers, and one: what is not there does not pass
same_two : (f : ℕ → Bool) (a b x y z x' y' : ℕ) → x ≡ x' → y ≡ y' → number_if (f x') 1 + number_if (f y') 1 ≡ number_if (f a) 1 + number_if (f b) 1
    → number_if (f x') x' + number_if (f y') y' ≡ number_if (f a) a + number_if (f b) b → Same f (a ∷ b ∷ []) x y z
unfolding count first_of
same_two f a b x y z x' y' ex ey e v = rw (ex, ey) (record {
  passing_same = omega (arith, e) ∙ count_three (f a) (f b) false;
  passed_same = λ h. omega (arith, v) ∙ first_three (f a) (f b) false a b 0 (count_three (f a) (f b) false ∙ h);
})

same_one : (f : ℕ → Bool) (a x y z : ℕ) → x ≡ a → Same f (a ∷ []) x y z
unfolding count first_of
same_one f a x y z ex = rw ex (record {
  passing_same = count_three (f a) false false;
  passed_same = λ h. first_three (f a) false false a 0 0 (count_three (f a) false false ∙ h);
})

-- ---- the law

pub same_sources : (f : ℕ → Bool) (l : List ℕ) → length l ≤ 3 → all_at_most 63 l ≡ true → Same f l (largest l) (low l) (others l - low l)
unfolding total largest lowest count first_of
same_sources f [] h m = record { passing_same = refl; passed_same = λ e. absurd (omega arith) }
same_sources f (a ∷ []) h m = same_one f a _ _ _ (omega arith)
same_sources f (a ∷ b ∷ []) h m = go (leb a b) refl
  where
    go : (p : Bool) → leb a b ≡ p → Same f (a ∷ b ∷ []) (largest (a ∷ b ∷ [])) (low (a ∷ b ∷ [])) (others (a ∷ b ∷ []) - low (a ∷ b ∷ []))
    go true p =
        let k = leb-true a b p in
        same_two f a b _ _ _ b a (omega arith) (omega arith) (omega arith) (omega arith)
    go false p =
        let k = leb-false a b p in
        same_two f a b _ _ _ a b (omega arith) (omega arith) refl refl
same_sources f (a ∷ b ∷ c ∷ []) h m = go (leb a b) (leb b c) (leb a c) refl refl refl
  where
    l : List ℕ
    l = a ∷ b ∷ c ∷ []

    ha : a ≤ 63
    ha = most_head 63 a (b ∷ c ∷ []) m

    hb : b ≤ 63
    hb = most_head 63 b (c ∷ []) (most_tail 63 a (b ∷ c ∷ []) m)

    hc : c ≤ 63
    hc = most_head 63 c [] (most_tail 63 b (c ∷ []) (most_tail 63 a (b ∷ c ∷ []) m))

    ordered : (x' y' z' : ℕ) → max a (max b (max c 0)) ≡ x' → min (min (min 64 a) b) c ≡ y' → a + (b + (c + 0)) - x' - y' ≡ z'
        → one f a b c x' + one f a b c y' + one f a b c z' ≡ one f a b c a + one f a b c b + one f a b c c
        → value f a b c x' + value f a b c y' + value f a b c z' ≡ value f a b c a + value f a b c b + value f a b c c
        → Same f (a ∷ b ∷ c ∷ []) (largest (a ∷ b ∷ c ∷ [])) (low (a ∷ b ∷ c ∷ [])) (others (a ∷ b ∷ c ∷ []) - low (a ∷ b ∷ c ∷ []))
    ordered x' y' z' ex ey ez e v =
        let ez' : others (a ∷ b ∷ c ∷ []) - low (a ∷ b ∷ c ∷ []) ≡ z' = rw (ex, ey) ez in
        swapped f a b c _ _ _ x' y' z' ex ey ez' e v

    go : (p q r : Bool) → leb a b ≡ p → leb b c ≡ q → leb a c ≡ r
        → Same f (a ∷ b ∷ c ∷ []) (largest (a ∷ b ∷ c ∷ [])) (low (a ∷ b ∷ c ∷ [])) (others (a ∷ b ∷ c ∷ []) - low (a ∷ b ∷ c ∷ []))
    go true true r p q s =
        let i = leb-true a b p in
        let j = leb-true b c q in
        ordered c a b (omega (arith, ha)) (omega (arith, ha)) (omega (arith, ha)) (omega arith) (omega arith)
    go true false true p q s =
        let i = leb-true a b p in
        let j = leb-false b c q in
        let k = leb-true a c s in
        ordered b a c (omega (arith, ha)) (omega (arith, ha)) (omega (arith, ha)) (omega arith) (omega arith)
    go true false false p q s =
        let i = leb-true a b p in
        let j = leb-false b c q in
        let k = leb-false a c s in
        ordered b c a (omega (arith, hc)) (omega (arith, hc)) (omega (arith, hc)) (omega arith) (omega arith)
    go false true true p q s =
        let i = leb-false a b p in
        let j = leb-true b c q in
        let k = leb-true a c s in
        ordered c b a (omega (arith, hb)) (omega (arith, hb)) (omega (arith, hb)) (omega arith) (omega arith)
    go false true false p q s =
        let i = leb-false a b p in
        let j = leb-true b c q in
        let k = leb-false a c s in
        ordered a b c (omega (arith, hb)) (omega (arith, hb)) (omega (arith, hb)) (omega arith) (omega arith)
    go false false r p q s =
        let i = leb-false a b p in
        let j = leb-false b c q in
        ordered a c b (omega (arith, hc)) (omega (arith, hc)) (omega (arith, hc)) (omega arith) (omega arith)
same_sources f (a ∷ b ∷ c ∷ d ∷ l) h m = absurd (omega arith)

both_ends : (a b c : ℕ) → max a (max b (max c 0)) + min (min (min 64 a) b) c ≤ a + (b + (c + 0))
both_ends a b c = omega arith

within : (x y t : ℕ) → x + y ≤ t → y ≤ t - x
within x y t h = omega arith

-- the least of three is no more than the other two together
pub low_most : (l : List ℕ) → length l ≤ 3 → low l ≤ others l
unfolding total largest lowest
low_most [] h = omega arith
low_most (a ∷ []) h = omega arith
low_most (a ∷ b ∷ []) h = omega arith
low_most (a ∷ b ∷ c ∷ []) h = within _ _ _ (both_ends a b c)
low_most (a ∷ b ∷ c ∷ d ∷ l) h = absurd (omega arith)
