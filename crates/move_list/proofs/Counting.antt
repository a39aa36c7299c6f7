-- Entries that are the only ones to pass a test, over any list; and two tests that agree on what is listed.
-- Assumes nothing.
use Prim.Native.Nat.{ℕ, suc, ◌≤◌}
use mathlib.Core.Path.{◌≡◌, refl, sym, ap, ◌∙◌}
use mathlib.Core.Bool.{Bool, true, false, cond, ◌||◌, false≢true}
use mathlib.Core.List.{List, [], ◌∷◌}
use native.Mathlib.Omega.{arith}
use lib.Dec.{eqb}
use borrow.Author.Tests.{eq-eqb, eqb-true}
use Rattle.answer.specs.Numbers.{among}
use Rattle.move_list.specs.MoveList.{count, first_of}

pub first_passes : (f : ℕ → Bool) (l : List ℕ) → 1 ≤ count f l → f (first_of f l) ≡ true
unfolding count first_of
first_passes f [] h = absurd (omega arith)
first_passes f (x ∷ xs) h = go (first_passes f xs) (f x) refl h
  where
    go : (1 ≤ count f xs → f (first_of f xs) ≡ true) → (b : Bool) → f x ≡ b → 1 ≤ cond b (suc (count f xs)) (count f xs) → f (cond b x (first_of f xs)) ≡ true
    go ih true e k = e
    go ih false e k = ih k

pub count_mono : (f g : ℕ → Bool) → ((x : ℕ) → f x ≡ true → g x ≡ true) → (l : List ℕ) → count f l ≤ count g l
unfolding count
count_mono f g h [] = omega arith
count_mono f g h (x ∷ xs) = go (f x) (g x) (h x) (count_mono f g h xs)
  where
    go : (a b : Bool) → (a ≡ true → b ≡ true) → count f xs ≤ count g xs → cond a (suc (count f xs)) (count f xs) ≤ cond b (suc (count g xs)) (count g xs)
    go true true i k = omega arith
    go true false i k = absurd (false≢true (i refl))
    go false true i k = omega arith
    go false false i k = k

pub count_listed : (f : ℕ → Bool) (m : ℕ) → f m ≡ true → (l : List ℕ) → among m l ≡ true → 1 ≤ count f l
unfolding count among
count_listed f m fm [] e = absurd (false≢true e)
count_listed f m fm (x ∷ xs) e = go (count_listed f m fm xs) (f x) (eqb x m) refl refl e
  where
    go : (among m xs ≡ true → 1 ≤ count f xs) → (a b : Bool) → f x ≡ a → eqb x m ≡ b → b || among m xs ≡ true → 1 ≤ cond a (suc (count f xs)) (count f xs)
    go ih true b p q k = omega arith
    go ih false true p q k = absurd (false≢true (sym p ∙ ap f (eqb-true x m q) ∙ fm))
    go ih false false p q k = ih k

-- A test that only m passes finds only m where a wider one finds just one entry.
pub sole : (f g : ℕ → Bool) (m : ℕ) (l : List ℕ) → ((x : ℕ) → f x ≡ true → x ≡ m) → f m ≡ true → g m ≡ true → count g l ≡ 1 → among m l ≡ true
    → (count f l ≡ 1) × (first_of f l ≡ m)
sole f g m l only fm gm one e =
    let low : 1 ≤ count f l = count_listed f m fm l e in
    let high : count f l ≤ count g l = count_mono f g (λ x p. ap g (only x p) ∙ gm) l in
    (omega arith, only (first_of f l) (first_passes f l low))

or_right : (a b : Bool) → b ≡ true → a || b ≡ true
or_right true b e = refl
or_right false b e = e

-- two tests that agree on the listed entries find the same
pub count_same : (f g : ℕ → Bool) (l : List ℕ) → ((x : ℕ) → among x l ≡ true → f x ≡ g x) → (count f l ≡ count g l) × (first_of f l ≡ first_of g l)
unfolding count first_of among
count_same f g [] h = (refl, refl)
count_same f g (x ∷ xs) h =
    let t = count_same f g xs (λ y e. h y (or_right (eqb x y) (among y xs) e)) in
    let s : f x ≡ g x = h x (rw (eq-eqb x x refl)) in
    (rw (s, t.0), rw (s, t.1))

pub first_listed : (f : ℕ → Bool) (l : List ℕ) → 1 ≤ count f l → among (first_of f l) l ≡ true
unfolding count first_of among
first_listed f [] h = absurd (omega arith)
first_listed f (x ∷ xs) h = go (first_listed f xs) (f x) h
  where
    go : (1 ≤ count f xs → among (first_of f xs) xs ≡ true) → (b : Bool) → 1 ≤ cond b (suc (count f xs)) (count f xs)
        → eqb x (cond b x (first_of f xs)) || among (cond b x (first_of f xs)) xs ≡ true
    go ih true k = rw (eq-eqb x x refl)
    go ih false k = or_right (eqb x (first_of f xs)) (among (first_of f xs) xs) (ih k)
