-- Laws of the count of equal positions in a run.
-- Assumes nothing.
use mathlib.Core.Path.{◌≡◌, refl, ◌∙◌}
use mathlib.Core.Bool.{Bool, true, false, cond}
use mathlib.Core.List.{List}
use Prim.Native.Nat.{ℕ, zero, suc, ◌+◌, ◌*◌, ◌-◌, ◌<◌, ◌≤◌}
use native.Mathlib.Omega.{arith}
use lib.Dec.{leb}
use lib.ListN.{length}
use Rattle.answer.specs.Parts.{item}
use Rattle.position.specs.Layout.{position_size, Position, position_of, position_at, positions_from}
use borrow.Author.Tests.{le-leb, lt-leb, leb-true, leb-false}
use Rattle.position.specs.Repeats.{equal, times, equals_two_earlier}

-- how many positions of the part, from first up to i, equal q
abbrev pub earlier : List ℕ → Position → ℕ → ℕ → ℕ
earlier ps q first i = times q (positions_from ps first (i - first))

module _ (ps : List ℕ) (q : Position) (first i : ℕ) (h : first ≤ i) where
  next_count : earlier ps q first (i + 1) ≡ cond (equal (position_at ps i) q) 1 0 + earlier ps q first i
  unfolding times positions_from
  next_count =
      let e : i + 1 - first ≡ suc (i - first) = omega arith in
      let f : first + (i - first) ≡ i = omega arith in
      rw (e, f)

  pub earlier_equal : equal (position_at ps i) q ≡ true → earlier ps q first (i + 1) ≡ suc (earlier ps q first i)
  earlier_equal e = let g : _ = next_count in rw e at g ∙ omega arith

  pub earlier_other : equal (position_at ps i) q ≡ false → earlier ps q first (i + 1) ≡ earlier ps q first i
  earlier_other e = let g : _ = next_count in rw e at g ∙ omega arith

pub earlier_none : (ps : List ℕ) (q : Position) (first : ℕ) → earlier ps q first first ≡ 0
unfolding times positions_from
earlier_none ps q first = let e : first - first ≡ 0 = omega arith in rw e

-- counting further never lowers the count
pub earlier_grows : (ps : List ℕ) (q : Position) (first i k : ℕ) → first ≤ i → earlier ps q first i ≤ earlier ps q first (i + k)
earlier_grows ps q first i zero h = let e : i + 0 ≡ i = omega arith in rw e (omega arith)
earlier_grows ps q first i (suc k) h =
    let e : i + suc k ≡ i + k + 1 = omega arith in
    rw e (go (earlier_grows ps q first i k h) (equal (position_at ps (i + k)) q) refl)
  where
    go : earlier ps q first i ≤ earlier ps q first (i + k)
        → (t : Bool) → equal (position_at ps (i + k)) q ≡ t → earlier ps q first i ≤ earlier ps q first (i + k + 1)
    go more true e = omega (arith, earlier_equal ps q first (i + k) (omega arith) e)
    go more false e = omega (arith, earlier_other ps q first (i + k) (omega arith) e)

-- what a comparison of two parts says about the positions there
pub equal_at : (ps : List ℕ) (i last : ℕ) (x y : List ℕ) (r t : Bool)
    → x ≡ item position_size ps i → y ≡ item position_size ps last → r ≡ equal (position_of x) (position_of y) → r ≡ t
    → equal (position_at ps i) (position_at ps last) ≡ t
equal_at ps i last x y r t ex ey e h = cc

-- the iterations of the search
module _ (ps : List ℕ) (q : Position) (first i : ℕ) where
  pub turn_equal : first ≤ i → equal (position_at ps i) q ≡ true → earlier ps q first i ≡ 0 → earlier ps q first (i + 1) ≤ 1
  turn_equal h e z = omega (arith, earlier_equal ps q first i h e)

  pub turn_other : first ≤ i → equal (position_at ps i) q ≡ false → earlier ps q first i ≤ 1 → earlier ps q first (i + 1) ≤ 1
  turn_other h e z = omega (arith, earlier_other ps q first i h e)

  -- an equal position at j and one at i after it make two
  pub two_found : (j last : ℕ) → first ≤ j → j < i → i < last → equal (position_at ps j) q ≡ true → equal (position_at ps i) q ≡ true
      → 2 ≤ earlier ps q first last
  two_found j last hj hi hl ej ei =
      let a : i ≡ j + 1 + (i - (j + 1)) = omega arith in
      let b : last ≡ i + 1 + (last - (i + 1)) = omega arith in
      let g : earlier ps q first (j + 1) ≤ earlier ps q first i =
      rw (← a) at (earlier_grows ps q first (j + 1) (i - (j + 1)) (omega arith)) in
      let k : earlier ps q first (i + 1) ≤ earlier ps q first last =
      rw (← b) at (earlier_grows ps q first (i + 1) (last - (i + 1)) (omega arith)) in
      omega (arith, earlier_equal ps q first j hj ej, earlier_equal ps q first i (omega arith) ei)

  pub one_found : (last : ℕ) → i ≡ last → earlier ps q first i ≤ 1 → leb 2 (earlier ps q first last) ≡ false
  one_found last e h = rw (← e) (lt-leb 2 (earlier ps q first i) (omega arith))

-- the public answer, in its three cases
module _ (ps : List ℕ) (first last : ℕ) where
  pub not_there : length ps < position_size * last + position_size → equals_two_earlier ps first last ≡ false
  unfolding equals_two_earlier
  not_there h = rw (lt-leb _ _ h) refl

  pub there : position_size * last + position_size ≤ length ps
      → equals_two_earlier ps first last ≡ leb 2 (times (position_at ps last) (positions_from ps first (last - first)))
  unfolding equals_two_earlier
  there h = rw (le-leb _ _ h) refl

  pub none_earlier : position_size * last + position_size ≤ length ps → last < first → equals_two_earlier ps first last ≡ false
  unfolding times positions_from
  none_earlier h less = let e : last - first ≡ 0 = omega arith in there h ∙ rw e refl

  -- the two answers of the search over what lies in the part
  pub one_there : (i : ℕ) → position_size * last + position_size ≤ length ps → last ≤ i → (first ≤ last → i ≤ last)
      → earlier ps (position_at ps last) first i ≤ 1 → equals_two_earlier ps first last ≡ false
  one_there i h end within few = go (leb first last) refl
    where
      go : (t : Bool) → leb first last ≡ t → equals_two_earlier ps first last ≡ false
      go true e = there h ∙ one_found ps (position_at ps last) first i last (omega (arith, within (leb-true first last e))) few
      go false e = none_earlier h (omega (arith, leb-false first last e))

  pub two_there : (i j : ℕ) → position_size * last + position_size ≤ length ps → first ≤ j → j < i → i < last
      → equal (position_at ps j) (position_at ps last) ≡ true → equal (position_at ps i) (position_at ps last) ≡ true
      → equals_two_earlier ps first last ≡ true
  two_there i j h low apart high ej ei = there h ∙ le-leb 2 _ (two_found ps (position_at ps last) first i j last low apart high ej ei)
