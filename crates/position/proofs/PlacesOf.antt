-- Laws of the numbers of the equal positions in a run.
-- Assumes nothing.
use mathlib.Core.Path.{◌≡◌, refl, sym, ◌∙◌, ap}
use mathlib.Core.Bool.{Bool, true, false, cond}
use mathlib.Core.List.{List, [], ◌∷◌, ◌++◌, append-nil}
use Prim.Native.Nat.{ℕ, zero, suc, ◌+◌, ◌*◌, ◌-◌, ◌<◌, ◌≤◌, max}
use native.Mathlib.Omega.{arith}
use lib.ListN.{length, length-append}
use borrow.Author.Tests.{le-leb, lt-leb, leb-true, leb-false}
use lib.Dec.{leb}
use Rattle.position.specs.declared.Places.{Places}
use Rattle.position.specs.Layout.{position_size, Position, position_at, positions_from}
use Rattle.position.specs.Repeats.{equal, times}
use Rattle.position.specs.Places.{places_of, places_told, equal_places}

-- as many numbers as there are equal positions
pub places_times : (p : Position) (top : ℕ) (qs : List Position) → length (places_of p top qs) ≡ times p qs
unfolding places_of times
places_times p top [] = refl
places_times p top (q ∷ qs) =
    length-append (places_of p (top - 1) qs) (cond (equal q p) ((top - 1) ∷ []) [])
    ∙ go (places_times p (top - 1) qs) (equal q p)
  where
    go : length (places_of p (top - 1) qs) ≡ times p qs
        → (t : Bool) → length (places_of p (top - 1) qs) + length (cond t ((top - 1) ∷ []) []) ≡ cond t 1 0 + times p qs
    go e true = omega (arith, e)
    go e false = omega (arith, e)

times_most : (ps : List ℕ) (q : Position) (first k : ℕ) → times q (positions_from ps first k) ≤ k
unfolding times positions_from
times_most ps q first zero = omega arith
times_most ps q first (suc k) = go (times_most ps q first k) (equal (position_at ps (first + k)) q)
  where
    go : times q (positions_from ps first k) ≤ k → (t : Bool) → cond t 1 0 + times q (positions_from ps first k) ≤ suc k
    go h true = omega (arith, h)
    go h false = omega (arith, h)

-- the numbers of those from first up to i that equal q
abbrev pub numbers : List ℕ → Position → ℕ → ℕ → List ℕ
numbers ps q first i = places_of q i (positions_from ps first (i - first))

module _ (ps : List ℕ) (q : Position) (first i : ℕ) where
  numbers_next : first ≤ i → numbers ps q first (i + 1) ≡ numbers ps q first i ++ cond (equal (position_at ps i) q) (i ∷ []) []
  unfolding places_of positions_from
  numbers_next h =
      let e : i + 1 - first ≡ suc (i - first) = omega arith in
      let f : first + (i - first) ≡ i = omega arith in
      let g : i + 1 - 1 ≡ i = omega arith in
      rw (e, f, g) refl

  pub told_next : (r : Places) (t : Bool) → first ≤ i → equal (position_at ps i) q ≡ t
      → r ≡ places_told (numbers ps q first i ++ cond t (i ∷ []) []) → r ≡ places_told (numbers ps q first (i + 1))
  told_next r t h e is = is ∙ ap places_told (sym (rw e at (numbers_next h)))

  pub told_same : (r : Places) → first ≤ i → equal (position_at ps i) q ≡ false
      → r ≡ places_told (numbers ps q first i) → r ≡ places_told (numbers ps q first (i + 1))
  told_same r h e is = told_next r false h e (is ∙ ap places_told (sym (append-nil (numbers ps q first i))))

  -- no more of them than positions, so that the count fits
  pub told_most : (f : Places) → f ≡ places_told (numbers ps q first i) → f.count ≤ i - first
  told_most f is =
      rw is (omega (arith, places_times q i (positions_from ps first (i - first)), times_most ps q first (i - first)))

pub told_none : (ps : List ℕ) (q : Position) (first : ℕ) → places_told [] ≡ places_told (numbers ps q first first)
unfolding places_of positions_from
told_none ps q first = let e : first - first ≡ 0 = omega arith in rw e refl

-- the public answer, in its three cases
module _ (ps : List ℕ) (first last : ℕ) where
  pub places_not_there : length ps < position_size * last + position_size → equal_places ps first last ≡ places_told []
  unfolding equal_places
  places_not_there h = rw (lt-leb _ _ h) refl

  pub places_there : position_size * last + position_size ≤ length ps
      → equal_places ps first last ≡ places_told (numbers ps (position_at ps last) first last)
  unfolding equal_places
  places_there h = rw (le-leb _ _ h) refl

  pub no_places : position_size * last + position_size ≤ length ps → last < first → equal_places ps first last ≡ places_told []
  unfolding places_of positions_from
  no_places h less = let e : last - first ≡ 0 = omega arith in places_there h ∙ rw e refl

  pub told_all : (i : ℕ) (r : Places) → position_size * last + position_size ≤ length ps → last ≤ i → first ≤ i → i ≤ max first last
      → r ≡ places_told (numbers ps (position_at ps last) first i) → r ≡ equal_places ps first last
  told_all i r h end low high is = go (leb first last) refl
    where
      go : (t : Bool) → leb first last ≡ t → r ≡ equal_places ps first last
      go true e = let f : i ≡ last = omega (arith, leb-true first last e) in rw f at is ∙ sym (places_there h)
      go false e =
          let f : i ≡ first = omega (arith, leb-false first last e) in
          rw f at is
          ∙ sym (told_none ps (position_at ps last) first)
          ∙ sym (no_places h (omega (arith, leb-false first last e)))
