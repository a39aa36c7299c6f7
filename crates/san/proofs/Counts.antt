-- The count and the first of the entries that pass a test, by place, for a loop over the list.
-- Assumes nothing.
use Prim.Native.Nat.{ℕ, suc, ◌+◌, ◌≤◌, ◌<◌}
use mathlib.Core.Path.{◌≡◌, refl, ◌∙◌}
use mathlib.Core.Bool.{Bool, true, false, cond}
use mathlib.Core.List.{List, [], ◌∷◌}
use native.Mathlib.Omega.{arith}
use native.Mathlib.Numerals.{add-one}
use lib.Dec.{eqb}
use lib.ListN.{length, get_or, drop, drop_of_length-le}
use lib.Seq.{drop-cons}
use borrow.Author.Tests.{ne_eqb, eqb-true}
use Rattle.move_list.specs.MoveList.{count, first_of}
use Rattle.san.specs.declared.resolve.Fitting.{Fitting}
use Rattle.san.specs.CodeFitting.{with_entry}

-- `f` is the count and the first of the entries before place i
pub record CountedTo (g : ℕ → Bool) (l : List ℕ) (i : ℕ) (f : Fitting) : Type 0 where
  pub few : f.count ≤ i
  pub counts : f.count + count g (drop i l) ≡ count g l
  pub first : cond (eqb f.count 0) (first_of g (drop i l)) f.first ≡ first_of g l
  pub none : f.count ≡ 0 → f.first ≡ 0

module _ (g : ℕ → Bool) (l : List ℕ) where
  pub counted_start : CountedTo g l 0 (record { count = 0; first = 0 })
  counted_start = record { few = omega arith; counts = omega arith; first = refl; none = λ e. refl }

  -- one more entry, which passes or not
  pub counted_turn : (i : ℕ) (f : Fitting) → i < length l → CountedTo g l i f → CountedTo g l (i + 1) (with_entry f (g (get_or l i 0)) (get_or l i 0))
  unfolding count first_of with_entry
  counted_turn i f h inv = rw (add-one i) (go (g x) refl)
    where
      x : ℕ
      x = get_or l i 0

      n : ℕ
      n = f.count

      here : drop i l ≡ x ∷ drop (suc i) l
      here = drop-cons l i 0 h

      never : n + 1 ≡ 0 → ⊥
      never z = omega arith

      go : (b : Bool) → g x ≡ b → CountedTo g l (suc i) (with_entry f b x)
      go true e =
          let few = inv.few in
          let counts : n + suc (count g (drop (suc i) l)) ≡ count g l = rw (here, e) at inv.counts in
          let first : cond (eqb n 0) x f.first ≡ first_of g l = rw (here, e) at inv.first in
          record { few = omega arith; counts = omega arith; first = rw (ne_eqb (n + 1) 0 never) first; none = λ z. absurd (never z) }
      go false e =
          let few = inv.few in
          record { few = omega arith; counts = rw (here, e) at inv.counts; first = rw (here, e) at inv.first; none = inv.none }

  pub counted_pass : (i : ℕ) (f : Fitting) → i < length l → g (get_or l i 0) ≡ false → CountedTo g l i f → CountedTo g l (i + 1) f
  unfolding with_entry
  counted_pass i f h e inv = rw e at (counted_turn i f h inv)

  pub counted_end : (i : ℕ) (f : Fitting) → length l ≤ i → CountedTo g l i f → (f.count ≡ count g l) × (f.first ≡ first_of g l)
  unfolding count first_of
  counted_end i f h inv = (omega (arith, c), go (eqb f.count 0) refl)
    where
      done : drop i l ≡ []
      done = drop_of_length-le l h

      c : f.count + 0 ≡ count g l
      c = rw done at inv.counts

      go : (b : Bool) → eqb f.count 0 ≡ b → f.first ≡ first_of g l
      go true e =
          let z : f.count ≡ 0 = eqb-true f.count 0 e in
          let k : 0 ≡ first_of g l = rw (e, done) at inv.first in
          inv.none z ∙ k
      go false e = rw e at inv.first
