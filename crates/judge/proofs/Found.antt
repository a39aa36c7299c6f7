-- Laws of looking for an entry: one after the other.
-- Assumes nothing.
use mathlib.Core.Path.{◌≡◌, ap, sym, ◌∙◌}
use mathlib.Core.Bool.{Bool, true, false, cond}
use mathlib.Core.List.{List}
use Prim.Native.Nat.{ℕ, ◌+◌, ◌-◌, ◌≤◌, ◌<◌}
use native.Mathlib.Numerals.{add-one}
use native.Mathlib.Omega.{arith}
use lib.ListN.{length, get_or, drop, drop_of_length-le}
use lib.Seq.{drop-cons}
use borrow.Author.Tests.{eq-eqb, ne_eqb}
use Rattle.answer.specs.Numbers.{among}
use Rattle.move_laws.specs.Judge.{outside_at, twice_at, judged_as, judgement}

pub outside_turn : (list l : List ℕ) (i : ℕ) → i < length l → among (get_or l i 0) list ≡ true → outside_at list (drop i l) ≡ outside_at list (drop (i + 1) l)
unfolding outside_at
outside_turn list l i h e = rw (add-one i, drop-cons l i 0 h) (simp e)

pub outside_stop : (list l : List ℕ) (i : ℕ) → i < length l → among (get_or l i 0) list ≡ false → outside_at list (drop i l) ≡ get_or l i 0 + 1
unfolding outside_at
outside_stop list l i h e = rw (drop-cons l i 0 h) (simp e)

pub outside_end : (list l : List ℕ) (i : ℕ) → length l ≤ i → outside_at list (drop i l) ≡ 0
unfolding outside_at
outside_end list l i h = rw (drop_of_length-le l h)

pub twice_turn : (l : List ℕ) (i : ℕ) → i < length l → among (get_or l i 0) (drop (i + 1) l) ≡ false → twice_at (drop i l) ≡ twice_at (drop (i + 1) l)
unfolding twice_at
twice_turn l i h e =
    ap twice_at (drop-cons l i 0 h) ∙ ap (λ (n : ℕ). cond (among (get_or l i 0) (drop n l)) (get_or l i 0 + 1) (twice_at (drop n l))) (sym (add-one i))
    ∙ ap (λ (u : Bool). cond u (get_or l i 0 + 1) (twice_at (drop (i + 1) l))) e

pub twice_stop : (l : List ℕ) (i : ℕ) → i < length l → among (get_or l i 0) (drop (i + 1) l) ≡ true → twice_at (drop i l) ≡ get_or l i 0 + 1
unfolding twice_at
twice_stop l i h e =
    ap twice_at (drop-cons l i 0 h) ∙ ap (λ (n : ℕ). cond (among (get_or l i 0) (drop n l)) (get_or l i 0 + 1) (twice_at (drop n l))) (sym (add-one i))
    ∙ ap (λ (u : Bool). cond u (get_or l i 0 + 1) (twice_at (drop (i + 1) l))) e

pub twice_end : (l : List ℕ) (i : ℕ) → length l ≤ i → twice_at (drop i l) ≡ 0
unfolding twice_at
twice_end l i h = rw (drop_of_length-le l h)

-- what is found first is what is told
module _ (owed given : ℕ) (legal list : List ℕ) where
  pub told_stray : (x : ℕ) → outside_at legal list ≡ x + 1 → judged_as 0 owed (length legal) 1 x ≡ judgement owed given legal list
  unfolding judgement
  told_stray x e =
      let z : x + 1 - 1 ≡ x = omega arith in
      sym (simp (e, ne_eqb (x + 1) 0 (λ q. omega (arith, q)), z))

  module _ (none : outside_at legal list ≡ 0) where
    pub told_again : (x : ℕ) → twice_at list ≡ x + 1 → judged_as 0 owed (length legal) 2 x ≡ judgement owed given legal list
    unfolding judgement
    told_again x e =
        let z : x + 1 - 1 ≡ x = omega arith in
        sym (simp (none, e, ne_eqb (x + 1) 0 (λ q. omega (arith, q)), z))

    module _ (once : twice_at list ≡ 0) where
      pub told_missing : (x : ℕ) → outside_at list legal ≡ x + 1 → judged_as 0 owed (length legal) 3 x ≡ judgement owed given legal list
      unfolding judgement
      told_missing x e =
          let z : x + 1 - 1 ≡ x = omega arith in
          sym (simp (none, once, e, ne_eqb (x + 1) 0 (λ q. omega (arith, q)), z))

      module _ (all : outside_at list legal ≡ 0) where
        pub told_byte : (given ≡ owed → ⊥) → judged_as 0 owed (length legal) 4 0 ≡ judgement owed given legal list
        unfolding judgement
        told_byte n = sym (simp (none, once, all, ne_eqb given owed n))

        pub told_right : given ≡ owed → judged_as 0 owed (length legal) 0 0 ≡ judgement owed given legal list
        unfolding judgement
        told_right e = sym (simp (none, once, all, eq-eqb given owed e))
