-- The brackets before a move, by the levels from which it is found.
-- Assumes nothing.
use Prim.Native.Nat.{ℕ, ◌+◌, ◌≤◌, ◌<◌}
use mathlib.Core.Path.{◌≡◌, refl, ap, sym, ◌∙◌}
use mathlib.Core.Bool.{Bool, true, false}
use mathlib.Core.List.{List}
use native.Mathlib.Omega.{arith}
use lib.Dec.{leb}
use borrow.Author.Tests.{eq-eqb, ne_eqb, leb-true, leb-false}
use Rattle.pgn_text.specs.declared.PgnMove.{PgnMove}
use Rattle.pgn_text.specs.declared.PgnNext.{PgnNext}
use Rattle.pgn_text.specs.Walk.{Walk, found, ended, walk_from, first_move, next_move, no_move_found, move_found}
use Rattle.pgn_text.specs.Between.{crossing, crossed_from, across_to, across_with, next_across, LevelsCrossed}
use Rattle.pgn_text.proofs.Between.{crossed_leads_to_the_move, found_from_lower}

-- an answer is of a move or of none
found_as : (v : Walk) → ((first_move v).found ≡ 0 → ⊥) → first_move v ≡ move_found (first_move v).start (first_move v).length (first_move v).level
unfolding first_move move_found no_move_found
found_as (ended number offset) z = absurd (z refl)
found_as (found start size level w) z = refl

found_one : (v : Walk) → ((first_move v).found ≡ 0 → ⊥) → (first_move v).found ≡ 1
unfolding first_move move_found no_move_found
found_one (ended number offset) z = absurd (z refl)
found_one (found start size level w) z = refl

module _ (text : List ℕ) (offset : ℕ) where
  -- where a move is found, the levels crossed lead to it
  leads : (level : ℕ) → ((next_move text offset level).found ≡ 0 → ⊥) → LevelsCrossed text offset level (next_move text offset level).level
  unfolding next_move
  leads level z = crossed_leads_to_the_move text offset level _ _ _ (found_as (walk_from text offset level) z)

  module _ (level : ℕ) (m : PgnMove) (is : m ≡ next_move text offset level) (some : m.found ≡ 0 → ⊥) where
    some_there : (next_move text offset level).found ≡ 0 → ⊥
    some_there z = some (ap (λ (x : PgnMove). x.found) is ∙ z)

    one_there : (next_move text offset level).found ≡ 1
    unfolding next_move
    one_there = found_one (walk_from text offset level) some_there

    -- where it is not found from a level under the place's, more are left
    pub more_left : (lower : ℕ) → lower < level → lower ≤ (crossed_from text offset).closed → (next_move text offset lower).found ≡ 0
        → lower + 1 ≤ (crossed_from text offset).closed
    more_left lower h l z = go (leb (crossed_from text offset).closed lower) refl
      where
        go : (t : Bool) → leb (crossed_from text offset).closed lower ≡ t → lower + 1 ≤ (crossed_from text offset).closed
        go true e =
            let one = found_from_lower text offset level lower one_there (omega (arith, h)) (leb-true _ _ e) in
            let no : ◌≡◌ {A = ℕ} 0 1 = sym z ∙ one in
            absurd (omega (arith, no))
        go false e =
            let b : lower < (crossed_from text offset).closed = leb-false (crossed_from text offset).closed lower e in
            omega (arith, b)

    -- the answer
    module _ (r : PgnNext) where
      told : (closed opened : ℕ) → crossing closed opened ≡ crossed_from text offset → r ≡ across_to m (crossing closed opened)
          → r ≡ next_across text offset level
      unfolding next_across across_with
      told closed opened x e = rw (← is, ne_eqb _ _ some, ← x) e

      pub at_lower : (lower : ℕ) (n : PgnMove) → n ≡ next_move text offset lower → (n.found ≡ 0 → ⊥) → lower ≤ (crossed_from text offset).closed
          → r ≡ across_to m (crossing lower n.level) → r ≡ next_across text offset level
      at_lower lower n i z l e =
          let c = leads lower (λ y. z (ap (λ (x : PgnMove). x.found) i ∙ y)) in
          let v = ap (λ (x : PgnMove). x.level) i in
          let closed : lower ≡ (crossed_from text offset).closed = omega (arith, l, c.left) in
          let opened : n.level ≡ (crossed_from text offset).opened = omega (arith, closed, c.entered, v) in
          told lower n.level (crossed_so lower n.level closed opened) e
        where
          crossed_so : (a b : ℕ) → a ≡ (crossed_from text offset).closed → b ≡ (crossed_from text offset).opened → crossing a b ≡ crossed_from text offset
          crossed_so a b p q = rw (p, q)

      pub at_level : level ≤ (crossed_from text offset).closed → r ≡ across_to m (crossing level m.level) → r ≡ next_across text offset level
      at_level l e = at_lower level m is some l e

pub across_none : (text : List ℕ) (offset level : ℕ) (m : PgnMove) → m ≡ next_move text offset level → m.found ≡ 0 → (r : PgnNext)
    → r ≡ across_to m (crossing 0 0) → r ≡ next_across text offset level
unfolding next_across across_with
across_none text offset level m is z r e = rw (← is, eq-eqb _ _ z) e
