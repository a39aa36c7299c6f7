-- Whether the first n actions are held, one after the other.
-- Assumes nothing.
use mathlib.Core.Path.{◌≡◌, refl, ap, sym, subst, ◌∙◌}
use mathlib.Core.Bool.{Bool, true, false, ◌&&◌}
use mathlib.Core.List.{List}
use lib.ListN.{length, get_or}
use Rattle.std.specs.Bool.{MatchBool}
use Rattle.std.specs.List.{AllWithin, HoldsAt, range_with_len}
use Rattle.std.proofs.lemmas.List.FromFn.{length-range_with_len, get_or-range_with_len}
use Prim.Native.Nat.{ℕ, zero, suc, ◌+◌, ◌≤◌, ◌<◌}
use native.Mathlib.Numerals.{add-one}
use native.Mathlib.Omega.{arith}
use lib.Dec.{eqb}
use borrow.Author.Tests.{eqb-true, eqb-false}
use Rattle.actions.specs.Part.{action_at, is_held, actions_held}

pub held_none : (acts : List ℕ) → actions_held acts 0 ≡ true
unfolding actions_held
held_none acts = refl

pub held_turn : (acts : List ℕ) (i : ℕ) → actions_held acts i ≡ true → is_held (action_at acts i) ≡ true → actions_held acts (i + 1) ≡ true
unfolding actions_held
held_turn acts i h k = rw (add-one i, h, k) refl

and_false : (t : Bool) → (t && false) ≡ false
and_false true = refl
and_false false = refl

pub held_stop : (acts : List ℕ) (n i : ℕ) → i < n → is_held (action_at acts i) ≡ false → actions_held acts n ≡ false
unfolding actions_held
held_stop acts zero i h k = absurd (omega arith)
held_stop acts (suc n) i h k = go (eqb i n) refl (held_stop acts n i)
  where
    go : (t : Bool) → eqb i n ≡ t → (i < n → is_held (action_at acts i) ≡ false → actions_held acts n ≡ false)
        → (actions_held acts n && is_held (action_at acts n)) ≡ false
    go true e rec =
        let last : is_held (action_at acts n) ≡ false = ap (λ (j : ℕ). is_held (action_at acts j)) (sym (eqb-true i n e)) ∙ k in
        rw last (and_false (actions_held acts n))
    go false e rec = rw (rec (before (eqb-false i n e)) k) refl
      where
        before : (i ≡ n → ⊥) → i < n
        before d = omega arith

pub held_all : (acts : List ℕ) (n i : ℕ) → n ≤ i → i ≤ n → actions_held acts i ≡ true → actions_held acts n ≡ true
held_all acts n i h k e = let same : n ≡ i = omega arith in rw same e

pub held_each : (acts : List ℕ) (n : ℕ) → ((i : ℕ) → i < n → is_held (action_at acts i) ≡ true) → actions_held acts n ≡ true
unfolding actions_held
held_each acts zero each = refl
held_each acts (suc n) each = rw (held_each acts n (λ i h. each i (omega arith)), each n (omega arith)) refl

-- what a search for one that is not held answers
abbrev pub IsHeld : List ℕ → Bool → ℕ → Type 0
IsHeld acts b i = is_held (action_at acts i) ≡ b

-- the number at a place below n
counted : (n i : ℕ) → i < n → get_or (range_with_len 0 n) i 0 ≡ i
counted n i h = get_or-range_with_len 0 n i 0 h ∙ omega arith

pub held_found : (acts : List ℕ) (n : ℕ) (r : Bool) → MatchBool r (AllWithin (IsHeld acts true) (range_with_len 0 n) 0 (length (range_with_len 0 n)))
    ((k : ℕ) × (k < length (range_with_len 0 n)) × HoldsAt (IsHeld acts false) (range_with_len 0 n) k) → r ≡ actions_held acts n
held_found acts n true all =
    sym (held_each acts n (λ i h. subst (IsHeld acts true) (counted n i h) (all i 0 (omega arith) (rw length-range_with_len h))))
held_found acts n false (k, less, at) =
    let h : k < n = rw length-range_with_len at less in
    sym (held_stop acts n k h (subst (IsHeld acts false) (counted n k h) (at 0)))
