-- The walk, one token at a time.
-- Assumes nothing.
use mathlib.Core.Path.{◌≡◌, refl, ap, ◌∙◌}
use mathlib.Core.List.{List, [], ◌∷◌}
use Prim.Native.Nat.{ℕ, zero, suc, ◌+◌, ◌≤◌, ◌<◌}
use native.Mathlib.Numerals.{add-one}
use native.Mathlib.Omega.{arith}
use lib.ListN.{length, drop, get_or, drop_of_length-le}
use lib.Seq.{drop-cons, drop-drop}
use Rattle.pgn_text.specs.Token.{token_at}
use Rattle.pgn_text.specs.Walk.{Walk, at_end, met, walk}

-- what is left, from its first byte
first : (s : List ℕ) (at : ℕ) → at < length s → drop at s ≡ get_or s at 0 ∷ drop (at + 1) s
first s at h = rw (add-one at) (drop-cons s at 0 h)

-- the bytes of a token are passed over
pub walk_skip : (n at : ℕ) (os s : List ℕ) → walk n at os s ≡ walk 0 (at + n) os (drop n s)
unfolding walk
walk_skip zero at os s = let e : at + 0 ≡ at = omega arith in rw e
walk_skip (suc n) at os [] = refl
walk_skip (suc n) at os (b ∷ bs) =
    let e : at + 1 + n ≡ at + suc n = omega arith in
    walk_skip n (at + 1) os bs ∙ ap (λ (i : ℕ). walk 0 i os (drop n bs)) e

-- the walk over what follows it
abbrev pub beyond : List ℕ → ℕ → ℕ → List ℕ → Walk
beyond s at n os = walk n (at + 1) os (drop (at + 1) s)

module _ (s : List ℕ) (at : ℕ) where
  pub walk_at : at < length s → (os : List ℕ) → walk 0 at os (drop at s) ≡ met (token_at s at) at os (beyond s at)
  unfolding walk
  walk_at h os = rw (first s at h)

  pub walk_end : length s ≤ at → (os : List ℕ) → walk 0 at os (drop at s) ≡ at_end os
  unfolding walk
  walk_end h os = rw (drop_of_length-le s h)

  pub beyond_skip : (n : ℕ) (os : List ℕ) → beyond s at n os ≡ walk 0 (at + 1 + n) os (drop (at + 1 + n) s)
  beyond_skip n os = walk_skip n (at + 1) os (drop (at + 1) s) ∙ ap (walk 0 (at + 1 + n) os) (drop-drop n (at + 1) s)
