-- The position from which the Laws' count runs, looked for back from the last action: as long as none was irreversible, what comes before decides.
-- Assumes nothing.
use mathlib.Core.Path.{◌≡◌, refl, ap, sym, ◌∙◌}
use mathlib.Core.Bool.{Bool, true, false, cond, ◌||◌}
use mathlib.Core.List.{List}
use Prim.Native.Nat.{ℕ, zero, suc, ◌+◌, ◌-◌, ◌≤◌, ◌<◌}
use native.Mathlib.Numerals.{add-one}
use native.Mathlib.Omega.{arith}
use lib.Dec.{leb}
use borrow.Author.Tests.{le-leb, lt-leb}
use Rattle.answer.specs.Parts.{item}
use Rattle.chess_move.specs.Number.{last_move}
use Rattle.actions.specs.Part.{move_at, moves_in}
use Rattle.actions.proofs.Counting.{one_more_lem}
use Rattle.position.specs.Layout.{Position, position_size, position_of, position_at}
use Rattle.claim.specs.Emptying.{irreversible, rights_differ}
use Rattle.claim.specs.CodeBack.{begun_by}
use Rattle.laws.specs.CodeSince.{laws_since}

pub since_start : (acts ps : List ℕ) → laws_since acts ps 0 ≡ 0
unfolding laws_since
since_start acts ps = refl

-- action i makes move m, or none
module _ (acts ps : List ℕ) (i m : ℕ) (read : m ≡ move_at acts i) where
  pub since_by_none : last_move < m → laws_since acts ps (i + 1) ≡ laws_since acts ps i
  unfolding laws_since
  since_by_none h = rw (add-one i, ← read, lt-leb m last_move h)

  since_by_move : m ≤ last_move → (k : ℕ) → k ≡ moves_in acts (i + 1)
      → laws_since acts ps (i + 1) ≡ cond (irreversible (position_at ps (k - 1)) m) k (laws_since acts ps i)
  unfolding laws_since
  since_by_move h k e =
      let f : k ≡ suc (moves_in acts i) = e ∙ one_more_lem acts i m read h ∙ add-one (moves_in acts i) in
      let g : k - 1 ≡ moves_in acts i = omega arith in
      rw (g, f, add-one i, ← read, le-leb m last_move h)

  -- t tells whether the move from p, which leads to position k, is irreversible
  module _ (h : m ≤ last_move) (k : ℕ) (counted : k ≡ moves_in acts (i + 1)) (p : List ℕ) (from : p ≡ item position_size ps (k - 1))
      (t : Bool) (told : t ≡ irreversible (position_of p) m) where
    since_told : laws_since acts ps (i + 1) ≡ cond t k (laws_since acts ps i)
    since_told =
        since_by_move h k counted
        ∙ ap (λ (u : Bool). cond u k (laws_since acts ps i)) (sym (told ∙ ap (λ (x : List ℕ). irreversible (position_of x) m) from))

    pub since_found : t ≡ true → laws_since acts ps (i + 1) ≡ k
    since_found e = since_told ∙ ap (λ (u : Bool). cond u k (laws_since acts ps i)) e

    pub since_passed : t ≡ false → laws_since acts ps (i + 1) ≡ laws_since acts ps i
    since_passed e = since_told ∙ ap (λ (u : Bool). cond u k (laws_since acts ps i)) e

-- the run has none, so that what is before it says it
pub since_begun : (acts ps : List ℕ) (n : ℕ) → laws_since acts ps (begun_by acts ps n) ≡ laws_since acts ps n
unfolding laws_since begun_by
since_begun acts ps zero = refl
since_begun acts ps (suc i) =
    go (since_begun acts ps i) (leb (move_at acts i) last_move) refl (irreversible p (move_at acts i)) refl (rights_differ p q)
  where
    p : Position
    p = position_at ps (moves_in acts i)

    q : Position
    q = position_at ps (suc (moves_in acts i))

    go : laws_since acts ps (begun_by acts ps i) ≡ laws_since acts ps i → (t : Bool) → leb (move_at acts i) last_move ≡ t
        → (u : Bool) → irreversible p (move_at acts i) ≡ u → (v : Bool)
        → laws_since acts ps (cond t (cond (u || v) (suc i) (begun_by acts ps i)) (begun_by acts ps i))
        ≡ cond t (cond u (suc (moves_in acts i)) (laws_since acts ps i)) (laws_since acts ps i)
    go was true e true f v = rw (e, f)
    go was true e false f true = rw (e, f)
    go was true e false f false = was
    go was false e u f v = was
