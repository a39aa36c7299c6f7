-- Where the run begins, looked for from its end back: while no move emptied it, what comes before decides; and that is the run.
-- Assumes nothing.
use mathlib.Core.Path.{◌≡◌, refl, ap, ap₂, sym, ◌∙◌}
use mathlib.Core.Bool.{Bool, true, false, cond, not, ◌||◌}
use mathlib.Core.List.{List}
use Prim.Native.Nat.{ℕ, zero, suc, ◌+◌, ◌-◌, ◌≤◌, ◌<◌}
use native.Mathlib.Numerals.{add-one}
use native.Mathlib.Omega.{arith}
use lib.Dec.{eqb, leb}
use lib.ListN.{get_or}
use borrow.Author.Tests.{eq-eqb, eqb-true, le-leb, lt-leb, not-false}
use Rattle.answer.proofs.Numbers.{or_left, or_right}
use Rattle.board_builder.specs.BoardBuilder.{white_rights_at, black_rights_at}
use Rattle.chess_move.specs.Number.{last_move}
use Rattle.actions.specs.Part.{move_at, moves_in}
use Rattle.actions.proofs.Counting.{one_more_lem}
use Rattle.position.specs.Layout.{Position, position_at}
use Rattle.claim.specs.Emptying.{irreversible, rights_differ, empties_run}
use Rattle.claim.specs.Claim.{run_after, run_at}
use Rattle.claim.specs.CodeBack.{begun_by, run_begun_by}

abbrev white_rights : Position → ℕ
white_rights p = get_or p.board white_rights_at 0

abbrev black_rights : Position → ℕ
black_rights p = get_or p.board black_rights_at 0

pub rights_alike : (p : Position) → rights_differ p p ≡ false
unfolding rights_differ
rights_alike p = rw (eq-eqb (white_rights p) (white_rights p) refl, eq-eqb (black_rights p) (black_rights p) refl)

-- two positions with the same rights differ in them from any other alike
alike_differ : (p q c : Position) → rights_differ q c ≡ false → rights_differ p q ≡ rights_differ p c
unfolding rights_differ
alike_differ p q c e =
    let w : white_rights q ≡ white_rights c = eqb-true _ _ (not-false _ (or_left _ _ e)) in
    let b : black_rights q ≡ black_rights c = eqb-true _ _ (not-false _ (or_right (not (eqb (white_rights q) (white_rights c))) _ e)) in
    ap₂ (λ (x y : ℕ). not (eqb (white_rights p) x) || not (eqb (black_rights p) y)) w b

pub begun_start : (acts ps : List ℕ) → begun_by acts ps 0 ≡ 0
unfolding begun_by
begun_start acts ps = refl

-- action i makes move m, or none
module _ (acts ps : List ℕ) (i m : ℕ) (read : m ≡ move_at acts i) where
  pub begun_by_none : last_move < m → begun_by acts ps (i + 1) ≡ begun_by acts ps i
  unfolding begun_by
  begun_by_none h = rw (add-one i, ← read, lt-leb m last_move h)

  begun_by_move : m ≤ last_move → (k : ℕ) → k ≡ moves_in acts (i + 1)
      → begun_by acts ps (i + 1) ≡ cond (empties_run (position_at ps (k - 1)) m (position_at ps k)) (i + 1) (begun_by acts ps i)
  unfolding begun_by
  begun_by_move h k e =
      let f : k ≡ suc (moves_in acts i) = e ∙ one_more_lem acts i m read h ∙ add-one (moves_in acts i) in
      let g : k - 1 ≡ moves_in acts i = omega arith in
      rw (g, f, add-one i, ← read, le-leb m last_move h)

  -- the move leads to position k, which has the rights of the last one; t tells whether the move empties the run
  module _ (h : m ≤ last_move) (k : ℕ) (counted : k ≡ moves_in acts (i + 1)) (last : Position) (same : rights_differ (position_at ps k) last ≡ false)
      (t : Bool) (told : t ≡ empties_run (position_at ps (k - 1)) m last) where
    begun_told : begun_by acts ps (i + 1) ≡ cond t (i + 1) (begun_by acts ps i)
    begun_told =
        begun_by_move h k counted
        ∙ ap (λ (u : Bool). cond (irreversible (position_at ps (k - 1)) m || u) (i + 1) (begun_by acts ps i))
        (alike_differ (position_at ps (k - 1)) (position_at ps k) last same)
        ∙ ap (λ (u : Bool). cond u (i + 1) (begun_by acts ps i)) (sym told)

    pub begun_here : t ≡ true → begun_by acts ps (i + 1) ≡ i + 1
    begun_here e = begun_told ∙ ap (λ (u : Bool). cond u (i + 1) (begun_by acts ps i)) e

    pub begun_before : t ≡ false → begun_by acts ps (i + 1) ≡ begun_by acts ps i
    begun_before e = begun_told ∙ ap (λ (u : Bool). cond u (i + 1) (begun_by acts ps i)) e

    pub same_before : t ≡ false → rights_differ (position_at ps (k - 1)) last ≡ false
    same_before e = or_right (irreversible (position_at ps (k - 1)) m) (rights_differ (position_at ps (k - 1)) last) (sym told ∙ e)

-- what begins there is the run, and the count with it
pub run_is_begun : (acts ps : List ℕ) (n : ℕ) → run_begun_by acts (begun_by acts ps n) ≡ run_at acts ps n
unfolding begun_by run_at run_after moves_in
run_is_begun acts ps zero = refl
run_is_begun acts ps (suc i) = go (run_is_begun acts ps i) (leb (move_at acts i) last_move) refl (empties_run p (move_at acts i) q)
  where
    p : Position
    p = position_at ps (moves_in acts i)

    q : Position
    q = position_at ps (suc (moves_in acts i))

    go : run_begun_by acts (begun_by acts ps i) ≡ run_at acts ps i → (t : Bool) → leb (move_at acts i) last_move ≡ t → (u : Bool)
        → run_begun_by acts (cond t (cond u (suc i) (begun_by acts ps i)) (begun_by acts ps i))
        ≡ cond t (record { first = cond u (suc (moves_in acts i)) (run_at acts ps i).first; since = cond u (suc (moves_in acts i)) (run_at acts ps i).since })
        (run_at acts ps i)
    go was true e true =
        let s : moves_in acts (suc i) ≡ suc (moves_in acts i) = rw e in
        ap₂ (λ (x y : ℕ). record { first = x; since = y }) s s
    go was true e false = was
    go was false e u = was
