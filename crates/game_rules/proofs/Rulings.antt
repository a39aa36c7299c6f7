-- The count and the run, read off the bytes, are those of the history: the count is of the moves since a position, the run begins at one.
-- Assumes nothing.
use Rattle.std.specs.Prelude.{Option, Some, None}
use mathlib.Core.Path.{◌≡◌, refl, ap, sym, ◌∙◌}
use mathlib.Core.Bool.{Bool, true, false, cond}
use mathlib.Core.List.{List, [], ◌∷◌}
use Prim.Native.Nat.{ℕ, zero, suc, ◌+◌, ◌*◌, ◌-◌, ◌≤◌}
use native.Mathlib.Omega.{arith}
use lib.Dec.{leb}
use lib.ListN.{length}
use borrow.Author.Tests.{le-leb}
use Rattle.chess_move.specs.Number.{last_move, number_answer}
use Rattle.action.specs.declared.Action.{Action}
use Rattle.action.specs.declared.Action.TheVariants.{MakeMove, OfferDraw, AcceptDraw, DeclareDraw, Resign}
use Rattle.action.specs.Layout.{action_size}
use Rattle.actions.specs.Part.{action_at, move_held, moves_in}
use Rattle.actions.proofs.Counting.{value_most}
use Rattle.position.specs.Layout.{Position, position_size, position_at, positions_from}
use Rattle.position.specs.Repeats.{equals_two_earlier}
use Rattle.claim.specs.declared.Run.{Run}
use Rattle.claim.specs.Emptying.{empties_count, empties_run}
use Rattle.claim.specs.Claim.{run_after, run_at, claim_in, claim_at}
use Rattle.game_rules.specs.Rules.{make_move, Ruling, ruling, ruled_call, claim_stands}
use Rattle.game_rules.specs.Good.{call_of, call_at, history_of}
use Rattle.game_rules.proofs.Log.{current_at}

-- a run is the ruling of a history that ends with position m
pub record RunIs (ps : List ℕ) (m : ℕ) (R : Ruling) (r : Run) : Type 0 where
  pub counted : R.count ≡ m - r.since
  pub holds : R.run ≡ positions_from ps r.first (suc m - r.first)
  pub begins : r.first ≤ m
  pub since_most : r.since ≤ m

-- a move from position m to the next
run_moves : (ps : List ℕ) (m : ℕ) (R : Ruling) (r : Run) (k : ℕ) → RunIs ps m R r
    → RunIs ps (suc m) (ruled_call R (position_at ps m) (make_move k (position_at ps (suc m))))
    (run_after (position_at ps m) k (position_at ps (suc m)) (suc m) r)
unfolding run_after positions_from
run_moves ps m R r k was =
    record {
      counted = counted_by (empties_count p k q);
      holds = holds_by (empties_run p k q);
      begins = begins_by (empties_run p k q);
      since_most = since_by (empties_count p k q);
    }
  where
    p : Position
    p = position_at ps m

    q : Position
    q = position_at ps (suc m)

    counted_by : (t : Bool) → cond t 0 (suc R.count) ≡ suc m - cond t (suc m) r.since
    counted_by true = omega arith
    counted_by false = omega (arith, was.counted, was.since_most)

    holds_by : (t : Bool) → position_at ps (suc m) ∷ cond t [] R.run ≡ positions_from ps (cond t (suc m) r.first) (suc (suc m) - cond t (suc m) r.first)
    holds_by true =
        let e : suc (suc m) - suc m ≡ suc 0 = omega arith in
        let f : suc m + 0 ≡ suc m = omega arith in
        rw (e, f)
    holds_by false =
        let e : suc (suc m) - r.first ≡ suc (suc m - r.first) = omega (arith, was.begins) in
        let f : r.first + (suc m - r.first) ≡ suc m = omega (arith, was.begins) in
        rw (e, f) (ap (λ (l : List Position). position_at ps (suc m) ∷ l) was.holds)

    begins_by : (t : Bool) → cond t (suc m) r.first ≤ suc m
    begins_by true = omega arith
    begins_by false = omega (arith, was.begins)

    since_by : (t : Bool) → cond t (suc m) r.since ≤ suc m
    since_by true = omega arith
    since_by false = omega (arith, was.since_most)

-- any action
run_steps : (ps : List ℕ) (m : ℕ) (R : Ruling) (r : Run) (s : Option Action) → RunIs ps m R r
    → RunIs ps (cond (leb (move_held s) last_move) (suc m) m) (ruled_call R (position_at ps m) (call_of s (position_at ps (suc m))))
    (cond (leb (move_held s) last_move) (run_after (position_at ps m) (move_held s) (position_at ps (suc m)) (suc m) r) r)
run_steps ps m R r (Some (MakeMove x)) was = rw (value_most x) (run_moves ps m R r (number_answer x).value was)
run_steps ps m R r (Some (OfferDraw c)) was = was
run_steps ps m R r (Some AcceptDraw) was = was
run_steps ps m R r (Some DeclareDraw) was = was
run_steps ps m R r (Some (Resign c)) was = was
run_steps ps m R r None was = was

pub run_is : (acts ps : List ℕ) (n : ℕ) → RunIs ps (moves_in acts n) (ruling (history_of acts ps n)) (run_at acts ps n)
unfolding ruling history_of moves_in run_at call_at positions_from
run_is acts ps zero = record { counted = refl; holds = refl; begins = omega arith; since_most = omega arith }
run_is acts ps (suc i) =
    rw (current_at acts ps i) (run_steps ps (moves_in acts i) (ruling (history_of acts ps i)) (run_at acts ps i) (action_at acts i) (run_is acts ps i))

-- a claim, read off the run
pub claim_is : (acts ps : List ℕ) (n m : ℕ) → m ≡ moves_in acts n → action_size * n ≤ length acts → position_size * m + position_size ≤ length ps
    → claim_at acts ps n m ≡ claim_stands (history_of acts ps n)
unfolding claim_at claim_in claim_stands equals_two_earlier positions_from
claim_is acts ps n m counted ha hp =
    let was = run_is acts ps n in
    let r : Run = run_at acts ps n in
    let e : m - r.since ≡ (ruling (history_of acts ps n)).count = ap (λ (k : ℕ). k - r.since) counted ∙ sym was.counted in
    let l : suc m - r.first ≡ suc (m - r.first) = omega (arith, was.begins) in
    let k : r.first + (m - r.first) ≡ m = omega (arith, was.begins) in
    let h : (ruling (history_of acts ps n)).run ≡ positions_from ps r.first (suc m - r.first) = rw counted was.holds in
    rw (le-leb _ _ ha, le-leb _ _ hp, e, h, l, k)
