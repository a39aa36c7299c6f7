-- The Laws' count of the history that a log's bytes are read as: of the moves since the position that the bytes tell. For any bytes.
-- Assumes nothing.
use Rattle.std.specs.Prelude.{Option, Some, None}
use mathlib.Core.Path.{◌≡◌, refl}
use mathlib.Core.Bool.{Bool, true, false, cond}
use mathlib.Core.List.{List, ◌∷◌}
use Prim.Native.Nat.{ℕ, zero, suc, ◌-◌, ◌≤◌}
use native.Mathlib.Omega.{arith}
use lib.Dec.{leb}
use Rattle.chess_move.specs.Number.{last_move, number_answer}
use Rattle.action.specs.declared.Action.{Action}
use Rattle.action.specs.declared.Action.TheVariants.{MakeMove, OfferDraw, AcceptDraw, DeclareDraw, Resign}
use Rattle.actions.specs.Part.{action_at, move_held, moves_in}
use Rattle.actions.proofs.Counting.{value_most}
use Rattle.position.specs.Layout.{Position, position_at}
use Rattle.claim.specs.Emptying.{irreversible}
use Rattle.game_rules.specs.Good.{call_of, call_at, history_of}
use Rattle.game_rules.proofs.Log.{current_at}
use Rattle.laws.specs.Laws.{Made, made_by, moves_made, since_last, laws_count}
use Rattle.laws.specs.CodeSince.{laws_since}

-- of the moves that led to position m, as many are counted as were made since position s
record SinceIs (m : ℕ) (made : List Made) (s : ℕ) : Type 0 where
  pub counted : since_last made ≡ m - s
  pub most : s ≤ m

-- a move from position m to the next
since_moves : (p q : Position) (m : ℕ) (made : List Made) (s k : ℕ) → SinceIs m made s
    → SinceIs (suc m) (record { from = p; move = k; to = q } ∷ made) (cond (irreversible p k) (suc m) s)
unfolding since_last
since_moves p q m made s k was = record { counted = counted_by (irreversible p k); most = most_by (irreversible p k) }
  where
    counted_by : (t : Bool) → cond t 0 (suc (since_last made)) ≡ suc m - cond t (suc m) s
    counted_by true = omega arith
    counted_by false = omega (arith, was.counted, was.most)

    most_by : (t : Bool) → cond t (suc m) s ≤ suc m
    most_by true = omega arith
    most_by false = omega (arith, was.most)

-- any action
since_steps : (p q : Position) (m : ℕ) (made : List Made) (s : ℕ) (a : Option Action) → SinceIs m made s
    → SinceIs (cond (leb (move_held a) last_move) (suc m) m) (made_by p (call_of a q) made)
    (cond (leb (move_held a) last_move) (cond (irreversible p (move_held a)) (suc m) s) s)
since_steps p q m made s (Some (MakeMove x)) was = rw (value_most x) (since_moves p q m made s (number_answer x).value was)
since_steps p q m made s (Some (OfferDraw c)) was = was
since_steps p q m made s (Some AcceptDraw) was = was
since_steps p q m made s (Some DeclareDraw) was = was
since_steps p q m made s (Some (Resign c)) was = was
since_steps p q m made s None was = was

since_is : (acts ps : List ℕ) (n : ℕ) → SinceIs (moves_in acts n) (moves_made (history_of acts ps n)) (laws_since acts ps n)
unfolding moves_made history_of moves_in laws_since call_at since_last
since_is acts ps zero = record { counted = refl; most = omega arith }
since_is acts ps (suc i) =
    rw (current_at acts ps i)
    (since_steps (position_at ps (moves_in acts i)) (position_at ps (suc (moves_in acts i))) (moves_in acts i) (moves_made (history_of acts ps i))
    (laws_since acts ps i) (action_at acts i) (since_is acts ps i))

pub since_most : (acts ps : List ℕ) (n : ℕ) → laws_since acts ps n ≤ moves_in acts n
since_most acts ps n = (since_is acts ps n).most

pub laws_counted : (acts ps : List ℕ) (n : ℕ) → laws_count (history_of acts ps n) ≡ moves_in acts n - laws_since acts ps n
unfolding laws_count
laws_counted acts ps n = (since_is acts ps n).counted
