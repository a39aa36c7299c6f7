-- Whether a draw may be claimed (document 01, "Draws and endings"), read off a log's bytes: at a count of 100 or more, or if the last position equals two
-- earlier ones of the run. The run begins at a position, and the count is of the moves since a position.
-- Assumes nothing.
use Rattle.std.specs.Prelude.{Bool, cond, ◌&&◌, ◌||◌, List, ℕ, zero, suc, ◌*◌, ◌-◌, leb, length}
use Rattle.chess_move.specs.Number.{last_move}
use Rattle.action.specs.Layout.{action_size}
use Rattle.actions.specs.Part.{move_at, moves_in}
use Rattle.position.specs.Layout.{Position, position_at}
use Rattle.position.specs.Repeats.{equals_two_earlier}
use Rattle.claim.specs.declared.Run.{Run}
use Rattle.claim.specs.Emptying.{empties_count, empties_run}

abbrev pub claim_count : ℕ
claim_count = 100

-- both from the start position on
abbrev pub run_begun : Run
run_begun = record { first = 0; since = 0 }

-- after move m from position p to position q, which is the one with number next
unfoldable pub run_after : Position → ℕ → Position → ℕ → Run → Run
run_after p m q next r =
    record { first = cond (empties_run p m q) next r.first; since = cond (empties_count p m q) next r.since }

-- after the first n actions
unfoldable pub run_at : List ℕ → List ℕ → ℕ → Run
run_at acts ps zero = run_begun
run_at acts ps (suc i) =
    cond (leb (move_at acts i) last_move)
    (run_after (position_at ps (moves_in acts i)) (move_at acts i) (position_at ps (suc (moves_in acts i))) (suc (moves_in acts i)) (run_at acts ps i))
    (run_at acts ps i)

-- how many moves lead from a position to position m, 0 if it is not the later one
abbrev pub moves_since : ℕ → ℕ → ℕ
moves_since since m = m - since

-- by the run r that ends with position m
unfoldable pub claim_in : List ℕ → ℕ → Run → Bool
claim_in ps m r = leb claim_count (m - r.since) || equals_two_earlier ps r.first m

-- after the first n actions, which lie in their part, with position m on the board
unfoldable pub claim_at : List ℕ → List ℕ → ℕ → ℕ → Bool
claim_at acts ps n m = leb (action_size * n) (length acts) && claim_in ps m (run_at acts ps n)
