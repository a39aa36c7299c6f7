-- Where the run begins, as the code finds it: by how many actions there are up to the last one that emptied it. proofs/Back.antt shows that it is the run.
-- Assumes nothing.
use Rattle.std.specs.Prelude.{cond, List, ℕ, zero, suc, leb}
use Rattle.chess_move.specs.Number.{last_move}
use Rattle.actions.specs.Part.{move_at, moves_in}
use Rattle.position.specs.Layout.{position_at}
use Rattle.claim.specs.declared.Run.{Run}
use Rattle.claim.specs.Emptying.{empties_run}

-- 0 where none of the first n actions emptied it
unfoldable pub begun_by : List ℕ → List ℕ → ℕ → ℕ
begun_by acts ps zero = 0
begun_by acts ps (suc i) =
    cond (leb (move_at acts i) last_move)
    (cond (empties_run (position_at ps (moves_in acts i)) (move_at acts i) (position_at ps (suc (moves_in acts i)))) (suc i) (begun_by acts ps i))
    (begun_by acts ps i)

-- the run, and the count, from the position after so many actions on
abbrev pub run_begun_by : List ℕ → ℕ → Run
run_begun_by acts begun = record { first = moves_in acts begun; since = moves_in acts begun }
