-- What a ruling rests on, as the arbiters are shown it: both counts, the earlier positions of the run that equal the last, and both claims by reason.
-- Assumes nothing.
use Rattle.std.specs.Prelude.{cond, not, ◌&&◌, List, [], ◌∷◌, ℕ, ◌+◌, eqb, leb, get_or}
use Rattle.answer.specs.declared.Answer.{Answer}
use Rattle.position.specs.Layout.{Position}
use Rattle.position.specs.Places.{places_of}
use Rattle.claim.specs.Claim.{claim_count}
use Rattle.game_rules.specs.Limits.{Limits}
use Rattle.game_rules.specs.Rules.{History, current, moves, ended, ruling, repeats}
use Rattle.game_rules.specs.Good.{history_of}
use Rattle.game_rules.specs.Calls.{log_check, accepted_unless}
use Rattle.laws.specs.declared.Ruled.{Ruled}
use Rattle.laws.specs.Laws.{laws_count, laws_claim_stands}

-- the run without its last position
abbrev pub earlier : List Position → List Position
earlier [] = []
earlier (p ∷ ps) = ps

-- the numbers of the earlier positions of the run that equal the last, the earliest first; a position's number is how many moves led to it
unfoldable pub equals_at : History → List ℕ
equals_at h = places_of (current h) (moves h) (earlier (ruling h).run)

-- 1 by a count, 2 by equal positions, 3 by both; 0 if neither, or if the game has ended
abbrev pub reason : History → ℕ → ℕ
reason h count = cond (ended h) 0 (cond (leb claim_count count) 1 0 + cond (leb 2 (repeats (ruling h).run)) 2 0)

unfoldable pub ruled_on : History → Ruled
ruled_on h = record {
  number = 0;
  count = (ruling h).count;
  laws_count = laws_count h;
  equals = repeats (ruling h).run;
  first = get_or (equals_at h) 0 0;
  second = get_or (equals_at h) 1 0;
  claim = reason h (ruling h).count;
  laws_claim = reason h (laws_count h);
}

-- a refused query: its number, and zeros
abbrev pub not_ruled : ℕ → Ruled
not_ruled a = record { number = a; count = 0; laws_count = 0; equals = 0; first = 0; second = 0; claim = 0; laws_claim = 0 }

-- the queries: 16 and 9 alone are refusals
unfoldable pub ruling_answer : Limits → List ℕ → List ℕ → ℕ → ℕ → Ruled
ruling_answer L acts ps n m = cond (eqb (log_check L acts ps n m) 0) (ruled_on (history_of acts ps n)) (not_ruled (log_check L acts ps n m))

-- whether a draw may be claimed by the Laws' count; no claim stands once the game has ended
unfoldable pub laws_answer : Limits → List ℕ → List ℕ → ℕ → ℕ → Answer
laws_answer L acts ps n m =
    accepted_unless (log_check L acts ps n m) (cond (not (ended (history_of acts ps n)) && laws_claim_stands (history_of acts ps n)) 1 0)
