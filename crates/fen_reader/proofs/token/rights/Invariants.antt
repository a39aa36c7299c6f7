-- `rights` of token.rt meets its contract: r ≡ sides_of (now token.entry).
use mathlib.Core.Path.{◌≡◌}
use mathlib.Core.Bool.{◌||◌}
use lib.ListN.{drop}
use Rattle.answer.specs.Numbers.{among}
use Rattle.fen_reader.proofs.token.rights.Given as goal

abbrev pub invariant-loop-b : goal.invariant-loop-b
invariant-loop-b l =
    (among 75 l.token ≡ l.white_king || among 75 (drop l.b-index l.token))
    × (among 81 l.token ≡ l.white_queen || among 81 (drop l.b-index l.token))
    × (among 107 l.token ≡ l.black_king || among 107 (drop l.b-index l.token))
    × (among 113 l.token ≡ l.black_queen || among 113 (drop l.b-index l.token))
