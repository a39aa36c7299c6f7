-- `no_move_lem` of lib.rt meets its contract: r ≡ no_move_found number offset.
use mathlib.Core.Path.{refl}
use Rattle.pgn_text.specs.Walk.{no_move_found}
use Rattle.pgn.proofs.no_move.Goals as goal

pub returns : goal.returns
unfolding no_move_found
returns c = refl
