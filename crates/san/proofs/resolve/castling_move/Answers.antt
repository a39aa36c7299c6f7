-- `castling_move` of resolve.rt meets its contract: r ≡ castling_move side file.
use native.Mathlib.Omega.{arith}
use Rattle.san_text.specs.Resolve.{castling_move}
use Rattle.san.proofs.resolve.castling_move.Goals as goal

pub returns : goal.returns
unfolding castling_move
returns c = omega arith
