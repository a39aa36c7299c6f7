-- `find` of token.rt meets its contract: r ≡ place_of b (now s.entry).
use mathlib.Core.Path.{◌∙◌}
use Rattle.std.specs.Prelude.{eqb}
use Rattle.fen_reader.proofs.Blocks.{place_by_position}
use Rattle.fen_reader.proofs.token.find.Goals as goal

pub returns : goal.returns
returns c = c.unwrap_or.ensures ∙ rw c.position_of.ensures (place_by_position (λ x. eqb x c.args.b) c.args.s.now)
