-- `part` of lib.rt meets its contract: now r ≡ part (now text.entry) start size.
use mathlib.Core.Path.{ap, ◌∙◌}
use lib.ListN.{take}
use Rattle.pgn_text.specs.Walk.{part}
use Rattle.pgn.proofs.part.Goals as goal

pub returns : goal.returns
unfolding part
returns c = c.front.ensures ∙ ap (take c.args.size) c.rest.ensures
