-- `settle` of settled.rt meets its contract: r ≡ settled b.
use Rattle.board_builder.proofs.Ranges.{in_range_lem}
use Rattle.settled_rules.specs.Settled.{settled}
use Rattle.board_after.proofs.settled.settle.Goals as goal

pub settled_file-requires : goal.settled_file-requires
settled_file-requires c = (in_range_lem c.args.b c.requires).file

pub returns : goal.returns
unfolding settled
returns c = simp c.settled_file.ensures
