-- `Position::side` of lib.rt meets its contract: the side's number is the record's.
use Rattle.legal.proofs.Safety.{side_under}
use Rattle.legal.proofs.Position.side.Goals as goal

pub invariant_of-result : goal.invariant_of-result
invariant_of-result c = record { known = side_under c.args.self.now.board c.args.self.now.good }
