-- `told` of lib.rt meets its contract: r ≡ pair_told start long pair.
use Rattle.std.proofs.Common.{◌≡◌}
use Rattle.square.specs.declared.PairError.TheVariants.{BadFile, BadRank, Missing}
use Rattle.square.specs.Square.{pair_told}
use Rattle.square.proofs.told.Goals as goal

pub returns-in-Ok : goal.returns-in-Ok
unfolding pair_told
returns-in-Ok c = rw c.in-Ok.is c.read_as.ensures

pub returns-in-Err-BadFile : goal.returns-in-Err-BadFile
unfolding pair_told
returns-in-Err-BadFile c =
    let e : c.in-Err-BadFile.field-0 ≡ BadFile = rw c.in-Err-BadFile.is at c.in-Err-BadFile.field-0-is in
    rw (c.in-Err-BadFile.is, e) c.fault_at.ensures

pub returns-in-Err-BadRank : goal.returns-in-Err-BadRank
unfolding pair_told
returns-in-Err-BadRank c =
    let e : c.in-Err-BadRank.field-0 ≡ BadRank = rw c.in-Err-BadRank.is at c.in-Err-BadRank.field-0-is in
    rw (c.in-Err-BadRank.is, e) c.fault_at-in-Err-BadRank.ensures

pub returns-in-Err-Missing : goal.returns-in-Err-Missing
unfolding pair_told
returns-in-Err-Missing c =
    let e : c.in-Err-Missing.field-0 ≡ Missing = rw c.in-Err-Missing.is at c.in-Err-Missing.field-0-is in
    rw (c.in-Err-Missing.is, e) c.fault_at-in-Err-Missing.ensures
