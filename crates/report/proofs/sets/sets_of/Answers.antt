-- `sets_of` of sets.rt meets its contract: for every xs, length xs ≡ squares → all_at_most 12 xs ≡ true → planes ≡ planes_of xs → r ≡ kind_sets xs.
use Rattle.report.proofs.Planes.{sets_are}
use Rattle.report.proofs.sets.sets_of.Goals as goal

pub returns : goal.returns
returns c =
    let at_parted = c.parted-low in
    let at-parted2 = c.parted-high in
    λ xs long codes e. sets_are xs long codes e at_parted.ensures at-parted2.ensures
