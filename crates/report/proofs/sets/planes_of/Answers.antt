-- `planes_of` of sets.rt meets its contract: r ≡ planes_of (by_files (now places.entry)).
use Rattle.report.proofs.Planes.{planes_gathered}
use Rattle.report.proofs.sets.planes_of.Goals as goal

pub returns : goal.returns
returns c =
    let places = c.args.places.now in
    let codes = c.requires.places_value in
    let first = c.two_ranks-a.ensures in
    let second = c.two_ranks-b.ensures in
    let third = c.two_ranks-c.ensures in
    let fourth = c.two_ranks-d.ensures in
    let planes = planes_gathered places codes first second third fourth in
    planes c.plane.ensures c.plane-2.ensures c.plane-3.ensures c.plane-4.ensures
