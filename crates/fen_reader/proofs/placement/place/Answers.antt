-- `place` of placement.rt meets its contract: PlacementWalk (now text.entry) r, by the quick walk where its places tell the placement.
use Rattle.fen_reader.proofs.QuickWalk.{quick}
use Rattle.fen_reader.proofs.placement.place.Goals as goal

pub returns-then-tell : goal.returns-then-tell
returns-then-tell c =
    let text = c.args.text.now in
    let laid = c.lay-stopped in
    let files = c.files in
    quick text laid.new.places files.new.pieces laid.result laid.ensures files.ensures (c.tell.ensures c.if-tell.true)
