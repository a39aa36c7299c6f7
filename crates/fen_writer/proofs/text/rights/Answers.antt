-- `rights` of text.rt meets its contract: Put 91 (now bytes.entry) at (rights_text white black) (now bytes.exit) r.
use Rattle.fen_writer.proofs.Parts.{rights_put}
use Rattle.fen_writer.proofs.text.rights.Goals as goal

pub returns : goal.returns
returns c =
    let a = c.args in
    rights_put a.white a.black c.requires.white_bound c.requires.black_bound
    c.push_if-a.ensures c.push_if-b.ensures c.push_if-c.ensures c.push_if-d.ensures c.push_if.ensures
