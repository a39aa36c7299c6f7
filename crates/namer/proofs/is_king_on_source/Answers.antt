-- `is_king_on_source` of lib.rt meets its contract: r ≡ is_king (now pieces.entry) m.
use Rattle.namer.proofs.is_king_on_source.Goals as goal

pub returns : goal.returns
returns c = simp (c.source_of-source.ensures, c.kind_of.ensures)
