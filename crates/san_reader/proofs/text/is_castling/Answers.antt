-- `is_castling` of text.rt meets its contract: r ≡ castling_in standard (now s.entry) (now castling.entry).
use mathlib.Core.Path.{◌∙◌}
use Rattle.san_reader.proofs.Fronts.{castling_split}
use Rattle.san_reader.proofs.text.is_castling.Goals as goal

pub returns : goal.returns
returns c =
    castling_split c.args.standard c.args.s.now c.args.castling.now c.if-not-standard.false
    (c.both.ensures ∙ simp (c.same_bytes-2.ensures, c.ends_here.ensures, c.front.ensures, c.rest.ensures))
