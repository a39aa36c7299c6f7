-- `source_fits` of resolve.rt meets its contract: r ≡ source_fits (now pieces.entry) t m.
use Rattle.san.specs.CodeFitting.{source_fits}
use Rattle.san.proofs.resolve.source_fits.Goals as goal

pub returns : goal.returns
unfolding source_fits
returns c =
    let at-source-of = c.source_of-source in
    let at-kind-of = c.kind_of in
    let at-agrees = c.agrees-file in
    let at-agrees2 = c.agrees-rank in
    let at_both = c.both in
    simp (c.both-2.ensures, at_both.ensures, at-agrees.ensures, at-agrees2.ensures, at-kind-of.ensures, at-source-of.ensures)
