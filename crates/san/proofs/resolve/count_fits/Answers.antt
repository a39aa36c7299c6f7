use mathlib.Core.Path.{sym, ap, ◌∙◌}
use native.Mathlib.Omega.{arith}
use lib.ListN.{get_or}
use Rattle.san_text.specs.Resolve.{fits}
use Rattle.san.specs.CodeFitting.{with_entry}
use Rattle.san.proofs.Arrivals.{arrives, arrives_elsewhere}
use Rattle.san.proofs.Counts.{counted_turn, counted_pass, counted_end}
use Rattle.san.proofs.resolve.count_fits.Goals as goal
use Rattle.san.proofs.resolve.count_fits.Goals.{then-m-want, else-m-want}

pub loop-m-preserved : goal.loop-m-preserved
loop-m-preserved c =
    let a = c.args in
    let l = c.loop-m in
    let g = fits a.pieces.now a.t in
    let x = get_or a.moves.now l.m-index 0 in
    elim c.if-m-want.branch [
      | then-m-want w ↦
          let fit = w.source_fits.ensures ∙ sym (arrives a.pieces.now a.t x c.requires w.if-m-want.true) in
          let next = w.f-is ∙ w.add_fit-f.ensures ∙ ap (λ b. with_entry l.f b x) fit in
          rw next (counted_turn g a.moves.now l.m-index l.f (omega arith) l.invariant)
      | else-m-want w ↦
          rw w.f-is (counted_pass g a.moves.now l.m-index l.f (omega arith) (arrives_elsewhere a.pieces.now a.t x w.if-m-want.false) l.invariant)
    ]

pub returns : goal.returns
returns c =
    let a = c.args in
    let l = c.loop-m in
    let whole = counted_end (fits a.pieces.now a.t) a.moves.now l.m-index l.f (omega arith) l.invariant in
    record { counts = whole.0; first = whole.1 }
