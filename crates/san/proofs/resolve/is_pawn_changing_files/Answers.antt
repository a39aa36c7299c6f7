-- `is_pawn_changing_files` of resolve.rt meets its contract: r ≡ changes_files (now pieces.entry) m.
use borrow.Author.Tests.{eq-eqb, ne_eqb}
use Rattle.san_text.specs.Name.{changes_files}
use Rattle.san.proofs.resolve.is_pawn_changing_files.Goals as goal

pub returns-then-kind_of-ne1 : goal.returns-then-kind_of-ne1
unfolding changes_files
returns-then-kind_of-ne1 c = simp (← c.source_of-source.ensures, ← c.kind_of.ensures, ne_eqb _ _ c.if-kind_of-ne1.true)

pub returns : goal.returns
unfolding changes_files
returns c =
    let at-source-of = c.source_of-source in
    let at-kind-of = c.kind_of in
    let at-if1 = c.if-kind_of-ne1 in
    simp (← at-source-of.ensures, ← at-kind-of.ensures, eq-eqb _ _ at-if1.false, ← c.dest_of-dest.ensures)
