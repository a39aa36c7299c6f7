-- `report` meets its contract: r ≡ report_answer most_lines (now text.entry) (length (now records.entry)) (length (now told.entry)); now (records
-- .exit) ≡ report_records most_lines (now text.entry) (now records.entry) (length (now told.entry)); now told.exit ≡ report_told most_lines (now
-- text.entry) (length (now records.entry)) (now told.entry).
use mathlib.Core.Path.{◌∙◌}
use Prim.Native.Nat.{◌≤◌, ◌<◌}
use native.Mathlib.Omega.{arith}
use Rattle.fen_text.specs.Lines.{lines}
use Rattle.fen_text.specs.Page.{line_count}
use Rattle.report_text.specs.Report.{most_lines}
use Rattle.report.proofs.Filling.{too_many_told, short_told, figures_told, rooms_left, filled_left}
use Rattle.report.proofs.report.Goals as goal

pub returns-then-lines-gt-MOST_LINES : goal.returns-then-lines-gt-MOST_LINES
returns-then-lines-gt-MOST_LINES c =
    let a = c.args in
    let over : most_lines < line_count a.text.now = omega (arith, c.if-lines-gt-MOST_LINES.true, c.line_count-lines.ensures) in
    let told = too_many_told most_lines a.text.now a.records.now a.told.now over in
    record { answer = c.refused.ensures ∙ told.0; records = told.1.0; told = told.1.1 }

pub returns-then-page-ne0 : goal.returns-then-page-ne0
returns-then-page-ne0 c =
    let a = c.args in
    let count = c.line_count-lines.ensures in
    let few : line_count a.text.now ≤ most_lines =
    omega (arith, c.if-lines-gt-MOST_LINES.false, count) in
    let page = c.read_page-page in
    let told = short_told most_lines a.text.now a.records.now a.told.now few page.result page.ensures.answer c.if-page-ne0.true in
    record { answer = c.refused-then-page-ne0.ensures ∙ told.0; records = page.ensures.records ∙ told.1.0; told = page.ensures.told ∙ told.1.1 }

pub invariant_of-figures_of : goal.invariant_of-figures_of
invariant_of-figures_of c =
    let a = c.args in
    let count = c.line_count-lines.ensures in
    let few = c.if-lines-gt-MOST_LINES.false in
    let page = c.read_page-page in
    record {
      rooms = rooms_left most_lines a.text.now a.records.now a.told.now (omega (arith, few, count)) page.result page.ensures.answer
          c.if-page-ne0.false _ _ _ page.ensures.records page.ensures.told count few;
    }

pub returns : goal.returns
returns c =
    let a = c.args in
    let count = c.line_count-lines.ensures in
    let few : line_count a.text.now ≤ most_lines =
    omega (arith, c.if-lines-gt-MOST_LINES.false, count) in
    let page = c.read_page-page in
    let taken = c.if-page-ne0.false in
    let filled = filled_left most_lines a.text.now a.records.now a.told.now few page.result page.ensures.answer taken _ _ _ page.ensures.records
    page.ensures.told count in
    let told = figures_told most_lines a.text.now a.records.now a.told.now few page.result page.ensures.answer taken in
    record { answer = c.figures_of.ensures (lines a.text.now) filled ∙ told.0; records = page.ensures.records ∙ told.1.0; told = page.ensures.told ∙ told.1.1 }
