-- `skip` of text.rt meets its contract: now r ≡ after there (now s.entry).
use Rattle.san_text.specs.Text.{after}
use Rattle.san_reader.proofs.text.skip.Goals as goal

pub returns-then-there : goal.returns-then-there
unfolding after
returns-then-there c = simp (c.if-there.true, c.rest.ensures)

pub returns-else-there : goal.returns-else-there
unfolding after
returns-else-there c = simp c.if-there.false
