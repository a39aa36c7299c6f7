-- `from_san` of lib.rt meets its contract: r ≡ from_san board (now moves.entry) (now text.entry).
use mathlib.Core.Bool.{false}
use Rattle.san_text.specs.Form.{read_answer}
use Rattle.san_text.specs.Forms.{form_of}
use Rattle.san.proofs.Captures.{resolved_with}
use Rattle.san.proofs.from_san.Goals as goal

pub returns-then-not-in_range : goal.returns-then-not-in_range
unfolding read_answer
returns-then-not-in_range c = simp (← c.in_range.ensures, c.if-not-in_range.true, c.refused.ensures)

pub returns : goal.returns
unfolding read_answer
returns c =
    let a = c.args in
    let at-in-range = c.in_range in
    let at-if1 = c.if-not-in_range in
    simp (
      ← at-in-range.ensures,
      at-if1.false,
      c.from_san_in.ensures,
      resolved_with false a.board a.moves.now
          ((form_of false).read a.text.now),
    )
