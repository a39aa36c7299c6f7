-- `is_result` of token.rt meets its contract: r ≡ is_result b (now (after .entry)).
use Rattle.pgn_text.specs.Token.{is_result}
use Rattle.answer.specs.Ascii.{ascii}
use mathlib.Core.Path.{◌∙◌}
use Rattle.pgn_text.proofs.Runs.{begins_starts}
use borrow.Author.Tests.{eq-eqb, ne_eqb}
use Rattle.pgn.proofs.token.is_result.Goals as goal

pub returns-then-b-eq42 : goal.returns-then-b-eq42
unfolding is_result ascii
returns-then-b-eq42 c = simp (eq-eqb _ _ c.if-b-eq42.true)

pub returns-then-b-eq48 : goal.returns-then-b-eq48
unfolding is_result ascii
returns-then-b-eq48 c = simp c.if-b-eq48.true (c.starts_with.ensures.value ∙ begins_starts c.args.after.now _)

pub returns-then-b-eq49 : goal.returns-then-b-eq49
unfolding is_result ascii
returns-then-b-eq49 c =
    let short = c.starts_with-then-b-eq49.ensures.value ∙ begins_starts c.args.after.now (ascii "-0") in
    let long = c.starts_with-then-b-eq49-2.ensures.value ∙ begins_starts c.args.after.now (ascii "/2-1/2") in
    simp (c.if-b-eq49.true, c.either.ensures, short, long)

pub returns : goal.returns
unfolding is_result ascii
returns c = simp (ne_eqb _ _ c.if-b-eq42.false, ne_eqb _ _ c.if-b-eq48.false, ne_eqb _ _ c.if-b-eq49.false)
