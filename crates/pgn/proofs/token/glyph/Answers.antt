-- `glyph` of token.rt meets its contract: r ≡ glyph (now (after .entry)).
use Rattle.pgn_text.specs.Token.{glyph}
use borrow.Author.Tests.{eq-eqb, ne_eqb}
use Rattle.pgn.proofs.token.glyph.Goals as goal

pub returns-then-digits-eq0 : goal.returns-then-digits-eq0
unfolding glyph
returns-then-digits-eq0 c = simp (← c.run_length-digits.ensures, eq-eqb _ _ c.if-digits-eq0.true)

pub returns : goal.returns
unfolding glyph
returns c = simp (← c.run_length-digits.ensures, ne_eqb _ _ c.if-digits-eq0.false)
