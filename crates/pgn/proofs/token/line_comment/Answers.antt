-- `line_comment` of token.rt meets its contract: r ≡ line_comment (now (after .entry)).
use Rattle.pgn_text.specs.Token.{line_comment}
use borrow.Author.Tests.{lt-ltb, le-ltb}
use Rattle.pgn.proofs.token.line_comment.Goals as goal

pub returns-then-inside-after : goal.returns-then-inside-after
unfolding line_comment
returns-then-inside-after c = simp (← c.run_length-inside.ensures, lt-ltb _ _ c.if-inside-after.true)

pub returns : goal.returns
unfolding line_comment
returns c = simp (← c.run_length-inside.ensures, le-ltb _ _ c.if-inside-after.false)
