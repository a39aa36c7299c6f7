-- `ends` of places.rt meets its contract: where it says so, a token ends there.
use borrow.Author.Tests.{eqb-true}
use Rattle.fen_text.proofs.Tokens.{place_hit, where_end}
use Rattle.fen_reader.proofs.places.ends.Goals as goal

pub returns-then-text-end : goal.returns-then-text-end
returns-then-text-end c = λ _. where_end _ c.args.text.now c.args.end c.if-text-end.true

pub returns : goal.returns
returns c = λ e. place_hit 32 c.args.text.now c.args.end c.if-text-end.false (eqb-true _ _ e)
