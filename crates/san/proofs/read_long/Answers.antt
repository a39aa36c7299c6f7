-- `read_long` of lib.rt meets its contract: r ≡ over_list (now moves.entry) (resolved (formOf standard) (board_with side (now pieces.entry)) (now
-- moves.entry) ((formOf standard).read (now text.entry))).
use Rattle.san_text.specs.Form.{resolved}
use Rattle.san.proofs.Said.{said_by_text}
use Rattle.san.proofs.read_long.Goals as goal

pub returns-in_default : goal.returns-in_default
unfolding resolved
returns-in_default c = simp (← c.in_range.ensures, c.if-not-in_range.false, ← c.in_default.ensures, c.refused-in_default.ensures)

pub resolve-requires : goal.resolve-requires
resolve-requires c = said_by_text c.args.standard c.args.text.now c.in-Some.ensures
