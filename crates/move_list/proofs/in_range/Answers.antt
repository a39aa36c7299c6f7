-- `in_range` of lib.rt meets its contract: r ≡ list_in_range (now moves.entry).
use borrow.Author.Tests.{le-leb, lt-leb}
use mathlib.Core.Path.{◌∙◌, ap, sym}
use mathlib.Core.Bool.{not}
use native.Mathlib.Omega.{arith}
use lib.ListN.{length}
use Rattle.answer.proofs.Over.{none_over}
use Rattle.chess_move.specs.Number.{last_move}
use Rattle.move_list.specs.MoveList.{longest_list, list_in_range}
use Rattle.move_list.proofs.in_range.Goals as goal

pub returns-then-moves-gt-LONGEST_LIST : goal.returns-then-moves-gt-LONGEST_LIST
unfolding list_in_range
returns-then-moves-gt-LONGEST_LIST c = simp (lt-leb (length c.args.moves.now) longest_list (omega (arith, c.if-moves-gt-LONGEST_LIST.true)))

pub returns : goal.returns
unfolding list_in_range
returns c =
    let moves = c.args.moves.now in
    ap not c.any_over.ensures
    ∙ none_over last_move moves
    ∙ sym (simp (le-leb (length moves) longest_list (omega (arith, c.if-moves-gt-LONGEST_LIST.false))))
