-- `ended` of lib.rt meets its contract: r ≡ with_end (now text.entry) source dest.
use native.Mathlib.Omega.{arith}
use lib.ListN.{get_or}
use Rattle.chess_move.proofs.Ranges.{promotion_named_most}
use Rattle.chess_move.proofs.ended.Goals as goal

pub overflow_mul-promotion : goal.overflow_mul-promotion
overflow_mul-promotion c = omega (arith, promotion_named_most (get_or c.args.text.now 4 0), c.in-Some.ensures.1)

pub overflow_add-source-3 : goal.overflow_add-source-3
overflow_add-source-3 c = omega (arith, promotion_named_most (get_or c.args.text.now 4 0), c.in-Some.ensures.1)
