use native.Mathlib.Omega.{arith}
use Rattle.roll_writer.proofs.Sized.{small_number}
use Rattle.roll_writer.proofs.move_size.Goals as goal

pub overflow_add-result : goal.overflow_add-result
overflow_add-result c = omega (arith, c.number_length.ensures, small_number c.args.number (omega (arith, c.if-number-gt-LAST_MOVE.false)))

pub returns-clause-most : goal.returns-clause-most
returns-clause-most c = omega (arith, c.number_length.ensures, small_number c.args.number (omega (arith, c.if-number-gt-LAST_MOVE.false)))
