-- `largest_at` of lib.rt meets its contract: r ≡ getD largest_numbers i 0.
use native.Mathlib.Omega.{arith}
use Rattle.roll_reader.proofs.Laws.{a_square, the_side, the_rights, the_file}
use Rattle.roll_reader.proofs.largest_at.Goals as goal

pub returns-in-64 : goal.returns-in-64
returns-in-64 c = the_side _ c.in-64.is

pub returns-in-0-to-63 : goal.returns-in-0-to-63
returns-in-0-to-63 c = a_square _ (omega arith)

pub returns-in-65 : goal.returns-in-65
returns-in-65 c = the_rights _ (omega arith) (λ z. omega arith) (omega arith)

pub returns-in_default : goal.returns-in_default
returns-in_default c = the_file _ (omega arith) c.requires
