-- `number_length` of lib.rt meets its contract: r ≡ length (number_text n).
use Rattle.roll_writer.proofs.Laws.{one_byte, two_bytes, three_bytes}
use Rattle.roll_writer.proofs.number_length.Goals as goal

pub returns-then-n-lt128 : goal.returns-then-n-lt128
returns-then-n-lt128 c = one_byte _ c.if-n-lt128.true

pub returns-then-n-lt16384 : goal.returns-then-n-lt16384
returns-then-n-lt16384 c = two_bytes _ c.if-n-lt128.false c.if-n-lt16384.true

pub returns : goal.returns
returns c = three_bytes _ c.if-n-lt16384.false c.requires
