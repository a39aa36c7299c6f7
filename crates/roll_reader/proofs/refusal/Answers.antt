-- `refusal` of lib.rt meets its contract: r ≡ roll_answer (refusal number).
use Rattle.roll_text.specs.Calls.{roll_answer}
use Rattle.roll_reader.proofs.refusal.Goals as goal

pub returns : goal.returns
unfolding roll_answer
returns c = rw c.none.ensures
