-- Each public function's contract, as the toolchain reads it off the source, permits one answer, and one content of each slice that is lent to be written.
-- Assumes nothing.
use mathlib.Core.Path.{sym, ◌∙◌}
use Rattle.answer.specs.Determined.{OneAnswer, OnePart}
use Rattle.position.proofs.at.Reads as at
use Rattle.position.proofs.at.Kinds as at·k
use Rattle.position.proofs.equals_two_earlier.Reads as equals-two-earlier
use Rattle.position.proofs.equals_two_earlier.Kinds as equals-two-earlier·k
use Rattle.position.proofs.equal_places.Reads as equal-places
use Rattle.position.proofs.equal_places.Kinds as equal-places·k

pub at_answer : OnePart at·k.ps at·k.r (λ κs x e. x.now) at.Learnt
at_answer κs a x y e f p q = p ∙ sym q

pub equals_two_earlier_answer : OneAnswer equals-two-earlier·k.ps equals-two-earlier·k.r equals-two-earlier.Learnt
equals_two_earlier_answer κs a x y e f p q = p ∙ sym q

pub equal_places_answer : OneAnswer equal-places·k.ps equal-places·k.r equal-places.Learnt
equal_places_answer κs a x y e f p q = p ∙ sym q
