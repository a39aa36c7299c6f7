-- Each public function's contract, as the toolchain reads it off the source, permits one answer, and one content of each slice that is lent to be written.
-- Assumes nothing.
use mathlib.Core.Path.{sym, ◌∙◌}
use Rattle.answer.specs.Determined.{OneAnswer}
use Rattle.claim.proofs.is_irreversible.Reads as is-irreversible
use Rattle.claim.proofs.is_irreversible.Kinds as is-irreversible·k
use Rattle.claim.proofs.begun_by.Reads as begun-by
use Rattle.claim.proofs.begun_by.Kinds as begun-by·k
use Rattle.claim.proofs.run_begun.Reads as run-begun
use Rattle.claim.proofs.run_begun.Kinds as run-begun·k
use Rattle.claim.proofs.moves_since.Reads as moves-since
use Rattle.claim.proofs.moves_since.Kinds as moves-since·k
use Rattle.claim.proofs.stands.Reads as stands
use Rattle.claim.proofs.stands.Kinds as stands·k

pub is_irreversible_answer : OneAnswer is-irreversible·k.ps is-irreversible·k.r is-irreversible.Learnt
is_irreversible_answer κs a x y e f p q = p ∙ sym q

pub begun_by_answer : OneAnswer begun-by·k.ps begun-by·k.r begun-by.Learnt
begun_by_answer κs a x y e f p q = p ∙ sym q

pub run_begun_answer : OneAnswer run-begun·k.ps run-begun·k.r run-begun.Learnt
run_begun_answer κs a x y e f p q = p ∙ sym q

pub moves_since_answer : OneAnswer moves-since·k.ps moves-since·k.r moves-since.Learnt
moves_since_answer κs a x y e f p q = p ∙ sym q

pub stands_answer : OneAnswer stands·k.ps stands·k.r stands.Learnt
stands_answer κs a x y e f p q = p ∙ sym q
