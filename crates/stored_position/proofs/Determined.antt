-- Each public function's contract, as the toolchain reads it off the source, permits one answer, and one content of each slice that is lent to be written.
-- Assumes nothing.
use mathlib.Core.Path.{sym, ◌∙◌}
use Rattle.answer.specs.Determined.{OneAnswer, OnePart}
use Rattle.stored_position.proofs.check.Reads as check
use Rattle.stored_position.proofs.check.Kinds as check·k
use Rattle.stored_position.proofs.to_bytes.Reads as to-bytes
use Rattle.stored_position.proofs.to_bytes.Kinds as to-bytes·k
use Rattle.stored_position.proofs.is_position.Reads as is-position
use Rattle.stored_position.proofs.is_position.Kinds as is-position·k
use Rattle.stored_position.proofs.half_of.Reads as half_of_lem
use Rattle.stored_position.proofs.half_of.Kinds as half-of·k
use Rattle.stored_position.proofs.full_of.Reads as full-of
use Rattle.stored_position.proofs.full_of.Kinds as full-of·k
use Rattle.stored_position.proofs.has_record.Reads as has-record
use Rattle.stored_position.proofs.has_record.Kinds as has-record·k
use Rattle.stored_position.proofs.is_rest_with.Reads as is-rest-with
use Rattle.stored_position.proofs.is_rest_with.Kinds as is-rest-with·k
use Rattle.stored_position.proofs.lists.Reads as lists
use Rattle.stored_position.proofs.lists.Kinds as lists·k

pub check_answer_lem : OneAnswer check·k.ps check·k.r check.Learnt
check_answer_lem κs a x y e f p q = p ∙ sym q

pub to_bytes_answer : OneAnswer to-bytes·k.ps to-bytes·k.r to-bytes.Learnt
to_bytes_answer κs a x y e f p q = p.0 ∙ sym q.0

pub to_bytes_out : OnePart to-bytes·k.ps to-bytes·k.r (λ κs x e. e.1.1.1.0.now) to-bytes.Learnt
to_bytes_out κs a x y e f p q = p.1 ∙ sym q.1

pub is_position_answer : OneAnswer is-position·k.ps is-position·k.r is-position.Learnt
is_position_answer κs a x y e f p q = p ∙ sym q

pub half_of_answer : OneAnswer half-of·k.ps half-of·k.r half_of_lem.Learnt
half_of_answer κs a x y e f p q = p ∙ sym q

pub full_of_answer : OneAnswer full-of·k.ps full-of·k.r full-of.Learnt
full_of_answer κs a x y e f p q = p ∙ sym q

pub has_record_answer : OneAnswer has-record·k.ps has-record·k.r has-record.Learnt
has_record_answer κs a x y e f p q = p ∙ sym q

pub is_rest_with_answer : OneAnswer is-rest-with·k.ps is-rest-with·k.r is-rest-with.Learnt
is_rest_with_answer κs a x y e f p q = p ∙ sym q

pub lists_answer : OneAnswer lists·k.ps lists·k.r lists.Learnt
lists_answer κs a x y e f p q = p ∙ sym q
