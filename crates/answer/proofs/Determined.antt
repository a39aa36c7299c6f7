-- Each public function's contract, as the toolchain reads it off the source, permits one answer, and one content of each slice that is lent to be written.
-- Assumes nothing.
use mathlib.Core.Path.{sym, ◌∙◌}
use denote.RattleType.{RattleType}
use denote.Param.Laws.{Laws, IsCopy}
use Rattle.answer.specs.Determined.{OneAnswer, OnePart}
use Rattle.answer.proofs.accepted.Reads as accepted
use Rattle.answer.proofs.accepted.Kinds as accepted·k
use Rattle.answer.proofs.accepted_byte.Reads as accepted-byte
use Rattle.answer.proofs.accepted_byte.Kinds as accepted-byte·k
use Rattle.answer.proofs.refused.Reads as refused
use Rattle.answer.proofs.refused.Kinds as refused·k
use Rattle.answer.proofs.read_as.Reads as read_as
use Rattle.answer.proofs.read_as.Kinds as read-as·k
use Rattle.answer.proofs.fault_at.Reads as fault-at
use Rattle.answer.proofs.fault_at.Kinds as fault-at·k
use Rattle.answer.proofs.write_items.Reads as write-items
use Rattle.answer.proofs.write_items.Kinds as write-items·k
use Rattle.answer.proofs.any_over.Reads as any-over
use Rattle.answer.proofs.any_over.Kinds as any-over·k
use Rattle.answer.proofs.write_text.Reads as write-text
use Rattle.answer.proofs.write_text.Kinds as write-text·k
use Rattle.answer.proofs.front.Reads as front
use Rattle.answer.proofs.front.Kinds as front·k
use Rattle.answer.proofs.rest.Reads as rest
use Rattle.answer.proofs.rest.Kinds as rest·k
use Rattle.answer.proofs.same_bytes.Reads as same_bytes
use Rattle.answer.proofs.same_bytes.Kinds as same-bytes·k
use Rattle.answer.proofs.byte_at.Reads as byte_at
use Rattle.answer.proofs.byte_at.Kinds as byte-at·k
use Rattle.answer.proofs.either.Reads as either
use Rattle.answer.proofs.either.Kinds as either·k
use Rattle.answer.proofs.both.Reads as both
use Rattle.answer.proofs.both.Kinds as both·k
use Rattle.answer.proofs.all_at_most.Reads as all-at-most
use Rattle.answer.proofs.all_at_most.Kinds as all-at-most·k

pub accepted_answer : OneAnswer accepted·k.ps accepted·k.r accepted.Learnt
accepted_answer κs a x y e f p q = p ∙ sym q

pub accepted_byte_answer : OneAnswer accepted-byte·k.ps accepted-byte·k.r accepted-byte.Learnt
accepted_byte_answer κs a x y e f p q = p ∙ sym q

pub refused_answer : OneAnswer refused·k.ps refused·k.r refused.Learnt
refused_answer κs a x y e f p q = p ∙ sym q

pub read_as_answer : OneAnswer read-as·k.ps read-as·k.r read_as.Learnt
read_as_answer κs a x y e f p q = p ∙ sym q

pub fault_at_answer : OneAnswer fault-at·k.ps fault-at·k.r fault-at.Learnt
fault_at_answer κs a x y e f p q = p ∙ sym q

pub write_items_answer : (t : RattleType) (l : Laws t) (p : IsCopy t) (g : _) (d : _)
    → OneAnswer (write-items·k.ps t l p) (write-items·k.r t l p) (write-items.Learnt t l p g d)
write_items_answer t l p g d κs a x y e f u v = u.0 ∙ sym v.0

pub write_items_out : (t : RattleType) (l : Laws t) (p : IsCopy t) (g : _) (d : _)
    → OnePart (write-items·k.ps t l p) (write-items·k.r t l p) (λ κs x e. e.1.0.now) (write-items.Learnt t l p g d)
write_items_out t l p g d κs a x y e f u v = u.1 ∙ sym v.1

pub any_over_answer : (t : RattleType) (l : Laws t) (o : _) (d : _) (q : _) (h : _)
    → OneAnswer (any-over·k.ps t l) (any-over·k.r t l) (any-over.Learnt t l o d q h)
any_over_answer t l o d q h κs a x y e f u v = u ∙ sym v

pub write_text_answer : OneAnswer write-text·k.ps write-text·k.r write-text.Learnt
write_text_answer κs a x y e f p q = p.0 ∙ sym q.0

pub write_text_out : OnePart write-text·k.ps write-text·k.r (λ κs x e. e.1.0.now) write-text.Learnt
write_text_out κs a x y e f p q = p.1 ∙ sym q.1

pub front_answer : OnePart front·k.ps front·k.r (λ κs x e. x.now) front.Learnt
front_answer κs a x y e f p q = p ∙ sym q

pub rest_answer : OnePart rest·k.ps rest·k.r (λ κs x e. x.now) rest.Learnt
rest_answer κs a x y e f p q = p ∙ sym q

pub same_bytes_answer : OneAnswer same-bytes·k.ps same-bytes·k.r same_bytes.Learnt
same_bytes_answer κs a x y e f p q = p ∙ sym q

pub byte_at_answer : OneAnswer byte-at·k.ps byte-at·k.r byte_at.Learnt
byte_at_answer κs a x y e f p q = p ∙ sym q

pub either_answer : OneAnswer either·k.ps either·k.r either.Learnt
either_answer κs a x y e f p q = p ∙ sym q

pub both_answer : OneAnswer both·k.ps both·k.r both.Learnt
both_answer κs a x y e f p q = p ∙ sym q

pub all_at_most_answer : OneAnswer all-at-most·k.ps all-at-most·k.r all-at-most.Learnt
all_at_most_answer κs a x y e f p q = p ∙ sym q
