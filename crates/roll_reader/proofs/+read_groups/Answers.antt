-- Together with its recursion, `read_groups` of lib.rt meets its contract: result ≡ read_groups k s.now.
-- Assumes nothing.
use native.Mathlib.Omega.{arith}
use Rattle.roll_reader.proofs.Laws.{none_left_lem, none_there, last_group, needless, joined, cut, sized}
use Rattle.roll_reader.proofs.+read_groups.Goals as goal

pub returns-then-k-eq0 : goal.returns-then-k-eq0
returns-then-k-eq0 t c = none_left_lem _ _ c.if-k-eq0.true

pub returns-then-s-eq0 : goal.returns-then-s-eq0
returns-then-s-eq0 t c = none_there _ _ c.if-s-eq0.true

pub returns-then-b-lt128 : goal.returns-then-b-lt128
returns-then-b-lt128 t c = last_group _ _ c.if-k-eq0.false c.if-s-eq0.false c.if-b-lt128.true

pub returns-then-n-eq0 : goal.returns-then-n-eq0
returns-then-n-eq0 t c =
    needless _ _ _ _ c.if-k-eq0.false c.if-s-eq0.false c.if-b-lt128.false c.rest.ensures c.read_groups.ensures _ _ c.in_ok-n.was c.if-n-eq0.true

pub overflow_mul-result : goal.overflow_mul-result
overflow_mul-result t c = let z = sized _ _ _ _ _ (omega arith) c.read_groups.ensures c.in_ok-n.was in omega arith

pub overflow_add-result : goal.overflow_add-result
overflow_add-result t c = let z = sized _ _ _ _ _ (omega arith) c.read_groups.ensures c.in_ok-n.was in omega arith

pub overflow_add-result-2 : goal.overflow_add-result-2
overflow_add-result-2 t c = let z = sized _ _ _ _ _ (omega arith) c.read_groups.ensures c.in_ok-n.was in omega arith

pub returns : goal.returns
returns t c =
    joined _ _ _ _ c.if-k-eq0.false c.if-s-eq0.false c.if-b-lt128.false c.rest.ensures c.read_groups.ensures _ _ c.in_ok-n.was c.if-n-eq0.false

pub returns-in_err-n : goal.returns-in_err-n
returns-in_err-n t c =
    rw c.from_residual.ensures (cut _ _ _ _ c.if-k-eq0.false c.if-s-eq0.false c.if-b-lt128.false c.rest.ensures c.read_groups.ensures c.in_err-n.was)
