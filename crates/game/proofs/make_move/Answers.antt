-- `make_move` of lib.rt meets its contract: r ≡ counts_after (call_answer limits (now acts.entry) (now ps.entry) n m (make_move x (position_given next
-- in_check (now list.entry)))) n m (make_move x (position_given next in_check (now list.entry))); now acts.exit ≡ actions_after (call_answer limits
-- (now acts.entry) (now ps.entry) n m (make_move x (position_given next in_check (now list.entry)))) (now acts.entry) n (make_move x
-- (position_given next in_check (now list.entry))); now ps.exit ≡ positions_after (call_answer limits (now acts.entry) (now ps.entry) n m
-- (make_move x (position_given next in_check (now list.entry)))) (now ps.entry) m (make_move x (position_given next in_check (now list.entry))).
use native.Mathlib.Omega.{arith}
use mathlib.Core.Path.{ap, sym, ◌∙◌}
use Prim.Native.Nat.{◌*◌}
use Rattle.answer.specs.declared.Answer.{Answer}
use Rattle.answer.specs.Parts.{written}
use Rattle.action.specs.Layout.{action_size, action_bytes, action_check}
use Rattle.action.specs.declared.Action.TheVariants.{MakeMove}
use Rattle.chess_move.proofs.Numbers.{number_of_parts}
use Rattle.chess_move.specs.declared.ChessMove.{ChessMove}
use Rattle.position.specs.Layout.{Position}
use Rattle.stored_position.specs.Bytes.{position_given}
use Rattle.game_rules.specs.Limits.{limits}
use Rattle.game_rules.specs.Rules.{make_move}
use Rattle.game_rules.specs.Calls.{call_answer}
use Rattle.game.proofs.Answers.{move_found}
use Rattle.game.proofs.Ways as ways
use Rattle.game.proofs.make_move.Goals as goal

pub returns-in-Err : goal.returns-in-Err
returns-in-Err c =
    let a = c.args in
    let q : Position = position_given a.next a.in_check a.list.now in
    let f = ways.refused_of _ _ (sym c.move_answer.ensures ∙ c.in-Err.is) in
    let whole = ways.move_refused (call_answer limits a.acts.now a.ps.now a.n a.m (make_move a.x q)) a.n a.m a.x
    a.acts.now a.ps.now q c.counts.result _ f.0 f.1 c.counts.ensures in record
    { counts = whole.0; actions = whole.1.0; positions = whole.1.1 }

pub overflow_cast-x : goal.overflow_cast-x
overflow_cast-x c =
    let a = c.args in
    let q : Position = position_given a.next a.in_check a.list.now in
    let f = move_found a.acts.now a.ps.now a.n a.m a.x q (ways.passed_of _ _ (sym c.move_answer.ensures ∙ c.in_default.is)) in
    omega (arith, f.number)

pub put_action-requires : goal.put_action-requires
unfolding action_check
put_action-requires c =
    let a = c.args in
    let q : Position = position_given a.next a.in_check a.list.now in
    let f = move_found a.acts.now a.ps.now a.n a.m a.x q (ways.passed_of _ _ (sym c.move_answer.ensures ∙ c.in_default.is)) in
    (f.room, ap (λ (x : ChessMove). action_check (MakeMove x)) c.from_number.ensures ∙ ap (λ (x : Answer). x.number) (number_of_parts a.x f.number))

pub overflow_add-moves : goal.overflow_add-moves
overflow_add-moves c =
    let a = c.args in
    let q : Position = position_given a.next a.in_check a.list.now in
    let f = move_found a.acts.now a.ps.now a.n a.m a.x q (ways.passed_of _ _ (sym c.move_answer.ensures ∙ c.in_default.is)) in
    omega (arith, f.some)

pub put_position-requires : goal.put_position-requires
put_position-requires c =
    let a = c.args in
    let q : Position = position_given a.next a.in_check a.list.now in
    let f = move_found a.acts.now a.ps.now a.n a.m a.x q (ways.passed_of _ _ (sym c.move_answer.ensures ∙ c.in_default.is)) in
    (omega (arith, f.place), f.check)

pub overflow_add-actions : goal.overflow_add-actions
overflow_add-actions c =
    let a = c.args in
    let q : Position = position_given a.next a.in_check a.list.now in
    let f = move_found a.acts.now a.ps.now a.n a.m a.x q (ways.passed_of _ _ (sym c.move_answer.ensures ∙ c.in_default.is)) in
    omega (arith, f.few)

pub overflow_add-moves-2 : goal.overflow_add-moves-2
overflow_add-moves-2 c =
    let a = c.args in
    let q : Position = position_given a.next a.in_check a.list.now in
    let f = move_found a.acts.now a.ps.now a.n a.m a.x q (ways.passed_of _ _ (sym c.move_answer.ensures ∙ c.in_default.is)) in
    omega (arith, f.some)

pub returns : goal.returns
returns c =
    let a = c.args in
    let at-from-number = c.from_number in
    let at-put-action = c.put_action in
    let at-put-position = c.put_position in
    let q : Position = position_given a.next a.in_check a.list.now in
    let whole = ways.move_accepted (call_answer limits a.acts.now a.ps.now a.n a.m (make_move a.x q)) a.n a.m a.x
    a.acts.now a.ps.now q c.counts-2.result _ _ (ways.passed_of _ _ (sym c.move_answer.ensures ∙ c.in_default.is)) c.counts-2.ensures
    (at-put-action.ensures ∙ ap (λ (x : ChessMove). written a.acts.now (action_size * a.n) (action_bytes (MakeMove x))) at-from-number.ensures)
    at-put-position.ensures in record { counts = whole.0; actions = whole.1.0; positions = whole.1.1 }
