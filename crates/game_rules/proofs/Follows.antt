-- Each move of a good log, and each move that is answered 0, came with the record after it.
-- Assumes nothing.
use mathlib.Core.Path.{◌≡◌, sym, ◌∙◌}
use mathlib.Core.Bool.{true, ◌&&◌}
use Prim.Native.Nat.{ℕ}
use lib.Dec.{eqb}
use borrow.Author.Tests.{eqb-true}
use Rattle.answer.specs.Numbers.{same}
use Rattle.answer.proofs.Numbers.{both_left, both_right}
use Rattle.answer.proofs.Same.{same_eq}
use Rattle.chess_move.specs.Number.{source_of, dest_of}
use Rattle.move_rules.specs.After.{record_after, half_after, full_after}
use Rattle.move_rules.specs.Leads.{counters_from}
use Rattle.position.specs.Layout.{Position, side}
use Rattle.game_rules.specs.Limits.{Limits}
use Rattle.game_rules.specs.Rules.{make_move, offer_draw, accept_draw, declare_draw, resign, History, begun, after, current, comes_after}
use Rattle.game_rules.specs.Good.{Accepted, history_of}
use Rattle.game_rules.specs.Calls.{call_answer}
use Rattle.game_rules.specs.Promises.{called, WithItsRecord, Follows, GoodLogsFollow, MovesComeWithTheirRecord}
use Rattle.game_rules.proofs.Checks.{move_says, call_says}
use Rattle.game_rules.proofs.Decide.{good_history}
use Rattle.game_rules.proofs.Keeps.{answer_left}

-- a position that passes the test comes with the record
with_record : (p : Position) (m : ℕ) (q : Position) → comes_after p m q ≡ true → WithItsRecord p m q
unfolding counters_from
with_record p m q e =
    let board = same q.board (record_after p.board m) in
    let half = eqb q.half (half_after p.board p.half (source_of m) (dest_of m)) in
    let full = eqb q.full (full_after (side p) p.full) in
    let counters = both_right board (half && full) e in
    record {
      numbers = same_eq _ _ (both_left board (half && full) e);
      half = eqb-true _ _ (both_left half full counters);
      full = eqb-true _ _ (both_right half full counters);
    }

accepted_follows : (L : Limits) (h : History) → Accepted L h → Follows h
unfolding Accepted Follows
accepted_follows L (begun p) a = tt
accepted_follows L (after h (make_move m p)) a = (accepted_follows L h a.0, with_record (current h) m p (move_says L h m p a.1).after)
accepted_follows L (after h (offer_draw c)) a = accepted_follows L h a.0
accepted_follows L (after h accept_draw) a = accepted_follows L h a.0
accepted_follows L (after h declare_draw) a = accepted_follows L h a.0
accepted_follows L (after h (resign c)) a = accepted_follows L h a.0

pub good_logs_follow : GoodLogsFollow
good_logs_follow L acts ps n m (h, a, g) = rw (good_history L acts ps n m h a g) (accepted_follows L h a)

pub moves_come_with_their_record : MovesComeWithTheirRecord
unfolding called
moves_come_with_their_record L acts ps n m x p e =
    let z : call_answer L acts ps n m (make_move x p) ≡ 0 = sym (answer_left (call_answer L acts ps n m (make_move x p)) acts ps n m (make_move x p)) ∙ e in
    with_record (current (history_of acts ps n)) x p (move_says L (history_of acts ps n) x p (call_says L acts ps n m (make_move x p) z).1).after
