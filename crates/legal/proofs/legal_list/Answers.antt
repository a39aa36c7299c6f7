-- `legal_list` of lib.rt meets its contract: r ≡ write_answer (list_check b) (legal_moves b) (length (now out.entry)); now out.exit ≡ write_bytes
-- (list_check b) (legal_moves b) (now out.entry).
use native.Mathlib.Omega.{arith}
use mathlib.Core.Path.{refl, sym, ◌∙◌}
use lib.ListN.{length}
use Rattle.answer.specs.Answer.{write_answer, write_bytes}
use Rattle.move_laws.specs.Legal.{legal_moves, list_check}
use Rattle.legal.proofs.Listing.{few, many, front, check_range, check_many, check_few, answer_5, answer_6, bytes_5, bytes_6, answer_0, bytes_0}
use Rattle.legal.proofs.legal_list.Goals as goal

pub returns-then-not-in_range : goal.returns-then-not-in_range
returns-then-not-in_range c =
    let a = c.args in
    let at-in-range = c.in_range in
    let at-if1 = c.if-not-in_range in record {
      answer = c.refused.ensures ∙ answer_5 (list_check a.b) (legal_moves a.b) (length a.out.now)
          (check_range a.b (sym at-in-range.ensures ∙ at-if1.true));
      bytes = bytes_5 (list_check a.b) (legal_moves a.b)
          a.out.now (check_range a.b (sym at-in-range.ensures ∙ at-if1.true));
    }

pub returns-in_default : goal.returns-in_default
returns-in_default c =
    let a = c.args in
    let good = sym c.in_range.ensures ∙ c.if-not-in_range.false in
    let over = check_many a.b good (many (legal_moves a.b) 256 c.in_default.ensures.count (omega arith)) in record {
      answer = c.refused-in_default.ensures ∙ answer_6 (list_check a.b) (legal_moves a.b) (length a.out.now) over;
      bytes = bytes_6 (list_check a.b) (legal_moves a.b) a.out.now over;
    }

pub returns : goal.returns
unfolding write_answer write_bytes
returns c =
    let a = c.args in
    let some = c.in-Some.ensures in
    let moves = legal_moves a.b in
    let fit = check_few a.b (sym c.in_range.ensures ∙ c.if-not-in_range.false) (few moves c.in-Some.count some.count some.few) in
    let text = front moves _ _ c.in-Some.count refl some.count some.few some.room in record {
      answer = c.write_items.ensures.answer ∙ answer_0 (list_check a.b) moves _ (length a.out.now) fit text;
      bytes = c.write_items.ensures.items ∙ bytes_0 (list_check a.b) moves _ a.out.now fit text;
    }
