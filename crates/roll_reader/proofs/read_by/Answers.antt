use mathlib.Core.Path.{ap, sym, ◌∙◌}
use lib.ListN.{length}
use Rattle.roll_text.specs.Calls.{roll_answer}
use Rattle.roll_reader.proofs.Answers.{over_refusal, short_part, long_part, written_over, roll_answer_lem}
use Rattle.roll_reader.proofs.read_by.Goals as goal

pub returns-then-part-lt-ACTIONS_LENGTH : goal.returns-then-part-lt-ACTIONS_LENGTH
returns-then-part-lt-ACTIONS_LENGTH c =
    let a = c.args in
    let j = short_part a.counted a.s.now (length a.part.now) c.if-part-lt-ACTIONS_LENGTH.true in
    record { answer = c.refusal.ensures ∙ ap roll_answer (sym j); bytes = over_refusal _ _ a.part.now j }

pub returns-in-Ok : goal.returns-in-Ok
returns-in-Ok c =
    let a = c.args in
    let w = c.in-Ok.ensures.accepted in
    let j = long_part a.counted a.s.now (length a.part.now) c.if-part-lt-ACTIONS_LENGTH.false ∙ w.reads in
    record {
      answer = roll_answer_lem _ a.s.now _ _ _ _ _ j w.actions c.board_at.ensures;
      bytes = written_over _ _ _ _ a.part.now _ j c.write_actions.ensures;
    }

pub returns-in-Err : goal.returns-in-Err
returns-in-Err c =
    let a = c.args in
    let j = long_part a.counted a.s.now (length a.part.now) c.if-part-lt-ACTIONS_LENGTH.false ∙ c.in-Err.ensures.refused in
    record { answer = c.refusal-in-Err.ensures ∙ ap roll_answer (sym j); bytes = over_refusal _ _ a.part.now j }
