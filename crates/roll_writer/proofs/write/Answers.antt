-- `write` of lib.rt meets its contract: r ≡ write_answer (write_check limits b (now acts.entry) n) (game_text b (now acts.entry) n) (length (now (out
-- .entry))); now out.exit ≡ write_bytes (write_check limits b (now acts.entry) n) (game_text b (now acts.entry) n) (now out.entry).
use mathlib.Core.Path.{ap, sym, ◌∙◌}
use native.Mathlib.Omega.{arith}
use Rattle.game_rules.specs.Limits.{limits}
use Rattle.roll_text.specs.Calls.{write_check, game_text}
use Prim.Native.Nat.{◌≤◌}
use lib.ListN.{length}
use Rattle.answer.specs.Answer.{accepted, too_short}
use Rattle.answer.proofs.Writes.{write_short, write_fits}
use Rattle.roll_writer.proofs.Sized.{not_accepted, was_accepted}
use Rattle.roll_writer.proofs.Whole.{over_front}
use Rattle.roll_writer.proofs.write.Goals as goal

pub returns-in-Err : goal.returns-in-Err
returns-in-Err c =
    let a = c.args in
    let w = not_accepted c.refused.result c.in-Err.number (write_check limits a.b a.acts.now a.n) (game_text a.b a.acts.now a.n) a.out.now
    (sym c.measure.ensures ∙ c.in-Err.is) c.refused.ensures in
    record { answer = w.answer; bytes = w.bytes }

pub returns-then-out-length : goal.returns-then-out-length
returns-then-out-length c =
    let a = c.args in
    let text = game_text a.b a.acts.now a.n in
    let m = was_accepted c.in-Ok.length (write_check limits a.b a.acts.now a.n) text (sym c.measure.ensures ∙ c.in-Ok.is) in
    let w = write_short text a.out.now (omega (arith, m.long, c.if-out-length.true)) in
    record { answer = rw m.passed (ap too_short m.long ∙ w.answer); bytes = rw m.passed w.bytes }

pub returns : goal.returns
returns c =
    let a = c.args in
    let text = game_text a.b a.acts.now a.n in
    let m = was_accepted c.in-Ok.length (write_check limits a.b a.acts.now a.n) text (sym c.measure.ensures ∙ c.in-Ok.is) in
    let fits : length text ≤ length a.out.now = omega (arith, m.long, c.if-out-length.false) in
    let w = write_fits text a.out.now fits in
    record {
      answer = rw m.passed (c.accepted.ensures ∙ ap accepted m.long ∙ w.answer);
      bytes = rw m.passed (c.put.ensures ∙ sym (over_front text a.out.now fits));
    }
