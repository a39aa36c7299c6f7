-- `in_run` of bytes.rt meets its contract: r ≡ in_run run b.
use Rattle.pgn_text.specs.declared.Run.{Run}
use mathlib.Core.Path.{sym, ap, ◌∙◌}
use Rattle.pgn_text.specs.Bytes.{in_run}
use Rattle.pgn.proofs.bytes.in_run.Goals as goal

pub returns-in-Digits : goal.returns-in-Digits
unfolding in_run
returns-in-Digits c = c.is_digit.ensures ∙ sym (ap (λ (r : Run). in_run r c.args.b) c.in-Digits.is)

pub returns-in-Periods : goal.returns-in-Periods
unfolding in_run
returns-in-Periods c = sym (ap (λ (r : Run). in_run r c.args.b) c.in-Periods.is)

pub returns-in-MoveBytes : goal.returns-in-MoveBytes
unfolding in_run
returns-in-MoveBytes c = c.in_move.ensures ∙ sym (ap (λ (r : Run). in_run r c.args.b) c.in-MoveBytes.is)

pub returns-in-InBraces : goal.returns-in-InBraces
unfolding in_run
returns-in-InBraces c = sym (ap (λ (r : Run). in_run r c.args.b) c.in-InBraces.is)

pub returns-in-InLine : goal.returns-in-InLine
unfolding in_run
returns-in-InLine c = sym (ap (λ (r : Run). in_run r c.args.b) c.in-InLine.is)
