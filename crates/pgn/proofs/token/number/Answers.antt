-- Digits and periods together are within what follows, so their sum fits.
use mathlib.Core.Path.{ap, ◌∙◌}
use native.Mathlib.Omega.{arith}
use Rattle.pgn_text.specs.Token.{number}
use Rattle.pgn_text.proofs.Tokens.{number_sum}
use Rattle.pgn_text.specs.Bytes.{run_length}
use Rattle.pgn_text.specs.declared.Run.TheVariants.{Periods}
use Rattle.pgn.proofs.token.number.Goals as goal

pub overflow_add-result : goal.overflow_add-result
overflow_add-result c =
    let a = c.args in
    let at-run-length = c.run_length-digits in
    let at_rest = c.rest in
    omega (
      arith,
      number_sum a.after.now at-run-length.result c.run_length-periods.result at-run-length.ensures
          (c.run_length-periods.ensures ∙ ap (run_length Periods) at_rest.ensures),
    )

pub returns : goal.returns
unfolding number
returns c = cc
