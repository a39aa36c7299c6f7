-- `put_short` of lib.rt meets its contract: r ≡ at + length (action_text 1 0 number); now out.exit ≡ written (now out.entry) at (action_text 1 0
-- number).
use mathlib.Core.Path.{ap, sym, ◌∙◌}
use native.Mathlib.Omega.{arith}
use Prim.Native.Nat.{◌+◌, ◌/◌, ◌%◌}
use lib.ListN.{length, length-set}
use Rattle.answer.specs.Parts.{written}
use Rattle.roll_writer.proofs.Counting.{short_text_lem, three_put}
use Rattle.roll_writer.proofs.put_short.Goals as goal

pub bounds-out-at : goal.bounds-out-at
bounds-out-at c =
    let text = short_text_lem c.args.number c.requires.short.least c.requires.short.most in
    omega (arith, c.requires.number_in_bounds, ap length text)

pub bounds-out-at-2 : goal.bounds-out-at-2
bounds-out-at-2 c =
    let text = short_text_lem c.args.number c.requires.short.least c.requires.short.most in
    simp length-set (omega (arith, c.requires.number_in_bounds, ap length text))

pub bounds-out-at-3 : goal.bounds-out-at-3
bounds-out-at-3 c =
    let text = short_text_lem c.args.number c.requires.short.least c.requires.short.most in
    simp length-set (omega (arith, c.requires.number_in_bounds, ap length text))

pub returns : goal.returns
returns c =
    let text = short_text_lem c.args.number c.requires.short.least c.requires.short.most in
    let n = c.args.number in
    let put = three_put c.args.out.now c.args.at 2 (128 + n % 128) (n / 128) (omega (arith, c.requires.number_in_bounds, ap length text)) in
    record { end = omega (arith, ap length text); bytes = put ∙ ap (written c.args.out.now c.args.at) (sym text) }
