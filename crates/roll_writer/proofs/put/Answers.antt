-- `put` of lib.rt meets its contract: now out.exit ≡ written (now out.entry) 0 (game_text b (now acts.entry) n).
use native.Mathlib.Omega.{arith}
use mathlib.Core.Path.{◌≡◌, refl, ap, ◌∙◌}
use Prim.Native.Nat.{ℕ, ◌+◌}
use lib.ListN.{length}
use Rattle.answer.specs.Parts.{written}
use Rattle.roll_text.specs.Number.{number_text}
use Rattle.game_rules.specs.Limits.{limits}
use Rattle.roll_text.proofs.Entries.{reach_five}
use Rattle.roll_writer.specs.CodeSizes.{start_text}
use Rattle.roll_writer.proofs.Counting.{text_is}
use Rattle.roll_writer.proofs.Whole.{passed, text_long, record_there, count_there, all_there}
use Rattle.roll_writer.proofs.put.Goals as goal

pub put_start-behind-requires : goal.put_start-behind-requires
put_start-behind-requires c =
    let a = c.args in
    let pre = c.requires in
    let p = passed limits a.b a.acts.now a.n pre.n_value in
    record { b_value = p.good; b_in_bounds = omega (arith, pre.n_in_bounds, text_long a.b a.acts.now a.n p.good) }

pub put_number-at-requires : goal.put_number-at-requires
put_number-at-requires c =
    let a = c.args in
    let pre = c.requires in
    let at-put-start = c.put_start-behind in
    let p = passed limits a.b a.acts.now a.n pre.n_value in
    let x = at-put-start.new.out in
    let there = record_there a.b a.acts.now a.n p.good a.out.now x x x _ pre.n_in_bounds at-put-start.ensures.bytes refl in
    record { small = omega (arith, reach_five, p.few); fits = omega (arith, there, at-put-start.ensures.end) }

pub first_actions-requires : goal.first_actions-requires
first_actions-requires c =
    let p = passed limits c.args.b c.args.acts.now c.args.n c.requires.n_value in
    omega (arith, p.long, p.few)

pub put_actions-requires : goal.put_actions-requires
put_actions-requires c =
    let a = c.args in
    let pre = c.requires in
    let at-put-start = c.put_start-behind in
    let at-put-number = c.put_number-at in
    let p = passed limits a.b a.acts.now a.n pre.n_value in
    let x = at-put-start.new.out in
    let y = at-put-number.new.out in
    let here : at-put-number.result ≡ length (start_text a.b) + length (number_text a.n) = omega
    (arith, at-put-number.ensures.end, at-put-start.ensures.end) in
    let count : y ≡ written x (length (start_text a.b)) (number_text a.n)
    = at-put-number.ensures.bytes ∙ ap (λ (i : ℕ). written x i (number_text a.n)) at-put-start.ensures.end in
    let is = c.first_actions.ensures in
    rw (text_is c.first_actions.result.now a.acts.now is.0 a.n is.1)
    (count_there a.b a.acts.now a.n p.good a.out.now x y y at-put-number.result pre.n_in_bounds at-put-start.ensures.bytes here count)

pub returns : goal.returns
returns c =
    let a = c.args in
    let pre = c.requires in
    let at-put-start = c.put_start-behind in
    let at-put-number = c.put_number-at in
    let is = c.first_actions.ensures in
    let at-put-actions = c.put_actions in
    let p = passed limits a.b a.acts.now a.n pre.n_value in
    let x = at-put-start.new.out in
    let y = at-put-number.new.out in
    let here : at-put-number.result ≡ length (start_text a.b) + length (number_text a.n) = omega
    (arith, at-put-number.ensures.end, at-put-start.ensures.end) in
    let count : y ≡ written x (length (start_text a.b)) (number_text a.n)
    = at-put-number.ensures.bytes ∙ ap (λ (i : ℕ). written x i (number_text a.n)) at-put-start.ensures.end in
    all_there a.b a.acts.now a.n p.good a.out.now x y at-put-actions.new.out at-put-number.result pre.n_in_bounds
    at-put-start.ensures.bytes here
    count (at-put-actions.ensures ∙ ap (written y at-put-number.result) (text_is c.first_actions.result.now a.acts.now is.0 a.n is.1))
