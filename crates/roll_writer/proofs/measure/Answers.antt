-- `measure` of lib.rt meets its contract: r ≡ measured (write_check limits b (now acts.entry) n) (game_text b (now acts.entry) n).
use mathlib.Core.Path.{ap, sym, ◌∙◌}
use native.Mathlib.Omega.{arith}
use Prim.Native.Nat.{ℕ}
use lib.Dec.{ltb}
use Rattle.game_rules.specs.Limits.{limits}
use Rattle.roll_text.specs.Calls.{moves_by_kind, write_check, game_text}
use borrow.Author.Tests.{ltb-true, ltb-false}
use Rattle.std.proofs.lemmas.Result.{err_from_is_err_and}
use Rattle.std.proofs.lemmas.Option.{MatchOption-at_some}
use Rattle.roll_text.proofs.Refusals.{refusal_is}
use Rattle.roll_writer.specs.CodeSizes.{actions_size}
use Rattle.roll_writer.proofs.Laws.{groups_most}
use Rattle.roll_writer.proofs.Checks.{too_short_fact, not_in_range, too_many, too_many_moves, no_action, passes}
use Rattle.roll_writer.proofs.Sized.{size_none, size_all, refused_so, accepted_so}
use Rattle.roll_writer.proofs.Whole.{text_long}
use Rattle.roll_writer.proofs.measure.Goals as goal

pub returns-then-acts-lt-ACTIONS_LENGTH : goal.returns-then-acts-lt-ACTIONS_LENGTH
returns-then-acts-lt-ACTIONS_LENGTH c =
    let a = c.args in
    refused_so _ (write_check limits a.b a.acts.now a.n) (game_text a.b a.acts.now a.n)
    (too_short_fact a.b a.acts.now a.n c.if-acts-lt-ACTIONS_LENGTH.true) (λ z. omega arith)

pub returns-then-not-in_range : goal.returns-then-not-in_range
returns-then-not-in_range c =
    let at-args = c.args in
    let at-if1 = c.if-acts-lt-ACTIONS_LENGTH in
    let at-in-range = c.in_range in
    let at-if2 = c.if-not-in_range in
    refused_so _ (write_check limits at-args.b at-args.acts.now
    at-args.n) (game_text at-args.b at-args.acts.now at-args.n)
    (not_in_range at-args.b at-args.acts.now at-args.n at-if1.false (sym at-in-range.ensures ∙ at-if2.true)) (λ z. omega arith)

pub returns-then-n : goal.returns-then-n
returns-then-n c =
    let at-args = c.args in
    let at-if1 = c.if-acts-lt-ACTIONS_LENGTH in
    let at-in-range = c.in_range in
    let at-if2 = c.if-not-in_range in
    let at-if3 = c.if-n in
    refused_so _ (write_check limits at-args.b at-args.acts.now at-args.n) (game_text at-args.b at-args.acts.now at-args.n)
    (too_many at-args.b at-args.acts.now at-args.n at-if1.false
    (sym at-in-range.ensures ∙ at-if2.false) at-if3.true) (λ z. omega arith)

pub returns-then-too_many_moves : goal.returns-then-too_many_moves
returns-then-too_many_moves c =
    let at-args = c.args in
    let at-if1 = c.if-acts-lt-ACTIONS_LENGTH in
    let at-in-range = c.in_range in
    let at-if2 = c.if-not-in_range in
    let at-if3 = c.if-n in
    let is = c.first_actions-actions.ensures in
    let moves = c.too_many_moves.ensures at-args.acts.now is.0 ∙ ap (λ (k : ℕ). ltb limits.most_moves (moves_by_kind at-args.acts.now k)) is.1 in
    let at-if4 = c.if-too_many_moves in
    refused_so _ (write_check limits at-args.b at-args.acts.now at-args.n) (game_text at-args.b at-args.acts.now at-args.n)
    (too_many_moves at-args.b at-args.acts.now at-args.n at-if1.false
    (sym at-in-range.ensures ∙ at-if2.false) at-if3.false
    (ltb-true _ _ (sym moves ∙ at-if4.true))) (λ z. omega arith)

pub returns-in_err-size : goal.returns-in_err-size
returns-in_err-size c =
    let a = c.args in
    let is = c.first_actions-actions.ensures in
    let moves = c.too_many_moves.ensures a.acts.now is.0 ∙ ap (λ (k : ℕ). ltb limits.most_moves (moves_by_kind a.acts.now k)) is.1 in
    let size = c.actions_size.ensures.size a.acts.now is.0 ∙ ap (λ (k : ℕ). actions_size k a.acts.now) is.1 in
    let p = err_from_is_err_and c.from_residual.result c.from_residual.ensures.1 in
    let k = refusal_is c.in_err-size.ensures.value c.in_err-size.ensures.ok_part in
    rw (p.1, p.2, k) (refused_so _ (write_check limits a.b a.acts.now a.n) (game_text a.b a.acts.now a.n)
    (no_action a.b a.acts.now a.n c.if-acts-lt-ACTIONS_LENGTH.false (sym c.in_range.ensures ∙ c.if-not-in_range.false) c.if-n.false
    (ltb-false _ _ (sym moves ∙ c.if-too_many_moves.false))
    (size_none a.acts.now a.n (sym size ∙ c.in_err-size.ensures.ok_part))) (λ z. omega arith))

pub overflow_add-result : goal.overflow_add-result
overflow_add-result c = omega (arith, c.number_length.ensures, c.start_size.ensures.1, groups_most 5 c.args.n)

pub overflow_add-result-2 : goal.overflow_add-result-2
overflow_add-result-2 c =
    let few = MatchOption-at_some _ _ _ c.in_ok-size.ensures.ok_part c.actions_size.ensures.most in
    omega (arith, c.number_length.ensures, groups_most 5 c.args.n, c.start_size.ensures.1, few, c.first_actions-actions.ensures.1, c.if-n.false)

pub returns : goal.returns
returns c =
    let a = c.args in
    let is = c.first_actions-actions.ensures in
    let moves = c.too_many_moves.ensures a.acts.now is.0 ∙ ap (λ (k : ℕ). ltb limits.most_moves (moves_by_kind a.acts.now k)) is.1 in
    let size = c.actions_size.ensures.size a.acts.now is.0 ∙ ap (λ (k : ℕ). actions_size k a.acts.now) is.1 in
    let all = size_all a.acts.now a.n c.in_ok-size.size (sym size ∙ c.in_ok-size.ensures.ok_part) in
    let good = sym c.in_range.ensures ∙ c.if-not-in_range.false in
    let check = passes a.b a.acts.now a.n c.if-acts-lt-ACTIONS_LENGTH.false good c.if-n.false
    (ltb-false _ _ (sym moves ∙ c.if-too_many_moves.false)) all.held in
    accepted_so _ (write_check limits a.b a.acts.now a.n) (game_text a.b a.acts.now a.n) check
    (omega (arith, text_long a.b a.acts.now a.n good, all.long, c.start_size.ensures.0, c.number_length.ensures))
