-- `resign` of lib.rt meets its contract: r ≡ counts_after (call_answer limits (now acts.entry) (now ps.entry) n m (resign colour)) n m (resign colour);
-- now acts.exit ≡ actions_after (call_answer limits (now acts.entry) (now ps.entry) n m (resign colour)) (now acts.entry) n (resign colour).
use mathlib.Core.Path.{refl, ap, ◌∙◌}
use Prim.Native.Nat.{ℕ}
use Rattle.action.specs.declared.Action.TheVariants.{Resign}
use Rattle.game_rules.specs.Rules.{resign}
use Rattle.game_rules.specs.Calls.{counts_after, actions_after}
use Rattle.game.specs.CodeAnswers.{other_counts, other_actions}
use Rattle.game.proofs.Answers.{other_is}
use Rattle.game.proofs.resign.Goals as goal

pub returns : goal.returns
unfolding counts_after actions_after
returns c =
    let a = c.args in
    let at-act = c.act in
    let e = other_is a.acts.now a.ps.now a.n a.m (resign a.colour) refl in
    record {
      counts = at-act.ensures.counts ∙ ap (λ (x : ℕ). other_counts x a.n a.m) e;
      actions = at-act.ensures.actions ∙ ap (λ (x : ℕ). other_actions x a.acts.now a.n (Resign a.colour)) e;
    }
