-- `offer_draw` of lib.rt meets its contract: r ≡ counts_after (call_answer limits (now acts.entry) (now ps.entry) n m (offer_draw colour)) n m
-- (offer_draw colour); now acts.exit ≡ actions_after (call_answer limits (now acts.entry) (now ps.entry) n m (offer_draw colour)) (now acts.entry)
-- n (offer_draw colour).
use mathlib.Core.Path.{refl, ap, ◌∙◌}
use Prim.Native.Nat.{ℕ}
use Rattle.action.specs.declared.Action.TheVariants.{OfferDraw}
use Rattle.game_rules.specs.Rules.{offer_draw}
use Rattle.game_rules.specs.Calls.{counts_after, actions_after}
use Rattle.game.specs.CodeAnswers.{other_counts, other_actions}
use Rattle.game.proofs.Answers.{other_is}
use Rattle.game.proofs.offer_draw.Goals as goal

pub returns : goal.returns
unfolding counts_after actions_after
returns c =
    let a = c.args in
    let at-act = c.act in
    let e = other_is a.acts.now a.ps.now a.n a.m (offer_draw a.colour) refl in
    record {
      counts = at-act.ensures.counts ∙ ap (λ (x : ℕ). other_counts x a.n a.m) e;
      actions = at-act.ensures.actions ∙ ap (λ (x : ℕ). other_actions x a.acts.now a.n (OfferDraw a.colour)) e;
    }
