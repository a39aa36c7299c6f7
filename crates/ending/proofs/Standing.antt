-- Laws of a standing offer.
-- Assumes nothing.
use Rattle.std.specs.Prelude.{Option}
use mathlib.Core.Path.{◌≡◌}
use mathlib.Core.Bool.{true, false}
use mathlib.Core.List.{List}
use Prim.Native.Nat.{ℕ, ◌-◌}
use Rattle.action.specs.declared.Action.{Action}
use Rattle.actions.specs.Part.{last_action}
use Rattle.position.specs.Layout.{Position, side}
use Rattle.ending.specs.Ending.{is_offer, is_offer_by, offer_in}

module _ (p : Position) (last before : Option Action) where
  pub stands_last : is_offer last ≡ true → offer_in p last before ≡ true
  unfolding offer_in
  stands_last e = rw e

  pub stands_before : is_offer last ≡ false → offer_in p last before ≡ is_offer_by (1 - side p) before
  unfolding offer_in
  stands_before e = rw e

-- where there is no action, there is none before it
pub none_before : (acts : List ℕ) (n colour : ℕ) → n ≡ 0 → is_offer_by colour (last_action acts (n - 1)) ≡ false
unfolding last_action
none_before acts n colour z = rw z
