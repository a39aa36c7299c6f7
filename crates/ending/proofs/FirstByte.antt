-- The last action's first byte: a move's and an offer's leave the game going, and so do bytes that hold no action.
-- Assumes nothing.
use Rattle.std.specs.Prelude.{Some, None}
use mathlib.Core.Path.{◌≡◌, refl, ap, ◌∙◌}
use mathlib.Core.Bool.{Bool, true, false, cond, ◌&&◌}
use mathlib.Core.List.{List}
use Prim.Native.Nat.{ℕ, ◌+◌, ◌*◌, ◌-◌, ◌≤◌, ◌<◌}
use native.Mathlib.Omega.{arith}
use lib.Dec.{eqb, leb}
use lib.ListN.{length, drop, get_or, length-take, length-drop}
use lib.Seq.{get_or-take, get_or-drop}
use borrow.Author.Tests.{eqb-true, eqb-false}
use Rattle.answer.specs.Parts.{item}
use Rattle.chess_move.specs.Number.{last_move, of_bytes, move_of}
use Rattle.action.specs.declared.Action.{Action}
use Rattle.action.specs.declared.Action.TheVariants.{MakeMove, OfferDraw}
use Rattle.action.specs.Layout.{action_size, action_of}
use Rattle.action.proofs.Rules.{not_four, of_move, of_offer, of_none}
use Rattle.actions.specs.Part.{last_action}
use Rattle.actions.proofs.LastAction.{last_none, last_some}
use Rattle.ending.specs.Ending.{result_of_action}

-- an action after which the game goes on, where its bytes hold it
held_goes_on : (a : Action) → result_of_action (Some a) ≡ 0 → (held : Bool) → result_of_action (cond held (Some a) None) ≡ 0
held_goes_on a e true = e
held_goes_on a e false = refl

module _ (s : List ℕ) (low : get_or s 0 0 ≤ 2) where
  abbrev colour : ℕ
  colour = get_or s 1 0

  abbrev number : ℕ
  number = of_bytes (get_or s 2 0) (get_or s 3 0)

  low_four : length s ≡ action_size → result_of_action (action_of s) ≡ 0
  low_four four = go (eqb (get_or s 0 0) 1) refl (eqb (get_or s 0 0) 2) refl
    where
      go : (t : Bool) → eqb (get_or s 0 0) 1 ≡ t → (u : Bool) → eqb (get_or s 0 0) 2 ≡ u → result_of_action (action_of s) ≡ 0
      go true e u f =
          ap result_of_action (of_move s four (eqb-true _ _ e)) ∙ held_goes_on (MakeMove (move_of number)) refl (eqb colour 0 && leb number last_move)
      go false e true f =
          ap result_of_action (of_offer s four (eqb-true _ _ f)) ∙ held_goes_on (OfferDraw colour) refl (leb colour 1 && eqb number 0)
      go false e false f =
          ap result_of_action
          (of_none s four (eqb-false _ _ e) (eqb-false _ _ f) (λ x. omega arith) (λ x. omega arith) (λ x. omega arith))

  low_goes_on : result_of_action (action_of s) ≡ 0
  low_goes_on = go (eqb (length s) action_size) refl
    where
      go : (t : Bool) → eqb (length s) action_size ≡ t → result_of_action (action_of s) ≡ 0
      go true e = low_four (eqb-true _ _ e)
      go false e = ap result_of_action (not_four s (eqb-false _ _ e))

module _ (acts : List ℕ) (n : ℕ) where
  pub begun_goes_on : n ≡ 0 → result_of_action (last_action acts n) ≡ 0
  begun_goes_on e = ap result_of_action (last_none acts n e)

  pub past_goes_on : length acts < action_size * n → result_of_action (last_action acts n) ≡ 0
  past_goes_on h =
      let short : length (item action_size acts (n - 1)) ≡ 4 → ⊥ = λ e. omega (arith, simp (length-take, length-drop) at e) in
      ap result_of_action (last_some acts n (λ z. omega arith) ∙ not_four (item action_size acts (n - 1)) short)

  pub first_byte_goes_on : (n ≡ 0 → ⊥) → get_or acts (action_size * (n - 1)) 0 ≤ 2 → result_of_action (last_action acts n) ≡ 0
  first_byte_goes_on some low =
      let e : action_size * (n - 1) + 0 ≡ action_size * (n - 1) = omega arith in
      let first : get_or (item action_size acts (n - 1)) 0 0 ≡ get_or acts (action_size * (n - 1)) 0 =
      get_or-take action_size (drop (action_size * (n - 1)) acts) 0 0 (omega arith) ∙ get_or-drop (action_size * (n - 1)) acts 0 0 ∙ ap
      (λ (x : ℕ). get_or acts x 0) e in
      ap result_of_action (last_some acts n some) ∙ low_goes_on (item action_size acts (n - 1)) (omega arith)
