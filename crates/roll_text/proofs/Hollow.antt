-- Reading back is not kept by a writer that takes no notice of the record or of the actions, nor by a reader that always refuses.
-- Assumes nothing.
use mathlib.Core.Path.{◌≡◌, refl, sym, ap, ap₂, ◌∙◌}
use mathlib.Core.Bool.{true}
use mathlib.Core.List.{List, ◌∷◌, ◌++◌}
use Prim.Native.Nat.{ℕ, zero, suc, ◌+◌, ◌≤◌, ◌<◌}
use native.Mathlib.Omega.{arith}
use lib.ListN.{length, take, drop, get_or, replicate, length-append, length-replicate}
use Rattle.answer.specs.declared.Answer.{Answer}
use Rattle.answer.specs.Numbers.{all_at_most}
use Rattle.board_builder.specs.declared.BoardBuilder.{BoardBuilder}
use Rattle.board_builder.specs.BoardBuilder.{in_range, empty_board, initial_board}
use Rattle.action.specs.Layout.{action_of}
use Rattle.actions.specs.Part.{actions_held, moves_in}
use Rattle.game_rules.specs.Limits.{Limits, actions_length}
use Rattle.roll_text.specs.declared.Roll.{Roll}
use Rattle.roll_text.specs.Calls.{game_text}
use Rattle.roll_text.specs.Promises.{wrote, Writable, OneConstantStartFails, OneConstantActionFails, AlwaysRefusingFails}

empty_in_range : in_range empty_board ≡ true
unfolding in_range all_at_most
empty_in_range = refl

initial_in_range : in_range initial_board ≡ true
unfolding in_range all_at_most
initial_in_range = refl

-- a part of bytes 0
zeros : (k : ℕ) → all_at_most 255 (replicate k 0) ≡ true
unfolding all_at_most
zeros zero = refl
zeros (suc k) = zeros k

module _ (L : Limits) where
  none : List ℕ
  none = replicate (actions_length L) 0

  none_long : length none ≡ actions_length L
  unfolding none
  none_long = length-replicate (actions_length L) 0

  none_bytes : all_at_most 255 none ≡ true
  unfolding none
  none_bytes = zeros (actions_length L)

  started : (b : BoardBuilder) → in_range b ≡ true → Writable L b none 0
  unfolding moves_in actions_held
  started b r = record { start = r; long = omega (arith, none_long); few = omega arith; few_moves = omega arith; held = refl }

  -- a part with an offer in front of it
  offered : ℕ → List ℕ
  offered colour = 2 ∷ colour ∷ 0 ∷ 0 ∷ none

  offered_long : (colour : ℕ) → length (offered colour) ≡ 4 + actions_length L
  unfolding offered
  offered_long colour = omega (arith, none_long)

  white_bytes : all_at_most 255 (offered 0) ≡ true
  unfolding offered all_at_most
  white_bytes = none_bytes

  black_bytes : all_at_most 255 (offered 1) ≡ true
  unfolding offered all_at_most
  black_bytes = none_bytes

  white_offers : 0 < L.most_actions → Writable L empty_board (offered 0) 1
  unfolding offered moves_in actions_held action_of
  white_offers h = record { start = empty_in_range; long = omega (arith, offered_long 0); few = h; few_moves = omega arith; held = refl }

  black_offers : 0 < L.most_actions → Writable L empty_board (offered 1) 1
  unfolding offered moves_in actions_held action_of
  black_offers h = record { start = empty_in_range; long = omega (arith, offered_long 1); few = h; few_moves = omega arith; held = refl }

  -- the colour of the action that was read
  colour_read : (colour : ℕ) → get_or (take 4 (offered colour) ++ drop 4 none) 1 0 ≡ colour
  unfolding offered
  colour_read colour = refl

-- a room for one of two texts
fits_first : (s t : List ℕ) → length s ≤ length (s ++ t)
fits_first s t = omega (arith, length-append s t)

fits_second : (s t : List ℕ) → length t ≤ length (s ++ t)
fits_second s t = omega (arith, length-append s t)

pub always_refusing_fails : AlwaysRefusingFails
always_refusing_fails L w r refuses back =
    let text = game_text empty_board (none L) 0 in
    let b = back empty_board (none L) 0 (text ++ text) (none L) (started L empty_board empty_in_range) (none_bytes L) (fits_first text text)
    (omega (arith, none_long L)) in
    refuses _ _ (ap (λ (a : Roll). a.number) b.back)

pub one_constant_start_fails : OneConstantStartFails
one_constant_start_fails L w r same_answer same_room back =
    let p = none L in
    let s = game_text empty_board p 0 in
    let t = game_text initial_board p 0 in
    let long : actions_length L ≤ length p = omega (arith, none_long L) in
    let e = back empty_board p 0 (s ++ t) p (started L empty_board empty_in_range) (none_bytes L) (fits_first s t) long in
    let i = back initial_board p 0 (s ++ t) p (started L initial_board initial_in_range) (none_bytes L) (fits_second s t) long in
    let texts : wrote w empty_board p 0 (s ++ t) ≡ wrote w initial_board p 0 (s ++ t)
    = ap₂ (λ (a : Answer) (l : List ℕ). take a.value l)
    (same_answer empty_board initial_board p 0 (length (s ++ t)) empty_in_range initial_in_range)
    (same_room empty_board initial_board p 0 (s ++ t) empty_in_range initial_in_range) in
    let boards = sym e.back ∙ ap (λ (l : List ℕ). r.answer l (length p)) texts ∙ i.back in
    let rights : ◌≡◌ {A = ℕ} 0 3 = ap (λ (a : Roll). a.board.white_castle_rights) boards in
    omega arith

pub one_constant_action_fails : OneConstantActionFails
one_constant_action_fails L w r some same_answer same_room back =
    let p = offered L 0 in
    let q = offered L 1 in
    let old = none L in
    let s = game_text empty_board p 1 in
    let t = game_text empty_board q 1 in
    let long : actions_length L ≤ length old = omega (arith, none_long L) in
    let e = back empty_board p 1 (s ++ t) old (white_offers L some) (white_bytes L) (fits_first s t) long in
    let i = back empty_board q 1 (s ++ t) old (black_offers L some) (black_bytes L) (fits_second s t) long in
    let texts : wrote w empty_board p 1 (s ++ t) ≡ wrote w empty_board q 1 (s ++ t)
    = ap₂ (λ (a : Answer) (l : List ℕ). take a.value l)
    (same_answer empty_board p q 1 (length (s ++ t)) (white_offers L some) (black_offers L some))
    (same_room empty_board p q 1 (s ++ t) (white_offers L some) (black_offers L some)) in
    let parts = sym e.actions ∙ ap (λ (l : List ℕ). r.part l old) texts ∙ i.actions in
    let colours : ◌≡◌ {A = ℕ} 0 1 = sym (colour_read L 0) ∙ ap (λ (l : List ℕ). get_or l 1 0) parts ∙ colour_read L 1 in
    omega arith
