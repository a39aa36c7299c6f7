-- The text, the moves and the actions held of a part are those of the bytes that its count takes: what stands behind them is not looked at.
-- Assumes nothing.
use mathlib.Core.Path.{◌≡◌, refl, ap, sym, ◌∙◌}
use mathlib.Core.Bool.{Bool, true, ◌&&◌}
use mathlib.Core.List.{List, [], ◌∷◌, ◌++◌}
use Prim.Native.Nat.{ℕ, zero, suc, ◌+◌, ◌*◌, ◌≤◌}
use native.Mathlib.Omega.{arith}
use lib.ListN.{length, length-append}
use Rattle.chess_move.specs.Number.{of_bytes}
use Rattle.action.specs.Layout.{action_size}
use Rattle.actions.specs.Part.{actions_held, moves_in}
use Rattle.actions.specs.CodeCount.{one_if_move}
use Rattle.roll_text.specs.Number.{number_text}
use Rattle.roll_text.specs.Roll.{Start, action_text, actions_text, numbers_text, counts_text, text_by, roll_text}
use Rattle.roll_text.proofs.ByFields.{action_in_range, actions_in_range, moves_among, held_in_range, as_many_moves}

text_counted : (n : ℕ) (xs ys : List ℕ) → length xs ≡ action_size * n → actions_text n (xs ++ ys) ≡ actions_text n xs
unfolding actions_text
text_counted zero xs ys h = refl
text_counted (suc n) [] ys h = absurd (omega (arith, h))
text_counted (suc n) (k ∷ []) ys h = absurd (omega (arith, h))
text_counted (suc n) (k ∷ c ∷ []) ys h = absurd (omega (arith, h))
text_counted (suc n) (k ∷ c ∷ l ∷ []) ys h = absurd (omega (arith, h))
text_counted (suc n) (k ∷ c ∷ l ∷ u ∷ xs) ys h =
    ap (λ (t : List ℕ). action_text k c (of_bytes l u) ++ t) (text_counted n xs ys (omega (arith, h)))

range_counted : (n : ℕ) (xs ys : List ℕ) → length xs ≡ action_size * n → actions_in_range n (xs ++ ys) ≡ actions_in_range n xs
unfolding actions_in_range
range_counted zero xs ys h = refl
range_counted (suc n) [] ys h = absurd (omega (arith, h))
range_counted (suc n) (k ∷ []) ys h = absurd (omega (arith, h))
range_counted (suc n) (k ∷ c ∷ []) ys h = absurd (omega (arith, h))
range_counted (suc n) (k ∷ c ∷ l ∷ []) ys h = absurd (omega (arith, h))
range_counted (suc n) (k ∷ c ∷ l ∷ u ∷ xs) ys h =
    ap (λ (t : Bool). action_in_range k c (of_bytes l u) && t) (range_counted n xs ys (omega (arith, h)))

among_counted : (n : ℕ) (xs ys : List ℕ) → length xs ≡ action_size * n → moves_among n (xs ++ ys) ≡ moves_among n xs
unfolding moves_among
among_counted zero xs ys h = refl
among_counted (suc n) [] ys h = absurd (omega (arith, h))
among_counted (suc n) (k ∷ []) ys h = absurd (omega (arith, h))
among_counted (suc n) (k ∷ c ∷ []) ys h = absurd (omega (arith, h))
among_counted (suc n) (k ∷ c ∷ l ∷ []) ys h = absurd (omega (arith, h))
among_counted (suc n) (k ∷ c ∷ l ∷ u ∷ xs) ys h =
    ap (λ (t : ℕ). one_if_move k c (of_bytes l u) + t) (among_counted n xs ys (omega (arith, h)))

module _ (n : ℕ) (xs ys : List ℕ) (h : length xs ≡ action_size * n) where
  here : action_size * n ≤ length xs
  here = omega (arith, h)

  there : action_size * n ≤ length (xs ++ ys)
  there = omega (arith, h, length-append xs ys)

  pub roll_counted : (st : Start) → roll_text st n (xs ++ ys) ≡ roll_text st n xs
  unfolding text_by
  roll_counted st = ap (λ (t : List ℕ). numbers_text st.numbers ++ (counts_text true st ++ (number_text n ++ t))) (text_counted n xs ys h)

  pub held_counted : actions_held (xs ++ ys) n ≡ actions_held xs n
  held_counted = held_in_range n (xs ++ ys) there ∙ range_counted n xs ys h ∙ sym (held_in_range n xs here)

  pub moves_counted : moves_in (xs ++ ys) n ≡ moves_in xs n
  moves_counted = sym (as_many_moves n (xs ++ ys) there) ∙ among_counted n xs ys h ∙ as_many_moves n xs here
