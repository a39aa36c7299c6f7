-- Where the actions are in range, those of kind 1 are the moves: what the writer counts before it judges their bytes is what a log counts.
-- Assumes nothing.
use mathlib.Core.Path.{◌≡◌, refl, ap, sym, ◌∙◌}
use mathlib.Core.Bool.{Bool, true, false, cond, false≢true}
use mathlib.Core.List.{List}
use Prim.Native.Nat.{ℕ, zero, suc, ◌+◌, ◌*◌, ◌≤◌}
use native.Mathlib.Omega.{arith}
use lib.Dec.{eqb, leb}
use lib.ListN.{length, drop, get_or, length-drop}
use lib.Seq.{get_or-drop}
use Rattle.answer.proofs.Numbers.{both_left, both_right}
use Rattle.chess_move.specs.Number.{last_move, of_bytes}
use Rattle.action.specs.Layout.{action_size}
use Rattle.actions.specs.Part.{is_held, action_at, actions_held, moves_in}
use Rattle.actions.specs.CodeCount.{one_if_move}
use Rattle.actions.proofs.Counting.{none_made, count_turn}
use Rattle.roll_text.specs.Roll.{kind_at, colour_at, move_number_at}
use Rattle.roll_text.specs.Calls.{moves_by_kind}
use Rattle.roll_text.proofs.ByFields.{move_in_range, action_in_range, held_here}

-- fields in range count by their kind alone
one_by_kind : (k c m : ℕ) → action_in_range k c m ≡ true → one_if_move k c m ≡ cond (eqb k 1) 1 0
unfolding action_in_range move_in_range
one_by_kind k c m e = go (eqb k 1) (eqb c 0) (leb m last_move) refl refl refl
  where
    go : (t u v : Bool) → eqb k 1 ≡ t → eqb c 0 ≡ u → leb m last_move ≡ v → one_if_move k c m ≡ cond (eqb k 1) 1 0
    go true true true f g h = simp (f, g, h)
    go true true false f g h = let z : false ≡ true = simp (f, g, h) at e in absurd (false≢true z)
    go true false v f g h = let z : false ≡ true = simp (f, g) at e in absurd (false≢true z)
    go false u v f g h = simp f

-- one action more
pub by_kind_turn : (part : List ℕ) (i : ℕ) → moves_by_kind part (suc i) ≡ moves_by_kind part i + cond (eqb (get_or part (action_size * i) 0) 1) 1 0
unfolding moves_by_kind
by_kind_turn part i = go (eqb (get_or part (action_size * i) 0) 1)
  where
    go : (t : Bool) → cond t (suc (moves_by_kind part i)) (moves_by_kind part i) ≡ moves_by_kind part i + cond t 1 0
    go true = omega arith
    go false = omega arith

module _ (part : List ℕ) (i : ℕ) (here : action_size * i + action_size ≤ length part) where
  at : (j : ℕ) → get_or (drop (action_size * i) part) j 0 ≡ get_or part (action_size * i + j) 0
  at j = get_or-drop (action_size * i) part j 0

  -- the action's fields, by its place
  one_here : is_held (action_at part i) ≡ true
      → one_if_move (get_or part (action_size * i) 0) (get_or part (action_size * i + 1) 0)
      (of_bytes (get_or part (action_size * i + 2) 0) (get_or part (action_size * i + 3) 0))
      ≡ cond (eqb (get_or part (action_size * i) 0) 1) 1 0
  one_here held =
      let none : action_size * i + 0 ≡ action_size * i = omega arith in
      let first : get_or (drop (action_size * i) part) 0 0 ≡ get_or part (action_size * i) 0 = at 0 ∙ ap (λ (j : ℕ). get_or part j 0) none in
      let long : action_size ≤ length (drop (action_size * i) part) = rw (length-drop (action_size * i) part) (omega arith) in
      let bs : List ℕ = drop (action_size * i) part in
      let range : action_in_range (kind_at bs) (colour_at bs) (move_number_at bs) ≡ true = sym (held_here bs long) ∙ held in
      rw (← first, ← at 1, ← at 2, ← at 3) (one_by_kind (kind_at bs) (colour_at bs) (move_number_at bs) range)

pub held_by_kind : (part : List ℕ) (n : ℕ) → action_size * n ≤ length part → actions_held part n ≡ true → moves_by_kind part n ≡ moves_in part n
unfolding actions_held moves_by_kind
held_by_kind part zero h e = sym (none_made part)
held_by_kind part (suc i) h e =
    let before : actions_held part i ≡ true = both_left (actions_held part i) (is_held (action_at part i)) e in
    let last : is_held (action_at part i) ≡ true = both_right (actions_held part i) (is_held (action_at part i)) e in
    let here : action_size * i + action_size ≤ length part = omega arith in
    let was : moves_by_kind part i ≡ moves_in part i = held_by_kind part i (omega arith) before in
    let suc-is : suc i ≡ i + 1 = omega arith in
    let turn = count_turn part i here in
    by_kind_turn part i ∙ omega (arith, was, one_here part i here last, turn, ap (moves_in part) suc-is)
