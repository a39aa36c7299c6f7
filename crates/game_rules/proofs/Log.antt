-- What the bytes of a log say about the history that they are read as: the position on the board, the last actions, the result, a standing offer.
-- Assumes nothing.
use Rattle.std.specs.Prelude.{Option, Some, None}
use mathlib.Core.Path.{◌≡◌, refl, ap, ap₂, sym, ◌∙◌}
use mathlib.Core.Bool.{Bool, true, false, cond, ◌&&◌}
use mathlib.Core.List.{List}
use Prim.Native.Nat.{ℕ, zero, suc, ◌-◌}
use native.Mathlib.Omega.{arith}
use lib.Dec.{eqb, leb}
use lib.ListN.{length, get_or}
use borrow.Author.Tests.{leb-true}
use Rattle.answer.specs.declared.Answer.{Answer}
use Rattle.answer.proofs.Numbers.{both_left, both_right}
use Rattle.answer.specs.Parts.{item}
use Rattle.chess_move.specs.Number.{last_move, move_of, of_bytes}
use Rattle.chess_move.proofs.Numbers.{number_of_parts}
use Rattle.action.specs.declared.Action.{Action}
use Rattle.action.specs.declared.Action.TheVariants.{MakeMove, OfferDraw, AcceptDraw, DeclareDraw, Resign}
use Rattle.action.specs.Layout.{action_size, moves_here, stands_alone, action_of}
use Rattle.actions.specs.Part.{action_at, move_held, moves_in, last_action}
use Rattle.actions.proofs.Counting.{value_most}
use Rattle.position.specs.Layout.{Position, position_at}
use Rattle.ending.specs.Ending.{result_of, offer_in, result_at, offer_at}
use Rattle.game_rules.specs.Limits.{Limits}
use Rattle.game_rules.specs.Rules.{current, actions, moves, last_made, last_but_one, position_after, action_made, result, offer_stands, answer}
use Rattle.game_rules.specs.Good.{call_of, call_at, history_of, next_sound, sound}
use Rattle.game_rules.proofs.Checks.{nothing_refused}
use Rattle.game_rules.proofs.Decide.{is_move_lem, next_made}

-- whether an action is a move
abbrev holds_move : Option Action → Bool
holds_move s = leb (move_held s) last_move

after_call : (s : Option Action) (p q : Position) → position_after (call_of s p) q ≡ cond (holds_move s) p q
after_call (Some (MakeMove m)) p q = rw (value_most m)
after_call (Some (OfferDraw c)) p q = refl
after_call (Some AcceptDraw) p q = refl
after_call (Some DeclareDraw) p q = refl
after_call (Some (Resign c)) p q = refl
after_call None p q = refl

-- the position on the board, and the counts
pub current_at : (acts ps : List ℕ) (n : ℕ) → current (history_of acts ps n) ≡ position_at ps (moves_in acts n)
unfolding current history_of moves_in call_at
current_at acts ps zero = refl
current_at acts ps (suc n) =
    after_call (action_at acts n) (position_at ps (suc (moves_in acts n))) (current (history_of acts ps n))
    ∙ go (current_at acts ps n) (holds_move (action_at acts n))
  where
    go : current (history_of acts ps n) ≡ position_at ps (moves_in acts n) → (t : Bool)
        → cond t (position_at ps (suc (moves_in acts n))) (current (history_of acts ps n)) ≡ position_at ps (cond t (suc (moves_in acts n)) (moves_in acts n))
    go e true = refl
    go e false = e

pub actions_at_lem : (acts ps : List ℕ) (n : ℕ) → actions (history_of acts ps n) ≡ n
unfolding actions history_of
actions_at_lem acts ps zero = refl
actions_at_lem acts ps (suc n) = ap suc (actions_at_lem acts ps n)

pub moves_at_lem : (acts ps : List ℕ) (n : ℕ) → moves (history_of acts ps n) ≡ moves_in acts n
unfolding moves history_of moves_in call_at
moves_at_lem acts ps zero = refl
moves_at_lem acts ps (suc n) =
    ap (λ (t : Bool). cond t (suc (moves (history_of acts ps n))) (moves (history_of acts ps n)))
    (is_move_lem (action_at acts n) (position_at ps (suc (moves_in acts n))))
    ∙ ap (λ (k : ℕ). cond (holds_move (action_at acts n)) (suc k) k) (moves_at_lem acts ps n)

-- an action that was read is the one that its call leaves
abbrev pub Back : Option Action → Position → Type 0
Back (Some a) p = action_made (call_of (Some a) p) ≡ a
Back None p = Unit

pub made_back : (b : List ℕ) (p : Position) → Back (action_of b) p
unfolding action_of
made_back b p =
    go (eqb (length b) action_size) (eqb (get_or b 0 0) 1) (eqb (get_or b 0 0) 2) (eqb (get_or b 0 0) 3) (eqb (get_or b 0 0) 4) (eqb (get_or b 0 0) 5)
    (get_or b 1 0) (of_bytes (get_or b 2 0) (get_or b 3 0))
  where
    alone : (ok : Bool) (a : Action) → Back (Some a) p → Back (cond ok (Some a) None) p
    alone true a h = h
    alone false a h = tt

    move : (c n : ℕ) (t u : Bool) → leb n last_move ≡ u → Back (cond (t && u) (Some (MakeMove (move_of n))) None) p
    move c n true true e = ap MakeMove (ap (λ (x : Answer). move_of x.value) (number_of_parts n (leb-true _ _ e)))
    move c n true false e = tt
    move c n false u e = tt

    go : (w k₁ k₂ k₃ k₄ k₅ : Bool) (c n : ℕ)
        → Back (cond w (cond k₁ (moves_here c n)
        (cond k₂ (stands_alone 1 c n (OfferDraw c))
        (cond k₃ (stands_alone 0 c n AcceptDraw) (cond k₄ (stands_alone 0 c n DeclareDraw) (cond k₅ (stands_alone 1 c n (Resign c)) None))))) None) p
    go false k₁ k₂ k₃ k₄ k₅ c n = tt
    go true true k₂ k₃ k₄ k₅ c n = move c n (eqb c 0) (leb n last_move) refl
    go true false true k₃ k₄ k₅ c n = alone (leb c 1 && eqb n 0) (OfferDraw c) refl
    go true false false true k₄ k₅ c n = alone (leb c 0 && eqb n 0) AcceptDraw refl
    go true false false false true k₅ c n = alone (leb c 0 && eqb n 0) DeclareDraw refl
    go true false false false false true c n = alone (leb c 1 && eqb n 0) (Resign c) refl
    go true false false false false false c n = tt

-- the tests of one step, separately
module _ (L : Limits) (acts ps : List ℕ) (i : ℕ) where
  sound_before : sound L acts ps (suc i) ≡ true → sound L acts ps i ≡ true
  unfolding sound
  sound_before h = both_left (sound L acts ps i) (next_sound L acts ps i) h

  pub sound_next : sound L acts ps (suc i) ≡ true → next_sound L acts ps i ≡ true
  unfolding sound
  sound_next h = both_right (sound L acts ps i) (next_sound L acts ps i) h

  -- a sound action is held, and its call leaves it
  pub sound_held : next_sound L acts ps i ≡ true → action_at acts i ≡ Some (action_made (call_at acts ps i))
  unfolding call_at
  sound_held h = go (action_at acts i) (made_back (item action_size acts i) (position_at ps (suc (moves_in acts i)))) (next_made L acts ps i h).accepted
    where
      p : Position
      p = position_at ps (suc (moves_in acts i))

      go : (s : Option Action) → Back s p → answer L (history_of acts ps i) (call_of s p) ≡ 0 → s ≡ Some (action_made (call_of s p))
      go (Some a) b e = ap Some (sym b)
      go None b e = absurd (nothing_refused L (history_of acts ps i) p e)

-- the last actions, the result, a standing offer
pub last_at : (L : Limits) (acts ps : List ℕ) (n : ℕ) → sound L acts ps n ≡ true → last_made (history_of acts ps n) ≡ last_action acts n
unfolding last_made history_of last_action
last_at L acts ps zero h = refl
last_at L acts ps (suc i) h = sym (sound_held L acts ps i (sound_next L acts ps i h))

module _ (L : Limits) (acts ps : List ℕ) (n m : ℕ) (counted : m ≡ moves_in acts n) (ok : sound L acts ps n ≡ true) where
  pub current_is : current (history_of acts ps n) ≡ position_at ps m
  current_is = current_at acts ps n ∙ ap (position_at ps) (sym counted)

  pub result_is : result_at acts ps n m ≡ result (history_of acts ps n)
  unfolding result
  result_is = sym (ap₂ result_of current_is (last_at L acts ps n ok))

before_at : (L : Limits) (acts ps : List ℕ) (n : ℕ) → sound L acts ps n ≡ true → last_but_one (history_of acts ps n) ≡ last_action acts (n - 1)
unfolding last_but_one history_of last_action
before_at L acts ps zero h = refl
before_at L acts ps (suc i) h =
    let e : suc i - 1 ≡ i = omega arith in
    rw e (last_at L acts ps i (sound_before L acts ps i h))

pub offer_is : (L : Limits) (acts ps : List ℕ) (n m : ℕ) → m ≡ moves_in acts n → sound L acts ps n ≡ true
    → offer_at acts ps n m ≡ offer_stands (history_of acts ps n)
unfolding offer_stands
offer_is L acts ps n m counted ok =
    sym (ap₂ (λ (p : Position) (s : Option Action). offer_in p s (last_but_one (history_of acts ps n)))
    (current_is L acts ps n m counted ok) (last_at L acts ps n ok)
    ∙ ap (offer_in (position_at ps m) (last_action acts n)) (before_at L acts ps n ok))
