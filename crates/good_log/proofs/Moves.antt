-- A move in the pass: what the last action alone settles, why the list's length need not be tested, and that each accepted action leaves a position.
-- Assumes nothing.
use Rattle.std.specs.Prelude.{Option, Some, None}
use mathlib.Core.Path.{◌≡◌, refl, ap, sym, ◌∙◌}
use mathlib.Core.Bool.{Bool, true, false, cond, ◌&&◌, and-false}
use mathlib.Core.List.{List, [], ◌∷◌}
use Prim.Native.Nat.{ℕ, suc, ◌<◌, ◌≤◌}
use native.Mathlib.Omega.{arith}
use lib.Dec.{eqb, leb, ltb}
use lib.ListN.{length}
use borrow.Author.Tests.{eq-eqb, ne_eqb, eqb-true, eqb-false, le-leb, lt-leb, lt-ltb, ltb-true}
use Rattle.answer.specs.Numbers.{among}
use Rattle.answer.specs.Parts.{item}
use Rattle.answer.proofs.Numbers.{both_left, both_right}
use Rattle.chess_move.specs.Number.{last_move}
use Rattle.action.specs.declared.Action.{Action}
use Rattle.action.specs.declared.Action.TheVariants.{MakeMove, OfferDraw, AcceptDraw, DeclareDraw, Resign}
use Rattle.actions.specs.Part.{action_at, move_held, move_at, last_action}
use Rattle.position.specs.Layout.{Position, position_size, side, position_of, position_at}
use Rattle.stored_position.specs.Bytes.{is_position, lists_move}
use Rattle.ending.specs.Ending.{white_checkmates, black_checkmates, stalemate, result_without_moves, result_of_action, result_of, result_at}
use Rattle.game_rules.specs.Limits.{limits}
use Rattle.good_log.specs.CodeSteps.{other_fits, other_sound}
use Rattle.good_log.proofs.Counted.{move_fits, not_sound, move_step, step}

-- with no move left, a game has ended
ended_without : (mover check : ℕ) → result_without_moves mover check ≡ 0 → ⊥
ended_without mover check = go (eqb check 0) (eqb mover 0)
  where
    go : (t u : Bool) → cond {A = ℕ} t stalemate (cond u black_checkmates white_checkmates) ≡ 0 → ⊥
    go true u e = omega arith
    go false true e = omega arith
    go false false e = omega arith

module _ (p : Position) (last : Option Action) where
  ended_empty : length p.moves ≡ 0 → result_of p last ≡ 0 → ⊥
  unfolding result_of
  ended_empty e = rw (eq-eqb _ _ e) (ended_without (side p) p.check)

  by_action : (length p.moves ≡ 0 → ⊥) → result_of p last ≡ result_of_action last
  unfolding result_of
  by_action n = rw (ne_eqb _ _ n)

  ended_last : (result_of_action last ≡ 0 → ⊥) → result_of p last ≡ 0 → ⊥
  ended_last n = go (eqb (length p.moves) 0) refl
    where
      go : (t : Bool) → eqb (length p.moves) 0 ≡ t → result_of p last ≡ 0 → ⊥
      go true e f = ended_empty (eqb-true _ _ e) f
      go false e f = n (sym (by_action (eqb-false _ _ e)) ∙ f)

-- no game ends by its last action if that is a move
pub move_goes_on : (acts : List ℕ) (i : ℕ) → move_at acts i ≤ last_move → result_of_action (last_action acts (suc i)) ≡ 0
unfolding last_action
move_goes_on acts i = go (action_at acts i)
  where
    go : (s : Option Action) → move_held s ≤ last_move → result_of_action s ≡ 0
    go (Some (MakeMove x)) h = refl
    go (Some (OfferDraw c)) h = refl
    go (Some AcceptDraw) h = absurd (omega arith)
    go (Some DeclareDraw) h = absurd (omega arith)
    go (Some (Resign c)) h = absurd (omega arith)
    go None h = refl

-- an empty list has no move
empty_lists : (s : List ℕ) (x : ℕ) → length (position_of s).moves ≡ 0 → lists_move s x ≡ false
unfolding lists_move among
empty_lists s x e = go (position_of s).moves e
  where
    go : (l : List ℕ) → length l ≡ 0 → eqb (length s) position_size && among x l ≡ false
    go [] f = and-false (eqb (length s) position_size)
    go (y ∷ l) f = absurd (omega arith)

-- the moves after a sound action i, k of them before it
abbrev pub moves_after : List ℕ → ℕ → ℕ → ℕ
moves_after acts i k = cond (leb (move_at acts i) last_move) (suc k) k

-- what a sound step leaves: the count of moves, which is within those in all, and a position
pub record Left (acts ps : List ℕ) (m i k : ℕ) : Type 0 where
  pub counted : step acts ps m i k ≡ moves_after acts i k
  pub within : step acts ps m i k ≤ m
  pub stands : is_position (item position_size ps (step acts ps m i k)) ≡ true

sound_by_lem : (fits : Bool) (k : ℕ) → k < not_sound → ltb (cond fits k not_sound) not_sound ≡ fits
sound_by_lem true k h = lt-ltb k not_sound h
sound_by_lem false k h = refl

both_unsound : (t : Bool) → cond t not_sound not_sound ≡ not_sound
both_unsound true = refl
both_unsound false = refl

-- a step is sound exactly if the action fits
module _ (ps : List ℕ) (m k : ℕ) where
  pub move_unsound : m ≤ k → k ≤ m → (x : ℕ) → ltb (move_step ps m k x) not_sound ≡ false
  move_unsound h within x =
      let full : k ≡ m = omega arith in
      rw (eq-eqb _ _ full)

  pub move_sound_by : (x : ℕ) → k < m → m ≤ limits.most_moves
      → ltb (move_step ps m k x) not_sound ≡ move_fits (item position_size ps k) x (item position_size ps (suc k))
  move_sound_by x less some =
      let other : k ≡ m → ⊥ = λ e. omega arith in
      rw (ne_eqb _ _ other) (sound_by_lem (move_fits (item position_size ps k) x (item position_size ps (suc k))) (suc k) (omega arith))

module _ (acts ps : List ℕ) (m i k : ℕ) where
  step_ended : (result_at acts ps i k ≡ 0 → ⊥) → step acts ps m i k ≡ not_sound
  unfolding step
  step_ended n = rw (ne_eqb _ _ n)

  pub step_after_end : (result_of_action (last_action acts i) ≡ 0 → ⊥) → step acts ps m i k ≡ not_sound
  step_after_end n = step_ended (ended_last (position_at ps k) (last_action acts i) n)

  step_of_move : (x : ℕ) → x ≡ move_at acts i → x ≤ last_move → result_at acts ps i k ≡ 0 → step acts ps m i k ≡ move_step ps m k x
  unfolding step
  step_of_move x read h e = rw (eq-eqb _ _ e, ← read, le-leb x last_move h)

  no_such_step : (x : ℕ) → length (position_at ps k).moves ≡ 0 → move_step ps m k x ≡ not_sound
  no_such_step x e = rw (empty_lists (item position_size ps k) x e) (both_unsound (eqb k m))

  pub step_of_listed : (x : ℕ) → x ≡ move_at acts i → x ≤ last_move → result_of_action (last_action acts i) ≡ 0 → move_step ps m k x ≡ step acts ps m i k
  step_of_listed x read h e = go (eqb (length (position_at ps k).moves) 0) refl
    where
      go : (t : Bool) → eqb (length (position_at ps k).moves) 0 ≡ t → move_step ps m k x ≡ step acts ps m i k
      go true f =
          no_such_step x (eqb-true _ _ f)
          ∙ sym (step_ended (ended_empty (position_at ps k) (last_action acts i) (eqb-true _ _ f)))
      go false f =
          sym (step_of_move x read h (by_action (position_at ps k) (last_action acts i) (eqb-false _ _ f) ∙ e))

  pub other_sound_by : (x : ℕ) → x ≡ move_at acts i → last_move < x → k ≤ limits.most_moves → ltb (step acts ps m i k) not_sound ≡ other_sound acts ps i k
  unfolding step
  other_sound_by x read h some = rw (← read, lt-leb x last_move h) (go (eqb (result_at acts ps i k) 0) (other_fits acts ps i k (last_action acts (suc i))))
    where
      go : (on fits : Bool) → ltb (cond on (cond fits k not_sound) not_sound) not_sound ≡ on && fits
      go true fits = sound_by_lem fits k (omega arith)
      go false fits = refl

  pub unsound : step acts ps m i k ≡ not_sound → ltb (step acts ps m i k) not_sound ≡ false
  unsound e = rw e

  -- a sound action leaves a position on the board, and counts as a move if it is one
  pub sound_leaves : ltb (step acts ps m i k) not_sound ≡ true → k ≤ m → is_position (item position_size ps k) ≡ true → Left acts ps m i k
  unfolding step
  sound_leaves sound within was =
      go (eqb (result_at acts ps i k) 0) (leb (move_at acts i) last_move) refl (eqb k m) refl
      (move_fits (item position_size ps k) (move_at acts i) (item position_size ps (suc k))) refl
      (other_fits acts ps i k (last_action acts (suc i))) refl (ltb-true _ _ sound)
    where
      go : (on move : Bool) → leb (move_at acts i) last_move ≡ move → (full : Bool) → eqb k m ≡ full → (fits : Bool)
          → move_fits (item position_size ps k) (move_at acts i) (item position_size ps (suc k)) ≡ fits → (other : Bool)
          → step acts ps m i k ≡ cond on (cond move (cond full not_sound (cond fits (suc k) not_sound)) (cond other k not_sound)) not_sound
          → step acts ps m i k < not_sound → Left acts ps m i k
      go false move a full b fits f other e h = absurd (omega arith)
      go true true a true b fits f other e h = absurd (omega arith)
      go true true a false b false f other e h = absurd (omega arith)
      go true true a false b true f other e h =
          record {
            counted = e ∙ sym (ap (λ (t : Bool). cond t (suc k) k) a);
            within = rw e (omega (arith, eqb-false k m b));
            stands = rw e (both_left (is_position (item position_size ps (suc k))) _ (both_right (lists_move (item position_size ps k) (move_at acts i)) _ f));
          }
      go true false a full b fits f true e h =
          record { counted = e ∙ sym (ap (λ (t : Bool). cond t (suc k) k) a); within = rw e within; stands = rw e was }
      go true false a full b fits f false e h = absurd (omega arith)
