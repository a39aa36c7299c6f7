-- A step of the pass settles whether the next action is sound: the checks, read off the bytes, are those of the call after its history.
-- Assumes nothing.
use Rattle.std.specs.Prelude.{Option, Some, None}
use mathlib.Core.Path.{◌≡◌, refl, ap, sym, ◌∙◌}
use mathlib.Core.Bool.{Bool, true, false, cond, not, ◌&&◌, ◌||◌, and-true, and-false, false≢true}
use mathlib.Core.List.{List, [], ◌∷◌}
use Prim.Native.Nat.{ℕ, suc, ◌+◌, ◌*◌, ◌<◌, ◌≤◌}
use native.Mathlib.Omega.{arith}
use lib.Dec.{eqb, leb, ltb}
use lib.ListN.{length, drop}
use borrow.Author.Tests.{eq-eqb, ne_eqb, eqb-true, eqb-false, le-leb, lt-leb, lt-ltb}
use Rattle.answer.specs.Answer.{not_listed, no_offer, no_claim, wrong_side, wrong_record}
use Rattle.answer.specs.Numbers.{all_at_most, same, among}
use Rattle.answer.specs.Parts.{item}
use Rattle.answer.proofs.Numbers.{most_take, most_drop}
use Rattle.answer.proofs.Parts.{length_item}
use Rattle.answer.proofs.Same.{same_refl}
use Rattle.chess_move.specs.declared.ChessMove.{ChessMove}
use Rattle.chess_move.specs.Number.{last_move, number_answer}
use Rattle.action.specs.declared.Action.{Action}
use Rattle.action.specs.declared.Action.TheVariants.{MakeMove, OfferDraw, AcceptDraw, DeclareDraw, Resign}
use Rattle.action.specs.Layout.{action_size, action_bytes}
use Rattle.action.proofs.ReadBack.{one_form}
use Rattle.actions.specs.Part.{action_at, move_held, moves_in, last_action}
use Rattle.actions.proofs.Counting.{value_most}
use Rattle.position.specs.Layout.{Position, position_size, side, position_at}
use Rattle.stored_position.specs.Bytes.{position_bytes, position_check, is_position, lists_move}
use Rattle.game_rules.specs.Limits.{Limits, limits}
use Rattle.game_rules.specs.Rules.{Call, make_move, History, is_move, action_made, result, ended, unless, first_refusal, comes_after, own_checks}
use Rattle.game_rules.specs.Rules.{room_for}
use Rattle.game_rules.specs.Rules.{answer}
use Rattle.game_rules.specs.Good.{call_of, call_at, history_of, position_here, position_made, was_made, next_sound, sound}
use Rattle.game_rules.proofs.Log.{actions_at_lem, moves_at_lem, made_back, Back, current_is, result_is, offer_is}
use Rattle.game_rules.proofs.Checks.{nothing_refused}
use Rattle.game_rules.proofs.Rulings.{claim_is}
use Rattle.good_log.specs.CodeSteps.{other_check, other_fits}
use Rattle.good_log.proofs.Counted.{move_fits, not_sound, move_step, step}

-- what a step should give
abbrev pub step_to : List ℕ → List ℕ → ℕ → ℕ → ℕ
step_to acts ps m i = cond (next_sound limits acts ps i && leb (moves_in acts (suc i)) m) (moves_in acts (suc i)) not_sound

-- the checks of a call in a game that goes on, with room
own_alone : (a : ℕ) → first_refusal (0 ∷ a ∷ 0 ∷ []) ≡ a
unfolding first_refusal
own_alone a = go (eqb a 0) refl
  where
    go : (t : Bool) → eqb a 0 ≡ t → cond t 0 a ≡ a
    go true e = sym (eqb-true a 0 e)
    go false e = refl

move_tests : (listed there turned after : Bool) (a : ℕ)
    → eqb (first_refusal (0 ∷ unless listed not_listed ∷ a ∷ unless turned wrong_side ∷ unless after wrong_record ∷ 0 ∷ [])) 0 && (true && there)
    ≡ listed && ((eqb a 0 && there) && (turned && after))
unfolding first_refusal
move_tests false there turned after a =
    refl
move_tests true there turned after a = go (eqb a 0) refl turned after there
  where
    go : (t : Bool) → eqb a 0 ≡ t → (turned after there : Bool)
        → eqb (cond t (first_refusal (unless turned wrong_side ∷ unless after wrong_record ∷ 0 ∷ [])) a) 0 && (true && there) ≡
        ((t && there) && (turned && after))
    go true e true true true = refl
    go true e true true false = refl
    go true e true false true = refl
    go true e true false false = refl
    go true e false after true = refl
    go true e false after false = refl
    go false e turned after there = rw e

over : (L : Limits) (h : History) (c : Call) → ended h ≡ true → eqb (answer L h c) 0 ≡ false
unfolding answer first_refusal
over L h c e = rw e

-- one action, i, of a log that is sound so far
module _
    (acts ps : List ℕ) (m i k : ℕ) (bytes : all_at_most 255 acts ≡ true) (counted : k ≡ moves_in acts i) (within : k ≤ m) (ok : sound limits acts ps i ≡ true)
    (few : i < limits.most_actions) (some : m ≤ limits.most_moves) (room : action_size * i ≤ length acts)
    (place : position_size * k + position_size ≤ length ps)
  where
    abbrev h : History
    h = history_of acts ps i

    abbrev q : Position
    q = position_at ps (suc k)

    here : call_at acts ps i ≡ call_of (action_at acts i) q
    unfolding call_at
    here = ap (λ (x : ℕ). call_of (action_at acts i) (position_at ps (suc x))) (sym counted)

    -- a held action stands in exactly its bytes
    own_bytes : (a : Action) → action_at acts i ≡ Some a → same (item action_size acts i) (action_bytes (action_made (call_of (Some a) q))) ≡ true
    own_bytes a e =
        let s : all_at_most 255 (item action_size acts i) ≡ true =
        most_take action_size 255 (drop (action_size * i) acts) (most_drop (action_size * i) 255 acts bytes) in
        let f : item action_size acts i ≡ action_bytes a = (one_form (item action_size acts i) a s e).1 in
        let b : Back (Some a) q = rw e at (made_back (item action_size acts i) q) in
        rw (b, f) (same_refl (action_bytes a))

    abbrev sound_by : Option Action → Bool
    sound_by s = was_made limits h (call_of s q) (item action_size acts i) (item position_size ps (suc k))

    sound_by_lem : next_sound limits acts ps i ≡ sound_by (action_at acts i)
    unfolding next_sound
    sound_by_lem = rw (here, ← counted)

    abbrev count_by : Option Action → ℕ
    count_by s = cond (leb (move_held s) last_move) (suc k) k

    abbrev target : Option Action → ℕ
    target s = cond (sound_by s && leb (count_by s) m) (count_by s) not_sound

    target_is : target (action_at acts i) ≡ step_to acts ps m i
    unfolding moves_in
    target_is = rw (sound_by_lem, ← counted)

    abbrev body : Bool → Option Action → ℕ
    body t s = cond t (cond (leb (move_held s) last_move) (move_step ps m k (move_held s)) (cond (other_fits acts ps i k s) k not_sound)) not_sound

    body_is : step acts ps m i k ≡ body (eqb (result h) 0) (action_at acts i)
    unfolding step last_action
    body_is = rw (result_is limits acts ps i k counted ok)

    room_for_fact : (c : Call) → (is_move c ≡ true → k < m) → room_for limits h c ≡ true
    room_for_fact c more =
        rw (actions_at_lem acts ps i, moves_at_lem acts ps i, ← counted, lt-ltb i limits.most_actions few) (go (is_move c) more)
      where
        go : (t : Bool) → (t ≡ true → k < m) → (not t || ltb k limits.most_moves) ≡ true
        go true f = lt-ltb k limits.most_moves (omega (arith, f refl))
        go false f = refl

    by_own : (a : Action) → sound_by (Some a) ≡ eqb (other_check acts ps i k a) 0
        → cond (eqb (other_check acts ps i k a) 0) k not_sound ≡ cond (sound_by (Some a) && leb k m) k not_sound
    by_own a e = rw (e, le-leb k m within, and-true (eqb (other_check acts ps i k a) 0))

    -- in a game that goes on
    module _ (on : eqb (result h) 0 ≡ true) where
      move_sound : (x : ChessMove) → action_at acts i ≡ Some (MakeMove x) → k < m
          → sound_by (Some (MakeMove x)) ≡ move_fits (item position_size ps k) (number_answer x).value (item position_size ps (suc k))
      unfolding answer is_position lists_move
      move_sound x e more =
          rw (
            on,
            room_for_fact (make_move (number_answer x).value q) (λ t. more),
            own_bytes (MakeMove x) e,
            current_is limits acts ps i k counted ok,
            eq-eqb _ position_size (length_item position_size k ps place),
          )
          (move_tests
          (among (number_answer x).value (position_at ps k).moves)
          (same (item position_size ps (suc k)) (position_bytes q))
          (not (eqb (side q) (side (position_at ps k))))
          (comes_after (position_at ps k) (number_answer x).value q)
          (position_check q))

      other_sound : (a : Action) → action_at acts i ≡ Some a → is_move (call_of (Some a) q) ≡ false
          → own_checks h (call_of (Some a) q) ≡ other_check acts ps i k a ∷ [] → position_here (call_of (Some a) q) (item position_size ps (suc k)) ≡ []
          → position_made (call_of (Some a) q) ≡ [] → sound_by (Some a) ≡ eqb (other_check acts ps i k a) 0
      unfolding answer same
      other_sound a e still own none made =
          rw (
            on,
            own,
            room_for_fact (call_of (Some a) q) (λ t. absurd (false≢true (sym still ∙ t))),
            own_bytes a e,
            none,
            made,
            own_alone (other_check acts ps i k a),
          )
          (and-true (eqb (other_check acts ps i k a) 0))

    ended_is : (t : Bool) → eqb (result h) 0 ≡ t → ended h ≡ not t
    ended_is t e = ap not e

    settled : (t : Bool) → eqb (result h) 0 ≡ t → (s : Option Action) → action_at acts i ≡ s → body t s ≡ target s
    settled false e s f = rw (over limits h (call_of s q) (ended_is false e))
    settled true e (Some (MakeMove x)) f = rw (value_most x) (go (eqb k m) refl)
      where
        go : (t : Bool) → eqb k m ≡ t
            → cond t not_sound (cond (move_fits (item position_size ps k) (number_answer x).value (item position_size ps (suc k))) (suc k) not_sound)
            ≡ cond (sound_by (Some (MakeMove x)) && leb (suc k) m) (suc k) not_sound
        go true g =
            let full : k ≡ m = eqb-true k m g in
            rw (lt-leb (suc k) m (omega arith), and-false (sound_by (Some (MakeMove x))))
        go false g =
            let other : k ≡ m → ⊥ = eqb-false k m g in
            let more : k < m = omega (arith, other) in
            rw (
              move_sound e x f more,
              le-leb (suc k) m more,
              and-true (move_fits (item position_size ps k) (number_answer x).value (item position_size ps (suc k))),
            )
    settled true e (Some (OfferDraw c)) f = by_own (OfferDraw c) (other_sound e (OfferDraw c) f refl refl refl refl)
    settled true e (Some AcceptDraw) f =
        by_own AcceptDraw (other_sound e AcceptDraw f refl (ap (λ (t : Bool). unless t no_offer ∷ []) (sym (offer_is limits acts ps i k counted ok))) refl refl)
    settled true e (Some DeclareDraw) f =
        by_own DeclareDraw
        (other_sound e DeclareDraw f refl (ap (λ (t : Bool). unless t no_claim ∷ []) (sym (claim_is acts ps i k counted room place))) refl refl)
    settled true e (Some (Resign c)) f = by_own (Resign c) (other_sound e (Resign c) f refl refl refl refl)
    settled true e None f = rw (ne_eqb _ 0 (nothing_refused limits h q))

    pub step_is : step acts ps m i k ≡ step_to acts ps m i
    step_is = body_is ∙ settled (eqb (result h) 0) refl (action_at acts i) refl ∙ target_is
