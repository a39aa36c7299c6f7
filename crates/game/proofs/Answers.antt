-- A log that passed its checks is ready: it is sound, its counts are within the limits, and its parts are long enough. On such a log what is read off the
-- bytes is what the history says, so the checks of a call, one after the other, give its answer.
-- Assumes nothing.
use mathlib.Core.Path.{◌≡◌, refl, ap, sym, ◌∙◌}
use mathlib.Core.Bool.{Bool, true, false, cond, not, ◌&&◌, ◌||◌, and-true, false≢true}
use mathlib.Core.List.{List, [], ◌∷◌, ◌++◌}
use Prim.Native.Nat.{ℕ, suc, ◌+◌, ◌*◌, ◌<◌, ◌≤◌}
use native.Mathlib.Omega.{arith}
use lib.Dec.{eqb, leb, ltb}
use lib.ListN.{length, take, length-take}
use borrow.Author.Tests.{eq-eqb, eqb-true, leb-true, ltb-true}
use Rattle.answer.specs.Answer.{not_good, part_too_short, game_over, log_full, no_offer, no_claim, not_listed, wrong_side, wrong_record}
use Rattle.answer.specs.Numbers.{among}
use Rattle.answer.specs.Parts.{item}
use Rattle.answer.proofs.Numbers.{both_left, both_right}
use Rattle.answer.proofs.Parts.{length_item}
use Rattle.chess_move.specs.Number.{last_move}
use Rattle.board_builder.specs.BoardBuilder.{record_size, counters_in_range, numbers_in_range}
use Rattle.move_rules.proofs.Records.{record_long}
use Rattle.move_list.proofs.Listed.{listed_in_range}
use Rattle.action.specs.declared.Action.{Action}
use Rattle.action.specs.declared.Action.TheVariants.{MakeMove, OfferDraw, AcceptDraw, DeclareDraw, Resign}
use Rattle.action.specs.Layout.{action_size, action_check}
use Rattle.actions.specs.Part.{moves_in}
use Rattle.position.specs.Layout.{Position, position_size, side, position_of, position_at}
use Rattle.stored_position.specs.Bytes.{position_check, lists_move}
use Rattle.stored_position.proofs.Checks.{position_fits}
use Rattle.ending.specs.Ending.{result_at}
use Rattle.game_rules.specs.Limits.{limits, actions_length, positions_length}
use Rattle.game_rules.specs.Rules.{Call, make_move, offer_draw, accept_draw, declare_draw, resign, is_move, action_made, result, unless, first_refusal}
use Rattle.game_rules.specs.Rules.{comes_after}
use Rattle.game_rules.specs.Rules.{own_checks, room_for, answer}
use Rattle.game_rules.specs.Good.{history_of, sound, is_good}
use Rattle.game_rules.specs.Calls.{long_enough, log_check, call_answer}
use Rattle.game_rules.proofs.Checks.{none_refuses, refusals_joined, test_held, current_in_range, accepted_number}
use Rattle.game_rules.proofs.Decide.{sound_good}
use Rattle.game_rules.proofs.Log.{current_is, actions_at_lem, moves_at_lem, result_is, offer_is}
use Rattle.game_rules.proofs.Rulings.{claim_is}
use Rattle.good_log.specs.CodeSteps.{other_check}
use Rattle.good_log.proofs.Turns.{board_fits}
use Rattle.game.specs.CodeAnswers.{open_check, other_answer}

pub record Ready (acts ps : List ℕ) (n m : ℕ) : Type 0 where
  pub counted : m ≡ moves_in acts n
  pub ok : sound limits acts ps n ≡ true
  pub few : n ≤ limits.most_actions
  pub some : m ≤ limits.most_moves
  pub room : actions_length limits ≤ length acts
  pub place : positions_length limits ≤ length ps

module _ (acts ps : List ℕ) (n m : ℕ) where
  pub log_ready : log_check limits acts ps n m ≡ 0 → Ready acts ps n m
  unfolding log_check is_good
  log_ready h =
      let long = long_enough limits acts ps in
      let counts = leb n limits.most_actions && leb m limits.most_moves in
      let good = is_good limits acts ps n m in
      let a : _ = none_refuses (unless long part_too_short) (unless counts not_good ∷ unless good not_good ∷ []) h in
      let b : _ = none_refuses (unless counts not_good) (unless good not_good ∷ []) a.1 in
      let c : _ = none_refuses (unless good not_good) [] b.1 in
      let l : long ≡ true = test_held long part_too_short (omega arith) a.0 in
      let k : counts ≡ true = test_held counts not_good (omega arith) b.0 in
      let g : eqb m (moves_in acts n) && sound limits acts ps n ≡ true = test_held good not_good (omega arith) c.0 in
      record {
        counted = eqb-true _ _ (both_left (eqb m (moves_in acts n)) (sound limits acts ps n) g);
        ok = both_right (eqb m (moves_in acts n)) (sound limits acts ps n) g;
        few = leb-true _ _ (both_left (leb n limits.most_actions) (leb m limits.most_moves) k);
        some = leb-true _ _ (both_right (leb n limits.most_actions) (leb m limits.most_moves) k);
        room = leb-true _ _ (both_left (leb (actions_length limits) (length acts)) (leb (positions_length limits) (length ps)) l);
        place = leb-true _ _ (both_right (leb (actions_length limits) (length acts)) (leb (positions_length limits) (length ps)) l);
      }

not_twice : (t : Bool) → not (not t) ≡ t
not_twice true = refl
not_twice false = refl

alone : (a : ℕ) → first_refusal (a ∷ []) ≡ a
unfolding first_refusal
alone a = go (eqb a 0) refl
  where
    go : (t : Bool) → eqb a 0 ≡ t → cond t 0 a ≡ a
    go true e = sym (eqb-true a 0 e)
    go false e = refl

-- a refusal that comes first decides, and without it the rest decides
by_first : (a : ℕ) (l k : List ℕ) → (a ≡ 0 → first_refusal l ≡ first_refusal k) → first_refusal (a ∷ l) ≡ first_refusal (a ∷ k)
unfolding first_refusal
by_first a l k same = go (eqb a 0) refl
  where
    go : (t : Bool) → eqb a 0 ≡ t → cond t (first_refusal l) a ≡ cond t (first_refusal k) a
    go true e = same (eqb-true a 0 e)
    go false e = refl

nested : (a b : ℕ) (l : List ℕ) → first_refusal (first_refusal (a ∷ b ∷ []) ∷ l) ≡ first_refusal (a ∷ b ∷ l)
nested a b l = sym (refusals_joined (a ∷ b ∷ []) l)

module _ (acts ps : List ℕ) (n m : ℕ) where
  pub open_log : open_check acts ps n m ≡ 0 → log_check limits acts ps n m ≡ 0
  unfolding open_check
  open_log h = (none_refuses _ _ h).0

  pub open_ready : open_check acts ps n m ≡ 0 → Ready acts ps n m
  open_ready h = log_ready acts ps n m (open_log h)

  -- the calls' checks in order: 16, 9, 10, the call's own, 13
  in_a_row : (c : Call)
      → call_answer limits acts ps n m c
      ≡ first_refusal (open_check acts ps n m ∷ (own_checks (history_of acts ps n) c ++ (unless (room_for limits (history_of acts ps n) c) log_full ∷ [])))
  unfolding call_answer open_check answer
  in_a_row c =
      by_first (log_check limits acts ps n m) _ (unless (eqb (result_at acts ps n m) 0) game_over ∷ rest)
      (λ h. alone _
      ∙ ap (λ (t : Bool). first_refusal (unless t game_over ∷ rest))
      (not_twice (eqb (result (history_of acts ps n)) 0)
      ∙ ap (λ (r : ℕ). eqb r 0) (sym (result_is limits acts ps n m (log_ready acts ps n m h).counted (log_ready acts ps n m h).ok))))
      ∙ sym (nested (log_check limits acts ps n m) (unless (eqb (result_at acts ps n m) 0) game_over) rest)
    where
      rest : List ℕ
      rest = own_checks (history_of acts ps n) c ++ (unless (room_for limits (history_of acts ps n) c) log_full ∷ [])

  -- on a ready log the calls without a move check what the bytes say
  module _ (r : Ready acts ps n m) where
    own_is : (c : Call) → is_move c ≡ false → own_checks (history_of acts ps n) c ≡ other_check acts ps n m (action_made c) ∷ []
    own_is (make_move x p) e = absurd (false≢true (sym e))
    own_is (offer_draw c) e = refl
    own_is accept_draw e = ap (λ (t : Bool). unless t no_offer ∷ []) (sym (offer_is limits acts ps n m r.counted r.ok))
    own_is declare_draw e =
        ap (λ (t : Bool). unless t no_claim ∷ [])
        (sym (claim_is acts ps n m r.counted (omega (arith, r.few, r.room)) (omega (arith, r.some, r.place))))
    own_is (resign c) e = refl

    room_is : (c : Call) → room_for limits (history_of acts ps n) c ≡ ltb n limits.most_actions && (not (is_move c) || ltb m limits.most_moves)
    room_is c = rw (actions_at_lem acts ps n, moves_at_lem acts ps n, ← r.counted)

  pub other_is : (c : Call) → is_move c ≡ false → other_answer acts ps n m (action_made c) ≡ call_answer limits acts ps n m c
  unfolding other_answer
  other_is c e =
      by_first (open_check acts ps n m) (other_check acts ps n m (action_made c) ∷ unless (ltb n limits.most_actions) log_full ∷ []) _
      (λ h. let r = open_ready h in
      rw (own_is r c e, room_is r c, e)
      (ap (λ (t : Bool). first_refusal (other_check acts ps n m (action_made c) ∷ unless t log_full ∷ [])) (sym (and-true (ltb n limits.most_actions)))))
      ∙ sym (in_a_row c)

  -- the position on the board is in range, and so is a move that it lists
  here-in-range : open_check acts ps n m ≡ 0 → position_check (position_at ps m) ≡ 0
  here-in-range h =
      let r = open_ready h in
      rw (current_is limits acts ps n m r.counted r.ok) at (current_in_range limits (history_of acts ps n) (sound_good limits acts ps n r.ok).0)

  record_in_range : open_check acts ps n m ≡ 0 → numbers_in_range (take record_size (item position_size ps m)) ≡ true
  unfolding position_of
  record_in_range h =
      both_right (counters_in_range (position_at ps m).half (position_at ps m).full) (numbers_in_range (take record_size (item position_size ps m)))
      (board_fits (position_at ps m) (here-in-range h))

  pub record_there : open_check acts ps n m ≡ 0 → record_size ≤ length (item position_size ps m)
  record_there h = omega
      (arith, record_long (take record_size (item position_size ps m)) (record_in_range h), length-take record_size (item position_size ps m))

  pub listed_number : (x : ℕ) → open_check acts ps n m ≡ 0 → lists_move (item position_size ps m) x ≡ true → x ≤ last_move
  unfolding lists_move
  listed_number x h e =
      listed_in_range x (position_at ps m).moves (position_fits (position_at ps m) (here-in-range h)).list
      (both_right (eqb (length (item position_size ps m)) position_size) (among x (position_at ps m).moves) e)

  -- a move's checks: 11, 5, 6, 12, 24, 13
  abbrev pub move_checks : ℕ → Position → List ℕ
  move_checks x q =
      unless (lists_move (item position_size ps m) x) not_listed
      ∷ position_check q
      ∷ unless (not (eqb (side q) (side (position_at ps m)))) wrong_side
      ∷ unless (comes_after (position_at ps m) x q) wrong_record
      ∷ unless (ltb n limits.most_actions && ltb m limits.most_moves) log_full
      ∷ []

  pub move_is : (x : ℕ) (q : Position) → call_answer limits acts ps n m (make_move x q) ≡ first_refusal (open_check acts ps n m ∷ move_checks x q)
  unfolding lists_move
  move_is x q =
      in_a_row (make_move x q)
      ∙ by_first (open_check acts ps n m) _ (move_checks x q)
      (λ h. let r = open_ready h in
      rw (
        room_is r (make_move x q),
        current_is limits acts ps n m r.counted r.ok,
        eq-eqb _ position_size (length_item position_size m ps (omega (arith, r.some, r.place))),
      ))

-- what an accepted call found
module _ (acts ps : List ℕ) (n m : ℕ) where
  pub record OtherFound (a : Action) : Type 0 where
    pub few : n < limits.most_actions
    pub room : action_size * n + action_size ≤ length acts
    pub check : action_check a ≡ 0

  own-check : (a : Action) → other_check acts ps n m a ≡ 0 → action_check a ≡ 0
  unfolding action_check
  own-check (MakeMove x) e = absurd (omega (arith, e))
  own-check (OfferDraw c) e = e
  own-check AcceptDraw e = refl
  own-check DeclareDraw e = refl
  own-check (Resign c) e = e

  pub other_found : (a : Action) → other_answer acts ps n m a ≡ 0 → OtherFound a
  unfolding other_answer
  other_found a h =
      let first : _ = none_refuses (open_check acts ps n m) _ h in
      let own : _ = none_refuses (other_check acts ps n m a) _ first.1 in
      let full : _ = none_refuses (unless (ltb n limits.most_actions) log_full) [] own.1 in
      let r = open_ready acts ps n m first.0 in
      let few : n < limits.most_actions = ltb-true _ _ (test_held (ltb n limits.most_actions) log_full (omega arith) full.0) in
      record { few = few; room = omega (arith, r.room, few); check = own-check a own.0 }

  pub record MoveFound (x : ℕ) (q : Position) : Type 0 where
    pub number : x ≤ last_move
    pub few : n < limits.most_actions
    pub some : m < limits.most_moves
    pub room : action_size * n + action_size ≤ length acts
    pub place : position_size * suc m + position_size ≤ length ps
    pub check : position_check q ≡ 0

  pub move_found : (x : ℕ) (q : Position) → call_answer limits acts ps n m (make_move x q) ≡ 0 → MoveFound x q
  unfolding call_answer
  move_found x q h =
      let rows : _ = none_refuses (open_check acts ps n m) (move_checks acts ps n m x q) (sym (move_is acts ps n m x q) ∙ h) in
      let listed : _ = none_refuses (unless (lists_move (item position_size ps m) x) not_listed) _ rows.1 in
      let fits : _ = none_refuses (position_check q) _ listed.1 in
      let turned : _ = none_refuses (unless (not (eqb (side q) (side (position_at ps m)))) wrong_side) _ fits.1 in
      let after : _ = none_refuses (unless (comes_after (position_at ps m) x q) wrong_record) _ turned.1 in
      let full : _ = none_refuses (unless (ltb n limits.most_actions && ltb m limits.most_moves) log_full) [] after.1 in
      let r = open_ready acts ps n m rows.0 in
      let roomy : ltb n limits.most_actions && ltb m limits.most_moves ≡ true = test_held _ log_full (omega arith) full.0 in
      let few : n < limits.most_actions = ltb-true _ _ (both_left (ltb n limits.most_actions) (ltb m limits.most_moves) roomy) in
      let some : m < limits.most_moves = ltb-true _ _ (both_right (ltb n limits.most_actions) (ltb m limits.most_moves) roomy) in
      let said : answer limits (history_of acts ps n) (make_move x q) ≡ 0 =
      (none_refuses (answer limits (history_of acts ps n) (make_move x q)) [] (none_refuses (log_check limits acts ps n m) _ h).1).0 in
      record {
        number = accepted_number limits (history_of acts ps n) x q (sound_good limits acts ps n r.ok).0 said;
        few = few;
        some = some;
        room = omega (arith, r.room, few);
        place = omega (arith, r.place, some);
        check = fits.0;
      }
