-- What an answer of 0 says: each check of the call passed. And what follows for an accepted history: its position is in range, its counts are within the
-- limits, the action of a call that it accepts is in range, and it accepts no call where no action stands.
-- Assumes nothing.
use Rattle.std.specs.Prelude.{Some, None}
use mathlib.Core.Path.{◌≡◌, refl, ap, sym, ◌∙◌}
use mathlib.Core.Bool.{Bool, true, false, cond, not, ◌&&◌, ◌||◌, false≢true}
use mathlib.Core.List.{List, [], ◌∷◌, ◌++◌}
use Prim.Native.Nat.{ℕ, suc, ◌≤◌, ◌<◌}
use native.Mathlib.Omega.{arith}
use lib.Dec.{eqb, leb, ltb}
use borrow.Author.Tests.{eqb-true, eqb-false, ne_eqb, ltb-true, not-true}
use Rattle.answer.specs.declared.Answer.{Answer}
use Rattle.answer.specs.Answer.{not_listed, game_over, wrong_side, wrong_record, log_full, no_offer, no_claim, not_good, part_too_short}
use Rattle.answer.specs.Numbers.{among}
use Rattle.answer.proofs.Numbers.{both_left, both_right}
use Rattle.chess_move.specs.Number.{last_move}
use Rattle.chess_move.proofs.Numbers.{number_of_parts}
use Rattle.move_list.proofs.Listed.{listed_in_range}
use Rattle.action.specs.Layout.{colour_check, action_check}
use Rattle.position.specs.Layout.{Position, side}
use Rattle.stored_position.specs.Bytes.{position_check}
use Rattle.stored_position.proofs.Checks.{position_fits}
use Rattle.game_rules.specs.Limits.{Limits}
use Rattle.game_rules.specs.Rules.{Call, make_move, offer_draw, accept_draw, declare_draw, resign, History, begun, after, is_move, action_made}
use Rattle.game_rules.specs.Rules.{position_after, current, actions, moves, ended, offer_stands, claim_stands, unless, first_refusal, comes_after}
use Rattle.game_rules.specs.Rules.{own_checks, room_for, answer}
use Rattle.game_rules.specs.Good.{Accepted, position_made, call_of, history_of, position_here, is_good}
use Rattle.game_rules.specs.Calls.{long_enough, log_check, call_answer, start_answer}

-- some checks pass if each does; the first that does not is the refusal
pub first_refuses : (a : ℕ) (rest : List ℕ) → (a ≡ 0 → ⊥) → first_refusal (a ∷ rest) ≡ a
unfolding first_refusal
first_refuses a rest h = rw (ne_eqb _ _ h) refl

pub first_passes : (a : ℕ) (rest : List ℕ) → a ≡ 0 → first_refusal (a ∷ rest) ≡ first_refusal rest
unfolding first_refusal
first_passes a rest h = rw h refl

pub refusals_joined : (l rest : List ℕ) → first_refusal (l ++ rest) ≡ first_refusal (first_refusal l ∷ rest)
unfolding first_refusal
refusals_joined [] rest = refl
refusals_joined (a ∷ l) rest = go (eqb a 0) refl (refusals_joined l rest)
  where
    go : (t : Bool) → eqb a 0 ≡ t → first_refusal (l ++ rest) ≡ first_refusal (first_refusal l ∷ rest)
        → cond t (first_refusal (l ++ rest)) a ≡ first_refusal (cond t (first_refusal l) a ∷ rest)
    go true e ih = ih
    go false e ih = sym (first_refuses a rest (eqb-false a 0 e))

pub none_refuses : (a : ℕ) (rest : List ℕ) → first_refusal (a ∷ rest) ≡ 0 → (a ≡ 0) × (first_refusal rest ≡ 0)
unfolding first_refusal
none_refuses a rest h = go (eqb a 0) refl
  where
    go : (t : Bool) → eqb a 0 ≡ t → (a ≡ 0) × (first_refusal rest ≡ 0)
    go true e = (eqb-true a 0 e, simp e at h)
    go false e = absurd (eqb-false a 0 e (simp e at h))

pub all_pass : (a : ℕ) (rest : List ℕ) → a ≡ 0 → first_refusal rest ≡ 0 → first_refusal (a ∷ rest) ≡ 0
all_pass a rest h k = first_passes a rest h ∙ k

pub parts_pass : (l rest : List ℕ) → first_refusal (l ++ rest) ≡ 0 → (first_refusal l ≡ 0) × (first_refusal rest ≡ 0)
parts_pass l rest h = none_refuses (first_refusal l) rest (sym (refusals_joined l rest) ∙ h)

pub both_pass : (l rest : List ℕ) → first_refusal l ≡ 0 → first_refusal rest ≡ 0 → first_refusal (l ++ rest) ≡ 0
both_pass l rest h k = refusals_joined l rest ∙ all_pass (first_refusal l) rest h k

-- a check that refuses unless a test holds
pub test_held : (ok : Bool) (number : ℕ) → (number ≡ 0 → ⊥) → unless ok number ≡ 0 → ok ≡ true
test_held true number n h = refl
test_held false number n h = absurd (n h)

pub test_passes : (ok : Bool) (number : ℕ) → ok ≡ true → unless ok number ≡ 0
test_passes ok number h = rw h refl

-- one check alone is its own first refusal
pub only_check : (a : ℕ) → first_refusal (a ∷ []) ≡ a
unfolding first_refusal
only_check a = go (eqb a 0) refl
  where
    go : (t : Bool) → eqb a 0 ≡ t → cond t 0 a ≡ a
    go true e = sym (eqb-true a 0 e)
    go false e = refl

one_check : (a : ℕ) → first_refusal (a ∷ []) ≡ 0 → a ≡ 0
one_check a h = (none_refuses a [] h).0

-- a call is answered 0 exactly if the game goes on, its own checks pass, and there is room
pub record Passes (L : Limits) (h : History) (c : Call) : Type 0 where
  pub goes_on : ended h ≡ false
  pub own : first_refusal (own_checks h c) ≡ 0
  pub room : room_for L h c ≡ true

pub answer_says : (L : Limits) (h : History) (c : Call) → answer L h c ≡ 0 → Passes L h c
unfolding answer
answer_says L h c e =
    let a : _ = none_refuses (unless (not (ended h)) game_over) (own_checks h c ++ (unless (room_for L h c) log_full ∷ [])) e in
    let b : _ = parts_pass (own_checks h c) (unless (room_for L h c) log_full ∷ []) a.1 in
    record {
      goes_on = not-true (ended h) (test_held (not (ended h)) game_over (omega arith) a.0);
      own = b.0;
      room = test_held (room_for L h c) log_full (omega arith) (one_check _ b.1);
    }

pub passes_answered : (L : Limits) (h : History) (c : Call) → Passes L h c → answer L h c ≡ 0
unfolding answer first_refusal
passes_answered L h c p =
    all_pass (unless (not (ended h)) game_over) (own_checks h c ++ (unless (room_for L h c) log_full ∷ []))
    (test_passes (not (ended h)) game_over (rw p.goes_on refl))
    (both_pass (own_checks h c) (unless (room_for L h c) log_full ∷ []) p.own
    (all_pass (unless (room_for L h c) log_full) [] (test_passes (room_for L h c) log_full p.room) refl))

-- the room, and each call's own checks
pub room_of_actions : (L : Limits) (h : History) (c : Call) → answer L h c ≡ 0 → actions h < L.most_actions
room_of_actions L h c e =
    ltb-true _ _ (both_left (ltb (actions h) L.most_actions) (not (is_move c) || ltb (moves h) L.most_moves) (answer_says L h c e).room)

pub room_of_moves : (L : Limits) (h : History) (m : ℕ) (p : Position) → answer L h (make_move m p) ≡ 0 → moves h < L.most_moves
room_of_moves L h m p e =
    ltb-true _ _ (both_right (ltb (actions h) L.most_actions) (ltb (moves h) L.most_moves) (answer_says L h (make_move m p) e).room)

pub record MovePasses (h : History) (m : ℕ) (p : Position) : Type 0 where
  pub listed : among m (current h).moves ≡ true
  pub check : position_check p ≡ 0
  pub turn : eqb (side p) (side (current h)) ≡ false
  pub after : comes_after (current h) m p ≡ true

pub move_says : (L : Limits) (h : History) (m : ℕ) (p : Position) → answer L h (make_move m p) ≡ 0 → MovePasses h m p
move_says L h m p e =
    let last : List ℕ = unless (comes_after (current h) m p) wrong_record ∷ [] in
    let a : _ = none_refuses (unless (among m (current h).moves) not_listed)
    (position_check p ∷ unless (not (eqb (side p) (side (current h)))) wrong_side ∷ last)
    (answer_says L h (make_move m p) e).own in
    let b : _ = none_refuses (position_check p) (unless (not (eqb (side p) (side (current h)))) wrong_side ∷ last) a.1 in
    let d : _ = none_refuses (unless (not (eqb (side p) (side (current h)))) wrong_side) last b.1 in
    record {
      listed = test_held (among m (current h).moves) not_listed (omega arith) a.0;
      check = b.0;
      turn = not-true (eqb (side p) (side (current h))) (test_held (not (eqb (side p) (side (current h)))) wrong_side (omega arith) d.0);
      after = test_held (comes_after (current h) m p) wrong_record (omega arith) (one_check _ d.1);
    }

pub offer_says : (L : Limits) (h : History) (c : ℕ) → answer L h (offer_draw c) ≡ 0 → colour_check c ≡ 0
offer_says L h c e = one_check _ (answer_says L h (offer_draw c) e).own

pub resign_says : (L : Limits) (h : History) (c : ℕ) → answer L h (resign c) ≡ 0 → colour_check c ≡ 0
resign_says L h c e = one_check _ (answer_says L h (resign c) e).own

pub accept_says : (L : Limits) (h : History) → answer L h accept_draw ≡ 0 → offer_stands h ≡ true
accept_says L h e = test_held (offer_stands h) no_offer (omega arith) (one_check _ (answer_says L h accept_draw e).own)

pub declare_says : (L : Limits) (h : History) → answer L h declare_draw ≡ 0 → claim_stands h ≡ true
declare_says L h e = test_held (claim_stands h) no_claim (omega arith) (one_check _ (answer_says L h declare_draw e).own)

-- where no action stands, no call was accepted
pub nothing_refused : (L : Limits) (h : History) (p : Position) → answer L h (call_of None p) ≡ 0 → ⊥
nothing_refused L h p e = let z : colour_check 2 ≡ 0 = offer_says L h 2 e in omega (arith, z)

-- the log's own checks, those of a call on the bytes, and those of a start
pub record LogPasses (L : Limits) (acts ps : List ℕ) (n m : ℕ) : Type 0 where
  pub long : long_enough L acts ps ≡ true
  pub within : (leb n L.most_actions && leb m L.most_moves) ≡ true
  pub good : is_good L acts ps n m ≡ true

module _ (L : Limits) (acts ps : List ℕ) (n m : ℕ) where
  counted : Bool
  counted = leb n L.most_actions && leb m L.most_moves

  pub log_says : log_check L acts ps n m ≡ 0 → LogPasses L acts ps n m
  unfolding log_check counted
  log_says e =
      let a : _ = none_refuses (unless (long_enough L acts ps) part_too_short) (unless counted not_good ∷ unless (is_good L acts ps n m) not_good ∷ []) e in
      let b : _ = none_refuses (unless counted not_good) (unless (is_good L acts ps n m) not_good ∷ []) a.1 in
      record {
        long = test_held (long_enough L acts ps) part_too_short (omega arith) a.0;
        within = test_held counted not_good (omega arith) b.0;
        good = test_held (is_good L acts ps n m) not_good (omega arith) (one_check _ b.1);
      }

  pub log_passes : LogPasses L acts ps n m → log_check L acts ps n m ≡ 0
  unfolding log_check first_refusal
  log_passes p = rw (p.long, p.within, p.good) refl

  pub call_says : (c : Call) → call_answer L acts ps n m c ≡ 0 → (log_check L acts ps n m ≡ 0) × (answer L (history_of acts ps n) c ≡ 0)
  unfolding call_answer
  call_says c e =
      let a : _ = none_refuses (log_check L acts ps n m) (answer L (history_of acts ps n) c ∷ []) e in
      (a.0, one_check _ a.1)

  pub call_passes : (c : Call) → log_check L acts ps n m ≡ 0 → answer L (history_of acts ps n) c ≡ 0 → call_answer L acts ps n m c ≡ 0
  unfolding call_answer first_refusal
  call_passes c e f = rw (e, f) refl

pub start_says : (L : Limits) (acts ps : List ℕ) (p : Position) → start_answer L acts ps p ≡ 0 → (long_enough L acts ps ≡ true) × (position_check p ≡ 0)
unfolding start_answer
start_says L acts ps p e =
    let a : _ = none_refuses (unless (long_enough L acts ps) part_too_short) (position_check p ∷ []) e in
    (test_held (long_enough L acts ps) part_too_short (omega arith) a.0, one_check _ a.1)

pub start_passes : (L : Limits) (acts ps : List ℕ) (p : Position) → long_enough L acts ps ≡ true → position_check p ≡ 0 → start_answer L acts ps p ≡ 0
unfolding start_answer first_refusal
start_passes L acts ps p e f = rw (e, f) refl

-- a call is a move or one of the four others: those leave the position and its bytes as they are, and are read back from their action
pub by_kind : (P : Call → Type 0) → ((m : ℕ) (p : Position) → P (make_move m p)) → ((c : Call) → is_move c ≡ false → P c) → (c : Call) → P c
by_kind P move other (make_move m p) = move m p
by_kind P move other (offer_draw c) = other (offer_draw c) refl
by_kind P move other accept_draw = other accept_draw refl
by_kind P move other declare_draw = other declare_draw refl
by_kind P move other (resign c) = other (resign c) refl

pub no_new_position : (c : Call) (q : Position) → is_move c ≡ false → position_after c q ≡ q
no_new_position (make_move m p) q e = absurd (false≢true (sym e))
no_new_position (offer_draw c) q e = refl
no_new_position accept_draw q e = refl
no_new_position declare_draw q e = refl
no_new_position (resign c) q e = refl

pub no_bytes_made : (c : Call) → is_move c ≡ false → position_made c ≡ []
no_bytes_made (make_move m p) e = absurd (false≢true (sym e))
no_bytes_made (offer_draw c) e = refl
no_bytes_made accept_draw e = refl
no_bytes_made declare_draw e = refl
no_bytes_made (resign c) e = refl

pub no_bytes_here : (c : Call) (s : List ℕ) → is_move c ≡ false → position_here c s ≡ []
no_bytes_here (make_move m p) s e = absurd (false≢true (sym e))
no_bytes_here (offer_draw c) s e = refl
no_bytes_here accept_draw s e = refl
no_bytes_here declare_draw s e = refl
no_bytes_here (resign c) s e = refl

pub call_of_action : (c : Call) (p : Position) → is_move c ≡ false → call_of (Some (action_made c)) p ≡ c
call_of_action (make_move m q) p e = absurd (false≢true (sym e))
call_of_action (offer_draw c) p e = refl
call_of_action accept_draw p e = refl
call_of_action declare_draw p e = refl
call_of_action (resign c) p e = refl

-- accepted histories: the position is in range, and the counts are within the limits
module _ (L : Limits) where
  pub current_in_range : (h : History) → Accepted L h → position_check (current h) ≡ 0
  unfolding Accepted current
  current_in_range (begun p) a = a
  current_in_range (after h c) a =
      by_kind (λ d. answer L h d ≡ 0 → position_check (position_after d (current h)) ≡ 0)
      (λ m p e. (move_says L h m p e).check)
      (λ d k e. ap position_check (no_new_position d (current h) k) ∙ current_in_range h a.0)
      c a.1

  pub actions_most : (h : History) → Accepted L h → actions h ≤ L.most_actions
  unfolding Accepted actions
  actions_most (begun p) a = omega arith
  actions_most (after h c) a = room_of_actions L h c a.1

  pub moves_most : (h : History) → Accepted L h → moves h ≤ L.most_moves
  unfolding Accepted moves
  moves_most (begun p) a = omega arith
  moves_most (after h c) a =
      by_kind (λ d. answer L h d ≡ 0 → cond (is_move d) (suc (moves h)) (moves h) ≤ L.most_moves)
      (λ m p e. room_of_moves L h m p e)
      (λ d k e. rw k (moves_most h a.0))
      c a.1

  -- an accepted move is one of a list in range, and an accepted call leaves an action in range
  pub accepted_number : (h : History) (m : ℕ) (p : Position) → Accepted L h → answer L h (make_move m p) ≡ 0 → m ≤ last_move
  accepted_number h m p a e =
      listed_in_range m (current h).moves (position_fits (current h) (current_in_range h a)).list (move_says L h m p e).listed

  pub accepted_action : (h : History) (c : Call) → Accepted L h → answer L h c ≡ 0 → action_check (action_made c) ≡ 0
  unfolding action_check
  accepted_action h (make_move m p) a e = ap (λ (x : Answer). x.number) (number_of_parts m (accepted_number h m p a e))
  accepted_action h (offer_draw c) a e = offer_says L h c e
  accepted_action h accept_draw a e = refl
  accepted_action h declare_draw a e = refl
  accepted_action h (resign c) a e = resign_says L h c e
