-- A log is good exactly when the one-pass test says so. One way: the history that sound bytes are read as is accepted and leaves them. The other: an accepted
-- history that leaves the bytes is the one that they are read as.
-- Assumes nothing.
use Rattle.std.specs.Prelude.{Option, Some, None}
use mathlib.Core.Path.{◌≡◌, refl, ap, ap₂, sym, ◌∙◌}
use mathlib.Core.Bool.{Bool, true, cond, ◌&&◌}
use mathlib.Core.List.{List, ◌++◌, append-nil}
use Prim.Native.Nat.{ℕ, zero, suc, ◌+◌, ◌*◌}
use native.Mathlib.Omega.{arith}
use lib.Dec.{eqb, leb}
use lib.ListN.{length, drop, take, length-append}
use borrow.Author.Tests.{eqb-true, eq-eqb}
use Rattle.answer.specs.declared.Answer.{Answer}
use Rattle.answer.specs.Numbers.{same}
use Rattle.answer.specs.Parts.{item}
use Rattle.answer.proofs.Numbers.{both_left, both_right}
use Rattle.answer.proofs.Same.{same_eq, same_refl}
use Rattle.answer.proofs.Written.{used_grows, last_piece}
use Rattle.chess_move.specs.Number.{last_move}
use Rattle.chess_move.proofs.Numbers.{number_of_parts}
use Rattle.action.specs.declared.Action.{Action}
use Rattle.action.specs.declared.Action.TheVariants.{MakeMove, OfferDraw, AcceptDraw, DeclareDraw, Resign}
use Rattle.action.specs.Layout.{action_size, action_bytes, action_of}
use Rattle.action.proofs.ReadBack.{held, length_bytes}
use Rattle.actions.specs.Part.{action_at, move_held, moves_in}
use Rattle.actions.proofs.Counting.{value_most}
use Rattle.position.specs.Layout.{Position, position_size, position_of, position_at}
use Rattle.stored_position.specs.Bytes.{is_position}
use Rattle.stored_position.proofs.ReadBack.{position_round, one_size, written_is_position, one_position_form}
use Rattle.game_rules.specs.Limits.{Limits}
use Rattle.game_rules.specs.Rules.{Call, make_move, History, begun, after, is_move, action_made, actions, moves, answer}
use Rattle.game_rules.specs.Good.{Accepted, action_part, position_made, position_part, Holding, Good, call_of, call_at, history_of, position_here, next_sound}
use Rattle.game_rules.specs.Good.{sound, is_good}
use Rattle.game_rules.specs.Promises.{GoodIsDecided, OneHistory}
use Rattle.game_rules.proofs.Checks.{move_says, by_kind, no_bytes_made, no_bytes_here, call_of_action, accepted_number, accepted_action}

-- a stored action is counted as a move exactly if its call is one
pub is_move_lem : (a : Option Action) (p : Position) → is_move (call_of a p) ≡ leb (move_held a) last_move
is_move_lem (Some (MakeMove m)) p = sym (value_most m)
is_move_lem (Some (OfferDraw c)) p = refl
is_move_lem (Some AcceptDraw) p = refl
is_move_lem (Some DeclareDraw) p = refl
is_move_lem (Some (Resign c)) p = refl
is_move_lem None p = refl

-- Sound bytes are good.

-- the used positions grow by the bytes of a move, and by nothing else
positions_grow : (ps : List ℕ) (k : ℕ) (c : Call) → position_here c (item position_size ps (suc k)) ≡ position_made c
    → take (position_size * suc (cond (is_move c) (suc k) k)) ps ≡ take (position_size * suc k) ps ++ position_made c
positions_grow ps k =
    by_kind
    (λ c. position_here c (item position_size ps (suc k)) ≡ position_made c
    → take (position_size * suc (cond (is_move c) (suc k) k)) ps ≡ take (position_size * suc k) ps ++ position_made c)
    (λ m p e. used_grows position_size (suc k) ps ∙ ap (λ (x : List ℕ). take (position_size * suc k) ps ++ x) e)
    (λ c no e. rw (no, no_bytes_made c no) (sym (append-nil _)))

-- one more action
module _ (L : Limits) (acts ps : List ℕ) (i : ℕ) where
  next : Position
  next = position_at ps (suc (moves_in acts i))

  pub record Made : Type 0 where
    pub accepted : answer L (history_of acts ps i) (call_at acts ps i) ≡ 0
    pub action : item action_size acts i ≡ action_bytes (action_made (call_at acts ps i))
    pub position : position_here (call_at acts ps i) (item position_size ps (suc (moves_in acts i))) ≡ position_made (call_at acts ps i)

  pub next_made : next_sound L acts ps i ≡ true → Made
  unfolding next_sound
  next_made s =
      let t : Bool = eqb (answer L (history_of acts ps i) (call_at acts ps i)) 0 in
      let u : Bool = same (item action_size acts i) (action_bytes (action_made (call_at acts ps i))) in
      let v : Bool = same (position_here (call_at acts ps i) (item position_size ps (suc (moves_in acts i)))) (position_made (call_at acts ps i)) in
      record {
        accepted = eqb-true _ _ (both_left t (u && v) s);
        action = same_eq _ _ (both_left u v (both_right t (u && v) s));
        position = same_eq _ _ (both_right u v (both_right t (u && v) s));
      }

  holding_grows : Holding acts ps i (moves_in acts i) (history_of acts ps i) → Made
      → Holding acts ps (suc i) (moves_in acts (suc i)) (history_of acts ps (suc i))
  unfolding call_at moves_in history_of actions moves action_part position_part next
  holding_grows was made =
      record {
        action_count = ap suc was.action_count;
        move_count = rw (← is_move_lem (action_at acts i) next, was.move_count);
        action_bytes_fact = used_grows action_size i acts ∙ ap₂ ◌++◌ was.action_bytes_fact made.action;
        position_bytes_fact =
            rw (← is_move_lem (action_at acts i) next) (positions_grow ps (moves_in acts i) (call_of (action_at acts i) next) made.position)
            ∙ ap (λ (x : List ℕ). x ++ position_made (call_of (action_at acts i) next)) was.position_bytes_fact;
      }

pub sound_good : (L : Limits) (acts ps : List ℕ) (i : ℕ) → sound L acts ps i ≡ true
    → Accepted L (history_of acts ps i) × Holding acts ps i (moves_in acts i) (history_of acts ps i)
unfolding sound Accepted history_of moves_in actions moves action_part position_part
sound_good L acts ps zero h =
    let f : _ = one_position_form (item position_size ps 0) h in
    (f.0, record { action_count = refl; move_count = refl; action_bytes_fact = refl; position_bytes_fact = f.1 })
sound_good L acts ps (suc i) h =
    let w : _ = sound_good L acts ps i (both_left (sound L acts ps i) (next_sound L acts ps i) h) in
    let made : _ = next_made L acts ps i (both_right (sound L acts ps i) (next_sound L acts ps i) h) in
    ((w.0, made.accepted), holding_grows L acts ps i w.1 made)

-- Good bytes are sound.

-- the bytes of an accepted call take up the room of its counts
pub actions_room : (c : Call) (k : ℕ) → action_size * suc k ≡ action_size * k + length (action_bytes (action_made c))
actions_room c k = omega (arith, length_bytes (action_made c))

pub positions_room : (L : Limits) (h : History) (k : ℕ) (c : Call) → answer L h c ≡ 0
    → position_size * suc (cond (is_move c) (suc k) k) ≡ position_size * suc k + length (position_made c)
positions_room L h k =
    by_kind
    (λ c. answer L h c ≡ 0 → position_size * suc (cond (is_move c) (suc k) k) ≡ position_size * suc k + length (position_made c))
    (λ m p e. omega (arith, one_size p (move_says L h m p e).check))
    (λ c no e. rw (no, no_bytes_made c no) (omega arith))

pub length_action_part : (h : History) → length (action_part h) ≡ action_size * actions h
unfolding action_part actions
length_action_part (begun p) = refl
length_action_part (after h c) =
    length-append (action_part h) (action_bytes (action_made c)) ∙ omega (arith, length_action_part h, length_bytes (action_made c))

pub length_position_part : (L : Limits) (h : History) → Accepted L h → length (position_part h) ≡ position_size * suc (moves h)
unfolding position_part moves Accepted
length_position_part L (begun p) a = one_size p a
length_position_part L (after h c) a =
    length-append (position_part h) (position_made c)
    ∙ ap (λ (k : ℕ). k + length (position_made c)) (length_position_part L h a.0)
    ∙ sym (positions_room L h (moves h) c a.1)

-- the bytes are read as the history, its moves are counted, and each action is sound
pub record Reads (L : Limits) (acts ps : List ℕ) (n m : ℕ) (h : History) : Type 0 where
  pub history : history_of acts ps n ≡ h
  pub count : moves_in acts n ≡ m
  pub ok : sound L acts ps n ≡ true

-- one more call, whose bytes stand behind what was read
module _ (L : Limits) (acts ps : List ℕ) (n m : ℕ) (h : History) (c : Call) (a : Accepted L h) (e : answer L h c ≡ 0) where
  -- the position that stands behind is the call's
  call_back : take (length (position_made c)) (drop (position_size * suc m) ps) ≡ position_made c → call_of (Some (action_made c)) (position_at ps (suc m)) ≡ c
  call_back =
      by_kind
      (λ d. answer L h d ≡ 0 → take (length (position_made d)) (drop (position_size * suc m) ps) ≡ position_made d
      → call_of (Some (action_made d)) (position_at ps (suc m)) ≡ d)
      (λ k p f s.
      let check = (move_says L h k p f).check in
      ap₂ make_move (ap (λ (x : Answer). x.value) (number_of_parts k (accepted_number L h k p a f)))
      (ap position_of (rw (one_size p check) at s) ∙ position_round p check))
      (λ d no f s. call_of_action d (position_at ps (suc m)) no)
      c e

  here_made : take (length (position_made c)) (drop (position_size * suc m) ps) ≡ position_made c
      → position_here c (item position_size ps (suc m)) ≡ position_made c
  here_made =
      by_kind
      (λ d. answer L h d ≡ 0 → take (length (position_made d)) (drop (position_size * suc m) ps) ≡ position_made d
      → position_here d (item position_size ps (suc m)) ≡ position_made d)
      (λ k p f s. rw (one_size p (move_says L h k p f).check) at s)
      (λ d no f s. no_bytes_here d (item position_size ps (suc m)) no ∙ sym (no_bytes_made d no))
      c e

  reads_grow : Reads L acts ps n m h → item action_size acts n ≡ action_bytes (action_made c)
      → take (length (position_made c)) (drop (position_size * suc m) ps) ≡ position_made c
      → Reads L acts ps (suc n) (cond (is_move c) (suc m) m) (after h c)
  unfolding history_of moves_in sound next_sound call_at
  reads_grow r f s =
      let x : action_at acts n ≡ Some (action_made c) = ap action_of f ∙ held (action_made c) (accepted_action L h c a e) in
      let g : call_of (Some (action_made c)) (position_at ps (suc m)) ≡ c = call_back s in
      let y : same (position_here c (item position_size ps (suc m))) (position_made c) ≡ true =
      ap (λ (l : List ℕ). same l (position_made c)) (here_made s) ∙ same_refl (position_made c) in
      record {
        history = ap₂ after r.history (rw (x, r.count) g);
        count = rw (x, r.count, ← is_move_lem (Some (action_made c)) (position_at ps (suc m)), g) refl;
        ok = rw (r.ok, x, r.count, g, r.history, e, f, same_refl (action_bytes (action_made c))) y;
      }

good_reads : (L : Limits) (acts ps : List ℕ) (h : History) → Accepted L h → take (action_size * actions h) acts ≡ action_part h
    → take (position_size * suc (moves h)) ps ≡ position_part h → Reads L acts ps (actions h) (moves h) h
unfolding Accepted action_part position_part actions moves history_of moves_in sound
good_reads L acts ps (begun p) a ea ep =
    record {
      history = ap begun (ap position_of ep ∙ position_round p a);
      count = refl;
      ok = ap is_position ep ∙ written_is_position p a;
    }
good_reads L acts ps (after h c) a ea ep =
    let x : _ =
    last_piece (action_size * actions h) acts (action_part h) (action_bytes (action_made c)) (length_action_part h)
    (ap (λ (k : ℕ). take k acts) (sym (actions_room c (actions h))) ∙ ea) in
    let y : _ =
    last_piece (position_size * suc (moves h)) ps (position_part h) (position_made c) (length_position_part L h a.0)
    (ap (λ (k : ℕ). take k ps) (sym (positions_room L h (moves h) c a.1)) ∙ ep) in
    reads_grow L acts ps (actions h) (moves h) h c a.0 a.1 (good_reads L acts ps h a.0 x.0 y.0)
    (ap (λ (k : ℕ). take k (drop (action_size * actions h) acts)) (sym (length_bytes (action_made c))) ∙ x.1) y.1

pub holding_reads : (L : Limits) (acts ps : List ℕ) (n m : ℕ) (h : History) → Accepted L h → Holding acts ps n m h → Reads L acts ps n m h
holding_reads L acts ps n m h a g =
    rw (g.action_count, g.move_count)
    (good_reads L acts ps h a (rw (← g.action_count) g.action_bytes_fact) (rw (← g.move_count) g.position_bytes_fact))

-- an accepted history that leaves the bytes is the one they are read as
pub good_history : OneHistory
good_history L acts ps n m h a g = (holding_reads L acts ps n m h a g).history

pub good_is_decided : GoodIsDecided
unfolding is_good
good_is_decided L acts ps n m = (forth, back)
  where
    forth : (eqb m (moves_in acts n) && sound L acts ps n) ≡ true → Good L acts ps n m
    forth e =
        let k : m ≡ moves_in acts n = eqb-true m (moves_in acts n) (both_left (eqb m (moves_in acts n)) (sound L acts ps n) e) in
        let g : _ = sound_good L acts ps n (both_right (eqb m (moves_in acts n)) (sound L acts ps n) e) in
        (history_of acts ps n, g.0, rw k g.1)

    back : Good L acts ps n m → (eqb m (moves_in acts n) && sound L acts ps n) ≡ true
    back (h, a, g) =
        let r : Reads L acts ps n m h = holding_reads L acts ps n m h a g in
        rw (r.ok, eq-eqb m (moves_in acts n) (sym r.count)) refl
