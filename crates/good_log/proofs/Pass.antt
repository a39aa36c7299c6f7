-- The pass over the log, action by action: it ends early exactly where the log is not good.
-- Assumes nothing.
use mathlib.Core.Path.{◌≡◌, refl, ap, sym, ◌∙◌}
use mathlib.Core.Bool.{Bool, true, false, cond, ◌&&◌, ◌||◌, and-true, and-false, false≢true}
use mathlib.Core.List.{List}
use Prim.Native.Nat.{ℕ, zero, suc, ◌+◌, ◌-◌, ◌<◌, ◌≤◌, zero-le}
use native.Mathlib.Numerals.{add-one}
use native.Mathlib.Omega.{arith}
use lib.Dec.{eqb, leb, ltb}
use lib.ListN.{length, get_or}
use borrow.Author.Tests.{ne_eqb, eqb-true, eqb-false, le-leb, lt-leb, leb-true, leb-false, ltb-true, ltb-false}
use Rattle.answer.proofs.Numbers.{both_left, both_right, most_each}
use Rattle.answer.specs.Parts.{item}
use Rattle.chess_move.specs.Number.{last_move}
use Rattle.actions.specs.Part.{move_at, moves_in, last_action}
use Rattle.position.specs.Layout.{position_size}
use Rattle.stored_position.specs.Bytes.{is_position, lists_move, is_position_with}
use Rattle.stored_position.specs.CodeParts.{record_fits}
use Rattle.stored_position.proofs.Known.{no_record}
use Rattle.ending.specs.Ending.{result_of_action}
use Rattle.game_rules.specs.Limits.{Limits, limits, actions_length, positions_length}
use Rattle.game_rules.specs.Good.{next_sound, sound, is_good}
use Rattle.good_log.specs.CodeSteps.{turns_to, move_leads, move_may_stand, other_sound, other_may_stand}
use Rattle.good_log.proofs.Counted.{not_sound, move_step, step}
use Rattle.good_log.proofs.Turns.{leads_in_range}
use Rattle.good_log.proofs.Steps.{step_to, step_is}
use Rattle.good_log.proofs.Moves.{Left, moves_after, move_goes_on, move_unsound, move_sound_by, sound_leaves, step_of_listed, step_after_end}
use Rattle.good_log.proofs.Moves.{other_sound_by, unsound}

module _ (acts : List ℕ) where
  moves_step : (i : ℕ) → moves_in acts i ≤ moves_in acts (suc i)
  unfolding moves_in
  moves_step i = go (leb (move_at acts i) last_move)
    where
      go : (t : Bool) → moves_in acts i ≤ cond t (suc (moves_in acts i)) (moves_in acts i)
      go true = omega arith
      go false = omega arith

  moves_more : (i d : ℕ) → moves_in acts i ≤ moves_in acts (i + d)
  moves_more i zero = let e : i + 0 ≡ i = omega arith in rw e (omega arith)
  moves_more i (suc d) =
      let e : i + suc d ≡ suc (i + d) = omega arith in
      rw e (omega (arith, moves_more i d, moves_step (i + d)))

  moves_grow : (i n : ℕ) → i ≤ n → moves_in acts i ≤ moves_in acts n
  moves_grow i n h = let e : i + (n - i) ≡ n = omega arith in rw e at (moves_more i (n - i))

module _ (L : Limits) (acts ps : List ℕ) where
  sound_more : (i d : ℕ) → sound L acts ps (suc i + d) ≡ true → next_sound L acts ps i ≡ true
  unfolding sound
  sound_more i zero h = let e : suc i + 0 ≡ suc i = omega arith in both_right (sound L acts ps i) (next_sound L acts ps i) (rw e at h)
  sound_more i (suc d) h =
      let e : suc i + suc d ≡ suc (suc i + d) = omega arith in
      sound_more i d (both_left (sound L acts ps (suc i + d)) (next_sound L acts ps (suc i + d)) (rw e at h))

  -- an action that is not sound spoils every longer log
  sound_all : (i n : ℕ) → i < n → next_sound L acts ps i ≡ false → sound L acts ps n ≡ false
  sound_all i n h e = go (sound L acts ps n) refl
    where
      go : (t : Bool) → sound L acts ps n ≡ t → t ≡ false
      go true f =
          let g : suc i + (n - suc i) ≡ n = omega arith in
          absurd (false≢true (sym e ∙ sound_more i (n - suc i) (rw g f)))
      go false f = refl

-- a step of the pass, with k the step's answer
module _ (acts ps : List ℕ) (n m i k : ℕ) (here : k ≡ step_to acts ps m i) (less : m < not_sound) where
  pub turn_out : m < k → i < n → is_good limits acts ps n m ≡ false
  unfolding is_good
  turn_out over before = go (next_sound limits acts ps i) refl (leb (moves_in acts (suc i)) m) refl
    where
      go : (t : Bool) → next_sound limits acts ps i ≡ t → (u : Bool) → leb (moves_in acts (suc i)) m ≡ u
          → (eqb m (moves_in acts n) && sound limits acts ps n) ≡ false
      go false e u f = rw (sound_all limits acts ps i n before e, and-false (eqb m (moves_in acts n)))
      go true e true f =
          let s : step_to acts ps m i ≡ moves_in acts (suc i) = rw (e, f) in
          absurd (omega (arith, leb-true (moves_in acts (suc i)) m f, here ∙ s))
      go true e false f =
          let x : m < moves_in acts (suc i) = leb-false (moves_in acts (suc i)) m f in
          rw (ne_eqb m (moves_in acts n) (λ y. omega (arith, moves_grow acts (suc i) n before)))

  pub turn_on : k ≤ m → (k ≡ moves_in acts (i + 1)) × (next_sound limits acts ps i ≡ true)
  turn_on fits = rw (add-one i) (go (next_sound limits acts ps i) refl (leb (moves_in acts (suc i)) m) refl)
    where
      go : (t : Bool) → next_sound limits acts ps i ≡ t → (u : Bool) → leb (moves_in acts (suc i)) m ≡ u
          → (k ≡ moves_in acts (suc i)) × (next_sound limits acts ps i ≡ true)
      go true e true f = let s : step_to acts ps m i ≡ moves_in acts (suc i) = rw (e, f) in (here ∙ s, e)
      go true e false f = let s : step_to acts ps m i ≡ not_sound = rw (e, f) in absurd (omega (arith, here ∙ s))
      go false e u f = let s : step_to acts ps m i ≡ not_sound = rw e in absurd (omega (arith, here ∙ s))

  pub sound_turn : sound limits acts ps i ≡ true → k ≤ m → sound limits acts ps (i + 1) ≡ true
  unfolding sound
  sound_turn was fits = rw (add-one i, was, (turn_on fits).1)

  -- a step that does not pass, for an action within the moves in all
  turn_off : m < k → moves_in acts (suc i) ≤ m → next_sound limits acts ps i ≡ false
  turn_off over fits = go (next_sound limits acts ps i) refl
    where
      go : (t : Bool) → next_sound limits acts ps i ≡ t → t ≡ false
      go true e =
          let s : step_to acts ps m i ≡ moves_in acts (suc i) = rw (e, le-leb (moves_in acts (suc i)) m fits) in
          absurd (omega (arith, here ∙ s))
      go false e = refl

-- what is not sound spoils every longer log
pub spoiled : (acts ps : List ℕ) (n m i : ℕ) → i ≤ n → sound limits acts ps i ≡ false → is_good limits acts ps n m ≡ false
unfolding is_good sound
spoiled acts ps n m i h e =
    let whole : i + (n - i) ≡ n = omega arith in
    rw (ap (sound limits acts ps) (sym whole) ∙ longer (n - i), and-false (eqb m (moves_in acts n)))
  where
    longer : (d : ℕ) → sound limits acts ps (i + d) ≡ false
    longer zero = let f : i + 0 ≡ i = omega arith in rw f e
    longer (suc d) = let f : i + suc d ≡ suc (i + d) = omega arith in rw (f, longer d)

-- the log as the pass is given it, and where the pass stands: after the first i actions, k of them moves
pub record Given (acts ps : List ℕ) (n m : ℕ) : Type 0 where
  pub few : n ≤ limits.most_actions
  pub some : m ≤ limits.most_moves
  pub room : actions_length limits ≤ length acts
  pub place : positions_length limits ≤ length ps

pub record Going (acts ps : List ℕ) (n m i k : ℕ) : Type 0 where
  pub far : i ≤ n
  pub counted : k ≡ moves_in acts i
  pub within : k ≤ m
  pub ok : sound limits acts ps i ≡ true
  pub stands : is_position (item position_size ps k) ≡ true

module _ (acts ps : List ℕ) (n m i k : ℕ) (g : Given acts ps n m) (at : Going acts ps n m i k) (before : i < n) (bytes : (j : ℕ) → get_or acts j 0 < 256) where
  going_step : step acts ps m i k ≡ step_to acts ps m i
  going_step =
      step_is acts ps m i k (most_each 255 acts (λ j. omega (arith, bytes j))) at.counted at.within at.ok
      (omega (arith, g.few)) g.some (omega (arith, g.few, g.room)) (omega (arith, at.within, g.some, g.place))

  pub going_out : ltb (step acts ps m i k) not_sound ≡ false → is_good limits acts ps n m ≡ false
  going_out e = turn_out acts ps n m i (step acts ps m i k) going_step (omega (arith, g.some))
      (omega (arith, g.some, ltb-false (step acts ps m i k) not_sound e)) before

  pub going_on : (r : ℕ) → r ≡ moves_after acts i k → ltb (step acts ps m i k) not_sound ≡ true → Going acts ps n m (i + 1) r
  going_on r e sound =
      let left : Left acts ps m i k = sound_leaves acts ps m i k sound at.within at.stands in
      let here : r ≡ step acts ps m i k = e ∙ sym left.counted in
      let less : m < not_sound = omega (arith, g.some) in
      let fits : r ≤ m = rw here left.within in
      record {
        far = omega arith;
        counted = (turn_on acts ps n m i r (here ∙ going_step) less fits).0;
        within = fits;
        ok = sound_turn acts ps n m i r (here ∙ going_step) less at.ok fits;
        stands = rw here left.stands;
      }

-- the pass at the head of its loop: no action before one that is left has ended the game
pub record Passing (acts ps : List ℕ) (n m i k : ℕ) : Type 0 where
  pub going : Going acts ps n m i k
  pub goes_on : i < n → result_of_action (last_action acts i) ≡ 0

-- an action that is not a move and may stand has not ended the game, or is the last
other_goes_on : (acts ps : List ℕ) (n i k : ℕ) → other_may_stand acts ps n i k ≡ true → i + 1 < n → result_of_action (last_action acts (i + 1)) ≡ 0
other_goes_on acts ps n i k e more =
    rw (add-one i)
    (go (eqb (suc i) n) refl (eqb (result_of_action (last_action acts (suc i))) 0) refl (rw (add-one i) at more) (both_right (other_sound acts ps i k) _ e))
  where
    go : (l : Bool) → eqb (suc i) n ≡ l → (o : Bool) → eqb (result_of_action (last_action acts (suc i))) 0 ≡ o → suc i < n → l || o ≡ true
        → result_of_action (last_action acts (suc i)) ≡ 0
    go true f o h more w = absurd (omega (arith, eqb-true (suc i) n f))
    go false f true h more w = eqb-true _ _ h
    go false f false h more w = absurd (false≢true w)

-- action i, of which x is read: by a move, and by another action
module _
    (acts ps : List ℕ) (n m i k : ℕ) (g : Given acts ps n m) (at : Passing acts ps n m i k) (before : i < n) (bytes : (j : ℕ) → get_or acts j 0 < 256)
    (x : ℕ) (read : x ≡ move_at acts i)
  where
    module _ (move : x ≤ last_move) where
      move_step_fact : ltb (step acts ps m i k) not_sound ≡ ltb (move_step ps m k x) not_sound
      move_step_fact = ap (λ (r : ℕ). ltb r not_sound) (sym (step_of_listed acts ps m i k x read move (at.goes_on before)))

      move_out : ltb (move_step ps m k x) not_sound ≡ false → is_good limits acts ps n m ≡ false
      move_out e = going_out acts ps n m i k g at.going before bytes (move_step_fact ∙ e)

      -- a move that leaves no position
      move_off : ltb (move_step ps m k x) not_sound ≡ false → moves_in acts (suc i) ≤ m → next_sound limits acts ps i ≡ false
      move_off e =
          turn_off acts ps n m i (step acts ps m i k) (going_step acts ps n m i k g at.going before bytes) (omega (arith, g.some))
          (omega (arith, g.some, ltb-false (step acts ps m i k) not_sound (move_step_fact ∙ e)))

      move_on : ltb (move_step ps m k x) not_sound ≡ true → Passing acts ps n m (i + 1) (k + 1)
      move_on e =
          let counts : k + 1 ≡ moves_after acts i k = rw (← read, le-leb x last_move move) (add-one k) in
          record {
            going = going_on acts ps n m i k g at.going before bytes (k + 1) counts (move_step_fact ∙ e);
            goes_on = λ more. rw (add-one i) (move_goes_on acts i (rw (← read) move));
          }

    module _ (other : last_move < x) where
      other_step : ltb (step acts ps m i k) not_sound ≡ other_sound acts ps i k
      other_step = other_sound_by acts ps m i k x read other (omega (arith, at.going.within, g.some))

      other_going : other_sound acts ps i k ≡ true → Going acts ps n m (i + 1) k
      other_going e =
          let counts : k ≡ moves_after acts i k = rw (← read, lt-leb x last_move other) in
          going_on acts ps n m i k g at.going before bytes k counts (other_step ∙ e)

      -- an action after one that ended the game is not sound
      other_out : other_may_stand acts ps n i k ≡ false → is_good limits acts ps n m ≡ false
      other_out = go (other_sound acts ps i k) refl (eqb (suc i) n) refl (eqb (result_of_action (last_action acts (suc i))) 0) refl
        where
          go : (s : Bool) → other_sound acts ps i k ≡ s → (l : Bool) → eqb (suc i) n ≡ l → (o : Bool) → eqb (result_of_action (last_action acts (suc i))) 0 ≡ o
              → s && (l || o) ≡ false → is_good limits acts ps n m ≡ false
          go false e l f o h w = going_out acts ps n m i k g at.going before bytes (other_step ∙ e)
          go true e true f o h w = absurd (false≢true (sym w))
          go true e false f true h w = absurd (false≢true (sym w))
          go true e false f false h w =
              let more : suc i < n = omega (arith, eqb-false (suc i) n f) in
              let next : Going acts ps n m (suc i) k = rw (add-one i) at (other_going e) in
              going_out acts ps n m (suc i) k g next more bytes
              (unsound acts ps m (suc i) k (step_after_end acts ps m (suc i) k (eqb-false _ _ h)))

      other_on : other_may_stand acts ps n i k ≡ true → Passing acts ps n m (i + 1) k
      other_on e = record { going = other_going (both_left (other_sound acts ps i k) _ e); goes_on = other_goes_on acts ps n i k e }

-- The pass looks at a position when it is left: at the head of its loop the log is sound exactly if what stands on the board is a position.
pub record Reaching (acts ps : List ℕ) (n m i k : ℕ) : Type 0 where
  pub far : i ≤ n
  pub counted : k ≡ moves_in acts i
  pub within : k ≤ m
  pub ok : sound limits acts ps i ≡ is_position (item position_size ps k)
  pub goes_on : i < n → result_of_action (last_action acts i) ≡ 0

reached : (acts ps : List ℕ) (n m i k : ℕ) → Passing acts ps n m i k → Reaching acts ps n m i k
reached acts ps n m i k p =
    record { far = p.going.far; counted = p.going.counted; within = p.going.within; ok = p.going.ok ∙ sym p.going.stands; goes_on = p.goes_on }

passing : (acts ps : List ℕ) (n m i k : ℕ) → Reaching acts ps n m i k → is_position (item position_size ps k) ≡ true → Passing acts ps n m i k
passing acts ps n m i k r e =
    record { going = record { far = r.far; counted = r.counted; within = r.within; ok = r.ok ∙ e; stands = e }; goes_on = r.goes_on }

-- the start, and the end
pub pass_start : (acts ps : List ℕ) (n m : ℕ) → Reaching acts ps n m 0 0
unfolding sound moves_in last_action
pass_start acts ps n m = record { far = zero-le; counted = refl; within = zero-le; ok = refl; goes_on = λ more. refl }

pub pass_end : (acts ps : List ℕ) (n m i k : ℕ) → n ≤ i → Reaching acts ps n m i k
    → eqb m k && is_position (item position_size ps k) ≡ is_good limits acts ps n m
unfolding is_good
pass_end acts ps n m i k over r =
    let e : n ≡ i = omega (arith, r.far) in
    rw (e, ← r.counted, r.ok)

-- a start whose record is out of range
pub no_start : (acts ps : List ℕ) (n m : ℕ) → record_fits (item position_size ps 0) ≡ false → is_good limits acts ps n m ≡ false
unfolding sound
no_start acts ps n m e = spoiled acts ps n m 0 zero-le (no_record (item position_size ps 0) e)

-- a move that may stand leads to a record in range
pub leads_on : (ps : List ℕ) (m k x : ℕ) → x ≤ last_move → record_fits (item position_size ps k) ≡ true → move_may_stand ps m k x ≡ true
    → record_fits (item position_size ps (k + 1)) ≡ true
leads_on ps m k x h r e =
    rw (add-one k) (leads_in_range (item position_size ps k) r (item position_size ps (suc k)) x h (both_right (ltb k m) _ e))

-- action i, of which x is read
module _
    (acts ps : List ℕ) (n m i k : ℕ) (g : Given acts ps n m) (at : Reaching acts ps n m i k) (before : i < n) (bytes : (j : ℕ) → get_or acts j 0 < 256)
    (x : ℕ) (read : x ≡ move_at acts i)
  where
    out_of_position : is_position (item position_size ps k) ≡ false → is_good limits acts ps n m ≡ false
    out_of_position e = spoiled acts ps n m i at.far (at.ok ∙ e)

    module _ (move : x ≤ last_move) where
      abbrev p : List ℕ
      p = item position_size ps k

      abbrev q : List ℕ
      q = item position_size ps (suc k)

      abbrev turned : Bool
      turned = turns_to p x q

      moves_here : moves_in acts (suc i) ≡ suc k
      unfolding moves_in
      moves_here = rw (← read, le-leb x last_move move, ← at.counted)

      -- with a position on the board, the step passes exactly if the move leads to another
      leads_by : k < m → lists_move p x ≡ true → turned ≡ true → ltb (move_step ps m k x) not_sound ≡ is_position q
      leads_by less l t = move_sound_by ps m k x less g.some ∙ rw (l, t) (and-true (is_position q))

      no_step : move_may_stand ps m k x ≡ false → is_position p ≡ true → ltb (move_step ps m k x) not_sound ≡ false
      unfolding is_position_with
      no_step e here = go (ltb k m) refl (lists_move p x) refl turned refl (simp here at e)
        where
          go : (a : Bool) → ltb k m ≡ a → (b : Bool) → lists_move p x ≡ b → (t : Bool) → turned ≡ t → a && (b && t) ≡ false
              → ltb (move_step ps m k x) not_sound ≡ false
          go false e b f t h w = move_unsound ps m k (ltb-false k m e) at.within x
          go true e false f t h w = move_sound_by ps m k x (ltb-true k m e) g.some ∙ rw f
          go true e true f false h w = move_sound_by ps m k x (ltb-true k m e) g.some ∙ rw (f, h) (and-false (is_position q))
          go true e true f true h w = absurd (false≢true (sym w))

      pub leave_out : move_may_stand ps m k x ≡ false → is_good limits acts ps n m ≡ false
      leave_out e = go (is_position p) refl
        where
          go : (t : Bool) → is_position p ≡ t → is_good limits acts ps n m ≡ false
          go false f = out_of_position f
          go true f = move_out acts ps n m i k g (passing acts ps n m i k at f) before bytes x read move (no_step e f)

      left_behind : (here : is_position p ≡ true) → k < m → ltb (move_step ps m k x) not_sound ≡ is_position q → Reaching acts ps n m (i + 1) (k + 1)
      unfolding sound
      left_behind here less by = go (is_position q) refl
        where
          go : (t : Bool) → is_position q ≡ t → Reaching acts ps n m (i + 1) (k + 1)
          go true f = reached acts ps n m (i + 1) (k + 1) (move_on acts ps n m i k g (passing acts ps n m i k at here) before bytes x read move (by ∙ f))
          go false f =
              let next : next_sound limits acts ps i ≡ false =
              move_off acts ps n m i k g (passing acts ps n m i k at here) before bytes x read move (by ∙ f) (omega (arith, moves_here)) in
              record {
                far = omega arith;
                counted = rw (add-one i, add-one k) (sym moves_here);
                within = omega arith;
                ok = rw (add-one i, add-one k, next, f) (and-false (sound limits acts ps i));
                goes_on = λ more. rw (add-one i) (move_goes_on acts i (rw (← read) move));
              }

      pub leave_on : move_may_stand ps m k x ≡ true → Reaching acts ps n m (i + 1) (k + 1)
      unfolding is_position_with
      leave_on e =
          let leads : move_leads p x q ≡ true = both_right (ltb k m) _ e in
          let with : is_position_with p x ≡ true = both_left (is_position_with p x) turned leads in
          let here : is_position p ≡ true = both_left (is_position p) (lists_move p x) with in
          let less : k < m = ltb-true k m (both_left (ltb k m) _ e) in
          left_behind here less (leads_by less (both_right (is_position p) (lists_move p x) with) (both_right (is_position_with p x) turned leads))

    module _ (other : last_move < x) where
      pub stay_out : other_may_stand acts ps n i k ≡ false → is_good limits acts ps n m ≡ false
      stay_out e = go (is_position (item position_size ps k)) refl
        where
          go : (t : Bool) → is_position (item position_size ps k) ≡ t → is_good limits acts ps n m ≡ false
          go false f = out_of_position f
          go true f = other_out acts ps n m i k g (passing acts ps n m i k at f) before bytes x read other e

      pub stay_on : other_may_stand acts ps n i k ≡ true → Reaching acts ps n m (i + 1) k
      unfolding sound moves_in
      stay_on e = go (is_position (item position_size ps k)) refl
        where
          go : (t : Bool) → is_position (item position_size ps k) ≡ t → Reaching acts ps n m (i + 1) k
          go true f = reached acts ps n m (i + 1) k (other_on acts ps n m i k g (passing acts ps n m i k at f) before bytes x read other e)
          go false f = record {
            far = omega arith;
            counted = rw (add-one i, ← read, lt-leb x last_move other) at.counted;
            within = at.within;
            ok = rw (add-one i, at.ok, f);
            goes_on = other_goes_on acts ps n i k e;
          }
