-- In a good log each position has the clock and the move number of the start, run on by the Laws' count and by black's moves.
-- Assumes nothing.
use mathlib.Core.Path.{◌≡◌, refl, ap, sym, ◌∙◌}
use mathlib.Core.Bool.{Bool, true, false, cond}
use mathlib.Core.List.{List}
use Prim.Native.Nat.{ℕ, zero, suc, ◌+◌, ◌/◌, ◌%◌, ◌≤◌, ◌<◌}
use native.Mathlib.Omega.{arith}
use lib.Dec.{eqb, ltb, eqb-zero-suc, eqb-suc-suc}
use lib.ListN.{length}
use borrow.Author.Tests.{eqb-true, eqb-false, ltb-true, ltb-false, lt-ltb, le-ltb}
use Rattle.answer.proofs.Numbers.{both_left, both_right}
use Rattle.board_builder.specs.BoardBuilder.{last_count, record_size, board_of, in_range, counters_in_range, numbers_in_range}
use Rattle.board_builder.proofs.Ranges.{CountersIn, counters_in, in_range_lem}
use Rattle.move_rules.specs.After.{restarts, one_more, half_after, full_after}
use Rattle.actions.specs.Part.{moves_in}
use Rattle.position.specs.Layout.{Position, side, position_at}
use Rattle.stored_position.specs.Bytes.{record_good, position_check}
use Rattle.stored_position.proofs.Checks.{bad_board}
use Rattle.claim.specs.Emptying.{irreversible}
use Rattle.game_rules.specs.Limits.{Limits}
use Rattle.game_rules.specs.Rules.{make_move, offer_draw, accept_draw, declare_draw, resign, History, begun, after, current, moves}
use Rattle.game_rules.specs.Good.{Accepted, Good, history_of}
use Rattle.game_rules.specs.Promises.{Follows}
use Rattle.game_rules.proofs.Checks.{move_says, current_in_range}
use Rattle.game_rules.proofs.Decide.{good_history}
use Rattle.game_rules.proofs.Follows.{good_logs_follow}
use Rattle.game_rules.proofs.Log.{current_at, moves_at_lem}
use Rattle.laws.specs.Laws.{moves_made, since_last, laws_count}
use Rattle.laws.specs.Ruling.{ruled_on, ruling_answer}
use Rattle.laws.specs.Clock.{stopped_at, clock_from, full_from, first_position, clock_of, full_of, AllAlong, ClocksRun, NumbersRun}
use Rattle.laws.specs.Clock.{GoodLogsClock, GoodLogsNumber, LastIsRunOn}
use Rattle.laws.proofs.Played.{every_log_is_ruled_as_played}

-- ---- numbers that stop

module _ (most n : ℕ) where
  stopped_under : n < most → stopped_at most n ≡ n
  unfolding stopped_at
  stopped_under h = rw (lt-ltb n most h) refl

  stopped_over : most ≤ n → stopped_at most n ≡ most
  unfolding stopped_at
  stopped_over h = rw (le-ltb n most h) refl

  -- one that does not pass it
  stopped_within : n ≤ most → stopped_at most n ≡ n
  stopped_within h = by (ltb n most) refl
    where
      by : (t : Bool) → ltb n most ≡ t → stopped_at most n ≡ n
      by true e = stopped_under (ltb-true n most e)
      by false e = let le = ltb-false n most e in stopped_over le ∙ omega arith

-- one more of a number that stops
one_more_stopped : (n : ℕ) → one_more (stopped_at last_count n) ≡ stopped_at last_count (suc n)
unfolding one_more
one_more_stopped n = by (ltb n last_count) refl
  where
    by : (t : Bool) → ltb n last_count ≡ t → one_more (stopped_at last_count n) ≡ stopped_at last_count (suc n)
    by true e =
        let less = ltb-true n last_count e in
        rw (stopped_under last_count n less, lt-ltb n last_count less, stopped_within last_count (suc n) less) (omega arith)
    by false e =
        let le = ltb-false n last_count e in
        let over : last_count ≤ suc n = omega arith in
        rw (stopped_over last_count n le, stopped_over last_count (suc n) over) refl

-- ---- one move

-- t tells that the move restarts the count
clock_step : (t : Bool) (start laws made : ℕ) → cond t 0 (one_more (clock_from start laws made)) ≡ clock_from start (cond t 0 (suc laws)) (suc made)
unfolding clock_from
clock_step true start laws made = rw (eqb-zero-suc made) (sym (stopped_within last_count 0 (omega arith)))
clock_step false start laws made =
    let on = cond (eqb laws made) start 0 in
    let more : suc (laws + on) ≡ suc laws + on = omega arith in
    rw (eqb-suc-suc laws made) (one_more_stopped (laws + on) ∙ ap (stopped_at last_count) more)

-- black is to move exactly after an odd number of moves, counted with the start's side
full_step : (start colour made : ℕ) → cond (eqb ((made + colour) % 2) 0) (full_from start colour made) (one_more (full_from start colour made))
    ≡ full_from start colour (suc made)
unfolding full_from
full_step start colour made = by (eqb ((made + colour) % 2) 0) refl
  where
    by : (t : Bool) → eqb ((made + colour) % 2) 0 ≡ t
        → cond t (stopped_at last_count (start + (made + colour) / 2)) (one_more (stopped_at last_count (start + (made + colour) / 2)))
        ≡ stopped_at last_count (start + (suc made + colour) / 2)
    by true e =
        let even = eqb-true ((made + colour) % 2) 0 e in
        let same : start + (made + colour) / 2 ≡ start + (suc made + colour) / 2 = omega arith in
        ap (stopped_at last_count) same
    by false e =
        let odd = eqb-false ((made + colour) % 2) 0 e in
        let more : suc (start + (made + colour) / 2) ≡ start + (suc made + colour) / 2 = omega (arith, odd) in
        one_more_stopped (start + (made + colour) / 2) ∙ ap (stopped_at last_count) more

-- ---- a position in range: its counters and its side

record InIt (p : Position) : Type 0 where
  counters : CountersIn p.half p.full
  colour : side p ≤ 1

in_it : (p : Position) → position_check p ≡ 0 → InIt p
unfolding numbers_in_range
in_it p e = by (record_good p) refl
  where
    by : (t : Bool) → record_good p ≡ t → InIt p
    by true f =
        let counters = both_left (counters_in_range p.half p.full) (numbers_in_range p.board) f in
        let numbers = both_right (counters_in_range p.half p.full) (numbers_in_range p.board) f in
        let board = both_right (eqb (length p.board) record_size) (in_range (board_of p.board)) numbers in
        record { counters = counters_in p.half p.full counters; colour = (in_range_lem (board_of p.board) board).side }
    by false f = absurd (omega (arith, sym e ∙ bad_board p f))

module _ (L : Limits) where
  -- the sides take turns
  turns : (h : History) → Accepted L h → side (current h) ≡ (moves h + side (first_position h)) % 2
  unfolding Accepted current moves first_position
  turns (begun p) a = let c = (in_it p a).colour in omega arith
  turns (after h (make_move m q)) a =
      let said = move_says L h m q a.1 in
      let new = (in_it q said.check).colour in
      let old = (in_it (current h) (current_in_range L h a.0)).colour in
      let other = eqb-false (side q) (side (current h)) said.turn in
      let was = turns h a.0 in
      omega (arith, other)
  turns (after h (offer_draw c)) a = turns h a.0
  turns (after h accept_draw) a = turns h a.0
  turns (after h declare_draw) a = turns h a.0
  turns (after h (resign c)) a = turns h a.0

  clock_is : (h : History) → Accepted L h → Follows h → (current h).half ≡ clock_of h
  unfolding Accepted Follows current moves first_position laws_count moves_made since_last irreversible half_after restarts clock_from
  clock_is (begun p) a f =
      let none : 0 + p.half ≡ p.half = omega arith in
      sym (ap (stopped_at last_count) none ∙ stopped_within last_count p.half (in_it p a).counters.half_most)
  clock_is (after h (make_move m q)) a f =
      f.1.half
      ∙ ap (λ (x : ℕ). cond (irreversible (current h) m) 0 (one_more x)) (clock_is h a.0 f.0)
      ∙ clock_step (irreversible (current h) m) (first_position h).half (laws_count h) (moves h)
  clock_is (after h (offer_draw c)) a f = clock_is h a.0 f
  clock_is (after h accept_draw) a f = clock_is h a.0 f
  clock_is (after h declare_draw) a f = clock_is h a.0 f
  clock_is (after h (resign c)) a f = clock_is h a.0 f

  full_is : (h : History) → Accepted L h → Follows h → (current h).full ≡ full_of h
  unfolding Accepted Follows current moves first_position full_after full_from
  full_is (begun p) a f =
      let c = in_it p a in
      let none : p.full + (0 + side p) / 2 ≡ p.full = omega (arith, c.colour) in
      sym (ap (stopped_at last_count) none ∙ stopped_within last_count p.full c.counters.full_most)
  full_is (after h (make_move m q)) a f =
      f.1.full
      ∙ rw (turns h a.0, full_is h a.0 f.0) (full_step (first_position h).full (side (first_position h)) (moves h))
  full_is (after h (offer_draw c)) a f = full_is h a.0 f
  full_is (after h accept_draw) a f = full_is h a.0 f
  full_is (after h declare_draw) a f = full_is h a.0 f
  full_is (after h (resign c)) a f = full_is h a.0 f

  -- what is so of every accepted history is so all along one
  all_along : (P : History → Type 0) → ((h : History) → Accepted L h → Follows h → P h) → (h : History) → Accepted L h → Follows h → AllAlong P h
  unfolding Accepted Follows AllAlong
  all_along P so (begun p) a f = so (begun p) a f
  all_along P so (after h (make_move m q)) a f = (all_along P so h a.0 f.0, so (after h (make_move m q)) a f)
  all_along P so (after h (offer_draw c)) a f = (all_along P so h a.0 f, so (after h (offer_draw c)) a f)
  all_along P so (after h accept_draw) a f = (all_along P so h a.0 f, so (after h accept_draw) a f)
  all_along P so (after h declare_draw) a f = (all_along P so h a.0 f, so (after h declare_draw) a f)
  all_along P so (after h (resign c)) a f = (all_along P so h a.0 f, so (after h (resign c)) a f)

-- ---- a good log

good_along : (P : History → Type 0) → ((L : Limits) (h : History) → Accepted L h → Follows h → P h)
    → (L : Limits) (acts ps : List ℕ) (n m : ℕ) → Good L acts ps n m → P (history_of acts ps n)
good_along P so L acts ps n m (h, a, g) =
    let one = good_history L acts ps n m h a g in
    rw one (so L h a (rw one at (good_logs_follow L acts ps n m (h, a, g))))

pub good_logs_clock : GoodLogsClock
good_logs_clock = good_along ClocksRun (λ L. all_along L (λ (g : History). (current g).half ≡ clock_of g) (clock_is L))

pub good_logs_number : GoodLogsNumber
good_logs_number = good_along NumbersRun (λ L. all_along L (λ (g : History). (current g).full ≡ full_of g) (full_is L))

first_at : (acts ps : List ℕ) (n : ℕ) → first_position (history_of acts ps n) ≡ position_at ps 0
unfolding first_position history_of
first_at acts ps zero = refl
first_at acts ps (suc n) = first_at acts ps n

pub last_is_run_on : LastIsRunOn
unfolding ruled_on
last_is_run_on L acts ps n m long (h, a, g) =
    let one = good_history L acts ps n m h a g in
    let told : ruling_answer L acts ps n m ≡ ruled_on h = (every_log_is_ruled_as_played L acts ps n m h long a g).ruling_told in
    let made : moves h ≡ m = sym g.move_count in
    let first : first_position h ≡ position_at ps 0 = ap first_position (sym one) ∙ first_at acts ps n in
    let count : moves_in acts n ≡ m = sym (moves_at_lem acts ps n) ∙ ap moves one ∙ made in
    let last : current h ≡ position_at ps m = ap current (sym one) ∙ current_at acts ps n ∙ ap (position_at ps) count in
    let follows : Follows h = rw one at (good_logs_follow L acts ps n m (h, a, g)) in
    record {
      clock = rw (told, ← first, ← last, ← made) (clock_is L h a follows);
      number = rw (← first, ← last, ← made) (full_is L h a follows);
    }
