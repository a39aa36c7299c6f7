-- What a read leaves, accepted or refused, and that each accepted roll is written back as it came.
-- Assumes nothing.
use mathlib.Core.Path.{◌≡◌, refl, ap, sym, ◌∙◌}
use mathlib.Core.Bool.{Bool, true, false}
use mathlib.Core.List.{List}
use Prim.Native.Nat.{ℕ, ◌*◌, ◌≤◌}
use native.Mathlib.Omega.{arith}
use lib.Dec.{eqb, ltb}
use lib.ListN.{length, drop, length-append, length-drop}
use lib.Seq.{take_at, drop_at}
use borrow.Author.Tests.{ltb-false}
use Rattle.answer.specs.declared.Answer.{Answer}
use Rattle.answer.specs.Answer.{part_too_short, overwrite}
use Rattle.answer.specs.Numbers.{all_at_most}
use Rattle.answer.proofs.Numbers.{both_left, both_right}
use Rattle.board_builder.specs.BoardBuilder.{record_size, counters_in_range, in_range, numbers, numbers_in_range, board_of, with_counters}
use Rattle.board_builder.proofs.Numbers.{record_of_numbers}
use Rattle.action.specs.Layout.{action_size}
use Rattle.game_rules.specs.Limits.{Limits, actions_length}
use Rattle.roll_text.specs.Roll.{Start, Rolled, refusal, rolled, start_board, start_fits, within_bounds, largest_numbers, roll_text, read_by}
use Rattle.roll_text.specs.Calls.{roll_answer, roll_over, judged_by, game_text}
use Rattle.roll_text.specs.Promises.{Game, WrittenBack, reader_by, roll_writer, Writable, GivesGame, WrittenAs}
use Rattle.roll_text.specs.Promises.{AcceptedReads, RefusedReads, ReadIsWrittenBack}
use Rattle.roll_text.proofs.Forth.{accepted_written_back}
use Rattle.roll_text.proofs.Bounds.{bounds_length, long_bounds, bounds_are_the_records}
use Rattle.roll_text.proofs.Counted.{roll_counted, held_counted, moves_counted}
use Rattle.roll_text.proofs.ReadsBack.{writes}
use Rattle.roll_text.proofs.Refusals.{judged_told, accepted_rolled}

-- ---- refused

gives_nothing : (x : Rolled) (old : List ℕ) → ((roll_answer x).number ≡ 0 → ⊥)
    → ((roll_answer x).actions ≡ 0) × ((roll_answer x).board ≡ (roll_answer (refusal 0)).board) × (roll_over x old ≡ old)
unfolding roll_answer roll_over
gives_nothing (refusal k) old h = (refl, refl, refl)
gives_nothing (rolled xs n bs) old h = absurd (h refl)

pub refused_reads : RefusedReads
unfolding roll_answer
refused_reads counted L s old h =
    let (a, b, c) = gives_nothing (judged_by counted L s (length old)) old h in
    record { no_actions = a; empty = b; unchanged = c }

-- ---- accepted

-- a part that is long enough, and a roll that is read
pub record Judged (counted : Bool) (L : Limits) (s : List ℕ) (room : ℕ) (xs : Start) (n : ℕ) (bs : List ℕ) : Type 0 where
  pub enough : actions_length L ≤ room
  pub read : read_by counted L s ≡ rolled xs n bs

pub judged_read : (counted : Bool) (L : Limits) (s : List ℕ) (room : ℕ) (xs : Start) (n : ℕ) (bs : List ℕ) → judged_by counted L s room ≡ rolled xs n bs
    → Judged counted L s room xs n bs
unfolding judged_by
judged_read counted L s room xs n bs e = by (ltb room (actions_length L)) refl
  where
    by : (t : Bool) → ltb room (actions_length L) ≡ t → Judged counted L s room xs n bs
    by true f =
        let g : refusal part_too_short ≡ rolled xs n bs = simp f at e in
        let z : ◌≡◌ {A = ℕ} 0 1 = cc in absurd (omega arith)
    by false f = record { enough = ltb-false room (actions_length L) f; read = simp f at e }

pub record_in_range : (xs : List ℕ) → numbers_in_range xs ≡ true → in_range (board_of xs) ≡ true
unfolding numbers_in_range
record_in_range xs e = both_right (eqb (length xs) record_size) (in_range (board_of xs)) e

-- and with counters in range
pub board_in_range : (xs : List ℕ) (half full : ℕ) → counters_in_range half full ≡ true → numbers_in_range xs ≡ true
    → in_range (with_counters (board_of xs) half full) ≡ true
unfolding in_range
board_in_range xs half full c e = simp c (record_in_range xs e)

-- what an accepted read gives back, by the roll's start xs, count n and actions bs
module _ (counted : Bool) (L : Limits) (s old : List ℕ) (xs : Start) (n : ℕ) (bs : List ℕ) (small : all_at_most 255 s ≡ true)
    (is : judged_by counted L s (length old) ≡ rolled xs n bs) where
  enough : actions_length L ≤ length old
  enough = (judged_read counted L s (length old) xs n bs is).enough

  back : WrittenBack counted L s xs n bs
  back = accepted_written_back counted L s xs n bs small (judged_read counted L s (length old) xs n bs is).read

  game : Game L xs n bs
  game = back.game

  fits : length bs ≤ length old
  fits = omega (arith, game.long, game.few, enough)

  as_long : length (overwrite bs old) ≡ length old
  as_long = length-append bs (drop (length bs) old) ∙ omega (arith, length-drop (length bs) old, fits)

  counters : counters_in_range xs.half xs.full ≡ true
  unfolding start_fits
  counters = both_left (counters_in_range xs.half xs.full) (within_bounds largest_numbers xs.numbers) game.start

  within : within_bounds largest_numbers xs.numbers ≡ true
  unfolding start_fits
  within = both_right (counters_in_range xs.half xs.full) (within_bounds largest_numbers xs.numbers) game.start

  writable : Writable L (start_board xs) (overwrite bs old) n
  writable =
      record {
        start = board_in_range xs.numbers xs.half xs.full counters (sym (bounds_are_the_records xs.numbers) ∙ within);
        long = omega (arith, as_long, enough);
        few = game.few;
        few_moves = omega (arith, moves_counted n bs (drop (length bs) old) game.long, game.few_moves);
        held = held_counted n bs (drop (length bs) old) game.long ∙ game.in_range_lem;
      }

  text : game_text (start_board xs) (overwrite bs old) n ≡ roll_text xs n bs
  unfolding numbers
  text =
      ap (λ (l : List ℕ). roll_text (record { numbers = l; half = xs.half; full = xs.full }) n (overwrite bs old))
      (record_of_numbers xs.numbers (bounds_length largest_numbers xs.numbers within ∙ long_bounds))
      ∙ roll_counted n bs (drop (length bs) old) game.long xs

  pub gives : GivesGame L (reader_by counted L) s old
  unfolding roll_answer roll_over
  gives =
      record {
        game = rw is writable;
        long = rw is as_long;
        bytes = rw is (ap (all_at_most 255) (take_at bs (drop (length bs) old) (action_size * n) game.long) ∙ game.bytes);
        behind = rw is (drop_at bs (drop (length bs) old) (action_size * n) game.long ∙ ap (λ (i : ℕ). drop i old) game.long);
      }

  -- written as the new roll t of the same game
  pub again : (t out : List ℕ) → roll_text xs n bs ≡ t → length t ≤ length out → WrittenAs (roll_writer L) (reader_by counted L) s t old out
  unfolding roll_answer roll_over
  again t out new room =
      let whole : game_text (start_board xs) (overwrite bs old) n ≡ t = text ∙ new in
      let o = writes L (start_board xs) (overwrite bs old) n out writable (omega (arith, ap length whole, room)) in
      record {
        accepts = rw is (ap (λ (a : Answer). a.number) o.answer);
        long = rw is (ap (λ (a : Answer). a.value) o.answer ∙ ap length whole);
        same_bytes = rw is (o.bytes ∙ whole);
      }

pub accepted_reads : AcceptedReads
accepted_reads counted L s old small e =
    let r = accepted_rolled (judged_by counted L s (length old)) (judged_told counted L s (length old)) e in
    gives counted L s old r.start r.count r.actions small r.is

pub read_is_written_back : ReadIsWrittenBack
read_is_written_back L s old out small e room =
    let r = accepted_rolled (judged_by true L s (length old)) (judged_told true L s (length old)) e in
    let back = accepted_written_back true L s r.start r.count r.actions small
    (judged_read true L s (length old) r.start r.count r.actions r.is).read in
    again true L s old r.start r.count r.actions small r.is s out (sym back.text) room
