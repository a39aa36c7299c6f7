-- A game that was written is read back: the two calls, one after the other.
-- Assumes nothing.
use mathlib.Core.Path.{◌≡◌, refl, ap, sym, ◌∙◌}
use mathlib.Core.Bool.{Bool, true, ◌&&◌}
use mathlib.Core.List.{List, ◌++◌}
use Prim.Native.Nat.{ℕ, ◌*◌, ◌≤◌}
use native.Mathlib.Omega.{arith}
use lib.ListN.{length, take, drop, take-append-drop}
use lib.Seq.{take_at, length-take-le}
use borrow.Author.Tests.{le-ltb}
use Rattle.answer.specs.declared.Answer.{Answer}
use Rattle.answer.specs.Answer.{accepted, overwrite, write_answer, write_bytes}
use Rattle.answer.specs.Numbers.{all_at_most}
use Rattle.answer.proofs.Numbers.{most_take}
use Rattle.answer.proofs.Writes.{write_fits}
use Rattle.board_builder.specs.declared.BoardBuilder.{BoardBuilder}
use Rattle.board_builder.specs.BoardBuilder.{counters_in_range, in_range, numbers, with_counters}
use Rattle.board_builder.proofs.Ranges.{in_range_lem}
use Rattle.board_builder.proofs.Numbers.{numbers_of_record}
use Rattle.stored_position.proofs.Checks.{numbers_range}
use Rattle.action.specs.Layout.{action_size}
use Rattle.actions.specs.Part.{moves_in, actions_held}
use Rattle.game_rules.specs.Limits.{Limits, actions_length}
use Rattle.roll_text.specs.Roll.{Rolled, rolled, start_fits, start_from, roll_text, read_by, read_roll}
use Rattle.roll_text.specs.Calls.{roll_answer, roll_over, judged_by, judged, moves_by_kind, write_check, game_text}
use Rattle.roll_text.specs.Promises.{Game, Countable, formed, roll_writer, wrote, Writable, LimitsAreCountable, WrittenReadsBack}
use Rattle.roll_text.proofs.Entries.{reach_five}
use Rattle.roll_text.proofs.Back.{rolls_read_back}
use Rattle.roll_text.proofs.Bounds.{bounds_are_the_records}
use Rattle.roll_text.proofs.ByKind.{held_by_kind}
use Rattle.roll_text.proofs.Counted.{roll_counted, held_counted, moves_counted}

-- ---- the writer

pub check_passes : (L : Limits) (b : BoardBuilder) (part : List ℕ) (n : ℕ) → Writable L b part n → write_check L b part n ≡ 0
unfolding write_check
check_passes L b part n w =
    let counted : moves_by_kind part n ≡ moves_in part n = held_by_kind part n (omega (arith, w.long, w.few)) w.held in
    let few : moves_by_kind part n ≤ L.most_moves = omega (arith, counted, w.few_moves) in
    simp (le-ltb _ _ w.long, w.start, le-ltb _ _ w.few, le-ltb _ _ few, w.held)

-- ours, for a game that can be written: accepted, and these are the bytes
pub record Wrote (L : Limits) (b : BoardBuilder) (part : List ℕ) (n : ℕ) (out : List ℕ) : Type 0 where
  pub answer : (roll_writer L).answer b part n (length out) ≡ accepted (length (game_text b part n))
  pub room : (roll_writer L).room b part n out ≡ overwrite (game_text b part n) out
  pub bytes : wrote (roll_writer L) b part n out ≡ game_text b part n

pub writes : (L : Limits) (b : BoardBuilder) (part : List ℕ) (n : ℕ) (out : List ℕ) → Writable L b part n → length (game_text b part n) ≤ length out
    → Wrote L b part n out
writes L b part n out w fits =
    let text = game_text b part n in
    let check = check_passes L b part n w in
    let f = write_fits text out fits in
    let answer : write_answer (write_check L b part n) text (length out) ≡ accepted (length text) = rw check (sym f.answer) in
    let room : write_bytes (write_check L b part n) text out ≡ overwrite text out = rw check (sym f.bytes) in
    record {
      answer = answer;
      room = room;
      bytes = ap (λ (a : Answer). take a.value (write_bytes (write_check L b part n) text out)) answer
          ∙ ap (take (length text)) room ∙ take_at text (drop (length text) out) (length text) refl;
    }

-- ---- the reader

pub judged_long : (counted : Bool) (L : Limits) (s : List ℕ) (room : ℕ) → actions_length L ≤ room → judged_by counted L s room ≡ read_by counted L s
unfolding judged_by
judged_long counted L s room h = simp (le-ltb _ _ h)

-- a record in range has a start that fits
pub start_fits_lem : (b : BoardBuilder) → in_range b ≡ true → start_fits (start_from b) ≡ true
unfolding start_fits
start_fits_lem b e =
    ap (λ (t : Bool). counters_in_range b.half_moves b.full_moves && t) (bounds_are_the_records (numbers b))
    ∙ numbers_range b (in_range_lem b e).long
    ∙ e

module _ (L : Limits) (b : BoardBuilder) (part : List ℕ) (n : ℕ) (w : Writable L b part n) (bytes : all_at_most 255 part ≡ true) where
  bs : List ℕ
  bs = take (action_size * n) part

  all_there : action_size * n ≤ length part
  all_there = omega (arith, w.few, w.long)

  long : length bs ≡ action_size * n
  unfolding bs
  long = length-take-le (action_size * n) part all_there

  both : bs ++ drop (action_size * n) part ≡ part
  unfolding bs
  both = take-append-drop (action_size * n) part

  game : Game L (start_from b) n bs
  unfolding bs
  game =
      let m : moves_in bs n ≡ moves_in part n = sym (moves_counted n bs (drop (action_size * n) part) long) ∙ ap (λ (l : List ℕ). moves_in l n) both in
      record {
        start = start_fits_lem b w.start;
        few = w.few;
        few_moves = omega (arith, m, w.few_moves);
        in_range_lem = sym (held_counted n bs (drop (action_size * n) part) long) ∙ ap (λ (l : List ℕ). actions_held l n) both ∙ w.held;
        long = long;
        bytes = most_take (action_size * n) 255 part bytes;
      }

  text : game_text b part n ≡ roll_text (start_from b) n bs
  text = sym (ap (roll_text (start_from b) n) both) ∙ roll_counted n bs (drop (action_size * n) part) long (start_from b)

  pub reads : Countable L → read_roll L (game_text b part n) ≡ rolled (start_from b) n (take (action_size * n) part)
  unfolding bs formed
  reads small = ap (read_roll L) text ∙ rolls_read_back true L (start_from b) n bs small game refl

  pub counted_long : length (take (action_size * n) part) ≡ action_size * n
  unfolding bs
  counted_long = long

pub limits_are_countable : LimitsAreCountable
limits_are_countable = omega (arith, reach_five)

pub written_reads_back : WrittenReadsBack
unfolding roll_answer roll_over
written_reads_back L small b part n out old w bytes fits enough =
    let text = game_text b part n in
    let o = writes L b part n out w fits in
    let value : ((roll_writer L).answer b part n (length out)).value ≡ length text = ap (λ (a : Answer). a.value) o.answer in
    let r : judged L text (length old) ≡ rolled (start_from b) n (take (action_size * n) part)
    = judged_long true L text (length old) enough ∙ reads L b part n w bytes small in
    let over : roll_over (judged L text (length old)) old ≡ take (action_size * n) part ++ drop (action_size * n) old
    = ap (λ (x : Rolled). roll_over x old) r ∙ ap (λ (i : ℕ). take (action_size * n) part ++ drop i old) (counted_long L b part n w bytes) in
    let answer : roll_answer (judged L text (length old)) ≡ record { number = 0; actions = n; board = b }
    = ap roll_answer r ∙ ap (λ (a : BoardBuilder). record { number = 0; actions = n; board = with_counters a b.half_moves b.full_moves })
    (numbers_of_record b w.start) in
    record {
      accepts = ap (λ (a : Answer). a.number) o.answer;
      long = value ∙ ap length (sym o.bytes);
      behind = o.room ∙ rw (o.bytes, value) refl;
      back = ap (λ (s : List ℕ). roll_answer (judged L s (length old))) o.bytes ∙ answer;
      actions = ap (λ (s : List ℕ). roll_over (judged L s (length old)) old) o.bytes ∙ over;
    }
