-- The two calls for rolls under two limits: what is not 13 under the smaller is the same, and what is longer is 13 under it with nothing changed.
-- Assumes nothing.
use mathlib.Core.Path.{◌≡◌, refl, ap, sym, ◌∙◌}
use mathlib.Core.Bool.{Bool, true, false, cond, false≢true}
use mathlib.Core.List.{List}
use Prim.Native.Nat.{ℕ, ◌*◌, ◌≤◌}
use native.Mathlib.Omega.{arith}
use lib.Dec.{eqb, leb, ltb}
use lib.ListN.{length, take, drop}
use lib.Seq.{take_at}
use borrow.Author.Tests.{eqb-true, eqb-false, leb-true, le-leb, le-ltb, ltb-false}
use Rattle.answer.specs.declared.Answer.{Answer}
use Rattle.answer.specs.Answer.{log_full, out_of_range, bad_roll, refused, write_answer, write_bytes}
use Rattle.answer.specs.Numbers.{all_at_most}
use Rattle.answer.proofs.Numbers.{both_left, both_right}
use Rattle.board_builder.specs.declared.BoardBuilder.{BoardBuilder}
use Rattle.board_builder.specs.BoardBuilder.{in_range}
use Rattle.action.specs.Layout.{action_size}
use Rattle.actions.specs.Part.{moves_in, actions_held}
use Rattle.game_rules.specs.Limits.{Limits, actions_length}
use Rattle.roll_text.specs.declared.Roll.{Roll}
use Rattle.roll_text.specs.Roll.{Start, Rolled, refusal, rolled, read_by}
use Rattle.roll_text.specs.Calls.{roll_answer, roll_over, judged_by, moves_by_kind, write_check, game_text}
use Rattle.roll_text.specs.Promises.{Game, Countable, reader_by}
use Rattle.roll_text.proofs.OldRolls.{old_is_written_anew}
use Rattle.roll_text.proofs.Back.{rolls_read_back}
use Rattle.roll_text.proofs.Counted.{moves_counted}
use Rattle.roll_text.proofs.Forth.{accepted_written_back}
use Rattle.roll_text.proofs.ReadsBack.{judged_long}
use Rattle.roll_text.proofs.Refusals.{judged_told, IsRolled, accepted_rolled}
use Rattle.roll_text.proofs.WritesBack.{read_is_written_back}
use Rattle.longer.specs.TwoLimits.{AllowsNoLess, within}
use Rattle.longer.specs.Promises.{ReadAlike, PartsOf, ReadsAlike, OldRollsReadAlike, OldRollsWrittenBack, OldRollsWrittenAnew}
use Rattle.longer.specs.Promises.{HandsOutNothing, within_of, LongerRollsAre13, OtherRollsReadAlike, WritesAlike, LongerGamesAre13}
use Rattle.longer.proofs.Reading.{roll_alike}

-- within, as two facts
pub within_actions : (L : Limits) (n m : ℕ) → within L n m ≡ true → n ≤ L.most_actions
within_actions L n m e = leb-true _ _ (both_left (leb n L.most_actions) (leb m L.most_moves) e)

pub within_moves : (L : Limits) (n m : ℕ) → within L n m ≡ true → m ≤ L.most_moves
within_moves L n m e = leb-true _ _ (both_right (leb n L.most_actions) (leb m L.most_moves) e)

pub are_within : (L : Limits) (n m : ℕ) → n ≤ L.most_actions → m ≤ L.most_moves → within L n m ≡ true
are_within L n m h k = rw (le-leb n L.most_actions h, le-leb m L.most_moves k) refl

-- ---- the reader

-- the parts that are long enough for M are for L
pub shorter_part : (L M : Limits) → AllowsNoLess L M → (n : ℕ) → actions_length M ≤ n → actions_length L ≤ n
shorter_part L M o n h = omega (arith, o.actions)

-- the counted bytes of a roll that was read, whatever stood in the part
counted_bytes : (counted : Bool) (M : Limits) (s mine theirs : List ℕ) → all_at_most 255 s ≡ true → (x : Rolled) → read_by counted M s ≡ x
    → take (action_size * (roll_answer x).actions) (roll_over x mine) ≡ take (action_size * (roll_answer x).actions) (roll_over x theirs)
unfolding roll_answer roll_over
counted_bytes counted M s mine theirs small (refusal k) e = refl
counted_bytes counted M s mine theirs small (rolled xs n bs) e =
    let long = (accepted_written_back counted M s xs n bs small e).game.long in
    take_at bs (drop (length bs) mine) (action_size * n) long ∙ sym (take_at bs (drop (length bs) theirs) (action_size * n) long)

module _ (L M : Limits) (o : AllowsNoLess L M) (counted : Bool) (s mine theirs : List ℕ) (small : all_at_most 255 s ≡ true) (p : PartsOf L M mine theirs) where
  as_mine : judged_by counted L s (length mine) ≡ read_by counted L s
  as_mine = judged_long counted L s (length mine) p.smaller

  -- for one roll: the answers, the counted actions and what is left
  alike_of : read_by counted L s ≡ read_by counted M s → ReadAlike counted L M s mine theirs
  alike_of e =
      let to-mine : judged_by counted L s (length mine) ≡ read_by counted M s = as_mine ∙ e in
      let to-theirs : judged_by counted L s (length theirs) ≡ read_by counted M s =
      judged_long counted L s (length theirs) (shorter_part L M o (length theirs) p.larger) ∙ e in
      let longer : judged_by counted M s (length theirs) ≡ read_by counted M s = judged_long counted M s (length theirs) p.larger in
      record {
        answers = rw (to-mine, longer) refl;
        actions = rw (to-mine, longer) (counted_bytes counted M s mine theirs small (read_by counted M s) refl);
        left = rw (to-theirs, longer) refl;
      }

  pub read_alike : (((reader_by counted L).answer s (length mine)).number ≡ log_full → ⊥) → ReadAlike counted L M s mine theirs
  unfolding roll_answer
  read_alike isnt = alike_of (roll_alike L M o counted s (λ e. isnt (ap (λ (x : Rolled). (roll_answer x).number) (as_mine ∙ e))))

pub reads_alike : (L M : Limits) → AllowsNoLess L M → ReadsAlike L M
reads_alike L M o counted s mine theirs small p isnt = read_alike L M o counted s mine theirs small p isnt

pub old_rolls_read_alike : (L M : Limits) → AllowsNoLess L M → OldRollsReadAlike L M
old_rolls_read_alike L M o counted s mine theirs small p e =
    read_alike L M o counted s mine theirs small p (λ z. let q : ◌≡◌ {A = ℕ} 0 13 = sym e ∙ z in omega (arith, q))

-- so M accepts it
accepts_too : (L M : Limits) → AllowsNoLess L M → (counted : Bool) (s mine theirs : List ℕ) → all_at_most 255 s ≡ true → PartsOf L M mine theirs
    → ((reader_by counted L).answer s (length mine)).number ≡ 0 → ((reader_by counted M).answer s (length theirs)).number ≡ 0
accepts_too L M o counted s mine theirs small p e =
    sym (ap (λ (r : Roll). r.number) (old_rolls_read_alike L M o counted s mine theirs small p e).answers) ∙ e

pub old_rolls_written_back : (L M : Limits) → AllowsNoLess L M → OldRollsWrittenBack L M
old_rolls_written_back L M o s mine theirs out small p e room =
    read_is_written_back M s theirs out small (accepts_too L M o true s mine theirs small p e) room

pub old_rolls_written_anew : (L M : Limits) → AllowsNoLess L M → OldRollsWrittenAnew L M
old_rolls_written_anew L M o s mine theirs out small p e room =
    old_is_written_anew M s theirs out small (accepts_too L M o false s mine theirs small p e) room

-- ---- a roll that M accepts

module _ (L M : Limits) (o : AllowsNoLess L M) (counted : Bool) (s mine theirs : List ℕ) (small : all_at_most 255 s ≡ true)
    (long : actions_length L ≤ length mine) (e : ((reader_by counted M).answer s (length theirs)).number ≡ 0) where
  -- the part that it was read into was long enough
  their_part : actions_length M ≤ length theirs
  unfolding judged_by roll_answer
  their_part = by (ltb (length theirs) (actions_length M)) refl
    where
      by : (t : Bool) → ltb (length theirs) (actions_length M) ≡ t → actions_length M ≤ length theirs
      by true f = absurd (let z : ◌≡◌ {A = ℕ} 16 0 = simp f at e in omega (arith, z))
      by false f = ltb-false (length theirs) (actions_length M) f

  parts : PartsOf L M mine theirs
  parts = record { smaller = long; larger = their_part }

  read : IsRolled (judged_by counted M s (length theirs))
  read = accepted_rolled (judged_by counted M s (length theirs)) (judged_told counted M s (length theirs)) e

  is : read_by counted M s ≡ rolled read.start read.count read.actions
  is = sym (judged_long counted M s (length theirs) their_part) ∙ read.is

  game : Game M read.start read.count read.actions
  game = (accepted_written_back counted M s read.start read.count read.actions small is).game

  -- the moves among its actions
  moves_of : moves_in ((reader_by counted M).part s theirs) ((reader_by counted M).answer s (length theirs)).actions ≡ moves_in read.actions read.count
  unfolding roll_answer roll_over
  moves_of = rw read.is (moves_counted read.count read.actions (drop (length read.actions) theirs) game.long)

  count_of : ((reader_by counted M).answer s (length theirs)).actions ≡ read.count
  unfolding roll_answer
  count_of = rw read.is refl

  within_of_fact : within_of counted L M s theirs ≡ within L read.count (moves_in read.actions read.count)
  within_of_fact = rw (moves_of, count_of) refl

  -- what L accepts is a game within L
  accepted_within : (xs : Start) (n : ℕ) (bs : List ℕ) → read_by counted L s ≡ rolled xs n bs → within_of counted L M s theirs ≡ true
  accepted_within xs n bs f =
      let g = (accepted_written_back counted L s xs n bs small f).game in
      let same : rolled xs n bs ≡ rolled read.start read.count read.actions =
      sym f ∙ roll_alike L M o counted s (λ z. let q : ◌≡◌ {A = ℕ} 0 1 = cc in omega (arith, q)) ∙ is in
      let counts : n ≡ read.count = cc in
      let acts : bs ≡ read.actions = cc in
      within_of_fact ∙ rw (← counts, ← acts) (are_within L n (moves_in bs n) g.few g.few_moves)

  longer_is_13 : within_of counted L M s theirs ≡ false → read_by counted L s ≡ refusal log_full
  longer_is_13 f = by (read_by counted L s) refl
    where
      by : (x : Rolled) → read_by counted L s ≡ x → read_by counted L s ≡ refusal log_full
      by (rolled xs n bs) g = absurd (false≢true (sym f ∙ accepted_within xs n bs g))
      by (refusal k) g = is_13 (eqb k log_full) refl
        where
          is_13 : (t : Bool) → eqb k log_full ≡ t → read_by counted L s ≡ refusal log_full
          is_13 true h = g ∙ ap refusal (eqb-true k log_full h)
          is_13 false h =
              let other : k ≡ log_full → ⊥ = eqb-false k log_full h in
              let same : refusal k ≡ rolled read.start read.count read.actions =
              sym g ∙ roll_alike L M o counted s (λ z. let q : k ≡ log_full = cc in other q) ∙ is in
              absurd (let q : ◌≡◌ {A = ℕ} 0 1 = cc in omega (arith, q))

  pub longer_hands_out_nothing : within_of counted L M s theirs ≡ false → HandsOutNothing counted L s mine
  unfolding roll_answer roll_over
  longer_hands_out_nothing f =
      let refuses : judged_by counted L s (length mine) ≡ refusal log_full = judged_long counted L s (length mine) long ∙ longer_is_13 f in
      record { answer = rw refuses refl; unchanged = rw refuses refl }

  -- no more than L allows: L reads it, by reading back what would be written
  pub within_is_read : Countable L → within_of counted L M s theirs ≡ true → ReadAlike counted L M s mine theirs
  within_is_read countable f =
      let back = accepted_written_back counted M s read.start read.count read.actions small is in
      let inside : within L read.count (moves_in read.actions read.count) ≡ true = sym within_of_fact ∙ f in
      let game-of-l : Game L read.start read.count read.actions = record {
        start = game.start;
        few = within_actions L read.count (moves_in read.actions read.count) inside;
        few_moves = within_moves L read.count (moves_in read.actions read.count) inside;
        in_range_lem = game.in_range_lem;
        long = game.long;
        bytes = game.bytes;
      } in
      alike_of L M o counted s mine theirs small parts
      (ap (read_by counted L) back.text ∙ rolls_read_back counted L read.start read.count read.actions countable game-of-l back.form ∙ sym is)

pub longer_rolls_are_13 : (L M : Limits) → AllowsNoLess L M → LongerRollsAre13 L M
longer_rolls_are_13 L M o counted s mine theirs small long e f = longer_hands_out_nothing L M o counted s mine theirs small long e f

pub other_rolls_read_alike : (L M : Limits) → AllowsNoLess L M → Countable L → OtherRollsReadAlike L M
other_rolls_read_alike L M o countable counted s mine theirs small long e f = within_is_read L M o counted s mine theirs small long e countable f

-- ---- the writer

-- a test against a limit that answers 13, and what comes behind it, under two limits
test_alike : (few many n x y : ℕ) → few ≤ many → ((x ≡ log_full → ⊥) → x ≡ y) → (cond (ltb few n) log_full x ≡ log_full → ⊥)
    → cond (ltb few n) log_full x ≡ cond (ltb many n) log_full y
test_alike few many n x y h k isnt = by (ltb few n) refl
  where
    by : (t : Bool) → ltb few n ≡ t → cond (ltb few n) log_full x ≡ cond (ltb many n) log_full y
    by true e = absurd (isnt (rw e refl))
    by false e =
        let le : n ≤ few = ltb-false few n e in
        rw (e, le-ltb many n (omega (arith, le, h))) (k (λ z. isnt (rw e z)))

module _ (b : BoardBuilder) (part : List ℕ) (n : ℕ) where
  -- the checks behind 16
  unfoldable behind : Limits → ℕ
  behind L =
      cond (in_range b)
      (cond (ltb L.most_actions n) log_full (cond (ltb L.most_moves (moves_by_kind part n)) log_full (cond (actions_held part n) 0 bad_roll)))
      out_of_range

  is_behind : (L : Limits) → actions_length L ≤ length part → write_check L b part n ≡ behind L
  unfolding write_check behind
  is_behind L h = rw (le-ltb (length part) (actions_length L) h) refl

  behind_alike : (L M : Limits) → AllowsNoLess L M → (behind L ≡ log_full → ⊥) → behind L ≡ behind M
  unfolding behind
  behind_alike L M o isnt = by (in_range b) refl
    where
      by : (t : Bool) → in_range b ≡ t → behind L ≡ behind M
      by true e =
          rw e
          (test_alike L.most_actions M.most_actions n
          (cond (ltb L.most_moves (moves_by_kind part n)) log_full (cond (actions_held part n) 0 bad_roll))
          (cond (ltb M.most_moves (moves_by_kind part n)) log_full (cond (actions_held part n) 0 bad_roll))
          o.actions
          (test_alike L.most_moves M.most_moves (moves_by_kind part n) (cond (actions_held part n) 0 bad_roll) (cond (actions_held part n) 0 bad_roll)
          o.moves
          (λ z. refl))
          (λ z. isnt (rw e z)))
      by false e = rw e refl

  -- more than L allows, for a record in range
  behind_13 : (L : Limits) → in_range b ≡ true → within L n (moves_by_kind part n) ≡ false → behind L ≡ log_full
  unfolding behind
  behind_13 L e f = by (ltb L.most_actions n) (ltb L.most_moves (moves_by_kind part n)) refl refl
    where
      by : (t u : Bool) → ltb L.most_actions n ≡ t → ltb L.most_moves (moves_by_kind part n) ≡ u → behind L ≡ log_full
      by true u g h = rw (e, g) refl
      by false true g h = rw (e, g, h) refl
      by false false g h =
          absurd (false≢true (sym f ∙ are_within L n (moves_by_kind part n) (ltb-false L.most_actions n g) (ltb-false L.most_moves (moves_by_kind part n) h)))

refused_number : (check : ℕ) (text : List ℕ) (room : ℕ) → check ≡ log_full → write_answer check text room ≡ refused log_full
unfolding write_answer
refused_number check text room e = rw e refl

pub writes_alike : (L M : Limits) → AllowsNoLess L M → WritesAlike L M
writes_alike L M o b part n out long isnt =
    let mine = is_behind b part n L (shorter_part L M o (length part) long) in
    let theirs = is_behind b part n M long in
    let checks : write_check L b part n ≡ write_check M b part n =
    mine
    ∙ behind_alike b part n L M o
    (λ z. isnt (ap (λ (a : Answer). a.number) (refused_number (write_check L b part n) (game_text b part n) (length out) (mine ∙ z))))
    ∙ sym theirs in
    record { answers = rw checks refl; rooms = rw checks refl }

pub longer_games_are_13 : (L : Limits) → LongerGamesAre13 L
unfolding write_answer write_bytes
longer_games_are_13 L b part n out inside long f =
    let check : write_check L b part n ≡ log_full = is_behind b part n L long ∙ behind_13 b part n L inside f in
    record { answer = rw check refl; unchanged = rw check refl }
