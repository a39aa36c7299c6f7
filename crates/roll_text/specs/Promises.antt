-- What the order promises about rolls, as statements that can be read by themselves.
-- Assumes nothing.
use Rattle.std.specs.Prelude.{ℕ, ◌*◌, ◌≤◌, ◌<◌, ◌≡◌, Bool, true, false, ◌&&◌, List, ◌∷◌, ◌++◌, eqb, length, take, drop}
use Rattle.answer.specs.declared.Answer.{Answer}
use Rattle.answer.specs.Answer.{write_answer, write_bytes}
use Rattle.answer.specs.Numbers.{all_at_most}
use Rattle.board_builder.specs.declared.BoardBuilder.{BoardBuilder}
use Rattle.board_builder.specs.BoardBuilder.{record_size, in_range, numbers_in_range, board_of, with_counters, no_board}
use Rattle.action.specs.Layout.{action_size}
use Rattle.actions.specs.Part.{moves_in, actions_held}
use Rattle.position.specs.Layout.{position_at}
use Rattle.game_rules.specs.Limits.{Limits, limits, actions_length}
use Rattle.game_rules.specs.Good.{Good}
use Rattle.game_rules.specs.Calls.{long_enough}
use Rattle.roll_text.specs.declared.Roll.{Roll}
use Rattle.roll_text.specs.Number.{most_groups, reach}
use Rattle.roll_text.specs.Roll.{Start, start_fits, rolled, largest_numbers, within_bounds, text_by, read_by, read_roll, read_old_roll}
use Rattle.roll_text.specs.Calls.{roll_answer, roll_over, judged_by, write_check, game_text}

-- a start with n actions in range, within the limits: each of the bytes is one, and there are no others
pub record Game (L : Limits) (st : Start) (n : ℕ) (bs : List ℕ) : Type 0 where
  pub start : start_fits st ≡ true
  pub few : n ≤ L.most_actions
  pub few_moves : moves_in bs n ≤ L.most_moves
  pub in_range_lem : actions_held bs n ≡ true
  pub long : length bs ≡ action_size * n
  pub bytes : all_at_most 255 bs ≡ true

-- five groups hold the count
abbrev pub Countable : Limits → Type 0
Countable L = L.most_actions < reach most_groups

-- those of document 01 do
abbrev pub LimitsAreCountable : Type 0
LimitsAreCountable = Countable limits

-- a start that an old roll can say has the counters 0 and 1
unfoldable pub formed : Bool → Start → Bool
formed true st = true
formed false st = eqb st.half 0 && eqb st.full 1

-- a written roll, new or old, reads back
abbrev pub RollsReadBack : Type 0
RollsReadBack =
    (counted : Bool) (L : Limits) (st : Start) (n : ℕ) (bs : List ℕ) → Countable L → Game L st n bs → formed counted st ≡ true
    → read_by counted L (text_by counted st n bs) ≡ rolled st n bs

-- each accepted roll is a game's, and is written back as it came
pub record WrittenBack (counted : Bool) (L : Limits) (s : List ℕ) (st : Start) (n : ℕ) (bs : List ℕ) : Type 0 where
  pub game : Game L st n bs
  pub form : formed counted st ≡ true
  pub text : s ≡ text_by counted st n bs

abbrev pub AcceptedWrittenBack : Type 0
AcceptedWrittenBack =
    (counted : Bool) (L : Limits) (s : List ℕ) (st : Start) (n : ℕ) (bs : List ℕ) → all_at_most 255 s ≡ true → read_by counted L s ≡ rolled st n bs
    → WrittenBack counted L s st n bs

-- one start with one action list has one roll: two rolls that read alike are one, and one roll is of one game
abbrev pub OneRoll : Type 0
OneRoll = (counted : Bool) (L : Limits) (s t : List ℕ) (st : Start) (n : ℕ) (bs : List ℕ) → all_at_most 255 s ≡ true → all_at_most 255 t ≡ true
    → read_by counted L s ≡ rolled st n bs → read_by counted L t ≡ rolled st n bs → s ≡ t

pub record SameGame (st : Start) (n : ℕ) (bs : List ℕ) (other : Start) (m : ℕ) (cs : List ℕ) : Type 0 where
  pub starts : st ≡ other
  pub counts : n ≡ m
  pub actions : bs ≡ cs

abbrev pub OneGame : Type 0
OneGame = (counted : Bool) (L : Limits) (st : Start) (n : ℕ) (bs : List ℕ) (other : Start) (m : ℕ) (cs : List ℕ) → Countable L
    → Game L st n bs → Game L other m cs → formed counted st ≡ true → formed counted other ≡ true
    → text_by counted st n bs ≡ text_by counted other m cs → SameGame st n bs other m cs

-- an old roll with the counters 0 and 1 put in behind its 68 numbers
abbrev pub anew : List ℕ → List ℕ
anew s = take record_size s ++ (0 ∷ 1 ∷ drop record_size s)

-- an old roll is accepted exactly if the new one is, and they say the same
pub record SameAnew (L : Limits) (s : List ℕ) (st : Start) (n : ℕ) (bs : List ℕ) : Type 0 where
  pub forth : read_old_roll L s ≡ rolled st n bs → read_roll L (anew s) ≡ rolled st n bs
  pub back : read_roll L (anew s) ≡ rolled st n bs → read_old_roll L s ≡ rolled st n bs

abbrev pub OldIsNew : Type 0
OldIsNew = (L : Limits) (s : List ℕ) (st : Start) (n : ℕ) (bs : List ℕ) → all_at_most 255 s ≡ true → record_size ≤ length s → SameAnew L s st n bs

-- the bounds of the 68 numbers are those of a record in range
abbrev pub BoundsAreTheRecords : Type 0
BoundsAreTheRecords = (numbers : List ℕ) → within_bounds largest_numbers numbers ≡ numbers_in_range numbers

-- ---- the two calls, for any programs

-- any writer of rolls: what it answers to a record, an actions part, a count and the length of a room, and what it leaves in the room
pub record Writer : Type 0 where
  pub answer : BoardBuilder → List ℕ → ℕ → ℕ → Answer
  pub room : BoardBuilder → List ℕ → ℕ → List ℕ → List ℕ

-- any reader: what it answers to a roll and the length of an actions part, and what it leaves in the part
pub record Reader : Type 0 where
  pub answer : List ℕ → ℕ → Roll
  pub part : List ℕ → List ℕ → List ℕ

-- those of crates roll_writer and roll_reader
abbrev pub roll_writer : Limits → Writer
roll_writer L =
    record {
      answer = λ (b : BoardBuilder) (part : List ℕ) (n room : ℕ). write_answer (write_check L b part n) (game_text b part n) room;
      room = λ (b : BoardBuilder) (part : List ℕ) (n : ℕ) (out : List ℕ). write_bytes (write_check L b part n) (game_text b part n) out;
    }

-- of new rolls or of old ones
abbrev pub reader_by : Bool → Limits → Reader
reader_by counted L =
    record {
      answer = λ (s : List ℕ) (room : ℕ). roll_answer (judged_by counted L s room);
      part = λ (s part : List ℕ). roll_over (judged_by counted L s (length part)) part;
    }

abbrev pub roll_reader : Limits → Reader
roll_reader L = reader_by true L

abbrev pub old_reader : Limits → Reader
old_reader L = reader_by false L

-- the bytes that a writer wrote: as many from the front of its room as its value says
abbrev pub wrote : Writer → BoardBuilder → List ℕ → ℕ → List ℕ → List ℕ
wrote w b part n out = take (w.answer b part n (length out)).value (w.room b part n out)

-- a record in range, a part that is long enough, a count and moves within the limits, and an action in range at each place that is counted
pub record Writable (L : Limits) (b : BoardBuilder) (part : List ℕ) (n : ℕ) : Type 0 where
  pub start : in_range b ≡ true
  pub long : actions_length L ≤ length part
  pub few : n ≤ L.most_actions
  pub few_moves : moves_in part n ≤ L.most_moves
  pub held : actions_held part n ≡ true

-- a game written and read back: accepted, the value is the length of the bytes written, and exactly these are changed; they are read with 0 as the same
-- count and the same record, and the part has the counted actions' bytes, and behind them what stood there
pub record BackAgain (w : Writer) (r : Reader) (b : BoardBuilder) (part : List ℕ) (n : ℕ) (out old : List ℕ) : Type 0 where
  pub accepts : (w.answer b part n (length out)).number ≡ 0
  pub long : (w.answer b part n (length out)).value ≡ length (wrote w b part n out)
  pub behind : w.room b part n out ≡ wrote w b part n out ++ drop (w.answer b part n (length out)).value out
  pub back : r.answer (wrote w b part n out) (length old) ≡ record { number = 0; actions = n; board = b }
  pub actions : r.part (wrote w b part n out) old ≡ take (action_size * n) part ++ drop (action_size * n) old

abbrev pub ReadsBack : Limits → Writer → Reader → Type 0
ReadsBack L w r =
    (b : BoardBuilder) (part : List ℕ) (n : ℕ) (out old : List ℕ) → Writable L b part n → all_at_most 255 part ≡ true
    → length (game_text b part n) ≤ length out → actions_length L ≤ length old → BackAgain w r b part n out old

-- it is kept by ours
abbrev pub WrittenReadsBack : Type 0
WrittenReadsBack = (L : Limits) → Countable L → ReadsBack L (roll_writer L) (roll_reader L)

-- an accepted read: what it gives back can be written; there are exactly 4 bytes per action, and behind them nothing is changed
pub record GivesGame (L : Limits) (r : Reader) (s old : List ℕ) : Type 0 where
  pub game : Writable L (r.answer s (length old)).board (r.part s old) (r.answer s (length old)).actions
  pub long : length (r.part s old) ≡ length old
  pub bytes : all_at_most 255 (take (action_size * (r.answer s (length old)).actions) (r.part s old)) ≡ true
  pub behind : drop (action_size * (r.answer s (length old)).actions) (r.part s old) ≡ drop (action_size * (r.answer s (length old)).actions) old

abbrev pub AcceptedReads : Type 0
AcceptedReads =
    (counted : Bool) (L : Limits) (s old : List ℕ) → all_at_most 255 s ≡ true → ((reader_by counted L).answer s (length old)).number ≡ 0
    → GivesGame L (reader_by counted L) s old

-- a refused read: no actions, a record of zeros, and no byte is changed
pub record GivesNothing (r : Reader) (s old : List ℕ) : Type 0 where
  pub no_actions : (r.answer s (length old)).actions ≡ 0
  pub empty : (r.answer s (length old)).board ≡ no_board
  pub unchanged : r.part s old ≡ old

abbrev pub RefusedReads : Type 0
RefusedReads =
    (counted : Bool) (L : Limits) (s old : List ℕ) → (((reader_by counted L).answer s (length old)).number ≡ 0 → ⊥)
    → GivesNothing (reader_by counted L) s old

-- an accepted roll s written again, from what the reader gave back: accepted, and the bytes t
pub record WrittenAs (w : Writer) (r : Reader) (s t old out : List ℕ) : Type 0 where
  pub accepts : (w.answer (r.answer s (length old)).board (r.part s old) (r.answer s (length old)).actions (length out)).number ≡ 0
  pub long : (w.answer (r.answer s (length old)).board (r.part s old) (r.answer s (length old)).actions (length out)).value ≡ length t
  pub same_bytes : wrote w (r.answer s (length old)).board (r.part s old) (r.answer s (length old)).actions out ≡ t

-- the same bytes
abbrev pub WrittenAgain : Writer → Reader → List ℕ → List ℕ → List ℕ → Type 0
WrittenAgain w r s old out = WrittenAs w r s s old out

-- whatever stood in the part before, and in any room that is long enough
abbrev pub WritesBack : Writer → Reader → Type 0
WritesBack w r =
    (s old out : List ℕ) → all_at_most 255 s ≡ true → (r.answer s (length old)).number ≡ 0 → length s ≤ length out → WrittenAgain w r s old out

-- it is kept by ours
abbrev pub ReadIsWrittenBack : Type 0
ReadIsWrittenBack = (L : Limits) → WritesBack (roll_writer L) (roll_reader L)

-- an old roll is written as the new one with 0 and 1
abbrev pub OldIsWrittenAnew : Type 0
OldIsWrittenAnew =
    (L : Limits) (s old out : List ℕ) → all_at_most 255 s ≡ true → ((old_reader L).answer s (length old)).number ≡ 0 → length (anew s) ≤ length out
    → WrittenAs (roll_writer L) (old_reader L) s (anew s) old out

-- so, for any programs: where rolls are written back, two accepted rolls that give back the same are one roll ..
abbrev pub OneRollAGame : Type 0
OneRollAGame =
    (w : Writer) (r : Reader) → WritesBack w r → (s t old : List ℕ) → all_at_most 255 s ≡ true → all_at_most 255 t ≡ true
    → (r.answer s (length old)).number ≡ 0 → r.answer s (length old) ≡ r.answer t (length old) → r.part s old ≡ r.part t old → s ≡ t

-- .. and where games are read back, two games with the same bytes have one start and one action list
pub record OneStart (b : BoardBuilder) (part : List ℕ) (n : ℕ) (c : BoardBuilder) (other : List ℕ) (m : ℕ) : Type 0 where
  pub starts : b ≡ c
  pub counts : n ≡ m
  pub actions : take (action_size * n) part ≡ take (action_size * m) other

abbrev pub OneGameARoll : Type 0
OneGameARoll =
    (L : Limits) (w : Writer) (r : Reader) → ReadsBack L w r → (b c : BoardBuilder) (part other : List ℕ) (n m : ℕ) (out room : List ℕ)
    → Writable L b part n → Writable L c other m → all_at_most 255 part ≡ true → all_at_most 255 other ≡ true
    → length (game_text b part n) ≤ length out → length (game_text c other m) ≤ length room
    → wrote w b part n out ≡ wrote w c other m room → OneStart b part n c other m

-- a good log's actions can be written, with its start, the record of position 0
abbrev pub GoodIsWritable : Type 0
GoodIsWritable =
    (L : Limits) (acts ps : List ℕ) (n m : ℕ) → long_enough L acts ps ≡ true → Good L acts ps n m
    → Writable L (with_counters (board_of (position_at ps 0).board) (position_at ps 0).half (position_at ps 0).full) acts n

-- Reading back is not kept by a writer that takes no notice of which record in range it is given, whatever reads ..
abbrev pub OneConstantStartFails : Type 0
OneConstantStartFails =
    (L : Limits) (w : Writer) (r : Reader)
    → ((a b : BoardBuilder) (part : List ℕ) (n room : ℕ) → in_range a ≡ true → in_range b ≡ true → w.answer a part n room ≡ w.answer b part n room)
    → ((a b : BoardBuilder) (part : List ℕ) (n : ℕ) (out : List ℕ) → in_range a ≡ true → in_range b ≡ true → w.room a part n out ≡ w.room b part n out)
    → ReadsBack L w r
    → ⊥

-- .. nor, where one action is allowed, by one that takes no notice of which actions in range it is given ..
abbrev pub OneConstantActionFails : Type 0
OneConstantActionFails =
    (L : Limits) (w : Writer) (r : Reader) → 0 < L.most_actions
    → ((b : BoardBuilder) (p q : List ℕ) (n room : ℕ) → Writable L b p n → Writable L b q n → w.answer b p n room ≡ w.answer b q n room)
    → ((b : BoardBuilder) (p q : List ℕ) (n : ℕ) (out : List ℕ) → Writable L b p n → Writable L b q n → w.room b p n out ≡ w.room b q n out)
    → ReadsBack L w r
    → ⊥

-- .. nor by a reader that always refuses, whatever writes
abbrev pub AlwaysRefusingFails : Type 0
AlwaysRefusingFails = (L : Limits) (w : Writer) (r : Reader) → ((s : List ℕ) (room : ℕ) → (r.answer s room).number ≡ 0 → ⊥) → ReadsBack L w r → ⊥
