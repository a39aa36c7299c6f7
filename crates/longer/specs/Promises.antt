-- What order 11 of document 02 promises about two programs, one with limits L and one with limits M that allow no less, each as a statement that can be read
-- by itself. They are stated for any two limits in order, and at the end for document 01's and those of the contracts. What is said of reading holds of rolls
-- with counters and of those without (order 12), each by its own call; "old rolls" are those within the old limits.
-- Assumes nothing.
use Rattle.std.specs.Prelude.{◌≡◌, Bool, true, false, ◌↔◌, List, ℕ, ◌*◌, ◌≤◌, length, take}
use Rattle.answer.specs.Answer.{refused, log_full, not_good}
use Rattle.answer.specs.Numbers.{all_at_most}
use Rattle.board_builder.specs.declared.BoardBuilder.{BoardBuilder}
use Rattle.board_builder.specs.BoardBuilder.{in_range, no_board}
use Rattle.action.specs.Layout.{action_size}
use Rattle.actions.specs.Part.{moves_in}
use Rattle.position.specs.Layout.{Position}
use Rattle.game_rules.specs.Limits.{Limits, limits, actions_length}
use Rattle.game_rules.specs.Rules.{Call, History, actions, moves}
use Rattle.game_rules.specs.Good.{Accepted, Good}
use Rattle.game_rules.specs.Calls.{long_enough, log_check, call_answer, counts, result_answer, claim_answer}
use Rattle.game_rules.specs.Promises.{called, started}
use Rattle.laws.specs.Ruling.{ruling_answer, laws_answer}
use Rattle.roll_text.specs.Calls.{moves_by_kind}
use Rattle.roll_text.specs.Promises.{Countable, anew, roll_writer, reader_by, roll_reader, old_reader, WrittenAs, WrittenAgain}
use Rattle.longer.specs.TwoLimits.{old_limits, AllowsNoLess, within, room_after}

-- ---- rolls read

-- a roll, with counters or without, read under L into a part and under M into a part: the same answer (number, count and record), the same bytes of the
-- counted actions; and in one part of the larger size the same bytes left
pub record ReadAlike (counted : Bool) (L M : Limits) (s mine theirs : List ℕ) : Type 0 where
  pub answers : (reader_by counted L).answer s (length mine) ≡ (reader_by counted M).answer s (length theirs)
  pub actions : take (action_size * ((reader_by counted L).answer s (length mine)).actions) ((reader_by counted L).part s mine)
      ≡ take (action_size * ((reader_by counted L).answer s (length mine)).actions) ((reader_by counted M).part s theirs)
  pub left : (reader_by counted L).part s theirs ≡ (reader_by counted M).part s theirs

-- the parts are as long as each program asks
pub record PartsOf (L M : Limits) (mine theirs : List ℕ) : Type 0 where
  pub smaller : actions_length L ≤ length mine
  pub larger : actions_length M ≤ length theirs

-- whatever L does not refuse with 13 is read alike: what it accepts is accepted, what it refuses is refused with the same number
abbrev pub ReadsAlike : Limits → Limits → Type 0
ReadsAlike L M =
    (counted : Bool) (s mine theirs : List ℕ) → all_at_most 255 s ≡ true → PartsOf L M mine theirs
    → (((reader_by counted L).answer s (length mine)).number ≡ log_full → ⊥) → ReadAlike counted L M s mine theirs

-- so every roll that L accepts
abbrev pub OldRollsReadAlike : Limits → Limits → Type 0
OldRollsReadAlike L M =
    (counted : Bool) (s mine theirs : List ℕ) → all_at_most 255 s ≡ true → PartsOf L M mine theirs → ((reader_by counted L).answer s (length mine)).number ≡ 0
    → ReadAlike counted L M s mine theirs

-- .. and what M gives back of it is written by M to the same bytes, if the roll carries both counters ..
abbrev pub OldRollsWrittenBack : Limits → Limits → Type 0
OldRollsWrittenBack L M =
    (s mine theirs out : List ℕ) → all_at_most 255 s ≡ true → PartsOf L M mine theirs → ((roll_reader L).answer s (length mine)).number ≡ 0
    → length s ≤ length out → WrittenAgain (roll_writer M) (roll_reader M) s theirs out

-- .. and with 0 and 1 put in, if it carries none
abbrev pub OldRollsWrittenAnew : Limits → Limits → Type 0
OldRollsWrittenAnew L M =
    (s mine theirs out : List ℕ) → all_at_most 255 s ≡ true → PartsOf L M mine theirs → ((old_reader L).answer s (length mine)).number ≡ 0
    → length (anew s) ≤ length out → WrittenAs (roll_writer M) (old_reader M) s (anew s) theirs out

-- 13 before anything is handed out: no actions, a record of zeros, and no byte of the part is changed
pub record HandsOutNothing (counted : Bool) (L : Limits) (s mine : List ℕ) : Type 0 where
  pub answer : (reader_by counted L).answer s (length mine) ≡ record { number = log_full; actions = 0; board = no_board }
  pub unchanged : (reader_by counted L).part s mine ≡ mine

-- the count and the moves that a roll read under M has are within L, or not
abbrev pub within_of : Bool → Limits → Limits → List ℕ → List ℕ → Bool
within_of counted L M s theirs =
    within L ((reader_by counted M).answer s (length theirs)).actions
    (moves_in ((reader_by counted M).part s theirs) ((reader_by counted M).answer s (length theirs)).actions)

-- a roll that M accepts is refused by L with 13 if it has more actions or moves, and is read alike if not
abbrev pub LongerRollsAre13 : Limits → Limits → Type 0
LongerRollsAre13 L M =
    (counted : Bool) (s mine theirs : List ℕ) → all_at_most 255 s ≡ true → actions_length L ≤ length mine
    → ((reader_by counted M).answer s (length theirs)).number ≡ 0 → within_of counted L M s theirs ≡ false → HandsOutNothing counted L s mine

abbrev pub OtherRollsReadAlike : Limits → Limits → Type 0
OtherRollsReadAlike L M =
    (counted : Bool) (s mine theirs : List ℕ) → all_at_most 255 s ≡ true → actions_length L ≤ length mine
    → ((reader_by counted M).answer s (length theirs)).number ≡ 0 → within_of counted L M s theirs ≡ true → ReadAlike counted L M s mine theirs

-- ---- rolls written

pub record WrittenAlike (L M : Limits) (b : BoardBuilder) (part : List ℕ) (n : ℕ) (out : List ℕ) : Type 0 where
  pub answers : (roll_writer L).answer b part n (length out) ≡ (roll_writer M).answer b part n (length out)
  pub rooms : (roll_writer L).room b part n out ≡ (roll_writer M).room b part n out

-- given a part of the larger size, whatever L does not refuse with 13 is written alike, or refused with the same number
abbrev pub WritesAlike : Limits → Limits → Type 0
WritesAlike L M =
    (b : BoardBuilder) (part : List ℕ) (n : ℕ) (out : List ℕ) → actions_length M ≤ length part
    → (((roll_writer L).answer b part n (length out)).number ≡ log_full → ⊥) → WrittenAlike L M b part n out

-- a game with more actions or moves: 13, and no byte of the room is changed
pub record WritesNothing (L : Limits) (b : BoardBuilder) (part : List ℕ) (n : ℕ) (out : List ℕ) : Type 0 where
  pub answer : (roll_writer L).answer b part n (length out) ≡ refused log_full
  pub unchanged : (roll_writer L).room b part n out ≡ out

abbrev pub LongerGamesAre13 : Limits → Type 0
LongerGamesAre13 L =
    (b : BoardBuilder) (part : List ℕ) (n : ℕ) (out : List ℕ) → in_range b ≡ true → actions_length L ≤ length part
    → within L n (moves_by_kind part n) ≡ false → WritesNothing L b part n out

-- ---- logs

-- the games that may be played under L are those under M that are within L
abbrev pub SameGames : Limits → Limits → Type 0
SameGames L M = (h : History) → Accepted L h ↔ (Accepted M h × (within L (actions h) (moves h) ≡ true))

-- a log within L is good under both or under neither
abbrev pub SameGood : Limits → Limits → Type 0
SameGood L M = (acts ps : List ℕ) (n m : ℕ) → within L n m ≡ true → Good L acts ps n m ↔ Good M acts ps n m

abbrev pub StartsAlike : Limits → Limits → Type 0
StartsAlike L M = (acts ps : List ℕ) (p : Position) → long_enough M acts ps ≡ true → started L acts ps p ≡ started M acts ps p

-- a log within L: what it is answered, on parts of the larger size
pub record AnsweredAlike (L M : Limits) (acts ps : List ℕ) (n m : ℕ) : Type 0 where
  pub checks : log_check L acts ps n m ≡ log_check M acts ps n m
  -- a call that does not reach L's limits: the same number, counts and bytes, accepted or refused
  pub calls : (c : Call) → room_after L n m c ≡ true → called L acts ps n m c ≡ called M acts ps n m c
  -- a call that reaches them: 13, with nothing changed, if M accepts it, and otherwise M's refusal
  pub full : (c : Call) → room_after L n m c ≡ false → call_answer M acts ps n m c ≡ 0
      → called L acts ps n m c ≡ record { counts = counts log_full n m; acts = acts; ps = ps }
  pub refusals : (c : Call) → (call_answer M acts ps n m c ≡ 0 → ⊥) → called L acts ps n m c ≡ called M acts ps n m c
  -- the queries
  pub results : result_answer L acts ps n m ≡ result_answer M acts ps n m
  pub claims : claim_answer L acts ps n m ≡ claim_answer M acts ps n m
  pub laws_claims : laws_answer L acts ps n m ≡ laws_answer M acts ps n m
  pub rulings : ruling_answer L acts ps n m ≡ ruling_answer M acts ps n m

abbrev pub LogsAlike : Limits → Limits → Type 0
LogsAlike L M = (acts ps : List ℕ) (n m : ℕ) → long_enough M acts ps ≡ true → within L n m ≡ true → AnsweredAlike L M acts ps n m

-- counts beyond L are 9 under L, whatever the bytes
abbrev pub LongerLogsAre9 : Limits → Type 0
LongerLogsAre9 L = (acts ps : List ℕ) (n m : ℕ) → long_enough L acts ps ≡ true → within L n m ≡ false → log_check L acts ps n m ≡ not_good

-- ---- all of it, for two limits

pub record BothAlike (L M : Limits) : Type 0 where
  pub reads : ReadsAlike L M
  pub old_rolls : OldRollsReadAlike L M
  pub written_back : OldRollsWrittenBack L M
  pub written_anew : OldRollsWrittenAnew L M
  pub longer_rolls : LongerRollsAre13 L M
  pub other_rolls : Countable L → OtherRollsReadAlike L M
  pub writes : WritesAlike L M
  pub longer_games : LongerGamesAre13 L
  pub games : SameGames L M
  pub good : SameGood L M
  pub starts : StartsAlike L M
  pub logs : LogsAlike L M
  pub longer_logs : LongerLogsAre9 L

abbrev pub AnyTwoLimits : Type 0
AnyTwoLimits = (L M : Limits) → AllowsNoLess L M → BothAlike L M

-- document 01's limits, and those that the contracts put in
abbrev pub OldAndNew : Type 0
OldAndNew = BothAlike old_limits limits

abbrev pub OldAreCountable : Type 0
OldAreCountable = Countable old_limits
