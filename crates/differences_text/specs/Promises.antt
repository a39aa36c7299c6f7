-- What the order promises about the lines that differ, as statements that can be read by themselves.
-- Assumes nothing.
use Rattle.std.specs.Prelude.{ℕ, suc, ◌≤◌, ◌<◌, ◌≡◌, Bool, true, ◌&&◌, leb, length, take, drop, get_or}
use mathlib.Core.List.{List, [], ◌∷◌, ◌++◌, map, Memᴰ}
use Rattle.answer.specs.declared.Answer.{Answer}
use Rattle.answer.specs.Answer.{accepted, refused, part_too_short}
use Rattle.answer.specs.Numbers.{all_at_most}
use Rattle.game_rules.specs.Limits.{Limits, limits, actions_length}
use Rattle.roll_text.specs.Roll.{Start, rolled, read_roll}
use Rattle.roll_text.specs.Promises.{roll_reader}
use Rattle.differences_text.specs.Differences.{Difference, difference, start_numbers, start_size, start_key, action_key, action_numbers, lines_text}
use Rattle.differences_text.specs.Calls.{differences_answer, differences_room}

-- any call that tells what differs: what it answers to two rolls and the length of a room, and what it leaves in the room
pub record Teller : Type 0 where
  pub answer : List ℕ → List ℕ → ℕ → Answer
  pub room : List ℕ → List ℕ → List ℕ → List ℕ

-- that of crate differences
abbrev pub teller : Limits → Teller
teller L =
    record {
      answer = λ (s t : List ℕ) (room : ℕ). differences_answer L s t room;
      room = λ (s t out : List ℕ). differences_room L s t out;
    }

-- the bytes that it wrote: as many from the front of its room as its value says
abbrev pub lines_written : Teller → List ℕ → List ℕ → List ℕ → List ℕ
lines_written c s t out = take (c.answer s t (length out)).value (c.room s t out)

-- what the roll reader answers with, in a part that is long enough
abbrev pub reader_number : Limits → List ℕ → ℕ
reader_number L s = ((roll_reader L).answer s (actions_length L)).number

pub record BothRead (L : Limits) (s t : List ℕ) : Type 0 where
  pub first_bytes : all_at_most 255 s ≡ true
  pub second_bytes : all_at_most 255 t ≡ true
  pub first : reader_number L s ≡ 0
  pub second : reader_number L t ≡ 0

-- ---- no line exactly if the rolls are equal, byte for byte, in a room of any length

pub record NoLine (c : Teller) (s t : List ℕ) (room : ℕ) : Type 0 where
  pub none : c.answer s t room ≡ accepted 0 → s ≡ t
  pub equal : s ≡ t → c.answer s t room ≡ accepted 0

abbrev pub NoLineExactlyIfEqual : Type 0
NoLineExactlyIfEqual = (L : Limits) (s t : List ℕ) (room : ℕ) → BothRead L s t → NoLine (teller L) s t room

-- ---- which lines there are, by the two starts' numbers xs and ys and the two games' action numbers acts and others; 0 stands for an action that is not there

unfoldable pub rising : ℕ → List ℕ → Bool
rising least [] = true
rising least (i ∷ is) = leb least i && rising (suc i) is

-- the line of start number i
abbrev pub start_line : List ℕ → List ℕ → ℕ → Difference
start_line xs ys i = difference (start_key i) (get_or xs i 0) (get_or ys i 0)

-- the start numbers told are those that differ, in their order
pub record StartTold (xs ys : List ℕ) (told : List ℕ) : Type 0 where
  pub in_order : rising 0 told ≡ true
  pub each_differs : (i : ℕ) → Memᴰ i told → (i < start_size) × (get_or xs i 0 ≡ get_or ys i 0 → ⊥)
  pub each_that_differs : (i : ℕ) → i < start_size → (get_or xs i 0 ≡ get_or ys i 0 → ⊥) → Memᴰ i told

-- and the action told is the first that differs, or there is none
pub data ActionTold (acts others : List ℕ) : List Difference → Type 0 where
  all_equal : acts ≡ others → ActionTold acts others []
  first : (i : ℕ) → ((j : ℕ) → j < i → get_or acts j 0 ≡ get_or others j 0) → (get_or acts i 0 ≡ get_or others i 0 → ⊥)
      → ActionTold acts others (difference (action_key i) (get_or acts i 0) (get_or others i 0) ∷ [])

pub record Lines (xs acts ys others : List ℕ) : Type 0 where
  pub start : List ℕ
  pub action : List Difference
  pub start_told : StartTold xs ys start
  pub action_told : ActionTold acts others action

abbrev pub lines_of : {xs acts ys others : List ℕ} → Lines xs acts ys others → List Difference
lines_of {xs} {acts} {ys} {others} l = map (start_line xs ys) l.start ++ l.action

-- the same line of the two games the other way round
abbrev pub swapped : Difference → Difference
swapped d = difference d.key d.second d.first

-- so the text that is written, and the text of the two rolls the other way round: the two numbers of each line are swapped. Behind the text the room is as
-- it was
pub record Tells (c : Teller) (s t out : List ℕ) (xs acts ys others : List ℕ) : Type 0 where
  pub lines : Lines xs acts ys others
  pub text : lines_written c s t out ≡ lines_text (lines_of lines)
  pub behind : drop (c.answer s t (length out)).value (c.room s t out) ≡ drop (c.answer s t (length out)).value out
  pub other_way : lines_written c t s out ≡ lines_text (map swapped (lines_of lines))

abbrev pub TellsWhatDiffers : Type 0
TellsWhatDiffers =
    (L : Limits) (s t out : List ℕ) (st : Start) (n : ℕ) (bs : List ℕ) (other : Start) (m : ℕ) (cs : List ℕ) → all_at_most 255 s ≡ true
    → all_at_most 255 t ≡ true → read_roll L s ≡ rolled st n bs → read_roll L t ≡ rolled other m cs
    → ((teller L).answer s t (length out)).number ≡ 0 → ((teller L).answer t s (length out)).number ≡ 0
    → Tells (teller L) s t out (start_numbers st) (action_numbers n bs) (start_numbers other) (action_numbers m cs)

-- ---- refusals: the reader's number, first roll first, with the value 0; and nothing is written

pub record Refuses (c : Teller) (s t out : List ℕ) (number : ℕ) : Type 0 where
  pub answer : c.answer s t (length out) ≡ refused number
  pub unchanged : c.room s t out ≡ out

abbrev pub FirstRollFirst : Type 0
FirstRollFirst = (L : Limits) (s t out : List ℕ) → (reader_number L s ≡ 0 → ⊥) → Refuses (teller L) s t out (reader_number L s)

abbrev pub ThenTheSecond : Type 0
ThenTheSecond = (L : Limits) (s t out : List ℕ) → reader_number L s ≡ 0 → (reader_number L t ≡ 0 → ⊥) → Refuses (teller L) s t out (reader_number L t)

-- of the reader's four numbers, 16 cannot occur
abbrev pub Never16 : Type 0
Never16 = (L : Limits) (s t : List ℕ) (room : ℕ) → ((teller L).answer s t room).number ≡ part_too_short → ⊥

-- ---- the longest text, where an action's index has at most four digits

abbrev pub longest : ℕ
longest = 658

abbrev pub NoLonger : Type 0
NoLonger = (L : Limits) (s t : List ℕ) (room : ℕ) → L.most_actions ≤ 10000 → BothRead L s t → ((teller L).answer s t room).value ≤ longest

-- the limits of the contracts meet that bound, and there are two rolls whose text is that long
abbrev pub LimitsHaveFourDigits : Type 0
LimitsHaveFourDigits = limits.most_actions ≤ 10000

pub record AsLong (L : Limits) (room : ℕ) : Type 0 where
  pub first : List ℕ
  pub second : List ℕ
  pub both : BothRead L first second
  pub long : ((teller L).answer first second room).value ≡ longest

abbrev pub LongestIsReached : Type 0
LongestIsReached = (room : ℕ) → AsLong limits room
