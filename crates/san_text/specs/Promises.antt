-- What is promised about SAN texts and names, each as a statement that can be read by itself. The proofs are in proofs/.
-- Assumes nothing.
use Rattle.std.specs.Prelude.{ℕ, ◌≤◌, ◌<◌, ◌≡◌, true, List, ◌⊎◌, length, take}
use Rattle.answer.specs.declared.Answer.{Answer}
use Rattle.answer.specs.Answer.{accepted, no_name, output_too_short, refused}
use Rattle.answer.specs.Promises.{ItsText, Invented}
use Rattle.answer.specs.Numbers.{among}
use Rattle.board_builder.specs.declared.BoardBuilder.{BoardBuilder}
use Rattle.board_builder.specs.BoardBuilder.{in_range}
use Rattle.chess_move.specs.Number.{source_of, dest_of}
use Rattle.move_list.specs.MoveList.{list_in_range}
use Rattle.san_text.specs.Resolve.{kind_on, empty_on}
use Rattle.san_text.specs.Name.{name_text}
use Rattle.san_text.specs.Paper.{paper, from_san, name_answer, name_bytes}
use Rattle.san_text.specs.Standard.{from_san_standard, standard_name_answer, standard_name_bytes}

-- any reader: a record, a list, a text
abbrev pub Reader : Type 0
Reader = BoardBuilder → List ℕ → List ℕ → Answer

-- any namer: what it answers to a record, a list, a move and the length of a room, and what it leaves in the room
pub record Namer : Type 0 where
  pub answer : BoardBuilder → List ℕ → ℕ → ℕ → Answer
  pub room : BoardBuilder → List ℕ → ℕ → List ℕ → List ℕ

-- ours
abbrev pub namer : Namer
namer = record { answer = name_answer; room = name_bytes }

-- demand 2 of a reader: it answers as the definition does
abbrev pub ReadsSan : Reader → Type 0
ReadsSan read = (b : BoardBuilder) (moves text : List ℕ) → read b moves text ≡ from_san b moves text

-- the checks 5, 6 and 11 are passed
pub record Ready (b : BoardBuilder) (moves : List ℕ) (m : ℕ) : Type 0 where
  pub record_in_range : in_range b ≡ true
  pub list_in_range_fact : list_in_range moves ≡ true
  pub move_listed : among m moves ≡ true

-- a name: its length is the answer's value, 2 to N, and that many bytes at the front of the room are a text that the reader answers with 0 and
-- exactly that move
pub record NamedWithin (longest : ℕ) (w : Namer) (read : Reader) (b : BoardBuilder) (moves : List ℕ) (m : ℕ) (out : List ℕ) : Type 0 where
  pub number : (w.answer b moves m (length out)).number ≡ 0
  pub least : 2 ≤ (w.answer b moves m (length out)).value
  pub most : (w.answer b moves m (length out)).value ≤ longest
  pub back : read b moves (take (w.answer b moves m (length out)).value (w.room b moves m out)) ≡ accepted m

-- in document 01's form: 2 to 11
abbrev pub NamedSo : Namer → Reader → BoardBuilder → List ℕ → ℕ → List ℕ → Type 0
NamedSo = NamedWithin 11

-- no name: 8, and no text of any length is read as the move
pub record Unnamed (w : Namer) (read : Reader) (b : BoardBuilder) (moves : List ℕ) (m : ℕ) (out : List ℕ) : Type 0 where
  pub number : (w.answer b moves m (length out)).number ≡ no_name
  pub none_reads : (t : List ℕ) → read b moves t ≡ accepted m → ⊥

-- demand 3, for any namer and reader: with the checks passed, the move listed and room for the longest name or more, a listed move is named so, or it
-- is unnamed and no text of any length is read as it
abbrev pub Demand3Within : ℕ → Namer → Reader → Type 0
Demand3Within longest w read =
    (b : BoardBuilder) (moves : List ℕ) (m : ℕ) (out : List ℕ) → Ready b moves m → longest ≤ length out
    → NamedWithin longest w read b moves m out ⊎ Unnamed w read b moves m out

-- with document 01's eleven bytes
abbrev pub Demand3 : Namer → Reader → Type 0
Demand3 = Demand3Within 11

-- kept by ours
abbrev pub NamesReadBack : Type 0
NamesReadBack = Demand3 namer from_san

-- and by the standard's namer and reader, with names of 2 to 8 bytes; no fewer will do
abbrev pub standard_namer : Namer
standard_namer = record { answer = standard_name_answer; room = standard_name_bytes }

abbrev pub StandardNamesReadBack : Type 0
StandardNamesReadBack = Demand3Within 8 standard_namer from_san_standard

pub record StandardNameOfEight : Type 0 where
  pub board : BoardBuilder
  pub moves : List ℕ
  pub move : ℕ
  pub answer : standard_name_answer board moves move 8 ≡ accepted 8

-- and not by a namer that always refuses, nor by one that writes nothing, with our reader ..
abbrev pub RefusingNamerFails : Type 0
RefusingNamerFails =
    (w : Namer) → ((b : BoardBuilder) (moves : List ℕ) (m room : ℕ) → (w.answer b moves m room).number ≡ 0 → ⊥) → Demand3 w from_san → ⊥

abbrev pub SilentNamerFails : Type 0
SilentNamerFails = (w : Namer) → ((b : BoardBuilder) (moves : List ℕ) (m : ℕ) (out : List ℕ) → w.room b moves m out ≡ out) → Demand3 w from_san → ⊥

-- .. nor by a reader that always refuses, with our namer; demand 2 stops that reader by itself
abbrev pub AlwaysRefuses : Reader → Type 0
AlwaysRefuses read = (b : BoardBuilder) (moves text : List ℕ) → (read b moves text).number ≡ 0 → ⊥

pub record Fails (read : Reader) : Type 0 where
  pub to_read : ReadsSan read → ⊥
  pub to_read_names : Demand3 namer read → ⊥

abbrev pub RefusingReaderFails : Type 0
RefusingReaderFails = (read : Reader) → AlwaysRefuses read → Fails read

-- which demand 3 alone does not: a namer that has no name for any move and a reader that always refuses keep it together
abbrev pub RefusingPairKeepsDemand3 : Type 0
RefusingPairKeepsDemand3 =
    (w : Namer) (read : Reader) → ((b : BoardBuilder) (moves : List ℕ) (m room : ℕ) → (w.answer b moves m room).number ≡ no_name)
    → AlwaysRefuses read → Demand3 w read

-- for each record, list and move and the name, the promise that crate answer makes for any writer: the lengths told, with 0 and with 7, are the name's
abbrev pub TellsLengthsOf : (BoardBuilder → List ℕ → ℕ → List ℕ) → Namer → Type 0
TellsLengthsOf name w = (b : BoardBuilder) (moves : List ℕ) (m : ℕ) → ItsText (name b moves m) (w.answer b moves m) (w.room b moves m)

-- it is kept by ours, and for no names whatever by a namer that invents a length for any record, list and move. (Demand 3 alone would let one more byte
-- pass behind a promotion letter, where the reader drops it.)
abbrev pub NamesTellTheirLength : Type 0
NamesTellTheirLength = TellsLengthsOf (name_text paper) namer

abbrev pub InventedLengthFails : Type 0
InventedLengthFails =
    (w : Namer) (b : BoardBuilder) (moves : List ℕ) (m : ℕ)
    → Invented (name_answer b moves m) (name_bytes b moves m) (w.answer b moves m) (w.room b moves m)
    → (name : BoardBuilder → List ℕ → ℕ → List ℕ) → TellsLengthsOf name w → ⊥

-- answer 7 has the length of the text: a room of just that length is accepted with it, and the room was shorter
pub record SevenTellsTheLength (b : BoardBuilder) (moves : List ℕ) (m room : ℕ) : Type 0 where
  pub long_enough_lem : name_answer b moves m (name_answer b moves m room).value ≡ accepted (name_answer b moves m room).value
  pub shorter : room < (name_answer b moves m room).value

abbrev pub SevenIsTrue : Type 0
SevenIsTrue = (b : BoardBuilder) (moves : List ℕ) (m room : ℕ) → (name_answer b moves m room).number ≡ output_too_short → SevenTellsTheLength b moves m room

abbrev pub StandardSevenIsTrue : Type 0
StandardSevenIsTrue =
    (b : BoardBuilder) (moves : List ℕ) (m room : ℕ) → (standard_name_answer b moves m room).number ≡ output_too_short
    → (standard_name_answer b moves m (standard_name_answer b moves m room).value ≡ accepted (standard_name_answer b moves m room).value)
    × (room < (standard_name_answer b moves m room).value)

-- two records that agree on the side, on piece kinds at listed sources and on emptiness of listed destinations
pub record BoardsAlike (b c : BoardBuilder) (moves : List ℕ) : Type 0 where
  pub side : b.side_to_move ≡ c.side_to_move
  pub kinds : (m : ℕ) → among m moves ≡ true → kind_on b.pieces (source_of m) ≡ kind_on c.pieces (source_of m)
  pub empty : (m : ℕ) → among m moves ≡ true → empty_on b.pieces (dest_of m) ≡ empty_on c.pieces (dest_of m)

-- with one text and one list, two such records in range get the same SAN answer, however rights and en passant differ
abbrev pub SameSanAnswer : Type 0
SameSanAnswer =
    (b c : BoardBuilder) (moves text : List ℕ) → in_range b ≡ true → in_range c ≡ true → BoardsAlike b c moves → from_san b moves text ≡ from_san c moves text

-- between the forms: a move that document 01's namer leaves unnamed, the standard's does too; the other way round does not hold
abbrev pub UnnamedInBoth : Type 0
UnnamedInBoth =
    (b : BoardBuilder) (moves : List ℕ) (m room : ℕ) → (name_answer b moves m room).number ≡ no_name
    → (standard_name_answer b moves m room).number ≡ no_name

pub record NamedInOne : Type 0 where
  pub board : BoardBuilder
  pub moves : List ℕ
  pub move : ℕ
  pub named : name_answer board moves move 3 ≡ accepted 3
  pub unnamed : standard_name_answer board moves move 3 ≡ refused no_name
