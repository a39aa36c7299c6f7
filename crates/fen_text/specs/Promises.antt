-- What is promised about FEN texts, each as a statement that can be read by itself. The proofs are in proofs/.
-- Assumes nothing.
use Rattle.std.specs.Prelude.{ℕ, ◌≤◌, ◌≡◌, true, List, length, take}
use Rattle.answer.specs.declared.Answer.{Answer}
use Rattle.answer.specs.Answer.{bad_counter, write_answer, write_bytes}
use Rattle.answer.specs.Promises.{ItsText, Invented}
use Rattle.board_builder.specs.declared.BoardBuilder.{BoardBuilder}
use Rattle.board_builder.specs.BoardBuilder.{uncounted, numbers, empty_board, initial_board, in_range}
use Rattle.fen_text.specs.declared.Fen.{Fen}
use Rattle.fen_text.specs.Read.{read_fen, fen_of, refused_at}
use Rattle.fen_text.specs.Write.{fen_text, full_text, fen_check}
use Rattle.fen_text.specs.Full.{read_full}

-- any writer of records: what it answers to a record and the length of a room, and what it leaves in the room
pub record Writer : Type 0 where
  pub answer : BoardBuilder → ℕ → Answer
  pub room : BoardBuilder → List ℕ → List ℕ

-- the writers of crate fen_writer: the crate's, and the full one
abbrev pub writer_of : (BoardBuilder → List ℕ) → Writer
writer_of text = record {
  answer = λ (b : BoardBuilder) (room : ℕ). write_answer (fen_check b) (text b) room;
  room = λ (b : BoardBuilder) (out : List ℕ). write_bytes (fen_check b) (text b) out;
}

abbrev pub fen_writer : Writer
fen_writer = writer_of fen_text

abbrev pub full_writer : Writer
full_writer = writer_of full_text

-- a pair of a writer and a reader: the longest text, and what is kept of a record
pub record TextPair : Type 0 where
  pub writes : Writer
  pub reads : List ℕ → Fen
  pub most : ℕ
  pub kept : BoardBuilder → BoardBuilder

-- "The crate's FEN reader sets 0 and 1 and its writer still ends ` 0 1`; a full reader and writer beside them use the fields"
abbrev pub crate_pair : TextPair
crate_pair = record { writes = fen_writer; reads = read_fen; most = 85; kept = uncounted }

abbrev pub full_pair : TextPair
full_pair = record { writes = full_writer; reads = read_full; most = 91; kept = λ (b : BoardBuilder). b }

-- a record written and read back: accepted, 25 bytes or more, not over the most, and these bytes are read as what is kept of the record
pub record BackAgain (p : TextPair) (b : BoardBuilder) (out : List ℕ) : Type 0 where
  pub accepts : (p.writes.answer b (length out)).number ≡ 0
  pub least : 25 ≤ (p.writes.answer b (length out)).value
  pub most : (p.writes.answer b (length out)).value ≤ p.most
  pub back : p.reads (take (p.writes.answer b (length out)).value (p.writes.room b out)) ≡ fen_of (p.kept b)

-- demand 2, for any pair: each record in range, written into a room for the longest text, reads back
abbrev pub ReadsBack : TextPair → Type 0
ReadsBack p = (b : BoardBuilder) (out : List ℕ) → in_range b ≡ true → p.most ≤ length out → BackAgain p b out

-- the text itself, whatever the room: a record's FEN is read as the record with the counters 0 and 1 ..
abbrev pub TextReadsBack : Type 0
TextReadsBack = (b : BoardBuilder) → in_range b ≡ true → read_fen (fen_text b) ≡ fen_of (uncounted b)

-- .. so "for the crate's pair over records with 0 and 1" it is read as the record, and for no other
pub record BackExactly (b : BoardBuilder) : Type 0 where
  pub beginning : b.half_moves ≡ 0 → b.full_moves ≡ 1 → read_fen (fen_text b) ≡ fen_of b
  pub no_other : read_fen (fen_text b) ≡ fen_of b → (b.half_moves ≡ 0) × (b.full_moves ≡ 1)

abbrev pub BeginningReadsBack : Type 0
BeginningReadsBack = (b : BoardBuilder) → in_range b ≡ true → BackExactly b

-- and its full text as the record, whatever its counters
abbrev pub FullTextReadsBack : Type 0
FullTextReadsBack = (b : BoardBuilder) → in_range b ≡ true → read_full (full_text b) ≡ fen_of b

-- it is kept by ours
abbrev pub FenReadsBack : Type 0
FenReadsBack = ReadsBack crate_pair

abbrev pub FullReadsBack : Type 0
FullReadsBack = ReadsBack full_pair

-- and not by a writer that takes no notice of which record in range it is given (for any other record it may still answer 5), whatever reads ..
abbrev pub OneConstantTextFails : Type 0
OneConstantTextFails =
    (p : TextPair) → (p.kept empty_board ≡ p.kept initial_board → ⊥)
    → ((a b : BoardBuilder) (room : ℕ) → in_range a ≡ true → in_range b ≡ true → p.writes.answer a room ≡ p.writes.answer b room)
    → ((a b : BoardBuilder) (out : List ℕ) → in_range a ≡ true → in_range b ≡ true → p.writes.room a out ≡ p.writes.room b out)
    → ReadsBack p
    → ⊥

-- .. nor by a reader that always refuses, whatever writes
abbrev pub AlwaysRefusingFails : Type 0
AlwaysRefusingFails = (p : TextPair) → ((s : List ℕ) → (p.reads s).number ≡ 0 → ⊥) → ReadsBack p → ⊥

-- for each record and its text, the promise that crate answer makes for any writer: the lengths told are those of the text
abbrev pub TellsLengthsOf : (BoardBuilder → List ℕ) → Writer → Type 0
TellsLengthsOf text w = (b : BoardBuilder) → ItsText (text b) (w.answer b) (w.room b)

-- it is kept by ours, and for no texts whatever by a writer that invents a length for any record
abbrev pub FenTellsItsLength : Type 0
FenTellsItsLength = TellsLengthsOf fen_text fen_writer

abbrev pub FullTellsItsLength : Type 0
FullTellsItsLength = TellsLengthsOf full_text full_writer

abbrev pub InventedLengthFails : Type 0
InventedLengthFails =
    (w : Writer) (b : BoardBuilder) → Invented (fen_writer.answer b) (fen_writer.room b) (w.answer b) (w.room b)
    → (text : BoardBuilder → List ℕ) → TellsLengthsOf text w → ⊥

-- each record in range has a text of 25 to 85 bytes
abbrev pub TwentyFiveToEightyFive : Type 0
TwentyFiveToEightyFive = (b : BoardBuilder) → in_range b ≡ true → (25 ≤ length (fen_text b)) × (length (fen_text b) ≤ 85)

-- and a full text of up to 91
abbrev pub TwentyFiveToNinetyOne : Type 0
TwentyFiveToNinetyOne = (b : BoardBuilder) → in_range b ≡ true → (25 ≤ length (full_text b)) × (length (full_text b) ≤ 91)

-- one key: two records in range have the same text exactly if their 68 numbers are equal ..
pub record SameNumbers (a b : BoardBuilder) : Type 0 where
  pub same_numbers : fen_text a ≡ fen_text b → numbers a ≡ numbers b
  pub same_text : numbers a ≡ numbers b → fen_text a ≡ fen_text b

abbrev pub OneKey : Type 0
OneKey = (a b : BoardBuilder) → in_range a ≡ true → in_range b ≡ true → SameNumbers a b

-- .. and the same full text only if they are the same record
abbrev pub OneFullText : Type 0
OneFullText = (a b : BoardBuilder) → in_range a ≡ true → in_range b ≡ true → full_text a ≡ full_text b → a ≡ b

-- the reader accepts only records in range, and a refused text comes with an all-zero record
abbrev pub ReadsInRange : Type 0
ReadsInRange = (s : List ℕ) → (read_fen s).number ≡ 0 → in_range (read_fen s).board ≡ true

abbrev pub RefusedIsZero : Type 0
RefusedIsZero = (s : List ℕ) → ((read_fen s).number ≡ 0 → ⊥) → read_fen s ≡ refused_at (read_fen s).number (read_fen s).offset

-- the full reader accepts a text only if the crate's does, with the same 68 numbers, and hands its refusals on
pub record FullAsTheCrate (s : List ℕ) : Type 0 where
  pub in_range_lem : (read_full s).number ≡ 0 → in_range (read_full s).board ≡ true
  pub accepted : (read_full s).number ≡ 0 → ((read_fen s).number ≡ 0) × (numbers (read_full s).board ≡ numbers (read_fen s).board)
  pub refused : ((read_fen s).number ≡ 0 → ⊥) → read_full s ≡ read_fen s
  pub only_25 : (read_fen s).number ≡ 0 → ((read_full s).number ≡ 0 → ⊥) → read_full s ≡ refused_at bad_counter (read_full s).offset

abbrev pub FullReaderIsTheCratesWithCounters : Type 0
FullReaderIsTheCratesWithCounters = (s : List ℕ) → FullAsTheCrate s

-- the key of a text: the text of the record that it reads to
abbrev pub key_of : List ℕ → List ℕ
key_of s = fen_text (read_fen s).board

-- two accepted texts have one key exactly if they read to one record
pub record SameKey (s t : List ℕ) : Type 0 where
  pub one_record : key_of s ≡ key_of t → (read_fen s).board ≡ (read_fen t).board
  pub one_key : (read_fen s).board ≡ (read_fen t).board → key_of s ≡ key_of t

abbrev pub KeysTellRecords : Type 0
KeysTellRecords = (s t : List ℕ) → (read_fen s).number ≡ 0 → (read_fen t).number ≡ 0 → SameKey s t

-- a key is its own key
abbrev pub KeyOfKey : Type 0
KeyOfKey = (s : List ℕ) → (read_fen s).number ≡ 0 → ((read_fen (key_of s)).number ≡ 0) × (key_of (key_of s) ≡ key_of s)
