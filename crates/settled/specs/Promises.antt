-- What is promised about the keys of settled records, each as a statement that can be read by itself.
-- Assumes nothing.
use Rattle.std.specs.Prelude.{◌≡◌, true, false, List, ℕ, ◌≤◌, length, take}
use Rattle.answer.specs.Answer.{fault_at}
use Rattle.board_builder.specs.declared.BoardBuilder.{BoardBuilder}
use Rattle.board_builder.specs.BoardBuilder.{with_counters, numbers, in_range}
use Rattle.fen_text.specs.Read.{read_fen}
use Rattle.fen_text.specs.Write.{fen_text, full_text}
use Rattle.fen_text.specs.Promises.{fen_writer, SameNumbers}
use Rattle.settled_rules.specs.Settled.{usable, with_file, settled, settled_answer}
use Rattle.settled.specs.Key.{unplaced, settled_key, settled_room}

-- one settled record, one key: two records in range have one settled key exactly if the 68 numbers of their settled records are equal
abbrev pub SettledKeysTell : Type 0
SettledKeysTell = (a b : BoardBuilder) → in_range a ≡ true → in_range b ≡ true → SameNumbers (settled a) (settled b)

-- for two records that are settled: one key exactly if their 68 numbers are equal
abbrev pub SettledRecordsTell : Type 0
SettledRecordsTell =
    (a b : BoardBuilder) → in_range a ≡ true → in_range b ≡ true → settled a ≡ a → settled b ≡ b → SameNumbers a b

-- of the whole record: one full text exactly if the settled records are one, their counters too
pub record OneFullName (a b : BoardBuilder) : Type 0 where
  pub one_record : full_text (settled a) ≡ full_text (settled b) → settled a ≡ settled b
  pub one_text : settled a ≡ settled b → full_text (settled a) ≡ full_text (settled b)

abbrev pub SettledFullTextsTell : Type 0
SettledFullTextsTell = (a b : BoardBuilder) → in_range a ≡ true → in_range b ≡ true → OneFullName a b

-- two records that differ at most in a file that cannot be used, and in their counters, have one settled key
abbrev pub UnusableFilesHaveOneKey : Type 0
UnusableFilesHaveOneKey =
    (b : BoardBuilder) (f g half full : ℕ)
    → usable b.pieces b.side_to_move f ≡ false → usable b.pieces b.side_to_move g ≡ false
    → fen_text (settled (with_counters (with_file b f) half full)) ≡ fen_text (settled (with_file b g))

-- ---- the calls

-- the key that two calls write for a record, that which settles it and the writer, given what the first hands out: as many bytes as the writer answers
abbrev pub record_named : BoardBuilder → List ℕ → List ℕ
record_named b out = take (fen_writer.answer (settled_answer b).board (length out)).value (fen_writer.room (settled_answer b).board out)

-- two records for which the writer then answers 0 have one key in their rooms exactly if the 68 numbers of their settled records are equal
pub record OneName (a b : BoardBuilder) (out other : List ℕ) : Type 0 where
  pub same_numbers : record_named a out ≡ record_named b other → numbers (settled a) ≡ numbers (settled b)
  pub same_key : numbers (settled a) ≡ numbers (settled b) → record_named a out ≡ record_named b other

abbrev pub CallsNameRecords : Type 0
CallsNameRecords =
    (a b : BoardBuilder) (out other : List ℕ)
    → (fen_writer.answer (settled_answer a).board (length out)).number ≡ 0 → (fen_writer.answer (settled_answer b).board (length other)).number ≡ 0
    → OneName a b out other

-- for a text one call is these two behind the reader: a refusal of the reader's is handed on, and otherwise it answers and writes what the writer does
pub record AsThreeCalls (text out : List ℕ) : Type 0 where
  pub refused : ((read_fen text).number ≡ 0 → ⊥) → settled_key text (length out) ≡ fault_at (read_fen text).number (read_fen text).offset
  pub answered : (read_fen text).number ≡ 0
      → settled_key text (length out) ≡ unplaced (fen_writer.answer (settled_answer (read_fen text).board).board (length out))
  pub written : (read_fen text).number ≡ 0 → settled_room text out ≡ fen_writer.room (settled_answer (read_fen text).board).board out

abbrev pub OneCallIsThree : Type 0
OneCallIsThree = (text out : List ℕ) → AsThreeCalls text out

-- a refused call writes nothing
abbrev pub RefusedSettlingWritesNothing : Type 0
RefusedSettlingWritesNothing = (text out : List ℕ) → ((settled_key text (length out)).number ≡ 0 → ⊥) → settled_room text out ≡ out

-- the key that it writes, as many bytes as it answers
abbrev pub key_written : List ℕ → List ℕ → List ℕ
key_written text out = take (settled_key text (length out)).value (settled_room text out)

-- two texts for which it answers 0 have one settled key in their rooms exactly if their records settle to one; a text's counters are not in its record
pub record OneTextName (s t out other : List ℕ) : Type 0 where
  pub one_record : key_written s out ≡ key_written t other → settled (read_fen s).board ≡ settled (read_fen t).board
  pub one_key : settled (read_fen s).board ≡ settled (read_fen t).board → key_written s out ≡ key_written t other

abbrev pub CallsTellSettledRecords : Type 0
CallsTellSettledRecords =
    (s t out other : List ℕ) → (settled_key s (length out)).number ≡ 0 → (settled_key t (length other)).number ≡ 0 → OneTextName s t out other

-- a settled key is read as a settled record, and is its own settled key
pub record NamesItself (text out : List ℕ) : Type 0 where
  pub read : (read_fen (key_written text out)).number ≡ 0
  pub settled_record : settled (read_fen (key_written text out)).board ≡ (read_fen (key_written text out)).board
  pub again : (other : List ℕ) → length (key_written text out) ≤ length other
      → ((settled_key (key_written text out) (length other)).number ≡ 0) × (key_written (key_written text out) other ≡ key_written text out)

abbrev pub KeyNamesItself : Type 0
KeyNamesItself = (text out : List ℕ) → (settled_key text (length out)).number ≡ 0 → NamesItself text out
