-- One position, one name, for any calls that a host makes.
-- Assumes nothing.
use Rattle.std.specs.Prelude.{ℕ, ◌≡◌, false}
use Rattle.board_builder.specs.declared.BoardBuilder.{BoardBuilder}
use Rattle.board_builder.specs.BoardBuilder.{numbers}
use Rattle.settled_rules.specs.Settled.{usable, with_file}
use Rattle.settled_rules.specs.Promises.{StepsFromHome}
use Rattle.settled.specs.Key.{unplaced}
use Rattle.host_settled.specs.SettledCalls.{SettleCall, to_settle, settle_told, PlayCall, to_play_from, to_play, play_told, TextCall, to_read, read_told}
use Rattle.host_settled.specs.SettledCalls.{WriteCall, to_write, write_told, write_lent, write_left, write_key}
use Rattle.host_settled.specs.SettledCalls.{KeyCall, to_name, name_told, name_lent, name_left, name_key}

-- settling twice is settling once
abbrev pub SettlesOnce : Type 0
SettlesOnce = (c d : SettleCall) → to_settle d ≡ (settle_told c).board → settle_told d ≡ settle_told c

-- what a move has left needs nothing, if a double step, where the move is one, is made by the side's own pawn from its second rank
abbrev pub PlayedNeedsNothing : Type 0
PlayedNeedsNothing =
    (p : PlayCall) (c : SettleCall) → (play_told p).number ≡ 0 → StepsFromHome (to_play_from p) (to_play p) → to_settle c ≡ (play_told p).board
    → settle_told c ≡ play_told p

-- two records that differ at most in a file that cannot be used settle to one
pub record AlikeButForTheFile (c d : SettleCall) : Type 0 where
  pub board : BoardBuilder
  pub file : ℕ
  pub other : ℕ
  pub first : to_settle c ≡ with_file board file
  pub second : to_settle d ≡ with_file board other
  pub unusable : usable board.pieces board.side_to_move file ≡ false
  pub other_unusable : usable board.pieces board.side_to_move other ≡ false

abbrev pub AlikeSettleToOne : Type 0
AlikeSettleToOne =
    (c d : SettleCall) → (settle_told c).number ≡ 0 → (settle_told d).number ≡ 0 → AlikeButForTheFile c d → settle_told c ≡ settle_told d

-- a record that a call has settled and another has written: the bytes written are one key exactly if the 68 numbers of the settled records are equal
pub record SettledAndWritten (c : SettleCall) (w : WriteCall) : Type 0 where
  pub handed_on : to_write w ≡ (settle_told c).board
  pub accepted : (write_told w).number ≡ 0

pub record OneWrittenKey (c d : SettleCall) (v w : WriteCall) : Type 0 where
  pub same_numbers : write_key v ≡ write_key w → numbers (settle_told c).board ≡ numbers (settle_told d).board
  pub same_key : numbers (settle_told c).board ≡ numbers (settle_told d).board → write_key v ≡ write_key w

abbrev pub WrittenKeysTell : Type 0
WrittenKeysTell = (c d : SettleCall) (v w : WriteCall) → SettledAndWritten c v → SettledAndWritten d w → OneWrittenKey c d v w

-- so records that differ at most in a file that cannot be used have one key
abbrev pub AlikeHaveOneKey : Type 0
AlikeHaveOneKey =
    (c d : SettleCall) (v w : WriteCall) → SettledAndWritten c v → SettledAndWritten d w → AlikeButForTheFile c d → write_key v ≡ write_key w

-- a text that is read, its record settled and written, beside the one call for that text with a room of the same content
pub record AlsoInThree (k : KeyCall) (r : TextCall) (c : SettleCall) (w : WriteCall) : Type 0 where
  pub text : to_read r ≡ to_name k
  pub read : (read_told r).number ≡ 0
  pub board : to_settle c ≡ (read_told r).board
  pub settled : to_write w ≡ (settle_told c).board
  pub room : write_lent w ≡ name_lent k

-- the one call answers and leaves what the last of the three does
pub record AsTheThree (k : KeyCall) (w : WriteCall) : Type 0 where
  pub answer : name_told k ≡ unplaced (write_told w)
  pub bytes : name_left k ≡ write_left w

abbrev pub OneCallForThree : Type 0
OneCallForThree = (k : KeyCall) (r : TextCall) (c : SettleCall) (w : WriteCall) → AlsoInThree k r c w → AsTheThree k w

-- two texts that the call accepts have one key exactly if the records that the reader and then the call that settles hand out are equal
pub record ReadAndSettled (k : KeyCall) (r : TextCall) (c : SettleCall) : Type 0 where
  pub accepted : (name_told k).number ≡ 0
  pub text : to_read r ≡ to_name k
  pub board : to_settle c ≡ (read_told r).board

pub record OneTextKey (c d : SettleCall) (j k : KeyCall) : Type 0 where
  pub one_record : name_key j ≡ name_key k → settle_told c ≡ settle_told d
  pub one_key : settle_told c ≡ settle_told d → name_key j ≡ name_key k

abbrev pub TextKeysTell : Type 0
TextKeysTell =
    (j k : KeyCall) (q r : TextCall) (c d : SettleCall) → ReadAndSettled j q c → ReadAndSettled k r d → OneTextKey c d j k

-- a refused call writes nothing
abbrev pub RefusedLeavesTheRoom : Type 0
RefusedLeavesTheRoom = (k : KeyCall) → ((name_told k).number ≡ 0 → ⊥) → name_left k ≡ name_lent k
