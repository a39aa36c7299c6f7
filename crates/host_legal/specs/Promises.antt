-- The legal list, judged, for any calls that a host makes.
-- Assumes nothing.
use Rattle.std.specs.Prelude.{ℕ, ◌≤◌, ◌≡◌, true, false, ◌↔◌, length, take}
use Rattle.answer.specs.Answer.{accepted, no_name}
use Rattle.answer.specs.Numbers.{among}
use Rattle.board_builder.specs.BoardBuilder.{numbers}
use Rattle.move_laws.specs.Attack.{in_check}
use Rattle.move_laws.specs.Legal.{legal_moves}
use Rattle.legal_lists.specs.Promises.{Right, RuledByTheLaws}
use Rattle.legal_lists.specs.Told.{Told}
use Rattle.host_lists.specs.HostCalls.{Reading, ReadCall, read_board, read_list, text_to_read, san_read}
use Rattle.host_lists.specs.HostCalls.{Naming, NameCall, name_board, name_list, name_move, san_named, room_lent, room_left}
use Rattle.host_settled.specs.SettledCalls.{PlayCall, to_play_from, to_play, play_told}
use Rattle.host_legal.specs.LegalCalls.{CheckCall, check_board, check_told, ListCall, list_board, list_told, list_written}
use Rattle.host_legal.specs.LegalCalls.{JudgeCall, judge_board, judge_byte, judge_list, judge_told, ResultCall, last_position, result_told}

-- ---- the judge

-- nothing is found wrong exactly if the list has the entries of `legal_moves`, each once, in any order, and the byte is owed
abbrev pub JudgesRight : Type 0
JudgesRight = (j : JudgeCall) → (judge_told j).number ≡ 0 → ((judge_told j).wrong ≡ 0) ↔ Right (judge_board j) (judge_byte j) (judge_list j)

-- and otherwise the first thing that is wrong is told
abbrev pub TellsWhatIsWrong : Type 0
TellsWhatIsWrong = (j : JudgeCall) → (judge_told j).number ≡ 0 → Told (judge_board j) (judge_byte j) (judge_list j) (judge_told j)

-- ---- the list

-- what an accepted call writes is the list of the legal moves, and what it answers is their number
abbrev pub WritesTheList : Type 0
WritesTheList =
    (c : ListCall) → (list_told c).number ≡ 0 → (list_written c ≡ legal_moves (list_board c)) × ((list_told c).value ≡ length (legal_moves (list_board c)))

-- the archive's own list and byte are found right
pub record OwnListLent (c : ListCall) (k : CheckCall) (j : JudgeCall) : Type 0 where
  pub written : (list_told c).number ≡ 0
  pub record_checked : check_board k ≡ list_board c
  pub record_judged : judge_board j ≡ list_board c
  pub byte : judge_byte j ≡ (check_told k).value
  pub list : judge_list j ≡ list_written c

abbrev pub OwnListPasses : Type 0
OwnListPasses = (c : ListCall) (k : CheckCall) (j : JudgeCall) → OwnListLent c k j → ((judge_told j).number ≡ 0) × ((judge_told j).wrong ≡ 0)

-- a move of the list leaves no king of its side attacked, on the board that `menkhodur_board_after` answers
abbrev pub KingsLeftSafe : Type 0
KingsLeftSafe =
    (c : ListCall) (p : PlayCall) → (list_told c).number ≡ 0 → to_play_from p ≡ list_board c → among (to_play p) (list_written c) ≡ true
    → ((play_told p).number ≡ 0) × (in_check (play_told p).board.pieces (list_board c).side_to_move ≡ false)

-- ---- names

-- a list that was judged, and found right
pub record FoundRight (j : JudgeCall) : Type 0 where
  pub judged : (judge_told j).number ≡ 0
  pub nothing_wrong : (judge_told j).wrong ≡ 0

pub record NamedOn {Learnt : Naming} (j : JudgeCall) (c : NameCall Learnt) : Type 0 where
  pub board : name_board c ≡ judge_board j
  pub list : name_list c ≡ judge_list j

-- on it, a namer never answers 8
abbrev pub NeverUnnamed : Naming → Type 0
NeverUnnamed Learnt = (j : JudgeCall) (c : NameCall Learnt) → FoundRight j → NamedOn j c → (san_named c).number ≡ no_name → ⊥

-- so every legal move has a name, in room for the longest, and the reader answers the name with that very move
pub record ReadsTheName {Reads : Reading} {Names : Naming} (c : NameCall Names) (r : ReadCall Reads) : Type 0 where
  pub board : read_board r ≡ name_board c
  pub list : read_list r ≡ name_list c
  pub text : text_to_read r ≡ take (san_named c).value (room_left c)

abbrev pub NamesReadBackAlways : ℕ → Reading → Naming → Type 0
NamesReadBackAlways longest Reads Names =
    (j : JudgeCall) (c : NameCall Names) (r : ReadCall Reads) → FoundRight j → NamedOn j c → among (name_move c) (legal_moves (judge_board j)) ≡ true
    → longest ≤ length (room_lent c) → ReadsTheName c r → ((san_named c).number ≡ 0) × (san_read r ≡ accepted (name_move c))

-- ---- mates

-- a log whose last position was judged and found right
pub record LastJudged (j : JudgeCall) (r : ResultCall) : Type 0 where
  pub record_judged : numbers (judge_board j) ≡ (last_position r).board
  pub byte : judge_byte j ≡ (last_position r).check
  pub list : judge_list j ≡ (last_position r).moves

-- its mate or stalemate, as the log rules, is that of the Laws
abbrev pub RulesMates : Type 0
RulesMates =
    (j : JudgeCall) (r : ResultCall) → FoundRight j → LastJudged j r → (result_told r).number ≡ 0 → RuledByTheLaws (judge_board j) (result_told r).value
