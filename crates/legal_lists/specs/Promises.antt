-- What is promised of a list that is judged, each as a statement that can be read by itself.
-- Assumes nothing.
use Rattle.std.specs.Prelude.{ℕ, ◌≤◌, ◌≡◌, true, List, ◌↔◌, length}
use Rattle.answer.specs.Answer.{no_name}
use Rattle.answer.specs.Numbers.{among}
use Rattle.board_builder.specs.declared.BoardBuilder.{BoardBuilder}
use Rattle.board_builder.specs.BoardBuilder.{in_range, numbers}
use Rattle.move_list.specs.MoveList.{list_in_range}
use Rattle.position.specs.Layout.{Position}
use Rattle.ending.specs.Ending.{white_checkmates, black_checkmates, stalemate}
use Rattle.game_rules.specs.Rules.{History, current, result}
use Rattle.san_text.specs.Promises.{Namer, Reader, NamedWithin, namer, standard_namer}
use Rattle.san_text.specs.Paper.{from_san}
use Rattle.san_text.specs.Standard.{from_san_standard}
use Rattle.san_lists.specs.Lists.{occurrences, Reordered, Within}
use Rattle.move_laws.specs.Legal.{legal_moves, list_check, check_byte}
use Rattle.move_laws.specs.Judge.{judged_as, judged_answer}
use Rattle.legal_lists.specs.Mates.{Checkmated, Stalemated}

-- no legal move stands in the list of them twice
abbrev pub EachOnce : Type 0
EachOnce = (b : BoardBuilder) (m : ℕ) → occurrences m (legal_moves b) ≤ 1

-- a list and a byte as they are owed: the entries of `legal_moves`, each once, in any order, and 1 exactly if the side to move is in check
pub record Right (b : BoardBuilder) (byte : ℕ) (list : List ℕ) : Type 0 where
  pub list_owed : Reordered list (legal_moves b)
  pub byte_owed : byte ≡ check_byte b

-- a list that is judged is found right exactly if it is
abbrev pub JudgedRight : Type 0
JudgedRight =
    (b : BoardBuilder) (byte : ℕ) (list : List ℕ) → (judged_answer b byte list).number ≡ 0 → ((judged_answer b byte list).wrong ≡ 0) ↔ Right b byte list

-- the list of a record in range with at most 255 legal moves is itself found right, with the byte that is owed
abbrev pub OwnListIsRight : Type 0
OwnListIsRight =
    (b : BoardBuilder) → list_check b ≡ 0 → judged_answer b (check_byte b) (legal_moves b) ≡ judged_as 0 (check_byte b) (length (legal_moves b)) 0 0

-- every legal move has a name, on the list of them and on any part of it: with room for the longest, a name that is read as that very move
abbrev pub NamesLegalMoves : ℕ → Namer → Reader → Type 0
NamesLegalMoves longest w read =
    (b : BoardBuilder) (list : List ℕ) (m : ℕ) (out : List ℕ) → in_range b ≡ true → list_in_range list ≡ true → Within list (legal_moves b)
    → among m list ≡ true → longest ≤ length out → NamedWithin longest w read b list m out

abbrev pub LegalMovesNamed : Type 0
LegalMovesNamed = NamesLegalMoves 11 namer from_san

abbrev pub LegalMovesNamedStandard : Type 0
LegalMovesNamedStandard = NamesLegalMoves 8 standard_namer from_san_standard

-- and 8 is never answered, whatever the record, the list's length, the move and the room
abbrev pub NeverEight : Namer → Type 0
NeverEight w =
    (b : BoardBuilder) (list : List ℕ) (m room : ℕ) → Within list (legal_moves b) → (w.answer b list m room).number ≡ no_name → ⊥

-- a position of the log has a record, with the list and the byte that are owed for it
pub record ListedRight (b : BoardBuilder) (p : Position) : Type 0 where
  pub in_range_lem : in_range b ≡ true
  pub its_record : numbers b ≡ p.board
  pub right : Right b p.check p.moves

-- then the log's mates and stalemates are those of the Laws: side 1 is black
pub record RuledByTheLaws (b : BoardBuilder) (ruled : ℕ) : Type 0 where
  pub white_mates : (ruled ≡ white_checkmates) ↔ (Checkmated b × (b.side_to_move ≡ 1))
  pub black_mates : (ruled ≡ black_checkmates) ↔ (Checkmated b × (b.side_to_move ≡ 0))
  pub stalemates : (ruled ≡ stalemate) ↔ Stalemated b

abbrev pub MatesByTheLaws : Type 0
MatesByTheLaws = (h : History) (b : BoardBuilder) → ListedRight b (current h) → RuledByTheLaws b (result h)
