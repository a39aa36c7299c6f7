-- The host's calls about legal moves: `menkhodur_in_check`, `menkhodur_legal_list` and `menkhodur_list_judged`, and beside them `menkhodur_game_result`. A call
-- is its arguments, its result and what is lent as it is at exit, with what the function's contract says about them, as the toolchain reads it off the source
-- (`Reads.Learnt`).
-- Assumes nothing.
use Rattle.std.specs.Prelude.{ℕ, List, take}
use Rattle.answer.specs.declared.Answer.{Answer}
use Rattle.board_builder.specs.declared.BoardBuilder.{BoardBuilder}
use Rattle.position.specs.Layout.{Position, position_at}
use Rattle.move_laws.specs.declared.Judged.{Judged}
use Rattle.host_lists.specs.HostCalls.{HostCall}
use Rattle.menkhodur.proofs.menkhodur_in_check.Kinds as check·k
use Rattle.menkhodur.proofs.menkhodur_in_check.Reads as check
use Rattle.menkhodur.proofs.menkhodur_legal_list.Kinds as list·k
use Rattle.menkhodur.proofs.menkhodur_legal_list.Reads as list
use Rattle.menkhodur.proofs.menkhodur_list_judged.Kinds as judge·k
use Rattle.menkhodur.proofs.menkhodur_list_judged.Reads as judge
use Rattle.menkhodur.proofs.menkhodur_game_result.Kinds as result·k
use Rattle.menkhodur.proofs.menkhodur_game_result.Reads as result

-- ---- `menkhodur_in_check(board) -> Answer`

abbrev pub CheckCall : Type 0
CheckCall = HostCall check·k.ps check·k.r check.Learnt

abbrev pub check_board : CheckCall → BoardBuilder
check_board c = c.given.0

abbrev pub check_told : CheckCall → Answer
check_told c = c.result

-- ---- `menkhodur_legal_list(board, out) -> Answer`

abbrev pub ListCall : Type 0
ListCall = HostCall list·k.ps list·k.r list.Learnt

abbrev pub list_board : ListCall → BoardBuilder
list_board c = c.given.0

abbrev pub list_told : ListCall → Answer
list_told c = c.result

-- the room at exit, and its first entries then, as many as the call answers
abbrev pub list_left : ListCall → List ℕ
list_left c = c.left.1.0.now

abbrev pub list_written : ListCall → List ℕ
list_written c = take (list_told c).value (list_left c)

-- ---- `menkhodur_list_judged(board, in_check, list) -> Judged`

abbrev pub JudgeCall : Type 0
JudgeCall = HostCall judge·k.ps judge·k.r judge.Learnt

abbrev pub judge_board : JudgeCall → BoardBuilder
judge_board c = c.given.0

abbrev pub judge_byte : JudgeCall → ℕ
judge_byte c = c.given.1.0

abbrev pub judge_list : JudgeCall → List ℕ
judge_list c = c.given.1.1.0.now

abbrev pub judge_told : JudgeCall → Judged
judge_told c = c.result

-- ---- `menkhodur_game_result(acts, ps, n, m) -> Answer`

abbrev pub ResultCall : Type 0
ResultCall = HostCall result·k.ps result·k.r result.Learnt

-- the last position of the log
abbrev pub last_position : ResultCall → Position
last_position c = position_at c.given.1.0.now c.given.1.1.1.0

abbrev pub result_told : ResultCall → Answer
result_told c = c.result
