-- The host's calls that give a position its one name: `menkhodur_board_settled` and `menkhodur_fen_settled`, and beside them `menkhodur_board_after`,
-- `menkhodur_fen_read` and `menkhodur_fen_write`. A call is its arguments, its result and what is lent as it is at exit, with what the function's contract
-- says about them, as the toolchain reads it off the source (`Reads.Learnt`).
-- Assumes nothing.
use Rattle.std.specs.Prelude.{ℕ, List, take}
use Rattle.answer.specs.declared.Answer.{Answer}
use Rattle.answer.specs.declared.Placed.{Placed}
use Rattle.board_builder.specs.declared.BoardBuilder.{BoardBuilder}
use Rattle.board_builder.specs.declared.Stepped.{Stepped}
use Rattle.fen_text.specs.declared.Fen.{Fen}
use Rattle.host_lists.specs.HostCalls.{HostCall}
use Rattle.menkhodur.proofs.menkhodur_board_settled.Kinds as settle·k
use Rattle.menkhodur.proofs.menkhodur_board_settled.Reads as settle
use Rattle.menkhodur.proofs.menkhodur_fen_settled.Kinds as key·k
use Rattle.menkhodur.proofs.menkhodur_fen_settled.Reads as key
use Rattle.menkhodur.proofs.menkhodur_board_after.Kinds as play·k
use Rattle.menkhodur.proofs.menkhodur_board_after.Reads as play
use Rattle.menkhodur.proofs.menkhodur_fen_read.Kinds as read·k
use Rattle.menkhodur.proofs.menkhodur_fen_read.Reads as read
use Rattle.menkhodur.proofs.menkhodur_fen_write.Kinds as write·k
use Rattle.menkhodur.proofs.menkhodur_fen_write.Reads as write

-- ---- `menkhodur_board_settled(board) -> Stepped`

abbrev pub SettleCall : Type 0
SettleCall = HostCall settle·k.ps settle·k.r settle.Learnt

abbrev pub to_settle : SettleCall → BoardBuilder
to_settle c = c.given.0

abbrev pub settle_told : SettleCall → Stepped
settle_told c = c.result

-- ---- `menkhodur_board_after(board, move) -> Stepped`

abbrev pub PlayCall : Type 0
PlayCall = HostCall play·k.ps play·k.r play.Learnt

abbrev pub to_play_from : PlayCall → BoardBuilder
to_play_from c = c.given.0

abbrev pub to_play : PlayCall → ℕ
to_play c = c.given.1.0

abbrev pub play_told : PlayCall → Stepped
play_told c = c.result

-- ---- `menkhodur_fen_read(text) -> Fen`

abbrev pub TextCall : Type 0
TextCall = HostCall read·k.ps read·k.r read.Learnt

abbrev pub to_read : TextCall → List ℕ
to_read c = c.given.0.now

abbrev pub read_told : TextCall → Fen
read_told c = c.result

-- ---- `menkhodur_fen_write(board, out) -> Answer`

abbrev pub WriteCall : Type 0
WriteCall = HostCall write·k.ps write·k.r write.Learnt

abbrev pub to_write : WriteCall → BoardBuilder
to_write c = c.given.0

abbrev pub write_told : WriteCall → Answer
write_told c = c.result

-- the room as it was lent, and as it is at exit; and its first bytes then, as many as the call answers
abbrev pub write_lent : WriteCall → List ℕ
write_lent c = c.given.1.0.now

abbrev pub write_left : WriteCall → List ℕ
write_left c = c.left.1.0.now

abbrev pub write_key : WriteCall → List ℕ
write_key c = take (write_told c).value (write_left c)

-- ---- `menkhodur_fen_settled(text, out) -> Placed`

abbrev pub KeyCall : Type 0
KeyCall = HostCall key·k.ps key·k.r key.Learnt

abbrev pub to_name : KeyCall → List ℕ
to_name c = c.given.0.now

abbrev pub name_told : KeyCall → Placed
name_told c = c.result

abbrev pub name_lent : KeyCall → List ℕ
name_lent c = c.given.1.0.now

abbrev pub name_left : KeyCall → List ℕ
name_left c = c.left.1.0.now

abbrev pub name_key : KeyCall → List ℕ
name_key c = take (name_told c).value (name_left c)
