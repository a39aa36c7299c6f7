-- The host's calls that play a game's move text: `menkhodur_game_step`, `menkhodur_play` and `menkhodur_pgn_next`. A call is its arguments, its result and
-- what is lent as it is at exit, with what the function's contract says about them, as the toolchain reads it off the source (`Reads.Learnt`).
-- Assumes nothing.
use Rattle.std.specs.Prelude.{ℕ, List, take}
use Rattle.board_builder.specs.declared.BoardBuilder.{BoardBuilder}
use Rattle.pgn_text.specs.declared.PgnNext.{PgnNext}
use Rattle.game_text.specs.declared.GameStep.{GameStep}
use Rattle.host_lists.specs.HostCalls.{HostCall}
use Rattle.menkhodur.proofs.menkhodur_game_step.Kinds as step·k
use Rattle.menkhodur.proofs.menkhodur_game_step.Reads as step
use Rattle.menkhodur.proofs.menkhodur_play.Kinds as play·k
use Rattle.menkhodur.proofs.menkhodur_play.Reads as play
use Rattle.menkhodur.proofs.menkhodur_pgn_next.Kinds as next·k
use Rattle.menkhodur.proofs.menkhodur_pgn_next.Reads as next

-- ---- `menkhodur_game_step(text, offset, board, list, out) -> GameStep`

abbrev pub StepCall : Type 0
StepCall = HostCall step·k.ps step·k.r step.Learnt

abbrev pub step_text : StepCall → List ℕ
step_text c = c.given.0.now

abbrev pub step_offset : StepCall → ℕ
step_offset c = c.given.1.0

abbrev pub step_board : StepCall → BoardBuilder
step_board c = c.given.1.1.0

abbrev pub step_list : StepCall → List ℕ
step_list c = c.given.1.1.1.0.now

abbrev pub step_told : StepCall → GameStep
step_told c = c.result

-- the room as it was lent, and as it is at exit; and its first bytes then, as many as the call answers
abbrev pub step_lent : StepCall → List ℕ
step_lent c = c.given.1.1.1.1.0.now

abbrev pub step_left : StepCall → List ℕ
step_left c = c.left.1.1.1.1.0.now

abbrev pub step_key : StepCall → List ℕ
step_key c = take (step_told c).key (step_left c)

-- ---- `menkhodur_play(text, board, list, out) -> GameStep`

abbrev pub MoveCall : Type 0
MoveCall = HostCall play·k.ps play·k.r play.Learnt

abbrev pub played_text : MoveCall → List ℕ
played_text c = c.given.0.now

abbrev pub played_board : MoveCall → BoardBuilder
played_board c = c.given.1.0

abbrev pub played_list : MoveCall → List ℕ
played_list c = c.given.1.1.0.now

abbrev pub played_told : MoveCall → GameStep
played_told c = c.result

abbrev pub played_lent : MoveCall → List ℕ
played_lent c = c.given.1.1.1.0.now

abbrev pub played_left : MoveCall → List ℕ
played_left c = c.left.1.1.1.0.now

-- ---- `menkhodur_pgn_next(text, offset, level) -> PgnNext`

abbrev pub NextCall : Type 0
NextCall = HostCall next·k.ps next·k.r next.Learnt

abbrev pub next_text : NextCall → List ℕ
next_text c = c.given.0.now

abbrev pub next_offset : NextCall → ℕ
next_offset c = c.given.1.0

abbrev pub next_level : NextCall → ℕ
next_level c = c.given.1.1.0

abbrev pub next_told : NextCall → PgnNext
next_told c = c.result
