-- The step, by what the four calls answer in turn.
-- Assumes nothing.
use Prim.Native.Nat.{ℕ}
use mathlib.Core.Path.{◌≡◌, refl, ap, sym, ◌∙◌}
use mathlib.Core.List.{List}
use lib.ListN.{length}
use borrow.Author.Tests.{eq-eqb, ne_eqb}
use Rattle.answer.specs.declared.Answer.{Answer}
use Rattle.answer.specs.Answer.{write_answer, write_bytes}
use Rattle.board_builder.specs.declared.BoardBuilder.{BoardBuilder}
use Rattle.board_builder.specs.declared.Stepped.{Stepped}
use Rattle.fen_text.specs.Write.{fen_text, fen_check}
use Rattle.pgn_text.specs.declared.PgnMove.{PgnMove}
use Rattle.pgn_text.specs.Walk.{part}
use Rattle.pgn_text.specs.Main.{next_main}
use Rattle.san_text.specs.Standard.{from_san_standard}
use Rattle.move_rules.specs.After.{board_after, after_answer}
use Rattle.game_text.specs.declared.GameStep.{GameStep}
use Rattle.game_text.specs.Step.{step_end, step_refused, step_played, step_written, step_read, bytes_read, play_answer, play_bytes, step_from, bytes_from}
use Rattle.game_text.specs.Step.{game_step, game_step_bytes}
use Rattle.game_text.proofs.Accepts.{accepted_playable, played_record}

-- the record after a move that was read
next_is : (b : BoardBuilder) (moves said : List ℕ) (a : Answer) → a ≡ from_san_standard b moves said → a.number ≡ 0
    → (after_answer b a.value).board ≡ board_after b a.value
next_is b moves said a e z =
    played_record b moves a.value (rw (← e) at (accepted_playable b moves said (sym (ap (λ (x : Answer). x.number) e) ∙ z)))

-- the move that a text says, by what the reader and the writer answer
module _ (start size : ℕ) (b : BoardBuilder) (moves out said : List ℕ) (a : Answer) (reads : a ≡ from_san_standard b moves said) where
  abbrev pub Played : GameStep → List ℕ → Type 0
  Played r exit = (r ≡ step_read start size b (length out) (from_san_standard b moves said)) × (exit ≡ bytes_read b out (from_san_standard b moves said))

  pub play_refused : (a.number ≡ 0 → ⊥) → (r : GameStep) → r ≡ step_refused a.number start size 0 b → Played r out
  unfolding step_read bytes_read
  play_refused y r e = rw (← reads, ne_eqb _ _ y) (e, refl)

  module _ (y : a.number ≡ 0) (s : Stepped) (after : s ≡ after_answer b a.value) (key : Answer) (exit : List ℕ)
      (written : key ≡ write_answer (fen_check s.board) (fen_text s.board) (length out))
      (bytes : exit ≡ write_bytes (fen_check s.board) (fen_text s.board) out) where
    board_is : s.board ≡ board_after b a.value
    board_is = ap (λ (x : Stepped). x.board) after ∙ next_is b moves said a reads y

    pub play_short : (key.number ≡ 0 → ⊥) → (r : GameStep) → r ≡ step_refused key.number start size key.value b → Played r exit
    unfolding step_read bytes_read step_written
    play_short x r e = rw (← reads, eq-eqb _ _ y, ← board_is, ← written, ne_eqb _ _ x) (e, bytes)

    pub play_done : key.number ≡ 0 → (r : GameStep) → r ≡ step_played start size a.value key.value s.board → Played r exit
    unfolding step_read bytes_read step_written
    play_done x r e = rw (← reads, eq-eqb _ _ y, ← board_is, ← written, eq-eqb _ _ x) (e, bytes)

-- the whole text as one move
pub play_whole : (text : List ℕ) (b : BoardBuilder) (moves out : List ℕ) (r : GameStep) (exit : List ℕ)
    → r ≡ step_read 0 (length text) b (length out) (from_san_standard b moves text) → exit ≡ bytes_read b out (from_san_standard b moves text)
    → (r ≡ play_answer text b moves (length out)) × (exit ≡ play_bytes text b moves out)
unfolding play_answer play_bytes
play_whole text b moves out r exit e x = (e, x)

-- the step, by what the walk answers
module _ (text : List ℕ) (offset : ℕ) (b : BoardBuilder) (moves out : List ℕ) (n : PgnMove) (is : n ≡ next_main text offset) where
  pub step_ends : n.found ≡ 0 → (r : GameStep) → r ≡ step_end n.number n.offset b
      → (r ≡ game_step text offset b moves (length out)) × (out ≡ game_step_bytes text offset b moves out)
  unfolding game_step game_step_bytes step_from bytes_from
  step_ends z r e = rw (← is, eq-eqb _ _ z) (e, refl)

  pub step_plays : (n.found ≡ 0 → ⊥) → (said : List ℕ) → said ≡ part text n.start n.length → (r : GameStep) (exit : List ℕ)
      → r ≡ step_read n.start n.length b (length out) (from_san_standard b moves said) → exit ≡ bytes_read b out (from_san_standard b moves said)
      → (r ≡ game_step text offset b moves (length out)) × (exit ≡ game_step_bytes text offset b moves out)
  unfolding game_step game_step_bytes step_from bytes_from
  step_plays z said says r exit e x = rw (← is, ne_eqb _ _ z, ← says) (e, x)
