-- What the call for a text answers and leaves, by what the reader, the call that settles and the writer do.
-- Assumes nothing.
use mathlib.Core.Path.{◌≡◌, ap, sym, ◌∙◌}
use mathlib.Core.List.{List}
use Prim.Native.Nat.{ℕ}
use lib.ListN.{length}
use Rattle.answer.specs.declared.Answer.{Answer}
use Rattle.answer.specs.declared.Placed.{Placed}
use Rattle.answer.specs.Answer.{fault_at}
use Rattle.board_builder.specs.declared.BoardBuilder.{BoardBuilder}
use Rattle.board_builder.specs.declared.Stepped.{Stepped}
use Rattle.fen_text.specs.declared.Fen.{Fen}
use Rattle.fen_text.specs.Read.{read_fen}
use Rattle.fen_text.specs.Promises.{fen_writer}
use Rattle.settled_rules.specs.Settled.{settled_answer}
use Rattle.settled.specs.Key.{unplaced, settled_key, settled_room}
use Rattle.settled.proofs.Keys.{one_call_is_three, refused_settling_writes_nothing}

module _ (text out : List ℕ) (f : Fen) (is : f ≡ read_fen text) where
  number_is : f.number ≡ (read_fen text).number
  number_is = ap (λ (g : Fen). g.number) is

  pub text_refused : (f.number ≡ 0 → ⊥) → (fault_at f.number f.offset ≡ settled_key text (length out)) × (out ≡ settled_room text out)
  text_refused n =
      let told = (one_call_is_three text out).refused (λ e. n (number_is ∙ e)) in (
        ap (λ (g : Fen). fault_at g.number g.offset) is ∙ sym told,
        sym (refused_settling_writes_nothing text out (λ e. n (number_is ∙ sym (ap (λ (p : Placed). p.number) told) ∙ e))),
      )

  module _ (e : f.number ≡ 0) (s : Stepped) (settles : s ≡ settled_answer f.board) where
    board_is : s.board ≡ (settled_answer (read_fen text).board).board
    board_is = ap (λ (t : Stepped). t.board) settles ∙ ap (λ (g : Fen). (settled_answer g.board).board) is

    pub text_read : (key : Answer) (exit : List ℕ) → key ≡ fen_writer.answer s.board (length out) → exit ≡ fen_writer.room s.board out
        → (unplaced key ≡ settled_key text (length out)) × (exit ≡ settled_room text out)
    text_read key exit k x =
        let three = one_call_is_three text out in
        let good : (read_fen text).number ≡ 0 = sym number_is ∙ e in (
          ap unplaced k ∙ ap (λ (b : BoardBuilder). unplaced (fen_writer.answer b (length out))) board_is ∙ sym (three.answered good),
          x ∙ ap (λ (b : BoardBuilder). fen_writer.room b out) board_is ∙ sym (three.written good),
        )
