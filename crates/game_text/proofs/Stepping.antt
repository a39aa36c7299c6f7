-- Stepping gives the game.
-- Assumes nothing.
use Prim.Native.Nat.{ℕ, zero, suc, ◌+◌, ◌≤◌}
use mathlib.Core.Path.{◌≡◌, refl, ap, sym, ◌∙◌}
use mathlib.Core.Bool.{Bool, true, false, cond}
use mathlib.Core.List.{List, [], ◌∷◌}
use lib.Dec.{eqb}
use lib.ListN.{length}
use borrow.Author.Tests.{eqb-true}
use Rattle.answer.specs.declared.Answer.{Answer}
use Rattle.board_builder.specs.declared.BoardBuilder.{BoardBuilder}
use Rattle.fen_text.specs.Write.{fen_text}
use Rattle.pgn_text.specs.declared.PgnMove.{PgnMove}
use Rattle.pgn_text.specs.Walk.{Walk, found, ended, walk_from, no_move_found, move_found, part}
use Rattle.san_text.specs.Standard.{from_san_standard}
use Rattle.move_rules.specs.After.{board_after}
use Rattle.game_text.specs.declared.GameStep.{GameStep}
use Rattle.pgn_text.specs.Main.{first_main, next_main, MainPlaces}
use Rattle.game_text.specs.Game.{Lends, Game, plays, refuses, played_on, game_along, positions_of}
use Rattle.game_text.specs.Step.{step_end, step_refused, step_played, step_written, step_read, step_from, game_step, stepping, answers_of}
use Rattle.game_text.specs.Promises.{SteppingGivesTheGame}
use Rattle.game_text.proofs.Accepts.{accepted_playable, key_fits}
use Rattle.pgn_text.proofs.Places.{main_line_by_offsets}

module _ (lends : Lends) (text : List ℕ) (room : ℕ) (h : 85 ≤ room) where
  -- the step, by the move that comes next
  pub step_is : (n : PgnMove) (offset : ℕ) (b : BoardBuilder) → next_main text offset ≡ n
      → game_step text offset b (lends b) room ≡ step_from text b (lends b) room n
  unfolding game_step
  step_is n offset b e = ap (step_from text b (lends b) room) e

  pub at_end : (number at : ℕ) (b : BoardBuilder) → step_from text b (lends b) room (no_move_found number at) ≡ step_end number at b
  unfolding step_from no_move_found
  at_end number at b = refl

  module _ (b : BoardBuilder) (start size : ℕ) where
    abbrev pub read : Answer
    read = from_san_standard b (lends b) (part text start size)

    pub at_move : step_from text b (lends b) room (move_found start size 0) ≡ step_read start size b room read
    unfolding step_from move_found
    at_move = refl

    pub at_refused : eqb read.number 0 ≡ false → step_read start size b room read ≡ step_refused read.number start size 0 b
    unfolding step_read
    at_refused e = rw e

    pub at_played : eqb read.number 0 ≡ true
        → step_read start size b room read ≡ step_played start size read.value (length (fen_text (board_after b read.value))) (board_after b read.value)
    unfolding step_read step_written
    at_played e =
        let p = accepted_playable b (lends b) (part text start size) (eqb-true _ _ e) in
        rw (e, key_fits (board_after b read.value) room p.next_in_range h)

  one_more_lem : (s : GameStep) (offset : ℕ) (b : BoardBuilder) (n : ℕ) → game_step text offset b (lends b) room ≡ s
      → stepping game_step lends text room (suc n) offset b ≡ s ∷ stepping game_step lends text room n (s.start + s.length) s.board
  unfolding stepping
  one_more_lem s offset b n e = rw e

  last_one : (s : GameStep) (offset : ℕ) (b : BoardBuilder) → game_step text offset b (lends b) room ≡ s
      → stepping game_step lends text room 0 offset b ≡ s ∷ []
  unfolding stepping
  last_one s offset b e = rw e

  through : (w : Walk) → MainPlaces text w → (offset : ℕ) (b : BoardBuilder) → next_main text offset ≡ first_main w
      → stepping game_step lends text room (length (positions_of (game_along lends text b w))) offset b ≡ answers_of b (game_along lends text b w)
  unfolding MainPlaces first_main next_main game_along played_on positions_of answers_of
  through (ended number at) p offset b e = last_one (step_end number at b) offset b (step_is _ offset b e ∙ at_end number at b)
  through (found start size (suc level) w) p offset b e = through w p offset b e
  through (found start size zero w) p offset b e =
      go (eqb (read b start size).number 0) refl (λ c. through w p.1 (start + size) c (next_is p.0))
    where
      next_is : w ≡ walk_from text (start + size) 0 → next_main text (start + size) ≡ first_main w
      next_is q = ap first_main (sym q)

      a : Answer
      a = read b start size

      c : BoardBuilder
      c = board_after b a.value

      game : Bool → Game
      game t = cond t (plays start size a.value c (game_along lends text c w)) (refuses a.number start size)

      go : (t : Bool) → eqb a.number 0 ≡ t
          → ((c : BoardBuilder) → stepping game_step lends text room (length (positions_of (game_along lends text c w))) (start + size) c ≡ answers_of c
          (game_along lends text c w))
          → stepping game_step lends text room (length (positions_of (game t))) offset b ≡ answers_of b (game t)
      go true q ih =
          one_more_lem (step_played start size a.value (length (fen_text c)) c) offset b (length (positions_of (game_along lends text c w)))
          (step_is _ offset b e ∙ at_move b start size ∙ at_played b start size q)
          ∙ ap (λ (l : List GameStep). step_played start size a.value (length (fen_text c)) c ∷ l) (ih c)
      go false q ih =
          last_one (step_refused a.number start size 0 b) offset b (step_is _ offset b e ∙ at_move b start size ∙ at_refused b start size q)

pub stepping_gives_the_game : SteppingGivesTheGame game_step
unfolding next_main
stepping_gives_the_game lends b text room h = through lends text room h (walk_from text 0 0) (main_line_by_offsets text 0) 0 b refl
