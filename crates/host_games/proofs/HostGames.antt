-- The host's calls keep what is promised: each contract says that the call answers by a definition, and the definitions keep it.
-- Assumes nothing.
use Prim.Native.Nat.{ℕ, zero, suc, ◌+◌, ◌≤◌}
use mathlib.Core.Path.{◌≡◌, refl, ap, sym, ◌∙◌}
use mathlib.Core.Bool.{Bool, true, false, cond}
use mathlib.Core.List.{List, [], ◌∷◌}
use mathlib.Core.Logic.{◌⊎◌, inl, inr}
use native.Mathlib.Omega.{arith}
use lib.Dec.{eqb}
use lib.ListN.{length, take}
use borrow.Author.Tests.{eq-eqb, ne_eqb, eqb-true, eqb-false}
use Rattle.answer.specs.declared.Answer.{Answer}
use Rattle.board_builder.specs.declared.BoardBuilder.{BoardBuilder}
use Rattle.board_builder.specs.declared.Stepped.{Stepped}
use Rattle.board_builder.specs.BoardBuilder.{in_range, numbers}
use Rattle.fen_text.specs.Write.{fen_text}
use Rattle.fen_text.specs.Promises.{fen_writer, SameNumbers}
use Rattle.fen_text.proofs.Keys.{one_key}
use Rattle.move_rules.specs.After.{board_after, after_answer}
use Rattle.pgn_text.specs.declared.PgnMove.{PgnMove}
use Rattle.pgn_text.specs.declared.Crossed.{Crossed}
use Rattle.pgn_text.specs.declared.PgnNext.{PgnNext}
use Rattle.pgn_text.specs.Walk.{Walk, found, ended, walk_from, part, next_move, first_move, no_move_found, move_found}
use Rattle.pgn_text.specs.Between.{crossing, crossed_from, across_to, across_with, next_across}
use Rattle.pgn_text.specs.Main.{first_main, next_main, MainPlaces}
use Rattle.pgn_text.proofs.Places.{main_line_by_offsets}
use Rattle.san_text.specs.Standard.{from_san_standard}
use Rattle.game_text.specs.declared.GameStep.{GameStep}
use Rattle.game_text.specs.Game.{Lends, Game, plays, refuses, played_on, game_along, game}
use Rattle.game_text.specs.Step.{step_end, step_refused, step_played, step_written, key_answer, step_read, bytes_read, play_answer, play_bytes, read_at}
use Rattle.game_text.specs.Step.{step_from, bytes_from, game_step, game_step_bytes, answers_of}
use Rattle.game_text.specs.Promises.{KeyLeft}
use Rattle.game_text.proofs.Accepts.{accepted_playable}
use Rattle.game_step.proofs.Laws.{play_refused, play_short, play_done}
use Rattle.game_text.proofs.KeysLeft.{steps_leave_keys}
use Rattle.game_text.proofs.Stepping.{step_is, at_end, read, at_move, at_refused, at_played}
use Rattle.host_lists.specs.HostCalls.{read_board, read_list, text_to_read, san_read}
use Rattle.host_settled.specs.SettledCalls.{PlayCall, to_play_from, to_play, play_told, WriteCall, to_write, write_told, write_lent, write_left}
use Rattle.host_games.specs.GameCalls.{StepCall, step_text, step_offset, step_board, step_list, step_told, step_lent, step_left, step_key}
use Rattle.host_games.specs.GameCalls.{MoveCall, played_text, played_board, played_list, played_told, played_lent, played_left}
use Rattle.host_games.specs.GameCalls.{NextCall, next_text, next_offset, next_level, next_told}
use Rattle.host_games.specs.Promises.{SanCall, ReadPlayedWritten, InTurn, PlayIsThreeCalls, FoundOutside, StepIsFourCalls, StepsFrom, Played}
use Rattle.host_games.specs.Promises.{Run, ends, goes_on, RunsAreTheGame, StepKeysTell, OtherStepsLeaveAll}

-- ---- the contracts

step_by : (s : StepCall) → step_told s ≡ game_step (step_text s) (step_offset s) (step_board s) (step_list s) (length (step_lent s))
step_by s = s.learnt.0

step_leaves : (s : StepCall) → step_left s ≡ game_step_bytes (step_text s) (step_offset s) (step_board s) (step_list s) (step_lent s)
step_leaves s = s.learnt.1

move_by : (m : MoveCall) → played_told m ≡ play_answer (played_text m) (played_board m) (played_list m) (length (played_lent m))
move_by m = m.learnt.0

move_leaves : (m : MoveCall) → played_left m ≡ play_bytes (played_text m) (played_board m) (played_list m) (played_lent m)
move_leaves m = m.learnt.1

next_by : (n : NextCall) → next_told n ≡ next_across (next_text n) (next_offset n) (next_level n)
next_by n = n.learnt

read_by : (r : SanCall) → san_read r ≡ from_san_standard (read_board r) (read_list r) (text_to_read r)
read_by r = r.learnt

played_by : (p : PlayCall) → play_told p ≡ after_answer (to_play_from p) (to_play p)
played_by p = p.learnt

write_by : (w : WriteCall) → write_told w ≡ fen_writer.answer (to_write w) (length (write_lent w))
write_by w = w.learnt.0

write_leaves : (w : WriteCall) → write_left w ≡ fen_writer.room (to_write w) (write_lent w)
write_leaves w = w.learnt.1

-- ---- three calls

module _ (said : List ℕ) (b : BoardBuilder) (list room : List ℕ) (r : SanCall) (p : PlayCall) (w : WriteCall)
    (t : ReadPlayedWritten said b list room r p w) where
  reads : san_read r ≡ from_san_standard b list said
  reads =
      read_by r
      ∙ ap (λ (c : BoardBuilder). from_san_standard c (read_list r) (text_to_read r)) t.record_read
      ∙ ap (λ (l : List ℕ). from_san_standard b l (text_to_read r)) t.list_lent
      ∙ ap (from_san_standard b list) t.text

  plays_on : play_told p ≡ after_answer b (san_read r).value
  plays_on = played_by p ∙ ap (λ (c : BoardBuilder). after_answer c (to_play p)) t.record_played ∙ ap (after_answer b) t.move

  writes : write_told w ≡ fen_writer.answer (play_told p).board (length room)
  writes =
      write_by w
      ∙ ap (λ (c : BoardBuilder). fen_writer.answer c (length (write_lent w))) t.record_written
      ∙ ap (λ (o : List ℕ). fen_writer.answer (play_told p).board (length o)) t.room_lent

  leaves : write_left w ≡ fen_writer.room (play_told p).board room
  leaves =
      write_leaves w
      ∙ ap (λ (c : BoardBuilder). fen_writer.room c (write_lent w)) t.record_written
      ∙ ap (fen_writer.room (play_told p).board) t.room_lent

  three : (start size : ℕ) (s : GameStep) (left : List ℕ) → s ≡ step_read start size b (length room) (from_san_standard b list said)
      → left ≡ bytes_read b room (from_san_standard b list said) → InTurn start size b room r p w s left
  three start size s left e x =
      record {
        unread = λ n.
            let q = play_refused start size b list room said (san_read r) reads n (step_refused (san_read r).number start size 0 b) refl in
            (e ∙ sym q.0, x ∙ sym q.1);
        unwritten = λ z n.
            let told = step_refused (write_told w).number start size (write_told w).value b in
            let q = play_short start size b list room said (san_read r) reads z (play_told p) plays_on (write_told w) (write_left w) writes leaves n told
            refl in
            (e ∙ sym q.0, x ∙ sym q.1);
        played = λ z y.
            let told = step_played start size (san_read r).value (write_told w).value (play_told p).board in
            let q = play_done start size b list room said (san_read r) reads z (play_told p) plays_on (write_told w) (write_left w) writes leaves y told refl in
            (e ∙ sym q.0, x ∙ sym q.1);
      }

pub play_is_three_calls : PlayIsThreeCalls
unfolding play_answer play_bytes
play_is_three_calls m r p w t =
    three (played_text m) (played_board m) (played_list m) (played_lent m) r p w t 0 (length (played_text m)) (played_told m) (played_left m) (move_by m)
    (move_leaves m)

-- where an answer says that a move stands
pub record PlaceOf (m : PgnMove) (n : PgnNext) : Type 0 where
  pub found : n.found ≡ m.found
  pub level : n.level ≡ m.level
  pub start : n.start ≡ m.start
  pub size : n.length ≡ m.length

-- ---- the fourth: the next move, where it stands outside brackets, is the main line's next
first_outside : (v : Walk) → (first_move v).found ≡ 1 → (first_move v).level ≡ 0 → first_main v ≡ first_move v
unfolding first_move first_main no_move_found move_found
first_outside (ended number offset) f l = absurd (omega (arith, f))
first_outside (found start size zero v) f l = refl
first_outside (found start size (suc level) v) f l = absurd (omega (arith, l))

across_place : (m : PgnMove) (x : Crossed) → PlaceOf m (across_with m x)
unfolding across_with
across_place m x = go (eqb m.found 0)
  where
    go : (u : Bool) → PlaceOf m (cond u (across_to m (crossing 0 0)) (across_to m x))
    go true = record { found = refl; level = refl; start = refl; size = refl }
    go false = record { found = refl; level = refl; start = refl; size = refl }

-- a step at a move that was met
module _ (text : List ℕ) (offset : ℕ) (b : BoardBuilder) (list : List ℕ) (m : PgnMove) (is : next_main text offset ≡ m) (some : m.found ≡ 0 → ⊥)
    (start : ℕ) (starts : start ≡ m.start) (size : ℕ) (long : size ≡ m.length) where
  read_from : (room : ℕ) → game_step text offset b list room ≡ step_read start size b room (from_san_standard b list (part text start size))
  unfolding game_step step_from
  read_from room = rw (is, ne_eqb _ _ some, starts, long)

  bytes_from_fact : (out : List ℕ) → game_step_bytes text offset b list out ≡ bytes_read b out (from_san_standard b list (part text start size))
  unfolding game_step_bytes bytes_from
  bytes_from_fact out = rw (is, ne_eqb _ _ some, starts, long)

module _ (s : StepCall) (n : NextCall) (f : FoundOutside s n) where
  abbrev met : PgnMove
  met = next_move (step_text s) (step_offset s) 0

  told_across : next_told n ≡ across_with met (crossed_from (step_text s) (step_offset s))
  unfolding next_across
  told_across =
      next_by n
      ∙ ap (λ (l : List ℕ). next_across l (next_offset n) (next_level n)) f.text
      ∙ ap (λ (o : ℕ). next_across (step_text s) o (next_level n)) f.place
      ∙ ap (next_across (step_text s) (step_offset s)) f.outside

  place : PlaceOf met (next_told n)
  place = rw told_across (across_place met (crossed_from (step_text s) (step_offset s)))

  some_met : met.found ≡ 0 → ⊥
  some_met z =
      let e : ◌≡◌ {A = ℕ} 0 1 = sym z ∙ sym place.found ∙ f.found in
      absurd (omega (arith, e))

  main_met : next_main (step_text s) (step_offset s) ≡ met
  unfolding next_main next_move
  main_met = first_outside (walk_from (step_text s) (step_offset s) 0) (sym place.found ∙ f.found) (sym place.level ∙ f.main_line)

  step_reads : step_told s ≡ step_read (next_told n).start (next_told n).length (step_board s) (length (step_lent s))
      (from_san_standard (step_board s) (step_list s) (part (step_text s) (next_told n).start (next_told n).length))
  step_reads =
      step_by s
      ∙ read_from (step_text s) (step_offset s) (step_board s) (step_list s) met main_met some_met (next_told n).start place.start (next_told n).length
      place.size (length (step_lent s))

  step_bytes : step_left s ≡ bytes_read (step_board s) (step_lent s)
      (from_san_standard (step_board s) (step_list s) (part (step_text s) (next_told n).start (next_told n).length))
  step_bytes =
      step_leaves s
      ∙ bytes_from_fact (step_text s) (step_offset s) (step_board s) (step_list s) met main_met some_met (next_told n).start place.start (next_told n).length
      place.size (step_lent s)

pub step_is_four_calls : StepIsFourCalls
step_is_four_calls s n r p w f t =
    three (part (step_text s) (next_told n).start (next_told n).length) (step_board s) (step_list s) (step_lent s) r p w t (next_told n).start
    (next_told n).length (step_told s) (step_left s) (step_reads s n f) (step_bytes s n f)

-- ---- stepping

module _ (lends : Lends) (text : List ℕ) where
  -- what a call of a run answers
  told_so : (offset : ℕ) (b : BoardBuilder) (s : StepCall) → StepsFrom lends text offset b s
      → step_told s ≡ game_step text offset b (lends b) (length (step_lent s))
  told_so offset b s f =
      step_by s
      ∙ ap (λ (l : List ℕ). game_step l (step_offset s) (step_board s) (step_list s) (length (step_lent s))) f.text_lent
      ∙ ap (λ (o : ℕ). game_step text o (step_board s) (step_list s) (length (step_lent s))) f.place
      ∙ ap (λ (c : BoardBuilder). game_step text offset c (step_list s) (length (step_lent s))) f.from
      ∙ ap (λ (l : List ℕ). game_step text offset b l (length (step_lent s))) f.list_lent

  -- the call at a move of the main line, played or refused
  module _ (offset : ℕ) (b : BoardBuilder) (start size : ℕ) (e : next_main text offset ≡ move_found start size 0) (s : StepCall)
      (f : StepsFrom lends text offset b s) where
    abbrev said : Answer
    said = from_san_standard b (lends b) (part text start size)

    abbrev after : BoardBuilder
    after = board_after b said.value

    here : step_told s ≡ step_read start size b (length (step_lent s)) said
    here =
        told_so offset b s f
        ∙ step_is lends text (length (step_lent s)) f.room (move_found start size 0) offset b e
        ∙ at_move lends text (length (step_lent s)) f.room b start size

    told_played : eqb said.number 0 ≡ true → step_told s ≡ step_played start size said.value (length (fen_text after)) after
    told_played u = here ∙ at_played lends text (length (step_lent s)) f.room b start size u

    told_refused : eqb said.number 0 ≡ false → step_told s ≡ step_refused said.number start size 0 b
    told_refused u = here ∙ at_refused lends text (length (step_lent s)) f.room b start size u

  -- the call at the end
  told_end : (offset number at : ℕ) (b : BoardBuilder) → next_main text offset ≡ no_move_found number at → (s : StepCall)
      → StepsFrom lends text offset b s → step_told s ≡ step_end number at b
  told_end offset number at b e s f =
      told_so offset b s f
      ∙ step_is lends text (length (step_lent s)) f.room (no_move_found number at) offset b e
      ∙ at_end lends text (length (step_lent s)) f.room number at b

  run_along : (v : Walk) → MainPlaces text v → (offset : ℕ) (b : BoardBuilder) (told : List GameStep) → next_main text offset ≡ first_main v
      → Run lends text offset b told → told ≡ answers_of b (game_along lends text b v)
  unfolding MainPlaces first_main next_main game_along played_on answers_of
  run_along (ended number at) q offset b told e (ends s f n) = ap (λ (x : GameStep). x ∷ []) (told_end offset number at b e s f)
  run_along (ended number at) q offset b told e (goes_on s f n r) =
      let z : ◌≡◌ {A = ℕ} 0 1 = sym (ap (λ (y : GameStep). y.found) (told_end offset number at b e s f)) ∙ n.1 in
      absurd (omega (arith, z))
  run_along (found start size (suc level) v) q offset b told e run = run_along v q offset b told e run
  run_along (found start size zero v) q offset b told e run =
      go (eqb a.number 0) refl told run (λ c more. run_along v q.1 (start + size) c more (ap first_main (sym q.0)))
    where
      a : Answer
      a = from_san_standard b (lends b) (part text start size)

      c : BoardBuilder
      c = board_after b a.value

      along : Bool → Game
      along u = cond u (plays start size a.value c (game_along lends text c v)) (refuses a.number start size)

      go : (u : Bool) → eqb a.number 0 ≡ u → (told : List GameStep) → Run lends text offset b told
          → ((c : BoardBuilder) (more : List GameStep) → Run lends text (start + size) c more → more ≡ answers_of c (game_along lends text c v))
          → told ≡ answers_of b (along u)
      go true u told (ends s f n) ih =
          let x = told_played offset b start size e s f u in
          absurd (n (ap (λ (y : GameStep). y.number) x, ap (λ (y : GameStep). y.found) x))
      go true u told (goes_on {told = more} s f n r) ih =
          let x = told_played offset b start size e s f u in
          let rest : Run lends text (start + size) c more = rw x at r in
          ap (λ (y : GameStep). y ∷ more) x ∙ ap (λ (l : List GameStep). step_played start size a.value (length (fen_text c)) c ∷ l) (ih c more rest)
      go false u told (ends s f n) ih = ap (λ (y : GameStep). y ∷ []) (told_refused offset b start size e s f u)
      go false u told (goes_on s f n r) ih =
          absurd (eqb-false _ _ u (sym (ap (λ (y : GameStep). y.number) (told_refused offset b start size e s f u)) ∙ n.0))

pub runs_are_the_game : RunsAreTheGame
unfolding next_main
runs_are_the_game lends text b told run = run_along lends text (walk_from text 0 0) (main_line_by_offsets text 0) 0 b told refl run

-- ---- one name

-- a step that plays a move: its key is its record's, which is in range; any other hands its record back
module _ (start size : ℕ) (b : BoardBuilder) (list said : List ℕ) (room : ℕ) where
  abbrev answer : Answer
  answer = from_san_standard b list said

  read_played : Played (step_read start size b room answer) → in_range (step_read start size b room answer).board ≡ true
  unfolding step_read step_written
  read_played = go (eqb answer.number 0) refl
    where
      c : BoardBuilder
      c = board_after b answer.value

      k : Answer
      k = key_answer c room

      written : Bool → GameStep
      written u = cond u (step_played start size answer.value k.value c) (step_refused k.number start size k.value b)

      inner : eqb answer.number 0 ≡ true → (u : Bool) → eqb k.number 0 ≡ u → Played (written u) → in_range (written u).board ≡ true
      inner e true q p = (accepted_playable b list said (eqb-true _ _ e)).next_in_range
      inner e false q p = absurd (eqb-false _ _ q p.0)

      go : (u : Bool) → eqb answer.number 0 ≡ u
          → Played (cond u (written (eqb k.number 0)) (step_refused answer.number start size 0 b))
          → in_range (cond u (written (eqb k.number 0)) (step_refused answer.number start size 0 b)).board ≡ true
      go true e p = inner e (eqb k.number 0) refl p
      go false e p = absurd (eqb-false _ _ e p.0)

  read_other : (Played (step_read start size b room answer) → ⊥) → (step_read start size b room answer).board ≡ b
  unfolding step_read step_written
  read_other = go (eqb answer.number 0)
    where
      c : BoardBuilder
      c = board_after b answer.value

      k : Answer
      k = key_answer c room

      written : Bool → GameStep
      written u = cond u (step_played start size answer.value k.value c) (step_refused k.number start size k.value b)

      inner : (u : Bool) → (Played (written u) → ⊥) → (written u).board ≡ b
      inner true n = absurd (n (refl, refl))
      inner false n = refl

      go : (u : Bool) → (Played (cond u (written (eqb k.number 0)) (step_refused answer.number start size 0 b)) → ⊥)
          → (cond u (written (eqb k.number 0)) (step_refused answer.number start size 0 b)).board ≡ b
      go true n = inner (eqb k.number 0) n
      go false n = refl

step_played_lem : (text : List ℕ) (offset : ℕ) (b : BoardBuilder) (list : List ℕ) (room : ℕ) → Played (game_step text offset b list room)
    → in_range (game_step text offset b list room).board ≡ true
unfolding game_step step_from
step_played_lem text offset b list room = go (eqb (next_main text offset).found 0)
  where
    n : PgnMove
    n = next_main text offset

    step : Bool → GameStep
    step u = cond u (step_end n.number n.offset b) (step_read n.start n.length b room (read_at text b list n))

    go : (u : Bool) → Played (step u) → in_range (step u).board ≡ true
    go true p =
        let z : ◌≡◌ {A = ℕ} 0 1 = p.1 in
        absurd (omega (arith, z))
    go false p = read_played n.start n.length b list (part text n.start n.length) room p

step_other : (text : List ℕ) (offset : ℕ) (b : BoardBuilder) (list : List ℕ) (room : ℕ) → (Played (game_step text offset b list room) → ⊥)
    → (game_step text offset b list room).board ≡ b
unfolding game_step step_from
step_other text offset b list room = go (eqb (next_main text offset).found 0)
  where
    n : PgnMove
    n = next_main text offset

    step : Bool → GameStep
    step u = cond u (step_end n.number n.offset b) (step_read n.start n.length b room (read_at text b list n))

    go : (u : Bool) → (Played (step u) → ⊥) → (step u).board ≡ b
    go true p = refl
    go false p = read_other n.start n.length b list (part text n.start n.length) room p

-- a step's answer and what it leaves, by the definitions
module _ (text : List ℕ) (offset : ℕ) (b : BoardBuilder) (list out : List ℕ) (told : GameStep) (exit : List ℕ)
    (e : told ≡ game_step text offset b list (length out)) (x : exit ≡ game_step_bytes text offset b list out) where
  key_left : KeyLeft told out exit
  key_left = rw (e, x) (steps_leave_keys text offset b list out)

  told_in_range : Played told → in_range told.board ≡ true
  told_in_range = rw e (step_played_lem text offset b list (length out))

  told_back : (Played told → ⊥) → told.board ≡ b
  told_back = rw e (step_other text offset b list (length out))

module _ (s : StepCall) where
  left : KeyLeft (step_told s) (step_lent s) (step_left s)
  left = key_left (step_text s) (step_offset s) (step_board s) (step_list s) (step_lent s) (step_told s) (step_left s) (step_by s) (step_leaves s)

  in_range_lem : Played (step_told s) → in_range (step_told s).board ≡ true
  in_range_lem = told_in_range (step_text s) (step_offset s) (step_board s) (step_list s) (step_lent s) (step_told s) (step_left s) (step_by s) (step_leaves s)

  key_is : Played (step_told s) → step_key s ≡ fen_text (step_told s).board
  key_is p = left.key p.0 p.1

pub step_keys_tell : StepKeysTell
step_keys_tell s t p q =
    let o : SameNumbers (step_told s).board (step_told t).board = one_key (step_told s).board (step_told t).board (in_range_lem s p) (in_range_lem t q) in
    record {
      same_numbers = λ e. o.same_numbers (sym (key_is s p) ∙ e ∙ key_is t q);
      same_key = λ e. key_is s p ∙ o.same_text e ∙ sym (key_is t q);
    }

-- ---- any other step

read_found : (start size : ℕ) (b : BoardBuilder) (room : ℕ) (a : Answer) → (step_read start size b room a).found ≡ 1
unfolding step_read step_written
read_found start size b room a = go (eqb a.number 0) (eqb (key_answer (board_after b a.value) room).number 0)
  where
    c : BoardBuilder
    c = board_after b a.value

    k : Answer
    k = key_answer c room

    written : Bool → GameStep
    written v = cond v (step_played start size a.value k.value c) (step_refused k.number start size k.value b)

    go : (u v : Bool) → (cond u (written v) (step_refused a.number start size 0 b)).found ≡ 1
    go true true = refl
    go true false = refl
    go false v = refl

step_found : (text : List ℕ) (offset : ℕ) (b : BoardBuilder) (list : List ℕ) (room : ℕ)
    → ((game_step text offset b list room).found ≡ 0) ⊎ ((game_step text offset b list room).found ≡ 1)
unfolding game_step step_from
step_found text offset b list room = go (eqb (next_main text offset).found 0)
  where
    n : PgnMove
    n = next_main text offset

    step : Bool → GameStep
    step u = cond u (step_end n.number n.offset b) (step_read n.start n.length b room (read_at text b list n))

    go : (u : Bool) → ((step u).found ≡ 0) ⊎ ((step u).found ≡ 1)
    go true = inl refl
    go false = inr (read_found n.start n.length b room (read_at text b list n))

found_so : (s r : GameStep) → s ≡ r → (r.found ≡ 0) ⊎ (r.found ≡ 1) → (s.found ≡ 0) ⊎ (s.found ≡ 1)
found_so s r e h = rw e h

unwritten : (s : GameStep) (out exit : List ℕ) → KeyLeft s out exit → (s.found ≡ 0) ⊎ (s.found ≡ 1) → (Played s → ⊥) → exit ≡ out
unwritten s out exit l (inl z) n = l.none z
unwritten s out exit l (inr z) n = l.refused (λ y. n (y, z))

pub other_steps_leave_all : OtherStepsLeaveAll
other_steps_leave_all s n =
    let text = step_text s in
    let found = step_found text (step_offset s) (step_board s) (step_list s) (length (step_lent s)) in (
      unwritten (step_told s) (step_lent s) (step_left s) (left s) (found_so (step_told s) _ (step_by s) found) n,
      told_back text (step_offset s) (step_board s) (step_list s) (step_lent s) (step_told s) (step_left s) (step_by s) (step_leaves s) n,
    )
