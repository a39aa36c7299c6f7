-- A game's roll gives its positions back.
-- Assumes nothing.
use Prim.Native.Nat.{ℕ, zero, suc, ◌+◌, ◌*◌, ◌/◌, ◌%◌, ◌≤◌}
use mathlib.Core.Path.{◌≡◌, refl, ap, sym, ◌∙◌}
use mathlib.Core.Bool.{Bool, true, false, cond, ◌&&◌}
use mathlib.Core.List.{List, [], ◌∷◌}
use native.Mathlib.Omega.{arith}
use lib.Dec.{eqb, leb}
use lib.ListN.{length, drop}
use borrow.Author.Tests.{eqb-true, le-leb, leb-true}
use Rattle.answer.specs.declared.Answer.{Answer}
use Rattle.answer.specs.Numbers.{all_at_most}
use Rattle.answer.proofs.Numbers.{both_left, both_right}
use Rattle.action.specs.Layout.{action_size}
use Rattle.actions.specs.CodeCount.{one_if_move}
use Rattle.board_builder.specs.declared.BoardBuilder.{BoardBuilder}
use Rattle.board_builder.specs.BoardBuilder.{in_range, with_counters}
use Rattle.board_builder.proofs.Numbers.{numbers_of_record}
use Rattle.chess_move.specs.Number.{last_move}
use Rattle.move_rules.specs.After.{board_after}
use Rattle.pgn_text.specs.Walk.{Walk, found, ended, walk_from, part}
use Rattle.san_text.specs.Standard.{from_san_standard}
use Rattle.game_rules.specs.Limits.{Limits}
use Rattle.roll_text.specs.Roll.{move_number_at, kind_at, colour_at, start_from, start_board}
use Rattle.roll_text.specs.Promises.{Game, formed}
use Rattle.roll_text.proofs.Back.{rolls_read_back}
use Rattle.roll_text.proofs.ReadsBack.{start_fits_lem}
use Rattle.roll_text.proofs.ByFields.{move_in_range, action_in_range, actions_in_range, moves_among, held_in_range, as_many_moves}
use Rattle.game_text.specs.Game.{Lends, plays, refuses, played_on, game_along, game, played_in, play_on}
use Rattle.game_text.proofs.Accepts.{accepted_playable}
use Rattle.game_text.proofs.Positions.{moves_give_positions}
use Rattle.game_rolls.specs.Rolls.{move_actions, moves_rolled, replayed, RollGivesPositions}

-- ---- the moves of a game are in range
module _ (lends : Lends) (text : List ℕ) where
  moves_small : (w : Walk) (b : BoardBuilder) → all_at_most last_move (played_in (game_along lends text b w)) ≡ true
  unfolding game_along played_on played_in all_at_most
  moves_small (ended number offset) b = refl
  moves_small (found start size (suc level) w) b = moves_small w b
  moves_small (found start size zero w) b = go (eqb a.number 0) refl (λ c. moves_small w c)
    where
      a : Answer
      a = from_san_standard b (lends b) (part text start size)

      c : BoardBuilder
      c = board_after b a.value

      go : (t : Bool) → eqb a.number 0 ≡ t → ((c : BoardBuilder) → all_at_most last_move (played_in (game_along lends text c w)) ≡ true)
          → all_at_most last_move (played_in (cond t (plays start size a.value c (game_along lends text c w)) (refuses a.number start size))) ≡ true
      go true q h = rw (le-leb _ _ (accepted_playable b (lends b) (part text start size) (eqb-true _ _ q)).small) (h c)
      go false q h = refl

-- ---- the actions of moves
number_back : (m : ℕ) → m % 256 + 256 * (m / 256) ≡ m
number_back m = omega arith

actions_long : (ms : List ℕ) → length (move_actions ms) ≡ action_size * length ms
unfolding move_actions
actions_long [] = refl
actions_long (m ∷ ms) = let h = actions_long ms in omega (arith, h)

actions_held_lem : (ms : List ℕ) → all_at_most last_move ms ≡ true → actions_in_range (length ms) (move_actions ms) ≡ true
unfolding move_actions actions_in_range action_in_range move_in_range all_at_most
actions_held_lem [] e = refl
actions_held_lem (m ∷ ms) e = rw (number_back m, both_left (leb m last_move) _ e) (actions_held_lem ms (both_right (leb m last_move) _ e))

one_most : (k c m : ℕ) → one_if_move k c m ≤ 1
one_most k c m = go (eqb k 1) (eqb c 0 && leb m last_move)
  where
    go : (t u : Bool) → cond {A = ℕ} t (cond u 1 0) 0 ≤ 1
    go true true = omega arith
    go true false = omega arith
    go false u = omega arith

few_moves : (n : ℕ) (bs : List ℕ) → moves_among n bs ≤ n
unfolding moves_among
few_moves zero bs = omega arith
few_moves (suc n) bs = let h = few_moves n (drop action_size bs) in let o = one_most (kind_at bs) (colour_at bs) (move_number_at bs) in omega (arith, h, o)

actions_bytes : (ms : List ℕ) → all_at_most last_move ms ≡ true → all_at_most 255 (move_actions ms) ≡ true
unfolding move_actions all_at_most
actions_bytes [] e = refl
actions_bytes (m ∷ ms) e =
    let small : m ≤ last_move = leb-true _ _ (both_left (leb m last_move) _ e) in
    let low : m % 256 ≤ 255 = omega arith in
    let high : m / 256 ≤ 255 = omega (arith, small) in
    rw (le-leb _ _ low, le-leb _ _ high) (actions_bytes ms (both_right (leb m last_move) _ e))

moves_back : (ms : List ℕ) → moves_rolled (length ms) (move_actions ms) ≡ ms
unfolding move_actions moves_rolled
moves_back [] = refl
moves_back (m ∷ ms) = rw (number_back m) (ap (λ (l : List ℕ). m ∷ l) (moves_back ms))

-- ---- the roll
a_game : (L : Limits) (b : BoardBuilder) (ms : List ℕ) → in_range b ≡ true → all_at_most last_move ms ≡ true → length ms ≤ L.most_actions
    → length ms ≤ L.most_moves
    → Game L (start_from b) (length ms) (move_actions ms)
a_game L b ms e small few fewer =
    let long = actions_long ms in
    let fits : action_size * length ms ≤ length (move_actions ms) = omega (arith, long) in
    let count = few_moves (length ms) (move_actions ms) in
    record {
      start = start_fits_lem b e;
      few = few;
      few_moves = omega (arith, sym (as_many_moves (length ms) (move_actions ms) fits), count, fewer);
      in_range_lem = held_in_range (length ms) (move_actions ms) fits ∙ actions_held_lem ms small;
      long = long;
      bytes = actions_bytes ms small;
    }

start_back : (b : BoardBuilder) → in_range b ≡ true → start_board (start_from b) ≡ b
start_back b e = ap (λ (c : BoardBuilder). with_counters c b.half_moves b.full_moves) (numbers_of_record b e)

pub roll_gives_positions : RollGivesPositions
unfolding replayed formed
roll_gives_positions L lends b text countable e few fewer =
    let ms = played_in (game lends b text) in
    let good = a_game L b ms e (moves_small lends text (walk_from text 0 0) b) few fewer in
    let back = rolls_read_back true L (start_from b) (length ms) (move_actions ms) countable good refl in
    let played = ap (λ (c : BoardBuilder). play_on c (moves_rolled (length ms) (move_actions ms))) (start_back b e) in
    rw back (played ∙ rw (moves_back ms) (sym (moves_give_positions lends b text)))
