-- Positions are in range, have one name, and follow from the moves.
-- Assumes nothing.
use Prim.Native.Nat.{ℕ, zero, suc, ◌+◌}
use mathlib.Core.Path.{◌≡◌, refl, ap}
use mathlib.Core.Bool.{Bool, true, false, cond}
use mathlib.Core.List.{List, [], ◌∷◌}
use lib.Dec.{eqb}
use borrow.Author.Tests.{eqb-true}
use Rattle.answer.specs.declared.Answer.{Answer}
use Rattle.board_builder.specs.declared.BoardBuilder.{BoardBuilder}
use Rattle.board_builder.specs.BoardBuilder.{in_range}
use Rattle.fen_text.proofs.Keys.{one_key}
use Rattle.pgn_text.specs.Walk.{Walk, found, ended, walk_from, part}
use Rattle.san_text.specs.Standard.{from_san_standard}
use Rattle.move_rules.specs.After.{board_after}
use Rattle.game_text.specs.Game.{Lends, Game, plays, over, refuses, played_on, game_along, positions_of, played_in, play_on}
use Rattle.game_text.specs.Promises.{PositionIn, here, later, PositionsInRange, PositionsHaveOneName, MovesGivePositions}
use Rattle.game_text.specs.Variations.{line, Lines, crossed_lines, plays_from, moved_on, variations_of}
use Rattle.game_text.specs.VariationPromises.{WholeGamesInRange, WholeGamesHaveOneName}
use Rattle.pgn_text.specs.Between.{crossed_from}
use Rattle.game_text.proofs.Accepts.{accepted_playable}

-- each position of a game is in range
unfoldable AllInRange : Game → Type 0
AllInRange (plays start size m c g) = (in_range c ≡ true) × AllInRange g
AllInRange (over number offset) = Unit {0}
AllInRange (refuses number start size) = Unit {0}

range_in : (g : Game) (p : BoardBuilder) → AllInRange g → PositionIn p g → in_range p ≡ true
unfolding AllInRange
range_in (plays start size m c g) p r here = r.0
range_in (plays start size m c g) p r (later q) = range_in g p r.1 q
range_in (over _ _) p r w = elim w [ ]
range_in (refuses _ _ _) p r w = elim w [ ]

module _ (lends : Lends) (text : List ℕ) where
  range_walk : (w : Walk) (b : BoardBuilder) → AllInRange (game_along lends text b w)
  unfolding game_along played_on AllInRange
  range_walk (ended number offset) b = tt
  range_walk (found start size (suc level) w) b = range_walk w b
  range_walk (found start size zero w) b = go (eqb a.number 0) refl (λ c. range_walk w c)
    where
      a : Answer
      a = from_san_standard b (lends b) (part text start size)

      c : BoardBuilder
      c = board_after b a.value

      go : (t : Bool) → eqb a.number 0 ≡ t → ((c : BoardBuilder) → AllInRange (game_along lends text c w))
          → AllInRange (cond t (plays start size a.value c (game_along lends text c w)) (refuses a.number start size))
      go true q h = ((accepted_playable b (lends b) (part text start size) (eqb-true _ _ q)).next_in_range, h c)
      go false q h = tt

  moves_walk : (w : Walk) (b : BoardBuilder) → positions_of (game_along lends text b w) ≡ play_on b (played_in (game_along lends text b w))
  unfolding game_along played_on positions_of played_in play_on
  moves_walk (ended number offset) b = refl
  moves_walk (found start size (suc level) w) b = moves_walk w b
  moves_walk (found start size zero w) b = go (eqb a.number 0) (λ c. moves_walk w c)
    where
      a : Answer
      a = from_san_standard b (lends b) (part text start size)

      c : BoardBuilder
      c = board_after b a.value

      g : Bool → Game
      g t = cond t (plays start size a.value c (game_along lends text c w)) (refuses a.number start size)

      go : (t : Bool) → ((c : BoardBuilder) → positions_of (game_along lends text c w) ≡ play_on c (played_in (game_along lends text c w)))
          → positions_of (g t) ≡ play_on b (played_in (g t))
      go true h = ap (λ (l : List BoardBuilder). c ∷ l) (h c)
      go false h = refl

pub positions_in_range : PositionsInRange
positions_in_range lends b text p i = range_in (game_along lends text b (walk_from text 0 0)) p (range_walk lends text (walk_from text 0 0) b) i

pub positions_have_one_name : PositionsHaveOneName
positions_have_one_name lends others b c text other p q i j =
    let r = positions_in_range lends b text p i in
    let s = positions_in_range others c other q j in
    one_key p q r s

pub moves_give_positions : MovesGivePositions
moves_give_positions lends b text = moves_walk lends text (walk_from text 0 0) b

-- ---- with the variations
module _ (lends : Lends) (text : List ℕ) where
  range_variations : (w : Walk) (place : ℕ) (ls : Lines) → AllInRange (variations_of lends text place ls w)
  unfolding variations_of played_on AllInRange
  range_variations (ended number offset) place ls = tt
  range_variations (found start size level w) place ls = go (eqb a.number 0) refl (λ ms. range_variations w (start + size) ms)
    where
      ks : Lines
      ks = crossed_lines (crossed_from text place) ls

      b : BoardBuilder
      b = plays_from ks

      a : Answer
      a = from_san_standard b (lends b) (part text start size)

      c : BoardBuilder
      c = board_after b a.value

      go : (t : Bool) → eqb a.number 0 ≡ t → ((ms : Lines) → AllInRange (variations_of lends text (start + size) ms w))
          → AllInRange (cond t (plays start size a.value c (variations_of lends text (start + size) (moved_on c ks) w)) (refuses a.number start size))
      go true q h = ((accepted_playable b (lends b) (part text start size) (eqb-true _ _ q)).next_in_range, h (moved_on c ks))
      go false q h = tt

pub whole_games_in_range : WholeGamesInRange
whole_games_in_range lends b text p i =
    range_in (variations_of lends text 0 (line b b ∷ []) (walk_from text 0 0)) p (range_variations lends text (walk_from text 0 0) 0 (line b b ∷ [])) i

pub whole_games_have_one_name : WholeGamesHaveOneName
whole_games_have_one_name lends others b c text other p q i j =
    let r = whole_games_in_range lends b text p i in
    let s = whole_games_in_range others c other q j in
    one_key p q r s
