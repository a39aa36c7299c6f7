-- What is promised about a game with its variations.
-- Assumes nothing.
use Rattle.std.specs.Prelude.{ℕ, zero, suc, ◌+◌, ◌≡◌, true, cond, List, [], ◌∷◌, eqb, length}
use Rattle.answer.specs.Answer.{left_open}
use Rattle.board_builder.specs.declared.BoardBuilder.{BoardBuilder}
use Rattle.board_builder.specs.BoardBuilder.{in_range}
use Rattle.pgn_text.specs.declared.PgnMove.{PgnMove}
use Rattle.pgn_text.specs.Walk.{walk_from, next_move, part}
use Rattle.pgn_text.specs.Promises.{moves_of}
use Rattle.pgn_text.specs.Between.{crossed_from}
use Rattle.san_text.specs.Standard.{from_san_standard}
use Rattle.game_text.specs.Game.{Lends, Game, plays, over, refuses, played_on}
use Rattle.game_text.specs.Variations.{Lines, line, crossed_lines, plays_from, moved_on, whole_game}
use Rattle.fen_text.specs.Promises.{SameNumbers}
use Rattle.game_text.specs.Promises.{PositionIn}

-- each position is in range, whatever the start and the lists were, and has one name
abbrev pub WholeGamesInRange : Type 0
WholeGamesInRange = (lends : Lends) (b : BoardBuilder) (text : List ℕ) (p : BoardBuilder) → PositionIn p (whole_game lends b text) → in_range p ≡ true

abbrev pub WholeGamesHaveOneName : Type 0
WholeGamesHaveOneName =
    (lends others : Lends) (b c : BoardBuilder) (text other : List ℕ) (p q : BoardBuilder)
    → PositionIn p (whole_game lends b text) → PositionIn q (whole_game others c other) → SameNumbers p q

-- ---- a host that plays variations, by the calls for the next move from a place and for the brackets before it

-- by the next move: the end, or the move played from the innermost sequence that is then open
unfoldable pub played_at : Lends → List ℕ → Lines → PgnMove → (BoardBuilder → Game) → Game
played_at lends text ks m go =
    cond (eqb m.found 0) (over m.number m.offset)
    (played_on (from_san_standard (plays_from ks) (lends (plays_from ks)) (part text m.start m.length)) m.start m.length (plays_from ks) go)

-- n moves at most, then as if none were left
unfoldable pub played_through : Lends → List ℕ → ℕ → ℕ → ℕ → Lines → Game
played_through lends text zero offset level ls = over 0 0
played_through lends text (suc n) offset level ls =
    let m = next_move text offset level in
    let ks = crossed_lines (crossed_from text offset) ls in
    played_at lends text ks m (λ c. played_through lends text n (m.start + m.length) m.level (moved_on c ks))

-- the same moves, records and end; only where a bracket is left open may its offset differ
pub data GamesAlike : Game → Game → Type 0 where
  same_over : {number offset : ℕ} → GamesAlike (over number offset) (over number offset)
  open_over : {offset other : ℕ} → GamesAlike (over left_open offset) (over left_open other)
  same_refused : {number start size : ℕ} → GamesAlike (refuses number start size) (refuses number start size)
  same_played : {start size m : ℕ} {c : BoardBuilder} {g h : Game} → GamesAlike g h → GamesAlike (plays start size m c g) (plays start size m c h)

abbrev pub CallsPlayTheWholeGame : Type 0
CallsPlayTheWholeGame =
    (lends : Lends) (b : BoardBuilder) (text : List ℕ)
    → GamesAlike (whole_game lends b text) (played_through lends text (suc (length (moves_of (walk_from text 0 0)))) 0 0 (line b b ∷ []))
