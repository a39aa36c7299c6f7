-- How the log asks whether a stored record is the one after a move: for bytes that have a record in front.
-- Assumes nothing.
use Rattle.std.specs.Prelude.{Bool, ◌&&◌, List, ℕ, eqb, leb, length, take, get_or}
use Rattle.answer.specs.Numbers.{same}
use Rattle.board_builder.specs.declared.BoardBuilder.{BoardBuilder}
use Rattle.board_builder.specs.BoardBuilder.{numbers, record_size, side_at}
use Rattle.chess_move.specs.Number.{source_of, dest_of}
use Rattle.move_rules.specs.After.{record_after, half_after, full_after}

-- these numbers are the record after a move from the record in the first 68 bytes of p; fewer bytes hold no record
unfoldable pub comes_from : List ℕ → ℕ → List ℕ → Bool
comes_from p m record68 = leb record_size (length p) && same record68 (record_after (take record_size p) m)

-- those in the first 68 of other bytes, and those of a board
abbrev pub leads_to : List ℕ → ℕ → List ℕ → Bool
leads_to p m q = comes_from p m (take record_size q)

abbrev pub leads_to_board : List ℕ → ℕ → BoardBuilder → Bool
leads_to_board p m next = comes_from p m (numbers next)

-- these counters are those after a move from a record with those numbers and counters
unfoldable pub counters_from : List ℕ → ℕ → ℕ → ℕ → ℕ → ℕ → Bool
counters_from numbers m half full half' full' =
    eqb half' (half_after numbers half (source_of m) (dest_of m)) && eqb full' (full_after (get_or numbers side_at 0) full)

-- from the record in the first 68 bytes of p
unfoldable pub counters_lead : List ℕ → ℕ → ℕ → ℕ → ℕ → ℕ → Bool
counters_lead p m half full half' full' = leb record_size (length p) && counters_from (take record_size p) m half full half' full'
