-- One game with the lists of one host and of another (document 02, order 13): each host has one list for a record, by whatever rule it makes and sorts it.
-- Assumes nothing.
use Rattle.std.specs.Prelude.{ℕ, List}
use Rattle.position.specs.Layout.{Position}
use Rattle.game_rules.specs.Rules.{Call, make_move, offer_draw, accept_draw, declare_draw, resign, History, begun, after}

-- the list that a host makes for a record
abbrev pub Host : Type 0
Host = List ℕ → List ℕ

-- a position with that host's list in place of its own
abbrev pub listed : Host → Position → Position
listed host p = record { board = p.board; half = p.half; full = p.full; check = p.check; moves = host p.board }

abbrev pub call_relisted : Host → Call → Call
call_relisted host (make_move m p) = make_move m (listed host p)
call_relisted host (offer_draw c) = offer_draw c
call_relisted host accept_draw = accept_draw
call_relisted host declare_draw = declare_draw
call_relisted host (resign c) = resign c

-- the game as that host plays it: every list of it, the start's too
unfoldable pub game_of : Host → History → History
game_of host (begun p) = begun (listed host p)
game_of host (after h c) = after (game_of host h) (call_relisted host c)
