-- The count of article 9.3 of the Laws of Chess (document 02, order 5): how many moves have been made since the last one that moved a pawn or captured,
-- or since the start. And the Laws' ruling: by this count, or by the run of positions as before.
-- Assumes nothing.
use Rattle.std.specs.Prelude.{Bool, cond, true, not, ◌&&◌, ◌||◌, List, [], ◌∷◌, ℕ, suc, leb}
use Rattle.position.specs.Layout.{Position}
use Rattle.claim.specs.Emptying.{irreversible, rights_differ}
use Rattle.claim.specs.Claim.{claim_count}
use Rattle.game_rules.specs.Rules.{Call, make_move, offer_draw, accept_draw, declare_draw, resign, History, begun, after, current, ruling, repeats}

-- a move that was made: the position before it, the move, the position after it
pub record Made : Type 0 where
  pub from : Position
  pub move : ℕ
  pub to : Position

-- the moves of a game, newest first; the other calls move nothing
abbrev pub made_by : Position → Call → List Made → List Made
made_by p (make_move m q) made = record { from = p; move = m; to = q } ∷ made
made_by p (offer_draw c) made = made
made_by p accept_draw made = made
made_by p declare_draw made = made
made_by p (resign c) made = made

unfoldable pub moves_made : History → List Made
moves_made (begun p) = []
moves_made (after h c) = made_by (current h) c (moves_made h)

-- it moved a pawn or captured
abbrev pub pawn_or_capture : Made → Bool
pawn_or_capture x = irreversible x.from x.move

-- how many came after the last that did
unfoldable pub since_last : List Made → ℕ
since_last [] = 0
since_last (x ∷ xs) = cond (pawn_or_capture x) 0 (suc (since_last xs))

unfoldable pub laws_count : History → ℕ
laws_count h = since_last (moves_made h)

-- a claim by the Laws' count, or by two earlier positions of the run that equal the last
unfoldable pub laws_claim_stands : History → Bool
laws_claim_stands h = leb claim_count (laws_count h) || leb 2 (repeats (ruling h).run)

-- none of the moves that the Laws' count counts has changed a right
unfoldable pub rights_kept : List Made → Bool
rights_kept [] = true
rights_kept (x ∷ xs) = cond (pawn_or_capture x) true (not (rights_differ x.from x.to) && rights_kept xs)
