-- Whether either side's rights differ between two positions, whichever of them has more (document 01, "Draws and endings").
-- Assumes nothing.
use Rattle.std.specs.Prelude.{◌≡◌, true, false, [], ◌∷◌}
use Prim.Native.String.{String}
use Rattle.claim.specs.Emptying.{rights_differ}
use Rattle.game_rules.specs.Rules.{History, begun, after}
use Rattle.laws.specs.Laws.{moves_made, rights_kept}
use Rattle.log_rows.specs.Games.{stands, plays}

-- a king's step from a start, after which nobody has rights
abbrev pub king_goes : String → History
king_goes fen = after (begun (stands fen 0 ("e1d1" ∷ []))) (plays "e1d1" (stands "8/8/8/8/8/8/8/3K4 b - -" 0 []))

pub record RightsCompared : Type 0 where
  pub alike : rights_differ (stands "8 w Qk -" 0 []) (stands "8 w Qk -" 0 []) ≡ false
  pub white_gains : rights_differ (stands "8 w K -" 0 []) (stands "8 w KQ -" 0 []) ≡ true
  pub white_loses : rights_differ (stands "8 w KQ -" 0 []) (stands "8 w Q -" 0 []) ≡ true
  pub black_gains : rights_differ (stands "8 w k -" 0 []) (stands "8 w kq -" 0 []) ≡ true
  pub black_loses : rights_differ (stands "8 w kq -" 0 []) (stands "8 w q -" 0 []) ≡ true
  -- over the moves that the Laws count: the position after a move is compared with the one before it
  pub lost : rights_kept (moves_made (king_goes "8/8/8/8/8/8/8/4K3 w K -")) ≡ false
  pub kept : rights_kept (moves_made (king_goes "8/8/8/8/8/8/8/4K3 w - -")) ≡ true
