-- `rights_without` of lib.rt meets its contract: r ≡ rights_without color rights square.
use Rattle.move_rules.proofs.Rights.{gone_is, less_of}
use Rattle.board_after.proofs.rights_without.Goals as goal

pub returns : goal.returns
returns c =
    let a = c.args in
    let at_pre = c.requires in
    let at-square-to-castle-rights = c.square_to_castle_rights-gone in
    less_of a.color a.rights a.square _
    (gone_is a.color a.square at-square-to-castle-rights.result at_pre.0 at_pre.1 at-square-to-castle-rights.ensures) _ _
    c.saturating_sub.ensures c.saturating_sub-2.ensures
