-- `after` of lib.rt meets its contract: r ≡ with_counters (after_parts b source dest promotion) half full.
use Rattle.move_rules.specs.After.{after_parts}
use Rattle.board_after.proofs.after.Goals as goal

pub returns : goal.returns
unfolding after_parts
returns c =
    let at-file-after = c.file_after-file in
    let at-move-men = c.move_men in
    let at-side-after = c.side_after in
    simp (at-move-men.ensures, at-file-after.ensures, at-side-after.ensures, c.rights_after.ensures, c.rights_after-2.ensures)
