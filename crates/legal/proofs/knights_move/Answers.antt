-- `knights_move` of lib.rt meets its contract: r ≡ knights_move s t.
use mathlib.Core.Path.{◌∙◌}
use Rattle.move_laws.specs.Apart.{knights_move}
use Rattle.legal.proofs.knights_move.Goals as goal

pub returns : goal.returns
unfolding knights_move
returns c =
    let at-files-apart = c.files_apart-files in
    let at-ranks-apart = c.ranks_apart-ranks in
    let at_both = c.both in
    let at-both2 = c.both-2 in
    c.either.ensures ∙ simp (at_both.ensures, at-both2.ensures, at-files-apart.ensures, at-ranks-apart.ensures)
