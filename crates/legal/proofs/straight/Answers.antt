-- `straight` of lib.rt meets its contract: r ≡ file_or_rank s t.
use borrow.Author.Tests.{eq-eqb, ne_eqb}
use mathlib.Core.Path.{◌∙◌}
use Rattle.move_laws.specs.Apart.{file_or_rank}
use Rattle.legal.proofs.straight.Goals as goal

pub returns-then-way : goal.returns-then-way
unfolding file_or_rank
returns-then-way c = simp (eq-eqb _ _ c.if-way.true)

pub returns : goal.returns
unfolding file_or_rank
returns c =
    let at-if1 = c.if-way in
    let at-files-apart = c.files_apart-files in
    let at-ranks-apart = c.ranks_apart-ranks in
    c.either.ensures ∙ simp (ne_eqb _ _ at-if1.false, at-files-apart.ensures, at-ranks-apart.ensures)
