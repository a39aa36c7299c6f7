-- `settled_file` of settled.rt meets its contract: r ≡ settled_file (now squares.entry) side file.
use mathlib.Core.Path.{sym, ◌∙◌}
use borrow.Author.Tests.{ne_eqb}
use Rattle.settled_rules.specs.Settled.{usable, settled_file}
use Rattle.settled_rules.proofs.Settles.{none_stays}
use Rattle.board_after.proofs.settled.settled_file.Goals as goal

pub returns-then-file-eq0 : goal.returns-then-file-eq0
returns-then-file-eq0 c = rw c.if-file-eq0.true (sym (none_stays c.args.squares.now c.args.side))

pub returns-then-not-stood_beside : goal.returns-then-not-stood_beside
unfolding settled_file usable
returns-then-not-stood_beside c =
    let at-stood-beside = c.stood_beside in
    simp (
      ne_eqb _ _ c.if-file-eq0.false,
      ← c.own_pawn.ensures,
      ← c.stepped_pawn.ensures.square,
      sym at-stood-beside.ensures ∙ c.if-not-stood_beside.true,
    )

pub returns : goal.returns
unfolding settled_file usable
returns c =
    let at-stood-beside = c.stood_beside in
    simp (
      ne_eqb _ _ c.if-file-eq0.false,
      ← c.own_pawn.ensures,
      ← c.stepped_pawn.ensures.square,
      sym at-stood-beside.ensures ∙ c.if-not-stood_beside.false,
    )
