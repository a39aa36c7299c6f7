-- `check` of lib.rt meets its contract: r ≡ check (now text.entry).
use mathlib.Core.Path.{ap, ◌∙◌}
use mathlib.Core.List.{[]}
use Prim.Native.Nat.{zero-le}
use lib.ListN.{length}
use borrow.Author.Tests.{le-ltb}
use Rattle.pgn_text.specs.Walk.{check, walk, walk_from}
use Rattle.pgn.specs.CodeWalkers.{count_of}
use Rattle.pgn.proofs.Walkers.{counted_of}
use Rattle.pgn.proofs.check.Goals as goal

pub returns : goal.returns
unfolding check walk_from
returns c =
    let a = c.args in
    let at-outward = c.outward in
    c.count_of.ensures ∙ ap count_of at-outward.ensures ∙ counted_of 0 (walk 0 0 [] a.text.now) ∙ simp (le-ltb (length a.text.now) 0 zero-le)
