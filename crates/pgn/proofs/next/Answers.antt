-- `next` of lib.rt meets its contract: r ≡ next_move (now text.entry) offset level.
use mathlib.Core.Path.{sym, ap, ◌∙◌}
use native.Mathlib.Omega.{arith}
use lib.ListN.{replicate, length-replicate}
use borrow.Author.Tests.{lt-ltb, le-ltb}
use Rattle.pgn_text.specs.Walk.{Walk, next_move, first_move, walk_from}
use Prim.Native.Nat.{◌<◌}
use Rattle.pgn.specs.CodeWalkers.{move_walked, outcome}
use Rattle.pgn.proofs.Walkers.{first_from, near_told, placed}
use Rattle.pgn.proofs.next.Goals as goal

pub returns-then-level-gt-DEEPEST : goal.returns-then-level-gt-DEEPEST
unfolding next_move walk_from first_move
returns-then-level-gt-DEEPEST c = simp (lt-ltb _ _ c.if-level-gt-DEEPEST.true, c.no_move.ensures)

pub returns-then-text-offset : goal.returns-then-text-offset
unfolding next_move walk_from first_move
returns-then-text-offset c = simp (le-ltb _ _ c.if-level-gt-DEEPEST.false, lt-ltb _ _ c.if-text-offset.true, c.no_move-then-text-offset.ensures)

pub returns-in-Some : goal.returns-in-Some
unfolding walk_from move_walked
returns-in-Some c =
    let at-args = c.args in
    let at-if1 = c.if-level-gt-DEEPEST in
    let at-if2 = c.if-text-offset in
    let os = replicate at-args.level at-args.offset in
    let low : at-args.level < 9 = omega (arith, at-if1.false) in
    c.move_at.ensures ∙ sym
    (ap move_walked
    (near_told at-args.text.now 9 at-args.level at-args.offset _ os (length-replicate at-args.level at-args.offset) low c.in-Some.ensures))
    ∙ ap (λ (w : Walk). move_walked (outcome 9 0 w)) (placed at-args.text.now at-args.offset at-args.level at-if1.false at-if2.false)
    ∙ first_from at-args.text.now at-args.offset at-args.level

pub returns : goal.returns
returns c =
    let at-args = c.args in
    let at-if1 = c.if-level-gt-DEEPEST in
    let at-if2 = c.if-text-offset in
    let at-outward = c.outward in
    c.move_of.ensures ∙ ap move_walked at-outward.ensures
    ∙ ap (λ (w : Walk). move_walked (outcome 9 0 w)) (placed at-args.text.now at-args.offset at-args.level at-if1.false at-if2.false)
    ∙ first_from at-args.text.now at-args.offset at-args.level
