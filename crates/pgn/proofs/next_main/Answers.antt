-- `next_main` of lib.rt meets its contract: r ≡ next_main (now text.entry) offset.
use mathlib.Core.Path.{sym, ap, ◌∙◌, refl}
use mathlib.Core.List.{[]}
use native.Mathlib.Omega.{arith}
use Prim.Native.Nat.{◌<◌, zero-le}
use borrow.Author.Tests.{lt-ltb}
use Rattle.pgn_text.specs.Walk.{Walk, walk_from}
use Rattle.pgn_text.specs.Main.{first_main, next_main}
use Rattle.pgn.specs.CodeWalkers.{move_walked, outcome}
use Rattle.pgn.proofs.Walkers.{main_of, near_told, placed}
use Rattle.pgn.proofs.next_main.Goals as goal

pub returns-then-text-offset : goal.returns-then-text-offset
unfolding next_main walk_from first_main
returns-then-text-offset c = simp (lt-ltb _ _ c.if-text-offset.true, c.no_move.ensures)

pub returns-in-Some : goal.returns-in-Some
unfolding next_main move_walked
returns-in-Some c =
    let at-args = c.args in
    let at-if1 = c.if-text-offset in
    let low : 0 < 1 = omega arith in
    c.move_at.ensures ∙ sym (ap move_walked (near_told at-args.text.now 1 0 at-args.offset _ [] refl low c.in-Some.ensures))
    ∙ ap (λ (w : Walk). move_walked (outcome 1 0 w)) (placed at-args.text.now at-args.offset 0 zero-le at-if1.false)
    ∙ main_of 0 (walk_from at-args.text.now at-args.offset 0)

pub returns : goal.returns
unfolding next_main
returns c = let a = c.args in
    c.move_of.ensures ∙ ap move_walked c.outward.ensures
    ∙ ap (λ (w : Walk). move_walked (outcome 1 0 w)) (placed a.text.now a.offset 0 zero-le c.if-text-offset.false)
    ∙ main_of 0 (walk_from a.text.now a.offset 0)
