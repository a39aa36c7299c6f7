-- `near` of walk.rt meets its contract: a move that is answered is near the place.
use mathlib.Core.Path.{◌≡◌, sym, ap, ◌∙◌}
use Prim.Native.Nat.{◌+◌, ◌-◌, ◌≤◌}
use native.Mathlib.Omega.{arith}
use lib.ListN.{length, drop, length-drop}
use Rattle.pgn_text.specs.declared.Run.TheVariants.{MoveBytes}
use Rattle.pgn_text.specs.declared.Token.TheVariants.{Move}
use Rattle.pgn_text.specs.Bytes.{run_length}
use Rattle.pgn_text.proofs.Runs.{run_within}
use Rattle.pgn.proofs.Walkers.{white_passed, move_stands}
use Rattle.pgn.proofs.walk.near.Goals as goal

pub overflow_add-result : goal.overflow_add-result
overflow_add-result c =
    let a = c.args in
    let s = a.s.now in
    let n = a.place + 1 + 1 in
    let w : run_length MoveBytes (drop n s) ≤ length (drop n s) = run_within MoveBytes (drop n s) in
    let l : length (drop n s) ≡ length s - n = length-drop n s in
    let e : c.run_length.result ≡ run_length MoveBytes (drop n s) = c.run_length.ensures ∙ ap (run_length MoveBytes) c.rest.ensures in
    omega arith

pub returns : goal.returns
returns c =
    let a = c.args in
    let at-is-white = c.is_white in
    let at-starts-move = c.starts_move in
    let s = a.s.now in
    let p = a.place in
    let e : c.run_length.result ≡ run_length MoveBytes (drop (p + 1 + 1) s) = c.run_length.ensures ∙ ap (run_length MoveBytes) c.rest.ensures in
    let f : run_length MoveBytes (drop (p + 1 + 1) s) ≡ c.run_length.result + 1 - 1 = omega arith in
    let w = sym at-is-white.ensures
    ∙ c.if-not-is_white.false in
    let x = sym c.is_white-2.ensures ∙ c.if-is_white.false in
    let y = sym at-starts-move.ensures ∙ c.if-not-starts_move.false in (
      omega arith,
      omega (arith, c.if-s-at.false),
      white_passed s p w,
      move_stands s (p + 1) x y
          ∙ ap Move f,
    )
