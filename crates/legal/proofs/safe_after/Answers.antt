-- `safe_after` of lib.rt meets its contract: r ≡ not (in_check (squares_after b.pieces (m % 64) (m / 64 % 64) (m / 4096)) b.«side_to_move»).
use mathlib.Core.Path.{ap, ◌∙◌}
use mathlib.Core.Bool.{not}
use mathlib.Core.List.{List}
use Prim.Native.Nat.{ℕ}
use Rattle.legal.proofs.Safety.{after_squares}
use Rattle.move_laws.specs.Attack.{in_check}
use Rattle.legal.proofs.safe_after.Goals as goal

pub returns : goal.returns
returns c =
    let b = c.args.p.now.board in
    let next = c.board_after-next in
    ap not (rw c.side.ensures at c.checked.ensures ∙ ap (λ (l : List ℕ). in_check l b.side_to_move)
    (after_squares b c.args.m next.result c.args.p.now.good c.requires next.ensures))
