use mathlib.Core.Path.{◌≡◌, ap, ◌∙◌}
use mathlib.Core.List.{List, [], ◌∷◌}
use native.Mathlib.Omega.{arith}
use Prim.Native.Nat.{ℕ, ◌+◌, ◌*◌, ◌/◌, ◌%◌}
use lib.ListN.{set, get_or}
use Rattle.answer.proofs.Parts.{written_none}
use Rattle.chess_move.specs.Number.{low_byte, high_byte}
use Rattle.stored_position.specs.Bytes.{move_bytes}
use Rattle.stored_position.proofs.Bytes.{moves_turn}
use Rattle.stored_position.proofs.write_moves.Goals as goal

pub loop-i-init : goal.loop-i-init
unfolding move_bytes
loop-i-init c = written_none c.args.out.now c.args.at

pub loop-i-preserved : goal.loop-i-preserved
loop-i-preserved c =
    let list = c.args.list.now in
    let at = c.args.at in
    let i = c.loop-i.i in
    let m : ℕ = get_or list i 0 in
    let high : m / 256 % 256 ≡ m / 256 = omega arith in
    let e : c.to_le_bytes.result ≡ low_byte m ∷ high_byte m ∷ [] = c.to_le_bytes.ensures ∙ ap (λ (x : ℕ). low_byte m ∷ x ∷ []) high in
    ap (λ (b : List ℕ). set (set c.loop-i.out (at + 2 * i) (get_or b 0 0)) (at + 2 * i + 1) (get_or b 1 0)) e
    ∙ ap (λ (w : List ℕ). set (set w (at + 2 * i) (low_byte m)) (at + 2 * i + 1) (high_byte m)) c.loop-i.invariant
    ∙ moves_turn c.args.out.now list at i c.requires c.loop-i-test.true
