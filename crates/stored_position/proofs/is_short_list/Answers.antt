-- `is_short_list` of lib.rt meets its contract: r ≡ list_fits (now s.entry) entries.
use mathlib.Core.Path.{◌≡◌, sym, ap, ◌∙◌}
use mathlib.Core.Bool.{true}
use native.Mathlib.Omega.{arith}
use Prim.Native.Nat.{ℕ, ◌+◌, ◌*◌, ◌-◌}
use lib.ListN.{take, drop}
use Rattle.answer.specs.Numbers.{all_at_most}
use Rattle.chess_move.specs.Number.{last_move}
use Rattle.position.specs.Layout.{moves_at}
use Rattle.stored_position.proofs.Blocks.{behind, part_to_end, not_near, far, not_past, by_moves, block_range}
use Rattle.stored_position.proofs.is_short_list.Goals as goal

pub returns-then-not-all_at_most : goal.returns-then-not-all_at_most
returns-then-not-all_at_most c =
    let a = c.args in
    let at-all-at-most = c.all_at_most in
    let s = a.s.now in
    let block = a.block in
    let end = moves_at + 2 * a.entries in
    let e : end + 2 * block - end ≡ 2 * block = omega arith in
    sym (not_near s a.entries block
    (ap (λ (n : ℕ). all_at_most 0 (take n (drop end s))) (sym e) ∙ sym at-all-at-most.ensures ∙ c.if-not-all_at_most.true))

pub returns-then-not-all_at_most-2 : goal.returns-then-not-all_at_most-2
returns-then-not-all_at_most-2 c =
    let a = c.args in
    let at-all-at-most = c.all_at_most in
    let at-if1 = c.if-not-all_at_most in
    let at-all-at-most2 = c.all_at_most-2 in
    let s = a.s.now in
    let block = a.block in
    let end = moves_at + 2 * a.entries in
    let e : end + 2 * block - end ≡ 2 * block = omega arith in
    let near : all_at_most 0 (take (2 * block) (drop end s)) ≡ true =
    ap (λ (n : ℕ). all_at_most 0 (take n (drop end s))) (sym e) ∙ sym at-all-at-most.ensures ∙ at-if1.false in
    let whole : at-all-at-most2.result ≡ all_at_most 0 (drop end s) =
    at-all-at-most2.ensures ∙ ap (all_at_most 0) (part_to_end s (behind block) c.told-s) ∙ far s a.entries block c.requires.0 near in
    sym (not_past s a.entries (sym whole ∙ c.if-not-all_at_most-2.true))

pub returns : goal.returns
returns c =
    let a = c.args in
    let at-all-at-most = c.all_at_most in
    let at-if1 = c.if-not-all_at_most in
    let at-all-at-most2 = c.all_at_most-2 in
    let s = a.s.now in
    let block = a.block in
    let end = moves_at + 2 * a.entries in
    let e : end + 2 * block - end ≡ 2 * block = omega arith in
    let near : all_at_most 0 (take (2 * block) (drop end s)) ≡ true =
    ap (λ (n : ℕ). all_at_most 0 (take n (drop end s))) (sym e) ∙ sym at-all-at-most.ensures ∙ at-if1.false in
    let whole : at-all-at-most2.result ≡ all_at_most 0 (drop end s) =
    at-all-at-most2.ensures ∙ ap (all_at_most 0) (part_to_end s (behind block) c.told-s) ∙ far s a.entries block c.requires.0 near in
    let z : all_at_most 0 (drop end s) ≡ true = sym whole ∙ c.if-not-all_at_most-2.false in
    c.moves_in_range.ensures ∙ block_range last_move s a.entries block (omega (arith, c.requires.0)) z ∙ sym (by_moves s a.entries z)
