use borrow.Author.Rules.{rules}
use mathlib.Core.Path.{◌≡◌, ◌∙◌, sym, ap}
use native.Mathlib.Omega.{arith}
use Prim.Native.Nat.{ℕ, ◌+◌, ◌-◌, ◌*◌, ◌≤◌, max}
use lib.ListN.{length, take, drop}
use Rattle.answer.specs.Numbers.{largest}
use Rattle.answer.proofs.Maxima.{largest_end, largest_part, largest_at_most}
use lib.Dec.{leb}
use Rattle.board_builder.proofs.codes_in_range.Goals as goal

pub loop-rank-preserved : goal.loop-rank-preserved
loop-rank-preserved c =
    let pieces = c.args.pieces in
    let at = c.loop-rank in
    let r = at.rank in
    let most = at.most in
    let next : r * 8 + 8 ≡ (r + 1) * 8 = omega arith in
    let eight : r * 8 + 8 - r * 8 ≡ 8 = omega arith in
    ap (λ (m : ℕ). max m (largest (drop ((r + 1) * 8) pieces))) (c.max-most.ensures ∙ ap (max most) c.largest.ensures)
    ∙ ap (λ (k : ℕ). max (max most (largest (take k (drop (r * 8) pieces)))) (largest (drop ((r + 1) * 8) pieces))) eight
    ∙ ap (λ (k : ℕ). max (max most (largest (take 8 (drop (r * 8) pieces)))) (largest (drop k pieces))) (sym next)
    ∙ sym (largest_part pieces most (r * 8) 8)
    ∙ at.invariant

pub returns : goal.returns
returns c =
    let pieces = c.args.pieces in
    let long : length pieces ≡ 64 = search rules in
    let h : length pieces ≤ c.loop-rank.rank * 8 = omega arith in
    ap (λ (m : ℕ). leb m 12) (sym (largest_end pieces c.loop-rank.most (c.loop-rank.rank * 8) h) ∙ c.loop-rank.invariant)
    ∙ largest_at_most 12 pieces
