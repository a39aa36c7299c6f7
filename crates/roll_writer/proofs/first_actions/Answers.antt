use mathlib.Core.Path.{◌≡◌, ap, sym, ◌∙◌}
use Prim.Native.Nat.{ℕ, ◌/◌}
use native.Mathlib.Omega.{arith}
use lib.ListN.{length, take, length-take}
use Rattle.std.specs.Simd.{first_chunks}
use Rattle.roll_writer.proofs.Counting.{take_chunks}
use Rattle.roll_writer.proofs.first_actions.Goals as goal

pub returns : goal.returns
returns c =
    let acts = c.args.acts.now in
    let n = c.args.n in
    let whole = c.as_chunks.result.0.now in
    let long : length (take n whole) ≡ n = length-take n whole ∙ omega (arith, c.requires, c.as_chunks.ensures.front_len) in (
      ap (take n) c.as_chunks.ensures.front ∙ take_chunks n (length acts / 4) acts (omega (arith, c.requires))
          ∙ ap (λ (k : ℕ). first_chunks 4 k acts) (sym long),
      long,
    )
