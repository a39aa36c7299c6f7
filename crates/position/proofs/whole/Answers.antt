-- `whole` of lib.rt meets its contract.
use mathlib.Core.Path.{◌∙◌, ap}
use mathlib.Core.List.{List, []}
use native.Mathlib.Omega.{arith}
use Prim.Native.Nat.{ℕ, ◌/◌}
use lib.ListN.{length, get_or}
use Rattle.position.specs.Layout.{position_size}
use Rattle.position.proofs.Chunks.{chunk_item}
use Rattle.position.proofs.whole.Goals as goal

pub returns-clause-items : goal.returns-clause-items
returns-clause-items c =
    let ps = c.args.ps.now in
    λ k h. ap (λ (l : List (List ℕ)). get_or l k []) c.as_chunks.ensures.front
    ∙ chunk_item position_size (length ps / position_size) k ps [] (omega (arith, h, c.as_chunks.ensures.front_len))
