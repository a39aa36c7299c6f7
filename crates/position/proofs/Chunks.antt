-- Positions as chunks of the part.
-- Assumes nothing.
use mathlib.Core.Path.{◌≡◌, refl, ap, ◌∙◌}
use mathlib.Core.List.{List}
use Prim.Native.Nat.{ℕ, zero, suc, ◌+◌, ◌*◌, ◌<◌}
use native.Mathlib.Omega.{arith}
use lib.ListN.{take, drop, get_or}
use lib.Seq.{drop-drop}
use Rattle.std.specs.Simd.{first_chunks}
use Rattle.answer.specs.Parts.{item}

-- a chunk is an item
pub chunk_item : (size n i : ℕ) (l : List ℕ) (d : List ℕ) → i < n → get_or (first_chunks size n l) i d ≡ item size l i
chunk_item size zero i l d h = absurd (omega arith)
chunk_item size (suc n) zero l d h =
    let e : size * 0 ≡ 0 = omega arith in
    rw e refl
chunk_item size (suc n) (suc i) l d h =
    let e : size + size * i ≡ size * suc i = omega arith in
    chunk_item size n i (drop size l) d (omega arith)
    ∙ ap (take size) (drop-drop (size * i) size l ∙ ap (λ (k : ℕ). drop k l) e)
