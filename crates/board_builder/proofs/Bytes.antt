-- The record's numbers put together in an array: the squares, then the four numbers behind them.
-- Assumes nothing.
use mathlib.Core.Path.{◌≡◌, ap, ◌∙◌}
use mathlib.Core.List.{List, [], ◌∷◌, ◌++◌}
use Prim.Native.Nat.{ℕ}
use native.Mathlib.Omega.{arith}
use lib.ListN.{length, set}
use Rattle.std.proofs.lemmas.List.{set-append_right}
use Rattle.board_builder.specs.declared.BoardBuilder.{BoardBuilder}
use Rattle.board_builder.specs.BoardBuilder.{squares, numbers}

pub put_together : (b : BoardBuilder) → length b.pieces ≡ squares
    → set (set (set (set (b.pieces ++ 0 ∷ 0 ∷ 0 ∷ 0 ∷ []) 64 b.side_to_move) 65 b.white_castle_rights) 66 b.black_castle_rights) 67 b.en_passant
    ≡ numbers b
unfolding numbers
put_together b long =
    let s : ℕ = b.side_to_move in
    let w : ℕ = b.white_castle_rights in
    let k : ℕ = b.black_castle_rights in
    let f : ℕ = b.en_passant in
    let p : List ℕ = b.pieces in
    ap (λ (t : List ℕ). set (set (set t 65 w) 66 k) 67 f) (set-append_right p (0 ∷ 0 ∷ 0 ∷ 0 ∷ []) 64 64 s long (omega arith))
    ∙ ap (λ (t : List ℕ). set (set t 66 k) 67 f) (set-append_right p (s ∷ 0 ∷ 0 ∷ 0 ∷ []) 64 65 w long (omega arith))
    ∙ ap (λ (t : List ℕ). set t 67 f) (set-append_right p (s ∷ w ∷ 0 ∷ 0 ∷ []) 64 66 k long (omega arith))
    ∙ set-append_right p (s ∷ w ∷ k ∷ 0 ∷ []) 64 67 f long (omega arith)
