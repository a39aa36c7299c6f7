-- `BoardBuilder::bytes` of lib.rt meets its contract: r ≡ numbers self.
use mathlib.Core.Path.{◌≡◌, ap, ◌∙◌}
use mathlib.Core.List.{List, [], ◌∷◌, ◌++◌}
use Prim.Native.Nat.{ℕ}
use lib.ListN.{length, set}
use borrow.Author.Rules.{length_unmapped}
use Rattle.board_builder.specs.BoardBuilder.{squares}
use Rattle.board_builder.proofs.Bytes.{put_together}
use Rattle.board_builder.proofs.BoardBuilder.bytes.Goals as goal

pub returns : goal.returns
returns c =
    let b = c.args.self in
    let long : length b.pieces ≡ squares = search length_unmapped in
    ap (λ (p : List ℕ). set (set (set (set (p ++ 0 ∷ 0 ∷ 0 ∷ 0 ∷ []) 64 b.side_to_move) 65 b.white_castle_rights) 66 b.black_castle_rights) 67 b.en_passant)
    c.copy_from_slice.ensures.after
    ∙ put_together b long
