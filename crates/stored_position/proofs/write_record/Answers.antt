-- `write_record` of lib.rt meets its contract: now out.exit ≡ written (now out.entry) 0 (numbers b ++ counter_bytes b.«half_moves» b.«full_moves»).
use borrow.Author.Rules.{length_unmapped}
use mathlib.Core.Path.{◌≡◌, refl, ap, ap₂, sym, ◌∙◌}
use mathlib.Core.List.{List, [], ◌∷◌, ◌++◌}
use native.Mathlib.Omega.{arith}
use Prim.Native.Nat.{ℕ}
use lib.ListN.{length, drop, get_or, length-take}
use Rattle.answer.specs.Parts.{written}
use Rattle.chess_move.specs.Number.{low_byte, high_byte}
use Rattle.board_builder.specs.BoardBuilder.{squares, side_at}
use Rattle.stored_position.proofs.Writes.{record_written, put_written, counter_two, rest_of}
use Rattle.stored_position.proofs.write_record.Goals as goal

pub slice_bounds-copy_from_slice-end-2 : goal.slice_bounds-copy_from_slice-end-2
slice_bounds-copy_from_slice-end-2 c = sym (length-take 64 c.args.out.now ∙ omega arith)

pub copy_from_slice-requires : goal.copy_from_slice-requires
copy_from_slice-requires c =
    let long : length c.args.b.pieces ≡ squares = search length_unmapped in
    length-take 64 c.args.out.now ∙ omega arith

pub returns : goal.returns
returns c =
    let out = c.args.out.now in
    let b = c.args.b in
    let long : length b.pieces ≡ squares = search length_unmapped in
    let first : c.copy_from_slice.new.self ++ drop 64 out ≡ written out 0 b.pieces =
    ap (λ (w : List ℕ). w ++ drop 64 out) c.copy_from_slice.ensures.after ∙ rw long refl in
    let half : c.to_le_bytes.result ≡ low_byte b.half_moves ∷ high_byte b.half_moves ∷ [] = counter_two b.half_moves c.to_le_bytes.ensures (omega arith) in
    let full : c.to_le_bytes-2.result ≡ low_byte b.full_moves ∷ high_byte b.full_moves ∷ [] = counter_two b.full_moves c.to_le_bytes-2.ensures (omega arith) in
    let rest : c.copy_from_slice-2.new.self ≡ rest_of b =
    c.copy_from_slice-2.ensures.after
    ∙ ap₂ (λ (h f : List ℕ). b.side_to_move ∷ b.white_castle_rights ∷ b.black_castle_rights ∷ b.en_passant
    ∷ get_or h 0 0 ∷ get_or h 1 0 ∷ get_or f 0 0 ∷ get_or f 1 0 ∷ []) half full in
    record_written b out _ _ long c.requires first
    (put_written _ _ side_at 8 (ap length rest) ∙ ap (written (c.copy_from_slice.new.self ++ drop 64 out) side_at) rest)
