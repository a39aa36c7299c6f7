-- What the writer of a position answers and leaves in its room, in its three cases; and the bytes it writes, piece by piece.
-- Assumes nothing.
use mathlib.Core.Path.{◌≡◌, refl, ap, sym, ◌∙◌}
use mathlib.Core.List.{List, [], ◌∷◌, ◌++◌, append_assoc}
use Prim.Native.Nat.{ℕ, ◌+◌, ◌*◌, ◌-◌, ◌/◌, ◌%◌, ◌<◌, ◌≤◌}
use native.Mathlib.Omega.{arith}
use borrow.Rule.Slice.PartMut.{put_mid}
use lib.ListN.{length, take, drop, set, replicate, length-append, length-replicate}
use lib.Seq.{drop-drop}
use Rattle.std.specs.Int.{to_le_bytes, w16}
use Rattle.answer.specs.Answer.{accepted, refused, too_short}
use Rattle.answer.specs.Parts.{written}
use Rattle.answer.proofs.Parts.{set_written, written_behind, written_next}
use Rattle.answer.proofs.Writes.{Written, write_refused, write_short, write_fits}
use Rattle.board_builder.specs.declared.BoardBuilder.{BoardBuilder}
use Rattle.board_builder.specs.BoardBuilder.{squares, side_at, record_size, numbers}
use Rattle.chess_move.specs.Number.{low_byte, high_byte}
use Rattle.move_list.specs.MoveList.{longest_list}
use Rattle.position.specs.Layout.{Position, check_at, moves_at, position_size}
use Rattle.stored_position.specs.Bytes.{move_bytes, counter_bytes, position_bytes, position_check}
use Rattle.stored_position.proofs.Bytes.{length_move_bytes, length_position}
use Rattle.stored_position.proofs.Checks.{position_fits}

-- a part of a slice that was lent, and holds other bytes now
pub put_written : (l bytes : List ℕ) (at k : ℕ) → length bytes ≡ k → put_mid at k l bytes ≡ written l at bytes
put_written l bytes at k h = rw (← h, drop-drop (length bytes) at l) (sym (append_assoc (take at l) bytes (drop (at + length bytes) l)))

-- two bytes, written one after the other
pub two_written : (l : List ℕ) (i x y : ℕ) → i + 2 ≤ length l → set (set l i x) (i + 1) y ≡ written l i (x ∷ y ∷ [])
two_written l i x y h =
    ap (λ (w : List ℕ). set w (i + 1) y) (set_written l i x (omega arith)) ∙ written_next l i (x ∷ []) (omega arith) (i + 1) y refl (omega arith)

-- a counter's two bytes, low first
pub counter_two : (n : ℕ) {r : List ℕ} → r ≡ to_le_bytes w16 n → n < 65536 → r ≡ low_byte n ∷ high_byte n ∷ []
counter_two n e h = let high : n / 256 % 256 ≡ n / 256 = omega arith in e ∙ ap (λ (x : ℕ). low_byte n ∷ x ∷ []) high

-- the squares, and the four numbers and the counters behind them
abbrev pub rest_of : BoardBuilder → List ℕ
rest_of b =
    b.side_to_move ∷ b.white_castle_rights ∷ b.black_castle_rights ∷ b.en_passant ∷ counter_bytes b.half_moves b.full_moves

pub record_written : (b : BoardBuilder) (l m n : List ℕ) → length b.pieces ≡ squares → check_at ≤ length l
    → m ≡ written l 0 b.pieces
    → n ≡ written m side_at (rest_of b)
    → n ≡ written l 0 (numbers b ++ counter_bytes b.half_moves b.full_moves)
unfolding numbers
record_written b l m n long h e f =
    let four : List ℕ = b.side_to_move ∷ b.white_castle_rights ∷ b.black_castle_rights ∷ b.en_passant ∷ [] in
    f
    ∙ ap (λ (w : List ℕ). written w side_at (rest_of b)) e
    ∙ written_behind l 0 b.pieces (omega arith) side_at (rest_of b) (omega arith) (omega arith)
    ∙ ap (written l 0) (sym (append_assoc b.pieces four (counter_bytes b.half_moves b.full_moves)))

-- the record, the two bytes behind it, the moves, and zeros to the end
module _ (l numbers : List ℕ) (half full check : ℕ) (list : List ℕ) (wide : length numbers ≡ record_size) (short : length list ≤ longest_list)
    (room : position_size ≤ length l) where
  abbrev b : List ℕ
  b = numbers ++ counter_bytes half full

  long : length b ≡ check_at
  long = length-append numbers (counter_bytes half full) ∙ omega arith

  abbrev two : List ℕ
  two = check ∷ length list ∷ []

  abbrev to : ℕ
  to = moves_at + 2 * length list

  abbrev zeros : List ℕ
  zeros = replicate (position_size - to) 0

  in_one : written (written (written (written l 0 b) check_at two) moves_at (move_bytes list)) to zeros ≡ written l 0 (b ++ two ++ move_bytes list ++ zeros)
  in_one =
      let mb : List ℕ = move_bytes list in
      let lb : length b ≡ check_at = long in
      let lm : length mb ≡ 2 * length list = length_move_bytes list in
      let lz : length zeros ≡ position_size - to = length-replicate (position_size - to) 0 in
      let l₂ : length (b ++ two) ≡ moves_at = length-append b two ∙ omega arith in
      let l₃ : length (b ++ two ++ mb) ≡ to = length-append (b ++ two) mb ∙ omega arith in
      ap (λ (x : List ℕ). written (written x moves_at mb) to zeros) (written_behind l 0 b (omega arith) check_at two (omega arith) (omega arith))
      ∙ ap (λ (x : List ℕ). written x to zeros) (written_behind l 0 (b ++ two) (omega arith) moves_at mb (omega arith) (omega arith))
      ∙ written_behind l 0 (b ++ two ++ mb) (omega arith) to zeros (omega arith) (omega arith)

  whole : b ++ two ++ move_bytes list ++ zeros ≡ position_bytes (record { board = numbers; half = half; full = full; check = check; moves = list })
  unfolding position_bytes
  whole =
      let mb : List ℕ = move_bytes list in
      let as_many : position_size - to ≡ 2 * (longest_list - length list) = omega arith in
      append_assoc (b ++ two) mb zeros
      ∙ append_assoc b two (mb ++ zeros)
      ∙ ap (λ (k : ℕ). b ++ (check ∷ length list ∷ (mb ++ replicate k 0))) as_many
      ∙ append_assoc numbers (counter_bytes half full) (check ∷ length list ∷ (mb ++ replicate (2 * (longest_list - length list)) 0))

  pub position_written : (l₁ l₂ l₃ l₄ : List ℕ) → l₁ ≡ written l 0 b → l₂ ≡ written l₁ check_at two → l₃ ≡ written l₂ moves_at (move_bytes list)
      → l₄ ≡ written l₃ to zeros → l₄ ≡ written l 0 (position_bytes (record { board = numbers; half = half; full = full; check = check; moves = list }))
  position_written l₁ l₂ l₃ l₄ e₁ e₂ e₃ e₄ =
      e₄
      ∙ ap (λ (x : List ℕ). written x to zeros)
      (e₃ ∙ ap (λ (x : List ℕ). written x moves_at (move_bytes list)) (e₂ ∙ ap (λ (x : List ℕ). written x check_at two) e₁))
      ∙ in_one
      ∙ ap (written l 0) whole

-- the three cases, by what the checks gave
module _ (p : Position) (out : List ℕ) (n : ℕ) (checked : n ≡ position_check p) where
  pub way_refused : (n ≡ 0 → ⊥) → Written (position_check p) (position_bytes p) out (refused n) out
  way_refused h = rw (← checked) (write_refused n (position_bytes p) out h)

  passed : n ≡ 0 → (position_check p ≡ 0) × (length (position_bytes p) ≡ position_size)
  passed h =
      let z : position_check p ≡ 0 = sym checked ∙ h in
      let s = position_fits p z in
      (z, length_position p s.wide s.short)

  pub way_short : n ≡ 0 → length out < position_size → Written (position_check p) (position_bytes p) out (too_short position_size) out
  way_short h less =
      let d = passed h in
      rw (d.0, ← d.1) (write_short (position_bytes p) out (omega arith))

  pub way_written : n ≡ 0 → position_size ≤ length out
      → Written (position_check p) (position_bytes p) out (accepted position_size) (written out 0 (position_bytes p))
  way_written h room =
      let d = passed h in
      let e : 0 + length (position_bytes p) ≡ length (position_bytes p) = omega arith in
      rw (d.0, ← d.1, e) (write_fits (position_bytes p) out (omega arith))
