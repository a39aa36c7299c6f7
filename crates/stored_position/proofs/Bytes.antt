-- The bytes of a list of moves, written move by move, and how many a position has.
-- Assumes nothing.
use mathlib.Core.Path.{◌≡◌, refl, ap, sym, ◌∙◌}
use mathlib.Core.List.{List, [], ◌∷◌, ◌++◌, append_assoc}
use Prim.Native.Nat.{ℕ, ◌+◌, ◌*◌, ◌<◌, ◌≤◌}
use native.Mathlib.Numerals.{add-one}
use native.Mathlib.Omega.{arith}
use lib.ListN.{length, set, take, get_or, length-append, length-replicate}
use lib.Seq.{take-suc, length-take-le}
use Rattle.answer.specs.Parts.{written}
use Rattle.answer.proofs.Parts.{written_next}
use Rattle.board_builder.specs.BoardBuilder.{record_size}
use Rattle.chess_move.specs.Number.{low_byte, high_byte}
use Rattle.move_list.specs.MoveList.{longest_list}
use Rattle.position.specs.Layout.{Position, position_size}
use Rattle.stored_position.specs.Bytes.{move_bytes, position_bytes}

pub length_move_bytes : (ms : List ℕ) → length (move_bytes ms) ≡ 2 * length ms
unfolding move_bytes
length_move_bytes [] = refl
length_move_bytes (m ∷ ms) = omega (arith, length_move_bytes ms)

move_bytes_append : (xs ys : List ℕ) → move_bytes (xs ++ ys) ≡ move_bytes xs ++ move_bytes ys
unfolding move_bytes
move_bytes_append [] ys = refl
move_bytes_append (m ∷ xs) ys = ap (λ (t : List ℕ). low_byte m ∷ high_byte m ∷ t) (move_bytes_append xs ys)

-- an iteration of the loop that writes moves
pub moves_turn : (l list : List ℕ) (at i : ℕ) → at + 2 * length list ≤ length l → i < length list
    → set (set (written l at (move_bytes (take i list))) (at + 2 * i) (low_byte (get_or list i 0))) (at + 2 * i + 1) (high_byte (get_or list i 0))
    ≡ written l at (move_bytes (take (i + 1) list))
unfolding move_bytes
moves_turn l list at i h k =
    let m : ℕ = get_or list i 0 in
    let xs : List ℕ = move_bytes (take i list) in
    let n : length xs ≡ 2 * i = length_move_bytes (take i list) ∙ ap (λ (x : ℕ). 2 * x) (length-take-le i list (omega arith)) in
    let e : take (i + 1) list ≡ take i list ++ (m ∷ []) = rw add-one (take-suc list i 0 k) in
    let f : move_bytes (take (i + 1) list) ≡ xs ++ (low_byte m ∷ high_byte m ∷ []) = ap move_bytes e ∙ move_bytes_append (take i list) (m ∷ []) in
    let o : length (xs ++ (low_byte m ∷ [])) ≡ 2 * i + 1 = length-append xs (low_byte m ∷ []) ∙ omega arith in
    ap (λ (w : List ℕ). set w (at + 2 * i + 1) (high_byte m)) (written_next l at xs (omega arith) (at + 2 * i) (low_byte m) (omega arith) (omega arith))
    ∙ written_next l at (xs ++ (low_byte m ∷ [])) (omega arith) (at + 2 * i + 1) (high_byte m) (omega arith) (omega arith)
    ∙ ap (written l at) (append_assoc xs (low_byte m ∷ []) (high_byte m ∷ []) ∙ sym f)

pub length_position : (p : Position) → length p.board ≡ record_size → length p.moves ≤ longest_list → length (position_bytes p) ≡ position_size
unfolding position_bytes
length_position p wide short = simp (length-append, length_move_bytes, length-replicate) (omega arith)
