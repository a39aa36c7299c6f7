-- The form of document 01 is lawful.
-- Assumes nothing.
use Prim.Native.Nat.{ℕ, ◌+◌, ◌/◌, ◌%◌, ◌<◌}
use mathlib.Core.Path.{◌≡◌, refl, ◌∙◌}
use mathlib.Core.Bool.{Bool, true, false, cond, not, ◌&&◌, ◌||◌}
use mathlib.Core.List.{List, [], ◌∷◌, ◌++◌}
use native.Mathlib.Omega.{arith}
use lib.ListN.{get_or, drop}
use Rattle.std.specs.Prelude.{Some}
use Rattle.answer.specs.Numbers.{same}
use Rattle.chess_move.specs.Number.{source_of, dest_of, promotion_of}
use Rattle.san_text.specs.declared.SanText.TheVariants.{Move}
use Rattle.san_text.specs.Place.{given, file_place, rank_place, square_at, file_byte, rank_byte}
use Rattle.san_text.specs.Text.{king_side_text, queen_side_text, mark_text, promotion_kind, is_check, first_byte}
use Rattle.san_text.specs.Text.{after, piece_or, read_end, read_promotion, read_dest, read_text}
use Rattle.san_text.specs.Resolve.{kind_on, empty_on, capture_test}
use Rattle.san_text.specs.Name.{optional, promotion_letter, piece_letter, changes_files, takes_of}
use Rattle.san_text.specs.Paper.{mark_of, end_of, san_text, paper}
use Rattle.san_text.proofs.Says.{Moves, Promotes, promotes, Says, says_cond, says_piece}
use Rattle.san_text.proofs.Front.{letter_kind, piece_back, less, there, square_back, no_castling, both_with, after_file, both_text, both_read}
use Rattle.san_text.proofs.Lawful.{Castling, Lawful}

-- ---- what a text can say

say_tail : (k f r : ℕ) (x : Bool) (sq : ℕ) (s : List ℕ) → Moves (piece_or k) → Says (read_promotion k f r x sq s)
unfolding read_promotion read_end
say_tail k f r x sq s h = Says.move h (promotes (first_byte s))

say_dest : (k f r : ℕ) (x : Bool) (s : List ℕ) → Moves (piece_or k) → Says (read_dest k f r x s)
unfolding read_dest
say_dest k f r x s h =
    let q = square_at (file_place (first_byte s)) (rank_place (get_or s 1 0)) in
    says_cond (given q) (say_tail k f r x q (drop 2 s) h)
    (says_cond (given (square_at f r)) (say_tail k 0 0 x (square_at f r) s h) Says.nothing_said)

says : (s : List ℕ) → Says (read_text s)
unfolding read_text
says s = says_cond (same s king_side_text) Says.king_side (says_cond (same s queen_side_text) Says.queen_side (says_piece read_dest say_dest s))

-- ---- the text with both source parts

read_dest_lem : (k f r : ℕ) (x : Bool) (sq : ℕ) (s : List ℕ) → sq < 64 → read_dest k f r x (file_byte sq ∷ rank_byte sq ∷ s) ≡ read_promotion k f r x (sq + 1) s
unfolding read_dest
read_dest_lem k f r x sq s h = rw (square_back sq h, there sq)

read_tail : (k f r : ℕ) (x : Bool) (sq : ℕ) {p : ℕ} → Promotes p → (mark : Bool)
    → read_promotion k f r x (sq + 1) (promotion_letter p ++ optional mark mark_text)
    ≡ Some (Move (record { piece = piece_or k; file = f; rank = r; takes = x; dest = sq; promotion = p; mark = mark }))
unfolding read_promotion read_end promotion_letter promotion_kind is_check after same optional
read_tail k f r x sq Promotes.nothing true = rw (less sq)
read_tail k f r x sq Promotes.nothing false = rw (less sq)
read_tail k f r x sq Promotes.knight true = rw (less sq)
read_tail k f r x sq Promotes.knight false = rw (less sq)
read_tail k f r x sq Promotes.bishop true = rw (less sq)
read_tail k f r x sq Promotes.bishop false = rw (less sq)
read_tail k f r x sq Promotes.rook true = rw (less sq)
read_tail k f r x sq Promotes.rook false = rw (less sq)
read_tail k f r x sq Promotes.queen true = rw (less sq)
read_tail k f r x sq Promotes.queen false = rw (less sq)

read_both : (pieces : List ℕ) (m : ℕ) → Moves (kind_on pieces (source_of m)) → Promotes (promotion_of m)
    → read_text (san_text pieces m true true) ≡ Some (Move (both_with pieces m (takes_of pieces m) (mark_of pieces m)))
unfolding read_text san_text end_of
read_both pieces m k p =
    rw (text, no_castling k src (after_file pieces m tail) (45 ∷ 79 ∷ []), no_castling k src (after_file pieces m tail) (45 ∷ 79 ∷ 45 ∷ 79 ∷ []))
    (both_read pieces m tail read_dest k
    ∙ read_dest_lem kind (src % 8 + 1) (src / 8 + 1) (takes_of pieces m) (dest_of m) tail (omega arith)
    ∙ rw (piece_back k) at (read_tail kind (src % 8 + 1) (src / 8 + 1) (takes_of pieces m) (dest_of m) p (mark_of pieces m)))
  where
    src : ℕ
    src = source_of m

    kind : ℕ
    kind = letter_kind (kind_on pieces src)

    tail : List ℕ
    tail = promotion_letter (promotion_of m) ++ optional (mark_of pieces m) mark_text

    text : san_text pieces m true true ≡ piece_letter (kind_on pieces src) ++ (file_byte src ∷ after_file pieces m tail)
    text = both_text pieces m tail

both_captures : (pieces : List ℕ) (m : ℕ) → capture_test pieces (both_with pieces m (takes_of pieces m) (mark_of pieces m)) m ≡ true
unfolding capture_test takes_of mark_of
both_captures pieces m = go (empty_on pieces (dest_of m)) (changes_files pieces m)
  where
    go : (e c : Bool) → cond (not e || c) (c && e || not e) e ≡ true
    go true true = refl
    go true false = refl
    go false true = refl
    go false false = refl

pub paper_lawful : Lawful paper
unfolding read_text same
paper_lawful = record {
  says = says;
  both = λ pieces m k p. record { takes = takes_of pieces m; mark = mark_of pieces m; reads = read_both pieces m k p; passes = both_captures pieces m };
  king_side = refl;
  queen_side = refl;
  castling = λ b. Castling.whatever_stands refl (λ o. refl);
}
