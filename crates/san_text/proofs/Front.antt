-- Each part of a name, read off the front of a text, however the form reads on from the destination.
-- Assumes nothing.
use Prim.Native.Nat.{ℕ, ◌+◌, ◌-◌, ◌/◌, ◌%◌, ◌<◌}
use mathlib.Core.Path.{◌≡◌, refl, ◌∙◌}
use mathlib.Core.Bool.{Bool, true, false, cond}
use mathlib.Core.List.{List, [], ◌∷◌, ◌++◌, append_assoc}
use native.Mathlib.Omega.{arith}
use lib.Dec.{eqb}
use borrow.Author.Tests.{ne_eqb}
use Rattle.answer.specs.Numbers.{same}
use Rattle.chess_move.specs.Number.{source_of, dest_of, promotion_of}
use Rattle.san_text.specs.declared.San.{San}
use Rattle.san_text.specs.Place.{file_place, rank_place, square_at, file_byte, rank_byte}
use Rattle.san_text.specs.Text.{Dest, promotion_kind, piece_kind, first_byte, after, piece_or, read_takes, read_rank, read_file, read_piece}
use Rattle.san_text.specs.Resolve.{kind_on}
use Rattle.san_text.specs.Name.{optional, promotion_letter, piece_letter, takes_of, head_of}
use Rattle.san_text.proofs.Places.{place_of_byte, square_of_places}
use Rattle.san_text.proofs.Says.{Moves}

-- the kind as the reader holds it before it takes a missing letter for a pawn
abbrev pub letter_kind : ℕ → ℕ
letter_kind k = cond (eqb k 1) 0 k

pub piece_back : {k : ℕ} → Moves k → piece_or (letter_kind k) ≡ k
unfolding piece_or
piece_back Moves.pawn = refl
piece_back Moves.knight = refl
piece_back Moves.bishop = refl
piece_back Moves.rook = refl
piece_back Moves.queen = refl
piece_back Moves.king = refl

-- ---- squares

pub less : (n : ℕ) → n + 1 - 1 ≡ n
less n = omega arith

pub there : (n : ℕ) → eqb (n + 1) 0 ≡ false
there n = ne_eqb (n + 1) 0 (omega arith)

pub file_back : (sq : ℕ) → file_place (file_byte sq) ≡ sq % 8 + 1
file_back sq =
    let e : file_byte sq ≡ 96 + (sq % 8 + 1) = omega arith in
    rw e (place_of_byte 96 (sq % 8 + 1) (omega arith))

pub rank_back : (sq : ℕ) → sq < 64 → rank_place (rank_byte sq) ≡ sq / 8 + 1
rank_back sq h =
    let e : rank_byte sq ≡ 48 + (sq / 8 + 1) = omega arith in
    rw e (place_of_byte 48 (sq / 8 + 1) (omega arith))

pub square_back : (sq : ℕ) → sq < 64 → square_at (file_place (file_byte sq)) (rank_place (rank_byte sq)) ≡ sq + 1
square_back sq h = rw (file_back sq, rank_back sq h, square_of_places (sq % 8) (sq / 8)) (omega arith)

-- ---- the parts

pub read_no_letter : (dest : Dest) (s : List ℕ) → piece_kind (first_byte s) ≡ 0 → read_piece dest s ≡ read_file dest 0 s
unfolding read_piece after
read_no_letter dest s e = rw e

pub read_letter : (dest : Dest) {k : ℕ} → Moves k → (s : List ℕ) → piece_kind (first_byte s) ≡ 0
    → read_piece dest (piece_letter k ++ s) ≡ read_file dest (letter_kind k) s
unfolding read_piece piece_letter promotion_letter piece_kind promotion_kind after
read_letter dest Moves.pawn s e = read_no_letter dest s e
read_letter dest Moves.knight s e = refl
read_letter dest Moves.bishop s e = refl
read_letter dest Moves.rook s e = refl
read_letter dest Moves.queen s e = refl
read_letter dest Moves.king s e = refl

pub read_source : (dest : Dest) (k sq : ℕ) (s : List ℕ) → sq < 64
    → read_file dest k (file_byte sq ∷ rank_byte sq ∷ s) ≡ read_takes dest k (sq % 8 + 1) (sq / 8 + 1) s
unfolding read_file read_rank after
read_source dest k sq s h = rw (file_back sq, there (sq % 8), rank_back sq h, there (sq / 8))

pub read_takes_lem : (dest : Dest) (k f r : ℕ) (x : Bool) (s : List ℕ) → eqb (first_byte s) 120 ≡ false
    → read_takes dest k f r (optional x (120 ∷ []) ++ s) ≡ dest k f r x s
unfolding read_takes after optional
read_takes_lem dest k f r true s e = refl
read_takes_lem dest k f r false s e = rw e

pub no_letter : (sq : ℕ) → piece_kind (file_byte sq) ≡ 0
unfolding piece_kind promotion_kind
no_letter sq =
    rw (
      ne_eqb (file_byte sq) 75 (omega arith),
      ne_eqb (file_byte sq) 78 (omega arith),
      ne_eqb (file_byte sq) 66 (omega arith),
      ne_eqb (file_byte sq) 82 (omega arith),
      ne_eqb (file_byte sq) 81 (omega arith),
    )

-- no name but a castling text begins with `O`
pub no_castling : {k : ℕ} → Moves k → (sq : ℕ) (s t : List ℕ) → same (piece_letter k ++ (file_byte sq ∷ s)) (79 ∷ t) ≡ false
unfolding piece_letter promotion_letter same
no_castling Moves.pawn sq s t = rw (ne_eqb (file_byte sq) 79 (omega arith))
no_castling Moves.knight sq s t = refl
no_castling Moves.bishop sq s t = refl
no_castling Moves.rook sq s t = refl
no_castling Moves.queen sq s t = refl
no_castling Moves.king sq s t = refl

-- ---- the text with both source parts

-- what it says
abbrev pub both_with : List ℕ → ℕ → Bool → Bool → San
both_with pieces m takes mark =
    record {
      piece = kind_on pieces (source_of m);
      file = source_of m % 8 + 1;
      rank = source_of m / 8 + 1;
      takes = takes;
      dest = dest_of m;
      promotion = promotion_of m;
      mark = mark;
    }

-- what stands after the file of the source: the rest of the head, the destination and what the form writes after it
abbrev pub after_file : List ℕ → ℕ → List ℕ → List ℕ
after_file pieces m tail = rank_byte (source_of m) ∷ (optional (takes_of pieces m) (120 ∷ []) ++ (file_byte (dest_of m) ∷ rank_byte (dest_of m) ∷ tail))

module _ (pieces : List ℕ) (m : ℕ) (tail : List ℕ) where
  -- the text from the front
  pub both_text : head_of pieces m true true ++ (file_byte (dest_of m) ∷ rank_byte (dest_of m) ∷ tail)
      ≡ piece_letter (kind_on pieces (source_of m)) ++ (file_byte (source_of m) ∷ after_file pieces m tail)
  unfolding head_of optional
  both_text = simp append_assoc

  -- read up to the destination
  pub both_read : (dest : Dest) → Moves (kind_on pieces (source_of m))
      → read_piece dest (piece_letter (kind_on pieces (source_of m)) ++ (file_byte (source_of m) ∷ after_file pieces m tail))
      ≡ dest (letter_kind (kind_on pieces (source_of m))) (source_of m % 8 + 1) (source_of m / 8 + 1) (takes_of pieces m)
      (file_byte (dest_of m) ∷ rank_byte (dest_of m) ∷ tail)
  both_read dest k =
      read_letter dest k (file_byte src ∷ after_file pieces m tail) (no_letter src)
      ∙ read_source dest kind src (optional (takes_of pieces m) (120 ∷ []) ++ end) (omega arith)
      ∙ read_takes_lem dest kind (src % 8 + 1) (src / 8 + 1) (takes_of pieces m) end (ne_eqb (file_byte dst) 120 (omega arith))
    where
      src : ℕ
      src = source_of m

      dst : ℕ
      dst = dest_of m

      kind : ℕ
      kind = letter_kind (kind_on pieces src)

      end : List ℕ
      end = file_byte dst ∷ rank_byte dst ∷ tail
