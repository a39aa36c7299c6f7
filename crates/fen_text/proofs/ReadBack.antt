-- The read-back: for each record in range, its FEN is read as that record with the counters 0 and 1.
-- Assumes nothing.
use mathlib.Core.Path.{◌≡◌, refl, ap, sym, ◌∙◌}
use mathlib.Core.Bool.{Bool, true, false, not}
use mathlib.Core.List.{List, [], ◌∷◌, ◌++◌}
use Prim.Native.Nat.{ℕ, zero, suc, ◌+◌, ◌≤◌, ◌<◌}
use native.Mathlib.Omega.{arith}
use lib.Dec.{T, eqb, eqb-suc-zero, eqb→eq}
use borrow.Author.Tests.{lt-ltb, ne_eqb}
use lib.ListN.{length}
use Rattle.square.specs.Piece.{letter_of}
use Rattle.square.specs.Square.{read_square}
use Rattle.castle_rights.specs.CastleRights.{letters_of, letters_text}
use Rattle.answer.proofs.Below.{fails, every, below, belows, same}
use Rattle.board_builder.specs.declared.BoardBuilder.{BoardBuilder}
use Rattle.board_builder.specs.BoardBuilder.{with_counters, uncounted, in_range}
use Rattle.answer.specs.Numbers.{all_at_most, among}
use Rattle.answer.proofs.Numbers.{most_head, most_tail, or_left, or_right}
use Rattle.board_builder.proofs.Ranges.{InRange, in_range_lem}
use Rattle.fen_text.specs.Token.{onto, joined, tokens}
use Rattle.fen_text.specs.declared.Fen.{Fen}
use Rattle.fen_text.specs.Read.{side_of, rights_of, en_passant_of, fen_of, sided, assembled, of_tokens, read_fen}
use Rattle.fen_text.specs.Write.{digit_text, run_text, row_of, slash_text, ranks_text, side_letter, rights_text, en_passant_text, tail_with, tail_text}
use Rattle.fen_text.specs.Write.{fen_text}
use Rattle.fen_text.specs.Promises.{TextReadsBack, BeginningReadsBack}
use Rattle.fen_text.proofs.Placed.{row_codes, placed_back}

-- ---- no part of a FEN has a space in it
abbrev pub Free : List ℕ → Type 0
Free xs = among 32 xs ≡ false

pub free_cons : (x : ℕ) (xs : List ℕ) → eqb x 32 ≡ false → Free xs → Free (x ∷ xs)
unfolding among
free_cons x xs e f = rw (e, f)

free_append : (xs ys : List ℕ) → Free xs → Free ys → Free (xs ++ ys)
unfolding among
free_append [] ys f g = g
free_append (x ∷ xs) ys f g = free_cons x (xs ++ ys) (or_left (eqb x 32) (among 32 xs) f) (free_append xs ys (or_right (eqb x 32) (among 32 xs) f) g)

free_digit : (n : ℕ) → Free (digit_text n)
unfolding among digit_text
free_digit zero = refl
free_digit (suc n) =
    let other : 48 + suc n ≡ 32 → ⊥ = λ e. omega arith in
    simp (eqb-suc-zero, ne_eqb _ _ other)

lt_suc : {m n : ℕ} → m ≤ n → m < suc n
lt_suc h = omega arith

letter_free : (x : ℕ) → x < 13 → eqb (letter_of x) 32 ≡ false
unfolding letter_of
letter_free x h = fails _ (below (λ (y : ℕ). not (eqb (letter_of y) 32)) 13 tt x h)

free_run : (n : ℕ) (xs : List ℕ) → all_at_most 12 xs ≡ true → Free (run_text n xs)
unfolding run_text
free_run n [] ok = free_digit n
free_run n (zero ∷ xs) ok = free_run (n + 1) xs (most_tail 12 0 xs ok)
free_run n (suc x ∷ xs) ok =
    free_append (digit_text n) (letter_of (suc x) ∷ run_text 0 xs) (free_digit n)
    (free_cons (letter_of (suc x)) (run_text 0 xs) (letter_free (suc x) (lt_suc (most_head 12 (suc x) xs ok))) (free_run 0 xs (most_tail 12 (suc x) xs ok)))

free_slash : (n : ℕ) → Free (slash_text n)
unfolding slash_text among
free_slash zero = refl
free_slash (suc n) = refl

free_ranks : (n : ℕ) (pieces : List ℕ) → all_at_most 12 pieces ≡ true → Free (ranks_text n pieces)
unfolding ranks_text among
free_ranks zero pieces ok = refl
free_ranks (suc n) pieces ok =
    free_append (run_text 0 (row_of n pieces)) (slash_text n ++ ranks_text n pieces) (free_run 0 (row_of n pieces) (row_codes n pieces ok))
    (free_append (slash_text n) (ranks_text n pieces) (free_slash n) (free_ranks n pieces ok))

-- a part that depends on two numbers, each pair computed
free_part : (f : ℕ → ℕ → List ℕ) (m n : ℕ) → T (every (λ (j : ℕ). every (λ (k : ℕ). not (among 32 (f j k))) n) m) → (j k : ℕ) → j < m → k < n → Free (f j k)
free_part f m n t j k h l = fails (among 32 (f j k)) (belows (λ (a b : ℕ). not (among 32 (f a b))) m n t j k h l)

free_side : (side : ℕ) → side < 2 → Free (side_letter side ∷ [])
unfolding among
free_side side h = fails _ (below (λ (s : ℕ). not (among 32 (side_letter s ∷ []))) 2 tt side h)

free_rights : (w b : ℕ) → w < 4 → b < 4 → Free (rights_text w b)
unfolding among rights_text letters_text letters_of
free_rights = free_part rights_text 4 4 tt

free_en_passant : (side file : ℕ) → side < 2 → file < 9 → Free (en_passant_text side file)
unfolding among en_passant_text
free_en_passant = free_part en_passant_text 2 9 tt

-- ---- the tokens
token_step : (x : ℕ) (xs ys : List ℕ) (t : Bool) → t ≡ false → tokens (xs ++ (32 ∷ ys)) ≡ xs ∷ tokens ys
    → joined t x (tokens (xs ++ (32 ∷ ys))) ≡ (x ∷ xs) ∷ tokens ys
unfolding joined onto
token_step x xs ys t e f = rw (e, f)

pub token : (xs ys : List ℕ) → Free xs → tokens (xs ++ (32 ∷ ys)) ≡ xs ∷ tokens ys
unfolding tokens among joined
token [] ys f = refl
token (x ∷ xs) ys f =
    token_step x xs ys (eqb x 32) (or_left (eqb x 32) (among 32 xs) f) (token xs ys (or_right (eqb x 32) (among 32 xs) f))

-- ---- what the tokens say
side_back : (side : ℕ) → side < 2 → side_of (side_letter side ∷ []) ≡ side
unfolding side_of
side_back side h = eqb→eq _ side (below (λ (s : ℕ). eqb (side_of (side_letter s ∷ [])) s) 2 tt side h)

white_back : (w b : ℕ) → w < 4 → b < 4 → rights_of 75 81 (rights_text w b) ≡ w
unfolding among rights_of rights_text letters_text letters_of
white_back = same (λ (w b : ℕ). rights_of 75 81 (rights_text w b)) (λ (w b : ℕ). w) 4 4 tt

black_back : (w b : ℕ) → w < 4 → b < 4 → rights_of 107 113 (rights_text w b) ≡ b
unfolding among rights_of rights_text letters_text letters_of
black_back = same (λ (w b : ℕ). rights_of 107 113 (rights_text w b)) (λ (w b : ℕ). b) 4 4 tt

en_passant_back : (side file : ℕ) → side < 2 → file < 9 → en_passant_of (en_passant_text side file) ≡ file
unfolding read_square en_passant_text
en_passant_back = same (λ (s f : ℕ). en_passant_of (en_passant_text s f)) (λ (s f : ℕ). f) 2 9 tt

-- ---- the whole
module _ (b : BoardBuilder) (r : InRange b) where
  -- the four tokens of a text, whatever counters end it
  pub four : (end : List ℕ) → tokens (ranks_text 8 b.pieces ++ tail_with b (32 ∷ end))
      ≡ ranks_text 8 b.pieces
      ∷ (side_letter b.side_to_move ∷ [])
      ∷ rights_text b.white_castle_rights b.black_castle_rights
      ∷ en_passant_text b.side_to_move b.en_passant
      ∷ tokens end
  four end =
      let side : List ℕ = side_letter b.side_to_move ∷ [] in
      let rights : List ℕ = rights_text b.white_castle_rights b.black_castle_rights in
      let ep : List ℕ = en_passant_text b.side_to_move b.en_passant in
      token (ranks_text 8 b.pieces) (side ++ (32 ∷ (rights ++ (32 ∷ (ep ++ (32 ∷ end)))))) (free_ranks 8 b.pieces r.codes)
      ∙ ap (λ (ts : List (List ℕ)). ranks_text 8 b.pieces ∷ ts)
      (token side (rights ++ (32 ∷ (ep ++ (32 ∷ end)))) (free_side b.side_to_move (lt_suc r.side))
      ∙ ap (λ (ts : List (List ℕ)). side ∷ ts)
      (token rights (ep ++ (32 ∷ end)) (free_rights b.white_castle_rights b.black_castle_rights (lt_suc r.white) (lt_suc r.black))
      ∙ ap (λ (ts : List (List ℕ)). rights ∷ ts)
      (token ep end (free_en_passant b.side_to_move b.en_passant (lt_suc r.side) (lt_suc r.file)))))

  pub back : (end : List ℕ) → read_fen (ranks_text 8 b.pieces ++ tail_with b (32 ∷ end)) ≡ fen_of (uncounted b)
  unfolding read_fen of_tokens assembled sided
  back end =
      ap (of_tokens (length (ranks_text 8 b.pieces ++ tail_with b (32 ∷ end)))) (four end)
      ∙ rw (
        placed_back b.pieces r.long r.codes,
        side_back b.side_to_move (lt_suc r.side),
        white_back b.white_castle_rights b.black_castle_rights (lt_suc r.white) (lt_suc r.black),
        black_back b.white_castle_rights b.black_castle_rights (lt_suc r.white) (lt_suc r.black),
        en_passant_back b.side_to_move b.en_passant (lt_suc r.side) (lt_suc r.file),
        lt-ltb _ _ (lt_suc r.side),
      )

pub read_back : TextReadsBack
unfolding fen_text tail_text
read_back b good = back b (in_range_lem b good) (48 ∷ 32 ∷ 49 ∷ [])

with_those : (b : BoardBuilder) → in_range b ≡ true → b.half_moves ≡ 0 → b.full_moves ≡ 1 → read_fen (fen_text b) ≡ fen_of b
with_those b good half full =
    let same : b ≡ uncounted b = λ i. with_counters b (half i) (full i) in
    read_back b good ∙ ap fen_of (sym same)

pub beginning_reads_back : BeginningReadsBack
beginning_reads_back b good =
    record {
      beginning = λ half full. with_those b good half full;
      no_other = λ same. let back : fen_of b ≡ fen_of (uncounted b) = sym same ∙ read_back b good in
          (ap (λ (f : Fen). f.board.half_moves) back, ap (λ (f : Fen). f.board.full_moves) back);
    }
