-- One key: the writer tells records apart, and the reader accepts only records in range; so two accepted texts have one key exactly if they read
-- to one record.
-- Assumes nothing.
use mathlib.Core.Path.{◌≡◌, refl, sym, ap, ◌∙◌}
use mathlib.Core.Bool.{Bool, true, false, cond}
use mathlib.Core.List.{List, [], ◌∷◌}
use Prim.Native.Nat.{ℕ, ◌+◌, ◌-◌, ◌≤◌, ◌<◌}
use native.Mathlib.Omega.{arith}
use lib.Dec.{eqb, ltb, lit≤}
use lib.ListN.{length, length-set}
use borrow.Author.Tests.{ltb-true}
use Rattle.std.specs.Prelude.{Result, Ok, Err}
use Rattle.square.specs.declared.PairError.{PairError}
use Rattle.answer.specs.Answer.{too_few_tokens, bad_placement, bad_side}
use Rattle.answer.specs.Numbers.{between}
use Rattle.square.specs.Square.{square_of, read_square}
use Rattle.square.specs.Piece.{piece_of}
use Rattle.castle_rights.specs.CastleRights.{rights}
use Rattle.board_builder.specs.declared.BoardBuilder.{BoardBuilder}
use Rattle.answer.specs.Numbers.{all_at_most, among}
use Rattle.board_builder.specs.BoardBuilder.{squares, uncounted, numbers, in_range}
use Rattle.answer.proofs.Numbers.{most_set}
use Rattle.board_builder.proofs.Ranges.{counters_begin, range_holds}
use Rattle.board_builder.proofs.Numbers.{numbers_are_the_position}
use Rattle.fen_text.specs.declared.Fen.{Fen}
use Rattle.fen_text.specs.Token.{tokens}
use Rattle.fen_text.specs.Placement.{Placement, start, down, skip, fill, spoil, place_code, place_byte, place_all, first_bad}
use Rattle.fen_text.specs.Read.{side_of, rights_of, file_read, refused_at, fen_of, sided, assembled, of_tokens, read_fen}
use Rattle.fen_text.specs.Write.{tail_text, fen_text}
use Rattle.fen_text.specs.Promises.{OneKey, ReadsInRange, RefusedIsZero, KeysTellRecords, KeyOfKey}
use Rattle.fen_text.proofs.Cases.{cond_both}
use Rattle.fen_text.proofs.ReadBack.{read_back}

board_of_lem : (a b : BoardBuilder) → fen_of a ≡ fen_of b → a ≡ b
board_of_lem a b e = ap (λ (f : Fen). f.board) e

-- a text has nothing of the counters, and says all else
pub uncounted_text : (b : BoardBuilder) → fen_text (uncounted b) ≡ fen_text b
unfolding fen_text tail_text
uncounted_text b = refl

same_position : (a b : BoardBuilder) → in_range a ≡ true → in_range b ≡ true → fen_text a ≡ fen_text b → uncounted a ≡ uncounted b
same_position a b r s e = board_of_lem (uncounted a) (uncounted b) (sym (read_back a r) ∙ ap read_fen e ∙ read_back b s)

pub one_key : OneKey
unfolding numbers
one_key a b r s = record {
  same_numbers = λ e. ap numbers (same_position a b r s e);
  same_text = λ e. sym (uncounted_text a) ∙ ap fen_text (numbers_are_the_position a b r s e) ∙ uncounted_text b;
}

-- ---- what is read is in range: 64 squares, each with a code of at most 12
record Sound (p : Placement) : Type 0 where
  long : length p.pieces ≡ squares
  codes : all_at_most 12 p.pieces ≡ true

pub piece_most : (b : ℕ) → piece_of b ≤ 12
unfolding piece_of
piece_most b =
    most (eqb b 80) (lit≤ tt)
    (most (eqb b 78) (lit≤ tt)
    (most (eqb b 66) (lit≤ tt)
    (most (eqb b 82) (lit≤ tt)
    (most (eqb b 81) (lit≤ tt)
    (most (eqb b 75) (lit≤ tt)
    (most (eqb b 112) (lit≤ tt)
    (most (eqb b 110) (lit≤ tt)
    (most (eqb b 98) (lit≤ tt)
    (most (eqb b 114) (lit≤ tt)
    (most (eqb b 113) (lit≤ tt)
    (most (eqb b 107) (lit≤ tt) (lit≤ tt))))))))))))
  where
    most : (t : Bool) {x y : ℕ} → x ≤ 12 → y ≤ 12 → cond t x y ≤ 12
    most t h k = cond_both (λ (n : ℕ). n ≤ 12) t h k

code_sound : (p : Placement) (code : ℕ) → code ≤ 12 → Sound p → Sound (place_code code p)
code_sound p code h s =
    cond_both Sound (eqb code 0) {x = spoil p} {y = fill code p}
    (record { long = s.long; codes = s.codes })
    (record {
      long = length-set p.pieces (square_of p.rank p.file) code ∙ s.long;
      codes = most_set 12 p.pieces (square_of p.rank p.file) code h s.codes;
    })

byte_sound : (p : Placement) (b : ℕ) → Sound p → Sound (place_byte p b)
unfolding place_byte
byte_sound p b s =
    cond_both Sound (eqb b 47) {x = down p} {y = cond (between 49 56 b) (skip (b - 48) p) (place_code (piece_of b) p)}
    (record { long = s.long; codes = s.codes })
    (cond_both Sound (between 49 56 b) {x = skip (b - 48) p} {y = place_code (piece_of b) p}
    (record { long = s.long; codes = s.codes })
    (code_sound p (piece_of b) (piece_most b) s))

all_sound : (p : Placement) (bs : List ℕ) → Sound p → Sound (place_all p bs)
unfolding place_all
all_sound p [] s = s
all_sound p (b ∷ bs) s = all_sound (place_byte p b) bs (byte_sound p b s)

start_sound : Sound start
unfolding all_at_most
start_sound = record { long = refl; codes = refl }

rights_most : (k q : ℕ) (t : List ℕ) → rights_of k q t ≤ 3
unfolding rights_of
rights_most k q t = go (among k t) (among q t)
  where
    go : (a b : Bool) → rights (cond a 1 0) (cond b 1 0) ≤ 3
    go true true = lit≤ tt
    go true false = lit≤ tt
    go false true = lit≤ tt
    go false false = lit≤ tt

file_most : (a : Result ℕ PairError) → file_read a ≤ 8
file_most (Ok s) = omega arith
file_most (Err e) = omega arith

-- an answer of 0 is a record in range with the counters 0 and 1, any other is a refusal with its number and offset
record Told (f : Fen) : Type 0 where
  given : f.number ≡ 0 → in_range f.board ≡ true
  begun : f.number ≡ 0 → uncounted f.board ≡ f.board
  taken : (f.number ≡ 0 → ⊥) → f ≡ refused_at f.number f.offset

told_none : (number offset : ℕ) → (number ≡ 0 → ⊥) → Told (refused_at number offset)
told_none number offset n = record { given = λ e. absurd (n e); begun = λ e. absurd (n e); taken = λ m. refl }

sided_told : (at : ℕ) (p : Placement) (side : ℕ) (castling ep : List ℕ) → Sound p → Told (sided at p.pieces side castling ep)
unfolding sided
sided_told at p side castling ep s = go (ltb side 2) refl
  where
    go : (t : Bool) → ltb side 2 ≡ t → Told (sided at p.pieces side castling ep)
    go false e = simp e (told_none bad_side at (λ z. omega arith))
    go true e =
        let low : side < 2 = ltb-true side 2 e in
        simp e (record {
          given = λ z. range_holds _ (record {
            long = s.long;
            side = omega arith;
            white = rights_most 75 81 castling;
            black = rights_most 107 113 castling;
            file = file_most (read_square ep);
            codes = s.codes;
            counters = counters_begin;
          });
          begun = λ z. refl;
          taken = λ n. absurd (n refl);
        })

assembled_told : (a b c d : List ℕ) → Told (assembled a b c d)
unfolding assembled
assembled_told a b c d =
    cond_both Told (place_all start a).good
    {x = sided (length a + 1) (place_all start a).pieces (side_of b) c d}
    {y = refused_at bad_placement (first_bad a)}
    (sided_told (length a + 1) (place_all start a) (side_of b) c d (all_sound start a start_sound))
    (told_none bad_placement (first_bad a) (λ z. omega arith))

tokens_told : (n : ℕ) (ts : List (List ℕ)) → Told (of_tokens n ts)
unfolding of_tokens
tokens_told n [] = told_none too_few_tokens n (λ z. omega arith)
tokens_told n (a ∷ []) = told_none too_few_tokens n (λ z. omega arith)
tokens_told n (a ∷ b ∷ []) = told_none too_few_tokens n (λ z. omega arith)
tokens_told n (a ∷ b ∷ c ∷ []) = told_none too_few_tokens n (λ z. omega arith)
tokens_told n (a ∷ b ∷ c ∷ d ∷ ts) = assembled_told a b c d

read_told_lem : (s : List ℕ) → Told (read_fen s)
unfolding read_fen
read_told_lem s = tokens_told (length s) (tokens s)

pub reads_in_range : ReadsInRange
reads_in_range s e = (read_told_lem s).given e

pub reads_uncounted : (s : List ℕ) → (read_fen s).number ≡ 0 → uncounted (read_fen s).board ≡ (read_fen s).board
reads_uncounted s e = (read_told_lem s).begun e

pub refused_is_zero : RefusedIsZero
refused_is_zero s n = (read_told_lem s).taken n

-- ---- keys
pub keys_tell_records : KeysTellRecords
keys_tell_records s t e f = record {
  one_record = λ k.
      sym (reads_uncounted s e)
      ∙ same_position (read_fen s).board (read_fen t).board (reads_in_range s e) (reads_in_range t f) k
      ∙ reads_uncounted t f;
  one_key = λ k. ap fen_text k;
}

pub key_of_key : KeyOfKey
key_of_key s e =
    let b : BoardBuilder = (read_fen s).board in
    let back : read_fen (fen_text b) ≡ fen_of (uncounted b) = read_back b (reads_in_range s e) in
    (ap (λ (f : Fen). f.number) back, ap (λ (f : Fen). fen_text f.board) back ∙ uncounted_text b)
