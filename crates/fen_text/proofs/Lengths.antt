-- How long a FEN is: 25 bytes at least and 85 at most, 91 with the record's counters, for each record in range.
-- Assumes nothing.
use mathlib.Core.Path.{◌≡◌, refl, ◌∙◌}
use mathlib.Core.Bool.{true}
use mathlib.Core.List.{List, [], ◌∷◌, ◌++◌}
use Prim.Native.Nat.{ℕ, zero, suc, ◌+◌, ◌*◌, ◌≤◌, ◌<◌}
use native.Mathlib.Nat.{add-zero}
use native.Mathlib.Omega.{arith}
use lib.Dec.{eqb, leb, eqb-suc-zero, leb→le, lit≤}
use lib.ListN.{length, length-append, length-take, length-drop}
use Rattle.answer.proofs.Below.{belows}
use Rattle.castle_rights.specs.CastleRights.{letters_of, letters_text}
use Rattle.board_builder.specs.declared.BoardBuilder.{BoardBuilder}
use Rattle.board_builder.specs.BoardBuilder.{in_range}
use Rattle.board_builder.proofs.Ranges.{CountersIn, InRange, in_range_lem}
use Rattle.fen_text.specs.Write.{digit_text, run_text, row_of, slash_text, ranks_text, rights_text, en_passant_text}
use Rattle.fen_text.specs.Write.{counters_text, tail_with, tail_text, full_tail, fen_text, full_text}
use Rattle.fen_text.specs.Promises.{TwentyFiveToEightyFive, TwentyFiveToNinetyOne}
use Rattle.fen_text.proofs.Cases.{cond_both}
use Rattle.fen_text.proofs.Counters.{count_few, count_some}

-- a number of bytes from low to high
pub record Long (lo hi : ℕ) (s : List ℕ) : Type 0 where
  pub low : lo ≤ length s
  pub high : length s ≤ hi

digit_most : (n : ℕ) → length (digit_text n) ≤ 1
unfolding digit_text
digit_most n = cond_both (λ (s : List ℕ). length s ≤ 1) (eqb n 0) {x = []} {y = (48 + n) ∷ []} (lit≤ tt) (lit≤ tt)

digit_one : (n : ℕ) → length (digit_text (n + 1)) ≤ 1
digit_one n = digit_most (n + 1)

no_digits : length (digit_text 0) ≡ 0
unfolding digit_text
no_digits = refl

run_most : (n : ℕ) (xs : List ℕ) → length (run_text n xs) ≤ length (digit_text n) + length xs
unfolding run_text
run_most n [] = omega arith
run_most n (zero ∷ xs) = omega (arith, run_most (n + 1) xs, digit_most (n + 1))
run_most n (suc x ∷ xs) = simp length-append (omega (arith, run_most 0 xs, no_digits))

some_digit : (n : ℕ) → 1 ≤ n → 1 ≤ length (digit_text n)
unfolding digit_text
some_digit zero h = absurd (omega arith)
some_digit (suc n) h = simp eqb-suc-zero (lit≤ tt)

run_least : (n : ℕ) (xs : List ℕ) → 1 ≤ n + length xs → 1 ≤ length (run_text n xs)
unfolding run_text
run_least n [] h = some_digit n (omega arith)
run_least n (zero ∷ xs) h = run_least (n + 1) xs (omega arith)
run_least n (suc x ∷ xs) h = simp length-append (omega arith)

row_long : (k : ℕ) (pieces : List ℕ) → length pieces ≡ 64 → k < 8 → length (row_of k pieces) ≡ 8
row_long k pieces e h = simp (length-take, length-drop) (omega arith)

rank_long : (k : ℕ) (pieces : List ℕ) → length pieces ≡ 64 → k < 8 → Long 1 8 (run_text 0 (row_of k pieces))
rank_long k pieces e h =
    let l = row_long k pieces e h in
    record { low = run_least 0 (row_of k pieces) (omega arith); high = omega (arith, run_most 0 (row_of k pieces), no_digits) }

one_rank : (pieces : List ℕ) → length (ranks_text 1 pieces) ≡ length (run_text 0 (row_of 0 pieces))
unfolding ranks_text slash_text
one_rank pieces = length-append (run_text 0 (row_of 0 pieces)) [] ∙ add-zero _

more_ranks : (k : ℕ) (pieces : List ℕ)
    → length (ranks_text (suc (suc k)) pieces) ≡ length (run_text 0 (row_of (suc k) pieces)) + suc (length (ranks_text (suc k) pieces))
unfolding ranks_text slash_text
more_ranks k pieces = length-append (run_text 0 (row_of (suc k) pieces)) (47 ∷ ranks_text (suc k) pieces)

pub ranks_long : (k : ℕ) (pieces : List ℕ) → length pieces ≡ 64 → k < 8 → Long (1 + 2 * k) (8 + 9 * k) (ranks_text (suc k) pieces)
ranks_long zero pieces e h =
    let r = rank_long 0 pieces e h in
    let l = one_rank pieces in
    record { low = omega arith; high = omega arith }
ranks_long (suc k) pieces e h =
    let r = rank_long (suc k) pieces e h in
    let s = ranks_long k pieces e (omega arith) in
    let l = more_ranks k pieces in
    record { low = omega arith; high = omega arith }

-- sixteen pairs of rights, each computed
pub rights_long : (w b : ℕ) → w < 4 → b < 4 → Long 1 4 (rights_text w b)
unfolding rights_text letters_text letters_of
rights_long w b h k = record {
  low = leb→le 1 (length (rights_text w b)) (belows (λ (w b : ℕ). leb 1 (length (rights_text w b))) 4 4 tt w b h k);
  high = leb→le (length (rights_text w b)) 4 (belows (λ (w b : ℕ). leb (length (rights_text w b)) 4) 4 4 tt w b h k);
}

pub en_passant_long : (side file : ℕ) → Long 1 2 (en_passant_text side file)
unfolding en_passant_text
en_passant_long side file = cond_both (Long 1 2) (eqb file 0) (record { low = lit≤ tt; high = lit≤ tt }) (record { low = lit≤ tt; high = lit≤ tt })

s≤ : {m n : ℕ} → m ≤ n → m < suc n
s≤ h = omega arith

-- whatever counters end it
tail_long : (b : BoardBuilder) (end : List ℕ) (lo hi : ℕ) → InRange b → Long lo hi end → Long (6 + lo) (10 + hi) (tail_with b end)
tail_long b end lo hi r k =
    let e = en_passant_long b.side_to_move b.en_passant in
    let s = rights_long b.white_castle_rights b.black_castle_rights (s≤ r.white) (s≤ r.black) in
    record { low = simp length-append (omega arith); high = simp length-append (omega arith) }

counters_long : (half full : ℕ) → CountersIn half full → Long 4 10 (counters_text half full)
counters_long half full r =
    let a = count_some half in
    let b = count_few half r.half_most in
    let c = count_some full in
    let d = count_few full r.full_most in
    record { low = simp length-append (omega arith); high = simp length-append (omega arith) }

text_long : (b : BoardBuilder) (end : List ℕ) (lo hi : ℕ) → in_range b ≡ true → Long lo hi end
    → (21 + lo ≤ length (ranks_text 8 b.pieces ++ tail_with b end)) × (length (ranks_text 8 b.pieces ++ tail_with b end) ≤ 81 + hi)
text_long b end lo hi r k =
    let p = ranks_long 7 b.pieces (in_range_lem b r).long (lit≤ tt) in
    let t = tail_long b end lo hi (in_range_lem b r) k in
    let sum = length-append (ranks_text 8 b.pieces) (tail_with b end) in
    (omega arith, omega arith)

pub place_long : (b : BoardBuilder) → in_range b ≡ true → length (ranks_text 8 b.pieces ++ tail_with b []) ≤ 81
place_long b r = (text_long b [] 0 0 r (record { low = lit≤ tt; high = lit≤ tt })).1

pub fen_long : TwentyFiveToEightyFive
unfolding fen_text tail_text
fen_long b r = text_long b (32 ∷ 48 ∷ 32 ∷ 49 ∷ []) 4 4 r (record { low = lit≤ tt; high = lit≤ tt })

pub full_long : TwentyFiveToNinetyOne
unfolding full_text full_tail
full_long b r =
    let half = b.half_moves in
    let full = b.full_moves in
    text_long b (counters_text half full) 4 10 r (counters_long half full (in_range_lem b r).counters)
