-- A record in range gives a record in range.
-- Assumes nothing.
use mathlib.Core.Path.{◌≡◌, refl, ap, ◌∙◌}
use mathlib.Core.Bool.{Bool, true, false, cond}
use mathlib.Core.List.{List, [], ◌∷◌, ◌++◌}
use Prim.Native.Nat.{ℕ, ◌+◌, ◌-◌, ◌/◌, ◌%◌, ◌≤◌}
use native.Mathlib.Omega.{arith}
use lib.Dec.{eqb, ltb}
use lib.ListN.{length, get_or, take}
use lib.Seq.{take_at, get_or-append-add}
use borrow.Author.Tests.{eq-eqb, ltb-true}
use Rattle.square.specs.Piece.{man_on}
use Rattle.board_builder.specs.declared.BoardBuilder.{BoardBuilder}
use Rattle.board_builder.specs.BoardBuilder.{board, uncounted, board_of, numbers, in_range, numbers_in_range, record_size, last_count}
use Rattle.board_builder.proofs.Ranges.{CountersIn, counters_begin, InRange, in_range_lem, range_holds}
use Rattle.board_builder.proofs.Numbers.{sixty_eight_numbers}
use Rattle.move_rules.specs.After.{restarts, one_more, half_after, full_after}
use Rattle.move_rules.specs.After.{after_parts, file_after, steps_twice, stood_beside, enemy_pawn, board_after, record_after}
use Rattle.move_rules.specs.Promises.{AfterInRange, RecordAfterInRange}
use Rattle.move_rules.proofs.Rights.{rights_fewer}
use Rattle.move_rules.proofs.Squares.{squares_length, squares_codes}
use Rattle.move_rules.proofs.Records.{record_range}

pub file_most : (l : List ℕ) (man source dest : ℕ) → file_after l man source dest ≤ 8
unfolding file_after
file_most l man source dest = go (steps_twice man source dest) (stood_beside l dest (enemy_pawn man))
  where
    go : (t u : Bool) → cond t (cond u (dest % 8 + 1) 0) 0 ≤ 8
    go true true = omega arith
    go true false = omega arith
    go false u = omega arith

after_parts_lem : (b : BoardBuilder) (source dest promotion : ℕ) → promotion ≤ 6 → InRange b → InRange (after_parts b source dest promotion)
unfolding after_parts
after_parts_lem b source dest promotion h r =
    record {
      long = squares_length b.pieces source dest promotion ∙ r.long;
      side = omega arith;
      white = omega (arith, rights_fewer 0 b.white_castle_rights source dest, r.white);
      black = omega (arith, rights_fewer 1 b.black_castle_rights source dest, r.black);
      file = file_most b.pieces (man_on b.pieces source) source dest;
      codes = squares_codes b.pieces source dest promotion r.codes h;
      counters = counters_begin;
    }

-- the counters stay in range
more_most : (n : ℕ) → one_more n ≤ last_count
unfolding one_more
more_most n = go (ltb n last_count) refl
  where
    go : (t : Bool) → ltb n last_count ≡ t → cond t (n + 1) last_count ≤ last_count
    go true e = omega (arith, ltb-true n last_count e)
    go false e = omega arith

more_least : (n : ℕ) → 1 ≤ one_more n
unfolding one_more
more_least n = go (ltb n last_count)
  where
    go : (t : Bool) → 1 ≤ cond t (n + 1) last_count
    go true = omega arith
    go false = omega arith

pub counters_after_lem : (squares : List ℕ) (side half full source dest : ℕ) → CountersIn half full
    → CountersIn (half_after squares half source dest) (full_after side full)
unfolding half_after full_after
counters_after_lem squares side half full source dest c = record {
  half_most = half_most (restarts squares source dest);
  full_least = full_least (eqb side 0);
  full_most = full_most (eqb side 0);
}
  where
    half_most : (t : Bool) → cond t 0 (one_more half) ≤ last_count
    half_most true = omega arith
    half_most false = more_most half

    full_least : (t : Bool) → 1 ≤ cond t full (one_more full)
    full_least true = c.full_least
    full_least false = more_least full

    full_most : (t : Bool) → cond t full (one_more full) ≤ last_count
    full_most true = c.full_most
    full_most false = more_most full

pub after_in_range : AfterInRange
after_in_range b m e h =
    let r = in_range_lem b e in
    let parts = after_parts_lem b (m % 64) (m / 64 % 64) (m / 4096) (omega arith) r in
    range_holds (board_after b m)
    (record {
      long = parts.long;
      side = parts.side;
      white = parts.white;
      black = parts.black;
      file = parts.file;
      codes = parts.codes;
      counters = counters_after_lem b.pieces b.side_to_move b.half_moves b.full_moves (m % 64) (m / 64 % 64) r.counters;
    })

-- a record in range is read back from its numbers
back : (pieces : List ℕ) (side white black file : ℕ) → length pieces ≡ 64
    → board_of (pieces ++ (side ∷ white ∷ black ∷ file ∷ [])) ≡ board pieces side white black file
back pieces side white black file h =
    let rest : List ℕ = side ∷ white ∷ black ∷ file ∷ [] in
    let at0 : get_or (pieces ++ rest) 64 0 ≡ side = ap (λ (k : ℕ). get_or (pieces ++ rest) k 0) (omega arith) ∙ get_or-append-add pieces rest 0 0 in
    let at1 : get_or (pieces ++ rest) 65 0 ≡ white = ap (λ (k : ℕ). get_or (pieces ++ rest) k 0) (omega arith) ∙ get_or-append-add pieces rest 1 0 in
    let at2 : get_or (pieces ++ rest) 66 0 ≡ black = ap (λ (k : ℕ). get_or (pieces ++ rest) k 0) (omega arith) ∙ get_or-append-add pieces rest 2 0 in
    let at3 : get_or (pieces ++ rest) 67 0 ≡ file = ap (λ (k : ℕ). get_or (pieces ++ rest) k 0) (omega arith) ∙ get_or-append-add pieces rest 3 0 in
    rw (take_at pieces rest 64 h, at0, at1, at2, at3)

pub record_after_in_range : RecordAfterInRange
unfolding numbers_in_range record_after numbers after_parts
record_after_in_range l m e h =
    let b : BoardBuilder = board_after (board_of l) m in
    let r : in_range b ≡ true = after_in_range (board_of l) m (record_range l e) h in
    rw (
      eq-eqb (length (numbers b)) record_size (sixty_eight_numbers b r),
      back b.pieces b.side_to_move b.white_castle_rights b.black_castle_rights b.en_passant (in_range_lem b r).long,
    )
    (range_holds (uncounted b) (after_parts_lem (board_of l) (m % 64) (m / 64 % 64) (m / 4096) (omega arith) (in_range_lem (board_of l) (record_range l e))))

-- the other side is to move
side_turns : (l : List ℕ) (m : ℕ) → numbers_in_range l ≡ true → get_or (record_after l m) 64 0 ≡ 1 - get_or l 64 0
unfolding record_after numbers after_parts
side_turns l m e =
    let b : BoardBuilder = board_after (board_of l) m in
    let rest : List ℕ = b.side_to_move ∷ b.white_castle_rights ∷ b.black_castle_rights ∷ b.en_passant ∷ [] in
    let kept : length b.pieces ≡ 64 = squares_length (take 64 l) (m % 64) (m / 64 % 64) (m / 4096) ∙ (in_range_lem (board_of l) (record_range l e)).long in
    ap (λ (k : ℕ). get_or (b.pieces ++ rest) k 0) (omega (arith, kept)) ∙ get_or-append-add b.pieces rest 0 0

pub other_side : (l : List ℕ) (m : ℕ) → numbers_in_range l ≡ true → get_or (record_after l m) 64 0 ≡ get_or l 64 0 → ⊥
other_side l m e f = omega (arith, side_turns l m e, (in_range_lem (board_of l) (record_range l e)).side, f)
