-- What a record in range says about each of its numbers, for the crates above.
-- Assumes nothing.
use mathlib.Core.Path.{◌≡◌, refl}
use mathlib.Core.Bool.{true, ◌&&◌}
use Prim.Native.Nat.{ℕ, ◌≤◌}
use lib.Dec.{eqb, leb}
use lib.ListN.{length}
use borrow.Author.Tests.{leb-true, eqb-true, eq-eqb, le-leb}
use Rattle.answer.proofs.Numbers.{both_left, both_right}
use Rattle.board_builder.specs.declared.BoardBuilder.{BoardBuilder}
use Rattle.answer.specs.Numbers.{all_at_most}
use Rattle.board_builder.specs.BoardBuilder.{squares, last_count, counters_in_range, in_range}

pub record CountersIn (half full : ℕ) : Type 0 where
  pub half_most : half ≤ last_count
  pub full_least : 1 ≤ full
  pub full_most : full ≤ last_count

pub record InRange (b : BoardBuilder) : Type 0 where
  pub long : length b.pieces ≡ squares
  pub side : b.side_to_move ≤ 1
  pub white : b.white_castle_rights ≤ 3
  pub black : b.black_castle_rights ≤ 3
  pub file : b.en_passant ≤ 8
  pub codes : all_at_most 12 b.pieces ≡ true
  pub counters : CountersIn b.half_moves b.full_moves

pub counters_in : (half full : ℕ) → counters_in_range half full ≡ true → CountersIn half full
counters_in half full e =
    let behind = both_right (leb half last_count) (leb 1 full && leb full last_count) e in
    record {
      half_most = leb-true _ _ (both_left (leb half last_count) (leb 1 full && leb full last_count) e);
      full_least = leb-true _ _ (both_left (leb 1 full) (leb full last_count) behind);
      full_most = leb-true _ _ (both_right (leb 1 full) (leb full last_count) behind);
    }

pub counters_hold : (half full : ℕ) → CountersIn half full → counters_in_range half full ≡ true
counters_hold half full r = simp (le-leb _ _ r.half_most, le-leb _ _ r.full_least, le-leb _ _ r.full_most)

-- those of a game that begins
pub counters_begin : CountersIn 0 1
counters_begin = counters_in 0 1 refl

pub in_range_lem : (b : BoardBuilder) → in_range b ≡ true → InRange b
unfolding in_range
in_range_lem b e =
    let codes = all_at_most 12 b.pieces in
    let file = leb b.en_passant 8 in
    let black = leb b.black_castle_rights 3 in
    let white = leb b.white_castle_rights 3 in
    let side = leb b.side_to_move 1 in
    let long = eqb (length b.pieces) squares in
    let counters = counters_in_range b.half_moves b.full_moves in
    let e0 = both_right counters (long && (side && (white && (black && (file && codes))))) e in
    let e1 = both_right long (side && (white && (black && (file && codes)))) e0 in
    let e2 = both_right side (white && (black && (file && codes))) e1 in
    let e3 = both_right white (black && (file && codes)) e2 in
    let e4 = both_right black (file && codes) e3 in
    record {
      long = eqb-true _ _ (both_left long (side && (white && (black && (file && codes)))) e0);
      side = leb-true _ _ (both_left side (white && (black && (file && codes))) e1);
      white = leb-true _ _ (both_left white (black && (file && codes)) e2);
      black = leb-true _ _ (both_left black (file && codes) e3);
      file = leb-true _ _ (both_left file codes e4);
      codes = both_right file codes e4;
      counters = counters_in b.half_moves b.full_moves (both_left counters (long && (side && (white && (black && (file && codes))))) e);
    }

pub range_holds : (b : BoardBuilder) → InRange b → in_range b ≡ true
unfolding in_range
range_holds b r =
    simp (
      counters_hold _ _ r.counters,
      eq-eqb _ _ r.long,
      le-leb _ _ r.side,
      le-leb _ _ r.white,
      le-leb _ _ r.black,
      le-leb _ _ r.file,
    )
    r.codes
