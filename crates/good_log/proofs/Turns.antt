-- The record after a move, read off the bytes of two positions: why its side is the other one and its numbers are in range.
-- Assumes nothing.
use mathlib.Core.Path.{◌≡◌, refl, ap, sym, ◌∙◌}
use mathlib.Core.Bool.{Bool, true, false, not, ◌&&◌, and-false}
use mathlib.Core.List.{List}
use Prim.Native.Nat.{ℕ, ◌/◌, ◌%◌, ◌≤◌}
use native.Mathlib.Omega.{arith}
use lib.Dec.{eqb}
use lib.ListN.{length, get_or, take, length-take}
use borrow.Author.Tests.{ne_eqb, le-leb, eqb-true}
use Rattle.answer.proofs.Numbers.{both_left, both_right}
use Rattle.answer.specs.Numbers.{same}
use Rattle.answer.proofs.Same.{same_eq}
use Rattle.board_builder.specs.BoardBuilder.{record_size, side_at, counters_in_range, numbers_in_range}
use Rattle.board_builder.proofs.Ranges.{counters_in, counters_hold}
use Rattle.chess_move.specs.Number.{last_move}
use Rattle.move_rules.specs.After.{record_after, half_after, full_after}
use Rattle.move_rules.specs.Leads.{comes_from, leads_to, counters_from, counters_lead}
use Rattle.move_rules.proofs.Ranges.{counters_after_lem, record_after_in_range, other_side}
use Rattle.move_rules.proofs.Records.{record_long}
use Rattle.position.specs.Layout.{Position, half_at, full_at, side, two_bytes_at, position_of}
use Rattle.position.proofs.Moves.{AllBytes}
use Rattle.stored_position.specs.Bytes.{record_good, position_check, is_position_with}
use Rattle.stored_position.specs.CodeParts.{record_fits, rest_fits_with}
use Rattle.stored_position.proofs.Known.{by_rest_with}
use Rattle.game_rules.specs.Rules.{comes_after}
use Rattle.good_log.specs.CodeSteps.{turns_to, move_leads}

-- a position that passes its check has a record in range
pub board_fits : (p : Position) → position_check p ≡ 0 → record_good p ≡ true
unfolding position_check
board_fits p h = go (record_good p) refl
  where
    go : (t : Bool) → record_good p ≡ t → t ≡ true
    go true e = refl
    go false e = absurd (omega (arith, simp e at h))

-- the record after one in range has the other side to move, so it is enough to ask for that record
turned : (p q : Position) (m : ℕ) → numbers_in_range p.board ≡ true → comes_after p m q ≡ not (eqb (side q) (side p)) && comes_after p m q
turned p q m h = go (comes_after p m q) refl
  where
    go : (t : Bool) → comes_after p m q ≡ t → t ≡ not (eqb (side q) (side p)) && t
    go true e =
        let r : q.board ≡ record_after p.board m = same_eq _ _ (both_left (same q.board (record_after p.board m)) _ e) in
        rw (ne_eqb (side q) (side p) (λ f. other_side p.board m h (ap (λ (l : List ℕ). get_or l side_at 0) (sym r) ∙ f)))
    go false e = sym (and-false (not (eqb (side q) (side p))))

module _ (p : List ℕ) (fits : record_fits p ≡ true) where
  abbrev half : ℕ
  half = two_bytes_at p half_at

  abbrev full : ℕ
  full = two_bytes_at p full_at

  pub here : numbers_in_range (take record_size p) ≡ true
  here = both_right (counters_in_range half full) (numbers_in_range (take record_size p)) fits

  counted : counters_in_range half full ≡ true
  counted = both_left (counters_in_range half full) (numbers_in_range (take record_size p)) fits

  long : record_size ≤ length p
  long = omega (arith, record_long (take record_size p) here, length-take record_size p)

  module _ (q : List ℕ) (m : ℕ) where
    abbrev counters : Bool
    counters = counters_lead p m half full (two_bytes_at q half_at) (two_bytes_at q full_at)

    leads_is : leads_to p m q && counters ≡ comes_after (position_of p) m (position_of q)
    unfolding comes_from counters_lead position_of
    leads_is = rw (le-leb record_size (length p) long)

    turns_is : leads_to p m q && counters ≡ turns_to p m q
    unfolding position_of
    turns_is = leads_is ∙ turned (position_of p) (position_of q) m here

    -- the cases of a move that may lead on
    pub no_lead : AllBytes p → rest_fits_with p m ≡ false → false ≡ move_leads p m q
    no_lead b e = rw (by_rest_with p m b fits, e)

    pub other_record : AllBytes p → rest_fits_with p m ≡ true → leads_to p m q ≡ false → false ≡ move_leads p m q
    other_record b e f = rw (by_rest_with p m b fits, e, ← turns_is, f)

    pub by_counters : AllBytes p → rest_fits_with p m ≡ true → leads_to p m q ≡ true → counters ≡ move_leads p m q
    by_counters b e f = rw (by_rest_with p m b fits, e, ← turns_is, f)

    -- what a move leads to has a record in range again
    pub leads_in_range : m ≤ last_move → move_leads p m q ≡ true → record_fits q ≡ true
    unfolding position_of counters_from
    leads_in_range h e =
        let turns : turns_to p m q ≡ true = both_right (is_position_with p m) (turns_to p m q) e in
        let after : comes_after (position_of p) m (position_of q) ≡ true =
        both_right (not (eqb (side (position_of q)) (side (position_of p)))) (comes_after (position_of p) m (position_of q)) turns in
        let record-test : Bool = same (take record_size q) (record_after (take record_size p) m) in
        let half-test : Bool = eqb (two_bytes_at q half_at) (half_after (take record_size p) half (m % 64) (m / 64 % 64)) in
        let full-test : Bool = eqb (two_bytes_at q full_at) (full_after (get_or (take record_size p) side_at 0) full) in
        let r : take record_size q ≡ record_after (take record_size p) m = same_eq _ _ (both_left record-test (half-test && full-test) after) in
        let both = both_right record-test (half-test && full-test) after in
        let x : two_bytes_at q half_at ≡ half_after (take record_size p) half (m % 64) (m / 64 % 64) = eqb-true _ _ (both_left half-test full-test both) in
        let y : two_bytes_at q full_at ≡ full_after (get_or (take record_size p) side_at 0) full = eqb-true _ _ (both_right half-test full-test both) in
        let c = counters_after_lem (take record_size p) (get_or (take record_size p) side_at 0) half full (m % 64) (m / 64 % 64)
        (counters_in half full counted) in
        rw (x, y, r, counters_hold _ _ c) (record_after_in_range (take record_size p) m here h)
