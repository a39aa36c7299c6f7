-- Settling, and the call that settles.
-- Assumes nothing.
use mathlib.Core.Path.{◌≡◌, refl, ap, ap₂}
use mathlib.Core.Bool.{Bool, true, false, cond, not, ◌&&◌, ◌||◌, false≢true}
use mathlib.Core.List.{List}
use Prim.Native.Nat.{ℕ, ◌+◌, ◌-◌, ◌%◌, ◌≤◌, ◌<◌}
use native.Mathlib.Omega.{arith}
use lib.Dec.{eqb, ltb}
use borrow.Author.Tests.{ltb-true, ltb-false, eq-eqb, ne_eqb}
use Rattle.square.specs.Piece.{man_on}
use Rattle.square.specs.Square.{square_of}
use Rattle.move_rules.specs.After.{stood_before, stood_behind}
use Rattle.board_builder.specs.declared.BoardBuilder.{BoardBuilder}
use Rattle.board_builder.specs.BoardBuilder.{in_range}
use Rattle.board_builder.proofs.Ranges.{in_range_lem, range_holds}
use Rattle.settled_rules.specs.Settled.{stepped_rank, stepped_pawn, own_pawn, usable, settled_file, with_file, settled, settled_answer}
use Rattle.settled_rules.specs.Promises.{UsableByTheSquaresBeside, SettledIsSettled, OthersStay, WhateverTheCounters, StaysInRange}
use Rattle.settled_rules.specs.Promises.{UnusableFilesSettleAlike, CallSettles}

-- of a square on a file of 1 to 8: what stands beside it, by the files beside that one
module _ (l : List ℕ) (rank man file : ℕ) (h : 1 ≤ file) (k : file ≤ 8) where
  abbrev at : ℕ
  at = square_of rank (file - 1)

  before_it : stood_before l at man ≡ ltb 1 file && eqb (man_on l (square_of rank (file - 2))) man
  unfolding stood_before
  before_it = go (ltb 1 file) refl
    where
      go : (t : Bool) → ltb 1 file ≡ t → not (eqb (at % 8) 0) && eqb (man_on l (at - 1)) man ≡ t && eqb (man_on l (square_of rank (file - 2))) man
      go true e =
          let more : 1 < file = ltb-true 1 file e in
          let same : at - 1 ≡ square_of rank (file - 2) = omega (arith, more) in
          rw (ne_eqb (at % 8) 0 (λ z. omega (arith, more, k, z)), same)
      go false e =
          let first : file ≤ 1 = ltb-false 1 file e in
          rw (eq-eqb (at % 8) 0 (omega (arith, first, h)))

  behind_it : stood_behind l at man ≡ ltb file 8 && eqb (man_on l (square_of rank file)) man
  unfolding stood_behind
  behind_it = go (ltb file 8) refl
    where
      go : (t : Bool) → ltb file 8 ≡ t → not (eqb (at % 8) 7) && eqb (man_on l (at + 1)) man ≡ t && eqb (man_on l (square_of rank file)) man
      go true e =
          let fewer : file < 8 = ltb-true file 8 e in
          let same : at + 1 ≡ square_of rank file = omega (arith, h) in
          rw (ne_eqb (at % 8) 7 (λ z. omega (arith, fewer, h, z)), same)
      go false e =
          let last : 8 ≤ file = ltb-false file 8 e in
          rw (eq-eqb (at % 8) 7 (omega (arith, last, k)))

pub usable_by_the_squares_beside : UsableByTheSquaresBeside
unfolding usable stepped_pawn
usable_by_the_squares_beside l side file h k =
    let there : eqb file 0 ≡ false = ne_eqb file 0 (λ z. omega (arith, z, h)) in
    let rank = stepped_rank side in
    let own = own_pawn side in
    rw there (ap₂ ◌||◌ (before_it l rank own file h k) (behind_it l rank own file h k))

pub none_stays : (l : List ℕ) (side : ℕ) → settled_file l side 0 ≡ 0
unfolding settled_file usable
none_stays l side = refl

file_again : (l : List ℕ) (side file : ℕ) → settled_file l side (settled_file l side file) ≡ settled_file l side file
unfolding settled_file
file_again l side file = go (usable l side file) refl
  where
    go : (t : Bool) → usable l side file ≡ t → cond (usable l side (cond t file 0)) (cond t file 0) 0 ≡ cond t file 0
    go true e = rw e
    go false e = none_stays l side

pub settled_is_settled : SettledIsSettled
unfolding settled
settled_is_settled b = ap (λ (f : ℕ). with_file b f) (file_again b.pieces b.side_to_move b.en_passant)

pub others_stay : OthersStay
unfolding settled settled_file
others_stay b =
    record {
      pieces = refl;
      side = refl;
      white = refl;
      black = refl;
      half = refl;
      full = refl;
      kept = λ e. rw e;
      cleared = λ e. rw e;
    }

pub whatever_the_counters : WhateverTheCounters
unfolding settled
whatever_the_counters b half full = refl

-- ---- in range

file_most : (l : List ℕ) (side file : ℕ) → file ≤ 8 → settled_file l side file ≤ 8
unfolding settled_file
file_most l side file h = go (usable l side file)
  where
    go : (t : Bool) → cond t file 0 ≤ 8
    go true = h
    go false = omega arith

pub stays_in_range : StaysInRange
unfolding settled
stays_in_range b e =
    let r = in_range_lem b e in
    range_holds (settled b) (record {
      long = r.long;
      side = r.side;
      white = r.white;
      black = r.black;
      file = file_most b.pieces b.side_to_move b.en_passant r.file;
      codes = r.codes;
      counters = r.counters;
    })

-- ---- files

-- a file that can be used is one
usable_is_one : (l : List ℕ) (side file : ℕ) → usable l side file ≡ true → file ≡ 0 → ⊥
unfolding usable
usable_is_one l side file e z = false≢true (rw (eq-eqb file 0 z) at e)

pub unusable_files_settle_alike : UnusableFilesSettleAlike
unfolding settled settled_file
unusable_files_settle_alike b f g = record {
  alike = λ e k. rw (e, k);
  told = λ e s. go (usable l side g) refl e (ap (λ (a : BoardBuilder). a.en_passant) s);
}
  where
    l : List ℕ
    l = b.pieces

    side : ℕ
    side = b.side_to_move

    go : (t : Bool) → usable l side g ≡ t → usable l side f ≡ true → cond (usable l side f) f 0 ≡ cond (usable l side g) g 0 → f ≡ g
    go true k e s = rw (e, k) at s
    go false k e s = absurd (usable_is_one l side f e (rw (e, k) at s))

-- ---- the call

pub call_settles : CallSettles
unfolding settled_answer
call_settles =
    record {
      out_of_range_fact = λ b e. rw e;
      computed = λ b e. rw e;
      again = again;
    }
  where
    again : (b : BoardBuilder) → settled_answer (settled_answer b).board ≡ settled_answer b
    again b = go (in_range b) refl
      where
        go : (t : Bool) → in_range b ≡ t → settled_answer (settled_answer b).board ≡ settled_answer b
        go true e = rw (e, stays_in_range b e, settled_is_settled b)
        go false e = rw (e, e)
