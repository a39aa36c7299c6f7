-- The checks of a position, by the paths that a caller takes through them, and what a position that passes is.
-- Assumes nothing.
use mathlib.Core.Path.{◌≡◌, refl, ap, sym, ◌∙◌}
use mathlib.Core.Bool.{Bool, true, false, ◌&&◌}
use mathlib.Core.List.{List, [], ◌∷◌, ◌++◌}
use Prim.Native.Nat.{ℕ, ◌+◌, ◌≤◌, ◌<◌}
use native.Mathlib.Omega.{arith}
use lib.Dec.{eqb, leb}
use lib.ListN.{length, get_or, length-append}
use lib.Seq.{take_at, get_or-append-add}
use borrow.Author.Tests.{eq-eqb, le-leb, lt-leb, eqb-true, leb-true}
use Rattle.answer.specs.Answer.{out_of_range, bad_list}
use Rattle.answer.proofs.Numbers.{both_left, both_right}
use Rattle.answer.specs.Numbers.{all_at_most}
use Rattle.board_builder.specs.declared.BoardBuilder.{BoardBuilder}
use Rattle.board_builder.specs.BoardBuilder.{squares, record_size, numbers, board_of, counters_in_range, in_range, numbers_in_range}
use Rattle.chess_move.specs.Number.{last_move}
use Rattle.move_list.specs.MoveList.{longest_list, list_in_range}
use Rattle.position.specs.Layout.{Position}
use Rattle.stored_position.specs.Bytes.{record_good, position_check}

-- a record's numbers are in range exactly if the record is
module _ (b : BoardBuilder) (long : length b.pieces ≡ squares) where
  abbrev pub four : List ℕ
  four = b.side_to_move ∷ b.white_castle_rights ∷ b.black_castle_rights ∷ b.en_passant ∷ []

  pub behind : (j : ℕ) → get_or (b.pieces ++ four) (squares + j) 0 ≡ get_or four j 0
  behind j = ap (λ (k : ℕ). get_or (b.pieces ++ four) (k + j) 0) (sym long) ∙ get_or-append-add b.pieces four j 0

  pub length_numbers : length (numbers b) ≡ record_size
  unfolding numbers
  length_numbers = length-append b.pieces four ∙ omega arith

  pub numbers_range : counters_in_range b.half_moves b.full_moves && numbers_in_range (numbers b) ≡ in_range b
  unfolding numbers numbers_in_range in_range
  numbers_range =
      rw (
        eq-eqb _ record_size length_numbers,
        take_at b.pieces four squares long,
        behind 0,
        behind 1,
        behind 2,
        behind 3,
      )

module _ (p : Position) where
  pub bad_board : record_good p ≡ false → position_check p ≡ out_of_range
  unfolding position_check
  bad_board e = rw e

  pub bad_check : record_good p ≡ true → 1 < p.check → position_check p ≡ out_of_range
  unfolding position_check
  bad_check e h = rw (e, lt-leb p.check 1 h)

  pub bad_list_fact : record_good p ≡ true → p.check ≤ 1 → list_in_range p.moves ≡ false → position_check p ≡ bad_list
  unfolding position_check
  bad_list_fact e h f = rw (e, le-leb p.check 1 h, f)

  pub no_fault : record_good p ≡ true → p.check ≤ 1 → list_in_range p.moves ≡ true → position_check p ≡ 0
  unfolding position_check
  no_fault e h f = rw (e, le-leb p.check 1 h, f)

-- with the rest in range, a position is in range exactly if its list is
pub by_list : (p : Position) → record_good p ≡ true → p.check ≤ 1 → eqb (position_check p) 0 ≡ list_in_range p.moves
by_list p e h = go (list_in_range p.moves) refl
  where
    go : (t : Bool) → list_in_range p.moves ≡ t → eqb (position_check p) 0 ≡ t
    go true f = eq-eqb _ _ (no_fault p e h f)
    go false f = ap (λ (n : ℕ). eqb n 0) (bad_list_fact p e h f)

-- what a position that passes its check is
pub record Fits (p : Position) : Type 0 where
  pub wide : length p.board ≡ record_size
  pub short : length p.moves ≤ longest_list
  pub list : list_in_range p.moves ≡ true

pub position_fits : (p : Position) → position_check p ≡ 0 → Fits p
unfolding position_check numbers_in_range list_in_range
position_fits p h = go (record_good p && leb p.check 1) (list_in_range p.moves) refl refl
  where
    go : (a b : Bool) → (record_good p && leb p.check 1) ≡ a → list_in_range p.moves ≡ b → Fits p
    go true true e f = record {
      wide = eqb-true _ _
          (both_left (eqb (length p.board) record_size) (in_range (board_of p.board))
          (both_right (counters_in_range p.half p.full) (numbers_in_range p.board) (both_left (record_good p) (leb p.check 1) e)));
      short = leb-true _ _ (both_left (leb (length p.moves) longest_list) (all_at_most last_move p.moves) f);
      list = f;
    }
    go true false e f = absurd (omega (arith, simp (e, f) at h))
    go false b e f = absurd (omega (arith, simp e at h))
