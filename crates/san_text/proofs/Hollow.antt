-- Demand 3 is not kept by a namer that always refuses, nor by one that writes nothing, nor by our namer with a reader that always refuses, which does
-- not keep demand 2 either. Tried on a king on e1 with a castling pair listed: its name is `O-O`, and no front of an empty room reads as it.
-- Assumes nothing.
use Prim.Native.Nat.{ℕ, ◌≤◌, ◌<◌}
use mathlib.Core.Path.{◌≡◌, refl, sym, ap, ◌∙◌}
use mathlib.Core.Bool.{true, false, not, false≢true}
use mathlib.Core.List.{List, [], ◌∷◌}
use mathlib.Core.Logic.{◌⊎◌, inl, inr}
use native.Mathlib.Omega.{arith}
use lib.Dec.{lit≤}
use lib.ListN.{length, take, replicate}
use Rattle.answer.specs.declared.Answer.{Answer}
use Rattle.answer.specs.Answer.{accepted, write_answer}
use Rattle.answer.specs.Numbers.{all_at_most, same, among}
use Rattle.answer.proofs.Below.{fails, below}
use Rattle.board_builder.specs.declared.BoardBuilder.{BoardBuilder}
use Rattle.board_builder.specs.BoardBuilder.{in_range, empty_board}
use Rattle.board_builder.specs.Steps.{with_piece}
use Rattle.move_list.specs.MoveList.{list_in_range}
use Rattle.san_text.specs.Place.{place_from, square_at}
use Rattle.san_text.specs.Text.{king_side_text, promotion_kind, piece_kind, after, read_takes, read_rank, read_file, read_piece, read_dest, read_text}
use Rattle.square.specs.Piece.{kind_of}
use Rattle.san_text.specs.Resolve.{castling_move, castle}
use Rattle.san_text.specs.Form.{castled, resolved, read_answer}
use Rattle.san_text.specs.Name.{is_this_move, castling_name, king_first, name_of, name_text, name_check}
use Rattle.san_text.specs.Paper.{from_san, name_answer}
use Rattle.san_text.specs.Promises.{Namer, namer, Ready, NamedSo, Unnamed, Demand3}
use Rattle.san_text.specs.Promises.{RefusingNamerFails, SilentNamerFails, RefusingReaderFails, RefusingPairKeepsDemand3}

-- a white king on e1, and the move to g1
abbrev king : BoardBuilder
king = with_piece empty_board 4 6

abbrev castling : ℕ
castling = 388

abbrev listed : List ℕ
listed = castling ∷ []

abbrev room : List ℕ
room = replicate 11 0

room_long : 11 ≤ length room
room_long = lit≤ tt

ready : Ready king listed castling
unfolding in_range all_at_most list_in_range among
ready = record { record_in_range = refl; list_in_range_fact = refl; move_listed = refl }

reads : from_san king listed king_side_text ≡ accepted castling
unfolding read_answer in_range all_at_most list_in_range among resolved castled castle castling_move read_text same
reads = refl

named : (name_answer king listed castling (length room)).number ≡ 0
unfolding write_answer in_range all_at_most list_in_range among name_check name_text name_of king_first castling_name castling_move kind_of
named = refl

-- so a namer that keeps demand 3 with our reader names it
module _ (w : Namer) (keeps : Demand3 w from_san) where
  names_it : NamedSo w from_san king listed castling room
  names_it = go (keeps king listed castling room ready room_long)
    where
      go : NamedSo w from_san king listed castling room ⊎ Unnamed w from_san king listed castling room → NamedSo w from_san king listed castling room
      go (inl n) = n
      go (inr u) = absurd (u.none_reads king_side_text reads)

pub refusing_namer_fails : RefusingNamerFails
refusing_namer_fails w refuses keeps = refuses king listed castling (length room) (names_it w keeps).number

-- no front of the room as it was reads as the move
silent : (n : ℕ) → n < 12 → is_this_move (from_san king listed (take n room)) castling ≡ false
unfolding read_answer in_range all_at_most list_in_range among resolved castled castle castling_move read_text same read_piece read_file read_rank read_takes
    read_dest piece_kind promotion_kind place_from square_at after
silent n h = fails _ (below (λ (k : ℕ). not (is_this_move (from_san king listed (take k room)) castling)) 12 tt n h)

lt_suc : {n : ℕ} → n ≤ 11 → n < 12
lt_suc h = omega arith

is_it : (a : Answer) → a ≡ accepted castling → is_this_move a castling ≡ true
is_it a e = ap (λ (r : Answer). is_this_move r castling) e

pub silent_namer_fails : SilentNamerFails
silent_namer_fails w Writes-nothing keeps =
    let s = names_it w keeps in
    let n = (w.answer king listed castling (length room)).value in
    let back : from_san king listed (take n room) ≡ accepted castling = rw (Writes-nothing king listed castling room) at s.back in
    false≢true (sym (silent n (lt_suc s.most)) ∙ is_it (from_san king listed (take n room)) back)

-- ---- readers

number : (a : Answer) → a ≡ accepted castling → a.number ≡ 0
number a e = ap (λ (r : Answer). r.number) e

pub refusing_reader_fails : RefusingReaderFails
refusing_reader_fails read refuses =
    record {
      to_read = λ keeps. refuses king listed king_side_text (number _ (keeps king listed king_side_text ∙ reads));
      to_read_names = λ keeps. go (keeps king listed castling room ready room_long);
    }
  where
    go : NamedSo namer read king listed castling room ⊎ Unnamed namer read king listed castling room → ⊥
    go (inl n) = refuses king listed _ (number _ n.back)
    go (inr u) = let z : ◌≡◌ {A = ℕ} 0 8 = sym named ∙ u.number in omega arith

pub refusing_pair_keeps_demand3 : RefusingPairKeepsDemand3
refusing_pair_keeps_demand3 w read unnamed refuses b moves m out h room =
    inr (record { number = unnamed b moves m (length out); none_reads = λ t e. refuses b moves t (ap (λ (r : Answer). r.number) e) })
