-- The record's numbers as one list: there are 68 of them beside the counters and 70 in all, and they are the record.
-- Assumes nothing.
use mathlib.Core.Path.{◌≡◌, refl, ap, ◌∙◌, sym}
use mathlib.Core.List.{List, [], ◌∷◌, ◌++◌}
use Prim.Native.Nat.{ℕ, ◌+◌, ◌≤◌}
use native.Mathlib.Omega.{arith}
use lib.ListN.{length, take, drop, get_or, length-append, take-append-drop, drop_of_length-le}
use lib.Seq.{take_at, drop_at, drop-cons, get_or-append-add}
use Rattle.std.proofs.lemmas.List.{take-take, get_or-take}
use Rattle.board_builder.specs.declared.BoardBuilder.{BoardBuilder}
use Rattle.board_builder.specs.BoardBuilder.{board, board_of, with_counters, numbers, squares, record_size, in_range}
use Rattle.board_builder.specs.Promises.{SixtyEightNumbers, SeventyNumbers, NumbersAreTheRecord, NumbersAreThePosition, RecordOfNumbers}
use Rattle.board_builder.specs.Promises.{NumbersOfRecord, NoneIsOutOfRange}
use Rattle.board_builder.proofs.Ranges.{in_range_lem}

pub sixty_eight_numbers : SixtyEightNumbers
unfolding numbers
sixty_eight_numbers b r = simp length-append (omega (arith, (in_range_lem b r).long))

-- the two counters
abbrev counters : BoardBuilder → List ℕ
counters b = b.half_moves ∷ b.full_moves ∷ []

pub seventy_numbers : SeventyNumbers
seventy_numbers b r = length-append (numbers b) (counters b) ∙ ap (λ (n : ℕ). n + 2) (sixty_eight_numbers b r)

pub none_is_out_of_range : NoneIsOutOfRange
unfolding in_range
none_is_out_of_range = refl

-- a record is read off the numbers in front, whatever stands behind them
pub board_of_front : (l : List ℕ) → board_of (take record_size l) ≡ board_of l
board_of_front l = rw (
  take-take 64 68 l (omega arith),
  get_or-take 68 l 64 0 (omega arith),
  get_or-take 68 l 65 0 (omega arith),
  get_or-take 68 l 66 0 (omega arith),
  get_or-take 68 l 67 0 (omega arith),
) refl

-- the four numbers after the squares
abbrev rest : BoardBuilder → List ℕ
rest b = b.side_to_move ∷ b.white_castle_rights ∷ b.black_castle_rights ∷ b.en_passant ∷ []

pub numbers_are_the_position : NumbersAreThePosition
unfolding numbers
numbers_are_the_position a b r s e =
    let long : length a.pieces ≡ length b.pieces = (in_range_lem a r).long ∙ sym (in_range_lem b s).long in
    let n = length b.pieces in
    let front : a.pieces ≡ b.pieces = sym (take_at a.pieces (rest a) n long) ∙ ap (take n) e ∙ take_at b.pieces (rest b) n refl in
    let back : rest a ≡ rest b = sym (drop_at a.pieces (rest a) n long) ∙ ap (drop n) e ∙ drop_at b.pieces (rest b) n refl in
    let side : a.side_to_move ≡ b.side_to_move = cc in
    let white : a.white_castle_rights ≡ b.white_castle_rights = cc in
    let black : a.black_castle_rights ≡ b.black_castle_rights = cc in
    let file : a.en_passant ≡ b.en_passant = cc in
    let same : board a.pieces a.side_to_move a.white_castle_rights a.black_castle_rights a.en_passant
    ≡ board b.pieces b.side_to_move b.white_castle_rights b.black_castle_rights b.en_passant = cc in
    same

pub numbers_are_the_record : NumbersAreTheRecord
numbers_are_the_record a b r s e =
    let n : length (numbers a) ≡ record_size = sixty_eight_numbers a r in
    let m : length (numbers b) ≡ record_size = sixty_eight_numbers b s in
    let front : numbers a ≡ numbers b =
    sym (take_at (numbers a) (counters a) record_size n) ∙ ap (take record_size) e ∙ take_at (numbers b) (counters b) record_size m in
    let back : counters a ≡ counters b =
    sym (drop_at (numbers a) (counters a) record_size n) ∙ ap (drop record_size) e ∙ drop_at (numbers b) (counters b) record_size m in
    let half : a.half_moves ≡ b.half_moves = cc in
    let full : a.full_moves ≡ b.full_moves = cc in
    let position = numbers_are_the_position a b r s front in
    λ i. with_counters (position i) (half i) (full i)

pub record_of_numbers : RecordOfNumbers
unfolding numbers
record_of_numbers l long =
    let side : drop 64 l ≡ get_or l 64 0 ∷ drop 65 l = drop-cons l 64 0 (omega (arith, long)) in
    let white : drop 65 l ≡ get_or l 65 0 ∷ drop 66 l = drop-cons l 65 0 (omega (arith, long)) in
    let black : drop 66 l ≡ get_or l 66 0 ∷ drop 67 l = drop-cons l 66 0 (omega (arith, long)) in
    let file : drop 67 l ≡ get_or l 67 0 ∷ drop 68 l = drop-cons l 67 0 (omega (arith, long)) in
    let whole : length l ≤ 68 = omega (arith, long) in
    let end : drop 68 l ≡ [] = drop_of_length-le l whole in
    let four : get_or l 64 0 ∷ get_or l 65 0 ∷ get_or l 66 0 ∷ get_or l 67 0 ∷ [] ≡ drop 64 l = rw (side, white, black, file, end) refl in
    ap (λ (r : List ℕ). take squares l ++ r) four ∙ take-append-drop squares l

-- the number at a place behind the squares
behind : (b : BoardBuilder) (k : ℕ) → length b.pieces ≡ squares → get_or (b.pieces ++ rest b) (squares + k) 0 ≡ get_or (rest b) k 0
behind b k long = ap (λ (n : ℕ). get_or (b.pieces ++ rest b) (n + k) 0) (sym long) ∙ get_or-append-add b.pieces (rest b) k 0

pub numbers_of_record : NumbersOfRecord
unfolding numbers
numbers_of_record b r =
    let long : length b.pieces ≡ squares = (in_range_lem b r).long in
    let front : take squares (b.pieces ++ rest b) ≡ b.pieces = take_at b.pieces (rest b) squares long in
    let side : get_or (b.pieces ++ rest b) 64 0 ≡ b.side_to_move = behind b 0 long in
    let white : get_or (b.pieces ++ rest b) 65 0 ≡ b.white_castle_rights = behind b 1 long in
    let black : get_or (b.pieces ++ rest b) 66 0 ≡ b.black_castle_rights = behind b 2 long in
    let file : get_or (b.pieces ++ rest b) 67 0 ≡ b.en_passant = behind b 3 long in
    rw (front, side, white, black, file) refl
