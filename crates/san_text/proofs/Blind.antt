-- What the SAN reader does not look at: rights, en passant, and all of the board except the kinds at listed sources and whether listed destinations are
-- empty.
-- Assumes nothing.
use Prim.Native.Nat.{ℕ}
use mathlib.Core.Path.{◌≡◌, refl}
use mathlib.Core.Bool.{Bool, true, false, cond}
use mathlib.Core.List.{List}
use native.Mathlib.Omega.{arith}
use lib.Dec.{eqb}
use borrow.Author.Tests.{eqb-true}
use Rattle.std.specs.Prelude.{Some, None}
use Rattle.answer.specs.declared.Answer.{Answer}
use Rattle.answer.specs.Answer.{accepted, refused, invalid_san_move}
use Rattle.answer.specs.Numbers.{among}
use Rattle.board_builder.specs.declared.BoardBuilder.{BoardBuilder}
use Rattle.move_list.specs.MoveList.{count, first_of}
use Rattle.move_list.proofs.Counting.{count_same, first_listed}
use Rattle.san_text.specs.declared.San.{San}
use Rattle.san_text.specs.declared.SanText.TheVariants.{KingSide, QueenSide, Move}
use Rattle.san_text.specs.Text.{Said, read_text}
use Rattle.san_text.specs.Resolve.{fits, capture_test, sole_that}
use Rattle.san_text.specs.Form.{castled, resolved, read_answer}
use Rattle.san_text.specs.Paper.{paper}
use Rattle.san_text.specs.Promises.{BoardsAlike, SameSanAnswer}

-- tests that agree on the listed entries find the same one, whatever the form
pub sole_alike : (f f' g g' : ℕ → Bool) (l : List ℕ) → ((m : ℕ) → among m l ≡ true → f m ≡ f' m) → ((m : ℕ) → among m l ≡ true → g m ≡ g' m)
    → sole_that f g l ≡ sole_that f' g' l
unfolding sole_that
sole_alike f f' g g' l hf hg =
    let s = count_same f f' l hf in
    rw (s.0, s.1) (go (eqb (count f' l) 1) refl)
  where
    answer : (ℕ → Bool) → Answer
    answer test = cond (test (first_of f' l)) (accepted (first_of f' l)) (refused invalid_san_move)

    go : (t : Bool) → eqb (count f' l) 1 ≡ t → cond t (answer g) (refused invalid_san_move) ≡ cond t (answer g') (refused invalid_san_move)
    go true e =
        let one : count f' l ≡ 1 = eqb-true (count f' l) 1 e in
        rw (hg (first_of f' l) (first_listed f' l (omega arith)))
    go false e = refl

module _ (b c : BoardBuilder) (l : List ℕ) (a : BoardsAlike b c l) where
  pub fits_same : (u : San) (m : ℕ) → among m l ≡ true → fits b.pieces u m ≡ fits c.pieces u m
  unfolding fits
  fits_same u m h = rw (a.kinds m h)

  capture_same : (u : San) (m : ℕ) → among m l ≡ true → capture_test b.pieces u m ≡ capture_test c.pieces u m
  unfolding capture_test
  capture_same u m h = rw (a.empty m h)

  text_same : (t : Said) → resolved paper b l t ≡ resolved paper c l t
  unfolding resolved castled
  text_same (Some KingSide) = rw a.side
  text_same (Some QueenSide) = rw a.side
  text_same (Some (Move u)) =
      sole_alike (fits b.pieces u) (fits c.pieces u) (capture_test b.pieces u) (capture_test c.pieces u) l (fits_same u) (capture_same u)
  text_same None = refl

pub same_san_answer : SameSanAnswer
unfolding read_answer
same_san_answer b c l text p q a = rw (p, q, text_same b c l a (read_text text))
