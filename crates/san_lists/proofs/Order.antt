-- A list in another order gives the same move and the same name, in any form: the same answers, refusals included, and the same bytes in the room.
-- Assumes nothing.
use Prim.Native.Nat.{ℕ, ◌≤◌}
use mathlib.Core.Path.{◌≡◌, refl, sym, ap, ◌∙◌, fun_ext}
use mathlib.Core.Bool.{Bool, true, false, cond}
use mathlib.Core.List.{List}
use native.Mathlib.Omega.{arith}
use lib.Dec.{eqb}
use borrow.Author.Tests.{eqb-true}
use Rattle.std.specs.Prelude.{Some, None}
use Rattle.answer.specs.declared.Answer.{Answer}
use Rattle.answer.specs.Answer.{accepted, refused, invalid_san_move}
use Rattle.answer.specs.Numbers.{among}
use Rattle.board_builder.specs.declared.BoardBuilder.{BoardBuilder}
use Rattle.move_list.specs.MoveList.{count, first_of}
use Rattle.move_list.proofs.Counting.{first_passes, first_listed}
use Rattle.san_text.specs.declared.SanText.TheVariants.{KingSide, QueenSide, Move}
use Rattle.san_text.specs.Text.{Said}
use Rattle.san_text.specs.Resolve.{fits, sole_that, castle}
use Rattle.san_text.specs.Form.{Form, castled, resolved, read_answer}
use Rattle.san_text.specs.Name.{is_this_move, names, name_of, name_text, name_check}
use Rattle.san_lists.specs.Lists.{Reordered}
use Rattle.san_lists.specs.Calls.{calls_of}
use Rattle.san_lists.specs.Promises.{AnyOrder}
use Rattle.san_lists.proofs.Counts.{reordered_count, reordered_listed, reordered_range, only_one}

module _ (l k : List ℕ) (r : Reordered l k) where
  -- the one entry that passes is in the other list too, and is the one there
  first_same : (f : ℕ → Bool) → count f l ≡ 1 → first_of f l ≡ first_of f k
  first_same f one =
      let low : 1 ≤ count f l = omega arith in
      let there : among (first_of f l) k ≡ true = sym (reordered_listed l k r (first_of f l)) ∙ first_listed f l low in
      sym (only_one f (first_of f l) (first_passes f l low) k (sym (reordered_count f l k r) ∙ one) there)

  sole_same : (f g : ℕ → Bool) → sole_that f g l ≡ sole_that f g k
  unfolding sole_that
  sole_same f g = rw (← reordered_count f l k r) (go (eqb (count f l) 1) refl)
    where
      answer : ℕ → Answer
      answer m = cond (g m) (accepted m) (refused invalid_san_move)

      go : (b : Bool) → eqb (count f l) 1 ≡ b
          → cond b (answer (first_of f l)) (refused invalid_san_move) ≡ cond b (answer (first_of f k)) (refused invalid_san_move)
      go true e = ap answer (first_same f (eqb-true (count f l) 1 e))
      go false e = refl

  module _ (F : Form) (b : BoardBuilder) where
    castled_same : (file : ℕ) → castled F b l file ≡ castled F b k file
    unfolding castled castle
    castled_same file = rw (reordered_listed l k r)

    text_same : (t : Said) → resolved F b l t ≡ resolved F b k t
    unfolding resolved
    text_same (Some KingSide) = castled_same 6
    text_same (Some QueenSide) = castled_same 2
    text_same (Some (Move u)) = sole_same (fits b.pieces u) (F.captures b.pieces u)
    text_same None = refl

    -- the same move
    read_same : (text : List ℕ) → read_answer F b l text ≡ read_answer F b k text
    unfolding read_answer
    read_same text = rw (reordered_range l k r, text_same (F.read text))

    -- the same name
    name_same : (m : ℕ) → name_of F b l m ≡ name_of F b k m
    unfolding name_of names
    name_same m = rw (fun_ext (λ (t : List ℕ). ap (λ (a : Answer). is_this_move a m) (text_same (F.read t))))

    name_text_same : (m : ℕ) → name_text F b l m ≡ name_text F b k m
    unfolding name_text
    name_text_same m = rw (name_same m)

    name_check_same : (m : ℕ) → name_check F b l m ≡ name_check F b k m
    unfolding name_check
    name_check_same m = rw (reordered_range l k r, reordered_listed l k r m, name_same m)

pub any_order : (F : Form) → AnyOrder (calls_of F)
any_order F = record {
  read = λ b l k text r. read_same l k r F b text;
  answer = λ b l k m room r. rw (name_check_same l k r F b m, name_text_same l k r F b m);
  room = λ b l k m out r. rw (name_check_same l k r F b m, name_text_same l k r F b m);
}
