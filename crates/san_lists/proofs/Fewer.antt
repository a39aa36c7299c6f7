-- Fewer or more entries, in any form: removing entries other than the resolved move keeps an accepted answer; adding entries in range keeps the move or
-- refuses with 4.
-- Assumes nothing.
use Prim.Native.Nat.{ℕ, ◌≤◌}
use mathlib.Core.Path.{◌≡◌, refl, ap, ◌∙◌}
use mathlib.Core.Bool.{Bool, true, false, cond}
use mathlib.Core.List.{List}
use mathlib.Core.Logic.{◌⊎◌, inl, inr}
use native.Mathlib.Omega.{arith}
use lib.Dec.{eqb}
use borrow.Author.Tests.{eq-eqb, eqb-true}
use Rattle.std.specs.Prelude.{Some, None}
use Rattle.answer.specs.declared.Answer.{Answer}
use Rattle.answer.specs.Answer.{accepted, refused, invalid_san_move, bad_list, out_of_range}
use Rattle.answer.specs.Numbers.{among}
use Rattle.board_builder.specs.declared.BoardBuilder.{BoardBuilder}
use Rattle.board_builder.specs.BoardBuilder.{in_range}
use Rattle.move_list.specs.MoveList.{list_in_range, count, first_of}
use Rattle.move_list.proofs.Counting.{first_listed, count_listed}
use Rattle.san_text.specs.declared.SanText.TheVariants.{KingSide, QueenSide, Move}
use Rattle.san_text.specs.Text.{Said}
use Rattle.san_text.specs.Resolve.{fits, sole_that, castling_move, castle}
use Rattle.san_text.specs.Form.{Form, castled, resolved, read_answer}
use Rattle.san_text.proofs.Sole.{refused_not, castle_is, Alone, alone}
use Rattle.san_lists.specs.Lists.{Within}
use Rattle.san_lists.specs.Calls.{calls_of}
use Rattle.san_lists.specs.Promises.{RemovingKeeps, AddingKeepsOrRefuses}
use Rattle.san_lists.proofs.Counts.{within_count, within_listed, within_range, only_one}

-- ---- a shorter and a longer list, the move in the shorter

module _ (l k : List ℕ) (w : Within l k) (m : ℕ) (here : among m l ≡ true) where
  -- the only entry that passes in the longer list is the only one in the shorter
  sole_kept : (f g : ℕ → Bool) → sole_that f g k ≡ accepted m → sole_that f g l ≡ accepted m
  unfolding sole_that
  sole_kept f g e =
      let a = alone f g k m e in
      let low : 1 ≤ count f l = count_listed f m a.passes l here in
      let one : count f l ≡ 1 = omega (arith, within_count f l k w, a.one) in
      rw (eq-eqb (count f l) 1 one, only_one f m a.passes l one here, a.further)

  castle_kept : (side file : ℕ) → castle side k file ≡ accepted m → castle side l file ≡ accepted m
  unfolding castle
  castle_kept side file e = rw (castle_is side k file m e, here)

  -- the only entry that passes in the shorter list is the only one in the longer, or several pass there
  sole_added : (f g : ℕ → Bool) → sole_that f g l ≡ accepted m → (sole_that f g k ≡ accepted m) ⊎ (sole_that f g k ≡ refused invalid_san_move)
  unfolding sole_that
  sole_added f g e = go (eqb (count f k) 1) refl
    where
      a : Alone f g l m
      a = alone f g l m e

      answer : Bool → ℕ → Answer
      answer b x = cond b (cond (g x) (accepted x) (refused invalid_san_move)) (refused invalid_san_move)

      go : (b : Bool) → eqb (count f k) 1 ≡ b → (answer b (first_of f k) ≡ accepted m) ⊎ (answer b (first_of f k) ≡ refused invalid_san_move)
      go true q = inl (rw (only_one f m a.passes k (eqb-true (count f k) 1 q) (within_listed l k w m here), a.further))
      go false q = inr refl

  castle_added : (side file : ℕ) → castle side l file ≡ accepted m → castle side k file ≡ accepted m
  unfolding castle
  castle_added side file e = rw (castle_is side l file m e, within_listed l k w m here)

  module _ (F : Form) (b : BoardBuilder) where
    castled_kept : (file : ℕ) → castled F b k file ≡ accepted m → castled F b l file ≡ accepted m
    unfolding castled
    castled_kept file e = go (F.castles b) e
      where
        go : (c : Bool) → cond c (castle b.side_to_move k file) (refused invalid_san_move) ≡ accepted m
            → cond c (castle b.side_to_move l file) (refused invalid_san_move) ≡ accepted m
        go true q = castle_kept b.side_to_move file q
        go false q = q

    castled_added : (file : ℕ) → castled F b l file ≡ accepted m → castled F b k file ≡ accepted m
    unfolding castled
    castled_added file e = go (F.castles b) e
      where
        go : (c : Bool) → cond c (castle b.side_to_move l file) (refused invalid_san_move) ≡ accepted m
            → cond c (castle b.side_to_move k file) (refused invalid_san_move) ≡ accepted m
        go true q = castle_added b.side_to_move file q
        go false q = q

    pub text_kept : (t : Said) → resolved F b k t ≡ accepted m → resolved F b l t ≡ accepted m
    unfolding resolved
    text_kept (Some KingSide) e = castled_kept 6 e
    text_kept (Some QueenSide) e = castled_kept 2 e
    text_kept (Some (Move u)) e = sole_kept (fits b.pieces u) (F.captures b.pieces u) e
    text_kept None e = e

    text_added : (t : Said) → resolved F b l t ≡ accepted m → (resolved F b k t ≡ accepted m) ⊎ (resolved F b k t ≡ refused invalid_san_move)
    unfolding resolved
    text_added (Some KingSide) e = inl (castled_added 6 e)
    text_added (Some QueenSide) e = inl (castled_added 2 e)
    text_added (Some (Move u)) e = sole_added (fits b.pieces u) (F.captures b.pieces u) e
    text_added None e = inr refl

-- ---- whole answers

-- an accepted answer had its record and its list in range, and its move is listed
pub record Resolved (F : Form) (b : BoardBuilder) (l text : List ℕ) (m : ℕ) : Type 0 where
  pub record_in_range : in_range b ≡ true
  pub list_in_range_fact : list_in_range l ≡ true
  pub resolves : resolved F b l (F.read text) ≡ accepted m

pub accepted_so : (F : Form) (b : BoardBuilder) (l text : List ℕ) (m : ℕ) → read_answer F b l text ≡ accepted m → Resolved F b l text m
unfolding read_answer
accepted_so F b l text m e =
    go (in_range b) (list_in_range l) refl refl e
  where
    go : (p q : Bool) → in_range b ≡ p → list_in_range l ≡ q → cond p (cond q (resolved F b l (F.read text)) (refused bad_list)) (refused out_of_range) ≡
        accepted m
        → Resolved F b l text m
    go true true p q r = record { record_in_range = p; list_in_range_fact = q; resolves = r }
    go true false p q r = absurd (let z : ◌≡◌ {A = ℕ} 6 0 = ap (λ (a : Answer). a.number) r in omega arith)
    go false q p s r = absurd (let z : ◌≡◌ {A = ℕ} 5 0 = ap (λ (a : Answer). a.number) r in omega arith)

sole_listed : (f g : ℕ → Bool) (l : List ℕ) (m : ℕ) → sole_that f g l ≡ accepted m → among m l ≡ true
sole_listed f g l m e =
    let a = alone f g l m e in
    rw a.here at (first_listed f l (omega (arith, a.one)))

castle_listed : (side file : ℕ) (l : List ℕ) (m : ℕ) → castle side l file ≡ accepted m → among m l ≡ true
unfolding castle
castle_listed side file l m e =
    go (among (castling_move side file) l) refl e
  where
    go : (c : Bool) → among (castling_move side file) l ≡ c → cond c (accepted (castling_move side file)) (refused invalid_san_move) ≡ accepted m → among
        m l ≡ true
    go true h q = rw (ap (λ (a : Answer). a.value) q) at h
    go false h q = absurd (refused_not q)

castled_listed : (F : Form) (b : BoardBuilder) (file : ℕ) (l : List ℕ) (m : ℕ) → castled F b l file ≡ accepted m → among m l ≡ true
unfolding castled
castled_listed F b file l m e = go (F.castles b) e
  where
    go : (c : Bool) → cond c (castle b.side_to_move l file) (refused invalid_san_move) ≡ accepted m → among m l ≡ true
    go true q = castle_listed b.side_to_move file l m q
    go false q = absurd (refused_not q)

pub text_listed : (F : Form) (b : BoardBuilder) (l : List ℕ) (m : ℕ) (t : Said) → resolved F b l t ≡ accepted m → among m l ≡ true
unfolding resolved
text_listed F b l m (Some KingSide) e = castled_listed F b 6 l m e
text_listed F b l m (Some QueenSide) e = castled_listed F b 2 l m e
text_listed F b l m (Some (Move u)) e = sole_listed (fits b.pieces u) (F.captures b.pieces u) l m e
text_listed F b l m None e = absurd (refused_not e)

-- with the checks 5 and 6 passed
reads_as : (F : Form) (b : BoardBuilder) (l text : List ℕ) → in_range b ≡ true → list_in_range l ≡ true → read_answer F b l text ≡ resolved F b l (F.read text)
unfolding read_answer
reads_as F b l text p q = rw (p, q)

pub removing_keeps : (F : Form) → RemovingKeeps (calls_of F)
removing_keeps F b whole left text m w here e =
    let s = accepted_so F b whole text m e in
    reads_as F b left text s.record_in_range (within_range left whole w s.list_in_range_fact)
    ∙ text_kept left whole w m here F b (F.read text) s.resolves

pub adding_keeps_or_refuses : (F : Form) → AddingKeepsOrRefuses (calls_of F)
adding_keeps_or_refuses F b l more text m w range e =
    let s = accepted_so F b l text m e in
    let here = text_listed F b l m (F.read text) s.resolves in
    rw (reads_as F b more text s.record_in_range range) (text_added l more w m here F b (F.read text) s.resolves)
