-- What an answer says about the only entry that fits, and that both source parts leave no other.
-- Assumes nothing.
use Prim.Native.Nat.{ℕ, ◌+◌, ◌/◌, ◌%◌}
use mathlib.Core.Path.{◌≡◌, refl, sym, ap, ap₂, ◌∙◌}
use mathlib.Core.Bool.{Bool, true, false, cond, ◌&&◌, ◌||◌, false≢true}
use mathlib.Core.List.{List}
use native.Mathlib.Omega.{arith}
use lib.Dec.{eqb}
use borrow.Author.Tests.{eq-eqb, ne_eqb, eqb-true}
use Rattle.answer.specs.declared.Answer.{Answer}
use Rattle.answer.specs.Answer.{accepted, refused, invalid_san_move}
use Rattle.answer.specs.Numbers.{among}
use Rattle.answer.proofs.Numbers.{both_left, both_right}
use Rattle.chess_move.specs.Number.{source_of, dest_of, promotion_of}
use Rattle.chess_move.proofs.Numbers.{same_number, same_square}
use Rattle.move_list.specs.MoveList.{count, first_of}
use Rattle.move_list.proofs.Counting.{first_passes, sole}
use Rattle.san_text.specs.declared.San.{San}
use Rattle.san_text.specs.Resolve.{kind_on, agrees, fits, sole_that, castling_move, castle}
use Rattle.san_text.specs.Name.{is_this_move}
use Rattle.san_text.proofs.Says.{Moves, Promotes}
use Rattle.san_text.proofs.Front.{both_with}

-- ---- what an answer says

pub accepted_is : {a b : ℕ} → accepted a ≡ accepted b → a ≡ b
accepted_is e = ap (λ (r : Answer). r.value) e

pub refused_not : {m : ℕ} → refused invalid_san_move ≡ accepted m → ⊥
refused_not e =
    let z : ◌≡◌ {A = ℕ} 4 0 = ap (λ (r : Answer). r.number) e in
    omega arith

pub move_is : (a : Answer) (m : ℕ) → is_this_move a m ≡ true → a ≡ accepted m
move_is a m e =
    ap₂ (λ (n v : ℕ). record { number = n; value = v })
    (eqb-true a.number 0 (both_left (eqb a.number 0) (eqb a.value m) e))
    (eqb-true a.value m (both_right (eqb a.number 0) (eqb a.value m) e))

pub is_move_lem : (m : ℕ) → is_this_move (accepted m) m ≡ true
is_move_lem m = eq-eqb m m refl

pub castle_is : (side : ℕ) (l : List ℕ) (file m : ℕ) → castle side l file ≡ accepted m → castling_move side file ≡ m
unfolding castle
castle_is side l file m e = go (among (castling_move side file) l) e
  where
    go : (b : Bool) → cond b (accepted (castling_move side file)) (refused invalid_san_move) ≡ accepted m → castling_move side file ≡ m
    go true p = accepted_is p
    go false p = absurd (refused_not p)

-- the only move that passes f, which also passes g
pub record Alone (f g : ℕ → Bool) (l : List ℕ) (m : ℕ) : Type 0 where
  pub one : count f l ≡ 1
  pub here : first_of f l ≡ m
  pub passes : f m ≡ true
  pub further : g m ≡ true

pub alone : (f g : ℕ → Bool) (l : List ℕ) (m : ℕ) → sole_that f g l ≡ accepted m → Alone f g l m
unfolding sole_that
alone f g l m e = go (eqb (count f l) 1) (g (first_of f l)) refl refl e
  where
    go : (b c : Bool) → eqb (count f l) 1 ≡ b → g (first_of f l) ≡ c
        → cond b (cond c (accepted (first_of f l)) (refused invalid_san_move)) (refused invalid_san_move) ≡ accepted m → Alone f g l m
    go true true p r q =
        let one : count f l ≡ 1 = eqb-true (count f l) 1 p in
        let x : first_of f l ≡ m = accepted_is q in
        record { one = one; here = x; passes = ap f (sym x) ∙ first_passes f l (omega arith); further = ap g (sym x) ∙ r }
    go true false p r q = absurd (refused_not q)
    go false c p r q = absurd (refused_not q)

-- ---- an entry that fits

pub record Fitted (pieces : List ℕ) (u : San) (m : ℕ) : Type 0 where
  pub kind : kind_on pieces (source_of m) ≡ u.piece
  pub file : agrees u.file (source_of m % 8 + 1) ≡ true
  pub rank : agrees u.rank (source_of m / 8 + 1) ≡ true
  pub dest : dest_of m ≡ u.dest
  pub promotion : promotion_of m ≡ u.promotion

all_five : (a b c d e : Bool) → a && (b && (c && (d && e))) ≡ true → (a ≡ true) × (b ≡ true) × (c ≡ true) × (d ≡ true) × (e ≡ true)
all_five true true true true e p = (refl, refl, refl, refl, p)
all_five true true true false e p = absurd (false≢true p)
all_five true true false d e p = absurd (false≢true p)
all_five true false c d e p = absurd (false≢true p)
all_five false b c d e p = absurd (false≢true p)

pub fitted : (pieces : List ℕ) (u : San) (m : ℕ) → fits pieces u m ≡ true → Fitted pieces u m
unfolding fits
fitted pieces u m e =
    let kind = eqb (kind_on pieces (source_of m)) u.piece in
    let file = agrees u.file (source_of m % 8 + 1) in
    let rank = agrees u.rank (source_of m / 8 + 1) in
    let h = all_five kind file rank (eqb (dest_of m) u.dest) (eqb (promotion_of m) u.promotion) e in
    record { kind = eqb-true _ _ h.0; file = h.1; rank = h.2; dest = eqb-true _ _ h.3; promotion = eqb-true _ _ h.4 }

-- ---- only the move itself fits the text with both source parts

or_true : (b : Bool) → b || true ≡ true
or_true true = refl
or_true false = refl

agrees_same : (n : ℕ) → agrees n n ≡ true
unfolding agrees
agrees_same n = rw (eq-eqb n n refl) (or_true (eqb n 0))

agrees_is : (n found : ℕ) → agrees (n + 1) found ≡ true → n + 1 ≡ found
unfolding agrees
agrees_is n found e = eqb-true (n + 1) found (rw (ne_eqb (n + 1) 0 (omega arith)) at e)

module _ (pieces : List ℕ) (m : ℕ) (takes mark : Bool) where
  both_fits : fits pieces (both_with pieces m takes mark) m ≡ true
  unfolding fits
  both_fits =
      rw (
        eq-eqb (kind_on pieces (source_of m)) (kind_on pieces (source_of m)) refl,
        agrees_same (source_of m % 8 + 1),
        agrees_same (source_of m / 8 + 1),
        eq-eqb (dest_of m) (dest_of m) refl,
        eq-eqb (promotion_of m) (promotion_of m) refl,
      )

  both_only : (x : ℕ) → fits pieces (both_with pieces m takes mark) x ≡ true → x ≡ m
  both_only x e =
      let h = fitted pieces (both_with pieces m takes mark) x e in
      same_number x m
      (same_square (source_of x) (source_of m)
      (part (agrees_is (source_of m % 8) (source_of x % 8 + 1) h.file))
      (part (agrees_is (source_of m / 8) (source_of x / 8 + 1) h.rank)))
      h.dest
      h.promotion
    where
      part : {a b : ℕ} → a + 1 ≡ b + 1 → b ≡ a
      part e = omega arith

  -- if some text fits only the move, the text with both source parts does too, if it passes the form's test
  pub both_sole : (l : List ℕ) (u : San) (g g' : ℕ → Bool) → among m l ≡ true → g' m ≡ true → sole_that (fits pieces u) g l ≡ accepted m
      → sole_that (fits pieces (both_with pieces m takes mark)) g' l ≡ accepted m
  unfolding sole_that
  both_sole l u g g' h c e =
      let f = fits pieces (both_with pieces m takes mark) in
      let r = alone (fits pieces u) g l m e in
      let s = sole f (fits pieces u) m l both_only both_fits r.passes r.one h in
      rw (eq-eqb (count f l) 1 s.0, s.1, c)

-- a kind and a promotion that a text can say are those of the move that it names
pub sayable : (pieces : List ℕ) (u : San) (g : ℕ → Bool) (l : List ℕ) (m : ℕ) → sole_that (fits pieces u) g l ≡ accepted m → Moves u.piece
    → Promotes u.promotion
    → (Moves (kind_on pieces (source_of m))) × (Promotes (promotion_of m))
sayable pieces u g l m e k p =
    let t = fitted pieces u m (alone (fits pieces u) g l m e).passes in
    (rw t.kind k, rw t.promotion p)
