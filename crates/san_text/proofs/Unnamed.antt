-- What one lawful form names, another names too, if it takes castling wherever the first does: a text of the first says which entry alone fits, and the
-- other's text with both source parts says as much. So a move that document 01's namer leaves unnamed, the standard's does too.
-- Assumes nothing.
use Prim.Native.Nat.{ℕ, ◌≤◌}
use mathlib.Core.Path.{◌≡◌, refl, subst}
use mathlib.Core.Bool.{Bool, true, false, cond}
use mathlib.Core.List.{List}
use mathlib.Core.Logic.{inl, inr}
use mathlib.Core.Option.{Option, none, some}
use native.Mathlib.Omega.{arith}
use lib.Dec.{eqb, leb}
use lib.ListN.{length}
use Rattle.std.specs.Prelude.{Some, None}
use Rattle.answer.specs.Answer.{out_of_range, bad_list, not_listed, no_name, accepted, write_answer}
use Rattle.answer.specs.Numbers.{among}
use Rattle.board_builder.specs.declared.BoardBuilder.{BoardBuilder}
use Rattle.board_builder.specs.BoardBuilder.{in_range}
use Rattle.board_builder.proofs.Ranges.{in_range_lem}
use Rattle.move_list.specs.MoveList.{list_in_range}
use Rattle.san_text.specs.declared.SanText.TheVariants.{KingSide, QueenSide, Move}
use Rattle.san_text.specs.Text.{Said}
use Rattle.san_text.specs.Form.{Form, resolved}
use Rattle.san_text.specs.Name.{none_is8, name_of, name_text, name_check}
use Rattle.san_text.specs.Paper.{paper}
use Rattle.san_text.specs.Standard.{standard}
use Rattle.san_text.specs.Promises.{UnnamedInBoth}
use Rattle.san_text.proofs.Says.{Says}
use Rattle.san_text.proofs.Sole.{refused_not}
use Rattle.san_text.proofs.Lawful.{Lawful}
use Rattle.san_text.proofs.PaperLawful.{paper_lawful}
use Rattle.san_text.proofs.StandardLawful.{standard_lawful}
use Rattle.san_text.proofs.Named.{Named, castled_is, named_castling, named_move, name_resolves}

module _ (F G : Form) (f : Lawful F) (g : Lawful G) (b : BoardBuilder) (l : List ℕ) (m : ℕ) (low : b.side_to_move ≤ 1) (h : among m l ≡ true)
    (castles : F.castles b ≡ true → G.castles b ≡ true) where
  named_by : (T : Said) → Says T → resolved F b l T ≡ accepted m → Named (name_of G b l m)
  unfolding resolved
  named_by (Some KingSide) Says.king_side q = let c = castled_is F f b l m low h 6 q in named_castling G g b l m low h (castles c.0) (inl c.1)
  named_by (Some QueenSide) Says.queen_side q = let c = castled_is F f b l m low h 2 q in named_castling G g b l m low h (castles c.0) (inr c.1)
  named_by (Some (Move u)) (Says.move k p) q = named_move G g b l m low h (F.captures b.pieces u) u k p q
  named_by None Says.nothing_said q = absurd (refused_not q)

  pub unnamed_too : name_of G b l m ≡ none → name_of F b l m ≡ none
  unnamed_too e = go (name_of F b l m) refl
    where
      go : (o : Option (List ℕ)) → name_of F b l m ≡ o → name_of F b l m ≡ none
      go none k = k
      go (some t) k = absurd (subst Named e (named_by (F.read t) (f.says t) (name_resolves F f b l m low h t k)))

-- a writer says 8 exactly if its check does
check_said : (check : ℕ) (text : List ℕ) (room : ℕ) → (write_answer check text room).number ≡ no_name → check ≡ no_name
unfolding write_answer
check_said check text room e = go (eqb check 0) (leb (length text) room) refl refl
  where
    go : (p q : Bool) → eqb check 0 ≡ p → leb (length text) room ≡ q → check ≡ no_name
    go true true c d = absurd (omega (arith, simp (c, d) at e))
    go true false c d = absurd (omega (arith, simp (c, d) at e))
    go false q c d = simp c at e

check_says : (check : ℕ) (text : List ℕ) (room : ℕ) → check ≡ no_name → (write_answer check text room).number ≡ no_name
unfolding write_answer
check_says check text room e = rw e refl

-- the check of a namer is 8 exactly if all before it passed and there is no name
record NoName (F : Form) (b : BoardBuilder) (l : List ℕ) (m : ℕ) : Type 0 where
  range : in_range b ≡ true
  list : list_in_range l ≡ true
  listed : among m l ≡ true
  none_found : name_of F b l m ≡ none

no_name_found : (F : Form) (b : BoardBuilder) (l : List ℕ) (m : ℕ) → name_check F b l m ≡ no_name → NoName F b l m
unfolding name_check
no_name_found F b l m e = go (in_range b) refl (list_in_range l) refl (among m l) refl (name_of F b l m) refl e
  where
    go : (p : Bool) → in_range b ≡ p → (q : Bool) → list_in_range l ≡ q → (r : Bool) → among m l ≡ r → (o : Option (List ℕ)) → name_of F b l m ≡ o
        → cond p (cond q (cond r (none_is8 o) not_listed) bad_list) out_of_range ≡ no_name → NoName F b l m
    go true x true y true z none k u = record { range = x; list = y; listed = z; none_found = k }
    go true x true y true z (some t) k u = absurd (omega arith)
    go true x true y false z o k u = absurd (omega arith)
    go true x false y r z o k u = absurd (omega arith)
    go false x q y r z o k u = absurd (omega arith)

said_so : (F : Form) (b : BoardBuilder) (l : List ℕ) (m : ℕ) → NoName F b l m → name_check F b l m ≡ no_name
unfolding name_check
said_so F b l m n = rw (n.range, n.list, n.listed, n.none_found) refl

pub unnamed_in_both : UnnamedInBoth
unnamed_in_both b l m room e =
    let n = no_name_found paper b l m (check_said (name_check paper b l m) (name_text paper b l m) room e) in
    let r = in_range_lem b n.range in
    let none_found = unnamed_too standard paper standard_lawful paper_lawful b l m r.side n.listed (λ c. refl) n.none_found in
    let s : NoName standard b l m = record { range = n.range; list = n.list; listed = n.listed; none_found = none_found } in
    check_says (name_check standard b l m) (name_text standard b l m) room (said_so standard b l m s)
