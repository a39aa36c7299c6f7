-- Every legal move has a name: its text with both source parts says a kind and a promotion that a text can say, and no other entry fits it.
-- Assumes nothing.
use Prim.Native.Nat.{ℕ, zero, suc, ◌+◌, ◌*◌, ◌-◌, ◌/◌, ◌%◌, ◌≤◌}
use mathlib.Core.Path.{◌≡◌, refl, sym, ◌∙◌, subst}
use mathlib.Core.Bool.{Bool, true, false, cond, ◌&&◌, ◌||◌}
use mathlib.Core.List.{List}
use mathlib.Core.Logic.{◌⊎◌, inl, inr}
use mathlib.Core.Option.{Option, none, some}
use native.Mathlib.Omega.{arith}
use lib.Dec.{eqb, leb}
use lib.ListN.{length}
use borrow.Author.Tests.{eq-eqb, ne_eqb, eqb-true, leb-true, leb-false}
use Rattle.answer.specs.Answer.{accepted, out_of_range, bad_list, not_listed, no_name, write_answer}
use Rattle.answer.specs.Numbers.{among}
use Rattle.answer.proofs.Numbers.{both_left, both_right}
use Rattle.square.specs.Piece.{kind_of, man_on}
use Rattle.board_builder.specs.declared.BoardBuilder.{BoardBuilder}
use Rattle.board_builder.specs.BoardBuilder.{in_range}
use Rattle.board_builder.proofs.Ranges.{in_range_lem}
use Rattle.chess_move.specs.Number.{source_of, dest_of, promotion_of}
use Rattle.chess_move.proofs.Numbers.{same_number, same_square}
use Rattle.move_list.specs.MoveList.{count, list_in_range}
use Rattle.move_list.proofs.Counting.{sole}
use Rattle.move_rules.specs.After.{rank}
use Rattle.move_laws.specs.Attack.{of_side}
use Rattle.move_laws.specs.Move.{last_rank, promotes, kind_moves}
use Rattle.move_laws.specs.Legal.{own_rights, goes, legal_parts, is_legal, legal_moves}
use Rattle.move_laws.proofs.Listed.{lists_legal, lists_moves}
use Rattle.san_text.specs.Resolve.{kind_on, agrees, fits, sole_that}
use Rattle.san_text.specs.Form.{Form}
use Rattle.san_text.specs.Name.{none_is8, name_of, name_text, name_check}
use Rattle.san_text.specs.Paper.{paper}
use Rattle.san_text.specs.Standard.{standard}
use Rattle.san_text.specs.Promises.{Namer, Reader, NamedWithin, Unnamed, Demand3Within, namer, standard_namer}
use Rattle.san_text.proofs.Says.{Moves, Promotes}
use Rattle.san_text.proofs.Front.{both_with}
use Rattle.san_text.proofs.Sole.{fitted}
use Rattle.san_text.proofs.Lawful.{Lawful}
use Rattle.san_text.proofs.PaperLawful.{paper_lawful}
use Rattle.san_text.proofs.StandardLawful.{standard_lawful}
use Rattle.san_text.proofs.Named.{Named, named_move}
use Rattle.san_text.proofs.ReadBack.{names_read_back, standard_names_read_back}
use Rattle.san_lists.specs.Lists.{occurrences, Within}
use Rattle.san_lists.proofs.Counts.{within_listed}
use Rattle.legal_lists.specs.Promises.{NamesLegalMoves, LegalMovesNamed, LegalMovesNamedStandard, NeverEight}
use Rattle.legal_lists.proofs.Once.{there, each_once}

-- ---- what a legal move's man and promotion are

moves_of : (k : ℕ) → 1 ≤ k → k ≤ 6 → Moves k
moves_of zero l h = absurd (omega (arith, l))
moves_of (suc zero) l h = Moves.pawn
moves_of (suc (suc zero)) l h = Moves.knight
moves_of (suc (suc (suc zero))) l h = Moves.bishop
moves_of (suc (suc (suc (suc zero)))) l h = Moves.rook
moves_of (suc (suc (suc (suc (suc zero))))) l h = Moves.queen
moves_of (suc (suc (suc (suc (suc (suc zero)))))) l h = Moves.king
moves_of (suc (suc (suc (suc (suc (suc (suc k))))))) l h = absurd (omega (arith, h))

promotes_to : (k : ℕ) → 2 ≤ k → k ≤ 5 → Promotes k
promotes_to zero l h = absurd (omega (arith, l))
promotes_to (suc zero) l h = absurd (omega (arith, l))
promotes_to (suc (suc zero)) l h = Promotes.knight
promotes_to (suc (suc (suc zero))) l h = Promotes.bishop
promotes_to (suc (suc (suc (suc zero)))) l h = Promotes.rook
promotes_to (suc (suc (suc (suc (suc zero))))) l h = Promotes.queen
promotes_to (suc (suc (suc (suc (suc (suc k)))))) l h = absurd (omega (arith, h))

-- a man of a side is of one of the six kinds
kind_moves_lem : (side man : ℕ) → side ≤ 1 → of_side side man ≡ true → Moves (kind_of man)
unfolding of_side kind_of
kind_moves_lem side man s e =
    let low = leb-true (1 + 6 * side) man (both_left (leb (1 + 6 * side) man) (leb man (6 + 6 * side)) e) in
    let high = leb-true man (6 + 6 * side) (both_right (leb (1 + 6 * side) man) (leb man (6 + 6 * side)) e) in
    go (leb man 6) refl low high
  where
    go : (t : Bool) → leb man 6 ≡ t → 1 + 6 * side ≤ man → man ≤ 6 + 6 * side → Moves (cond t man (man - 6))
    go true q low high = moves_of man (omega (arith, low)) (leb-true man 6 q)
    go false q low high = moves_of (man - 6) (omega (arith, leb-false man 6 q)) (omega (arith, high, s))

promotes_so : (side kind t p : ℕ) → promotes side kind t p ≡ true → Promotes p
unfolding promotes
promotes_so side kind t p e = go (eqb kind 1 && eqb (rank t) (last_rank side)) e
  where
    go : (u : Bool) → cond u (leb 2 p && leb p 5) (eqb p 0) ≡ true → Promotes p
    go true q = promotes_to p (leb-true 2 p (both_left (leb 2 p) (leb p 5) q)) (leb-true p 5 (both_right (leb 2 p) (leb p 5) q))
    go false q = subst Promotes (sym (eqb-true p 0 q)) Promotes.nothing

record Sayable (b : BoardBuilder) (m : ℕ) : Type 0 where
  kind : Moves (kind_on b.pieces (source_of m))
  promotion : Promotes (promotion_of m)

legal_sayable : (b : BoardBuilder) (m : ℕ) → b.side_to_move ≤ 1 → is_legal b m ≡ true → Sayable b m
unfolding is_legal legal_parts goes
legal_sayable b m s e =
    let man = man_on b.pieces (source_of m) in
    let side = b.side_to_move in
    let own = of_side side man in
    let promoted = promotes side (kind_of man) (dest_of m) (promotion_of m) in
    let moved = kind_moves b.pieces side (own_rights b) b.en_passant (kind_of man) (source_of m) (dest_of m) in
    let gone = both_left (own && (promoted && moved)) _ e in
    record {
      kind = kind_moves_lem side man s (both_left own (promoted && moved) gone);
      promotion = promotes_so side (kind_of man) (dest_of m) (promotion_of m) (both_left promoted moved (both_right own (promoted && moved) gone));
    }

-- ---- only the move itself fits what its text with both source parts says

or_true : (b : Bool) → b || true ≡ true
or_true true = refl
or_true false = refl

agrees_same : (n : ℕ) → agrees n n ≡ true
unfolding agrees
agrees_same n = rw (eq-eqb n n refl) (or_true (eqb n 0))

agrees_is : (n found : ℕ) → agrees (n + 1) found ≡ true → n + 1 ≡ found
unfolding agrees
agrees_is n found e = eqb-true (n + 1) found (rw (ne_eqb (n + 1) 0 (omega arith)) at e)

module _ (pieces : List ℕ) (m : ℕ) where
  both_fits : fits pieces (both_with pieces m false false) m ≡ true
  unfolding fits
  both_fits =
      rw (
        eq-eqb (kind_on pieces (source_of m)) (kind_on pieces (source_of m)) refl,
        agrees_same (source_of m % 8 + 1),
        agrees_same (source_of m / 8 + 1),
        eq-eqb (dest_of m) (dest_of m) refl,
        eq-eqb (promotion_of m) (promotion_of m) refl,
      )

  both_only : (x : ℕ) → fits pieces (both_with pieces m false false) x ≡ true → x ≡ m
  both_only x e =
      let h = fitted pieces (both_with pieces m false false) x e in
      same_number x m
      (same_square (source_of x) (source_of m)
      (part (agrees_is (source_of m % 8) (source_of x % 8 + 1) h.file))
      (part (agrees_is (source_of m / 8) (source_of x / 8 + 1) h.rank)))
      h.dest
      h.promotion
    where
      part : {a b : ℕ} → a + 1 ≡ b + 1 → b ≡ a
      part e = omega arith

  -- so it alone fits in a list where it stands once
  both_alone : (l : List ℕ) → among m l ≡ true → occurrences m l ≤ 1 → sole_that (fits pieces (both_with pieces m false false)) (λ (x : ℕ). true) l ≡ accepted m
  unfolding sole_that
  both_alone l h once =
      let f = fits pieces (both_with pieces m false false) in
      let one : occurrences m l ≡ 1 = omega (arith, once, there m l h) in
      let s = sole f (λ (x : ℕ). eqb x m) m l both_only both_fits (eq-eqb m m refl) one h in
      rw (eq-eqb (count f l) 1 s.0, s.1)

-- ---- so there is a name, in any lawful form

named_legal : (F : Form) → Lawful F → (b : BoardBuilder) (l : List ℕ) (m : ℕ) → b.side_to_move ≤ 1 → Within l (legal_moves b) → among m l ≡ true
    → Named (name_of F b l m)
named_legal F law b l m s w h =
    let here = within_listed l (legal_moves b) w m h in
    let legal = sym (lists_legal b m (lists_moves b m here)) ∙ here in
    let said = legal_sayable b m s legal in
    let once : occurrences m l ≤ 1 = omega (arith, w m, each_once b m) in
    named_move F law b l m s h (λ (x : ℕ). true) (both_with b.pieces m false false) said.kind said.promotion (both_alone b.pieces m l h once)

-- ---- 8 says that all checks before it passed, and that there is none

record Eight (F : Form) (b : BoardBuilder) (l : List ℕ) (m : ℕ) : Type 0 where
  range : in_range b ≡ true
  listed : among m l ≡ true
  none_found : name_of F b l m ≡ none

check_told_lem : (check : ℕ) (text : List ℕ) (room : ℕ) → (write_answer check text room).number ≡ no_name → check ≡ no_name
unfolding write_answer
check_told_lem check text room e = go (eqb check 0) (leb (length text) room) refl refl
  where
    go : (p q : Bool) → eqb check 0 ≡ p → leb (length text) room ≡ q → check ≡ no_name
    go true true c d = absurd (omega (arith, simp (c, d) at e))
    go true false c d = absurd (omega (arith, simp (c, d) at e))
    go false q c d = simp c at e

eight : (F : Form) (b : BoardBuilder) (l : List ℕ) (m : ℕ) → name_check F b l m ≡ no_name → Eight F b l m
unfolding name_check
eight F b l m e = go (in_range b) refl (list_in_range l) (among m l) refl (name_of F b l m) refl e
  where
    go : (p : Bool) → in_range b ≡ p → (q r : Bool) → among m l ≡ r → (o : Option (List ℕ)) → name_of F b l m ≡ o
        → cond p (cond q (cond r (none_is8 o) not_listed) bad_list) out_of_range ≡ no_name → Eight F b l m
    go true x true true z none k u = record { range = x; listed = z; none_found = k }
    go true x true true z (some t) k u = absurd (omega arith)
    go true x true false z o k u = absurd (omega arith)
    go true x false r z o k u = absurd (omega arith)
    go false x q r z o k u = absurd (omega arith)

never : (F : Form) → Lawful F → (b : BoardBuilder) (l : List ℕ) (m room : ℕ) → Within l (legal_moves b)
    → (write_answer (name_check F b l m) (name_text F b l m) room).number ≡ no_name → ⊥
never F law b l m room w e =
    let n = eight F b l m (check_told_lem (name_check F b l m) (name_text F b l m) room e) in
    subst Named n.none_found (named_legal F law b l m (in_range_lem b n.range).side w n.listed)

pub never_eight : NeverEight namer
never_eight b l m room w e = never paper paper_lawful b l m room w e

pub standard_never_eight : NeverEight standard_namer
standard_never_eight b l m room w e = never standard standard_lawful b l m room w e

-- ---- and so demand 3 leaves a name that is read back

named_so : (longest : ℕ) (w : Namer) (read : Reader) → Demand3Within longest w read → NeverEight w → NamesLegalMoves longest w read
named_so longest w read demand none-is-8 b l m out range list within here room =
    go (demand b l m out (record { record_in_range = range; list_in_range_fact = list; move_listed = here }) room)
  where
    go : (NamedWithin longest w read b l m out) ⊎ (Unnamed w read b l m out) → NamedWithin longest w read b l m out
    go (inl n) = n
    go (inr u) = absurd (none-is-8 b l m (length out) within u.number)

pub legal_moves_named : LegalMovesNamed
legal_moves_named = named_so 11 _ _ names_read_back never_eight

pub legal_moves_named_standard : LegalMovesNamedStandard
legal_moves_named_standard = named_so 8 _ _ standard_names_read_back standard_never_eight
