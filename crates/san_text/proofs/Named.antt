-- The namer and the reader of a lawful form agree: a name resolves to exactly its move, and there is no name exactly if no text of any length does.
-- Assumes nothing.
use Prim.Native.Nat.{ℕ, ◌+◌, ◌*◌, ◌≤◌}
use mathlib.Core.Path.{◌≡◌, refl, sym, ap, ◌∙◌, subst}
use mathlib.Core.Bool.{Bool, true, false, cond}
use mathlib.Core.List.{List, [], ◌∷◌}
use mathlib.Core.Logic.{◌⊎◌, inl, inr}
use mathlib.Core.Option.{Option, none, some}
use native.Mathlib.Omega.{arith}
use lib.Dec.{eqb}
use borrow.Author.Tests.{eq-eqb, eqb-true}
use Rattle.std.specs.Prelude.{Some, None}
use Rattle.answer.specs.Answer.{accepted, refused, invalid_san_move}
use Rattle.answer.specs.Numbers.{among}
use Rattle.board_builder.specs.declared.BoardBuilder.{BoardBuilder}
use Rattle.chess_move.specs.Number.{source_of}
use Rattle.chess_move.proofs.Numbers.{source_of_number}
use Rattle.san_text.specs.declared.San.{San}
use Rattle.san_text.specs.declared.SanText.TheVariants.{KingSide, QueenSide, Move}
use Rattle.san_text.specs.Text.{Said, king_side_text, queen_side_text}
use Rattle.san_text.specs.Resolve.{kind_on, fits, sole_that, castling_move, castle}
use Rattle.san_text.specs.Form.{Form, castled, resolved}
use Rattle.san_text.specs.Name.{changes_files, candidates, names, castling_name, first_name, king_first, name_of}
use Rattle.san_text.proofs.Says.{Moves, Promotes, Says}
use Rattle.san_text.proofs.Front.{both_with}
use Rattle.san_text.proofs.Sole.{refused_not, move_is, is_move_lem, castle_is, both_sole, sayable}
use Rattle.san_text.proofs.Lawful.{Castling, Lawful}

-- ---- that there is a name

abbrev pub Named : Option (List ℕ) → Type 0
Named none = ⊥
Named (some t) = Unit {0}

named_step : (b : Bool) (t : List ℕ) (o : Option (List ℕ)) → Named o → Named (cond b (some t) o)
named_step true t o h = tt
named_step false t o h = h

named_last : (f : List ℕ → Bool) (ts : List (List ℕ)) (o : Option (List ℕ)) → Named o → Named (first_name f ts o)
unfolding first_name
named_last f [] o h = h
named_last f (t ∷ ts) o h = named_step (f t) t (first_name f ts o) (named_last f ts o h)

named_king : (b : Bool) (c o : Option (List ℕ)) → Named o → Named (king_first b c o)
unfolding king_first
named_king true none o h = h
named_king true (some t) o h = tt
named_king false c o h = h

named_first : (c o : Option (List ℕ)) → Named c → Named (king_first true c o)
unfolding king_first
named_first none o h = absurd h
named_first (some t) o h = tt

-- both source parts are the last text to try
named_both : (f : List ℕ → Bool) (text : Bool → Bool → List ℕ) (changes : Bool) (o : Option (List ℕ)) → f (text true true) ≡ true
    → Named (first_name f (candidates text changes) o)
unfolding candidates first_name
named_both f text true o e =
    named_step (f (text true false)) (text true false) _ (rw e tt)
named_both f text false o e =
    named_step (f (text false false)) (text false false) _
    (named_step (f (text true false)) (text true false) _
    (named_step (f (text false true)) (text false true) _ (rw e tt)))

-- ---- castling pairs

-- a move to file g or file c
abbrev pub Pair : ℕ → ℕ → Type 0
Pair side m = (castling_move side 6 ≡ m) ⊎ (castling_move side 2 ≡ m)

pub pair_named : (side m : ℕ) → Pair side m → Named (castling_name side m)
unfolding castling_name
pair_named side m (inl e) = rw (eq-eqb (castling_move side 6) m e) tt
pair_named side m (inr e) = named_step (eqb (castling_move side 6) m) king_side_text _ (rw (eq-eqb (castling_move side 2) m e) tt)

castling_source : (side file : ℕ) → side ≤ 1 → file ≤ 7 → source_of (castling_move side file) ≡ 56 * side + 4
unfolding castling_move
castling_source side file h k = source_of_number (56 * side + 4) (56 * side + file) 0 (omega arith) (omega arith)

pub pair_source : (side m : ℕ) → side ≤ 1 → Pair side m → source_of m ≡ 56 * side + 4
pair_source side m h (inl e) = ap source_of (sym e) ∙ castling_source side 6 h (omega arith)
pair_source side m h (inr e) = ap source_of (sym e) ∙ castling_source side 2 h (omega arith)

-- ---- over a lawful form

module _ (F : Form) (law : Lawful F) (b : BoardBuilder) (l : List ℕ) (m : ℕ) (low : b.side_to_move ≤ 1) (h : among m l ≡ true) where
  -- the text resolves to the move
  abbrev pub Resolves : List ℕ → Type 0
  Resolves t = resolved F b l (F.read t) ≡ accepted m

  -- castling answered with the move: the form takes castling here, and the move is that pair
  pub castled_is : (file : ℕ) → castled F b l file ≡ accepted m → (F.castles b ≡ true) × (castling_move b.side_to_move file ≡ m)
  unfolding castled
  castled_is file e = go (F.castles b) refl e
    where
      go : (c : Bool) → F.castles b ≡ c → cond c (castle b.side_to_move l file) (refused invalid_san_move) ≡ accepted m
          → (F.castles b ≡ true) × (castling_move b.side_to_move file ≡ m)
      go true p q = (p, castle_is b.side_to_move l file m q)
      go false p q = absurd (refused_not q)

  castled_to : (file : ℕ) → F.castles b ≡ true → castling_move b.side_to_move file ≡ m → castled F b l file ≡ accepted m
  unfolding castled castle
  castled_to file c e = rw (c, e, h)

  king_castles_lem : kind_on b.pieces (source_of m) ≡ 6 → Pair b.side_to_move m → F.castles b ≡ true
  king_castles_lem k p = go (law.castling b)
    where
      go : Castling F b → F.castles b ≡ true
      go (Castling.whatever_stands c r) = c
      go (Castling.for_a_king c d r) = c (ap (kind_on b.pieces) (sym (pair_source b.side_to_move m low p)) ∙ k)

  -- ---- if any text resolves to the move, it has a name

  pub named_castling : F.castles b ≡ true → Pair b.side_to_move m → Named (name_of F b l m)
  unfolding name_of
  named_castling c p = go (law.castling b)
    where
      castling : Option (List ℕ)
      castling = castling_name b.side_to_move m

      test : Bool
      test = eqb (kind_on b.pieces (source_of m)) 6

      tried : Option (List ℕ) → Option (List ℕ)
      tried o = first_name (names F b l m) (candidates (F.text b.pieces m) (changes_files b.pieces m)) o

      go : Castling F b → Named (king_first test castling (tried (F.resort castling)))
      go (Castling.whatever_stands d r) =
          named_king test castling (tried (F.resort castling)) (named_last _ _ (F.resort castling) (rw (r castling) (pair_named b.side_to_move m p)))
      go (Castling.for_a_king k d r) =
          let king : kind_on b.pieces (source_of m) ≡ 6 = ap (kind_on b.pieces) (pair_source b.side_to_move m low p) ∙ d c in
          rw (eq-eqb (kind_on b.pieces (source_of m)) 6 king) (named_first castling (tried (F.resort castling)) (pair_named b.side_to_move m p))

  -- only one entry fits what some text says, whatever that text's own test
  both_named : (test : ℕ → Bool) (u : San) → Moves u.piece → Promotes u.promotion → sole_that (fits b.pieces u) test l ≡ accepted m
      → names F b l m (F.text b.pieces m true true) ≡ true
  unfolding names resolved
  both_named test u k p e =
      let s = sayable b.pieces u test l m e k p in
      let t = law.both b.pieces m s.0 s.1 in
      let passed = F.captures b.pieces (both_with b.pieces m t.takes t.mark) in
      rw (t.reads, both_sole b.pieces m t.takes t.mark l u test passed h t.passes e) (is_move_lem m)

  pub named_move : (test : ℕ → Bool) (u : San) → Moves u.piece → Promotes u.promotion → sole_that (fits b.pieces u) test l ≡ accepted m
      → Named (name_of F b l m)
  unfolding name_of
  named_move test u k p e =
      named_king _ _ _ (named_both (names F b l m) (F.text b.pieces m) (changes_files b.pieces m) _ (both_named test u k p e))

  pub named : (t : List ℕ) → Resolves t → Named (name_of F b l m)
  unfolding resolved
  named t e = go (F.read t) (law.says t) e
    where
      go : (T : Said) → Says T → resolved F b l T ≡ accepted m → Named (name_of F b l m)
      go (Some KingSide) Says.king_side q = let c = castled_is 6 q in named_castling c.0 (inl c.1)
      go (Some QueenSide) Says.queen_side q = let c = castled_is 2 q in named_castling c.0 (inr c.1)
      go (Some (Move u)) (Says.move k p) q = named_move (F.captures b.pieces u) u k p q
      go None Says.nothing_said q = absurd (refused_not q)

  -- ---- a name resolves to its move

  abbrev Right : Option (List ℕ) → Type 0
  Right none = Unit {0}
  Right (some t) = Resolves t

  right_first : (ts : List (List ℕ)) (o : Option (List ℕ)) → Right o → Right (first_name (names F b l m) ts o)
  unfolding first_name names
  right_first [] o r = r
  right_first (t ∷ ts) o r = go (names F b l m t) refl (right_first ts o r)
    where
      go : (c : Bool) → names F b l m t ≡ c → Right (first_name (names F b l m) ts o) → Right (cond c (some t) (first_name (names F b l m) ts o))
      go true e q = move_is (resolved F b l (F.read t)) m e
      go false e q = q

  right_castling : (Pair b.side_to_move m → F.castles b ≡ true) → Right (castling_name b.side_to_move m)
  unfolding castling_name resolved
  right_castling c = go (eqb k m) (eqb q m) refl refl
    where
      k : ℕ
      k = castling_move b.side_to_move 6

      q : ℕ
      q = castling_move b.side_to_move 2

      go : (x y : Bool) → eqb k m ≡ x → eqb q m ≡ y → Right (cond x (some king_side_text) (cond y (some queen_side_text) none))
      go true y e f = rw law.king_side (castled_to 6 (c (inl (eqb-true k m e))) (eqb-true k m e))
      go false true e f = rw law.queen_side (castled_to 2 (c (inr (eqb-true q m f))) (eqb-true q m f))
      go false false e f = tt

  right_resort : Right (F.resort (castling_name b.side_to_move m))
  right_resort = go (law.castling b)
    where
      go : Castling F b → Right (F.resort (castling_name b.side_to_move m))
      go (Castling.whatever_stands c r) = rw (r (castling_name b.side_to_move m)) (right_castling (λ p. c))
      go (Castling.for_a_king c d r) = rw (r (castling_name b.side_to_move m)) tt

  right_king : (c : Bool) (castling o : Option (List ℕ)) → (c ≡ true → Right castling) → Right o → Right (king_first c castling o)
  unfolding king_first
  right_king true none o p q = q
  right_king true (some t) o p q = p refl
  right_king false castling o p q = q

  right : Right (name_of F b l m)
  unfolding name_of
  right =
      right_king (eqb (kind_on b.pieces (source_of m)) 6) (castling_name b.side_to_move m) _
      (λ k. right_castling (king_castles_lem (eqb-true (kind_on b.pieces (source_of m)) 6 k)))
      (right_first (candidates (F.text b.pieces m) (changes_files b.pieces m)) _ right_resort)

  -- a name resolves to exactly its move
  pub name_resolves : (t : List ℕ) → name_of F b l m ≡ some t → Resolves t
  name_resolves t e = subst Right e right

  -- there is no name exactly if no text of any length resolves to the move
  pub no_name : name_of F b l m ≡ none → (t : List ℕ) → Resolves t → ⊥
  no_name e t r = subst Named e (named t r)

  pub no_text : ((t : List ℕ) → Resolves t → ⊥) → name_of F b l m ≡ none
  no_text none-resolves = go (name_of F b l m) refl
    where
      go : (o : Option (List ℕ)) → name_of F b l m ≡ o → name_of F b l m ≡ none
      go none e = e
      go (some t) e = absurd (none-resolves t (name_resolves t e))
