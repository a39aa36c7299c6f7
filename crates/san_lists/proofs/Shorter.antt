-- How long a name is when entries are removed: no text tried is shorter than the one before, and what resolved still does, so the first has no more bytes;
-- only a name that was the last resort may give way to a longer one.
-- Assumes nothing.
use Prim.Native.Nat.{ℕ, ◌≤◌}
use mathlib.Core.Path.{◌≡◌, refl, sym, ap, ◌∙◌}
use mathlib.Core.Bool.{Bool, true, false, cond, false≢true}
use mathlib.Core.List.{List, [], ◌∷◌}
use mathlib.Core.Logic.{◌⊎◌, inl, inr}
use mathlib.Core.Option.{Option, none, some}
use native.Mathlib.Omega.{arith}
use lib.Dec.{eqb, leb}
use lib.ListN.{length, length-append}
use borrow.Author.Tests.{le-leb, leb-true}
use Rattle.answer.specs.Answer.{write_answer}
use Rattle.answer.specs.Numbers.{among}
use Rattle.answer.proofs.Writes.{check_passed}
use Rattle.board_builder.specs.declared.BoardBuilder.{BoardBuilder}
use Rattle.chess_move.specs.Number.{source_of}
use Rattle.san_text.specs.Text.{king_side_text, queen_side_text}
use Rattle.san_text.specs.Resolve.{kind_on, castling_move}
use Rattle.san_text.specs.Form.{Form, resolved}
use Rattle.san_text.specs.Name.{optional, changes_files, head_of, candidates, names, castling_name, first_name, king_first}
use Rattle.san_text.specs.Name.{name_of, text_or, none_is8, name_text, name_check}
use Rattle.san_text.specs.Paper.{san_text, paper}
use Rattle.san_text.specs.Standard.{standard_text, standard}
use Rattle.san_text.proofs.Sole.{move_is, is_move_lem}
use Rattle.san_text.proofs.Lawful.{Castling, Lawful}
use Rattle.san_text.proofs.ReadBack.{checks}
use Rattle.san_lists.specs.Lists.{Within}
use Rattle.san_lists.specs.Calls.{calls_of}
use Rattle.san_lists.specs.Promises.{NameNoLonger, NamesGetNoLonger, WasCastling, NoLongerOrWasCastling}
use Rattle.san_lists.proofs.Fewer.{text_kept}
use Rattle.san_lists.proofs.Names.{Name, name_there, ready_left, written_front}

-- ---- texts in the order in which they are tried

-- each is as long as the one before it or longer
pub record Grows (F : Form) : Type 0 where
  pub file : (pieces : List ℕ) (m : ℕ) → length (F.text pieces m false false) ≤ length (F.text pieces m true false)
  pub rank : (pieces : List ℕ) (m : ℕ) → length (F.text pieces m true false) ≤ length (F.text pieces m false true)
  pub both : (pieces : List ℕ) (m : ℕ) → length (F.text pieces m false true) ≤ length (F.text pieces m true true)

pub paper_grows : Grows paper
unfolding san_text head_of optional
paper_grows = record {
  file = λ pieces m. simp length-append (omega arith);
  rank = λ pieces m. simp length-append (omega arith);
  both = λ pieces m. simp length-append (omega arith);
}

pub standard_grows : Grows standard
unfolding standard_text head_of optional
standard_grows = record {
  file = λ pieces m. simp length-append (omega arith);
  rank = λ pieces m. simp length-append (omega arith);
  both = λ pieces m. simp length-append (omega arith);
}

-- texts of n bytes or more, each as long as the one before it or longer
data Rising : ℕ → List (List ℕ) → Type 0 where
  done : {n : ℕ} → Rising n []
  next : {n : ℕ} {t : List ℕ} {ts : List (List ℕ)} → n ≤ length t → Rising (length t) ts → Rising n (t ∷ ts)

rising : (F : Form) → Grows F → (pieces : List ℕ) (m : ℕ) (changes : Bool) → Rising 0 (candidates (F.text pieces m) changes)
unfolding candidates
rising F g pieces m true =
    let first : 0 ≤ length (F.text pieces m true false) = omega arith in
    let second : length (F.text pieces m true false) ≤ length (F.text pieces m true true) = omega (arith, g.rank pieces m, g.both pieces m) in
    next first (next second done)
rising F g pieces m false =
    let first : 0 ≤ length (F.text pieces m false false) = omega arith in
    next first (next (g.file pieces m) (next (g.rank pieces m) (next (g.both pieces m) done)))

-- ---- the first text that passes, by a wider test

some_is : {t u : List ℕ} → some t ≡ some u → t ≡ u
some_is e = ap text_or e

-- a text of at most n bytes
record Found (o : Option (List ℕ)) (n : ℕ) : Type 0 where
  text : List ℕ
  found : o ≡ some text
  short : length text ≤ n

at_least : (f : List ℕ → Bool) {n : ℕ} {ts : List (List ℕ)} → Rising n ts → (o : Option (List ℕ)) (u : List ℕ)
    → first_name f ts o ≡ some u → (n ≤ length u) ⊎ (o ≡ some u)
unfolding first_name
at_least f done o u e = inr e
at_least f {n} (next {t = t} {ts = ts} h r) o u e = go (f t) e (at_least f r o u)
  where
    go : (c : Bool) → cond c (some t) (first_name f ts o) ≡ some u → (first_name f ts o ≡ some u → (length t ≤ length u) ⊎ (o ≡ some u))
        → (n ≤ length u) ⊎ (o ≡ some u)
    go true q ih = inl (rw (some_is q) at h)
    go false q ih = further (ih q)
      where
        further : (length t ≤ length u) ⊎ (o ≡ some u) → (n ≤ length u) ⊎ (o ≡ some u)
        further (inl k) = inl (omega arith)
        further (inr k) = inr k

-- what passes g passes f: f's first is no longer than g's, unless g's was the last resort
first_shorter : (f g : List ℕ → Bool) → ((t : List ℕ) → g t ≡ true → f t ≡ true) → {n : ℕ} {ts : List (List ℕ)} → Rising n ts
    → (o p : Option (List ℕ)) (u : List ℕ) → first_name g ts o ≡ some u → Found (first_name f ts p) (length u) ⊎ (o ≡ some u)
unfolding first_name
first_shorter f g wider done o p u e = inr e
first_shorter f g wider (next {t = t} {ts = ts} h r) o p u e = go (f t) (g t) refl refl e (first_shorter f g wider r o p u)
  where
    go : (a c : Bool) → f t ≡ a → g t ≡ c → cond c (some t) (first_name g ts o) ≡ some u
        → (first_name g ts o ≡ some u → Found (first_name f ts p) (length u) ⊎ (o ≡ some u))
        → Found (cond a (some t) (first_name f ts p)) (length u) ⊎ (o ≡ some u)
    go true true x y q ih = inl (record { text = t; found = refl; short = rw (some_is q) (omega arith) })
    go true false x y q ih = later (at_least g r o u q)
      where
        later : (length t ≤ length u) ⊎ (o ≡ some u) → Found (some t) (length u) ⊎ (o ≡ some u)
        later (inl k) = inl (record { text = t; found = refl; short = k })
        later (inr k) = inr k
    go false true x y q ih = absurd (false≢true (sym x ∙ wider t y))
    go false false x y q ih = ih q

-- a king's castling text is the same on every list
king_first_lem : (king : Bool) (castling o p : Option (List ℕ)) (u : List ℕ) {Resort : Type 0} → king_first king castling o ≡ some u
    → (o ≡ some u → Found p (length u) ⊎ Resort) → Found (king_first king castling p) (length u) ⊎ Resort
unfolding king_first
king_first_lem true none o p u e h = h e
king_first_lem true (some t) o p u e h = inl (record { text = t; found = refl; short = rw (some_is e) (omega arith) })
king_first_lem false castling o p u e h = h e

-- ---- names on the whole list and on what is left of it

module _ (F : Form) (grows : Grows F) (b : BoardBuilder) (whole left : List ℕ) (w : Within left whole) (m : ℕ) (here : among m left ≡ true) where
  names_wider : (t : List ℕ) → names F b whole m t ≡ true → names F b left m t ≡ true
  unfolding names
  names_wider t e =
      let r = move_is (resolved F b whole (F.read t)) m e in
      rw (text_kept left whole w m here F b (F.read t) r) (is_move_lem m)

  -- the last resort named it on the whole list
  abbrev pub ByResort : List ℕ → Type 0
  ByResort u = F.resort (castling_name b.side_to_move m) ≡ some u

  name_shorter : (u : List ℕ) → name_of F b whole m ≡ some u → Found (name_of F b left m) (length u) ⊎ ByResort u
  unfolding name_of
  name_shorter u e =
      king_first_lem (eqb (kind_on b.pieces (source_of m)) 6) (castling_name b.side_to_move m) _ _ u e
      (λ tried. first_shorter (names F b left m) (names F b whole m) names_wider (rising F grows b.pieces m (changes_files b.pieces m)) _ _ u tried)

  -- the whole answers
  fits_too : (room : ℕ) → (n : Name F b whole m) → ((calls_of F).name.answer b whole m room).number ≡ 0 → Found (name_of F b left m) (length n.text)
      → NameNoLonger (calls_of F) b whole left m room
  unfolding name_text write_answer
  fits_too room n e f =
      let c : name_check F b whole m ≡ 0 = check_passed (name_check F b whole m) (name_text F b whole m) room e in
      let d : name_check F b left m ≡ 0 = checks F b left m (ready_left whole left w here n.ready) ∙ ap none_is8 f.found in
      go (leb (length n.text) room) refl c d
    where
      go : (t : Bool) → leb (length n.text) room ≡ t → name_check F b whole m ≡ 0 → name_check F b left m ≡ 0 → NameNoLonger (calls_of F) b whole left m room
      go true h c d =
          let enough : length f.text ≤ room = omega (arith, leb-true (length n.text) room h, f.short) in
          record {
            number = rw (d, f.found, le-leb (length f.text) room enough);
            value = rw (c, d, f.found, n.name, h, le-leb (length f.text) room enough) f.short;
          }
      go false h c d = absurd (let z : ◌≡◌ {A = ℕ} 7 0 = rw (c, n.name, h) at e in omega arith)

  pub no_longer : (room : ℕ) (n : Name F b whole m) → ((calls_of F).name.answer b whole m room).number ≡ 0
      → NameNoLonger (calls_of F) b whole left m room ⊎ ByResort n.text
  no_longer room n e = go (name_shorter n.text n.name)
    where
      go : Found (name_of F b left m) (length n.text) ⊎ ByResort n.text → NameNoLonger (calls_of F) b whole left m room ⊎ ByResort n.text
      go (inl f) = inl (fits_too room n e f)
      go (inr r) = inr r

-- ---- the promises

-- the name that an accepted answer reports
name_told_lem : (F : Form) (b : BoardBuilder) (l : List ℕ) (m room : ℕ) → ((calls_of F).name.answer b l m room).number ≡ 0 → Name F b l m
name_told_lem F b l m room e = name_there F b l m (check_passed (name_check F b l m) (name_text F b l m) room e)

-- for a form without a last resort
pub names_get_no_longer : (F : Form) → Grows F → ((o : Option (List ℕ)) → F.resort o ≡ none) → NamesGetNoLonger (calls_of F)
names_get_no_longer F grows none_left_lem b whole left m room w here e = go (no_longer F grows b whole left w m here room n e)
  where
    n : Name F b whole m
    n = name_told_lem F b whole m room e

    go : NameNoLonger (calls_of F) b whole left m room ⊎ (F.resort (castling_name b.side_to_move m) ≡ some n.text)
        → NameNoLonger (calls_of F) b whole left m room
    go (inl k) = k
    go (inr r) = absurd (none_not (sym (none_left_lem (castling_name b.side_to_move m)) ∙ r))
      where
        none_not : {t : List ℕ} → none ≡ some t → ⊥
        none_not q = let z : ◌≡◌ {A = ℕ} 0 1 = cc in omega arith

-- a castling text
castling_is : (side m : ℕ) (u : List ℕ) → castling_name side m ≡ some u → (u ≡ king_side_text) ⊎ (u ≡ queen_side_text)
unfolding castling_name
castling_is side m u e = go (eqb (castling_move side 6) m) (eqb (castling_move side 2) m) e
  where
    go : (p q : Bool) → cond p (some king_side_text) (cond q (some queen_side_text) none) ≡ some u → (u ≡ king_side_text) ⊎ (u ≡ queen_side_text)
    go true q k = inl (sym (some_is k))
    go false true k = inr (sym (some_is k))
    go false false k = absurd (let z : ◌≡◌ {A = ℕ} 0 1 = cc in omega arith)

-- for any lawful form
pub no_longer_or_was_castling : (F : Form) → Lawful F → Grows F → NoLongerOrWasCastling (calls_of F)
unfolding name_text
no_longer_or_was_castling F law grows b whole left m out w here e = go (no_longer F grows b whole left w m here (length out) n e) (law.castling b)
  where
    n : Name F b whole m
    n = name_told_lem F b whole m (length out) e

    written : (u : List ℕ) → n.text ≡ u → name_text F b whole m ≡ u
    written u q = ap text_or n.name ∙ q

    castling : (n.text ≡ king_side_text) ⊎ (n.text ≡ queen_side_text) → WasCastling (calls_of F) b whole m out
    castling (inl k) = inl (written_front F b whole m out e ∙ written king_side_text k)
    castling (inr k) = inr (written_front F b whole m out e ∙ written queen_side_text k)

    go : NameNoLonger (calls_of F) b whole left m (length out) ⊎ (F.resort (castling_name b.side_to_move m) ≡ some n.text) → Castling F b
        → NameNoLonger (calls_of F) b whole left m (length out) ⊎ WasCastling (calls_of F) b whole m out
    go (inl k) c = inl k
    go (inr r) (Castling.whatever_stands c same) =
        inr (castling (castling_is b.side_to_move m n.text (sym (same (castling_name b.side_to_move m)) ∙ r)))
    go (inr r) (Castling.for_a_king c d gone) =
        absurd (let q = sym (gone (castling_name b.side_to_move m)) ∙ r in let z : ◌≡◌ {A = ℕ} 0 1 = cc in omega arith)
