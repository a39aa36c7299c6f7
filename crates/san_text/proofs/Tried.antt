-- Whatever holds of each text that a form may try, and of the castling texts, holds of a name.
-- Assumes nothing.
use Prim.Native.Nat.{ℕ}
use mathlib.Core.Path.{◌≡◌, subst}
use mathlib.Core.Bool.{Bool, true, false, cond}
use mathlib.Core.List.{List, []}
use mathlib.Core.Option.{Option, none, some}
use lib.Dec.{eqb}
use Rattle.board_builder.specs.declared.BoardBuilder.{BoardBuilder}
use Rattle.chess_move.specs.Number.{source_of}
use Rattle.san_text.specs.Text.{king_side_text, queen_side_text}
use Rattle.san_text.specs.Resolve.{kind_on, castling_move}
use Rattle.san_text.specs.Form.{Form}
use Rattle.san_text.specs.Name.{changes_files, candidates, names, castling_name, first_name, king_first, name_of, text_or, name_text}
use Rattle.san_text.proofs.Lawful.{Castling, Lawful}

-- no text, or one of which P holds
abbrev pub If : (List ℕ → Type 0) → Option (List ℕ) → Type 0
If P none = Unit {0}
If P (some t) = P t

module _ (P : List ℕ → Type 0) where
  if_step : (c : Bool) (t : List ℕ) (o : Option (List ℕ)) → P t → If P o → If P (cond c (some t) o)
  if_step true t o p q = p
  if_step false t o p q = q

  if_king : (c : Bool) (castling o : Option (List ℕ)) → If P castling → If P o → If P (king_first c castling o)
  unfolding king_first
  if_king true none o p q = q
  if_king true (some t) o p q = p
  if_king false castling o p q = q

  if_castling : P king_side_text → P queen_side_text → (side m : ℕ) → If P (castling_name side m)
  unfolding castling_name
  if_castling k q side m = if_step (eqb (castling_move side 6) m) king_side_text _ k (if_step (eqb (castling_move side 2) m) queen_side_text none q tt)

  if_first : (f : List ℕ → Bool) (text : Bool → Bool → List ℕ) (changes : Bool) (o : Option (List ℕ)) → ((file rank : Bool) → P (text file rank)) → If P o
      → If P (first_name f (candidates text changes) o)
  unfolding candidates first_name
  if_first f text changes o p q = go changes
    where
      step : (file rank : Bool) (x : Option (List ℕ)) → If P x → If P (cond (f (text file rank)) (some (text file rank)) x)
      step file rank x i = if_step (f (text file rank)) (text file rank) x (p file rank) i

      go : (c : Bool) → If P (first_name f (candidates text c) o)
      go true = step true false _ (step true true _ q)
      go false = step false false _ (step true false _ (step false true _ (step true true _ q)))

  if_or : P [] → (o : Option (List ℕ)) → If P o → P (text_or o)
  if_or p none i = p
  if_or p (some t) i = i

  module _ (F : Form) (law : Lawful F) (b : BoardBuilder) (l : List ℕ) (m : ℕ)
      (texts : (file rank : Bool) → P (F.text b.pieces m file rank)) (k : P king_side_text) (q : P queen_side_text) where
    if_resort : If P (F.resort (castling_name b.side_to_move m))
    if_resort = go (law.castling b)
      where
        go : Castling F b → If P (F.resort (castling_name b.side_to_move m))
        go (Castling.whatever_stands c r) = rw (r (castling_name b.side_to_move m)) (if_castling k q b.side_to_move m)
        go (Castling.for_a_king c d r) = rw (r (castling_name b.side_to_move m)) tt

    pub name_if : If P (name_of F b l m)
    unfolding name_of
    name_if =
        if_king (eqb (kind_on b.pieces (source_of m)) 6) (castling_name b.side_to_move m) _ (if_castling k q b.side_to_move m)
        (if_first (names F b l m) (F.text b.pieces m) (changes_files b.pieces m) _ texts if_resort)

    pub name_has : (t : List ℕ) → name_of F b l m ≡ some t → P t
    name_has t e = subst (If P) e name_if

    -- and of what is written, if it holds of no bytes
    pub text_has : P [] → P (name_text F b l m)
    unfolding name_text
    text_has p = if_or p (name_of F b l m) name_if
