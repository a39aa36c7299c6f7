-- Laws of a move's number and of the four fields, for the contracts.
-- Assumes nothing.
use Rattle.std.specs.Prelude.{None}
use mathlib.Core.Path.{◌≡◌, refl, ap, ◌∙◌}
use mathlib.Core.Bool.{Bool, true, false, ◌&&◌}
use mathlib.Core.List.{List}
use Prim.Native.Nat.{ℕ, ◌<◌}
use native.Mathlib.Omega.{arith}
use lib.Dec.{leb}
use lib.ListN.{length, get_or}
use borrow.Author.Tests.{eq-eqb, ne_eqb, lt-leb}
use Rattle.answer.specs.declared.Answer.{Answer}
use Rattle.answer.specs.Answer.{refused, in_range_or5, write_answer, write_bytes}
use Rattle.answer.proofs.Writes.{write_refused}
use Rattle.chess_move.specs.declared.ChessMove.{ChessMove}
use Rattle.chess_move.specs.Number.{number_of, of_bytes, number_answer}
use Rattle.action.specs.declared.Action.TheVariants.{OfferDraw, AcceptDraw, DeclareDraw, Resign}
use Rattle.action.specs.Layout.{fields, colour_check, moves_here, stands_alone, action_of_fields, action_of}

-- what is not accepted is answered 5
five_else : (ok : Bool) (v : ℕ) → ((in_range_or5 ok v).number ≡ 0 → ⊥) → (in_range_or5 ok v).number ≡ 5
five_else true v h = absurd (h refl)
five_else false v h = refl

-- a move that has no number is refused with 5
pub number_five : (m : ChessMove) → ((number_answer m).number ≡ 0 → ⊥) → (number_answer m).number ≡ 5
number_five m h =
    five_else (leb m.source 63 && (leb m.dest 63 && leb m.promotion 6)) (number_of m.source m.dest m.promotion) h

-- a third colour is refused with 5, and the room is as it was
pub colour_refused : (kind colour : ℕ) (out : List ℕ) {r : Answer} → 1 < colour → r ≡ refused 5
    → (r ≡ write_answer (colour_check colour) (fields kind colour 0) (length out)) × (out ≡ write_bytes (colour_check colour) (fields kind colour 0) out)
colour_refused kind colour out h e =
    let k : colour_check colour ≡ 5 = simp (lt-leb _ _ h) in
    let w = write_refused 5 (fields kind colour 0) out (λ z. omega arith) in
    rw k (e ∙ w.answer, w.bytes)

pub not_four : (s : List ℕ) → (length s ≡ 4 → ⊥) → action_of s ≡ None
unfolding action_of
not_four s h = rw (ne_eqb _ _ h) refl

pub no_kind : (k c n : ℕ) → (k ≡ 1 → ⊥) → (k ≡ 2 → ⊥) → (k ≡ 3 → ⊥) → (k ≡ 4 → ⊥) → (k ≡ 5 → ⊥) → action_of_fields k c n ≡ None
no_kind k c n a b d e f = rw (ne_eqb _ _ a, ne_eqb _ _ b, ne_eqb _ _ d, ne_eqb _ _ e, ne_eqb _ _ f) refl

-- four bytes, kind by kind
module _ (s : List ℕ) (four : length s ≡ 4) where
  of_four : action_of s ≡ action_of_fields (get_or s 0 0) (get_or s 1 0) (of_bytes (get_or s 2 0) (get_or s 3 0))
  unfolding action_of
  of_four = rw (eq-eqb _ _ four) refl

  pub of_move : get_or s 0 0 ≡ 1 → action_of s ≡ moves_here (get_or s 1 0) (of_bytes (get_or s 2 0) (get_or s 3 0))
  of_move e = of_four ∙ ap (λ (k : ℕ). action_of_fields k (get_or s 1 0) (of_bytes (get_or s 2 0) (get_or s 3 0))) e

  pub of_offer : get_or s 0 0 ≡ 2 → action_of s ≡ stands_alone 1 (get_or s 1 0) (of_bytes (get_or s 2 0) (get_or s 3 0)) (OfferDraw (get_or s 1 0))
  of_offer e = of_four ∙ ap (λ (k : ℕ). action_of_fields k (get_or s 1 0) (of_bytes (get_or s 2 0) (get_or s 3 0))) e

  pub of_accept : get_or s 0 0 ≡ 3 → action_of s ≡ stands_alone 0 (get_or s 1 0) (of_bytes (get_or s 2 0) (get_or s 3 0)) AcceptDraw
  of_accept e = of_four ∙ ap (λ (k : ℕ). action_of_fields k (get_or s 1 0) (of_bytes (get_or s 2 0) (get_or s 3 0))) e

  pub of_declare : get_or s 0 0 ≡ 4 → action_of s ≡ stands_alone 0 (get_or s 1 0) (of_bytes (get_or s 2 0) (get_or s 3 0)) DeclareDraw
  of_declare e = of_four ∙ ap (λ (k : ℕ). action_of_fields k (get_or s 1 0) (of_bytes (get_or s 2 0) (get_or s 3 0))) e

  pub of_resign : get_or s 0 0 ≡ 5 → action_of s ≡ stands_alone 1 (get_or s 1 0) (of_bytes (get_or s 2 0) (get_or s 3 0)) (Resign (get_or s 1 0))
  of_resign e = of_four ∙ ap (λ (k : ℕ). action_of_fields k (get_or s 1 0) (of_bytes (get_or s 2 0) (get_or s 3 0))) e

  pub of_none : (get_or s 0 0 ≡ 1 → ⊥) → (get_or s 0 0 ≡ 2 → ⊥) → (get_or s 0 0 ≡ 3 → ⊥) → (get_or s 0 0 ≡ 4 → ⊥) → (get_or s 0 0 ≡ 5 → ⊥)
      → action_of s ≡ None
  of_none a b d e f = of_four ∙ no_kind (get_or s 0 0) (get_or s 1 0) (of_bytes (get_or s 2 0) (get_or s 3 0)) a b d e f
