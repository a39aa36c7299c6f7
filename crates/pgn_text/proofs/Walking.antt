-- Walking from place to place gives what the check counted; the check's answer is the walk's end; which answers there are.
-- Assumes nothing.
use mathlib.Core.Path.{◌≡◌, refl, ap, sym, ◌∙◌}
use mathlib.Core.Bool.{Bool, true, false, cond}
use mathlib.Core.List.{List, [], ◌∷◌, ◌++◌}
use Prim.Native.Nat.{ℕ, zero, suc, ◌+◌}
use native.Mathlib.Omega.{arith}
use lib.Dec.{ltb}
use lib.ListN.{length, drop, replicate}
use borrow.Author.Tests.{lt-ltb, le-ltb, ne_eqb}
use Rattle.answer.specs.Answer.{too_deep, unknown_token}
use Rattle.pgn_text.specs.declared.Token.{Token}
use Rattle.pgn_text.specs.declared.Token.TheVariants.{Passed, Move, Opening, Closing, Result, LeftOpen, Unknown}
use Rattle.pgn_text.specs.declared.PgnMove.{PgnMove}
use Rattle.pgn_text.specs.Token.{token}
use Rattle.pgn_text.specs.Walk.{Walk, found, ended, at_end, met, walk, walk_from, end_count, counted, check, next_move, deepest}
use Rattle.pgn_text.specs.Walk.{no_move_found, move_found, first_move}
use Rattle.pgn_text.specs.Promises.{WalksAlike, same_end, open_end, same_move, walked, moves_of, end_number, end_offset}
use Rattle.pgn_text.specs.Promises.{ChecksTheWalk, WalkingGivesTheMoves, PlaceFirst, RefusedIsEmpty}
use Rattle.pgn_text.specs.Promises.{PossibleAnswer, accepted, left_open_fact, too_deep_fact, unknown_token_fact, ThreeRefusals}
use Rattle.pgn_text.proofs.Follows.{moves_in_text_order}

-- ---- the check reads the end off the walk
counted_number : (n : ℕ) (w : Walk) → (counted n w).number ≡ end_number w
unfolding counted end_count end_number
counted_number n (ended number offset) = refl
counted_number n (found start size level w) = counted_number (n + 1) w

counted_offset : (n : ℕ) (w : Walk) → (counted n w).offset ≡ end_offset w
unfolding counted end_count end_offset
counted_offset n (ended number offset) = refl
counted_offset n (found start size level w) = counted_offset (n + 1) w

pub checks_the_walk : ChecksTheWalk check
unfolding check
checks_the_walk text = (counted_number 0 (walk_from text 0 0), counted_offset 0 (walk_from text 0 0))

counted_moves : (n : ℕ) (w : Walk) → end_number w ≡ 0 → (counted n w).moves ≡ n + length (moves_of w)
unfolding counted end_count end_number moves_of
counted_moves n (ended number offset) e = rw e (omega arith)
counted_moves n (found start size level w) e =
    let q : n + 1 + length (moves_of w) ≡ n + suc (length (moves_of w)) = omega arith in
    counted_moves (n + 1) w e ∙ q

-- ---- which answers there are
module _ (go : ℕ → List ℕ → Walk) (h : (n : ℕ) (os : List ℕ) → PossibleAnswer (end_number (go n os)) (end_offset (go n os))) (at : ℕ) where
  answered_opening : (t : Bool) (os : List ℕ)
      → PossibleAnswer (end_number (cond t (go 0 (at ∷ os)) (ended too_deep at))) (end_offset (cond t (go 0 (at ∷ os)) (ended too_deep at)))
  unfolding end_number end_offset
  answered_opening true os = h 0 (at ∷ os)
  answered_opening false os = too_deep_fact

  answered_met : (t : Token) (os : List ℕ) → PossibleAnswer (end_number (met t at os go)) (end_offset (met t at os go))
  unfolding met end_number end_offset
  answered_met (Passed n) os = h n os
  answered_met (Move n) os = h n os
  answered_met Opening os = answered_opening (ltb (length os) deepest) os
  answered_met Closing [] = unknown_token_fact
  answered_met Closing (o ∷ os) = h 0 os
  answered_met Result [] = accepted
  answered_met Result (o ∷ os) = unknown_token_fact
  answered_met LeftOpen os = left_open_fact
  answered_met Unknown os = unknown_token_fact

answered_end : (os : List ℕ) → PossibleAnswer (end_number (at_end os)) (end_offset (at_end os))
unfolding at_end end_number end_offset
answered_end [] = accepted
answered_end (o ∷ os) = left_open_fact

answered_walk : (n at : ℕ) (s os : List ℕ) → PossibleAnswer (end_number (walk n at os s)) (end_offset (walk n at os s))
unfolding walk
answered_walk n at [] os = answered_end os
answered_walk zero at (b ∷ bs) os = answered_met (λ n os'. walk n (at + 1) os' bs) (λ n qs. answered_walk n (at + 1) bs qs) at (token b bs) os
answered_walk (suc n) at (b ∷ bs) os = answered_walk n (at + 1) bs os

answered_place : (t u : Bool) (offset : ℕ) (w : Walk) → PossibleAnswer (end_number w) (end_offset w)
    → PossibleAnswer (end_number (cond t (ended too_deep offset) (cond u (ended unknown_token offset) w)))
    (end_offset (cond t (ended too_deep offset) (cond u (ended unknown_token offset) w)))
unfolding end_number end_offset
answered_place true u offset w h = too_deep_fact
answered_place false true offset w h = unknown_token_fact
answered_place false false offset w h = h

answered_from : (text : List ℕ) (offset level : ℕ) → PossibleAnswer (end_number (walk_from text offset level)) (end_offset (walk_from text offset level))
unfolding walk_from
answered_from text offset level =
    answered_place (ltb deepest level) (ltb (length text) offset) offset (walk 0 offset (replicate level offset) (drop offset text))
    (answered_walk 0 offset (drop offset text) (replicate level offset))

answered_first : (w : Walk) → PossibleAnswer (end_number w) (end_offset w) → PossibleAnswer (first_move w).number (first_move w).offset
unfolding first_move no_move_found move_found end_number end_offset
answered_first (ended number offset) h = h
answered_first (found start size level w) h = accepted

pub three_refusals : ThreeRefusals check next_move
unfolding next_move
three_refusals = (
  (λ text. rw ((checks_the_walk text).0, (checks_the_walk text).1) (answered_from text 0 0)),
  λ text offset level. answered_first (walk_from text offset level) (answered_from text offset level),
)

accepted_at_zero : (number offset : ℕ) → PossibleAnswer number offset → number ≡ 0 → offset ≡ 0
accepted_at_zero number offset accepted e = refl
accepted_at_zero number offset left_open_fact e = absurd (omega arith)
accepted_at_zero number offset too_deep_fact e = absurd (omega arith)
accepted_at_zero number offset unknown_token_fact e = absurd (omega arith)

-- ---- the place first
pub place_first : PlaceFirst next_move
unfolding next_move walk_from first_move
place_first = (
  (λ text offset level h. simp (lt-ltb deepest level h)),
  λ text offset level h k. simp (le-ltb deepest level h, lt-ltb (length text) offset k),
)

-- ---- nothing is told of a refused check, nor of a move that is not there
refused_counts : (n : ℕ) (w : Walk) → (end_number w ≡ 0 → ⊥) → (counted n w).moves ≡ 0
unfolding counted end_count end_number
refused_counts n (ended number offset) h = simp (ne_eqb number 0 h)
refused_counts n (found start size level w) h = refused_counts (n + 1) w h

no_move_told : (w : Walk) → (first_move w).found ≡ 0 → first_move w ≡ no_move_found (first_move w).number (first_move w).offset
unfolding first_move no_move_found move_found
no_move_told (ended number offset) e = refl
no_move_told (found start size level w) e = absurd (omega arith)

pub refused_is_empty : RefusedIsEmpty check next_move
unfolding check next_move
refused_is_empty = (
  (λ text h. refused_counts 0 (walk_from text 0 0) (λ e. h (counted_number 0 (walk_from text 0 0) ∙ e))),
  λ text offset level e. no_move_told (walk_from text offset level) e,
)

-- ---- from place to place
pub alike_trans : {u v w : Walk} → WalksAlike u v → WalksAlike v w → WalksAlike u w
alike_trans same_end q = q
alike_trans open_end same_end = open_end
alike_trans open_end open_end = open_end
alike_trans (same_move p) (same_move q) = same_move (alike_trans p q)

module _ (text : List ℕ) where
  follow : (w : Walk) {v : Walk} (offset level : ℕ) → walk_from text offset level ≡ v → WalksAlike w v → end_number w ≡ 0 → end_offset w ≡ 0
      → walked next_move text (length (moves_of w)) offset level ≡ moves_of w ++ (no_move_found 0 0 ∷ [])
  unfolding walked moves_of end_number end_offset next_move first_move move_found
  follow (ended number at) offset level e same_end z o = simp (e, z, o)
  follow (ended number at) offset level e open_end z o = absurd (omega arith)
  follow (found start size deep w) offset level e (same_move {w = v} a) z o =
      let q = moves_in_text_order text offset level start size deep v e in
      let r = follow w (start + size) deep refl (alike_trans a q.behind) z o in
      rw e (ap (λ (ms : List PgnMove). move_found start size deep ∷ ms) r)

pub alike_self : (w : Walk) → WalksAlike w w
alike_self (ended number offset) = same_end
alike_self (found start size level w) = same_move (alike_self w)

check_counts : (text : List ℕ) → end_number (walk_from text 0 0) ≡ 0 → (check text).moves ≡ length (moves_of (walk_from text 0 0))
unfolding check
check_counts text z =
    let e : 0 + length (moves_of (walk_from text 0 0)) ≡ length (moves_of (walk_from text 0 0)) = omega arith in
    counted_moves 0 (walk_from text 0 0) z ∙ e

pub walking_gives_the_moves : WalkingGivesTheMoves check next_move
walking_gives_the_moves text e =
    let w = walk_from text 0 0 in
    let z : end_number w ≡ 0 = sym (checks_the_walk text).0 ∙ e in
    let o : end_offset w ≡ 0 = accepted_at_zero (end_number w) (end_offset w) (answered_from text 0 0) z in
    let c : (check text).moves ≡ length (moves_of w) = check_counts text z in
    record { counted = c; walked_through = ap (λ (n : ℕ). walked next_move text n 0 0) c ∙ follow text w 0 0 refl (alike_self w) z o }
