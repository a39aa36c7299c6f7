-- Laws of a position's list of moves, as bytes and as numbers.
-- Assumes nothing.
use Rattle.board_builder.specs.BoardBuilder.{record_size}
use mathlib.Core.Path.{◌≡◌, refl, ap, sym, ◌∙◌}
use mathlib.Core.Bool.{Bool, true, false, ◌&&◌, and_assoc}
use mathlib.Core.List.{List, ◌∷◌}
use Prim.Native.Nat.{ℕ, zero, suc, ◌+◌, ◌*◌, ◌-◌, ◌<◌, ◌≤◌}
use native.Mathlib.Numerals.{add-one}
use native.Mathlib.Omega.{arith}
use lib.Dec.{eqb}
use lib.ListN.{length, drop, take, get_or}
use lib.Seq.{drop-cons, get_or-take}
use borrow.Author.Tests.{eq-eqb, ne_eqb, eqb-true, eqb-false}
use Rattle.answer.specs.Numbers.{same}
use Rattle.answer.proofs.Same.{same_eq, same_lengths}
use Rattle.chess_move.specs.Number.{of_bytes}
use Rattle.position.specs.Layout.{length_at, moves_at, position_size, moves_from, position_of}
use Rattle.position.specs.Repeats.{equal}

-- every element is a byte
abbrev pub AllBytes : List ℕ → Type 0
AllBytes l = (i : ℕ) → get_or l i 0 < 256

pub length_moves : (p : List ℕ) (at k : ℕ) → length (moves_from p at k) ≡ k
unfolding moves_from
length_moves p at zero = refl
length_moves p at (suc k) = ap suc (length_moves p (at + 2) k)

-- two numbers of two bytes are equal exactly when both bytes are
pub eqb_number : (a b c d : ℕ) → a < 256 → c < 256 → eqb (of_bytes a b) (of_bytes c d) ≡ (eqb a c && eqb b d)
eqb_number a b c d ha hc = go (eqb a c) (eqb b d) refl refl
  where
    go : (s t : Bool) → eqb a c ≡ s → eqb b d ≡ t → eqb (of_bytes a b) (of_bytes c d) ≡ (s && t)
    go true true e f =
        let e' : a ≡ c = eqb-true a c e in
        let f' : b ≡ d = eqb-true b d f in
        eq-eqb (of_bytes a b) (of_bytes c d) (omega arith)
    go true false e f = ne_eqb (of_bytes a b) (of_bytes c d) (λ h. eqb-false b d f (omega (arith, eqb-true a c e)))
    go false t e f = ne_eqb (of_bytes a b) (of_bytes c d) (λ h. eqb-false a c e (omega arith))

pub take_two : (p : List ℕ) (at k : ℕ) → at + 2 * suc k ≤ length p
    → take (2 * suc k) (drop at p) ≡ get_or p at 0 ∷ get_or p (at + 1) 0 ∷ take (2 * k) (drop (at + 2) p)
take_two p at k h =
    let e : 2 * suc k ≡ suc (suc (2 * k)) = omega arith in
    let f : at + 2 ≡ suc (suc at) = omega arith in
    let h₁ : at < length p = omega arith in
    let h₂ : suc at < length p = omega arith in
    rw (e, drop-cons p at 0, drop-cons p (suc at) 0, add-one, f)

-- the bytes of two lists of moves agree exactly when the lists do
pub same_moves : (p q : List ℕ) → AllBytes p → AllBytes q → (k at : ℕ) → at + 2 * k ≤ length p → at + 2 * k ≤ length q
    → same (take (2 * k) (drop at p)) (take (2 * k) (drop at q)) ≡ same (moves_from p at k) (moves_from q at k)
unfolding same moves_from
same_moves p q bp bq zero at hp hq = refl
same_moves p q bp bq (suc k) at hp hq =
    rw (
      take_two p at k hp,
      take_two q at k hq,
      eqb_number _ _ _ _ (bp at) (bq at),
      and_assoc,
      same_moves p q bp bq k (at + 2) (omega arith) (omega arith),
    )

-- the same with the length's byte in front
pub same_lists : (p q : List ℕ) → AllBytes p → AllBytes q → length p ≡ position_size → length q ≡ position_size
    → same (take (moves_at + 2 * get_or p length_at 0 - length_at) (drop length_at p))
    (take (moves_at + 2 * get_or p length_at 0 - length_at) (drop length_at q))
    ≡ same (position_of p).moves (position_of q).moves
unfolding same position_of
same_lists p q bp bq hp hq =
    let e : moves_at + 2 * get_or p length_at 0 - length_at ≡ suc (2 * get_or p length_at 0) = omega arith in
    let h₁ : length_at < length p = omega arith in
    let h₂ : length_at < length q = omega arith in
    rw (e, drop-cons p length_at 0, drop-cons q length_at 0) (go (eqb (get_or p length_at 0) (get_or q length_at 0)) refl)
  where
    go : (t : Bool) → eqb (get_or p length_at 0) (get_or q length_at 0) ≡ t
        → (t && same (take (2 * get_or p length_at 0) (drop moves_at p)) (take (2 * get_or p length_at 0) (drop moves_at q)))
        ≡ same (moves_from p moves_at (get_or p length_at 0)) (moves_from q moves_at (get_or q length_at 0))
    go true e =
        rw (← eqb-true (get_or p length_at 0) (get_or q length_at 0) e)
        (same_moves p q bp bq (get_or p length_at 0) moves_at (omega (arith, bp length_at)) (omega (arith, bp length_at)))
    go false e =
        sym (same_lengths (moves_from p moves_at (get_or p length_at 0)) (moves_from q moves_at (get_or q length_at 0))
        (λ h. eqb-false _ _ e (sym (length_moves p moves_at _) ∙ h ∙ length_moves q moves_at _)))

-- positions are compared by their records first, and then by their lists
pub equal_not : (p q : List ℕ) → same (take record_size p) (take record_size q) ≡ false → equal (position_of p) (position_of q) ≡ false
unfolding equal position_of
equal_not p q h = rw h

-- and differ if one number of the records does
pub equal_not_at : (p q : List ℕ) (i : ℕ) → i < record_size → (get_or p i 0 ≡ get_or q i 0 → ⊥) → equal (position_of p) (position_of q) ≡ false
equal_not_at p q i h n = equal_not p q (go (same (take record_size p) (take record_size q)) refl)
  where
    go : (t : Bool) → same (take record_size p) (take record_size q) ≡ t → t ≡ false
    go true e =
        absurd (n (sym (get_or-take record_size p i 0 h) ∙ ap (λ (l : List ℕ). get_or l i 0) (same_eq _ _ e) ∙ get_or-take record_size q i 0 h))
    go false e = refl

pub equal_lists : (p q : List ℕ) → same (take record_size p) (take record_size q) ≡ true
    → equal (position_of p) (position_of q) ≡ same (position_of p).moves (position_of q).moves
unfolding equal position_of
equal_lists p q h = rw h
