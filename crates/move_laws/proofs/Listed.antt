-- The list of legal moves, number after number: what is in it, its order, and the king's safety.
-- Assumes nothing.
use mathlib.Core.Path.{◌≡◌, refl, ap, sym, ◌∙◌}
use mathlib.Core.Bool.{Bool, true, false, not, false≢true}
use mathlib.Core.List.{List}
use Prim.Native.Nat.{ℕ, zero, suc, ◌+◌, ◌≤◌, ◌<◌}
use native.Mathlib.Omega.{arith}
use lib.Dec.{eqb, leb}
use borrow.Author.Tests.{lt-ltb, eq-eqb, ne_eqb, eqb-true, eqb-false, leb-true, leb-false, not-true}
use Rattle.answer.specs.Numbers.{among}
use Rattle.answer.proofs.Numbers.{both_right}
use Rattle.board_builder.specs.declared.BoardBuilder.{BoardBuilder}
use Rattle.chess_move.specs.Number.{last_move, source_of, dest_of, promotion_of}
use Rattle.move_rules.specs.After.{squares_after, after_parts}
use Rattle.move_laws.specs.Attack.{in_check}
use Rattle.move_laws.specs.Legal.{own_rights, goes, legal_parts, is_legal, kept_if, legal_from, legal_moves}
use Rattle.move_laws.specs.Promises.{ListsLegal, ListsMoves, rises_from, rises, ListRises, KingSafe}

kept_other : (t : Bool) (m k : ℕ) (rest : List ℕ) → (k ≡ m → ⊥) → among m (kept_if t k rest) ≡ among m rest
unfolding among kept_if
kept_other true m k rest n = simp (ne_eqb k m n)
kept_other false m k rest n = refl

kept_same : (t : Bool) (m k : ℕ) (rest : List ℕ) → k ≡ m → among m rest ≡ false → among m (kept_if t k rest) ≡ t
unfolding among kept_if
kept_same true m k rest e f = simp (eq-eqb k m e)
kept_same false m k rest e f = f

-- what is under the first number, or past the last, is not in the list
under : (b : BoardBuilder) (n k m : ℕ) → m < k → among m (legal_from b n k) ≡ false
unfolding legal_from among
under b zero k m h = refl
under b (suc n) k m h = kept_other (is_legal b k) m k (legal_from b n (k + 1)) (λ e. omega (arith, h, e)) ∙ under b n (k + 1) m (omega (arith, h))

past : (b : BoardBuilder) (n k m : ℕ) → k + n ≤ m → among m (legal_from b n k) ≡ false
unfolding legal_from among
past b zero k m h = refl
past b (suc n) k m h = kept_other (is_legal b k) m k (legal_from b n (k + 1)) (λ e. omega (arith, h, e)) ∙ past b n (k + 1) m (omega (arith, h))

within : (b : BoardBuilder) (n k m : ℕ) → k ≤ m → m < k + n → among m (legal_from b n k) ≡ is_legal b m
unfolding legal_from
within b zero k m h l = absurd (omega (arith, h, l))
within b (suc n) k m h l = go (eqb k m) refl (within b n (k + 1) m)
  where
    go : (t : Bool) → eqb k m ≡ t → (k + 1 ≤ m → m < k + 1 + n → among m (legal_from b n (k + 1)) ≡ is_legal b m)
        → among m (kept_if (is_legal b k) k (legal_from b n (k + 1))) ≡ is_legal b m
    go true e ih =
        let q = eqb-true k m e in
        kept_same (is_legal b k) m k (legal_from b n (k + 1)) q (under b n (k + 1) m (omega (arith, q))) ∙ ap (λ (x : ℕ). is_legal b x) q
    go false e ih =
        let q = eqb-false k m e in
        let o : k + 1 ≤ m = omega (arith, h, q) in
        let p : m < k + 1 + n = omega (arith, l) in
        kept_other (is_legal b k) m k (legal_from b n (k + 1)) q ∙ ih o p

pub lists_legal : ListsLegal
unfolding legal_moves
lists_legal b m h = within b 28672 0 m (omega arith) (omega (arith, h))

pub lists_moves : ListsMoves
unfolding legal_moves
lists_moves b m e = go (leb m last_move) refl
  where
    go : (t : Bool) → leb m last_move ≡ t → m ≤ last_move
    go true q = leb-true m last_move q
    go false q = absurd (false≢true (sym (past b 28672 0 m (omega (arith, leb-false m last_move q))) ∙ e))

rises_kept : (t : Bool) (j k : ℕ) (rest : List ℕ) → j < k → rises_from k rest ≡ true → rises_from j rest ≡ true → rises_from j (kept_if t k rest) ≡ true
unfolding rises_from kept_if
rises_kept true j k rest h p q = simp (lt-ltb j k h) p
rises_kept false j k rest h p q = q

rises_on : (b : BoardBuilder) (n k j : ℕ) → j < k → rises_from j (legal_from b n k) ≡ true
unfolding legal_from rises_from
rises_on b zero k j h = refl
rises_on b (suc n) k j h =
    rises_kept (is_legal b k) j k (legal_from b n (k + 1)) h (rises_on b n (k + 1) k (omega arith)) (rises_on b n (k + 1) j (omega (arith, h)))

rising_kept : (t : Bool) (k : ℕ) (rest : List ℕ) → rises_from k rest ≡ true → rises rest ≡ true → rises (kept_if t k rest) ≡ true
unfolding rises kept_if
rising_kept true k rest p q = p
rising_kept false k rest p q = q

rising_from : (b : BoardBuilder) (n k : ℕ) → rises (legal_from b n k) ≡ true
unfolding legal_from rises
rising_from b zero k = refl
rising_from b (suc n) k = rising_kept (is_legal b k) k (legal_from b n (k + 1)) (rises_on b n (k + 1) k (omega arith)) (rising_from b n (k + 1))

pub list_rises : ListRises
unfolding legal_moves
list_rises b = rising_from b 28672 0

pub king_safe : KingSafe
unfolding is_legal legal_parts after_parts
king_safe b m e =
    let x = in_check (squares_after b.pieces (source_of m) (dest_of m) (promotion_of m)) b.side_to_move in
    not-true x
    (both_right (goes b.pieces b.side_to_move (own_rights b) b.en_passant (source_of m) (dest_of m) (promotion_of m)) (not x) e)
