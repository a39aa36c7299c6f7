-- Where no pawn stands on the seventh rank of its side, no number with a promotion is legal, and the numbers without one are all that need be asked.
-- Assumes nothing.
use mathlib.Core.Path.{◌≡◌, refl, ap, ap₂, sym, ◌∙◌}
use mathlib.Core.Bool.{Bool, true, false, cond, not, ◌&&◌, ◌||◌, false≢true, or-false}
use mathlib.Core.List.{List, [], ◌∷◌}
use Prim.Native.Nat.{ℕ, zero, suc, ◌+◌, ◌*◌, ◌-◌, ◌/◌, ◌%◌, ◌≤◌, ◌<◌}
use native.Mathlib.Omega.{arith}
use lib.Dec.{eqb, leb}
use lib.ListN.{length, get_or, take, drop, length-drop}
use lib.Seq.{take-suc}
use Rattle.std.specs.List.{list_any}
use Rattle.std.proofs.Math.Bool.{or_comm}
use Rattle.std.proofs.lemmas.List.{get_or-drop}
use Rattle.std.proofs.lemmas.List.Folds.{list_any-append}
use borrow.Author.Tests.{eq-eqb, eqb-true, eqb-false, leb-true, leb-false}
use Rattle.answer.proofs.Numbers.{both_left, both_right}
use Rattle.square.specs.Piece.{kind_of, man_on}
use Rattle.board_builder.specs.declared.BoardBuilder.{BoardBuilder}
use Rattle.board_builder.specs.BoardBuilder.{in_range}
use Rattle.move_rules.specs.After.{rank, file, passed_over, squares_after}
use Rattle.move_laws.specs.Attack.{of_side, ahead, pawn_attacks, in_check}
use Rattle.move_laws.specs.Move.{second_rank, last_rank, promotes, pawn_steps, pawn_steps_twice, pawn_captures, pawn_passes, pawn_moves, kind_moves}
use Rattle.move_laws.specs.Legal.{own_rights, goes, legal_parts, is_legal, kept_if, legal_from, legal_moves}
use Rattle.legal.specs.CodeList.{seventh_rank, pawn_from, may_promote}
use Rattle.legal.proofs.Safety.{side_under}

-- ---- a pawn on a rank

pub pawns_any : (l : List ℕ) (man first n : ℕ) → first + n ≤ length l
    → list_any (λ (y : ℕ). eqb y man) (take n (drop first l)) ≡ pawn_from l man first n
unfolding pawn_from
pawns_any l man first zero h = refl
pawns_any l man first (suc n) h =
    let test : ℕ → Bool = λ (y : ℕ). eqb y man in
    let k : n < length (drop first l) = simp length-drop (omega (arith, h)) in
    ap (list_any test) (take-suc (drop first l) n 0 k)
    ∙ list_any-append test (take n (drop first l)) (get_or (drop first l) n 0 ∷ [])
    ∙ or_comm (list_any test (take n (drop first l))) (test (get_or (drop first l) n 0) || false)
    ∙ ap₂ ◌||◌ (or-false (test (get_or (drop first l) n 0)) ∙ ap test (get_or-drop first l n 0)) (pawns_any l man first n (omega (arith, h)))

pub seventh_under : (side : ℕ) → seventh_rank side ≤ 48
seventh_under side = go (eqb side 0)
  where
    go : (u : Bool) → cond u 48 8 ≤ 48
    go true = omega arith
    go false = omega arith

-- a pawn that is there is found
found : (l : List ℕ) (man first k n : ℕ) → k < n → man_on l (first + k) ≡ man → pawn_from l man first n ≡ true
unfolding pawn_from
found l man first k zero h e = absurd (omega (arith, h))
found l man first k (suc n) h e = go (eqb (man_on l (first + n)) man) refl (found l man first k n)
  where
    go : (t : Bool) → eqb (man_on l (first + n)) man ≡ t → (k < n → man_on l (first + k) ≡ man → pawn_from l man first n ≡ true)
        → t || pawn_from l man first n ≡ true
    go true q ih = refl
    go false q ih =
        let other : k ≡ n → ⊥ = λ z. eqb-false (man_on l (first + n)) man q (ap (λ (x : ℕ). man_on l (first + x)) (sym z) ∙ e) in
        ih (omega (arith, h, other)) e

-- ---- a legal promotion comes from the seventh rank

or_split : (a b : Bool) {P : Type 0} → a || b ≡ true → (a ≡ true → P) → (b ≡ true → P) → P
or_split true b e f g = f refl
or_split false b e f g = g e

seventh_of : (side s t : ℕ) → side < 2 → ahead side s t 1 ≡ true → rank t ≡ last_rank side → s / 8 * 8 ≡ seventh_rank side
unfolding ahead
seventh_of side s t h a l = go (eqb side 0) a l
  where
    go : (u : Bool) → cond u (eqb (t / 8) (s / 8 + 1)) (eqb (s / 8) (t / 8 + 1)) ≡ true → t / 8 ≡ cond u 7 0 → s / 8 * 8 ≡ cond u 48 8
    go true p q = omega (arith, eqb-true (t / 8) (s / 8 + 1) p, q)
    go false p q = omega (arith, eqb-true (s / 8) (t / 8 + 1) p, q)

-- two ranks ahead of the second is not the last
not_twice : (side s t : ℕ) → ahead side s t 2 ≡ true → rank s ≡ second_rank side → rank t ≡ last_rank side → ⊥
unfolding ahead
not_twice side s t a r l = go (eqb side 0) a r l
  where
    go : (u : Bool) → cond u (eqb (t / 8) (s / 8 + 2)) (eqb (s / 8) (t / 8 + 2)) ≡ true → s / 8 ≡ cond u 1 6 → t / 8 ≡ cond u 7 0 → ⊥
    go true p q w = omega (arith, eqb-true (t / 8) (s / 8 + 2) p, q, w)
    go false p q w = omega (arith, eqb-true (s / 8) (t / 8 + 2) p, q, w)

-- a double step, from the second rank
twice_from : (l : List ℕ) (side s t : ℕ) → pawn_steps_twice l side s t ≡ true → (ahead side s t 2 ≡ true) × (rank s ≡ second_rank side)
unfolding pawn_steps_twice
twice_from l side s t e =
    let empty = eqb (man_on l t) 0 && eqb (man_on l (passed_over s t)) 0 in
    let second = eqb (rank s) (second_rank side) && empty in
    let along = both_right (ahead side s t 2) (eqb (file s) (file t) && second) e in (
      both_left (ahead side s t 2) (eqb (file s) (file t) && second) e,
      eqb-true (rank s) (second_rank side) (both_left (eqb (rank s) (second_rank side)) empty (both_right (eqb (file s) (file t)) second along)),
    )

steps_from : (l : List ℕ) (side marked s t : ℕ) → side < 2 → pawn_moves l side marked s t ≡ true → rank t ≡ last_rank side → s / 8 * 8 ≡ seventh_rank side
unfolding pawn_moves pawn_steps pawn_captures pawn_passes pawn_attacks
steps_from l side marked s t h e last =
    or_split (pawn_steps l side s t) _ e
    (λ a. seventh_of side s t h (both_left (ahead side s t 1) _ a) last)
    (λ f. or_split (pawn_steps_twice l side s t) _ f
    (λ a. let w = twice_from l side s t a in absurd (not_twice side s t w.0 w.1 last))
    (λ g. or_split (pawn_captures l side s t) _ g
    (λ a. seventh_of side s t h (both_left (ahead side s t 1) _ (both_left (pawn_attacks side s t) _ a)) last)
    (λ a. seventh_of side s t h (both_left (ahead side s t 1) _ (both_left (pawn_attacks side s t) _ a)) last)))

-- a man of a side that is a pawn
pawn_of : (side man : ℕ) → side < 2 → of_side side man ≡ true → kind_of man ≡ 1 → man ≡ 1 + 6 * side
unfolding of_side kind_of
pawn_of side man h e k =
    let low = leb-true (1 + 6 * side) man (both_left (leb (1 + 6 * side) man) (leb man (6 + 6 * side)) e) in
    let high = leb-true man (6 + 6 * side) (both_right (leb (1 + 6 * side) man) (leb man (6 + 6 * side)) e) in
    go (leb man 6) refl k low high
  where
    go : (t : Bool) → leb man 6 ≡ t → cond t man (man - 6) ≡ 1 → 1 + 6 * side ≤ man → man ≤ 6 + 6 * side → man ≡ 1 + 6 * side
    go true q k low high = omega (arith, h, k, low)
    go false q k low high = omega (arith, h, k, low, high, leb-false man 6 q)

-- a move with a promotion that goes is a pawn's, to the last rank
record Promoted (side kind t : ℕ) : Type 0 where
  is_pawn : kind ≡ 1
  last : rank t ≡ last_rank side

promoted : (side kind t p : ℕ) → 1 ≤ p → promotes side kind t p ≡ true → Promoted side kind t
unfolding promotes
promoted side kind t p h e = go (eqb kind 1 && eqb (rank t) (last_rank side)) refl e
  where
    go : (u : Bool) → (eqb kind 1 && eqb (rank t) (last_rank side)) ≡ u → cond u (leb 2 p && leb p 5) (eqb p 0) ≡ true → Promoted side kind t
    go true q r = record {
      is_pawn = eqb-true kind 1 (both_left (eqb kind 1) (eqb (rank t) (last_rank side)) q);
      last = eqb-true (rank t) (last_rank side) (both_right (eqb kind 1) (eqb (rank t) (last_rank side)) q);
    }
    go false q r = absurd (omega (arith, h, eqb-true p 0 r))

pawn_kind : (l : List ℕ) (side rights marked kind s t : ℕ) → kind ≡ 1 → kind_moves l side rights marked kind s t ≡ true → pawn_moves l side marked s t ≡ true
unfolding kind_moves
pawn_kind l side rights marked kind s t k e = go (eqb kind 1) (eq-eqb kind 1 k) _ e
  where
    go : (u : Bool) → u ≡ true → (other : Bool) → cond u (pawn_moves l side marked s t) other ≡ true → pawn_moves l side marked s t ≡ true
    go true q other r = r
    go false q other r = absurd (false≢true q)

-- so it comes from a square of the seventh rank
gone_from : (l : List ℕ) (side rights marked s t p : ℕ) → side < 2 → 1 ≤ p → goes l side rights marked s t p ≡ true → may_promote l side ≡ true
unfolding goes may_promote
gone_from l side rights marked s t p h one e =
    let man = man_on l s in
    let rest = promotes side (kind_of man) t p && kind_moves l side rights marked (kind_of man) s t in
    let own = both_left (of_side side man) rest e in
    let both = both_right (of_side side man) rest e in
    let is = promoted side (kind_of man) t p one (both_left (promotes side (kind_of man) t p) _ both) in
    let moves = pawn_kind l side rights marked (kind_of man) s t is.is_pawn (both_right (promotes side (kind_of man) t p) _ both) in
    let from = steps_from l side marked s t h moves is.last in
    let at : seventh_rank side + s % 8 ≡ s = omega (arith, from) in
    found l (1 + 6 * side) (seventh_rank side) (s % 8) 8 (omega arith)
    (ap (λ (x : ℕ). man_on l x) at ∙ pawn_of side man h own is.is_pawn)

not_legal : (b : BoardBuilder) (m : ℕ) → in_range b ≡ true → may_promote b.pieces b.side_to_move ≡ false → 4096 ≤ m → is_legal b m ≡ false
unfolding is_legal legal_parts
not_legal b m r none h = go (goes b.pieces b.side_to_move (own_rights b) b.en_passant (m % 64) (m / 64 % 64) (m / 4096)) refl
  where
    safe : Bool
    safe = not (in_check (squares_after b.pieces (m % 64) (m / 64 % 64) (m / 4096)) b.side_to_move)

    go : (t : Bool) → goes b.pieces b.side_to_move (own_rights b) b.en_passant (m % 64) (m / 64 % 64) (m / 4096) ≡ t → t && safe ≡ false
    go true q =
        let found = gone_from b.pieces b.side_to_move (own_rights b) b.en_passant (m % 64) (m / 64 % 64) (m / 4096) (side_under b r)
        (omega (arith, h)) q in
        absurd (false≢true (sym none ∙ found))
    go false q = refl

-- ---- the numbers behind, none of which is legal, need not be asked

none_kept : (b : BoardBuilder) (k m : ℕ) → ((x : ℕ) → m ≤ x → is_legal b x ≡ false) → legal_from b k m ≡ []
unfolding legal_from kept_if
none_kept b zero m f = refl
none_kept b (suc k) m f =
    ap (λ (t : Bool). kept_if t m (legal_from b k (m + 1))) (f m (omega arith)) ∙ none_kept b k (m + 1) (λ x h. f x (omega (arith, h)))

cut : (b : BoardBuilder) (n k m : ℕ) → ((x : ℕ) → m + n ≤ x → is_legal b x ≡ false) → legal_from b n m ≡ legal_from b (n + k) m
unfolding legal_from
cut b zero k m f =
    let z : k ≡ zero + k = omega arith in
    sym (none_kept b k m (λ x h. f x (omega (arith, h)))) ∙ ap (λ (n : ℕ). legal_from b n m) z
cut b (suc n) k m f =
    let z : suc (n + k) ≡ suc n + k = omega arith in
    ap (λ (l : List ℕ). kept_if (is_legal b m) m l) (cut b n k (m + 1) (λ x h. f x (omega (arith, h)))) ∙ ap (λ (j : ℕ). legal_from b j m) z

pub without_promotions : (b : BoardBuilder) → in_range b ≡ true → may_promote b.pieces b.side_to_move ≡ false → legal_from b 4096 0 ≡ legal_moves b
unfolding legal_moves
without_promotions b r none = cut b 4096 24576 0 (λ x h. not_legal b x r none (omega (arith, h)))

pub with_promotions : (b : BoardBuilder) → legal_from b 28672 0 ≡ legal_moves b
unfolding legal_moves
with_promotions b = refl
