-- The numbers that are stepped over, none of which begins at a man of the side to move, are no legal moves.
-- Assumes nothing.
use mathlib.Core.Path.{◌≡◌, refl, ap, sym, ◌∙◌}
use mathlib.Core.Bool.{Bool, true, false, cond, not, ◌&&◌}
use mathlib.Core.List.{List, ◌∷◌}
use Prim.Native.Nat.{ℕ, zero, suc, ◌+◌, ◌-◌, ◌/◌, ◌%◌, ◌≤◌, ◌<◌}
use native.Mathlib.Omega.{arith}
use lib.Dec.{ltb}
use borrow.Author.Tests.{ltb-true, ltb-false}
use Rattle.square.specs.Piece.{kind_of, man_on}
use Rattle.board_builder.specs.declared.BoardBuilder.{BoardBuilder}
use Rattle.move_rules.specs.After.{squares_after}
use Rattle.move_laws.specs.Attack.{of_side, in_check}
use Rattle.move_laws.specs.Move.{promotes, kind_moves}
use Rattle.move_laws.specs.Legal.{own_rights, goes, legal_parts, is_legal, kept_if, legal_from}
use Rattle.legal.specs.CodeList.{Skips, SkipsFrom, counted_to, put_at, count_from, filled_from}
use Rattle.legal.proofs.Room.{legal_turn, legal_end, count_step, room_step}

-- ---- the table, from the last square down: the step that comes to the square before

pub record Marking (squares : List ℕ) (side s step : ℕ) (steps : List ℕ) : Type 0 where
  pub under : s ≤ 64
  pub done : SkipsFrom squares side s steps
  pub some : 1 ≤ step
  pub within : s + step ≤ 65
  pub none : (x : ℕ) → s ≤ x → x + 1 < s + step → of_side side (man_on squares x) ≡ false

-- ---- what is stepped over

not_own : (b : BoardBuilder) (m : ℕ) → of_side b.side_to_move (man_on b.pieces (m % 64)) ≡ false → is_legal b m ≡ false
unfolding is_legal legal_parts goes
not_own b m e =
    let man = man_on b.pieces (m % 64) in
    let side = b.side_to_move in
    let rest = promotes side (kind_of man) (m / 64 % 64) (m / 4096)
    && kind_moves b.pieces side (own_rights b) b.en_passant (kind_of man) (m % 64) (m / 64 % 64) in
    ap (λ (u : Bool). (u && rest) && not (in_check (squares_after b.pieces (m % 64) (m / 64 % 64) (m / 4096)) side)) e

skipped : (b : BoardBuilder) (all k m : ℕ) → ((x : ℕ) → m ≤ x → x < m + k → is_legal b x ≡ false)
    → legal_from b (all - m) m ≡ legal_from b (all - (m + k)) (m + k)
unfolding kept_if
skipped b all zero m f =
    let z : m ≡ m + zero = omega arith in
    ap (λ (x : ℕ). legal_from b (all - x) x) z
skipped b all (suc k) m f = go (ltb m all) refl (skipped b all k (m + 1) (λ x p q. f x (omega (arith, p)) (omega (arith, q))))
  where
    z : m + 1 + k ≡ m + suc k
    z = omega arith

    go : (u : Bool) → ltb m all ≡ u → legal_from b (all - (m + 1)) (m + 1) ≡ legal_from b (all - (m + 1 + k)) (m + 1 + k)
        → legal_from b (all - m) m ≡ legal_from b (all - (m + suc k)) (m + suc k)
    go true e ih =
        legal_turn b all m (ltb-true m all e)
        ∙ ap (λ (t : Bool). cond t (m ∷ legal_from b (all - (m + 1)) (m + 1)) (legal_from b (all - (m + 1)) (m + 1))) (f m (omega arith) (omega arith))
        ∙ ih
        ∙ ap (λ (x : ℕ). legal_from b (all - x) x) z
    go false e ih =
        let l = ltb-false m all e in
        legal_end b all m (omega (arith, l)) ∙ sym (legal_end b all (m + suc k) (omega (arith, l)))

pub stepped_over : (b : BoardBuilder) (all m step : ℕ) → Skips b.pieces b.side_to_move (m % 64) step
    → legal_from b (all - (m + 1)) (m + 1) ≡ legal_from b (all - (m + step)) (m + step)
stepped_over b all m step w =
    let z : m + 1 + (step - 1) ≡ m + step = omega (arith, w.some) in
    skipped b all (step - 1) (m + 1) over ∙ ap (λ (x : ℕ). legal_from b (all - x) x) z
  where
    over : (x : ℕ) → m + 1 ≤ x → x < m + 1 + (step - 1) → is_legal b x ≡ false
    over x p q =
        let up : x % 64 ≡ m % 64 + (x - m) = omega (arith, p, q, w.within, w.some) in
        not_own b x (w.none (x % 64) (omega (arith, up, p)) (omega (arith, up, p, q, w.some)))

-- ---- a turn of the gathering, with its step

pub count_skip : (b : BoardBuilder) (all count m step : ℕ) (t : Bool) (r x : ℕ) → Skips b.pieces b.side_to_move (m % 64) step
    → m < all → t ≡ is_legal b m → r ≡ cond t (counted_to count) count
    → x ≡ count_from count (legal_from b (all - m) m) → x ≡ count_from r (legal_from b (all - (m + step)) (m + step))
count_skip b all count m step t r x w h p q e =
    count_step b all count m t r x h p q e ∙ ap (λ (l : List ℕ). count_from r l) (stepped_over b all m step w)

pub room_skip : (b : BoardBuilder) (all : ℕ) (room : List ℕ) (count m step : ℕ) (t : Bool) (r : ℕ) (next x : List ℕ)
    → Skips b.pieces b.side_to_move (m % 64) step → m < all → t ≡ is_legal b m
    → r ≡ cond t (counted_to count) count → next ≡ cond t (put_at room count m) room
    → x ≡ filled_from room count (legal_from b (all - m) m) → x ≡ filled_from next r (legal_from b (all - (m + step)) (m + step))
room_skip b all room count m step t r next x w h p q n e =
    room_step b all room count m t r next x h p q n e ∙ ap (λ (l : List ℕ). filled_from next r l) (stepped_over b all m step w)
