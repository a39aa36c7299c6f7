-- A man that leaves a square on no line with the only king of its side, which is not in check, leaves it safe: but for a capture in passing, which empties two
-- squares. An attack after the move was one before it.
-- Assumes nothing.
use mathlib.Core.Path.{◌≡◌, refl, ap, sym, subst, ◌∙◌}
use mathlib.Core.Bool.{Bool, true, false, cond, not, ◌&&◌, ◌||◌, false≢true}
use mathlib.Core.List.{List}
use Prim.Native.Nat.{ℕ, zero, suc, ◌+◌, ◌*◌, ◌-◌, ◌/◌, ◌%◌, ◌≤◌, ◌<◌}
use native.Mathlib.Omega.{arith}
use lib.Dec.{eqb, leb, ltb}
use lib.ListN.{length, set, length-set}
use lib.Seq.{get_or-set_same, get_or-set_other}
use Rattle.std.specs.Prelude.{Option, Some, None, IfSome, is_some, unwrap_or}
use borrow.Author.Tests.{eq-eqb, ne_eqb, eqb-true, eqb-false, leb-true, leb-false, ltb-true, ltb-false}
use Rattle.answer.proofs.Below.{holds, belows}
use Rattle.answer.proofs.Numbers.{both_left, both_right}
use Rattle.square.specs.Piece.{kind_of, man_on}
use Rattle.board_builder.specs.declared.BoardBuilder.{BoardBuilder}
use Rattle.board_builder.specs.BoardBuilder.{in_range}
use Rattle.board_builder.proofs.Ranges.{in_range_lem}
use Rattle.legal.proofs.Safety.{side_under, gone}
use Rattle.move_rules.specs.After.{rank, castles, rook_moved, takes_in_passing, pawn_removed, colour_step, set_down, squares_after}
use Rattle.move_laws.specs.Apart.{apart, files_apart, ranks_apart, distance, file_or_rank, diagonal, lower, upper, line_step, empty_up_to, clear}
use Rattle.move_laws.specs.Attack.{of_side, bishop_attacks, rook_attacks, queen_attacks, kind_attacks, attacks, attacked_below, attacked}
use Rattle.move_laws.specs.Attack.{king_attacked, in_check_below, in_check}
use Rattle.move_laws.specs.Move.{last_rank, promotes, kind_moves}
use Rattle.move_laws.specs.Legal.{own_rights, goes, is_legal}
use Rattle.legal.specs.CodeList.{on_line, last_of, Calm, keeps_safe}

-- ---- what holds of the parts holds of the whole

or_mono : (a b c d : Bool) → (a ≡ true → c ≡ true) → (b ≡ true → d ≡ true) → a || b ≡ true → c || d ≡ true
or_mono true b c d f g e = ap (λ (u : Bool). u || d) (f refl)
or_mono false b true d f g e = refl
or_mono false b false d f g e = g e

and_mono : (a b c d : Bool) → (a ≡ true → c ≡ true) → (a ≡ true → b ≡ true → d ≡ true) → a && b ≡ true → c && d ≡ true
and_mono true b c d f g e = ap (λ (u : Bool). u && d) (f refl) ∙ g refl e
and_mono false b c d f g e = absurd (false≢true e)

cond_mono : (u a b c d : Bool) → (a ≡ true → c ≡ true) → (b ≡ true → d ≡ true) → cond u a b ≡ true → cond u c d ≡ true
cond_mono true a b c d f g e = f e
cond_mono false a b c d f g e = g e

-- ---- the squares between two squares of a line are on a line with either

lined_up_to : ℕ → ℕ → ℕ → ℕ → ℕ → Bool
lined_up_to k stop step zero at = true
lined_up_to k stop step (suc n) at = cond (ltb at stop) (on_line at k && lined_up_to k stop step n (at + step)) true

lined_test : ℕ → ℕ → Bool
lined_test y k = cond (on_line y k) (lined_up_to k (upper y k) (line_step y k) 6 (lower y k + line_step y k)) true

between_lined : (y k : ℕ) → y < 64 → k < 64 → on_line y k ≡ true → lined_up_to k (upper y k) (line_step y k) 6 (lower y k + line_step y k) ≡ true
unfolding lined_test lined_up_to on_line line_step upper lower distance file_or_rank diagonal files_apart ranks_apart apart
between_lined y k h l e = go (on_line y k) e (holds (lined_test y k) (belows lined_test 64 64 tt y k h l))
  where
    walk : Bool
    walk = lined_up_to k (upper y k) (line_step y k) 6 (lower y k + line_step y k)

    go : (u : Bool) → u ≡ true → cond u walk true ≡ true → walk ≡ true
    go true p q = q
    go false p q = absurd (false≢true p)

-- ---- a board on which one man has moved

record Moved (l new : List ℕ) (s t d : ℕ) : Type 0 where
  here : man_on new t ≡ d
  gone : (s ≡ t → ⊥) → man_on new s ≡ 0
  rest : (x : ℕ) → (x ≡ s → ⊥) → (x ≡ t → ⊥) → man_on new x ≡ man_on l x

moved : (l : List ℕ) (s t d : ℕ) → length l ≡ 64 → s < 64 → t < 64 → Moved l (set (set l s 0) t d) s t d
moved l s t d long h k = record {
  here = get_or-set_same (set l s 0) t d 0 (omega (arith, length-set l s 0, long, k));
  gone = λ n. get_or-set_other (set l s 0) t s d 0 n ∙ get_or-set_same l s 0 0 (omega (arith, long, h));
  rest = λ x n m. get_or-set_other (set l s 0) t x d 0 m ∙ get_or-set_other l s x 0 0 n;
}

-- who is there after the move, and is not the man that moved, was there before
stayed : (l new : List ℕ) (s t d x : ℕ) → Moved l new s t d → (man_on new x ≡ 0 → ⊥) → (man_on new x ≡ d → ⊥) → man_on new x ≡ man_on l x
stayed l new s t d x w some other = go (eqb x t) refl
  where
    from : (x ≡ t → ⊥) → (u : Bool) → eqb x s ≡ u → man_on new x ≡ man_on l x
    from n true e =
        let z = eqb-true x s e in
        absurd (some (ap (λ (y : ℕ). man_on new y) z ∙ w.gone (λ q. n (z ∙ q))))
    from n false e = w.rest x (eqb-false x s e) n

    go : (u : Bool) → eqb x t ≡ u → man_on new x ≡ man_on l x
    go true e = absurd (other (ap (λ (y : ℕ). man_on new y) (eqb-true x t e) ∙ w.here))
    go false e = from (eqb-false x t e) (eqb x s) refl

-- and what is empty after it, but for the square that it left, was empty
emptied : (l new : List ℕ) (s t d x : ℕ) → Moved l new s t d → (d ≡ 0 → ⊥) → (x ≡ s → ⊥) → man_on new x ≡ 0 → man_on l x ≡ 0
emptied l new s t d x w some n z = go (eqb x t) refl
  where
    go : (u : Bool) → eqb x t ≡ u → man_on l x ≡ 0
    go true e = absurd (some (sym w.here ∙ sym (ap (λ (y : ℕ). man_on new y) (eqb-true x t e)) ∙ z))
    go false e = sym (w.rest x n (eqb-false x t e)) ∙ z

-- ---- a line that is clear after the move was clear before it

up_before : (l new : List ℕ) (s t d k stop step n at : ℕ) → Moved l new s t d → (d ≡ 0 → ⊥) → on_line s k ≡ false
    → lined_up_to k stop step n at ≡ true → empty_up_to new stop step n at ≡ true → empty_up_to l stop step n at ≡ true
unfolding lined_up_to empty_up_to
up_before l new s t d k stop step zero at w some off on e = refl
up_before l new s t d k stop step (suc n) at w some off on e =
    go (ltb at stop) on e (up_before l new s t d k stop step n (at + step) w some off)
  where
    Rest : Type 0
    Rest = lined_up_to k stop step n (at + step) ≡ true → empty_up_to new stop step n (at + step) ≡ true → empty_up_to l stop step n (at + step) ≡ true

    empty : on_line at k ≡ true → lined_up_to k stop step n (at + step) ≡ true → (u : Bool) → eqb (man_on new at) 0 ≡ u
        → cond u (empty_up_to new stop step n (at + step)) false ≡ true → Rest
        → cond (eqb (man_on l at) 0) (empty_up_to l stop step n (at + step)) false ≡ true
    empty p q false z f ih = absurd (false≢true f)
    empty p q true z f ih =
        let elsewhere : at ≡ s → ⊥ = λ y. false≢true (sym off ∙ ap (λ (x : ℕ). on_line x k) (sym y) ∙ p) in
        ap (λ (u : Bool). cond u (empty_up_to l stop step n (at + step)) false)
        (eq-eqb (man_on l at) 0 (emptied l new s t d at w some elsewhere (eqb-true (man_on new at) 0 z))) ∙ ih q f

    go : (u : Bool) → cond u (on_line at k && lined_up_to k stop step n (at + step)) true ≡ true
        → cond u (cond (eqb (man_on new at) 0) (empty_up_to new stop step n (at + step)) false) true ≡ true → Rest
        → cond u (cond (eqb (man_on l at) 0) (empty_up_to l stop step n (at + step)) false) true ≡ true
    go true p q ih =
        let rest = lined_up_to k stop step n (at + step) in
        empty (both_left (on_line at k) rest p) (both_right (on_line at k) rest p) (eqb (man_on new at) 0) refl q ih
    go false p q ih = refl

clear_before : (l new : List ℕ) (s t d y k : ℕ) → Moved l new s t d → (d ≡ 0 → ⊥) → on_line s k ≡ false → y < 64 → k < 64
    → on_line y k ≡ true → clear new y k ≡ true → clear l y k ≡ true
unfolding clear
clear_before l new s t d y k w some off h i on e =
    up_before l new s t d k (upper y k) (line_step y k) 6 (lower y k + line_step y k) w some off (between_lined y k h i on) e

-- ---- an attack after the move was one before it

kind_before : (l new : List ℕ) (side kind y k : ℕ) → (on_line y k ≡ true → clear new y k ≡ true → clear l y k ≡ true)
    → kind_attacks new side kind y k ≡ true → kind_attacks l side kind y k ≡ true
unfolding kind_attacks bishop_attacks rook_attacks queen_attacks on_line
kind_before l new side kind y k f =
    cond_mono (eqb kind 1) _ _ _ _ (λ e. e)
    (cond_mono (eqb kind 2) _ _ _ _ (λ e. e)
    (cond_mono (eqb kind 3) _ _ _ _ bishop
    (cond_mono (eqb kind 4) _ _ _ _ rook
    (cond_mono (eqb kind 5) _ _ _ _ (or_mono _ _ _ _ rook bishop) (λ e. e)))))
  where
    straight_lined : file_or_rank y k ≡ true → file_or_rank y k || diagonal y k ≡ true
    straight_lined e = ap (λ (u : Bool). u || diagonal y k) e

    diagonal_lined : diagonal y k ≡ true → file_or_rank y k || diagonal y k ≡ true
    diagonal_lined e = or_mono false (diagonal y k) (file_or_rank y k) (diagonal y k) (λ p. absurd (false≢true p)) (λ p. p) e

    bishop : diagonal y k && clear new y k ≡ true → diagonal y k && clear l y k ≡ true
    bishop = and_mono (diagonal y k) (clear new y k) (diagonal y k) (clear l y k) (λ e. e) (λ p q. f (diagonal_lined p) q)

    rook : file_or_rank y k && clear new y k ≡ true → file_or_rank y k && clear l y k ≡ true
    rook = and_mono (file_or_rank y k) (clear new y k) (file_or_rank y k) (clear l y k) (λ e. e) (λ p q. f (straight_lined p) q)

none_of_side : (side : ℕ) → of_side side 0 ≡ false
unfolding of_side
none_of_side side = go (leb (1 + 6 * side) 0) refl
  where
    go : (u : Bool) → leb (1 + 6 * side) 0 ≡ u → u && leb 0 (6 + 6 * side) ≡ false
    go true e = absurd (omega (arith, leb-true (1 + 6 * side) 0 e))
    go false e = refl

-- a man of a side that is not its king
record Own (side d : ℕ) : Type 0 where
  least : 1 + 6 * side ≤ d
  most : d ≤ 5 + 6 * side

not_other : (side d : ℕ) → side < 2 → Own side d → of_side (1 - side) d ≡ false
unfolding of_side
not_other side d h w = go (leb (1 + 6 * (1 - side)) d) refl (leb d (6 + 6 * (1 - side))) refl
  where
    go : (u : Bool) → leb (1 + 6 * (1 - side)) d ≡ u → (v : Bool) → leb d (6 + 6 * (1 - side)) ≡ v → u && v ≡ false
    go false e v f = refl
    go true e false f = refl
    go true e true f =
        absurd (omega (arith, h, w.least, w.most, leb-true (1 + 6 * (1 - side)) d e, leb-true d (6 + 6 * (1 - side)) f))

attack_before : (l new : List ℕ) (side s t d y k : ℕ) → Moved l new s t d → side < 2 → Own side d → on_line s k ≡ false → y < 64 → k < 64
    → attacks new (1 - side) y k ≡ true → attacks l (1 - side) y k ≡ true
unfolding attacks
attack_before l new side s t d y k w two own off h i e =
    subst (λ (man : ℕ). of_side (1 - side) man && kind_attacks l (1 - side) (kind_of man) y k ≡ true) same
    (and_mono (of_side (1 - side) (man_on new y)) _ (of_side (1 - side) (man_on new y)) _ (λ p. p)
    (λ p q. kind_before l new (1 - side) (kind_of (man_on new y)) y k (clear_before l new s t d y k w some off h i) q) e)
  where
    some : d ≡ 0 → ⊥
    some z = omega (arith, z, own.least)

    theirs : of_side (1 - side) (man_on new y) ≡ true
    theirs = both_left (of_side (1 - side) (man_on new y)) (kind_attacks new (1 - side) (kind_of (man_on new y)) y k) e

    same : man_on new y ≡ man_on l y
    same = stayed l new s t d y w
        (λ z. false≢true (sym (none_of_side (1 - side)) ∙ ap (λ (x : ℕ). of_side (1 - side) x) (sym z) ∙ theirs))
        (λ z. false≢true (sym (not_other side d two own) ∙ ap (λ (x : ℕ). of_side (1 - side) x) (sym z) ∙ theirs))

attacked_before : (l new : List ℕ) (side k n : ℕ) → ((y : ℕ) → y < n → attacks new side y k ≡ true → attacks l side y k ≡ true)
    → attacked_below new side k n ≡ true → attacked_below l side k n ≡ true
unfolding attacked_below
attacked_before l new side k zero f e = e
attacked_before l new side k (suc n) f e =
    or_mono (attacks new side n k) (attacked_below new side k n) (attacks l side n k) (attacked_below l side k n) (f n (omega arith))
    (attacked_before l new side k n (λ y h. f y (omega (arith, h)))) e

check_before : (l new : List ℕ) (side n : ℕ) → ((x : ℕ) → x < n → king_attacked new side x ≡ true → king_attacked l side x ≡ true)
    → in_check_below new side n ≡ true → in_check_below l side n ≡ true
unfolding in_check_below
check_before l new side zero f e = e
check_before l new side (suc n) f e =
    or_mono (king_attacked new side n) (in_check_below new side n) (king_attacked l side n) (in_check_below l side n) (f n (omega arith))
    (check_before l new side n (λ x h. f x (omega (arith, h)))) e

-- the only king of a side, if there is one
abbrev OnlyKing : List ℕ → ℕ → ℕ → Type 0
OnlyKing l side k = (x : ℕ) → x < 64 → man_on l x ≡ 6 + 6 * side → x ≡ k

king_before : (l new : List ℕ) (side s t d k x : ℕ) → Moved l new s t d → side < 2 → Own side d → OnlyKing l side k → on_line s k ≡ false → x < 64
    → king_attacked new side x ≡ true → king_attacked l side x ≡ true
unfolding king_attacked attacked
king_before l new side s t d k x w two own only off h e =
    ap (λ (u : Bool). u && attacked_below l (1 - side) x 64) (eq-eqb (man_on l x) (6 + 6 * side) stood)
    ∙ attacked_before l new (1 - side) x 64 (λ y i. attack_before l new side s t d y x w two own away i h) attacker
  where
    king : man_on new x ≡ 6 + 6 * side
    king = eqb-true (man_on new x) (6 + 6 * side) (both_left (eqb (man_on new x) (6 + 6 * side)) (attacked_below new (1 - side) x 64) e)

    attacker : attacked_below new (1 - side) x 64 ≡ true
    attacker = both_right (eqb (man_on new x) (6 + 6 * side)) (attacked_below new (1 - side) x 64) e

    stood : man_on l x ≡ 6 + 6 * side
    stood = sym (stayed l new s t d x w (λ z. omega (arith, z, king)) (λ z. omega (arith, z, king, own.most))) ∙ king

    away : on_line s x ≡ false
    away = ap (λ (y : ℕ). on_line s y) (only x h stood) ∙ off

-- ---- what a move sets down

own_down : (side man p : ℕ) → side < 2 → Own side man → p ≤ 5 → Own side (set_down man p)
unfolding set_down colour_step
own_down side man p two w h = go (eqb man 0) refl (eqb p 0) refl (leb man 6) refl
  where
    go : (u : Bool) → eqb man 0 ≡ u → (v : Bool) → eqb p 0 ≡ v → (x : Bool) → leb man 6 ≡ x → Own side (cond u 0 (cond v man (p + cond x 0 6)))
    go true e v f x g = absurd (omega (arith, w.least, eqb-true man 0 e))
    go false e true f x g = w
    go false e false f true g =
        let n = eqb-false p 0 f in
        let m = leb-true man 6 g in
        record { least = omega (arith, w.least, w.most, two, m, n); most = omega (arith, w.least, w.most, two, m, h) }
    go false e false f false g =
        let n = eqb-false p 0 f in
        let m = leb-false man 6 g in
        record { least = omega (arith, w.least, w.most, two, m, n); most = omega (arith, w.least, w.most, two, m, h) }

promotion_under : (side kind t p : ℕ) → promotes side kind t p ≡ true → p ≤ 5
unfolding promotes
promotion_under side kind t p e = go (eqb kind 1 && eqb (rank t) (last_rank side)) e
  where
    go : (u : Bool) → cond u (leb 2 p && leb p 5) (eqb p 0) ≡ true → p ≤ 5
    go true q = leb-true p 5 (both_right (leb 2 p) (leb p 5) q)
    go false q = omega (arith, eqb-true p 0 q)

no_king : (side man : ℕ) → side < 2 → Own side man → eqb (kind_of man) 6 ≡ false
unfolding kind_of
no_king side man two w = ne_eqb (kind_of man) 6 (go (leb man 6) refl)
  where
    go : (u : Bool) → leb man 6 ≡ u → cond u man (man - 6) ≡ 6 → ⊥
    go true e q = omega (arith, q, w.least, w.most, two, leb-true man 6 e)
    go false e q = omega (arith, q, w.least, w.most, two, leb-false man 6 e)

plain_after : (l : List ℕ) (side s t p : ℕ) → side < 2 → Own side (man_on l s) → takes_in_passing l (man_on l s) s t ≡ false
    → squares_after l s t p ≡ set (set l s 0) t (set_down (man_on l s) p)
unfolding squares_after rook_moved castles pawn_removed
plain_after l side s t p two w e = simp (no_king side (man_on l s) two w, e)

own_man : (l : List ℕ) (side s k : ℕ) → of_side side (man_on l s) ≡ true → OnlyKing l side k → (s ≡ k → ⊥) → s < 64 → Own side (man_on l s)
unfolding of_side
own_man l side s k e only n h =
    let low = leb-true (1 + 6 * side) (man_on l s) (both_left (leb (1 + 6 * side) (man_on l s)) (leb (man_on l s) (6 + 6 * side)) e) in
    let high = leb-true (man_on l s) (6 + 6 * side) (both_right (leb (1 + 6 * side) (man_on l s)) (leb (man_on l s) (6 + 6 * side)) e) in
    let other : man_on l s ≡ 6 + 6 * side → ⊥ = λ q. n (only s h q) in
    record { least = low; most = omega (arith, high, other) }

-- ---- the law

pub off_lines_safe : (l : List ℕ) (side rights marked s t p k : ℕ) → length l ≡ 64 → side < 2 → s < 64 → t < 64
    → goes l side rights marked s t p ≡ true → in_check l side ≡ false → ((x : ℕ) → x < 64 → man_on l x ≡ 6 + 6 * side → x ≡ k) → (s ≡ k → ⊥)
    → on_line s k ≡ false → takes_in_passing l (man_on l s) s t ≡ false → in_check (squares_after l s t p) side ≡ false
unfolding goes in_check
off_lines_safe l side rights marked s t p k long two h i e calm only n off plain = go (in_check_below (squares_after l s t p) side 64) refl
  where
    man : ℕ
    man = man_on l s

    down : ℕ
    down = set_down man p

    rest : Bool
    rest = promotes side (kind_of man) t p && kind_moves l side rights marked (kind_of man) s t

    mine : of_side side man ≡ true
    mine = both_left (of_side side man) rest e

    small : p ≤ 5
    small = promotion_under side (kind_of man) t p
        (both_left (promotes side (kind_of man) t p) (kind_moves l side rights marked (kind_of man) s t) (both_right (of_side side man) rest e))

    own : Own side man
    own = own_man l side s k mine only n h

    after : squares_after l s t p ≡ set (set l s 0) t down
    after = plain_after l side s t p two own plain

    go : (u : Bool) → in_check_below (squares_after l s t p) side 64 ≡ u → u ≡ false
    go false q = refl
    go true q =
        let new = set (set l s 0) t down in
        let checked : in_check_below new side 64 ≡ true = ap (λ (x : List ℕ). in_check_below x side 64) (sym after) ∙ q in
        let w = moved l s t down long h i in
        let before = check_before l new side 64 (λ x j. king_before l new side s t down k x w two (own_down side man p two own small) only off j) checked in
        absurd (false≢true (sym calm ∙ before))

-- ---- the only king, and the moves that need not be tried out

pub last_turn : (l : List ℕ) (man n : ℕ) → 0 < n → (man_on l (n - 1) ≡ man → ⊥) → last_of l man n ≡ last_of l man (n - 1)
unfolding last_of
last_turn l man zero h e = absurd (omega (arith, h))
last_turn l man (suc n) h e =
    let z : suc n - 1 ≡ n = omega arith in
    ap (λ (u : Bool). cond u n (last_of l man n)) (ne_eqb (man_on l n) man (λ q. e (ap (λ (x : ℕ). man_on l x) z ∙ q)))
    ∙ ap (λ (x : ℕ). last_of l man x) (sym z)

pub last_stop : (l : List ℕ) (man n : ℕ) → 0 < n → man_on l (n - 1) ≡ man → last_of l man n ≡ n - 1
unfolding last_of
last_stop l man zero h e = absurd (omega (arith, h))
last_stop l man (suc n) h e =
    let z : suc n - 1 ≡ n = omega arith in
    ap (λ (u : Bool). cond u n (last_of l man n)) (eq-eqb (man_on l n) man (sym (ap (λ (x : ℕ). man_on l x) z) ∙ e)) ∙ sym z

pub last_end : (l : List ℕ) (man n : ℕ) → n ≤ 0 → last_of l man n ≡ 64
unfolding last_of
last_end l man zero h = refl
last_end l man (suc n) h = absurd (omega (arith, h))

pub last_under : (l : List ℕ) (man n : ℕ) → n ≤ 64 → last_of l man n ≤ 64
unfolding last_of
last_under l man zero h = omega arith
last_under l man (suc n) h = go (eqb (man_on l n) man) (last_under l man n (omega (arith, h)))
  where
    go : (u : Bool) → last_of l man n ≤ 64 → cond u n (last_of l man n) ≤ 64
    go true ih = omega (arith, h)
    go false ih = ih

-- none stands above the last
last_highest : (l : List ℕ) (man n x : ℕ) → x < n → n ≤ 64 → man_on l x ≡ man → (x ≤ last_of l man n) × (last_of l man n < n)
unfolding last_of
last_highest l man zero x h k e = absurd (omega (arith, h))
last_highest l man (suc n) x h k e = go (eqb (man_on l n) man) refl (λ i. last_highest l man n x i (omega (arith, k)) e)
  where
    go : (u : Bool) → eqb (man_on l n) man ≡ u → (x < n → (x ≤ last_of l man n) × (last_of l man n < n))
        → (x ≤ cond u n (last_of l man n)) × (cond u n (last_of l man n) < suc n)
    go true q ih = (omega (arith, h), omega arith)
    go false q ih =
        let other : x ≡ n → ⊥ = λ z. eqb-false (man_on l n) man q (ap (λ (y : ℕ). man_on l y) (sym z) ∙ e) in
        let w = ih (omega (arith, h, other)) in
        (w.0, omega (arith, w.1))

pub calm : (l : List ℕ) (side k r : ℕ) → in_check l side ≡ false → k ≡ last_of l (6 + 6 * side) 64 → r ≡ last_of l (6 + 6 * side) k → 64 ≤ r → k < 64
    → Calm l side k
calm l side k r e p q h i = record { unchecked = e; only = only }
  where
    only : (x : ℕ) → x < 64 → man_on l x ≡ 6 + 6 * side → x ≡ k
    only x j z = go (ltb x k) refl
      where
        high : (x ≤ last_of l (6 + 6 * side) 64) × (last_of l (6 + 6 * side) 64 < 64)
        high = last_highest l (6 + 6 * side) 64 x j (omega arith) z

        go : (u : Bool) → ltb x k ≡ u → x ≡ k
        go true f =
            let w = last_highest l (6 + 6 * side) k x (ltb-true x k f) (omega (arith, i)) z in
            absurd (omega (arith, w.1, q, h, i))
        go false f = omega (arith, high.0, p, ltb-false x k f)

not_so : (a : Bool) → not a ≡ true → a ≡ false
not_so true e = absurd (false≢true e)
not_so false e = refl

-- a king's square, or none, as a number
pub none_past : (o : Option ℕ) → is_some o ≡ false → 64 ≤ unwrap_or o 64
none_past None e = omega arith
none_past (Some k) e = absurd (false≢true (sym e))

pub calm_by : (l : List ℕ) (side : ℕ) (o : Option ℕ) → IfSome o (λ k. (k < 64) × Calm l side k) → unwrap_or o 64 < 64 → Calm l side (unwrap_or o 64)
calm_by l side None h lt = absurd (omega (arith, lt))
calm_by l side (Some k) h lt = h.1

pub safe_untried : (b : BoardBuilder) (m k : ℕ) (squares : List ℕ) (rights : ℕ) → in_range b ≡ true → squares ≡ b.pieces → rights ≡ own_rights b
    → (k < 64 → Calm b.pieces b.side_to_move k)
    → goes squares b.side_to_move rights b.en_passant (m % 64) (m / 64 % 64) (m / 4096) ≡ true
    → keeps_safe squares k (m % 64) (m / 64 % 64) ≡ true → true ≡ is_legal b m
unfolding keeps_safe
safe_untried b m k squares rights r p q quiet g e =
    sym (ap not safe) ∙ gone b m squares rights p q g
  where
    s : ℕ
    s = m % 64

    t : ℕ
    t = m / 64 % 64

    side : ℕ
    side = b.side_to_move

    l : List ℕ
    l = b.pieces

    asked : ltb k 64 && (not (eqb s k) && (not (on_line s k) && not (takes_in_passing l (man_on l s) s t))) ≡ true
    asked = ap (λ (x : List ℕ). ltb k 64 && (not (eqb s k) && (not (on_line s k) && not (takes_in_passing x (man_on x s) s t)))) (sym p) ∙ e

    two : not (eqb s k) && (not (on_line s k) && not (takes_in_passing l (man_on l s) s t)) ≡ true
    two = both_right (ltb k 64) (not (eqb s k) && (not (on_line s k) && not (takes_in_passing l (man_on l s) s t))) asked

    three : not (on_line s k) && not (takes_in_passing l (man_on l s) s t) ≡ true
    three = both_right (not (eqb s k)) (not (on_line s k) && not (takes_in_passing l (man_on l s) s t)) two

    still : Calm l side k
    still = quiet (ltb-true k 64 (both_left (ltb k 64) (not (eqb s k) && (not (on_line s k) && not (takes_in_passing l (man_on l s) s t))) asked))

    goes_so : goes l side rights b.en_passant s t (m / 4096) ≡ true
    goes_so = ap (λ (x : List ℕ). goes x side rights b.en_passant s t (m / 4096)) (sym p) ∙ g

    safe : in_check (squares_after l s t (m / 4096)) side ≡ false
    safe =
        off_lines_safe l side rights b.en_passant s t (m / 4096) k (in_range_lem b r).long (side_under b r) (omega arith) (omega arith) goes_so
        still.unchecked still.only
        (eqb-false s k (not_so (eqb s k) (both_left (not (eqb s k)) (not (on_line s k) && not (takes_in_passing l (man_on l s) s t)) two)))
        (not_so (on_line s k) (both_left (not (on_line s k)) (not (takes_in_passing l (man_on l s) s t)) three))
        (not_so (takes_in_passing l (man_on l s) s t) (both_right (not (on_line s k)) (not (takes_in_passing l (man_on l s) s t)) three))
