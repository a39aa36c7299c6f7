-- Laws of gathering: one number after the other; and what is in the room at the end.
-- Assumes nothing.
use mathlib.Core.Path.{◌≡◌, refl, ap, sym, ◌∙◌}
use mathlib.Core.Bool.{Bool, true, false, cond}
use mathlib.Core.List.{List, [], ◌∷◌, ◌++◌, append-nil, append_assoc}
use Prim.Native.Nat.{ℕ, zero, suc, ◌+◌, ◌-◌, ◌≤◌, ◌<◌}
use native.Mathlib.Omega.{arith}
use native.Mathlib.Numerals.{add-one}
use lib.Dec.{leb}
use lib.ListN.{length, take, set, length-set}
use lib.Seq.{take-suc-set}
use borrow.Author.Tests.{le-leb, lt-leb, leb-false}
use Rattle.board_builder.specs.declared.BoardBuilder.{BoardBuilder}
use Rattle.move_laws.specs.Legal.{is_legal, kept_if, legal_from, legal_moves}
use Rattle.legal.specs.CodeList.{counted_to, put_at, count_from, filled_from}

legal_next : (b : BoardBuilder) (n m : ℕ) → 0 < n → legal_from b n m ≡ kept_if (is_legal b m) m (legal_from b (n - 1) (m + 1))
unfolding legal_from
legal_next b zero m h = absurd (omega (arith, h))
legal_next b (suc n) m h =
    let z : n ≡ suc n - 1 = omega arith in
    ap (λ (x : ℕ). kept_if (is_legal b m) m (legal_from b x (m + 1))) z

pub legal_turn : (b : BoardBuilder) (all m : ℕ) → m < all
    → legal_from b (all - m) m ≡ kept_if (is_legal b m) m (legal_from b (all - (m + 1)) (m + 1))
legal_turn b all m h =
    let k : 0 < all - m = omega (arith, h) in
    let z : all - m - 1 ≡ all - (m + 1) = omega (arith, h) in
    legal_next b (all - m) m k ∙ ap (λ (x : ℕ). kept_if (is_legal b m) m (legal_from b x (m + 1))) z

none_left_lem : (b : BoardBuilder) (n m : ℕ) → n ≤ 0 → legal_from b n m ≡ []
unfolding legal_from
none_left_lem b zero m k = refl
none_left_lem b (suc n) m k = absurd (omega (arith, k))

pub legal_end : (b : BoardBuilder) (all m : ℕ) → all ≤ m → legal_from b (all - m) m ≡ []
legal_end b all m h = none_left_lem b (all - m) m (omega (arith, h))

pub count_turn : (count m : ℕ) (rest : List ℕ) (t : Bool) → count_from count (kept_if t m rest) ≡ count_from (cond t (counted_to count) count) rest
unfolding count_from kept_if
count_turn count m rest true = refl
count_turn count m rest false = refl

pub room_turn : (room : List ℕ) (count m : ℕ) (rest : List ℕ) (t : Bool)
    → filled_from room count (kept_if t m rest) ≡ filled_from (cond t (put_at room count m) room) (cond t (counted_to count) count) rest
unfolding filled_from kept_if
room_turn room count m rest true = refl
room_turn room count m rest false = refl

-- the number stays under 257
pub counted_under : (count : ℕ) (t : Bool) → count < 257 → cond t (counted_to count) count < 257
unfolding counted_to
counted_under count false h = h
counted_under count true h = go (leb 255 count) refl
  where
    go : (u : Bool) → leb 255 count ≡ u → cond u 256 (count + 1) < 257
    go true e = omega arith
    go false e = omega (arith, leb-false 255 count e)

-- with room for all, the number is the length, and the front of the room is the list
pub count_fits : (count : ℕ) (xs : List ℕ) → count + length xs ≤ 255 → count_from count xs ≡ count + length xs
unfolding count_from counted_to
count_fits count [] h = omega arith
count_fits count (x ∷ xs) h =
    let k : count < 255 = omega (arith, h) in
    let l : (count + 1) + length xs ≤ 255 = omega (arith, h) in
    let z : (count + 1) + length xs ≡ count + length (x ∷ xs) = omega arith in
    ap (λ (n : ℕ). count_from n xs) (ap (λ (u : Bool). cond u 256 (count + 1)) (lt-leb 255 count k)) ∙ count_fits (count + 1) xs l ∙ z

count_stays : (count : ℕ) (xs : List ℕ) → 255 < count → count ≤ 256 → count_from count xs ≡ 256
unfolding count_from counted_to
count_stays count [] h k = omega (arith, h, k)
count_stays count (x ∷ xs) h k =
    let l : 255 ≤ count = omega (arith, h) in
    ap (λ (n : ℕ). count_from n xs) (ap (λ (u : Bool). cond u 256 (count + 1)) (le-leb 255 count l)) ∙ count_stays 256 xs (omega arith) (omega arith)

pub count_over : (count : ℕ) (xs : List ℕ) → count ≤ 255 → 255 < count + length xs → count_from count xs ≡ 256
unfolding count_from counted_to
count_over count [] h k = absurd (omega (arith, h, k))
count_over count (x ∷ xs) h k = go (leb 255 count) refl (count_over (count + 1) xs)
  where
    go : (u : Bool) → leb 255 count ≡ u → (count + 1 ≤ 255 → 255 < count + 1 + length xs → count_from (count + 1) xs ≡ 256)
        → count_from (cond u 256 (count + 1)) xs ≡ 256
    go true e ih = count_stays 256 xs (omega arith) (omega arith)
    go false e ih = ih (omega (arith, leb-false 255 count e)) (omega (arith, k))

room_whole : (room : List ℕ) (count : ℕ) → take (count + 0) room ≡ take count room ++ []
room_whole room count =
    let z : count + 0 ≡ count = omega arith in
    ap (λ (n : ℕ). take n room) z ∙ sym (append-nil (take count room))

one_more_lem : (room : List ℕ) (count x : ℕ) (xs : List ℕ) → count < length room
    → take (count + 1) (set room count x) ++ xs ≡ take count room ++ (x ∷ xs)
one_more_lem room count x xs h =
    ap (λ (l : List ℕ). l ++ xs) (ap (λ (n : ℕ). take n (set room count x)) (add-one count) ∙ take-suc-set room count x h)
    ∙ append_assoc (take count room) (x ∷ []) xs

pub room_front : (room : List ℕ) (count : ℕ) (xs : List ℕ) → length room ≡ 255 → count + length xs ≤ 255
    → take (count + length xs) (filled_from room count xs) ≡ take count room ++ xs
unfolding filled_from counted_to put_at
room_front room count [] r h = room_whole room count
room_front room count (x ∷ xs) r h =
    let k : count < 255 = omega (arith, h) in
    let l : (count + 1) + length xs ≤ 255 = omega (arith, h) in
    let z : count + length (x ∷ xs) ≡ (count + 1) + length xs = omega arith in
    let e = lt-leb 255 count k in
    ap (λ (n : ℕ). take n (filled_from (cond (leb 255 count) room (set room count x)) (cond (leb 255 count) 256 (count + 1)) xs)) z
    ∙ ap (λ (u : Bool). take (count + 1 + length xs) (filled_from (cond u room (set room count x)) (cond u 256 (count + 1)) xs)) e
    ∙ room_front (set room count x) (count + 1) xs (length-set room count x ∙ r) l
    ∙ one_more_lem room count x xs (omega (arith, r, k))

-- one turn of the gathering: a number is asked, and kept if it is legal
pub count_step : (b : BoardBuilder) (all count m : ℕ) (t : Bool) (r x : ℕ) → m < all → t ≡ is_legal b m → r ≡ cond t (counted_to count) count
    → x ≡ count_from count (legal_from b (all - m) m) → x ≡ count_from r (legal_from b (all - (m + 1)) (m + 1))
count_step b all count m t r x h p q e =
    let rest = legal_from b (all - (m + 1)) (m + 1) in
    e
    ∙ ap (λ (l : List ℕ). count_from count l) (legal_turn b all m h)
    ∙ count_turn count m rest (is_legal b m)
    ∙ ap (λ (u : Bool). count_from (cond u (counted_to count) count) rest) (sym p)
    ∙ ap (λ (n : ℕ). count_from n rest) (sym q)

pub room_step : (b : BoardBuilder) (all : ℕ) (room : List ℕ) (count m : ℕ) (t : Bool) (r : ℕ) (next x : List ℕ) → m < all → t ≡ is_legal b m
    → r ≡ cond t (counted_to count) count → next ≡ cond t (put_at room count m) room
    → x ≡ filled_from room count (legal_from b (all - m) m) → x ≡ filled_from next r (legal_from b (all - (m + 1)) (m + 1))
room_step b all room count m t r next x h p q n e =
    let rest = legal_from b (all - (m + 1)) (m + 1) in
    e
    ∙ ap (λ (l : List ℕ). filled_from room count l) (legal_turn b all m h)
    ∙ room_turn room count m rest (is_legal b m)
    ∙ ap (λ (u : Bool). filled_from (cond u (put_at room count m) room) (cond u (counted_to count) count) rest) (sym p)
    ∙ ap (λ (k : ℕ). filled_from (cond t (put_at room count m) room) k rest) (sym q)
    ∙ ap (λ (l : List ℕ). filled_from l r rest) (sym n)

pub count_last : (b : BoardBuilder) (all count m x : ℕ) → all ≤ m → x ≡ count_from count (legal_from b (all - m) m) → count ≡ x
unfolding count_from
count_last b all count m x h e = sym (e ∙ ap (λ (l : List ℕ). count_from count l) (legal_end b all m h))

pub room_last : (b : BoardBuilder) (all : ℕ) (room : List ℕ) (count m : ℕ) (x : List ℕ) → all ≤ m
    → x ≡ filled_from room count (legal_from b (all - m) m) → room ≡ x
unfolding filled_from
room_last b all room count m x h e = sym (e ∙ ap (λ (l : List ℕ). filled_from room count l) (legal_end b all m h))

pub count_start : (b : BoardBuilder) (all : ℕ) → legal_from b all 0 ≡ legal_moves b → count_from 0 (legal_moves b) ≡ count_from 0 (legal_from b (all - 0) 0)
count_start b all e =
    let z : all ≡ all - 0 = omega arith in
    ap (λ (l : List ℕ). count_from 0 l) (sym e ∙ ap (λ (n : ℕ). legal_from b n 0) z)

pub room_start : (b : BoardBuilder) (room : List ℕ) (all : ℕ) → legal_from b all 0 ≡ legal_moves b
    → filled_from room 0 (legal_moves b) ≡ filled_from room 0 (legal_from b (all - 0) 0)
room_start b room all e =
    let z : all ≡ all - 0 = omega arith in
    ap (λ (l : List ℕ). filled_from room 0 l) (sym e ∙ ap (λ (n : ℕ). legal_from b n 0) z)
