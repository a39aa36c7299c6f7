-- Laws of lines: the first ends at the first newline or with the text, and those past it follow; how many there are; a page and one behind it.
-- Assumes nothing.
use mathlib.Core.Path.{◌≡◌, refl, sym, ap, ◌∙◌}
use mathlib.Core.Bool.{Bool, true, false, cond}
use mathlib.Core.List.{List, [], ◌∷◌, ◌++◌, append_assoc}
use Prim.Native.Nat.{ℕ, zero, suc, ◌+◌, ◌*◌, ◌-◌, ◌≤◌, ◌<◌}
use native.Mathlib.Nat.{mul-suc}
use native.Mathlib.Numerals.{add-one}
use native.Mathlib.Omega.{arith}
use lib.Dec.{eqb}
use lib.ListN.{length, get_or, take, drop, drop_of_length-le, length-append, length-drop, take-append-drop}
use lib.Seq.{drop-cons, drop-drop}
use Rattle.answer.specs.Numbers.{among}
use Rattle.answer.proofs.Numbers.{or_left, or_right}
use Rattle.fen_text.specs.Token.{place_after, place_where, place_of, onto, joined}
use Rattle.fen_text.proofs.Cases.{cond_both}
use Rattle.fen_text.specs.Lines.{line_feed, lines, onto_ended, ended_lines_by, ended_lines, over_lines}

-- ---- the first line, and those past it

next_line : (t : Bool) (x : ℕ) (s : List ℕ)
    → (0 < length s → lines s ≡ take (place_of line_feed s) s ∷ lines (drop (suc (place_of line_feed s)) s))
    → joined t x (lines s)
    ≡ take (place_after t (place_of line_feed s)) (x ∷ s) ∷ lines (drop (suc (place_after t (place_of line_feed s))) (x ∷ s))
unfolding place_after place_where joined onto lines
next_line true x s f = refl
next_line false x [] f = refl
next_line false x (y ∷ s) f = ap (onto x) (f (omega arith))

pub lines_next : (s : List ℕ) → 0 < length s → lines s ≡ take (place_of line_feed s) s ∷ lines (drop (suc (place_of line_feed s)) s)
unfolding place_where lines
lines_next [] h = absurd (omega arith)
lines_next (x ∷ s) h = next_line (eqb x line_feed) x s (lines_next s)

-- the same for what is left of a text from a place on
pub lines_from : (s : List ℕ) (at end : ℕ) → at < length s → end ≡ at + place_of line_feed (drop at s)
    → lines (drop at s) ≡ take (place_of line_feed (drop at s)) (drop at s) ∷ lines (drop (end + 1) s)
lines_from s at end h e =
    let p : ℕ = place_of line_feed (drop at s) in
    let n : at + suc p ≡ end + 1 = omega arith in
    let past : drop (suc p) (drop at s) ≡ drop (end + 1) s = drop-drop (suc p) at s ∙ ap (λ (k : ℕ). drop k s) n in
    lines_next (drop at s) (rw (length-drop at s) (omega arith)) ∙ ap (λ (l : List ℕ). take p (drop at s) ∷ lines l) past

-- those that a newline ends: the first of them, or none
ended_step : (t : Bool) (x k : ℕ) (s : List ℕ)
    → (k < length s → ended_lines s ≡ take k s ∷ ended_lines (drop (suc k) s))
    → place_after t k < suc (length s)
    → ended_lines_by t x (ended_lines s) ≡ take (place_after t k) (x ∷ s) ∷ ended_lines (drop (suc (place_after t k)) (x ∷ s))
unfolding place_after ended_lines_by onto_ended
ended_step true x k s f h = refl
ended_step false x k s f h = ap (onto_ended x) (f (omega arith))

pub ended_next : (s : List ℕ) → place_of line_feed s < length s
    → ended_lines s ≡ take (place_of line_feed s) s ∷ ended_lines (drop (suc (place_of line_feed s)) s)
unfolding place_where ended_lines
ended_next [] h = absurd (omega arith)
ended_next (x ∷ s) h = ended_step (eqb x line_feed) x (place_of line_feed s) s (ended_next s) h

none_step : (t : Bool) (x k n : ℕ) (ls : List (List ℕ)) → (n ≤ k → ls ≡ []) → suc n ≤ place_after t k → ended_lines_by t x ls ≡ []
unfolding place_after ended_lines_by onto_ended
none_step true x k n ls f h = absurd (omega arith)
none_step false x k n ls f h = ap (onto_ended x) (f (omega arith))

pub ended_none : (s : List ℕ) → length s ≤ place_of line_feed s → ended_lines s ≡ []
unfolding place_where ended_lines
ended_none [] h = refl
ended_none (x ∷ s) h = none_step (eqb x line_feed) x (place_of line_feed s) (length s) (ended_lines s) (ended_none s) h

-- ---- how many: those that are ended, counted from the front, and one more if the last byte is not a newline

length_ended : (t : Bool) (x : ℕ) (ls : List (List ℕ)) → length (ended_lines_by t x ls) ≡ cond t 1 0 + length ls
unfolding ended_lines_by onto_ended
length_ended true x ls = omega arith
length_ended false x [] = refl
length_ended false x (l ∷ ls) = omega arith

pub ended_turn : (s : List ℕ) (i : ℕ) → i < length s
    → length (ended_lines (drop i s)) ≡ cond (eqb (get_or s i 0) line_feed) 1 0 + length (ended_lines (drop (i + 1) s))
unfolding ended_lines
ended_turn s i h = rw (add-one i, drop-cons s i 0 h) (length_ended (eqb (get_or s i 0) line_feed) (get_or s i 0) (ended_lines (drop (suc i) s)))

pub ended_end : (s : List ℕ) (i : ℕ) → length s ≤ i → length (ended_lines (drop i s)) ≡ 0
unfolding ended_lines
ended_end s i h = rw (drop_of_length-le s h)

-- for two texts one after the other, and for a text taken in parts
ended_both : (a b : List ℕ) → length (ended_lines (a ++ b)) ≡ length (ended_lines a) + length (ended_lines b)
unfolding ended_lines
ended_both [] b = omega arith
ended_both (x ∷ a) b =
    length_ended (eqb x line_feed) x (ended_lines (a ++ b))
    ∙ omega (arith, ended_both a b, length_ended (eqb x line_feed) x (ended_lines a))

pub ended_parts : (s : List ℕ) (i n : ℕ) → length (ended_lines (drop i s)) ≡ length (ended_lines (take n (drop i s))) + length (ended_lines (drop (i + n) s))
ended_parts s i n =
    ap (λ (l : List ℕ). length (ended_lines l)) (sym (take-append-drop n (drop i s)))
    ∙ ended_both (take n (drop i s)) (drop n (drop i s))
    ∙ ap (λ (l : List ℕ). length (ended_lines (take n (drop i s))) + length (ended_lines l)) (drop-drop n i s)

last_one : (t : Bool) (x : ℕ) → length (joined t x []) ≡ length (ended_lines_by t x []) + cond t 0 1
unfolding joined onto ended_lines_by onto_ended
last_one true x = refl
last_one false x = refl

-- a line that is there is joined, and none is added
joined_more : (t : Bool) (x n : ℕ) (ls es : List (List ℕ)) → 0 < length ls → length ls ≡ length es + n
    → length (joined t x ls) ≡ length (ended_lines_by t x es) + n
unfolding joined onto
joined_more true x n ls es h e = let z : length (ended_lines_by true x es) ≡ 1 + length es = length_ended true x es in omega arith
joined_more false x n [] es h e = absurd (omega arith)
joined_more false x n (l ∷ ls) es h e = let z : length (ended_lines_by false x es) ≡ 0 + length es = length_ended false x es in omega arith

some_lines : (s : List ℕ) → 0 < length s → 0 < length (lines s)
some_lines s h = let e = ap length (lines_next s h) in omega (arith, e)

pub count_lines_lem : (x : ℕ) (s : List ℕ) → length (lines (x ∷ s)) ≡ length (ended_lines (x ∷ s)) + cond (eqb (get_or (x ∷ s) (length s) 0) line_feed) 0 1
unfolding lines ended_lines
count_lines_lem x [] = last_one (eqb x line_feed) x
count_lines_lem x (y ∷ s) =
    joined_more (eqb x line_feed) x (cond (eqb (get_or (y ∷ s) (length s) 0) line_feed) 0 1) (lines (y ∷ s)) (ended_lines (y ∷ s))
    (some_lines (y ∷ s) (omega arith))
    (count_lines_lem y s)

-- no more of them than bytes
at_most_one : (t : Bool) (x n : ℕ) (ls : List (List ℕ)) → length ls ≤ n → length (joined t x ls) ≤ suc n
unfolding joined onto
at_most_one true x n ls h = omega arith
at_most_one false x n [] h = omega arith
at_most_one false x n (l ∷ ls) h = omega arith

pub lines_at_most : (s : List ℕ) → length (lines s) ≤ length s
unfolding lines
lines_at_most [] = omega arith
lines_at_most (x ∷ s) = at_most_one (eqb x line_feed) x (length s) (lines s) (lines_at_most s)

-- the same for a text that is not empty, by its last byte
pub count_by_last : (s : List ℕ) → 0 < length s → length (lines s) ≡ length (ended_lines s) + cond (eqb (get_or s (length s - 1) 0) line_feed) 0 1
count_by_last [] h = absurd (omega arith)
count_by_last (x ∷ s) h =
    let e : length s ≡ suc (length s) - 1 = omega arith in
    rw (← e) (count_lines_lem x s)

pub ended_at_most : (s : List ℕ) → length (ended_lines s) ≤ length s
unfolding ended_lines
ended_at_most [] = omega arith
ended_at_most (x ∷ s) =
    let one : cond (eqb x line_feed) 1 0 ≤ 1 = cond_both (λ (n : ℕ). n ≤ 1) (eqb x line_feed) (omega arith) (omega arith) in
    omega (arith, length_ended (eqb x line_feed) x (ended_lines s), ended_at_most s)

-- ---- the first newline, looked for by blocks

place_step : (t : Bool) (k n : ℕ) → k ≤ n → place_after t k ≤ suc n
unfolding place_after
place_step true k n h = omega arith
place_step false k n h = omega arith

pub place_at_most : (b : ℕ) (s : List ℕ) → place_of b s ≤ length s
unfolding place_where
place_at_most b [] = omega arith
place_at_most b (x ∷ s) = place_step (eqb x b) (place_of b s) (length s) (place_at_most b s)

front_step : (t : Bool) (k n left : ℕ) → t ≡ false → k ≡ n + left → place_after t k ≡ suc n + left
unfolding place_after
front_step true k n left e f = let w : ◌≡◌ {A = ℕ} 0 1 = cc in absurd (omega arith)
front_step false k n left e f = omega arith

-- a block that has none is passed over
pub none_in_front : (b : ℕ) (s : List ℕ) (n : ℕ) → n ≤ length s → among b (take n s) ≡ false → place_of b s ≡ n + place_of b (drop n s)
unfolding place_where among
none_in_front b s zero h e = omega arith
none_in_front b [] (suc n) h e = absurd (omega arith)
none_in_front b (x ∷ s) (suc n) h e =
    front_step (eqb x b) (place_of b s) n (place_of b (drop n s)) (or_left (eqb x b) (among b (take n s)) e)
    (none_in_front b s n (omega arith) (or_right (eqb x b) (among b (take n s)) e))

-- ---- what is said about each line, all of one length

pub length_over : (f : List ℕ → List ℕ) (size : ℕ) → ((l : List ℕ) → length (f l) ≡ size) → (ls : List (List ℕ)) → length (over_lines f ls) ≡ size * length ls
unfolding over_lines
length_over f size h [] = omega arith
length_over f size h (l ∷ ls) =
    length-append (f l) (over_lines f ls) ∙ let m = mul-suc size (length ls) in omega (arith, m, h l, length_over f size h ls)

pub over_append : (f : List ℕ → List ℕ) (xs ys : List (List ℕ)) → over_lines f (xs ++ ys) ≡ over_lines f xs ++ over_lines f ys
unfolding over_lines
over_append f [] ys = refl
over_append f (x ∷ xs) ys = ap (λ (l : List ℕ). f x ++ l) (over_append f xs ys) ∙ sym (append_assoc (f x) (over_lines f xs) (over_lines f ys))

-- ---- a page that a newline ends, and one behind it

behind_step : (t : Bool) (x : ℕ) (xs ys : List (List ℕ)) → 0 < length xs → joined t x (xs ++ ys) ≡ joined t x xs ++ ys
unfolding joined onto
behind_step true x xs ys h = refl
behind_step false x [] ys h = absurd (omega arith)
behind_step false x (l ∷ xs) ys h = refl

pub lines_behind : (front b : List ℕ) → lines ((front ++ (line_feed ∷ [])) ++ b) ≡ lines (front ++ (line_feed ∷ [])) ++ lines b
unfolding lines joined
lines_behind [] b = refl
lines_behind (x ∷ s) b =
    let some : 0 < length (lines (s ++ (line_feed ∷ []))) = some_lines (s ++ (line_feed ∷ [])) (rw (length-append s (line_feed ∷ [])) (omega arith)) in
    ap (joined (eqb x line_feed) x) (lines_behind s b) ∙ behind_step (eqb x line_feed) x (lines (s ++ (line_feed ∷ []))) (lines b) some
