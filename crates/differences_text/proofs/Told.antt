-- Which lines there are: the start numbers told are those that differ, in their order; the action told is the first that differs. And the lines of two games
-- the other way round.
-- Assumes nothing.
use mathlib.Core.Path.{◌≡◌, refl, ap, ap₂, sym, ◌∙◌}
use mathlib.Core.Bool.{Bool, true, false, cond}
use mathlib.Core.List.Memᴰ
use mathlib.Core.List.{List, [], ◌∷◌, ◌++◌, map, map-append, Memᴰ}
use mathlib.Core.Logic.{⊎_elim}
use Prim.Native.Nat.{ℕ, zero, suc, ◌+◌, ◌≤◌, ◌<◌}
use native.Mathlib.Nat.{zero-add}
use native.Mathlib.Omega.{arith}
use lib.Dec.{eqb}
use lib.ListN.{length, drop, get_or}
use borrow.Author.Tests.{eq-eqb, ne_eqb, eqb-true, eqb-false, le-leb}
use Rattle.action.specs.Layout.{action_size}
use Rattle.roll_text.specs.Roll.{kind_at, colour_at, move_number_at}
use Rattle.roll_text.proofs.ByFields.{actions_in_range}
use Rattle.roll_text.specs.Roll.{Rolled, refusal, rolled}
use Rattle.differences_text.specs.Differences.{Difference, difference, start_numbers, start_size, start_key, if_differs, start_differences}
use Rattle.differences_text.specs.Differences.{action_numbers, action_key, action_difference}
use Rattle.differences_text.specs.Calls.{differences}
use Rattle.differences_text.specs.Promises.{rising, start_line, StartTold, ActionTold, all_equal, first, swapped}
use Rattle.differences_text.proofs.Numbers.{some_number, first_in_range, rest_in_range}

-- ---- the start

-- the places, from i on, at which two lists differ
unfoldable pub places : ℕ → List ℕ → List ℕ → List ℕ
places i [] ys = []
places i (x ∷ xs) [] = []
places i (x ∷ xs) (y ∷ ys) = cond (eqb x y) (places (suc i) xs ys) (i ∷ places (suc i) xs ys)

places_rise : (least i : ℕ) (xs ys : List ℕ) → least ≤ i → rising least (places i xs ys) ≡ true
unfolding places rising
places_rise least i [] ys h = refl
places_rise least i (x ∷ xs) [] h = refl
places_rise least i (x ∷ xs) (y ∷ ys) h = go (eqb x y) (places_rise least (suc i) xs ys (omega arith)) (places_rise (suc i) (suc i) xs ys (omega arith))
  where
    go : (b : Bool) → rising least (places (suc i) xs ys) ≡ true → rising (suc i) (places (suc i) xs ys) ≡ true
        → rising least (cond b (places (suc i) xs ys) (i ∷ places (suc i) xs ys)) ≡ true
    go true skip next = skip
    go false skip next = simp (le-leb least i h, next)

-- a list is what is left of another from i on
abbrev LeftOf : List ℕ → ℕ → List ℕ → Type 0
LeftOf all i xs = (j : ℕ) → get_or all (i + j) 0 ≡ get_or xs j 0

left_first : (all : List ℕ) (i x : ℕ) (xs : List ℕ) → LeftOf all i (x ∷ xs) → get_or all i 0 ≡ x
left_first all i x xs h = let z : i + 0 ≡ i = omega arith in ap (λ (k : ℕ). get_or all k 0) (sym z) ∙ h 0

left_next : (all : List ℕ) (i x : ℕ) (xs : List ℕ) → LeftOf all i (x ∷ xs) → LeftOf all (suc i) xs
left_next all i x xs h j = let z : suc i + j ≡ i + suc j = omega arith in ap (λ (k : ℕ). get_or all k 0) z ∙ h (suc j)

left_whole : (all : List ℕ) → LeftOf all 0 all
left_whole all j = ap (λ (k : ℕ). get_or all k 0) (zero-add j)

lines_at : (all others : List ℕ) (i : ℕ) (xs ys : List ℕ) → LeftOf all i xs → LeftOf others i ys
    → start_differences i xs ys ≡ map (start_line all others) (places i xs ys)
unfolding start_differences if_differs places
lines_at all others i [] ys h k = refl
lines_at all others i (x ∷ xs) [] h k = refl
lines_at all others i (x ∷ xs) (y ∷ ys) h k = go (eqb x y) (lines_at all others (suc i) xs ys (left_next all i x xs h) (left_next others i y ys k))
  where
    go : (b : Bool) → start_differences (suc i) xs ys ≡ map (start_line all others) (places (suc i) xs ys)
        → cond b [] (difference (start_key i) x y ∷ []) ++ start_differences (suc i) xs ys
        ≡ map (start_line all others) (cond b (places (suc i) xs ys) (i ∷ places (suc i) xs ys))
    go true left = left
    go false left = ap₂ (λ (d : Difference) (ds : List Difference). d ∷ ds) (rw (left_first all i x xs h, left_first others i y ys k)) left

-- what is told of a place: it lies in what is left, and the numbers differ there
record Here (all others : List ℕ) (i long j : ℕ) : Type 0 where
  least : i ≤ j
  most : j < i + long
  differ : get_or all j 0 ≡ get_or others j 0 → ⊥

here_next : (all others : List ℕ) (i long j : ℕ) → Here all others (suc i) long j → Here all others i (suc long) j
here_next all others i long j h = record { least = omega (arith, h.least); most = omega (arith, h.most); differ = h.differ }

each_here : (all others : List ℕ) (i : ℕ) (xs ys : List ℕ) → LeftOf all i xs → LeftOf others i ys → (j : ℕ) → Memᴰ j (places i xs ys)
    → Here all others i (length xs) j
unfolding places
each_here all others i [] ys h k j m = absurd (Memᴰ.not-nil m)
each_here all others i (x ∷ xs) [] h k j m = absurd (Memᴰ.not-nil m)
each_here all others i (x ∷ xs) (y ∷ ys) h k j m =
    go (eqb x y) refl m (each_here all others (suc i) xs ys (left_next all i x xs h) (left_next others i y ys k) j)
  where
    go : (b : Bool) → eqb x y ≡ b → Memᴰ j (cond b (places (suc i) xs ys) (i ∷ places (suc i) xs ys))
        → (Memᴰ j (places (suc i) xs ys) → Here all others (suc i) (length xs) j) → Here all others i (suc (length xs)) j
    go true e m left = here_next all others i (length xs) j (left m)
    go false e m left =
        ⊎_elim
        (λ (z : j ≡ i). record {
          least = omega arith;
          most = omega arith;
          differ = λ w. eqb-false x y e (sym (left_first all i x xs h) ∙ ap (λ (p : ℕ). get_or all p 0) (sym z) ∙ w ∙ ap (λ (p : ℕ). get_or others p 0) z
              ∙ left_first others i y ys k);
        })
        (λ (n : Memᴰ j (places (suc i) xs ys)). here_next all others i (length xs) j (left n))
        (Memᴰ.cases_cons m)

every_here : (all others : List ℕ) (i : ℕ) (xs ys : List ℕ) → LeftOf all i xs → LeftOf others i ys → length xs ≡ length ys → (j : ℕ)
    → i ≤ j → j < i + length xs → (get_or all j 0 ≡ get_or others j 0 → ⊥) → Memᴰ j (places i xs ys)
unfolding places
every_here all others i [] ys h k l j a b d = absurd (omega arith)
every_here all others i (x ∷ xs) [] h k l j a b d = absurd (omega (arith, l))
every_here all others i (x ∷ xs) (y ∷ ys) h k l j a b d =
    go (eqb x y) refl (eqb j i) refl
    (every_here all others (suc i) xs ys (left_next all i x xs h) (left_next others i y ys k) (omega (arith, l)) j)
  where
    go : (p : Bool) → eqb x y ≡ p → (q : Bool) → eqb j i ≡ q
        → (suc i ≤ j → j < suc i + length xs → (get_or all j 0 ≡ get_or others j 0 → ⊥) → Memᴰ j (places (suc i) xs ys))
        → Memᴰ j (cond p (places (suc i) xs ys) (i ∷ places (suc i) xs ys))
    go true e true f left =
        let z : j ≡ i = eqb-true j i f in
        absurd (d (ap (λ (p : ℕ). get_or all p 0) z ∙ left_first all i x xs h ∙ eqb-true x y e ∙ sym (left_first others i y ys k)
        ∙ ap (λ (p : ℕ). get_or others p 0) (sym z)))
    go true e false f left = left (omega (arith, eqb-false j i f)) (omega arith) d
    go false e true f left = Memᴰ.head (eqb-true j i f)
    go false e false f left = Memᴰ.tail (left (omega (arith, eqb-false j i f)) (omega arith) d)

pub start_told : (xs ys : List ℕ) → length xs ≡ start_size → length ys ≡ start_size → StartTold xs ys (places 0 xs ys)
start_told xs ys a b =
    record {
      in_order = places_rise 0 0 xs ys (omega arith);
      each_differs =
          λ i m. let h = each_here xs ys 0 xs ys (left_whole xs) (left_whole ys) i m in
          (omega (arith, h.most, a), h.differ);
      each_that_differs =
          λ i small d. every_here xs ys 0 xs ys (left_whole xs) (left_whole ys) (a ∙ sym b) i (omega arith) (omega (arith, a)) d;
    }

pub start_lines_lem : (xs ys : List ℕ) → start_differences 0 xs ys ≡ map (start_line xs ys) (places 0 xs ys)
start_lines_lem xs ys = lines_at xs ys 0 xs ys (left_whole xs) (left_whole ys)

-- ---- the actions

-- each number is not 0
abbrev pub Some : List ℕ → Type 0
Some xs = (j : ℕ) → j < length xs → 0 < get_or xs j 0

pub some_numbers : (n : ℕ) (bs : List ℕ) → actions_in_range n bs ≡ true → Some (action_numbers n bs)
unfolding action_numbers
some_numbers zero bs e j h = absurd (omega arith)
some_numbers (suc n) bs e zero h = some_number (kind_at bs) (colour_at bs) (move_number_at bs) (first_in_range n bs e)
some_numbers (suc n) bs e (suc j) h = some_numbers n (drop action_size bs) (rest_in_range n bs e) j (omega arith)

-- two lists that agree below i, and what is left of them from there on
record Agreed (all others : List ℕ) (i : ℕ) (xs ys : List ℕ) : Type 0 where
  before : (j : ℕ) → j < i → get_or all j 0 ≡ get_or others j 0
  first_left : LeftOf all i xs
  second_left : LeftOf others i ys
  then_equal : xs ≡ ys → all ≡ others

one_more_lem : (all others : List ℕ) (i : ℕ) → ((j : ℕ) → j < i → get_or all j 0 ≡ get_or others j 0) → get_or all i 0 ≡ get_or others i 0
    → (j : ℕ) → j < suc i → get_or all j 0 ≡ get_or others j 0
one_more_lem all others i before here j h = go (eqb j i) refl
  where
    go : (b : Bool) → eqb j i ≡ b → get_or all j 0 ≡ get_or others j 0
    go true e = let z : j ≡ i = eqb-true j i e in rw z here
    go false e = before j (omega (arith, eqb-false j i e))

agreed_next : (all others : List ℕ) (i x : ℕ) (xs : List ℕ) (y : ℕ) (ys : List ℕ) → Agreed all others i (x ∷ xs) (y ∷ ys) → x ≡ y
    → Agreed all others (suc i) xs ys
agreed_next all others i x xs y ys a e =
    record {
      before = one_more_lem all others i a.before (left_first all i x xs a.first_left ∙ e ∙ sym (left_first others i y ys a.second_left));
      first_left = left_next all i x xs a.first_left;
      second_left = left_next others i y ys a.second_left;
      then_equal = λ z. a.then_equal (ap₂ ◌∷◌ e z);
    }

-- the line of place i
told_here : (all others : List ℕ) (i x y : ℕ) → ((j : ℕ) → j < i → get_or all j 0 ≡ get_or others j 0) → get_or all i 0 ≡ x → get_or others i 0 ≡ y
    → (x ≡ y → ⊥)
    → ActionTold all others (difference (action_key i) x y ∷ [])
told_here all others i x y before e f d = rw (← e, ← f) (first i before (λ w. d (sym e ∙ w ∙ f)))

action_told : (all others : List ℕ) (i : ℕ) (xs ys : List ℕ) → Agreed all others i xs ys → Some xs → Some ys
    → ActionTold all others (action_difference i xs ys)
unfolding action_difference
action_told all others i [] [] a p q = all_equal (a.then_equal refl)
action_told all others i [] (y ∷ ys) a p q =
    told_here all others i 0 y a.before (let z : i + 0 ≡ i = omega arith in ap (λ (k : ℕ). get_or all k 0) (sym z) ∙ a.first_left 0)
    (left_first others i y ys a.second_left) (λ e. omega (arith, q 0 (omega arith)))
action_told all others i (x ∷ xs) [] a p q =
    told_here all others i x 0 a.before (left_first all i x xs a.first_left)
    (let z : i + 0 ≡ i = omega arith in ap (λ (k : ℕ). get_or others k 0) (sym z) ∙ a.second_left 0) (λ e. omega (arith, p 0 (omega arith)))
action_told all others i (x ∷ xs) (y ∷ ys) a p q =
    go (eqb x y) refl (λ e. action_told all others (suc i) xs ys (agreed_next all others i x xs y ys a e) (λ j h. p (suc j) (omega arith))
    (λ j h. q (suc j) (omega arith)))
  where
    go : (b : Bool) → eqb x y ≡ b → (x ≡ y → ActionTold all others (action_difference (suc i) xs ys))
        → ActionTold all others (cond b (action_difference (suc i) xs ys) (difference (action_key i) x y ∷ []))
    go true e left = left (eqb-true x y e)
    go false e left =
        told_here all others i x y a.before (left_first all i x xs a.first_left) (left_first others i y ys a.second_left) (eqb-false x y e)

pub actions_told : (xs ys : List ℕ) → Some xs → Some ys → ActionTold xs ys (action_difference 0 xs ys)
actions_told xs ys p q =
    action_told xs ys 0 xs ys
    (record { before = λ j h. absurd (omega arith); first_left = left_whole xs; second_left = left_whole ys; then_equal = λ e. e }) p q

-- ---- the other way round

same_test : (x y : ℕ) → eqb y x ≡ eqb x y
same_test x y = go (eqb x y) refl
  where
    go : (b : Bool) → eqb x y ≡ b → eqb y x ≡ eqb x y
    go true e = rw e (eq-eqb y x (sym (eqb-true x y e)))
    go false e = rw e (ne_eqb y x (λ z. eqb-false x y e (sym z)))

swap_start : (i : ℕ) (xs ys : List ℕ) → start_differences i ys xs ≡ map swapped (start_differences i xs ys)
unfolding start_differences if_differs
swap_start i [] [] = refl
swap_start i [] (y ∷ ys) = refl
swap_start i (x ∷ xs) [] = refl
swap_start i (x ∷ xs) (y ∷ ys) = rw (same_test x y) (go (eqb x y) (swap_start (suc i) xs ys))
  where
    go : (b : Bool) → start_differences (suc i) ys xs ≡ map swapped (start_differences (suc i) xs ys)
        → cond b [] (difference (start_key i) y x ∷ []) ++ start_differences (suc i) ys xs
        ≡ map swapped (cond b [] (difference (start_key i) x y ∷ []) ++ start_differences (suc i) xs ys)
    go true left = left
    go false left = ap (λ (ds : List Difference). difference (start_key i) y x ∷ ds) left

swap_action : (i : ℕ) (xs ys : List ℕ) → action_difference i ys xs ≡ map swapped (action_difference i xs ys)
unfolding action_difference
swap_action i [] [] = refl
swap_action i [] (y ∷ ys) = refl
swap_action i (x ∷ xs) [] = refl
swap_action i (x ∷ xs) (y ∷ ys) = rw (same_test x y) (go (eqb x y) (swap_action (suc i) xs ys))
  where
    go : (b : Bool) → action_difference (suc i) ys xs ≡ map swapped (action_difference (suc i) xs ys)
        → cond b (action_difference (suc i) ys xs) (difference (action_key i) y x ∷ [])
        ≡ map swapped (cond b (action_difference (suc i) xs ys) (difference (action_key i) x y ∷ []))
    go true left = left
    go false left = refl

pub swap_games : (x y : Rolled) → differences y x ≡ map swapped (differences x y)
unfolding differences
swap_games (refusal k) (refusal l) = refl
swap_games (refusal k) (rolled other m cs) = refl
swap_games (rolled st n bs) (refusal l) = refl
swap_games (rolled st n bs) (rolled other m cs) =
    let xs = start_numbers st in
    let ys = start_numbers other in
    ap₂ (λ (ds es : List Difference). ds ++ es) (swap_start 0 xs ys) (swap_action 0 (action_numbers n bs) (action_numbers m cs))
    ∙ sym (map-append swapped (start_differences 0 xs ys) (action_difference 0 (action_numbers n bs) (action_numbers m cs)))
