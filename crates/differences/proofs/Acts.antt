-- The search for the first action that differs, over two texts of actions.
-- Assumes nothing.
use mathlib.Core.Path.{◌≡◌, refl, subst, sym, ap, ap₂, ◌∙◌}
use mathlib.Core.Bool.{Bool, true, false}
use mathlib.Core.List.{List, [], ◌∷◌, ◌++◌, append-nil}
use Prim.Native.Nat.{ℕ, suc, ◌+◌, ◌*◌, ◌-◌, ◌≤◌, ◌<◌}
use native.Mathlib.Omega.{arith}
use lib.Dec.{eqb, ltb}
use lib.ListN.{length, drop}
use lib.Seq.{drop-drop}
use borrow.Author.Tests.{eq-eqb, ne_eqb, eqb-true}
use Rattle.std.specs.Prelude.{Option, Some, None}
use Rattle.answer.specs.Numbers.{number_at}
use Rattle.differences_text.specs.Differences.{Difference, difference, action_key, action_difference, line_text, lines_text}
use Rattle.differences.specs.CodeEntries.{entry_size, entry_number, same_entry, text_numbers}
use Rattle.differences.specs.CodeTexts.{action_line}

-- ---- actions that are the same byte for byte

pub record SameHere (l m : List ℕ) (k : ℕ) : Type 0 where
  pub numbers : entry_number l ≡ entry_number m
  pub first : entry_size l ≡ k
  pub second : entry_size m ≡ k

some_is : {k j : ℕ} → ◌≡◌ {A = Option ℕ} (Some k) (Some j) → k ≡ j
some_is e = cc

some_not_none : {k : ℕ} → ◌≡◌ {A = Option ℕ} (Some k) None → ⊥
some_not_none e = let z : ◌≡◌ {A = ℕ} 0 1 = cc in omega arith

pub same_here : (l m : List ℕ) (k : ℕ) → Some k ≡ same_entry l m → SameHere l m k
unfolding same_entry entry_number entry_size
same_here l m k e = code (eqb (number_at l 0) (number_at m 0)) refl
  where
    four : (a : number_at l 0 ≡ number_at m 0) → eqb (number_at l 0) 2 ≡ true → (b : number_at l 1 ≡ number_at m 1) → ltb (number_at l 1) 128 ≡ false
        → (c : number_at l 2 ≡ number_at m 2) → ltb (number_at l 2) 128 ≡ false → (t : Bool) → eqb (number_at l 3) (number_at m 3) ≡ t → SameHere l m k
    four a p b q c s true f =
        let d : number_at l 3 ≡ number_at m 3 = eqb-true _ _ f in
        let z : k ≡ 4 = some_is (e ∙ simp (eq-eqb _ _ a, p, eq-eqb _ _ b, q, eq-eqb _ _ c, s, f)) in
        record { numbers = simp (a, b, c, d); first = simp (p, q, s) (sym z); second = simp (← a, ← b, ← c) (simp (p, q, s) (sym z)) }
    four a p b q c s false f = absurd (some_not_none (e ∙ simp (eq-eqb _ _ a, p, eq-eqb _ _ b, q, eq-eqb _ _ c, s, f)))

    three : (a : number_at l 0 ≡ number_at m 0) → eqb (number_at l 0) 2 ≡ true → (b : number_at l 1 ≡ number_at m 1) → ltb (number_at l 1) 128 ≡ false
        → (t : Bool) → eqb (number_at l 2) (number_at m 2) ≡ t → (u : Bool) → ltb (number_at l 2) 128 ≡ u → SameHere l m k
    three a p b q true f true s =
        let c : number_at l 2 ≡ number_at m 2 = eqb-true _ _ f in
        let z : k ≡ 3 = some_is (e ∙ simp (eq-eqb _ _ a, p, eq-eqb _ _ b, q, f, s)) in
        let x : ltb (number_at m 2) 128 ≡ true = ap (λ (i : ℕ). ltb i 128) (sym c) ∙ s in
        let y : ltb (number_at m 1) 128 ≡ false = ap (λ (i : ℕ). ltb i 128) (sym b) ∙ q in
        let w : eqb (number_at m 0) 2 ≡ true = ap (λ (i : ℕ). eqb i 2) (sym a) ∙ p in
        record { numbers = simp (w, y, x, b, c, p); first = simp (p, q, s) (sym z); second = simp (w, y, x) (sym z) }
    three a p b q true f false s = four a p b q (eqb-true _ _ f) s (eqb (number_at l 3) (number_at m 3)) refl
    three a p b q false f u s = absurd (some_not_none (e ∙ simp (eq-eqb _ _ a, p, eq-eqb _ _ b, q, f)))

    two : (a : number_at l 0 ≡ number_at m 0) → eqb (number_at l 0) 2 ≡ true → (t : Bool) → eqb (number_at l 1) (number_at m 1) ≡ t → (u : Bool)
        → ltb (number_at l 1) 128 ≡ u → SameHere l m k
    two a p true f true s =
        let b : number_at l 1 ≡ number_at m 1 = eqb-true _ _ f in
        let z : k ≡ 2 = some_is (e ∙ simp (eq-eqb _ _ a, p, f, s)) in
        let y : ltb (number_at m 1) 128 ≡ true = ap (λ (i : ℕ). ltb i 128) (sym b) ∙ s in
        let w : eqb (number_at m 0) 2 ≡ true = ap (λ (i : ℕ). eqb i 2) (sym a) ∙ p in
        record { numbers = simp (p, w, y, b); first = simp (p, s) (sym z); second = simp (w, y) (sym z) }
    two a p true f false s = three a p (eqb-true _ _ f) s (eqb (number_at l 2) (number_at m 2)) refl (ltb (number_at l 2) 128) refl
    two a p false f u s = absurd (some_not_none (e ∙ simp (eq-eqb _ _ a, p, f)))

    one : (a : number_at l 0 ≡ number_at m 0) → (t : Bool) → eqb (number_at l 0) 2 ≡ t → SameHere l m k
    one a true p = two a p (eqb (number_at l 1) (number_at m 1)) refl (ltb (number_at l 1) 128) refl
    one a false p =
        let z : k ≡ 1 = some_is (e ∙ simp (eq-eqb _ _ a, p)) in
        let w : eqb (number_at m 0) 2 ≡ false = ap (λ (i : ℕ). eqb i 2) (sym a) ∙ p in
        record { numbers = simp (w, a); first = simp p (sym z); second = simp w (sym z) }

    code : (t : Bool) → eqb (number_at l 0) (number_at m 0) ≡ t → SameHere l m k
    code true f = one (eqb-true _ _ f) (eqb (number_at l 0) 2) refl
    code false f = absurd (some_not_none (e ∙ simp f))

-- ---- the actions from index i on

-- what is left of n actions of a text
abbrev pub numbers_from : ℕ → List ℕ → ℕ → ℕ → List ℕ
numbers_from n l i at = text_numbers (n - i) (drop at l)

numbers_turn : (n : ℕ) (l : List ℕ) (i at size : ℕ) → i < n → size ≡ entry_size (drop at l)
    → numbers_from n l i at ≡ entry_number (drop at l) ∷ numbers_from n l (i + 1) (at + size)
unfolding text_numbers
numbers_turn n l i at size h e =
    let left : n - i ≡ suc (n - (i + 1)) = omega arith in
    rw left (ap (λ (t : List ℕ). entry_number (drop at l) ∷ text_numbers (n - (i + 1)) t)
    (ap (λ (k : ℕ). drop k (drop at l)) (sym e) ∙ drop-drop size at l))

numbers_end : (n : ℕ) (l : List ℕ) (i at : ℕ) → n ≤ i → numbers_from n l i at ≡ []
unfolding text_numbers
numbers_end n l i at h = let z : n - i ≡ 0 = omega arith in rw z

-- ---- the search

pub record Searched (n : ℕ) (l : List ℕ) (m : ℕ) (k old text : List ℕ) (at to i : ℕ) : Type 0 where
  pub first : i ≤ n
  pub second : i ≤ m
  pub near : at ≤ 4 * i
  pub near_too : to ≤ 4 * i
  pub same : text ≡ old
  pub left : action_difference 0 (text_numbers n l) (text_numbers m k) ≡ action_difference i (numbers_from n l i at) (numbers_from m k i to)

one_line : (d : Difference) → lines_text (d ∷ []) ≡ line_text d
unfolding lines_text
one_line d = append-nil (line_text d)

-- the first lines of two lists that continue
equal_heads : (i x y : ℕ) (xs ys : List ℕ) → x ≡ y → action_difference i (x ∷ xs) (y ∷ ys) ≡ action_difference (i + 1) xs ys
unfolding action_difference
equal_heads i x y xs ys e = let one : suc i ≡ i + 1 = omega arith in rw (eq-eqb _ _ e, one)

other_heads : (i x y : ℕ) (xs ys : List ℕ) → (x ≡ y → ⊥) → action_difference i (x ∷ xs) (y ∷ ys) ≡ difference (action_key i) x y ∷ []
unfolding action_difference
other_heads i x y xs ys e = rw (ne_eqb _ _ e)

none_second : (i x : ℕ) (xs : List ℕ) → action_difference i (x ∷ xs) [] ≡ difference (action_key i) x 0 ∷ []
unfolding action_difference
none_second i x xs = refl

none_first : (i y : ℕ) (ys : List ℕ) → action_difference i [] (y ∷ ys) ≡ difference (action_key i) 0 y ∷ []
unfolding action_difference
none_first i y ys = refl

none_left_lem : (i : ℕ) → action_difference i [] [] ≡ []
unfolding action_difference
none_left_lem i = refl

-- behind the last of n
pub ended_at : (n : ℕ) (l : List ℕ) (m : ℕ) (k old text : List ℕ) (at to i : ℕ) → Searched n l m k old text at to i → n ≤ i
    → Searched n l m k old text at to n
ended_at n l m k old text at to i inv h =
    let e : i ≡ n = omega (arith, inv.first) in subst (λ (j : ℕ). Searched n l m k old text at to j) e inv

module _ (n : ℕ) (l : List ℕ) (m : ℕ) (k old text : List ℕ) (at to i : ℕ) (inv : Searched n l m k old text at to i) where
  pub searched_more : (size other : ℕ) → i < n → i < m → size ≡ entry_size (drop at l) → other ≡ entry_size (drop to k) → size ≤ 4 → other ≤ 4
      → entry_number (drop at l) ≡ entry_number (drop to k) → Searched n l m k old text (at + size) (to + other) (i + 1)
  searched_more size other h j e f p q z =
      record {
        first = omega arith;
        second = omega arith;
        near = omega (arith, inv.near);
        near_too = omega (arith, inv.near_too);
        same = inv.same;
        left =
            inv.left
            ∙ ap₂ (action_difference i) (numbers_turn n l i at size h e) (numbers_turn m k i to other j f)
            ∙ equal_heads i (entry_number (drop at l)) (entry_number (drop to k)) (numbers_from n l (i + 1) (at + size))
            (numbers_from m k (i + 1) (to + other)) z;
      }

  pub searched_same : (r : ℕ) (x y : List ℕ) → i < n → i < m → x ≡ drop at l → y ≡ drop to k → Some r ≡ same_entry x y → r ≤ 4
      → Searched n l m k old text (at + r) (to + r) (i + 1)
  searched_same r x y h j ex ey e p =
      let s = same_here (drop at l) (drop to k) r (e ∙ ap₂ same_entry ex ey) in
      searched_more r r h j (sym s.first) (sym s.second) p p s.numbers

  -- the text of the line that is left
  pub differ_here : (x y : ℕ) (t u : List ℕ) → i < n → i < m → t ≡ drop at l → u ≡ drop to k → x ≡ entry_number t → y ≡ entry_number u → (x ≡ y → ⊥)
      → action_line n l m k ≡ line_text (difference (action_key i) x y)
  differ_here x y t u h j et eu e f z =
      let ex : entry_number (drop at l) ≡ x = ap entry_number (sym et) ∙ sym e in
      let ey : entry_number (drop to k) ≡ y = ap entry_number (sym eu) ∙ sym f in
      ap lines_text
      (inv.left
      ∙ ap₂ (action_difference i) (numbers_turn n l i at (entry_size (drop at l)) h refl) (numbers_turn m k i to (entry_size (drop to k)) j refl)
      ∙ rw (ex, ey) (other_heads i x y (numbers_from n l (i + 1) (at + entry_size (drop at l))) (numbers_from m k (i + 1) (to + entry_size (drop to k))) z))
      ∙ one_line (difference (action_key i) x y)

  pub second_ended : (x : ℕ) (t : List ℕ) → i < n → m ≤ i → t ≡ drop at l → x ≡ entry_number t → action_line n l m k ≡ line_text (difference (action_key i) x 0)
  second_ended x t h j et e =
      let ex : entry_number (drop at l) ≡ x = ap entry_number (sym et) ∙ sym e in
      ap lines_text
      (inv.left
      ∙ ap₂ (action_difference i) (numbers_turn n l i at (entry_size (drop at l)) h refl) (numbers_end m k i to j)
      ∙ rw ex (none_second i x (numbers_from n l (i + 1) (at + entry_size (drop at l)))))
      ∙ one_line (difference (action_key i) x 0)

  pub first_ended : (y : ℕ) (u : List ℕ) → n ≤ i → i < m → u ≡ drop to k → y ≡ entry_number u → action_line n l m k ≡ line_text (difference (action_key i) 0 y)
  first_ended y u h j eu f =
      let ey : entry_number (drop to k) ≡ y = ap entry_number (sym eu) ∙ sym f in
      ap lines_text
      (inv.left
      ∙ ap₂ (action_difference i) (numbers_end n l i at h) (numbers_turn m k i to (entry_size (drop to k)) j refl)
      ∙ rw ey (none_first i y (numbers_from m k (i + 1) (to + entry_size (drop to k)))))
      ∙ one_line (difference (action_key i) 0 y)

  pub both_ended : n ≤ i → m ≤ i → text ≡ old ++ action_line n l m k
  unfolding lines_text
  both_ended h j =
      let none : action_line n l m k ≡ []
      = ap lines_text (inv.left ∙ ap₂ (action_difference i) (numbers_end n l i at h) (numbers_end m k i to j) ∙ none_left_lem i) in
      inv.same ∙ sym (append-nil old) ∙ ap (λ (t : List ℕ). old ++ t) (sym none)

  -- space for it, and its text once it has been put
  pub here_fits : (most : ℕ) (line : List ℕ) → action_line n l m k ≡ line → length old + length (action_line n l m k) ≤ most
      → length text + length line ≤ most
  here_fits most line e h = let s = ap length inv.same in let t = ap length e in omega arith

  pub here_put : (line new : List ℕ) → action_line n l m k ≡ line → new ≡ text ++ line → new ≡ old ++ action_line n l m k
  here_put line new e p = p ∙ ap₂ (λ (t u : List ℕ). t ++ u) inv.same (sym e)
