-- The pass over a list from its two places, step by step, and what it has gathered at the end.
-- Assumes nothing.
use Prim.Native.Nat.{ℕ, suc, ◌+◌, ◌*◌, ◌-◌, ◌%◌, ◌≤◌, ◌<◌, max, min}
use mathlib.Core.Path.{subst, ◌≡◌, refl, sym, ap, ◌∙◌}
use mathlib.Core.Bool.{Bool, true, false, cond, ◌&&◌}
use mathlib.Core.List.{List, [], ◌∷◌, ◌++◌}
use native.Mathlib.Omega.{arith}
use native.Mathlib.Numerals.{add-one}
use lib.Bits.{bit_or}
use lib.Dec.{eqb, leb}
use lib.ListN.{length, get_or, take, drop, drop_of_length-le, take-append-drop}
use lib.Seq.{drop-cons}
use Rattle.answer.specs.Numbers.{all_at_most, largest}
use Rattle.answer.proofs.Maxima.{max_assoc}
use Rattle.answer.proofs.Numbers.{most_cons}
use Rattle.answer.proofs.Bounds.{gather}
use Rattle.chess_move.specs.Number.{last_move}
use Rattle.san.specs.declared.gathering.Gathered.{Gathered}
use Rattle.san.specs.CodeGathered.{number_if, kept, sources, total, lowest, gather_two, Gathers}

-- ---- one more source or none

kept_length : (b : Bool) (x : ℕ) (xs : List ℕ) → length (kept b x xs) ≡ number_if b 1 + length xs
unfolding kept
kept_length true x xs = omega arith
kept_length false x xs = omega arith

kept_total : (b : Bool) (x : ℕ) (xs : List ℕ) → total (kept b x xs) ≡ number_if b x + total xs
unfolding kept total
kept_total true x xs = refl
kept_total false x xs = omega arith

kept_largest : (b : Bool) (x : ℕ) (xs : List ℕ) → largest (kept b x xs) ≡ max (number_if b x) (largest xs)
unfolding kept largest
kept_largest true x xs = refl
kept_largest false x xs = omega arith

-- ---- largest in another order

max_comm : (a b : ℕ) → max a b ≡ max b a
max_comm a b = omega arith

regroup : (c x y a b : ℕ) → max c (max (max x a) (max y b)) ≡ max (max c (max x y)) (max a b)
regroup c x y a b =
    let swap : max a (max y b) ≡ max y (max a b) = max_assoc a y b ∙ ap (λ (k : ℕ). max k b) (max_comm a y) ∙ sym (max_assoc y a b) in
    ap (max c) (sym (max_assoc x a (max y b)) ∙ ap (max x) swap ∙ max_assoc x y (max a b)) ∙ max_assoc c (max x y) (max a b)

-- ---- what is left at the two places: the front is n entries, and the second place stands at j, where it counts nothing before n

abbrev pub at_front : List ℕ → ℕ → ℕ → List ℕ
at_front l n i = take (n - i) (drop i l)

abbrev pub behind : List ℕ → ℕ → ℕ → List ℕ
behind l n j = drop (max n j) l

front_turn : (l : List ℕ) (n i : ℕ) → i < n → i < length l → at_front l n i ≡ get_or l i 0 ∷ at_front l n (i + 1)
front_turn l n i h k =
    let e : n - i ≡ suc (n - suc i) = omega arith in
    rw (add-one i, e, drop-cons l i 0 k)

-- ---- the two parts of a list

module _ (p : ℕ → Bool) where
  -- what is told of two parts together
  pub record Parts (l f b : List ℕ) : Type 0 where
    pub range : all_at_most last_move f && all_at_most last_move b ≡ all_at_most last_move l
    pub count : length (sources p f) + length (sources p b) ≡ length (sources p l)
    pub sum : total (sources p f) + total (sources p b) ≡ total (sources p l)
    pub largest : max (largest (sources p f)) (largest (sources p b)) ≡ largest (sources p l)

  parts : (f b : List ℕ) → Parts (f ++ b) f b
  unfolding sources total largest lowest all_at_most
  parts [] b = record {
    range = refl;
    count = omega arith;
    sum = omega arith;
    largest = omega arith;
  }
  parts (m ∷ f) b =
      let k = parts f b in
      record {
        range = assoc (leb m last_move) (all_at_most last_move f) (all_at_most last_move b) ∙ ap (λ (x : Bool). leb m last_move && x) k.range;
        count = omega (arith, k.count, kept_length (p m) (m % 64) (sources p f), kept_length (p m) (m % 64) (sources p (f ++ b)));
        sum = omega (arith, k.sum, kept_total (p m) (m % 64) (sources p f), kept_total (p m) (m % 64) (sources p (f ++ b)));
        largest = omega (arith, k.largest, kept_largest (p m) (m % 64) (sources p f), kept_largest (p m) (m % 64) (sources p (f ++ b)));
      }
    where
      assoc : (x y z : Bool) → (x && y) && z ≡ x && (y && z)
      assoc true y z = refl
      assoc false y z = refl

  -- what is gathered and what is left at the two places are together the list
  pub record Left (l f b : List ℕ) (g : Gathered) : Type 0 where
    pub range : eqb g.above 0 && (all_at_most last_move f && all_at_most last_move b) ≡ all_at_most last_move l
    pub count : g.count + (length (sources p f) + length (sources p b)) ≡ length (sources p l)
    pub sum : g.sum + (total (sources p f) + total (sources p b)) ≡ total (sources p l)
    pub largest : max g.largest (max (largest (sources p f)) (largest (sources p b))) ≡ largest (sources p l)

  pub left_start : (l : List ℕ) (n : ℕ) → Left l (take n l) (drop n l) (record { above = 0; count = 0; sum = 0; largest = 0 })
  left_start l n = subst (λ (x : List ℕ). Left x (take n l) (drop n l) (record { above = 0; count = 0; sum = 0; largest = 0 })) (take-append-drop n l) together
    where
      k : Parts (take n l ++ drop n l) (take n l) (drop n l)
      k = parts (take n l) (drop n l)

      together : Left (take n l ++ drop n l) (take n l) (drop n l) (record { above = 0; count = 0; sum = 0; largest = 0 })
      together = record {
        range = k.range;
        count = omega (arith, k.count);
        sum = omega (arith, k.sum);
        largest = omega (arith, k.largest);
      }

  pub left_end : (l : List ℕ) (g : Gathered) → Left l [] [] g → Gathers p l g
  unfolding sources total largest lowest all_at_most
  left_end l g k = record {
    range_is = last (eqb g.above 0) ∙ k.range;
    count_is = omega (arith, k.count);
    sum_is = omega (arith, k.sum);
    largest_is = omega (arith, k.largest);
  }
    where
      last : (x : Bool) → x ≡ x && (true && true)
      last true = refl
      last false = refl

  all_four : (a b c d : Bool) → a && (b && (c && d)) ≡ (a && c) && (b && d)
  all_four false b c d = refl
  all_four true true c d = refl
  all_four true false true d = refl
  all_four true false false d = refl

  -- an entry from the front, and one from behind or none
  step : (l f b' b : List ℕ) (g : Gathered) (m : ℕ) (there : Bool) (n : ℕ) → sources p b' ≡ kept there (n % 64) (sources p b)
      → all_at_most last_move b' ≡ leb n last_move && all_at_most last_move b → Left l (m ∷ f) b' g → Left l f b (gather_two g (p m) m there n)
  unfolding sources gather_two all_at_most
  step l f b' b g m there n es er k = record {
    range = range;
    count = adds g.count _ _ _ _ _ _ _ (kept_length (p m) (m % 64) (sources p f)) (ap length es ∙ kept_length there (n % 64) (sources p b)) k.count;
    sum = adds g.sum _ _ _ _ _ _ _ (kept_total (p m) (m % 64) (sources p f)) (ap total es ∙ kept_total there (n % 64) (sources p b)) k.sum;
    largest =
        maxes g.largest _ _ _ _ _ _ _ (kept_largest (p m) (m % 64) (sources p f)) (ap largest es ∙ kept_largest there (n % 64) (sources p b)) k.largest;
  }
    where
      P : Bool
      P = all_at_most last_move f

      Q : Bool
      Q = all_at_most last_move b

      range : eqb (bit_or (bit_or g.above (m - last_move)) (n - last_move)) 0 && (P && Q) ≡ all_at_most last_move l
      range =
          gather (bit_or g.above (m - last_move)) n last_move (P && Q)
          ∙ gather g.above m last_move (leb n last_move && (P && Q))
          ∙ ap (λ (x : Bool). eqb g.above 0 && x) (all_four (leb m last_move) (leb n last_move) P Q ∙ ap (λ (x : Bool). (leb m last_move && P) && x) (sym er))
          ∙ k.range

      adds : (c x y a b A B L : ℕ) → A ≡ x + a → B ≡ y + b → c + (A + B) ≡ L → c + x + y + (a + b) ≡ L
      adds c x y a b A B L ea eb h = omega arith

      maxes : (c x y a b A B L : ℕ) → A ≡ max x a → B ≡ max y b → max c (max A B) ≡ L → max (max c (max x y)) (max a b) ≡ L
      maxes c x y a b A B L ea eb h = sym (regroup c x y a b) ∙ rw (← ea, ← eb) h

  -- ---- an iteration of the loop, and its end

  turn_seen : (l : List ℕ) (n i j : ℕ) (g : Gathered) → i < n → i < length l → j < n → Left l (at_front l n i) (behind l n j) g
      → Left l (at_front l n (i + 1)) (behind l n (j + 1)) (gather_two g (p (get_or l i 0)) (get_or l i 0) false 0)
  unfolding kept
  turn_seen l n i j g h k s inv =
      let e : max n (j + 1) ≡ max n j = omega arith in
      rw e (step l (at_front l n (i + 1)) (behind l n j) (behind l n j) g (get_or l i 0) false 0 refl refl (rw (front_turn l n i h k) at inv))

  turn_both : (l : List ℕ) (n i j : ℕ) (g : Gathered) → i < n → i < length l → n ≤ j → j < length l → Left l (at_front l n i) (behind l n j) g
      → Left l (at_front l n (i + 1)) (behind l n (j + 1)) (gather_two g (p (get_or l i 0)) (get_or l i 0) (p (get_or l j 0)) (get_or l j 0))
  unfolding sources all_at_most
  turn_both l n i j g h k s t inv =
      let e : max n j ≡ j = omega arith in
      let e' : max n (j + 1) ≡ suc j = omega arith in
      let both = rw (front_turn l n i h k, e, drop-cons l j 0 t) at inv in
      rw e' (step l (at_front l n (i + 1)) (get_or l j 0 ∷ drop (suc j) l) (drop (suc j) l) g (get_or l i 0) (p (get_or l j 0)) (get_or l j 0) refl refl both)

  pub turn : (l : List ℕ) (n back i : ℕ) (g : Gathered) (unseen : Bool) → i < n → i < length l → back + i < length l → (unseen ≡ true → n ≤ back + i)
      → (unseen ≡ false → back + i < n) → Left l (at_front l n i) (behind l n (back + i)) g
      → Left l (at_front l n (i + 1)) (behind l n (back + (i + 1)))
      (gather_two g (p (get_or l i 0)) (get_or l i 0) (unseen && p (number_if unseen (get_or l (back + i) 0))) (number_if unseen (get_or l (back + i) 0)))
  turn l n back i g true h k t after before inv =
      let e : back + (i + 1) ≡ back + i + 1 = omega arith in
      rw e (turn_both l n i (back + i) g h k (after refl) t inv)
  turn l n back i g false h k t after before inv =
      let e : back + (i + 1) ≡ back + i + 1 = omega arith in
      rw e (turn_seen l n i (back + i) g h k (before refl) inv)

  pub turn_start : (l : List ℕ) (n back : ℕ) → back ≤ n
      → Left l (at_front l n 0) (behind l n (back + 0)) (record { above = 0; count = 0; sum = 0; largest = 0 })
  turn_start l n back h =
      let e : max n (back + 0) ≡ n = omega arith in
      let z : n - 0 ≡ n = omega arith in
      rw (e, z) (left_start l n)

  pub turn_end : (l : List ℕ) (n i j : ℕ) (g : Gathered) → n ≤ i → length l ≤ j → Left l (at_front l n i) (behind l n j) g → Gathers p l g
  turn_end l n i j g h k inv =
      let e : n - i ≡ 0 = omega arith in
      let m : length l ≤ max n j = omega arith in
      left_end l g (rw (e, drop_of_length-le l m) at inv)

  -- ---- the least source, step by step

  pub least_turn : (a : ℕ) (l : List ℕ) (i : ℕ) → a ≤ 64 → i < length l
      → lowest a (sources p (drop i l)) ≡ lowest (min a (cond (p (get_or l i 0)) (get_or l i 0 % 64) 64)) (sources p (drop (i + 1) l))
  unfolding sources kept lowest
  least_turn a l i h k = rw (add-one i, drop-cons l i 0 k) (go (p (get_or l i 0)) (get_or l i 0 % 64) (sources p (drop (suc i) l)))
    where
      over : min a 64 ≡ a
      over = omega arith

      go : (b : Bool) (x : ℕ) (xs : List ℕ) → lowest a (kept b x xs) ≡ lowest (min a (cond b x 64)) xs
      go true x xs = refl
      go false x xs = ap (λ (k : ℕ). lowest k xs) (sym over)

  pub least_end : (a : ℕ) (l : List ℕ) (i : ℕ) → length l ≤ i → lowest a (sources p (drop i l)) ≡ a
  unfolding sources lowest
  least_end a l i h = rw (drop_of_length-le l h)

  -- ---- bounds

  pub sources_most : (l : List ℕ) → all_at_most 63 (sources p l) ≡ true
  unfolding sources kept all_at_most
  sources_most [] = refl
  sources_most (m ∷ ms) = go (p m) (sources p ms) (sources_most ms)
    where
      go : (b : Bool) (xs : List ℕ) → all_at_most 63 xs ≡ true → all_at_most 63 (kept b (m % 64) xs) ≡ true
      go true xs e = most_cons 63 (m % 64) xs (omega arith) e
      go false xs e = e

  pub count_most : (l : List ℕ) → length (sources p l) ≤ length l
  unfolding sources kept
  count_most [] = omega arith
  count_most (m ∷ ms) = go (p m) (sources p ms) (count_most ms)
    where
      go : (b : Bool) (xs : List ℕ) → length xs ≤ length ms → length (kept b (m % 64) xs) ≤ suc (length ms)
      go true xs h = omega arith
      go false xs h = omega arith

  pub total_most : (l : List ℕ) → total (sources p l) ≤ 63 * length l
  unfolding sources kept total
  total_most [] = omega arith
  total_most (m ∷ ms) = go (p m) (sources p ms) (total_most ms)
    where
      go : (b : Bool) (xs : List ℕ) → total xs ≤ 63 * length ms → total (kept b (m % 64) xs) ≤ 63 * suc (length ms)
      go true xs h = omega arith
      go false xs h = omega arith

  pub left_count : (l f b : List ℕ) (g : Gathered) → Left l f b g → g.count ≤ length l
  left_count l f b g k = omega (arith, k.count, count_most l)

  pub left_sum : (l f b : List ℕ) (g : Gathered) → Left l f b g → g.sum ≤ 63 * length l
  left_sum l f b g k = omega (arith, k.sum, total_most l)

pub largest_total : (l : List ℕ) → largest l ≤ total l
unfolding largest total
largest_total [] = omega arith
largest_total (x ∷ xs) = omega (arith, largest_total xs)
