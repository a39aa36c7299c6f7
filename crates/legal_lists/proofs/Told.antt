-- What a judgement tells: the first entry that is not legal, the first that comes again, the smallest move that is missing.
-- Assumes nothing.
use Prim.Native.Nat.{ℕ, suc, ◌+◌, ◌-◌, ◌≤◌, ◌<◌}
use mathlib.Core.Path.{◌≡◌, refl, sym, ap, ◌∙◌, subst}
use mathlib.Core.Bool.{Bool, true, false, cond, ◌||◌, false≢true}
use mathlib.Core.List.{List, [], ◌∷◌}
use native.Mathlib.Omega.{arith}
use lib.Dec.{eqb, ltb}
use lib.ListN.{length}
use borrow.Author.Tests.{eq-eqb, ne_eqb, eqb-true, eqb-false}
use Rattle.answer.specs.Numbers.{among}
use Rattle.answer.proofs.Numbers.{both_right}
use Rattle.board_builder.specs.declared.BoardBuilder.{BoardBuilder}
use Rattle.move_list.specs.MoveList.{count}
use Rattle.san_lists.specs.Lists.{occurrences}
use Rattle.move_laws.specs.declared.Judged.{Judged}
use Rattle.move_laws.specs.Legal.{legal_moves, check_byte}
use Rattle.move_laws.specs.Judge.{judged_as, outside_at, twice_at, judgement}
use Rattle.move_laws.specs.Promises.{rises_from, rises}
use Rattle.move_laws.proofs.Listed.{list_rises}
use Rattle.legal_lists.specs.Told.{FirstNotLegal, FirstTwice, SmallestMissing, Told, JudgementsTell}
use Rattle.legal_lists.proofs.Once.{there, not_there, under_none}
use Rattle.legal_lists.proofs.Judged.{inside, none_again, owed_list, judged}

-- ---- an entry in front

none_there : (k : ℕ) → among k [] ≡ true → ⊥
unfolding among
none_there k h = false≢true h

-- what holds of an entry and of all behind it
either_of : (P : ℕ → Type 0) (x : ℕ) (l : List ℕ) → P x → ((k : ℕ) → (x ≡ k → ⊥) → among k l ≡ true → P k) → (k : ℕ) → among k (x ∷ l) ≡ true → P k
unfolding among
either_of P x l p f k h = go (eqb x k) refl h
  where
    go : (u : Bool) → eqb x k ≡ u → u || among k l ≡ true → P k
    go true q r = subst P (eqb-true x k q) p
    go false q r = f k (eqb-false x k q) r

-- ---- 1: the first that is outside

first_outside : (legal list : List ℕ) (m : ℕ) → outside_at legal list ≡ m + 1 → FirstNotLegal legal list m
unfolding outside_at
first_outside legal [] m e = absurd (omega (arith, e))
first_outside legal (x ∷ xs) m e = go (first_outside legal xs m) (among x legal) refl e
  where
    go : (outside_at legal xs ≡ m + 1 → FirstNotLegal legal xs m) → (t : Bool) → among x legal ≡ t → cond t (outside_at legal xs) (x + 1) ≡ m + 1
        → FirstNotLegal legal (x ∷ xs) m
    go ih true p q =
        let f = ih q in
        record {
          earlier = x ∷ f.earlier;
          later = f.later;
          stands = ap (λ (l : List ℕ). x ∷ l) f.stands;
          earlier_legal = either_of (λ (k : ℕ). among k legal ≡ true) x f.earlier p (λ k n h. f.earlier_legal k h);
          not_legal = f.not_legal;
        }
    go ih false p q =
        let z : x ≡ m = omega (arith, q) in
        record {
          earlier = [];
          later = xs;
          stands = ap (λ (y : ℕ). y ∷ xs) z;
          earlier_legal = λ k h. absurd (none_there k h);
          not_legal = ap (λ (y : ℕ). among y legal) (sym z) ∙ p;
        }

-- ---- 2: the first that comes again

other_count : (x k : ℕ) (xs : List ℕ) → (x ≡ k → ⊥) → occurrences k (x ∷ xs) ≡ occurrences k xs
unfolding count
other_count x k xs n = ap (λ (u : Bool). cond u (suc (occurrences k xs)) (occurrences k xs)) (ne_eqb x k n)

same_count : (x : ℕ) (xs : List ℕ) → occurrences x (x ∷ xs) ≡ suc (occurrences x xs)
unfolding count
same_count x xs = ap (λ (u : Bool). cond u (suc (occurrences x xs)) (occurrences x xs)) (eq-eqb x x refl)

first_twice : (list : List ℕ) (m : ℕ) → twice_at list ≡ m + 1 → FirstTwice list m
unfolding twice_at
first_twice [] m e = absurd (omega (arith, e))
first_twice (x ∷ xs) m e = go (first_twice xs m) (among x xs) refl e
  where
    go : (twice_at xs ≡ m + 1 → FirstTwice xs m) → (t : Bool) → among x xs ≡ t → cond t (x + 1) (twice_at xs) ≡ m + 1 → FirstTwice (x ∷ xs) m
    go ih false p q =
        let f = ih q in
        let here : occurrences x (x ∷ xs) ≤ 1 = omega (arith, same_count x xs, not_there x xs p) in
        record {
          earlier = x ∷ f.earlier;
          later = f.later;
          stands = ap (λ (l : List ℕ). x ∷ l) f.stands;
          earlier_once = either_of (λ (k : ℕ). occurrences k (x ∷ xs) ≤ 1) x f.earlier here
              (λ k n h. omega (arith, other_count x k xs n, f.earlier_once k h));
          again = f.again;
        }
    go ih true p q =
        let z : x ≡ m = omega (arith, q) in
        record {
          earlier = [];
          later = xs;
          stands = ap (λ (y : ℕ). y ∷ xs) z;
          earlier_once = λ k h. absurd (none_there k h);
          again = ap (λ (y : ℕ). among y xs) (sym z) ∙ p;
        }

-- ---- 3: the smallest that is missing, since the legal moves rise

rest_there : (x k : ℕ) (xs : List ℕ) → among k xs ≡ true → among k (x ∷ xs) ≡ true
unfolding among
rest_there x k xs h = go (eqb x k)
  where
    go : (u : Bool) → u || among k xs ≡ true
    go true = refl
    go false = h

front_there : (x : ℕ) (xs : List ℕ) → among x (x ∷ xs) ≡ true
unfolding among
front_there x xs = ap (λ (t : Bool). t || among x xs) (eq-eqb x x refl)

-- one step, given what holds of the rest
missing_next : (list : List ℕ) (x : ℕ) (xs : List ℕ) (m : ℕ) → rises_from x xs ≡ true → (outside_at list xs ≡ m + 1 → SmallestMissing xs list m)
    → outside_at list (x ∷ xs) ≡ m + 1 → SmallestMissing (x ∷ xs) list m
unfolding outside_at
missing_next list x xs m r ih e = go (among x list) refl e
  where
    under : (n : ℕ) → n ≤ x → among n xs ≡ true → ⊥
    under n l here = omega (arith, there n xs here, under_none n x xs l r)

    go : (t : Bool) → among x list ≡ t → cond t (outside_at list xs) (x + 1) ≡ m + 1 → SmallestMissing (x ∷ xs) list m
    go true p q =
        let f = ih q in
        record {
          is_legal = rest_there x m xs f.is_legal;
          missing = f.missing;
          smallest = λ k low h.
              either_of (λ (n : ℕ). n < m → among n list ≡ true) x xs (λ l. p) (λ n d here l. f.smallest n l here) k h low;
        }
    go false p q =
        let z : x ≡ m = omega (arith, q) in
        record {
          is_legal = ap (λ (y : ℕ). among y (x ∷ xs)) (sym z) ∙ front_there x xs;
          missing = ap (λ (y : ℕ). among y list) (sym z) ∙ p;
          smallest = λ k low h.
              either_of (λ (n : ℕ). n < m → among n list ≡ true) x xs (λ l. absurd (omega (arith, l, z)))
              (λ n d here l. absurd (under n (omega (arith, l, z)) here)) k h low;
        }

smallest_missing : (list legal : List ℕ) (m : ℕ) → rises legal ≡ true → outside_at list legal ≡ m + 1 → SmallestMissing legal list m
unfolding rises rises_from outside_at
smallest_missing list [] m r e = absurd (omega (arith, e))
smallest_missing list (x ∷ []) m r e = missing_next list x [] m r (λ q. absurd (omega (arith, q))) e
smallest_missing list (x ∷ y ∷ ys) m r e =
    missing_next list x (y ∷ ys) m r (smallest_missing list (y ∷ ys) m (both_right (ltb x y) (rises_from y ys) r)) e

-- ---- together

some_more : (n : ℕ) → (n ≡ 0 → ⊥) → n ≡ n - 1 + 1
some_more n h = omega (arith, h)

module _ (b : BoardBuilder) (byte : ℕ) (list : List ℕ) where
  abbrev legal : List ℕ
  legal = legal_moves b

  abbrev told : ℕ → ℕ → Judged
  told wrong move = judged_as 0 (check_byte b) (length legal) wrong move

  told_1 : (outside_at legal list ≡ 0 → ⊥) → Told b byte list (told 1 (outside_at legal list - 1))
  told_1 h = record {
    byte_told = refl;
    entries_told = refl;
    first = λ e. first_outside legal list (outside_at legal list - 1) (some_more (outside_at legal list) h);
    second = λ e. absurd (omega (arith, e));
    third = λ e. absurd (omega (arith, e));
    fourth = λ e q. omega (arith, e);
    no_other = omega arith;
    behind_first = λ l. absurd (omega (arith, l));
    behind_second = λ l. absurd (omega (arith, l));
    behind_third = λ e. absurd (omega (arith, e));
  }

  told_2 : outside_at legal list ≡ 0 → (twice_at list ≡ 0 → ⊥) → Told b byte list (told 2 (twice_at list - 1))
  told_2 a h = record {
    byte_told = refl;
    entries_told = refl;
    first = λ e. absurd (omega (arith, e));
    second = λ e. first_twice list (twice_at list - 1) (some_more (twice_at list) h);
    third = λ e. absurd (omega (arith, e));
    fourth = λ e q. omega (arith, e);
    no_other = omega arith;
    behind_first = λ l. inside legal list a;
    behind_second = λ l. absurd (omega (arith, l));
    behind_third = λ e. absurd (omega (arith, e));
  }

  told_3 : outside_at legal list ≡ 0 → twice_at list ≡ 0 → (outside_at list legal ≡ 0 → ⊥) → Told b byte list (told 3 (outside_at list legal - 1))
  told_3 a d h = record {
    byte_told = refl;
    entries_told = refl;
    first = λ e. absurd (omega (arith, e));
    second = λ e. absurd (omega (arith, e));
    third = λ e. smallest_missing list legal (outside_at list legal - 1) (list_rises b) (some_more (outside_at list legal) h);
    fourth = λ e q. omega (arith, e);
    no_other = omega arith;
    behind_first = λ l. inside legal list a;
    behind_second = λ l. none_again list d;
    behind_third = λ e. absurd (omega (arith, e));
  }

  told_4 : outside_at legal list ≡ 0 → twice_at list ≡ 0 → outside_at list legal ≡ 0 → (byte ≡ check_byte b → ⊥) → Told b byte list (told 4 0)
  told_4 a d c h = record {
    byte_told = refl;
    entries_told = refl;
    first = λ e. absurd (omega (arith, e));
    second = λ e. absurd (omega (arith, e));
    third = λ e. absurd (omega (arith, e));
    fourth = λ e. h;
    no_other = omega arith;
    behind_first = λ l. inside legal list a;
    behind_second = λ l. none_again list d;
    behind_third = λ e. owed_list b list a d c;
  }

  told_0 : Told b byte list (told 0 0)
  told_0 = record {
    byte_told = refl;
    entries_told = refl;
    first = λ e. absurd (omega (arith, e));
    second = λ e. absurd (omega (arith, e));
    third = λ e. absurd (omega (arith, e));
    fourth = λ e q. omega (arith, e);
    no_other = omega arith;
    behind_first = λ l. absurd (omega (arith, l));
    behind_second = λ l. absurd (omega (arith, l));
    behind_third = λ e. absurd (omega (arith, e));
  }

  judgement_tells : Told b byte list (judgement (check_byte b) byte (legal_moves b) list)
  unfolding judgement
  judgement_tells =
      go (eqb (outside_at legal list) 0) refl (eqb (twice_at list) 0) refl (eqb (outside_at list legal) 0) refl (eqb byte (check_byte b)) refl
    where
      go : (p : Bool) → eqb (outside_at legal list) 0 ≡ p → (q : Bool) → eqb (twice_at list) 0 ≡ q → (r : Bool) → eqb (outside_at list legal) 0 ≡ r
          → (s : Bool) → eqb byte (check_byte b) ≡ s
          → Told b byte list
          (cond p (cond q (cond r (cond s (told 0 0) (told 4 0)) (told 3 (outside_at list legal - 1))) (told 2 (twice_at list - 1)))
          (told 1 (outside_at legal list - 1)))
      go true x true y true z true w = told_0
      go true x true y true z false w = told_4 (eqb-true _ _ x) (eqb-true _ _ y) (eqb-true _ _ z) (eqb-false _ _ w)
      go true x true y false z s w = told_3 (eqb-true _ _ x) (eqb-true _ _ y) (eqb-false _ _ z)
      go true x false y r z s w = told_2 (eqb-true _ _ x) (eqb-false _ _ y)
      go false x q y r z s w = told_1 (eqb-false _ _ x)

pub judgements_tell : JudgementsTell
judgements_tell b byte list e = subst (Told b byte list) (sym (judged b byte list e)) (judgement_tells b byte list)
