-- A list is judged right exactly if it is: nothing outside the legal moves, nothing twice, nothing missing, and the byte.
-- Assumes nothing.
use Prim.Native.Nat.{ℕ, suc, ◌+◌, ◌-◌, ◌≤◌}
use mathlib.Core.Path.{◌≡◌, refl, sym, ap, ◌∙◌}
use mathlib.Core.Bool.{Bool, true, false, cond, ◌||◌, false≢true}
use mathlib.Core.List.{List, [], ◌∷◌}
use native.Mathlib.Omega.{arith}
use lib.Dec.{eqb, leb}
use lib.ListN.{length}
use borrow.Author.Tests.{eq-eqb, eqb-true}
use Rattle.answer.specs.Answer.{out_of_range, bad_list}
use Rattle.answer.specs.Numbers.{among}
use Rattle.board_builder.specs.declared.BoardBuilder.{BoardBuilder}
use Rattle.board_builder.specs.BoardBuilder.{in_range}
use Rattle.move_list.specs.MoveList.{count, longest_list, list_in_range}
use Rattle.san_lists.specs.Lists.{occurrences, Reordered}
use Rattle.san_lists.proofs.Counts.{reordered_listed}
use Rattle.move_laws.specs.declared.Judged.{Judged}
use Rattle.move_laws.specs.Legal.{legal_moves, check_byte}
use Rattle.move_laws.specs.Judge.{judged_as, outside_at, twice_at, judgement, judged_answer}
use Rattle.legal_lists.specs.Promises.{Right, JudgedRight}
use Rattle.legal_lists.proofs.Once.{there, not_there, each_once}

-- ---- nothing outside

or_right : (a b : Bool) → b ≡ true → a || b ≡ true
or_right true b e = refl
or_right false b e = e

pub inside : (list xs : List ℕ) → outside_at list xs ≡ 0 → (n : ℕ) → among n xs ≡ true → among n list ≡ true
unfolding outside_at among
inside list [] e n h = absurd (false≢true h)
inside list (x ∷ xs) e n h = go (inside list xs) (among x list) refl e (eqb x n) refl h
  where
    go : (outside_at list xs ≡ 0 → (n : ℕ) → among n xs ≡ true → among n list ≡ true) → (t : Bool) → among x list ≡ t
        → cond t (outside_at list xs) (x + 1) ≡ 0 → (u : Bool) → eqb x n ≡ u → u || among n xs ≡ true → among n list ≡ true
    go ih true p q true r k = ap (λ (y : ℕ). among y list) (sym (eqb-true x n r)) ∙ p
    go ih true p q false r k = ih q n k
    go ih false p q u r k = absurd (omega (arith, q))

none_outside : (list xs : List ℕ) → ((n : ℕ) → among n xs ≡ true → among n list ≡ true) → outside_at list xs ≡ 0
unfolding outside_at among
none_outside list [] f = refl
none_outside list (x ∷ xs) f =
    rw (f x (ap (λ (t : Bool). t || among x xs) (eq-eqb x x refl))) (none_outside list xs (λ n h. f n (or_right (eqb x n) (among n xs) h)))

-- ---- nothing twice

pub none_again : (l : List ℕ) → twice_at l ≡ 0 → (n : ℕ) → occurrences n l ≤ 1
unfolding twice_at count
none_again [] e n = omega arith
none_again (x ∷ xs) e n = go (none_again xs) (among x xs) refl e (eqb x n) refl
  where
    go : (twice_at xs ≡ 0 → (n : ℕ) → occurrences n xs ≤ 1) → (t : Bool) → among x xs ≡ t → cond t (x + 1) (twice_at xs) ≡ 0
        → (u : Bool) → eqb x n ≡ u → cond u (suc (occurrences n xs)) (occurrences n xs) ≤ 1
    go ih true p q u r = absurd (omega (arith, q))
    go ih false p q true r =
        let z = not_there n xs (ap (λ (y : ℕ). among y xs) (sym (eqb-true x n r)) ∙ p) in
        omega (arith, z)
    go ih false p q false r = ih q n

none_twice : (l : List ℕ) → ((n : ℕ) → occurrences n l ≤ 1) → twice_at l ≡ 0
unfolding twice_at count
none_twice [] f = refl
none_twice (x ∷ xs) f = go (none_twice xs) (among x xs) refl
  where
    less : (u : Bool) (k : ℕ) → cond u (suc k) k ≤ 1 → k ≤ 1
    less true k h = omega (arith, h)
    less false k h = h

    here : cond (eqb x x) (suc (occurrences x xs)) (occurrences x xs) ≤ 1
    here = f x

    go : (((n : ℕ) → occurrences n xs ≤ 1) → twice_at xs ≡ 0) → (t : Bool) → among x xs ≡ t → cond t (x + 1) (twice_at xs) ≡ 0
    go ih true p =
        let k : suc (occurrences x xs) ≤ 1 = rw (eq-eqb x x refl) at here in
        absurd (omega (arith, k, there x xs p))
    go ih false p = ih (λ n. less (eqb x n) (occurrences n xs) (f n))

-- ---- the four together

record AllFour (owed given : ℕ) (legal list : List ℕ) : Type 0 where
  none_stray : outside_at legal list ≡ 0
  none_doubled : twice_at list ≡ 0
  none_missing : outside_at list legal ≡ 0
  byte : given ≡ owed

all_four : (owed given : ℕ) (legal list : List ℕ) → (judgement owed given legal list).wrong ≡ 0 → AllFour owed given legal list
unfolding judgement
all_four owed given legal list e =
    go (eqb (outside_at legal list) 0) refl (eqb (twice_at list) 0) refl (eqb (outside_at list legal) 0) refl (eqb given owed) refl e
  where
    told : ℕ → ℕ → Judged
    told wrong move = judged_as 0 owed (length legal) wrong move

    go : (p : Bool) → eqb (outside_at legal list) 0 ≡ p → (q : Bool) → eqb (twice_at list) 0 ≡ q → (r : Bool) → eqb (outside_at list legal) 0 ≡ r
        → (s : Bool) → eqb given owed ≡ s
        → (cond p (cond q (cond r (cond s (told 0 0) (told 4 0)) (told 3 (outside_at list legal - 1))) (told 2 (twice_at list - 1)))
        (told 1 (outside_at legal list - 1))).wrong
        ≡ 0
        → AllFour owed given legal list
    go true a true b true c true d k = record {
      none_stray = eqb-true _ _ a;
      none_doubled = eqb-true _ _ b;
      none_missing = eqb-true _ _ c;
      byte = eqb-true _ _ d;
    }
    go true a true b true c false d k = absurd (omega (arith, k))
    go true a true b false c s d k = absurd (omega (arith, k))
    go true a false b r c s d k = absurd (omega (arith, k))
    go false a q b r c s d k = absurd (omega (arith, k))

no_wrong : (owed given : ℕ) (legal list : List ℕ) → AllFour owed given legal list → judgement owed given legal list ≡ judged_as 0 owed (length legal) 0 0
unfolding judgement
no_wrong owed given legal list f =
    rw (
      eq-eqb (outside_at legal list) 0 f.none_stray,
      eq-eqb (twice_at list) 0 f.none_doubled,
      eq-eqb (outside_at list legal) 0 f.none_missing,
      eq-eqb given owed f.byte,
    )

-- ---- as a list in another order

-- nothing outside, nothing twice and nothing missing: the list that is owed
pub owed_list : (b : BoardBuilder) (list : List ℕ) → outside_at (legal_moves b) list ≡ 0 → twice_at list ≡ 0 → outside_at list (legal_moves b) ≡ 0
    → Reordered list (legal_moves b)
owed_list b list stray doubled missing n = go (among n (legal_moves b)) refl (among n list) refl
  where
    go : (t : Bool) → among n (legal_moves b) ≡ t → (u : Bool) → among n list ≡ u → occurrences n list ≡ occurrences n (legal_moves b)
    go true p true q = omega (arith, there n (legal_moves b) p, there n list q, each_once b n, none_again list doubled n)
    go true p false q = absurd (false≢true (sym q ∙ inside list (legal_moves b) missing n p))
    go false p true q = absurd (false≢true (sym p ∙ inside (legal_moves b) list stray n q))
    go false p false q = not_there n list q ∙ sym (not_there n (legal_moves b) p)

module _ (b : BoardBuilder) (byte : ℕ) (list : List ℕ) where
  four_right : AllFour (check_byte b) byte (legal_moves b) list → Right b byte list
  four_right f = record { list_owed = owed_list b list f.none_stray f.none_doubled f.none_missing; byte_owed = f.byte }

  right_four : Right b byte list → AllFour (check_byte b) byte (legal_moves b) list
  right_four r = record {
    none_stray = none_outside (legal_moves b) list (λ n h. sym (reordered_listed list (legal_moves b) r.list_owed n) ∙ h);
    none_doubled = none_twice list (λ n. omega (arith, r.list_owed n, each_once b n));
    none_missing = none_outside list (legal_moves b) (λ n h. reordered_listed list (legal_moves b) r.list_owed n ∙ h);
    byte = r.byte_owed;
  }

  pub right_nothing_wrong : Right b byte list
      → judgement (check_byte b) byte (legal_moves b) list ≡ judged_as 0 (check_byte b) (length (legal_moves b)) 0 0
  right_nothing_wrong r = no_wrong (check_byte b) byte (legal_moves b) list (right_four r)

-- ---- and what is answered

-- an answer with the number 0 is the judgement
pub judged : (b : BoardBuilder) (byte : ℕ) (list : List ℕ) → (judged_answer b byte list).number ≡ 0
    → judged_answer b byte list ≡ judgement (check_byte b) byte (legal_moves b) list
unfolding judged_answer
judged b byte list e = go (in_range b) (leb byte 1) (list_in_range list) (leb (length (legal_moves b)) longest_list) e
  where
    told : Judged
    told = judgement (check_byte b) byte (legal_moves b) list

    answer : Bool → Bool → Bool → Bool → Judged
    answer p q r s =
        cond p (cond q (cond r (cond s told (judged_as bad_list 0 0 0 0)) (judged_as bad_list 0 0 0 0)) (judged_as out_of_range 0 0 0 0))
        (judged_as out_of_range 0 0 0 0)

    go : (p q r s : Bool) → (answer p q r s).number ≡ 0 → answer p q r s ≡ told
    go true true true true k = refl
    go true true true false k = absurd (omega (arith, k))
    go true true false s k = absurd (omega (arith, k))
    go true false r s k = absurd (omega (arith, k))
    go false q r s k = absurd (omega (arith, k))

pub judged_right : JudgedRight
judged_right b byte list e = (forth, back)
  where
    is : (judged_answer b byte list).wrong ≡ (judgement (check_byte b) byte (legal_moves b) list).wrong
    is = ap (λ (x : Judged). x.wrong) (judged b byte list e)

    forth : (judged_answer b byte list).wrong ≡ 0 → Right b byte list
    forth w = four_right b byte list (all_four (check_byte b) byte (legal_moves b) list (sym is ∙ w))

    back : Right b byte list → (judged_answer b byte list).wrong ≡ 0
    back r = is ∙ ap (λ (x : Judged). x.wrong) (right_nothing_wrong b byte list r)
