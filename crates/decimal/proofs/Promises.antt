-- What is promised about numbers in decimal: they read back, they are digits without a needless zero, and every such text is one.
-- Assumes nothing.
use mathlib.Core.Path.{◌≡◌, refl, ap, sym, ◌∙◌}
use mathlib.Core.Bool.{Bool, true, false, cond}
use mathlib.Core.List.{List, [], ◌∷◌, ◌++◌, append_assoc, append-nil}
use Prim.Native.Nat.{ℕ, zero, suc, ◌+◌, ◌*◌, ◌-◌, ◌/◌, ◌%◌, ◌≤◌, ◌<◌}
use native.Mathlib.Nat.{zero-add}
use native.Mathlib.Omega.{arith}
use lib.Dec.{eqb, ltb}
use lib.ListN.{length, length-append, get_or-append}
use borrow.Author.Tests.{eqb-true, eqb-false}
use Rattle.answer.specs.Numbers.{number_at}
use Rattle.decimal.specs.Decimal.{digits, decimal}
use Rattle.decimal.specs.Promises.{value_from, value_of, ReadsBack, OneTextPerNumber, Digits, NoNeedlessZero, WritesBack, UpTo20}
use Rattle.decimal.proofs.Digits.{decimal_in, decimal_one, decimal_more, by_tens}

-- ---- reading back

value_behind : (v : ℕ) (s : List ℕ) (b : ℕ) → value_from v (s ++ (b ∷ [])) ≡ value_from v s * 10 + (b - 48)
unfolding value_from
value_behind v [] b = refl
value_behind v (x ∷ xs) b = value_behind (v * 10 + (x - 48)) xs b

pub reads_back : ReadsBack
unfolding value_from
reads_back = by_tens (λ (n : ℕ). value_of (decimal n) ≡ n) one more
  where
    one : (n : ℕ) → n < 10 → value_of (decimal n) ≡ n
    one n h = rw (decimal_one n h) (omega arith)

    more : (n : ℕ) → 10 ≤ n → value_of (decimal (n / 10)) ≡ n / 10 → value_of (decimal n) ≡ n
    more n h e = rw (decimal_more n h, value_behind 0 (decimal (n / 10)) (48 + n % 10), e) (omega arith)

pub one_text_a_number : OneTextPerNumber
one_text_a_number m n e = sym (reads_back m) ∙ ap value_of e ∙ reads_back n

-- ---- digits only, without a needless zero

some_digits : (n : ℕ) → 0 < length (decimal n)
some_digits = by_tens (λ (n : ℕ). 0 < length (decimal n)) one more
  where
    one : (n : ℕ) → n < 10 → 0 < length (decimal n)
    one n h = rw (decimal_one n h) (omega arith)

    more : (n : ℕ) → 10 ≤ n → 0 < length (decimal (n / 10)) → 0 < length (decimal n)
    more n h l = rw (decimal_more n h, length-append (decimal (n / 10)) ((48 + n % 10) ∷ [])) (omega arith)

abbrev Digit : ℕ → Type 0
Digit b = (48 ≤ b) × (b ≤ 57)

-- a text of digits with one more
digits_behind : (s : List ℕ) (b : ℕ) → ((i : ℕ) → i < length s → Digit (number_at s i)) → Digit b
    → (i : ℕ) → i < length (s ++ (b ∷ [])) → Digit (number_at (s ++ (b ∷ [])) i)
digits_behind [] b each last zero h = last
digits_behind [] b each last (suc i) h = absurd (omega arith)
digits_behind (x ∷ xs) b each last zero h = each 0 (omega arith)
digits_behind (x ∷ xs) b each last (suc i) h = digits_behind xs b (λ j l. each (suc j) (omega arith)) last i (omega arith)

each_digit : (n i : ℕ) → i < length (decimal n) → Digit (number_at (decimal n) i)
each_digit = by_tens (λ (n : ℕ). (i : ℕ) → i < length (decimal n) → Digit (number_at (decimal n) i)) one more
  where
    one : (n : ℕ) → n < 10 → (i : ℕ) → i < length (decimal n) → Digit (number_at (decimal n) i)
    one n h = rw (decimal_one n h) (digits_behind [] (48 + n) (λ i l. absurd (omega arith)) (omega arith, omega arith))

    more : (n : ℕ) → 10 ≤ n → ((i : ℕ) → i < length (decimal (n / 10)) → Digit (number_at (decimal (n / 10)) i))
        → (i : ℕ) → i < length (decimal n) → Digit (number_at (decimal n) i)
    more n h each = rw (decimal_more n h) (digits_behind (decimal (n / 10)) (48 + n % 10) each (omega arith, omega arith))

pub digits_only : Digits
digits_only n = record { some = some_digits n; least = λ i h. (each_digit n i h).0; most = λ i h. (each_digit n i h).1 }

pub no_needless_zero : NoNeedlessZero
no_needless_zero = by_tens (λ (n : ℕ). number_at (decimal n) 0 ≡ 48 → n ≡ 0) one more
  where
    one : (n : ℕ) → n < 10 → number_at (decimal n) 0 ≡ 48 → n ≡ 0
    one n h e = let f : 48 + n ≡ 48 = rw (decimal_one n h) at e in omega arith

    more : (n : ℕ) → 10 ≤ n → (number_at (decimal (n / 10)) 0 ≡ 48 → n / 10 ≡ 0) → number_at (decimal n) 0 ≡ 48 → n ≡ 0
    more n h tens e =
        let first : number_at (decimal n) 0 ≡ number_at (decimal (n / 10)) 0
        = rw (decimal_more n h) (get_or-append (decimal (n / 10)) ((48 + n % 10) ∷ []) 0 0 (some_digits (n / 10))) in
        let none = tens (sym first ∙ e) in
        absurd (omega arith)

-- ---- every text of that kind is written

-- digits behind those of a number that is not 0
written_behind : (v : ℕ) (s : List ℕ) → 0 < v → ((i : ℕ) → i < length s → Digit (number_at s i)) → decimal (value_from v s) ≡ decimal v ++ s
unfolding value_from
written_behind v [] h each = sym (append-nil (decimal v))
written_behind v (b ∷ bs) h each =
    let d = each 0 (omega arith) in
    let w : ℕ = v * 10 + (b - 48) in
    let tens : w / 10 ≡ v = omega (arith, d.0, d.1) in
    let last : 48 + w % 10 ≡ b = omega (arith, d.0, d.1) in
    let more : decimal w ≡ decimal v ++ (b ∷ []) = decimal_more w (omega arith) ∙ rw (tens, last) in
    written_behind w bs (omega arith) (λ i l. each (suc i) (omega arith))
    ∙ ap (λ (l : List ℕ). l ++ bs) more
    ∙ append_assoc (decimal v) (b ∷ []) bs

pub writes_back : WritesBack
unfolding value_from
writes_back [] d zero-alone = absurd (omega (arith, d.some))
writes_back (b ∷ bs) d zero-alone = rw (zero-add (b - 48)) (go (eqb b 48) refl)
  where
    first : Digit b
    first = (d.least 0 (omega arith), d.most 0 (omega arith))

    one : decimal (b - 48) ≡ b ∷ []
    one = let e : 48 + (b - 48) ≡ b = omega (arith, first) in decimal_one (b - 48) (omega (arith, first)) ∙ rw e

    alone : (s : List ℕ) → length (b ∷ s) ≡ 1 → decimal (value_from (b - 48) s) ≡ b ∷ s
    alone [] e = one
    alone (x ∷ xs) e = absurd (omega (arith, e))

    go : (t : Bool) → eqb b 48 ≡ t → decimal (value_from (b - 48) bs) ≡ b ∷ bs
    go true e = alone bs (zero-alone (eqb-true b 48 e))
    go false e =
        let each : (i : ℕ) → i < length bs → Digit (number_at bs i)
        = λ i l. (d.least (suc i) (omega arith), d.most (suc i) (omega arith)) in
        written_behind (b - 48) bs (omega (arith, first, eqb-false b 48 e)) each ∙ ap (λ (l : List ℕ). l ++ bs) one

-- ---- how many digits

pub digits_few : (k n : ℕ) → length (digits k n) ≤ k
unfolding digits
digits_few zero n = omega arith
digits_few (suc k) n = go (ltb n 10) (digits_few k (n / 10))
  where
    go : (t : Bool) → length (digits k (n / 10)) ≤ k
        → length (cond t ((48 + n) ∷ []) (digits k (n / 10) ++ ((48 + n % 10) ∷ []))) ≤ suc k
    go true h = omega arith
    go false h = omega (arith, length-append (digits k (n / 10)) ((48 + n % 10) ∷ []))

pub up_to_20 : UpTo20
up_to_20 n h = rw (decimal_in 19 n (omega arith)) (digits_few 20 n)
