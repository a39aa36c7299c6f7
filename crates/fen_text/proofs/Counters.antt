-- Counters as tokens: what is written in at most four digits reads back, and has no space in it.
-- Assumes nothing.
use mathlib.Core.Path.{◌≡◌, refl, ◌∙◌}
use mathlib.Core.Bool.{Bool, false}
use mathlib.Core.List.{List, [], ◌∷◌}
use Prim.Native.Nat.{ℕ, suc, ◌+◌, ◌*◌, ◌-◌, ◌≤◌, ◌<◌}
use native.Mathlib.Omega.{arith}
use lib.Dec.{eqb}
use lib.ListN.{length}
use borrow.Author.Tests.{le-leb, ne_eqb}
use Rattle.answer.specs.Numbers.{number_at, among}
use Rattle.answer.proofs.Numbers.{or_left, or_right}
use Rattle.board_builder.specs.BoardBuilder.{last_count}
use Rattle.decimal.specs.Decimal.{decimal}
use Rattle.decimal.specs.Promises.{value_from}
use Rattle.decimal.proofs.Digits.{decimal_in}
use Rattle.decimal.proofs.Promises.{reads_back, digits_only, digits_few}
use Rattle.fen_text.specs.Token.{tokens, joined, onto}
use Rattle.fen_text.specs.Full.{digits_from, counter_of}
use Rattle.fen_text.proofs.ReadBack.{Free, free_cons}

-- each byte of a text is a digit
abbrev Each : List ℕ → Type 0
Each s = (i : ℕ) → i < length s → (48 ≤ number_at s i) × (number_at s i ≤ 57)

each_tail : (b : ℕ) (bs : List ℕ) → Each (b ∷ bs) → Each bs
each_tail b bs d i h = d (suc i) (omega arith)

digits_say : (v : ℕ) (s : List ℕ) → Each s → digits_from v s ≡ value_from v s
unfolding digits_from value_from
digits_say v [] d = refl
digits_say v (b ∷ bs) d =
    let first = d 0 (omega arith) in
    simp (le-leb _ _ first.0, le-leb _ _ first.1) (digits_say (v * 10 + (b - 48)) bs (each_tail b bs d))

digits_free : (s : List ℕ) → Each s → Free s
unfolding among
digits_free [] d = refl
digits_free (b ∷ bs) d =
    let first = d 0 (omega arith) in
    free_cons b bs (ne_eqb b 32 (λ e. omega (arith, first.0, e))) (digits_free bs (each_tail b bs d))

each : (n : ℕ) → Each (decimal n)
each n i h = ((digits_only n).least i h, (digits_only n).most i h)

pub count_few : (n : ℕ) → n ≤ last_count → length (decimal n) ≤ 4
count_few n h = rw (decimal_in 3 n (omega arith)) (digits_few 4 n)

pub count_some : (n : ℕ) → 1 ≤ length (decimal n)
count_some n = (digits_only n).some

pub count_free : (n : ℕ) → Free (decimal n)
count_free n = digits_free (decimal n) (each n)

pub count_back : (n : ℕ) → n ≤ last_count → counter_of (decimal n) ≡ n
unfolding counter_of
count_back n h = simp (le-leb _ _ (count_some n), le-leb _ _ (count_few n h)) (digits_say 0 (decimal n) (each n) ∙ reads_back n)

-- a text without a space is one token
alone_step : (t : Bool) (x : ℕ) (xs : List ℕ) → t ≡ false → tokens xs ≡ xs ∷ [] → joined t x (tokens xs) ≡ (x ∷ xs) ∷ []
unfolding joined onto
alone_step t x xs e f = rw (e, f)

pub alone : (xs : List ℕ) → Free xs → tokens xs ≡ xs ∷ []
unfolding tokens among
alone [] f = refl
alone (x ∷ xs) f = alone_step (eqb x 32) x xs (or_left (eqb x 32) (among 32 xs) f) (alone xs (or_right (eqb x 32) (among 32 xs) f))
