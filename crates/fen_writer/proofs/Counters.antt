-- A counter's digits, as the code pushes them, and the end of a text.
-- Assumes nothing.
use mathlib.Core.Path.{◌≡◌, sym, ap, ◌∙◌}
use mathlib.Core.List.{List, [], ◌∷◌, ◌++◌}
use Prim.Native.Nat.{ℕ, ◌+◌, ◌/◌, ◌%◌, ◌≤◌, ◌<◌}
use native.Mathlib.Decide.{dec_le}
use native.Mathlib.Omega.{arith}
use lib.Dec.{ltb}
use borrow.Author.Tests.{le-ltb, lt-ltb}
use Rattle.board_builder.specs.declared.BoardBuilder.{BoardBuilder}
use Rattle.board_builder.specs.BoardBuilder.{last_count}
use Rattle.decimal.specs.Decimal.{decimal}
use Rattle.decimal.proofs.Digits.{decimal_one, decimal_more}
use Rattle.fen_text.specs.Write.{tail_text, fen_text}
use Rattle.fen_writer.specs.CodeTexts.{text_with}
use Rattle.fen_writer.proofs.Parts.{letter_if}

-- the digits that hold, the last always
abbrev pub counter_text : ℕ → List ℕ
counter_text n =
    letter_if (ltb 999 n) (48 + n / 1000)
    ++ (letter_if (ltb 99 n) (48 + n / 100 % 10) ++ (letter_if (ltb 9 n) (48 + n / 10 % 10) ++ ((48 + n % 10) ∷ [])))

two_digits : (n : ℕ) → 9 < n → n ≤ 99 → decimal n ≡ (48 + n / 10) ∷ (48 + n % 10) ∷ []
two_digits n h l =
    decimal_more n (omega arith)
    ∙ ap (λ (s : List ℕ). s ++ ((48 + n % 10) ∷ [])) (decimal_one (n / 10) (omega arith))

three_digits : (n : ℕ) → 99 < n → n ≤ 999 → decimal n ≡ (48 + n / 100) ∷ (48 + n / 10 % 10) ∷ (48 + n % 10) ∷ []
three_digits n h l =
    let hundreds : n / 10 / 10 ≡ n / 100 = omega arith in
    decimal_more n (omega arith)
    ∙ ap (λ (s : List ℕ). s ++ ((48 + n % 10) ∷ [])) (two_digits (n / 10) (omega arith) (omega arith))
    ∙ ap (λ (k : ℕ). (48 + k) ∷ (48 + n / 10 % 10) ∷ (48 + n % 10) ∷ []) hundreds

four_digits : (n : ℕ) → 999 < n → n ≤ last_count
    → decimal n ≡ (48 + n / 1000) ∷ (48 + n / 100 % 10) ∷ (48 + n / 10 % 10) ∷ (48 + n % 10) ∷ []
four_digits n h l =
    let thousands : n / 10 / 100 ≡ n / 1000 = omega arith in
    let hundreds : n / 10 / 10 ≡ n / 100 = omega arith in
    decimal_more n (omega arith)
    ∙ ap (λ (s : List ℕ). s ++ ((48 + n % 10) ∷ [])) (three_digits (n / 10) (omega arith) (omega arith))
    ∙ rw (thousands, hundreds)

pub counter_is : (n : ℕ) → n ≤ last_count → counter_text n ≡ decimal n
counter_is n top = go (dec_le n 9) (dec_le n 99) (dec_le n 999)
  where
    go : Dec (n ≤ 9) → Dec (n ≤ 99) → Dec (n ≤ 999) → counter_text n ≡ decimal n
    go (yes a) b c =
        let x : n ≤ 99 = omega arith in
        let y : n ≤ 999 = omega arith in
        let digit : n % 10 ≡ n = omega arith in
        simp (le-ltb 9 n a, le-ltb 99 n x, le-ltb 999 n y) (ap (λ (k : ℕ). (48 + k) ∷ []) digit ∙ sym (decimal_one n (omega arith)))
    go (no a) (yes b) c =
        let x : 9 < n = omega arith in
        let y : n ≤ 999 = omega arith in
        let digit : n / 10 % 10 ≡ n / 10 = omega arith in
        simp (lt-ltb 9 n x, le-ltb 99 n b, le-ltb 999 n y) (ap (λ (k : ℕ). (48 + k) ∷ (48 + n % 10) ∷ []) digit ∙ sym (two_digits n x b))
    go (no a) (no b) (yes c) =
        let x : 9 < n = omega arith in
        let y : 99 < n = omega arith in
        let digit : n / 100 % 10 ≡ n / 100 = omega arith in
        simp (lt-ltb 9 n x, lt-ltb 99 n y, le-ltb 999 n c)
        (ap (λ (k : ℕ). (48 + k) ∷ (48 + n / 10 % 10) ∷ (48 + n % 10) ∷ []) digit ∙ sym (three_digits n y c))
    go (no a) (no b) (no c) =
        let x : 9 < n = omega arith in
        let y : 99 < n = omega arith in
        let z : 999 < n = omega arith in
        simp (lt-ltb 9 n x, lt-ltb 99 n y, lt-ltb 999 n z) (sym (four_digits n z top))

-- the counters of a record's key
pub fen_text_with : (b : BoardBuilder) → fen_text b ≡ text_with b 0 1
unfolding fen_text tail_text
fen_text_with b = rw (decimal_one 0 (omega arith), decimal_one 1 (omega arith))
