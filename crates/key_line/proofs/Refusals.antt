-- A refused line, put together in 44 bytes: `! `, the number, a space, the offset and a newline always fit.
-- Assumes nothing.
use mathlib.Core.Path.{◌≡◌, refl, subst}
use mathlib.Core.List.{List, [], ◌∷◌, ◌++◌}
use Prim.Native.Nat.{ℕ, ◌+◌, ◌-◌, ◌≤◌, ◌<◌}
use native.Mathlib.Omega.{arith}
use lib.Dec.{lit<}
use lib.ListN.{length, take, drop, set, replicate}
use Rattle.answer.specs.declared.Answer.{Answer}
use Rattle.answer.specs.Answer.{write_answer, write_bytes}
use Rattle.answer.specs.CodePushed.{Put}
use Rattle.answer.proofs.Puts.{put_text}
use Rattle.answer.proofs.Pushes.{put_one, put_both}
use Rattle.decimal.specs.Decimal.{decimal}
use Rattle.decimal.proofs.Promises.{up_to_20}
use Rattle.key_line.specs.KeyLine.{refusal_line}

pub few_digits : (n : ℕ) → n < 18446744073709551616 → length (decimal n) ≤ 20
few_digits n h = up_to_20 n h

-- a number put behind n bytes
pub number_put : (l w : List ℕ) (n number room : ℕ) (a : Answer) → length l ≡ 44 → n + length (decimal number) ≤ 44
    → a ≡ write_answer 0 (decimal number) room → w ≡ write_bytes 0 (decimal number) (take (44 - n) (drop n l))
    → Put 44 l n (decimal number) (take n l ++ (w ++ drop (44 - n) (drop n l))) (n + a.value)
number_put l w n number room a long fits ea =
    let bytes = decimal number in
    subst
    (λ (m : ℕ). w ≡ write_bytes 0 bytes (take (m - n) (drop n l)) → Put 44 l n bytes (take n l ++ (w ++ drop (m - n) (drop n l))) (n + a.value))
    long
    (put_text l bytes w n room a long fits ea)

-- the array with the two bytes that begin the line
abbrev pub begun : List ℕ
begun = set (set (replicate 44 0) 0 33) 1 32

begins : Put 44 (replicate 44 0) 0 (33 ∷ 32 ∷ []) begun 2
begins = put_both (put_one (replicate 44 0) 0 33 refl (lit< tt)) (put_one (set (replicate 44 0) 0 33) 1 32 refl (lit< tt))

module _ (number offset a b : ℕ) (t u : List ℕ) where
  -- the places of the space and the newline lie within
  pub space_within : number < 18446744073709551616 → Put 44 begun 2 (decimal number) t a → a ≤ 22
  space_within h e = omega (arith, e.pushed.count, few_digits number h)

  pub newline_within : offset < 18446744073709551616 → a ≤ 22 → Put 44 (set t a 32) (a + 1) (decimal offset) u b → b ≤ 43
  newline_within h k e = omega (arith, e.pushed.count, few_digits offset h)

  pub whole_line : a ≤ 22 → b ≤ 43 → Put 44 begun 2 (decimal number) t a → Put 44 (set t a 32) (a + 1) (decimal offset) u b
      → Put 44 (replicate 44 0) 0 (refusal_line number offset) (set u b 10) (b + 1)
  whole_line h k e f =
      put_both begins (put_both e (put_both (put_one t a 32 e.long (omega arith)) (put_both f (put_one u b 10 f.long (omega arith)))))
