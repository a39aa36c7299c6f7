-- The square reader by the length of its text and by its four cases, and read-back: sixty-four squares, each computed.
-- Assumes nothing.
use mathlib.Core.Path.{◌≡◌, refl, ap}
use mathlib.Core.List.{List, [], ◌∷◌}
use Prim.Native.Nat.{ℕ, suc, ◌≤◌, ◌<◌}
use native.Mathlib.Omega.{arith}
use lib.ListN.{length, get_or}
use lib.Dec.{eqb, eqb→eq}
use Rattle.answer.specs.declared.Placed.{Placed}
use Rattle.std.specs.Prelude.{Result, Ok, Err}
use Rattle.square.specs.declared.PairError.{PairError}
use Rattle.square.specs.declared.PairError.TheVariants.{BadFile, BadRank, Missing}
use Rattle.square.specs.Square.{read_square, square_named, square_text, pair_told}
use Rattle.square.specs.Promises.{SquareReadsBack, ToldApart}
use Rattle.answer.proofs.Below.{below}

-- a square as one number, one more than its own, so that sixty-four can be computed
abbrev code : Result ℕ PairError → ℕ
code (Ok s) = suc s
code (Err e) = 0

of_code : (p : Result ℕ PairError) (s : ℕ) → code p ≡ suc s → p ≡ Ok s
of_code (Ok t) s e = let same : t ≡ s = omega arith in ap Ok same
of_code (Err w) s e = absurd (omega arith)

pub square_reads_back : SquareReadsBack
unfolding read_square
square_reads_back square h =
    of_code _ _ (eqb→eq _ _ (below (λ (s : ℕ). eqb (code (read_square (square_text s))) (suc s)) 64 tt square h))

pub read_short : (s : List ℕ) → length s < 2 → read_square s ≡ Err Missing
unfolding read_square
read_short [] h = refl
read_short (a ∷ []) h = refl
read_short (a ∷ b ∷ s) h = absurd (omega arith)

pub read_pair : (s : List ℕ) → 2 ≤ length s → read_square s ≡ square_named (get_or s 0 0) (get_or s 1 0)
unfolding read_square
read_pair [] h = absurd (omega arith)
read_pair (a ∷ []) h = absurd (omega arith)
read_pair (a ∷ b ∷ s) h = refl

number : {p q : Placed} → p ≡ q → p.number ≡ q.number
number e = ap (λ (r : Placed). r.number) e

offset : {p q : Placed} → p ≡ q → p.offset ≡ q.offset
offset e = ap (λ (r : Placed). r.offset) e

pub told_apart : ToldApart
unfolding pair_told
told_apart start long (Ok s) (Ok t) e = ap (λ (r : Placed). Ok r.value) e
told_apart start long (Ok s) (Err BadFile) e = absurd (omega (arith, number e))
told_apart start long (Ok s) (Err BadRank) e = absurd (omega (arith, number e))
told_apart start long (Ok s) (Err Missing) e = absurd (omega (arith, number e))
told_apart start long (Err BadFile) (Ok t) e = absurd (omega (arith, number e))
told_apart start long (Err BadFile) (Err BadFile) e = refl
told_apart start long (Err BadFile) (Err BadRank) e = absurd (omega (arith, offset e))
told_apart start long (Err BadFile) (Err Missing) e = absurd (omega (arith, number e))
told_apart start long (Err BadRank) (Ok t) e = absurd (omega (arith, number e))
told_apart start long (Err BadRank) (Err BadFile) e = absurd (omega (arith, offset e))
told_apart start long (Err BadRank) (Err BadRank) e = refl
told_apart start long (Err BadRank) (Err Missing) e = absurd (omega (arith, number e))
told_apart start long (Err Missing) (Ok t) e = absurd (omega (arith, number e))
told_apart start long (Err Missing) (Err BadFile) e = absurd (omega (arith, number e))
told_apart start long (Err Missing) (Err BadRank) e = absurd (omega (arith, number e))
told_apart start long (Err Missing) (Err Missing) e = refl
