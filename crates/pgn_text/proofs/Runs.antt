-- How far a run goes: within the text; whether a text begins with another; and loops over the text.
-- Assumes nothing.
use mathlib.Core.Path.{◌≡◌, refl, sym}
use mathlib.Core.Bool.{Bool, true, false, cond}
use Rattle.std.specs.List.{prefix_len, starts_with}
use mathlib.Core.List.{List, [], ◌∷◌}
use Prim.Native.Nat.{ℕ, zero, suc, ◌+◌, ◌≤◌, ◌<◌, zero-le}
use native.Mathlib.Numerals.{add-one}
use native.Mathlib.Omega.{arith}
use lib.Dec.{eqb}
use lib.ListN.{length, get_or}
use borrow.Author.Tests.{eq-eqb, ne_eqb, eqb-true, eqb-false}
use Rattle.pgn_text.specs.declared.Run.{Run}
use Rattle.pgn_text.specs.Bytes.{in_run, onward, run_length, begins_with}

onward_le : (t : Bool) (n m : ℕ) → n ≤ m → onward t n ≤ suc m
unfolding onward
onward_le true n m h = omega arith
onward_le false n m h = zero-le

pub run_within : (run : Run) (s : List ℕ) → run_length run s ≤ length s
unfolding run_length
run_within run [] = zero-le
run_within run (b ∷ bs) = onward_le (in_run run b) (run_length run bs) (length bs) (run_within run bs)

-- in std's words
pub run_prefix : (run : Run) (s : List ℕ) → run_length run s ≡ prefix_len (in_run run) s
unfolding run_length onward
run_prefix run [] = refl
run_prefix run (b ∷ bs) = go (in_run run b) (run_prefix run bs)
  where
    go : (t : Bool) {n m : ℕ} → n ≡ m → onward t n ≡ cond t (1 + m) 0
    go true e = omega arith
    go false e = refl

-- ---- the bytes that a run goes over, and the byte at which it stops
onward_first : (t : Bool) (n : ℕ) → 0 < onward t n → t ≡ true
unfolding onward
onward_first true n h = refl
onward_first false n h = absurd (omega arith)

onward_next : (t : Bool) (n i : ℕ) → suc i < onward t n → i < n
unfolding onward
onward_next true n i h = omega arith
onward_next false n i h = absurd (omega arith)

pub run_over : (run : Run) (s : List ℕ) (i : ℕ) → i < run_length run s → in_run run (get_or s i 0) ≡ true
unfolding run_length
run_over run [] i h = absurd (omega arith)
run_over run (b ∷ bs) zero h = onward_first (in_run run b) (run_length run bs) h
run_over run (b ∷ bs) (suc i) h = run_over run bs i (onward_next (in_run run b) (run_length run bs) i h)

stops_at : (run : Run) (b : ℕ) (bs : List ℕ) (t : Bool) → in_run run b ≡ t → (n : ℕ) → onward t n < suc (length bs)
    → (n < length bs → in_run run (get_or bs n 0) ≡ false) → in_run run (get_or (b ∷ bs) (onward t n) 0) ≡ false
unfolding onward
stops_at run b bs true e n h k = rw (add-one n) (k (omega arith))
stops_at run b bs false e n h k = e

pub run_stops : (run : Run) (s : List ℕ) → run_length run s < length s → in_run run (get_or s (run_length run s) 0) ≡ false
unfolding run_length
run_stops run [] h = absurd (omega arith)
run_stops run (b ∷ bs) h = stops_at run b bs (in_run run b) refl (run_length run bs) h (run_stops run bs)

-- ---- a text at the front of another
eqb_turned : (a b : ℕ) → eqb a b ≡ eqb b a
eqb_turned a b = go (eqb a b) refl
  where
    go : (t : Bool) → eqb a b ≡ t → t ≡ eqb b a
    go true e = sym (eq-eqb b a (sym (eqb-true a b e)))
    go false e = sym (ne_eqb b a (λ q. eqb-false a b e (sym q)))

-- in std's words
pub begins_starts : (s text : List ℕ) → starts_with eqb s text ≡ begins_with s text
unfolding begins_with
begins_starts s [] = refl
begins_starts [] (x ∷ xs) = refl
begins_starts (b ∷ bs) (x ∷ xs) = rw (begins_starts bs xs, eqb_turned x b)
