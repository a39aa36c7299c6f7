-- Laws of a rank's bytes as the inner loop writes them: what is done, and the digit of the run that is open, which stands from its first square on.
-- Assumes nothing.
use mathlib.Core.Path.{◌≡◌, refl, sym, ap, ◌∙◌}
use mathlib.Core.Bool.{Bool, true, false, cond}
use mathlib.Core.List.{List, [], ◌∷◌, ◌++◌, append-nil, append_assoc}
use Prim.Native.Nat.{ℕ, suc, ◌+◌, ◌-◌, ◌≤◌, ◌<◌}
use native.Mathlib.Numerals.{add-one}
use native.Mathlib.Omega.{arith}
use lib.Dec.{eqb, ltb}
use lib.ListN.{length, take, drop, get_or, set, length-append, length-take, length-drop, length-set, drop_of_length-le}
use lib.Seq.{take-suc-set, take-take, take_at, drop-cons, append_snoc, get_or-take, get_or-drop}
use borrow.Author.Tests.{eq-eqb, ne_eqb, eqb-true, eqb-false, lt-ltb, le-ltb}
use Rattle.square.specs.Piece.{letter_of}
use Rattle.fen_text.specs.Write.{digit_text, run_text}
use Rattle.fen_text.proofs.Cases.{cond_both}
use Rattle.answer.specs.CodePushed.{Put}
use Rattle.fen_writer.proofs.Signs.{row_empty, row_letter}

-- with i squares behind and a run of `run` open: the first n bytes are what is done and the run's digit, and what is done and what is left
-- make the whole
pub record Row (old : List ℕ) (at : ℕ) (row new : List ℕ) (n run i : ℕ) : Type 0 where
  pub done : List ℕ
  pub long : length new ≡ 91
  pub fits : n ≤ 91
  pub bytes : take n new ≡ done ++ digit_text run
  pub rest : done ++ run_text run (drop i row) ≡ take at old ++ run_text 0 row

no_digit : (n : ℕ) → n ≡ 0 → digit_text n ≡ []
unfolding digit_text
no_digit n e = simp (eq-eqb _ _ e)

one_digit : (n : ℕ) → (n ≡ 0 → ⊥) → digit_text n ≡ (48 + n) ∷ []
unfolding digit_text
one_digit n h = simp (ne_eqb _ _ h)

pub row_start : (old : List ℕ) (at : ℕ) (row : List ℕ) → length old ≡ 91 → at ≤ 91 → Row old at row old at 0 0
row_start old at row e h = record {
  done = take at old;
  long = e;
  fits = h;
  bytes = rw (no_digit 0 refl) (sym (append-nil (take at old)));
  rest = refl;
}

row_over : (n i : ℕ) (row : List ℕ) → length row ≤ i → run_text n (drop i row) ≡ digit_text n
unfolding run_text
row_over n i row h = rw (drop_of_length-le row h)

pub row_end : {old row new : List ℕ} {at n run i : ℕ} → Row old at row new n run i → length old ≡ 91 → at ≤ 91 → length row ≤ i
    → Put 91 old at (run_text 0 row) new n
row_end {old} {row} {new} {at} {n} {run} {i} r e h k =
    let whole : take n new ≡ take at old ++ run_text 0 row = r.bytes ∙ ap (λ (l : List ℕ). r.done ++ l) (sym (row_over run i row k)) ∙ r.rest in
    let count : n ≡ at + length (run_text 0 row) = omega (arith, simp (length-append, length-take) at (ap length whole)) in
    record { pushed = record { count = count; bytes = whole }; long = r.long }

-- a store behind the n bytes, and one over the last of them
behind : (new : List ℕ) (n v : ℕ) → n < length new → take (n + 1) (set new (n + 1 - 1) v) ≡ take n new ++ (v ∷ [])
behind new n v h =
    let same : n + 1 - 1 ≡ n = omega arith in
    rw (same, add-one n) (take-suc-set new n v h)

last_count_lem : (new done : List ℕ) (n b : ℕ) → n ≤ length new → take n new ≡ done ++ (b ∷ []) → n ≡ suc (length done)
last_count_lem new done n b h e = omega (arith, simp (length-append, length-take) at (ap length e))

over : (new done : List ℕ) (n b v : ℕ) → n ≤ length new → take n new ≡ done ++ (b ∷ []) → take n (set new (n - 1) v) ≡ done ++ (v ∷ [])
over new done n b v h e =
    let m = length done in
    let last : n ≡ suc m = last_count_lem new done n b h e in
    let place : n - 1 ≡ m = omega arith in
    let low : m < length new = omega arith in
    let front : take m new ≡ done = sym (take-take m n new (omega arith)) ∙ ap (take m) e ∙ take_at done (b ∷ []) m refl in
    rw (place, last) (take-suc-set new m v low ∙ ap (λ (l : List ℕ). l ++ (v ∷ [])) front)

-- the text from a square on, by what stands there
row_next : (run i : ℕ) (row : List ℕ) → i < length row → get_or row i 0 ≡ 0 → run_text (run + 1) (drop (i + 1) row) ≡ run_text run (drop i row)
row_next run i row k e = rw (add-one i, drop-cons row i 0 k) (sym (row_empty run (get_or row i 0) (drop (suc i) row) e))

row_piece : (run i : ℕ) (row : List ℕ) → i < length row → (get_or row i 0 ≡ 0 → ⊥)
    → digit_text run ++ (letter_of (get_or row i 0) ∷ run_text 0 (drop (i + 1) row)) ≡ run_text run (drop i row)
row_piece run i row k e = rw (add-one i, drop-cons row i 0 k) (sym (row_letter run (get_or row i 0) (drop (suc i) row) e))

-- an iteration at an empty square, with no run open and with one, and an iteration at a letter
turn_first : {old row new : List ℕ} {at n run i : ℕ} → Row old at row new n run i → n < 91 → i < length row → get_or row i 0 ≡ 0 → run ≡ 0
    → Row old at row (set new (n + 1 - 1) (48 + (run + 1))) (n + 1) (run + 1) (i + 1)
turn_first {old} {row} {new} {at} {n} {run} {i} r h k e z =
    let some : run + 1 ≡ 0 → ⊥ = λ q. omega arith in
    record {
      done = r.done;
      long = length-set new _ _ ∙ r.long;
      fits = omega arith;
      bytes = behind new n (48 + (run + 1)) (omega arith) ∙ rw (r.bytes, no_digit run z, append-nil r.done, one_digit (run + 1) some);
      rest = ap (λ (l : List ℕ). r.done ++ l) (row_next run i row k e) ∙ r.rest;
    }

turn_more : {old row new : List ℕ} {at n run i : ℕ} → Row old at row new n run i → n < 91 → i < length row → get_or row i 0 ≡ 0 → (run ≡ 0 → ⊥)
    → Row old at row (set new (n - 1) (48 + (run + 1))) n (run + 1) (i + 1)
turn_more {old} {row} {new} {at} {n} {run} {i} r h k e z =
    let some : run + 1 ≡ 0 → ⊥ = λ q. omega arith in
    let known : take n new ≡ r.done ++ ((48 + run) ∷ []) = r.bytes ∙ ap (λ (l : List ℕ). r.done ++ l) (one_digit run z) in
    record {
      done = r.done;
      long = length-set new _ _ ∙ r.long;
      fits = omega arith;
      bytes = over new r.done n (48 + run) (48 + (run + 1)) (omega arith) known ∙ rw (one_digit (run + 1) some);
      rest = ap (λ (l : List ℕ). r.done ++ l) (row_next run i row k e) ∙ r.rest;
    }

turn_letter : {old row new : List ℕ} {at n run i : ℕ} → Row old at row new n run i → n < 91 → i < length row → (get_or row i 0 ≡ 0 → ⊥)
    → Row old at row (set new (n + 1 - 1) (letter_of (get_or row i 0))) (n + 1) 0 (i + 1)
turn_letter {old} {row} {new} {at} {n} {run} {i} r h k e =
    let l = letter_of (get_or row i 0) in
    let left = run_text 0 (drop (i + 1) row) in
    record {
      done = r.done ++ digit_text run ++ (l ∷ []);
      long = length-set new _ _ ∙ r.long;
      fits = omega arith;
      bytes = behind new n l (omega arith) ∙ rw (r.bytes, no_digit 0 refl) (sym (append-nil (r.done ++ digit_text run ++ (l ∷ []))));
      rest =
          append_snoc (r.done ++ digit_text run) l left
          ∙ append_assoc r.done (digit_text run) (l ∷ left)
          ∙ ap (λ (t : List ℕ). r.done ++ t) (row_piece run i row k e)
          ∙ r.rest;
    }

-- what the three small functions give: the run and the count grow by at most one, and there is a byte to write over
pub run_most : (run l next : ℕ) → next ≡ cond (eqb l 0) (run + 1) 0 → next ≤ run + 1
run_most run l next e = rw e (cond_both (λ (m : ℕ). m ≤ run + 1) (eqb l 0) {x = run + 1} {y = 0} (omega arith) (omega arith))

pub count_most : (n run m : ℕ) → m ≡ cond (ltb 1 run) n (n + 1) → m ≤ n + 1
count_most n run m e = rw e (cond_both (λ (k : ℕ). k ≤ n + 1) (ltb 1 run) {x = n} {y = n + 1} (omega arith) (omega arith))

open_count : {old row new : List ℕ} {at n run i : ℕ} → Row old at row new n run i → (run ≡ 0 → ⊥) → 1 ≤ n
open_count {new = new} {n = n} {run = run} r z =
    omega (arith, last_count_lem new r.done n (48 + run) (omega arith) (r.bytes ∙ ap (λ (l : List ℕ). r.done ++ l) (one_digit run z)))

pub count_least : {old row new : List ℕ} {at n run i : ℕ} → Row old at row new n run i → (l next m : ℕ)
    → next ≡ cond (eqb l 0) (run + 1) 0 → m ≡ cond (ltb 1 next) n (n + 1) → 1 ≤ m
count_least {n = n} {run = run} r l next m e f = go (eqb run 0) refl
  where
    go : (t : Bool) → eqb run 0 ≡ t → 1 ≤ m
    go true z =
        let low : next ≤ 1 = omega (arith, run_most run l next e, eqb-true run 0 z) in
        rw (f, le-ltb 1 next low) (omega arith)
    go false z =
        let some = open_count r (eqb-false run 0 z) in
        rw f (cond_both (λ (k : ℕ). 1 ≤ k) (ltb 1 next) {x = n} {y = n + 1} some (omega arith))

-- the iteration, by what the three small functions give
pub row_turn : {old row new : List ℕ} {at n run i : ℕ} → Row old at row new n run i → n < 91 → i < length row → (l next m b : ℕ) → l ≡ get_or row i 0
    → next ≡ cond (eqb l 0) (run + 1) 0 → m ≡ cond (ltb 1 next) n (n + 1) → b ≡ cond (eqb l 0) (48 + next) (letter_of l)
    → Row old at row (set new (m - 1) b) m next (i + 1)
row_turn {old} {row} {new} {at} {n} {run} {i} r h k l next m b s e f g = go (eqb l 0) (eqb run 0) refl refl
  where
    go : (t u : Bool) → eqb l 0 ≡ t → eqb run 0 ≡ u → Row old at row (set new (m - 1) b) m next (i + 1)
    go true true p q =
        let more : next ≡ run + 1 = e ∙ rw p in
        let none : run ≡ 0 = eqb-true run 0 q in
        let low : next ≤ 1 = omega arith in
        let count : m ≡ n + 1 = f ∙ rw (le-ltb 1 next low) in
        let byte : b ≡ 48 + (run + 1) = g ∙ rw (p, more) in
        rw (byte, count, more) (turn_first r h k (sym s ∙ eqb-true l 0 p) none)
    go true false p q =
        let more : next ≡ run + 1 = e ∙ rw p in
        let some : run ≡ 0 → ⊥ = eqb-false run 0 q in
        let high : 1 < next = omega arith in
        let count : m ≡ n = f ∙ rw (lt-ltb 1 next high) in
        let byte : b ≡ 48 + (run + 1) = g ∙ rw (p, more) in
        rw (byte, count, more) (turn_more r h k (sym s ∙ eqb-true l 0 p) some)
    go false u p q =
        let none : next ≡ 0 = e ∙ rw p in
        let low : next ≤ 1 = omega arith in
        let count : m ≡ n + 1 = f ∙ rw (le-ltb 1 next low) in
        let byte : b ≡ letter_of (get_or row i 0) = g ∙ rw p (ap letter_of s) in
        rw (byte, count, none) (turn_letter r h k (λ z. eqb-false l 0 p (s ∙ z)))

-- the row of a rank: eight squares of the board
pub row_long : (pieces : List ℕ) (from : ℕ) → length pieces ≡ 64 → from < 57 → length (take 8 (drop from pieces)) ≡ 8
row_long pieces from e h = simp (length-take, length-drop) (omega arith)

pub row_at : (pieces : List ℕ) (from i : ℕ) → i < 8 → get_or pieces (from + i) 0 ≡ get_or (take 8 (drop from pieces)) i 0
row_at pieces from i h = sym (get_or-take 8 (drop from pieces) i 0 h ∙ get_or-drop from pieces i 0)
