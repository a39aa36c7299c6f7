-- Every figure of a report is its count over the single reader's answers, and what one line more adds to each.
-- Assumes nothing.
use mathlib.Core.Path.{◌≡◌, refl, sym, ap, ap₂, ◌∙◌}
use mathlib.Core.Bool.{Bool, true, false, cond, ◌&&◌, ◌||◌, or-false, or_assoc}
use mathlib.Core.List.{List, [], ◌∷◌, ◌++◌, append-nil}
use Prim.Native.Nat.{ℕ, zero, suc, ◌+◌, ◌-◌, ◌≤◌, ◌<◌}
use native.Mathlib.Nat.{le_refl}
use native.Mathlib.Omega.{arith}
use lib.ListN.{length, get_or, take, replicate}
use lib.Seq.{take_at, take-suc, take-length}
use borrow.Author.Tests.{eqb-true, eqb-false, ne_eqb}
use Rattle.answer.specs.Numbers.{same}
use Rattle.board_builder.specs.BoardBuilder.{squares, numbers}
use Rattle.board_builder.proofs.Ranges.{in_range_lem}
use Rattle.fen_text.specs.declared.Fen.{Fen}
use Rattle.fen_text.specs.Read.{read_fen}
use Rattle.fen_text.specs.Lines.{lines}
use Rattle.fen_text.specs.Page.{record_of}
use Rattle.fen_text.proofs.Keys.{reads_in_range, refused_is_zero}
use Rattle.report_text.specs.Report.{one, is_taken, with_taken, taken_records, refused_lines, squares_with, men_with, twelve, has_record}
use Rattle.report_text.specs.Report.{repeated_behind, repeated_of, figures}
use Rattle.report_text.specs.Repeats.{found_below, repeats_below, taken_at, alike_at}
use Rattle.report_text.specs.Promises.{sum_over, CountedOver, EveryFigureIsItsCount}
use Rattle.report_text.proofs.Judged.{accepted_figures}

-- ---- one line more, behind the others

with_append : (t : Bool) (f : Fen) (rs ks : List (List ℕ)) → with_taken t f (rs ++ ks) ≡ with_taken t f rs ++ ks
unfolding with_taken
with_append true f rs ks = refl
with_append false f rs ks = refl

pub taken_snoc : (ls : List (List ℕ)) (l : List ℕ) → taken_records (ls ++ (l ∷ [])) ≡ taken_records ls ++ cond (is_taken l) (numbers (read_fen l).board ∷ []) []
unfolding with_taken taken_records
taken_snoc [] l = refl
taken_snoc (x ∷ ls) l = rw (taken_snoc ls l) (with_append (is_taken x) (read_fen x) (taken_records ls) (cond (is_taken l) (numbers (read_fen l).board ∷ []) []))

pub taken_next : (ls : List (List ℕ)) (k : ℕ) → k < length ls
    → taken_records (take (suc k) ls) ≡ taken_records (take k ls) ++ cond (taken_at ls k) (record_of (get_or ls k []) ∷ []) []
taken_next ls k h = ap taken_records (take-suc ls k [] h) ∙ taken_snoc (take k ls) (get_or ls k [])

pub men_snoc : (code : ℕ) (rs : List (List ℕ)) (r : List ℕ) → men_with code (rs ++ (r ∷ [])) ≡ men_with code rs + squares_with code (take squares r)
unfolding men_with
men_snoc code [] r = omega arith
men_snoc code (x ∷ rs) r = omega (arith, men_snoc code rs r)

pub refused_and_taken : (ls : List (List ℕ)) → length (taken_records ls) + refused_lines ls ≡ length ls
unfolding with_taken taken_records refused_lines
refused_and_taken [] = refl
refused_and_taken (l ∷ ls) = go (is_taken l) (refused_and_taken ls)
  where
    go : (t : Bool) → length (taken_records ls) + refused_lines ls ≡ length ls
        → length (with_taken t (read_fen l) (taken_records ls)) + (cond t 0 1 + refused_lines ls) ≡ suc (length ls)
    go true e = omega arith
    go false e = omega arith

-- ---- sums over the lines

sum_same : (f g : List ℕ → ℕ) → ((l : List ℕ) → f l ≡ g l) → (ls : List (List ℕ)) → sum_over f ls ≡ sum_over g ls
unfolding sum_over
sum_same f g h [] = refl
sum_same f g h (l ∷ ls) = ap₂ ◌+◌ (h l) (sum_same f g h ls)

pub sum_length : (ls : List (List ℕ)) → length ls ≡ sum_over (λ (l : List ℕ). 1) ls
unfolding sum_over
sum_length [] = refl
sum_length (l ∷ ls) = omega (arith, sum_length ls)

pub sum_refused : (ls : List (List ℕ)) → refused_lines ls ≡ sum_over (λ (l : List ℕ). cond (is_taken l) 0 1) ls
unfolding refused_lines sum_over
sum_refused [] = refl
sum_refused (l ∷ ls) = ap (λ (n : ℕ). cond (is_taken l) 0 1 + n) (sum_refused ls)

pub sum_men : (code : ℕ) (rs : List (List ℕ)) → men_with code rs ≡ sum_over (λ (r : List ℕ). squares_with code (take squares r)) rs
unfolding men_with sum_over
sum_men code [] = refl
sum_men code (r ∷ rs) = ap (λ (n : ℕ). squares_with code (take squares r) + n) (sum_men code rs)

-- a sum over the records of the accepted lines is one over all lines, in which a refused line has nothing
sum_taken : (f : List ℕ → ℕ) (ls : List (List ℕ)) → sum_over f (taken_records ls) ≡ sum_over (λ (l : List ℕ). cond (is_taken l) (f (record_of l)) 0) ls
unfolding with_taken taken_records sum_over
sum_taken f [] = refl
sum_taken f (l ∷ ls) = go (is_taken l) (sum_taken f ls)
  where
    rest : ℕ
    rest = sum_over (λ (x : List ℕ). cond (is_taken x) (f (record_of x)) 0) ls

    go : (t : Bool) → sum_over f (taken_records ls) ≡ rest → sum_over f (with_taken t (read_fen l) (taken_records ls)) ≡ cond t (f (record_of l)) 0 + rest
    go true e = ap (λ (n : ℕ). f (record_of l) + n) e
    go false e = omega arith

-- ---- men

-- the first 64 numbers of an accepted line's record are its squares
pub taken_squares : (l : List ℕ) → is_taken l ≡ true → take squares (record_of l) ≡ (read_fen l).board.pieces
unfolding numbers
taken_squares l e = take_at (read_fen l).board.pieces _ squares (in_range_lem (read_fen l).board (reads_in_range l (eqb-true _ _ e))).long

empty_squares : (code n : ℕ) → 1 ≤ code → squares_with code (replicate n 0) ≡ 0
unfolding squares_with
empty_squares code zero h = refl
empty_squares code (suc n) h = rw (ne_eqb 0 code (λ e. omega arith), empty_squares code n h)

men_on : (code : ℕ) → 1 ≤ code → (l : List ℕ)
    → cond (is_taken l) (squares_with code (take squares (record_of l))) 0 ≡ squares_with code (read_fen l).board.pieces
men_on code h l = go (is_taken l) refl
  where
    go : (t : Bool) → is_taken l ≡ t → cond t (squares_with code (take squares (record_of l))) 0 ≡ squares_with code (read_fen l).board.pieces
    go true e = ap (squares_with code) (taken_squares l e)
    go false e = sym (ap (λ (f : Fen). squares_with code f.board.pieces) (refused_is_zero l (eqb-false _ _ e)) ∙ empty_squares code squares h)

-- what is said about so many codes, from one on
unfoldable pub said_from : (ℕ → ℕ) → ℕ → ℕ → List ℕ
said_from f from zero = []
said_from f from (suc n) = f from ∷ said_from f (suc from) n

pub said_at : (f : ℕ → ℕ) (from n i : ℕ) → i < n → get_or (said_from f from n) i 0 ≡ f (from + i)
unfolding said_from
said_at f from zero i h = absurd (omega arith)
said_at f from (suc n) zero h = ap f (omega arith)
said_at f from (suc n) (suc i) h = said_at f (suc from) n i (omega arith) ∙ ap f (omega arith)

twelve_said : (f : ℕ → ℕ) → twelve f ≡ said_from f 1 12
unfolding said_from
twelve_said f = refl

-- ---- repeats

pub or_swap : (a b c : Bool) → a || (b || c) ≡ b || (a || c)
or_swap true true c = refl
or_swap true false c = refl
or_swap false b c = refl

has_snoc : (r x : List ℕ) (t : Bool) (xs : List (List ℕ)) → has_record r (xs ++ cond t (x ∷ []) []) ≡ (t && same x r) || has_record r xs
unfolding has_record
has_snoc r x true [] = refl
has_snoc r x false [] = refl
has_snoc r x t (y ∷ xs) = rw (has_snoc r x t xs) (or_swap (same y r) (t && same x r) (has_record r xs))

repeated_snoc : (seen xs : List (List ℕ)) (r : List ℕ)
    → repeated_behind seen (xs ++ (r ∷ [])) ≡ repeated_behind seen xs + one (has_record r xs || has_record r seen)
unfolding has_record repeated_behind
repeated_snoc seen [] r = omega arith
repeated_snoc seen (x ∷ xs) r =
    rw (repeated_snoc (x ∷ seen) xs r, or_swap (has_record r xs) (same x r) (has_record r seen), or_assoc (same x r) (has_record r xs) (has_record r seen))
    (omega arith)

repeated_more : (t : Bool) (rs : List (List ℕ)) (r : List ℕ) → repeated_of (rs ++ cond t (r ∷ []) []) ≡ repeated_of rs + one (t && has_record r rs)
unfolding has_record
repeated_more true rs r = repeated_snoc [] rs r ∙ ap (λ (b : Bool). repeated_of rs + one b) (or-false (has_record r rs))
repeated_more false rs r = ap repeated_of (append-nil rs) ∙ omega arith

-- any two tests that tell of the lines which are accepted, and of each and those before it which have one record, count the repeats
module _ (ls : List (List ℕ)) (counts : ℕ → Bool) (alike : ℕ → ℕ → Bool)
    (as-taken : (k : ℕ) → k < length ls → counts k ≡ taken_at ls k) (as-alike : (j k : ℕ) → j < k → k < length ls → alike j k ≡ alike_at ls j k) where
  found_before : (i k : ℕ) → k ≤ i → i < length ls → found_below counts alike i k ≡ has_record (record_of (get_or ls i [])) (taken_records (take k ls))
  unfolding taken_records has_record found_below
  found_before i zero h g = refl
  found_before i (suc k) h g =
      rw (as-taken k (omega arith), as-alike k i h g, found_before i k (omega arith) g, taken_next ls k (omega arith))
      (sym (has_snoc (record_of (get_or ls i [])) (record_of (get_or ls k [])) (taken_at ls k) (taken_records (take k ls))))

  repeats_before : (k : ℕ) → k ≤ length ls → repeats_below counts alike k ≡ repeated_of (taken_records (take k ls))
  unfolding taken_records repeated_behind repeats_below
  repeats_before zero h = refl
  repeats_before (suc k) h =
      rw (repeats_before k (omega arith), as-taken k h, found_before k k (omega arith) h, taken_next ls k h)
      (sym (repeated_more (taken_at ls k) (taken_records (take k ls)) (record_of (get_or ls k []))))

  pub repeats_are_repeated : repeats_below counts alike (length ls) ≡ repeated_of (taken_records ls)
  repeats_are_repeated = repeats_before (length ls) (le_refl (length ls)) ∙ ap (λ (ks : List (List ℕ)). repeated_of (taken_records ks)) (take-length ls)

-- ---- all figures

figures_counted : (ls : List (List ℕ)) → CountedOver ls (figures ls)
figures_counted ls = record {
  lines = sum_length ls;
  accepted = sum_length (taken_records ls) ∙ sum_taken (λ (r : List ℕ). 1) ls;
  refused = sum_refused ls;
  men = λ code h k. men code h k;
  kinds = refl;
  repeated = sym (repeats_are_repeated ls (taken_at ls) (alike_at ls) (λ k h. refl) (λ j k h g. refl));
}
  where
    men : (code : ℕ) → 1 ≤ code → code ≤ 12 → get_or (twelve (λ (c : ℕ). men_with c (taken_records ls))) (code - 1) 0
        ≡ sum_over (λ (l : List ℕ). squares_with code (read_fen l).board.pieces) ls
    men code h k =
        let here : 1 + (code - 1) ≡ code = omega arith in
        ap (λ (xs : List ℕ). get_or xs (code - 1) 0) (twelve_said (λ (c : ℕ). men_with c (taken_records ls)))
        ∙ said_at (λ (c : ℕ). men_with c (taken_records ls)) 1 12 (code - 1) (omega arith)
        ∙ ap (λ (c : ℕ). men_with c (taken_records ls)) here
        ∙ sum_men code (taken_records ls)
        ∙ sum_taken (λ (r : List ℕ). squares_with code (take squares r)) ls
        ∙ sum_same _ _ (men_on code h) ls

pub every_figure_is_its_count : EveryFigureIsItsCount
every_figure_is_its_count most s records told h = rw (accepted_figures most s records told h) (figures_counted (lines s))
