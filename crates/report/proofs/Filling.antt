-- The two rooms after the page call hold the single reader's answers; and the figures counted over them are those of the lines.
-- Assumes nothing.
use mathlib.Core.Path.{◌≡◌, refl, sym, ap, ap₂, subst, ◌∙◌}
use mathlib.Core.Bool.{Bool, true, false, cond}
use mathlib.Core.List.{List, [], ◌∷◌, ◌++◌, append-nil}
use Prim.Native.Nat.{ℕ, zero, suc, ◌+◌, ◌*◌, ◌-◌, ◌≤◌, ◌<◌}
use native.Mathlib.Omega.{arith}
use lib.Dec.{eqb}
use lib.ListN.{length, take, drop, get_or, length-append}
use lib.Seq.{take_all}
use borrow.Author.Tests.{eqb-true, eqb-false, lt-ltb, le-ltb}
use Rattle.answer.specs.Answer.{log_full}
use Rattle.answer.specs.declared.Answer.{Answer}
use Rattle.answer.specs.Numbers.{all_at_most, same}
use Rattle.board_builder.specs.BoardBuilder.{squares, record_size, numbers}
use Rattle.board_builder.proofs.Ranges.{in_range_lem}
use Rattle.fen_text.specs.declared.Fen.{Fen}
use Rattle.fen_text.specs.Read.{read_fen}
use Rattle.fen_text.specs.Lines.{lines}
use Rattle.fen_text.specs.Page.{record_of, told_size, line_count, page_records, page_told, page_fits, page_answer, records_left, told_left}
use Rattle.fen_text.proofs.Keys.{reads_in_range, refused_is_zero}
use Rattle.fen_text.proofs.Pages.{records_long, told_long, accepted_fits, page_refused, page_taken, each_line_as_the_single_reader}
use Rattle.report_text.specs.declared.Report.{Report}
use Rattle.report_text.specs.Report.{most_lines, one, taken_records, refused_lines, squares_with, men_with, twelve, kind_sums, repeated_of, figures}
use Rattle.report_text.specs.Report.{refused_report, report_answer, report_records, report_told}
use Rattle.report_text.specs.Repeats.{repeats_below, taken_at}
use Rattle.report_text.proofs.Sets.{one_most}
use Rattle.report_text.proofs.Figures.{said_from, taken_next, taken_squares, men_snoc, refused_and_taken, repeats_are_repeated}
use Rattle.report.specs.CodeRooms.{counts_at, alike_in, counted_below, men_below, Rooms, Filled, MenSums}

-- ---- the figures over the rooms

-- no more lines count than there are
pub counted_most : (told : List ℕ) (k : ℕ) → counted_below told k ≤ k
unfolding counted_below
counted_most told zero = omega arith
counted_most told (suc k) = omega (arith, counted_most told k, one_most (counts_at told k))

-- with one record more, or none
men_more : (code : ℕ) (rs : List (List ℕ)) (b : Bool) (r : List ℕ)
    → men_with code (rs ++ cond b (r ∷ []) []) ≡ men_with code rs + cond b (squares_with code (take squares r)) 0
men_more code rs true r = men_snoc code rs r
men_more code rs false r = ap (men_with code) (append-nil rs) ∙ omega arith

length_more : (rs : List (List ℕ)) (b : Bool) (r : List ℕ) → length (rs ++ cond b (r ∷ []) []) ≡ length rs + one b
length_more rs true r = length-append rs (r ∷ [])
length_more rs false r = length-append rs []

-- a list of twelve numbers is known by each of them
said_are : (f : ℕ → ℕ) (from n : ℕ) (l : List ℕ) → length l ≡ n → ((k : ℕ) → k < n → get_or l k 0 ≡ f (from + k)) → l ≡ said_from f from n
unfolding said_from
said_are f from zero [] h each = refl
said_are f from zero (x ∷ l) h each = absurd (omega arith)
said_are f from (suc n) [] h each = absurd (omega arith)
said_are f from (suc n) (x ∷ l) h each =
    let first : x ≡ f from = each 0 (omega arith) ∙ ap f (omega arith) in
    let others = said_are f (suc from) n l (omega arith) (λ k g. each (suc k) (omega arith) ∙ ap f (omega arith)) in
    λ i. first i ∷ others i

twelve_are : (l : List ℕ) (f : ℕ → ℕ) → length l ≡ 12 → ((k : ℕ) → k < 12 → get_or l k 0 ≡ f (k + 1)) → l ≡ twelve f
unfolding said_from
twelve_are l f h each = said_are f 1 12 l h (λ k g. each k g ∙ ap f (omega arith))

module _ (ls : List (List ℕ)) (records told : List ℕ) (n : ℕ) (f : Filled ls records told n) where
  taken_here : (k : ℕ) → k < n → counts_at told k ≡ taken_at ls k
  taken_here k h = ap (λ (x : ℕ). eqb x 0) (f.answers k h)

  counted_to : (k : ℕ) → k ≤ n → counted_below told k ≡ length (taken_records (take k ls))
  unfolding counted_below taken_records
  counted_to zero h = refl
  counted_to (suc k) h =
      let long = f.count in
      ap₂ (λ (x : ℕ) (b : Bool). x + one b) (counted_to k (omega arith)) (taken_here k h)
      ∙ sym (length_more (taken_records (take k ls)) (taken_at ls k) (record_of (get_or ls k [])))
      ∙ sym (ap length (taken_next ls k (omega arith)))

  men_to : (code k : ℕ) → k ≤ n → men_below code records told k ≡ men_with code (taken_records (take k ls))
  unfolding men_below men_with taken_records
  men_to code zero h = refl
  men_to code (suc k) h =
      let long = f.count in
      let here = ap₂ (λ (b : Bool) (r : List ℕ). cond b (squares_with code (take squares r)) 0) (taken_here k h) (f.boards k h) in
      ap₂ ◌+◌ (men_to code k (omega arith)) here
      ∙ sym (men_more code (taken_records (take k ls)) (taken_at ls k) (record_of (get_or ls k [])))
      ∙ sym (ap (men_with code) (taken_next ls k (omega arith)))

  all : take n ls ≡ ls
  all = take_all n ls (omega (arith, f.count))

  pub counted_is : counted_below told n ≡ length (taken_records ls)
  counted_is = counted_to n (omega arith) ∙ ap (λ (x : List (List ℕ)). length (taken_records x)) all

  pub men_is : (code : ℕ) → men_below code records told n ≡ men_with code (taken_records ls)
  men_is code = men_to code n (omega arith) ∙ ap (λ (x : List (List ℕ)). men_with code (taken_records x)) all

  pub refused_is : n - counted_below told n ≡ refused_lines ls
  refused_is = omega (arith, counted_is, refused_and_taken ls, f.count)

  pub repeated_is : repeats_below (counts_at told) (alike_in records) n ≡ repeated_of (taken_records ls)
  repeated_is =
      ap (repeats_below (counts_at told) (alike_in records)) f.count
      ∙ repeats_are_repeated ls (counts_at told) (alike_in records)
      (λ k h. taken_here k (omega (arith, f.count)))
      (λ j k g h. ap₂ same (f.boards j (omega (arith, f.count))) (f.boards k (omega (arith, f.count))))

  -- twelve sums that are each a kind's are all kinds' sums
  pub sums_are : (men : List ℕ) → MenSums records told men n → men ≡ kind_sums (taken_records ls)
  sums_are men m = twelve_are men (λ (code : ℕ). men_with code (taken_records ls)) m.long (λ k h. m.each k h ∙ men_is (k + 1))

  pub figures_are : (men : List ℕ) (counted repeated : ℕ) → MenSums records told men n → counted ≡ counted_below told n
      → repeated ≡ repeats_below (counts_at told) (alike_in records) n
      → record { number = 0; lines = n; accepted = counted; refused = n - counted; men = men; repeated = repeated } ≡ figures ls
  figures_are men counted repeated m c r =
      let accepted = c ∙ counted_is in
      let left : n - counted ≡ refused_lines ls = ap (λ (x : ℕ). n - x) c ∙ refused_is in
      let sums = sums_are men m in
      let again = r ∙ repeated_is in
      λ i. record { number = 0; lines = f.count i; accepted = accepted i; refused = left i; men = sums i; repeated = again i }

-- ---- the rooms that the page call leaves

-- each of a line's squares has a code of a man or none
line_codes : (l : List ℕ) → all_at_most 12 (take squares (record_of l)) ≡ true
unfolding numbers all_at_most
line_codes l = go (eqb (read_fen l).number 0) refl
  where
    go : (t : Bool) → eqb (read_fen l).number 0 ≡ t → all_at_most 12 (take squares (record_of l)) ≡ true
    go true e =
        ap (all_at_most 12) (taken_squares l e) ∙ (in_range_lem (read_fen l).board (reads_in_range l (eqb-true _ _ e))).codes
    go false e = ap (λ (f : Fen). all_at_most 12 (take squares (numbers f.board))) (refused_is_zero l (eqb-false _ _ e))

module _ (s records told : List ℕ) (fits : page_fits s (length records) (length told) ≡ true) where
  taken : (page_answer s (length records) (length told)).number ≡ 0
  taken = ap (λ (a : Answer). a.number) (sym (page_taken s records told fits).0)

  pub page_filled : Filled (lines s) (records_left s records (length told)) (told_left s (length records) told) (line_count s)
  page_filled =
      let each = each_line_as_the_single_reader s records told taken in
      record { count = refl; answers = each.number_of; boards = each.record_of }

  pub page_rooms : line_count s ≤ most_lines → Rooms (records_left s records (length told)) (told_left s (length records) told) (line_count s)
  page_rooms few =
      let left = page_taken s records told fits in
      let long = records_long s in
      let said = told_long s in
      let first : record_size * line_count s ≤ length (records_left s records (length told)) =
      subst (λ (x : List ℕ). record_size * line_count s ≤ length x) left.1
      (omega (arith, length-append (page_records s) (drop (length (page_records s)) records))) in
      let second : told_size * line_count s ≤ length (told_left s (length records) told) =
      subst (λ (x : List ℕ). told_size * line_count s ≤ length x) left.2 (omega (arith, length-append (page_told s) (drop (length (page_told s)) told))) in
      record {
        few = few;
        records_long = first;
        told_long = second;
        codes = λ k h. ap (λ (r : List ℕ). all_at_most 12 (take squares r)) (page_filled.boards k h) ∙ line_codes (get_or (lines s) k []);
      }

-- ---- what each way out of the call answers and leaves

-- the answer, and the two rooms
abbrev pub Told : ℕ → List ℕ → List ℕ → List ℕ → Report → List ℕ → List ℕ → Type 0
Told most s records told r left said =
    (r ≡ report_answer most s (length records) (length told))
    × ((left ≡ report_records most s records (length told)) × (said ≡ report_told most s (length records) told))

module _ (most : ℕ) (s records told : List ℕ) where
  pub too_many_told : most < line_count s → Told most s records told (refused_report log_full 0) records told
  unfolding report_answer report_records report_told
  too_many_told h = (simp (lt-ltb _ _ h), (simp (lt-ltb _ _ h), simp (lt-ltb _ _ h)))

  module _ (few : line_count s ≤ most) (page : Answer) (e : page ≡ page_answer s (length records) (length told)) where
    pub short_told : (page.number ≡ 0 → ⊥)
        → Told most s records told (refused_report page.number page.value) (records_left s records (length told)) (told_left s (length records) told)
    unfolding report_answer report_records report_told
    short_told n = go (page_fits s (length records) (length told)) refl
      where
        go : (t : Bool) → page_fits s (length records) (length told) ≡ t
            → Told most s records told (refused_report page.number page.value) (records_left s records (length told)) (told_left s (length records) told)
        go true f = absurd (n (ap (λ (a : Answer). a.number) (e ∙ sym (page_taken s records told f).0)))
        go false f =
            let answer = e ∙ sym (page_refused s records told f).0 in
            (ap (λ (a : Answer). refused_report a.number a.value) answer ∙ simp (le-ltb _ _ few, f), (simp (le-ltb _ _ few), simp (le-ltb _ _ few)))

    pub fits_when_taken : page.number ≡ 0 → page_fits s (length records) (length told) ≡ true
    fits_when_taken z = accepted_fits s (length records) (length told) (ap (λ (a : Answer). a.number) (sym e) ∙ z)

    pub figures_told : (z : page.number ≡ 0)
        → Told most s records told (figures (lines s)) (records_left s records (length told)) (told_left s (length records) told)
    unfolding report_answer report_records report_told
    figures_told z = (simp (le-ltb _ _ few, fits_when_taken z), (simp (le-ltb _ _ few), simp (le-ltb _ _ few)))

    -- of what the page call has left in the rooms
    module _ (z : page.number ≡ 0) (left said : List ℕ) (n : ℕ)
        (l : left ≡ records_left s records (length told)) (d : said ≡ told_left s (length records) told) (count : n ≡ line_count s) where
      pub rooms_left : n ≤ most_lines → Rooms left said n
      rooms_left h = rw (l, d, count) (page_rooms s records told (fits_when_taken z) (omega (arith, count)))

      pub filled_left : Filled (lines s) left said n
      filled_left = rw (l, d, count) (page_filled s records told (fits_when_taken z))
