-- What order 7 promises about a page: each line has the single reader's answer, rooms are judged by the number of lines, and pages one after the other are
-- the page of both joined.
-- Assumes nothing.
use mathlib.Core.Path.{◌≡◌, refl, sym, ap, ◌∙◌}
use mathlib.Core.Bool.{Bool, true, false, cond, ◌&&◌, ◌||◌}
use mathlib.Core.List.{List, [], ◌∷◌, ◌++◌, append_assoc, append-nil}
use Prim.Native.Nat.{ℕ, zero, suc, ◌+◌, ◌*◌, ◌≤◌, ◌<◌}
use native.Mathlib.Nat.{mul-suc}
use native.Mathlib.Omega.{arith}
use lib.Dec.{eqb, leb}
use lib.ListN.{length, get_or, take, drop, length-append, length-drop}
use lib.Seq.{take_at, drop_at, drop-drop}
use borrow.Author.Tests.{eqb-true, eqb-false, leb-true, le-leb, lt-leb}
use Rattle.answer.specs.Answer.{accepted, too_short, overwrite}
use Rattle.answer.specs.Numbers.{among}
use Rattle.answer.specs.Parts.{item}
use Rattle.answer.proofs.Numbers.{both_left, both_right}
use Rattle.answer.proofs.Parts.{of_item}
use Rattle.answer.proofs.Overwrites.{past_it, over_two}
use Rattle.board_builder.specs.BoardBuilder.{numbers, record_size}
use Rattle.board_builder.proofs.Numbers.{sixty_eight_numbers}
use Rattle.fen_text.specs.declared.Fen.{Fen}
use Rattle.fen_text.specs.Token.{onto, joined}
use Rattle.fen_text.specs.Read.{read_fen}
use Rattle.fen_text.specs.Lines.{line_feed, lines, over_lines}
use Rattle.fen_text.specs.Page.{record_of, told_of, told_size, line_count, page_records, page_told, page_fits, page_answer, records_left, told_left}
use Rattle.fen_text.specs.PagePromises.{line_at, AsTheSingleReader, EachLineAsTheSingleReader, PagesAreJudgedSo, RefusedPagesChangeNothing}
use Rattle.fen_text.specs.PagePromises.{OneLineIsTheSingleCall, PagesJoin}
use Rattle.fen_text.proofs.Keys.{reads_in_range, refused_is_zero}
use Rattle.fen_text.proofs.Lines.{length_over, over_append, lines_behind}

-- ---- lengths: 68 bytes and two numbers per line

pub record_long : (l : List ℕ) → length (record_of l) ≡ record_size
unfolding numbers
record_long l = go (eqb (read_fen l).number 0) refl
  where
    go : (t : Bool) → eqb (read_fen l).number 0 ≡ t → length (record_of l) ≡ record_size
    go true e = sixty_eight_numbers (read_fen l).board (reads_in_range l (eqb-true _ _ e))
    go false e = ap (λ (f : Fen). length (numbers f.board)) (refused_is_zero l (eqb-false _ _ e))

pub records_long : (s : List ℕ) → length (page_records s) ≡ record_size * line_count s
records_long s = length_over record_of record_size record_long (lines s)

pub told_long : (s : List ℕ) → length (page_told s) ≡ told_size * line_count s
told_long s = length_over told_of told_size (λ (l : List ℕ). refl) (lines s)

-- ---- rooms

pub fits_records : (s : List ℕ) (records told : ℕ) → page_fits s records told ≡ true → record_size * line_count s ≤ records
unfolding page_fits
fits_records s records told e = leb-true _ _ (both_left (leb (record_size * line_count s) records) (leb (told_size * line_count s) told) e)

pub fits_told : (s : List ℕ) (records told : ℕ) → page_fits s records told ≡ true → told_size * line_count s ≤ told
unfolding page_fits
fits_told s records told e = leb-true _ _ (both_right (leb (record_size * line_count s) records) (leb (told_size * line_count s) told) e)

pub both_fit : (s : List ℕ) (records told : ℕ) → record_size * line_count s ≤ records → told_size * line_count s ≤ told → page_fits s records told ≡ true
unfolding page_fits
both_fit s records told h k = simp (le-leb _ _ h, le-leb _ _ k)

pub records_cut : (s : List ℕ) (records told : ℕ) → records < record_size * line_count s → page_fits s records told ≡ false
unfolding page_fits
records_cut s records told h = simp (lt-leb _ _ h)

pub told_cut : (s : List ℕ) (records told : ℕ) → told < told_size * line_count s → page_fits s records told ≡ false
unfolding page_fits
told_cut s records told h = go (leb (record_size * line_count s) records) refl
  where
    go : (t : Bool) → leb (record_size * line_count s) records ≡ t → leb (record_size * line_count s) records && leb (told_size * line_count s) told ≡ false
    go true e = simp (e, lt-leb _ _ h)
    go false e = simp e

pub pages_are_judged_so : PagesAreJudgedSo
unfolding page_answer
pages_are_judged_so s records told = record {
  lines_told = value (page_fits s records told);
  enough = λ h k. simp (both_fit s records told h k);
  records_short = λ h. simp (records_cut s records told h);
  told_short = λ h. simp (told_cut s records told h);
}
  where
    value : (t : Bool) → (cond t (accepted (line_count s)) (too_short (line_count s))).value ≡ line_count s
    value true = refl
    value false = refl

-- an accepted page fits
pub accepted_fits : (s : List ℕ) (records told : ℕ) → (page_answer s records told).number ≡ 0 → page_fits s records told ≡ true
unfolding page_answer
accepted_fits s records told h = go (page_fits s records told) refl
  where
    go : (t : Bool) → page_fits s records told ≡ t → page_fits s records told ≡ true
    go true e = e
    go false e = let z : ◌≡◌ {A = ℕ} 7 0 = simp e at h in absurd (omega arith)

pub refused_pages_change_nothing : RefusedPagesChangeNothing
unfolding page_answer records_left told_left
refused_pages_change_nothing s records told n = go (page_fits s (length records) (length told)) refl
  where
    go : (t : Bool) → page_fits s (length records) (length told) ≡ t
        → (records_left s records (length told) ≡ records) × (told_left s (length records) told ≡ told)
    go true e = absurd (n (simp e))
    go false e = (simp e, simp e)

-- what a call that refuses the page answers and leaves, and one that takes it
pub page_refused : (s records told : List ℕ) → page_fits s (length records) (length told) ≡ false
    → (too_short (line_count s) ≡ page_answer s (length records) (length told))
    × (records ≡ records_left s records (length told)) × (told ≡ told_left s (length records) told)
unfolding page_answer records_left told_left
page_refused s records told e = (simp e, simp e, simp e)

pub page_taken : (s records told : List ℕ) → page_fits s (length records) (length told) ≡ true
    → (accepted (line_count s) ≡ page_answer s (length records) (length told))
    × (overwrite (page_records s) records ≡ records_left s records (length told)) × (overwrite (page_told s) told ≡ told_left s (length records) told)
unfolding page_answer records_left told_left
page_taken s records told e = (simp e, simp e, simp e)

-- ---- each line

-- in a list of things of one size, the k-th is what is said about line k
item_over : (f : List ℕ → List ℕ) (size : ℕ) → ((l : List ℕ) → length (f l) ≡ size)
    → (ls : List (List ℕ)) (past : List ℕ) (k : ℕ) → k < length ls → item size (over_lines f ls ++ past) k ≡ f (get_or ls k [])
unfolding over_lines
item_over f size h [] past k n = absurd (omega arith)
item_over f size h (l ∷ ls) past zero n =
    let z : size * zero ≡ 0 = omega arith in
    rw (z, append_assoc (f l) (over_lines f ls) past) (take_at (f l) (over_lines f ls ++ past) size (h l))
item_over f size h (l ∷ ls) past (suc k) n =
    let z : size * suc k ≡ size + size * k = mul-suc size k ∙ omega arith in
    let one : drop size (f l ++ (over_lines f ls ++ past)) ≡ over_lines f ls ++ past = drop_at (f l) (over_lines f ls ++ past) size (h l) in
    let past_one : drop (size + size * k) (f l ++ (over_lines f ls ++ past)) ≡ drop (size * k) (over_lines f ls ++ past) =
    sym (drop-drop (size * k) size (f l ++ (over_lines f ls ++ past))) ∙ ap (drop (size * k)) one in
    rw (z, append_assoc (f l) (over_lines f ls) past) (ap (take size) past_one ∙ item_over f size h ls past k (omega arith))

single : (s records told : List ℕ) → page_fits s (length records) (length told) ≡ true → AsTheSingleReader s records told
unfolding records_left told_left
single s records told e = record {
  record_of = λ k h. simp e (item_over record_of record_size record_long (lines s) (drop (length (page_records s)) records) k h);
  number_of = λ k h. number k h;
  offset_of = λ k h. simp e (of_item (overwrite (page_told s) told) told_size k 1 (omega arith) ∙ ap (λ (l : List ℕ). get_or l 1 0) (at k h));
  records_past = simp e (past_it (page_records s) records (record_size * line_count s) (records_long s));
  told_past = simp e (past_it (page_told s) told (told_size * line_count s) (told_long s));
}
  where
    at : (k : ℕ) → k < line_count s → item told_size (overwrite (page_told s) told) k ≡ told_of (line_at s k)
    at k h = item_over told_of told_size (λ (l : List ℕ). refl) (lines s) (drop (length (page_told s)) told) k h

    number : (k : ℕ) → k < line_count s → get_or (told_left s (length records) told) (told_size * k) 0 ≡ (read_fen (line_at s k)).number
    number k h =
        let z : told_size * k + 0 ≡ told_size * k = omega arith in
        simp e (rw (← z) (of_item (overwrite (page_told s) told) told_size k 0 (omega arith) ∙ ap (λ (l : List ℕ). get_or l 0 0) (at k h)))

pub each_line_as_the_single_reader : EachLineAsTheSingleReader
each_line_as_the_single_reader s records told h = single s records told (accepted_fits s (length records) (length told) h)

-- ---- a page of one line

one_step : (t : Bool) (x : ℕ) (s : List ℕ) → t || among line_feed s ≡ false → (0 < length s → among line_feed s ≡ false → lines s ≡ s ∷ [])
    → joined t x (lines s) ≡ (x ∷ s) ∷ []
unfolding joined onto lines
one_step true x s e f = let z : ◌≡◌ {A = Bool} true false = e in let w : ◌≡◌ {A = ℕ} 0 1 = cc in absurd (omega arith)
one_step false x [] e f = refl
one_step false x (y ∷ s) e f = ap (onto x) (f (omega arith) e)

pub one_line : (s : List ℕ) → 0 < length s → among line_feed s ≡ false → lines s ≡ s ∷ []
unfolding lines among
one_line [] h e = absurd (omega arith)
one_line (x ∷ s) h e = one_step (eqb x line_feed) x s e (one_line s)

pub one_line_is_the_single_call : OneLineIsTheSingleCall
unfolding page_answer records_left told_left over_lines
one_line_is_the_single_call s records told h e m n =
    let l : lines s ≡ s ∷ [] = one_line s h e in
    let count : line_count s ≡ 1 = ap length l in
    let fits : page_fits s (length records) (length told) ≡ true = both_fit s (length records) (length told) (omega arith) (omega arith) in
    let bytes : page_records s ≡ record_of s = ap (over_lines record_of) l ∙ append-nil (record_of s) in
    let said : page_told s ≡ told_of s = ap (over_lines told_of) l in
    record {
      answer = simp fits (ap accepted count);
      bytes = simp fits (ap (λ (x : List ℕ). overwrite x records) bytes);
      said = simp fits (ap (λ (x : List ℕ). overwrite x told) said);
    }

-- ---- two pages

pub pages_join : PagesJoin
unfolding records_left told_left
pages_join a b records told (front, e) fits =
    let ls : lines (a ++ b) ≡ lines a ++ lines b = rw e (lines_behind front b) in
    let count : line_count (a ++ b) ≡ line_count a + line_count b = ap length ls ∙ length-append (lines a) (lines b) in
    let rooms : record_size * line_count (a ++ b) ≤ length records = fits_records (a ++ b) (length records) (length told) fits in
    let said : told_size * line_count (a ++ b) ≤ length told = fits_told (a ++ b) (length records) (length told) fits in
    let first : page_fits a (length records) (length told) ≡ true = both_fit a (length records) (length told) (omega arith) (omega arith) in
    let bytes_left : drop (record_size * line_count a) (overwrite (page_records a) records) ≡ drop (record_size * line_count a) records =
    past_it (page_records a) records (record_size * line_count a) (records_long a) in
    let told-left : drop (told_size * line_count a) (overwrite (page_told a) told) ≡ drop (told_size * line_count a) told =
    past_it (page_told a) told (told_size * line_count a) (told_long a) in
    let second : page_fits b (length (drop (record_size * line_count a) records)) (length (drop (told_size * line_count a) told)) ≡ true =
    both_fit b (length (drop (record_size * line_count a) records)) (length (drop (told_size * line_count a) told))
    (rw (length-drop (record_size * line_count a) records) (omega arith))
    (rw (length-drop (told_size * line_count a) told) (omega arith)) in
    let records-of : page_records (a ++ b) ≡ page_records a ++ page_records b = ap (over_lines record_of) ls ∙ over_append record_of (lines a) (lines b) in
    let told_of : page_told (a ++ b) ≡ page_told a ++ page_told b = ap (over_lines told_of) ls ∙ over_append told_of (lines a) (lines b) in
    record {
      count = count;
      bytes = simp (fits, first, bytes_left, second)
          (rw (records-of) (over_two (page_records a) (page_records b) records (record_size * line_count a) (records_long a) ∙ simp bytes_left));
      said = simp (fits, first, told-left, second)
          (rw (told_of) (over_two (page_told a) (page_told b) told (told_size * line_count a) (told_long a) ∙ simp told-left));
    }
