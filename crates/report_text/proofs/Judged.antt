-- When the report call refuses, and what it then leaves in the rooms.
-- Assumes nothing.
use mathlib.Core.Path.{◌≡◌, refl, sym, ap}
use mathlib.Core.Bool.{Bool, true, false}
use mathlib.Core.List.{List}
use Prim.Native.Nat.{ℕ}
use native.Mathlib.Omega.{arith}
use lib.Dec.{ltb}
use lib.ListN.{length}
use borrow.Author.Tests.{lt-ltb, le-ltb}
use Rattle.answer.specs.declared.Answer.{Answer}
use Rattle.fen_text.specs.Lines.{lines}
use Rattle.fen_text.specs.Page.{line_count, page_fits}
use Rattle.fen_text.proofs.Pages.{page_refused, page_taken}
use Rattle.report_text.specs.Report.{figures, report_answer, report_records, report_told}
use Rattle.report_text.specs.Promises.{ReportsAreJudgedSo}

-- the two tests that an accepted page has passed
pub accepted_passed : (most : ℕ) (s : List ℕ) (records told : ℕ) → (report_answer most s records told).number ≡ 0
    → (ltb most (line_count s) ≡ false) × (page_fits s records told ≡ true)
unfolding report_answer
accepted_passed most s records told h = go (ltb most (line_count s)) (page_fits s records told) refl refl
  where
    go : (t u : Bool) → ltb most (line_count s) ≡ t → page_fits s records told ≡ u → (ltb most (line_count s) ≡ false) × (page_fits s records told ≡ true)
    go true u e f = let z : ◌≡◌ {A = ℕ} 13 0 = simp e at h in absurd (omega arith)
    go false true e f = (e, f)
    go false false e f = let z : ◌≡◌ {A = ℕ} 7 0 = simp (e, f) at h in absurd (omega arith)

-- it has the figures of its lines
pub accepted_figures : (most : ℕ) (s : List ℕ) (records told : ℕ) → (report_answer most s records told).number ≡ 0
    → report_answer most s records told ≡ figures (lines s)
unfolding report_answer
accepted_figures most s records told h = let (e, f) = accepted_passed most s records told h in simp (e, f)

pub reports_are_judged_so : ReportsAreJudgedSo
unfolding report_answer report_records report_told
reports_are_judged_so most s records told = record {
  too_many = λ h. simp (lt-ltb _ _ h);
  short = λ h e. simp (le-ltb _ _ h, e);
  enough = λ h e. simp (le-ltb _ _ h, e);
  page_taken = λ h. ap (λ (a : Answer). a.number) (sym (page_taken s records told (passed h).1).0);
  page_records = λ h. simp (passed h).0;
  page_told = λ h. simp (passed h).0;
  same_records = λ n. (left n (ltb most (line_count s)) (page_fits s (length records) (length told)) refl refl).0;
  same_told = λ n. (left n (ltb most (line_count s)) (page_fits s (length records) (length told)) refl refl).1;
}
  where
    passed : (report_answer most s (length records) (length told)).number ≡ 0
        → (ltb most (line_count s) ≡ false) × (page_fits s (length records) (length told) ≡ true)
    passed = accepted_passed most s (length records) (length told)

    left : ((report_answer most s (length records) (length told)).number ≡ 0 → ⊥) → (t u : Bool)
        → ltb most (line_count s) ≡ t → page_fits s (length records) (length told) ≡ u
        → (report_records most s records (length told) ≡ records) × (report_told most s (length records) told ≡ told)
    left n true u e f = (simp e, simp e)
    left n false true e f = absurd (n (simp (e, f)))
    left n false false e f = let (a, b, c) = page_refused s records told f in (simp e (sym b), simp e (sym c))
