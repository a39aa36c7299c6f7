-- The order of the lines does not matter: lists with the same lines, each as often, are reordered, and every figure stays the same.
-- Assumes nothing.
use mathlib.Core.Path.{◌≡◌, refl, sym, ◌∙◌}
use mathlib.Core.Bool.{Bool, true, false, cond, ◌&&◌}
use mathlib.Core.List.{List, [], ◌∷◌}
use Prim.Native.Nat.{ℕ, ◌+◌, ◌*◌, ◌≤◌}
use native.Mathlib.Omega.{arith}
use lib.Dec.{ltb, leb}
use lib.ListN.{length}
use Rattle.answer.specs.Answer.{log_full, output_too_short}
use Rattle.answer.specs.Numbers.{same}
use Rattle.answer.proofs.Same.{same_refl, same_eq}
use Rattle.board_builder.specs.BoardBuilder.{record_size}
use Rattle.fen_text.specs.Lines.{lines}
use Rattle.fen_text.specs.Page.{line_count, told_size, page_fits}
use Rattle.report_text.specs.Report.{one, refused_lines, men_with, twelve, repeated_of, refused_report, figures, report_answer}
use Rattle.report_text.specs.Promises.{sum_over, times_among, SameLines, AnyOrder}
use Rattle.report_text.proofs.Figures.{sum_length, sum_refused, sum_men}
use Rattle.report_text.proofs.Reordered.{Reordered, unmoved, reordered_sum, reordered_taken, reordered_again, repeated_again}
use Rattle.report_text.proofs.Reordered.Reordered.{empty, keep, swap, twice}

-- the lines without the first that is this one, which put back in front gives them in another order
unfoldable without : List ℕ → List (List ℕ) → List (List ℕ)
without l [] = []
without l (k ∷ ks) = cond (same k l) ks (k ∷ without l ks)

put_back : (l : List ℕ) (ks : List (List ℕ)) → 1 ≤ times_among l ks → Reordered (l ∷ without l ks) ks
unfolding sum_over without
put_back l [] h = absurd (omega arith)
put_back l (k ∷ ks) h = go (same k l) refl (put_back l ks) h
  where
    go : (t : Bool) → same k l ≡ t → (1 ≤ times_among l ks → Reordered (l ∷ without l ks) ks) → 1 ≤ one t + times_among l ks
        → Reordered (l ∷ cond t ks (k ∷ without l ks)) (k ∷ ks)
    go true e back n = rw (same_eq k l e) (unmoved (l ∷ ks))
    go false e back n = twice (swap l k (without l ks)) (keep k (back (omega arith)))

same_reordered : (ls ks : List (List ℕ)) → SameLines ls ks → Reordered ls ks
unfolding sum_over
same_reordered [] [] h = empty
same_reordered [] (k ∷ ks) h = let none : 0 ≡ 1 + times_among k ks = rw (same_refl k) at (h k) in absurd (omega arith)
same_reordered (l ∷ ls) ks h =
    let here : 1 + times_among l ls ≡ times_among l ks = rw (same_refl l) at (h l) in
    let back = put_back l ks (omega arith) in
    twice (keep l (same_reordered ls (without l ks) (λ x. omega (arith, h x, reordered_sum (λ (y : List ℕ). one (same y x)) back)))) back

module _ {ls ks : List (List ℕ)} (p : Reordered ls ks) where
  lines_reordered : length ls ≡ length ks
  lines_reordered = sum_length ls ∙ reordered_sum (λ (l : List ℕ). 1) p ∙ sym (sum_length ks)

  refused_reordered : refused_lines ls ≡ refused_lines ks
  refused_reordered = sum_refused ls ∙ reordered_sum _ p ∙ sym (sum_refused ks)

  men_reordered : (code : ℕ) → men_with code ls ≡ men_with code ks
  men_reordered code = sum_men code ls ∙ reordered_sum _ p ∙ sym (sum_men code ks)

  repeated_reordered : repeated_of ls ≡ repeated_of ks
  repeated_reordered = repeated_again ls ∙ reordered_again p ∙ sym (repeated_again ks)

figures_reordered : {ls ks : List (List ℕ)} → Reordered ls ks → figures ls ≡ figures ks
figures_reordered p =
    let taken = reordered_taken p in
    λ i. record {
      number = 0;
      lines = lines_reordered p i;
      accepted = lines_reordered taken i;
      refused = refused_reordered p i;
      men = twelve (λ (code : ℕ). men_reordered taken code i);
      repeated = repeated_reordered taken i;
    }

pub any_order : AnyOrder
unfolding page_fits report_answer
any_order most s t records told h =
    let p = same_reordered (lines s) (lines t) h in
    let count : line_count s ≡ line_count t = lines_reordered p in
    λ i. cond (ltb most (count i)) (refused_report log_full 0)
    (cond (leb (record_size * count i) records && leb (told_size * count i) told) (figures_reordered p i) (refused_report output_too_short (count i)))
