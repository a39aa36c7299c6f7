-- What makes up what: the accepted lines are the repeats and the different records, and each of their squares has a man of a kind or none.
-- Assumes nothing.
use mathlib.Core.Path.{◌≡◌, refl, sym, ap, ap₂, ◌∙◌}
use mathlib.Core.Bool.{Bool, true, false, cond, ◌||◌}
use mathlib.Core.List.{List, [], ◌∷◌}
use Prim.Native.Nat.{ℕ, zero, suc, ◌+◌, ◌*◌, ◌≤◌, ◌<◌}
use native.Mathlib.Omega.{arith}
use lib.Dec.{eqb}
use lib.ListN.{length, take}
use borrow.Author.Tests.{eqb-true, eqb-false, ne_eqb}
use Rattle.answer.specs.Numbers.{same, all_at_most}
use Rattle.answer.proofs.Numbers.{most_head, most_tail}
use Rattle.answer.proofs.Same.{same_eq}
use Rattle.board_builder.specs.BoardBuilder.{squares}
use Rattle.board_builder.proofs.Ranges.{in_range_lem}
use Rattle.fen_text.specs.Read.{read_fen}
use Rattle.fen_text.specs.Lines.{lines}
use Rattle.fen_text.specs.Page.{record_of}
use Rattle.fen_text.proofs.Keys.{reads_in_range}
use Rattle.report_text.specs.Report.{one, is_taken, with_taken, taken_records, squares_with, men_with, has_record, figures}
use Rattle.report_text.specs.Promises.{sum_over, times_among, sum_all, different, DifferentAreTheRecords, MadeUp, FiguresAddUp}
use Rattle.report_text.proofs.Judged.{accepted_figures}
use Rattle.report_text.proofs.Figures.{refused_and_taken, taken_squares, said_from}
use Rattle.report_text.proofs.Reordered.{stood_again, repeated_again}

-- ---- the different records

equal_has : (x r : List ℕ) (rs : List (List ℕ)) → same x r ≡ true → has_record r rs ≡ has_record x rs
equal_has x r rs e = ap (λ (y : List ℕ). has_record y rs) (sym (same_eq x r e))

-- a record that is left out has an equal one behind it
pub different_are_the_records : DifferentAreTheRecords
unfolding sum_over has_record different
different_are_the_records [] r = refl
different_are_the_records (x ∷ rs) r = go (has_record x rs) refl (same x r) refl (different_are_the_records rs r)
  where
    go : (t : Bool) → has_record x rs ≡ t → (u : Bool) → same x r ≡ u → times_among r (different rs) ≡ one (has_record r rs)
        → times_among r (cond t (different rs) (x ∷ different rs)) ≡ one (u || has_record r rs)
    go true e true f left = left ∙ ap one (equal_has x r rs f ∙ e)
    go false e true f left = let none : times_among r (different rs) ≡ 0 = left ∙ ap one (equal_has x r rs f ∙ e) in rw f (omega arith)
    go true e false f left = left
    go false e false f left = rw f (omega arith)

again_and_different : (rs : List (List ℕ)) → stood_again rs + length (different rs) ≡ length rs
unfolding stood_again different
again_and_different [] = refl
again_and_different (r ∷ rs) = go (has_record r rs) (again_and_different rs)
  where
    go : (t : Bool) → stood_again rs + length (different rs) ≡ length rs
        → one t + stood_again rs + length (cond t (different rs) (r ∷ different rs)) ≡ suc (length rs)
    go true e = omega arith
    go false e = omega arith

-- ---- the squares

-- sums over the codes from 0 to 12: of what is added for each, and of what only the code itself has
abbrev over_codes : (ℕ → ℕ) → ℕ
over_codes f = sum_all (said_from f 0 13)

total_added : (f g : ℕ → ℕ) (from n : ℕ) → sum_all (said_from (λ (c : ℕ). f c + g c) from n) ≡ sum_all (said_from f from n) + sum_all (said_from g from n)
unfolding sum_all said_from
total_added f g from zero = refl
total_added f g from (suc n) = omega (arith, total_added f g (suc from) n)

total_none : (from n : ℕ) → sum_all (said_from (λ (c : ℕ). 0) from n) ≡ 0
unfolding sum_all said_from
total_none from zero = refl
total_none from (suc n) = omega (arith, total_none (suc from) n)

total_past : (x from n : ℕ) → x < from → sum_all (said_from (λ (c : ℕ). one (eqb x c)) from n) ≡ 0
unfolding sum_all said_from
total_past x from zero h = refl
total_past x from (suc n) h = rw (ne_eqb x from (λ e. omega arith)) (omega (arith, total_past x (suc from) n (omega arith)))

total_itself : (x from n : ℕ) → from ≤ x → x < from + n → sum_all (said_from (λ (c : ℕ). one (eqb x c)) from n) ≡ 1
unfolding sum_all said_from
total_itself x from zero h k = absurd (omega arith)
total_itself x from (suc n) h k = go (eqb x from) refl (total_itself x (suc from) n)
  where
    go : (t : Bool) → eqb x from ≡ t → (suc from ≤ x → x < suc from + n → sum_all (said_from (λ (c : ℕ). one (eqb x c)) (suc from) n) ≡ 1)
        → one t + sum_all (said_from (λ (c : ℕ). one (eqb x c)) (suc from) n) ≡ 1
    go true e left = omega (arith, eqb-true x from e, total_past x (suc from) n (omega (arith, eqb-true x from e)))
    go false e left = let other : x ≡ from → ⊥ = eqb-false x from e in omega (arith, left (omega arith) (omega arith))

codes_squares : (xs : List ℕ) → all_at_most 12 xs ≡ true → over_codes (λ (c : ℕ). squares_with c xs) ≡ length xs
unfolding squares_with
codes_squares [] h = total_none 0 13
codes_squares (x ∷ xs) h =
    total_added (λ (c : ℕ). one (eqb x c)) (λ (c : ℕ). squares_with c xs) 0 13
    ∙ ap₂ ◌+◌ (total_itself x 0 13 (omega arith) (omega (arith, most_head 12 x xs h))) (codes_squares xs (most_tail 12 x xs h))
    ∙ omega arith

record_squares : (l : List ℕ) → is_taken l ≡ true → over_codes (λ (c : ℕ). squares_with c (take squares (record_of l))) ≡ squares
record_squares l e =
    let ranges = in_range_lem (read_fen l).board (reads_in_range l (eqb-true _ _ e)) in
    rw (taken_squares l e) (codes_squares (read_fen l).board.pieces ranges.codes ∙ ranges.long)

all_squares : (ls : List (List ℕ)) → over_codes (λ (c : ℕ). men_with c (taken_records ls)) ≡ squares * length (taken_records ls)
unfolding with_taken taken_records men_with
all_squares [] = total_none 0 13
all_squares (l ∷ ls) = go (is_taken l) refl (all_squares ls)
  where
    go : (t : Bool) → is_taken l ≡ t → over_codes (λ (c : ℕ). men_with c (taken_records ls)) ≡ squares * length (taken_records ls)
        → over_codes (λ (c : ℕ). men_with c (with_taken t (read_fen l) (taken_records ls))) ≡ squares * length (with_taken t (read_fen l) (taken_records ls))
    go true e left =
        total_added (λ (c : ℕ). squares_with c (take squares (record_of l))) (λ (c : ℕ). men_with c (taken_records ls)) 0 13
        ∙ ap₂ ◌+◌ (record_squares l e) left
        ∙ omega arith
    go false e left = left

-- ---- all figures

made_up : (ls : List (List ℕ)) → MadeUp (taken_records ls) (figures ls)
unfolding sum_all said_from
made_up ls =
    let rs = taken_records ls in
    record {
      of_lines = refused_and_taken ls;
      of_squares = omega (arith, all_squares ls);
      of_records = rw (repeated_again rs) (again_and_different rs);
    }

pub figures_add_up : FiguresAddUp
figures_add_up most s records told h = rw (accepted_figures most s records told h) (made_up (lines s))
