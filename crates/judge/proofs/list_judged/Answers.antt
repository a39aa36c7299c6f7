-- `list_judged` of lib.rt meets its contract: r ≡ judged_answer b in_check (now list.entry).
use borrow.Author.Tests.{le-leb, lt-leb}
use mathlib.Core.Path.{◌≡◌, refl, ap, ap₂, sym, ◌∙◌}
use Prim.Native.Nat.{ℕ}
use lib.ListN.{length}
use lib.Seq.{length-take-le}
use native.Mathlib.Omega.{arith}
use mathlib.Core.List.{List}
use Rattle.move_laws.specs.Judge.{judgement, judged_answer}
use Rattle.judge.proofs.Owed.{owed_answer, owed_few, owed_many, owed_room, owed_byte}
use Rattle.answer.specs.declared.Answer.{Answer}
use Rattle.move_laws.specs.Legal.{legal_moves}
use Rattle.judge.proofs.list_judged.Goals as goal

pub returns-then-not-in_range : goal.returns-then-not-in_range
unfolding judged_answer
returns-then-not-in_range c = c.finding.ensures ∙ simp (sym c.in_range.ensures ∙ c.if-not-in_range.true)

pub returns-then-in_check-gt1 : goal.returns-then-in_check-gt1
unfolding judged_answer
returns-then-in_check-gt1 c =
    let at-in-range = c.in_range in
    let at-if1 = c.if-not-in_range in
    let at-if2 = c.if-in_check-gt1 in
    c.finding-then-in_check-gt1.ensures ∙ simp ((sym at-in-range.ensures ∙ at-if1.false), lt-leb _ _ at-if2.true)

pub returns-then-not-in_range-2 : goal.returns-then-not-in_range-2
unfolding judged_answer
returns-then-not-in_range-2 c =
    let at-in-range = c.in_range in
    let at-if1 = c.if-not-in_range in
    let at-if2 = c.if-in_check-gt1 in
    let at-in-range2 = c.in_range-2 in
    let at-if3 = c.if-not-in_range-2 in
    c.finding-then-not-in_range-2.ensures
    ∙ simp (
      (sym at-in-range.ensures ∙ at-if1.false),
      le-leb _ _ at-if2.false,
      sym at-in-range2.ensures ∙ at-if3.true,
    )

pub returns-then-written-ne0 : goal.returns-then-written-ne0
unfolding judged_answer
returns-then-written-ne0 c =
    let a = c.args in
    let at-in-range = c.in_range in
    let at-if1 = c.if-not-in_range in
    let at-if2 = c.if-in_check-gt1 in
    let at-in-range2 = c.in_range-2 in
    let at-if3 = c.if-not-in_range-2 in
    let at-legal-list = c.legal_list-written in
    let at-if4 = c.if-written-ne0 in
    let ok = sym at-in-range.ensures ∙ at-if1.false in
    c.finding-then-written-ne0.ensures
    ∙ simp (
      ok,
      le-leb _ _ at-if2.false,
      sym at-in-range2.ensures ∙ at-if3.false,
      owed_many a.b at-legal-list.result ok at-legal-list.ensures.answer at-if4.true,
    )

pub slice_bounds-room-end : goal.slice_bounds-room-end
slice_bounds-room-end c =
    let b = c.args.b in
    let written = c.legal_list-written in
    let ok = sym c.in_range.ensures ∙ c.if-not-in_range.false in
    let few = owed_few b written.result ok written.ensures.answer c.if-written-ne0.false in
    let long : written.result.value ≡ length (legal_moves b) =
    ap (λ (a : Answer). a.value) (owed_answer b written.result ok written.ensures.answer few) in
    omega (arith, few, long)

pub slice_bounds-judge-end : goal.slice_bounds-judge-end
slice_bounds-judge-end c =
    let b = c.args.b in
    let written = c.legal_list-written in
    let ok = sym c.in_range.ensures ∙ c.if-not-in_range.false in
    let few = owed_few b written.result ok written.ensures.answer c.if-written-ne0.false in
    let long : written.result.value ≡ length (legal_moves b) =
    ap (λ (a : Answer). a.value) (owed_answer b written.result ok written.ensures.answer few) in
    sym (length-take-le _ _ (omega (arith, few, long)))

pub returns : goal.returns
unfolding judged_answer
returns c =
    let at-args = c.args in
    let at-in-range = c.in_range in
    let at-if1 = c.if-not-in_range in
    let at-if2 = c.if-in_check-gt1 in
    let at-in-range2 = c.in_range-2 in
    let at-if3 = c.if-not-in_range-2 in
    let at-legal-list = c.legal_list-written in
    let at-if4 = c.if-written-ne0 in
    let at-in-check = c.in_check-owed in
    let ok = sym at-in-range.ensures ∙ at-if1.false in
    let few = owed_few at-args.b at-legal-list.result ok at-legal-list.ensures.answer at-if4.false in
    let long : at-legal-list.result.value ≡ length (legal_moves at-args.b) =
    ap (λ (a : Answer). a.value) (owed_answer at-args.b at-legal-list.result ok at-legal-list.ensures.answer few) in
    let whole : c.min-entries.result ≡ length (legal_moves at-args.b) = omega (arith, c.min-entries.ensures, few, long) in
    rw c.from.ensures at c.judge.ensures
    ∙ ap₂ (λ (x : ℕ) (l : List ℕ). judgement x at-args.in_check l at-args.list.now)
    (owed_byte at-args.b at-in-check.result ok at-in-check.ensures)
    (owed_room at-args.b _ _ c.min-entries.result ok refl few at-legal-list.ensures.bytes whole)
    ∙ simp (
      ok,
      le-leb _ _ at-if2.false,
      sym at-in-range2.ensures ∙ at-if3.false,
      le-leb (length (legal_moves at-args.b)) 255 few,
    )
