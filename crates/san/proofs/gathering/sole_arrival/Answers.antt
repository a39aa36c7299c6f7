-- `sole_arrival` of gathering.rt meets its contract: r ≡ over_list (now moves.entry) (sole_move standard (now pieces.entry) t (now moves.entry)).
use native.Mathlib.Omega.{arith}
use mathlib.Core.Path.{◌∙◌}
use mathlib.Core.Bool.{true, false}
use borrow.Author.Tests.{eq-eqb, ne_eqb}
use Rattle.san.proofs.Soles.{picks}
use Rattle.san.proofs.Gathers.{gathers_by, lowest_by, largest_in_sum, sum_most, least_in_others, two_answer, exact_answer, list_by}
use Rattle.san.proofs.gathering.sole_arrival.Goals as goal

pub returns-then-g-ne0 : goal.returns-then-g-ne0
returns-then-g-ne0 c =
    let a = c.args in
    let at_pre = c.requires in
    let at-mask-of = c.mask_of-mask in
    let at-want-of = c.want_of-want in
    let at-gather-all = c.gather_all-g in
    let at-if1 = c.if-g-ne0 in
    let l = a.moves.now in
    let t = a.t in
    let g = at-gather-all.result in
    let k = gathers_by t at-mask-of.result at-want-of.result l g at-mask-of.ensures at-want-of.ensures at-gather-all.ensures in
    let bad = list_by (picks t) l g k at_pre.moves_len_bound false (ne_eqb g.above 0 at-if1.true) in
    simp (bad, c.refused.ensures)

pub overflow_sub-g : goal.overflow_sub-g
overflow_sub-g c =
    let a = c.args in
    let at-mask-of = c.mask_of-mask in
    let at-want-of = c.want_of-want in
    let at-gather-all = c.gather_all-g in
    let l = a.moves.now in
    let t = a.t in
    let g = at-gather-all.result in
    let k = gathers_by t at-mask-of.result at-want-of.result l g at-mask-of.ensures at-want-of.ensures at-gather-all.ensures in
    largest_in_sum (picks t) l g k

pub sole_of_two-requires : goal.sole_of_two-requires
sole_of_two-requires c =
    let a = c.args in
    let at_pre = c.requires in
    let at-mask-of = c.mask_of-mask in
    let at-want-of = c.want_of-want in
    let at-gather-all = c.gather_all-g in
    let l = a.moves.now in
    let t = a.t in
    let k = gathers_by t at-mask-of.result at-want-of.result l at-gather-all.result at-mask-of.ensures at-want-of.ensures at-gather-all.ensures in
    record {
      n_bound = omega (arith, largest_in_sum (picks t) l at-gather-all.result k, sum_most (picks t) l at-gather-all.result k at_pre.moves_len_bound);
      x_bound = omega (arith, largest_in_sum (picks t) l at-gather-all.result k, sum_most (picks t) l at-gather-all.result k at_pre.moves_len_bound);
      y_bound = omega (arith, largest_in_sum (picks t) l at-gather-all.result k, sum_most (picks t) l at-gather-all.result k at_pre.moves_len_bound);
    }

pub returns-then-g-le2 : goal.returns-then-g-le2
returns-then-g-le2 c =
    let a = c.args in
    let at_pre = c.requires in
    let at-mask-of = c.mask_of-mask in
    let at-want-of = c.want_of-want in
    let at-gather-all = c.gather_all-g in
    let at-if1 = c.if-g-ne0 in
    let at-if2 = c.if-g-le2 in
    let l = a.moves.now in
    let t = a.t in
    let g = at-gather-all.result in
    let k = gathers_by t at-mask-of.result at-want-of.result l g at-mask-of.ensures at-want-of.ensures at-gather-all.ensures in
    let ok = eq-eqb g.above 0 at-if1.false in
    let good = list_by (picks t) l g k at_pre.moves_len_bound true ok in
    simp good (c.sole_of_two.ensures ∙ two_answer a.standard a.pieces.now t l g at_pre.dest_bound at_pre.promotion_value at_pre.file_bound
    at_pre.rank_bound k ok at-if2.true)

pub overflow_sub-g-then-g-eq3 : goal.overflow_sub-g-then-g-eq3
overflow_sub-g-then-g-eq3 c =
    let a = c.args in
    let at-mask-of = c.mask_of-mask in
    let at-want-of = c.want_of-want in
    let at-gather-all = c.gather_all-g in
    let l = a.moves.now in
    let t = a.t in
    let g = at-gather-all.result in
    let k = gathers_by t at-mask-of.result at-want-of.result l g at-mask-of.ensures at-want-of.ensures at-gather-all.ensures in
    largest_in_sum (picks t) l g k

pub overflow_sub-g-then-g-eq3-2 : goal.overflow_sub-g-then-g-eq3-2
overflow_sub-g-then-g-eq3-2 c =
    let a = c.args in
    let at-mask-of = c.mask_of-mask in
    let at-want-of = c.want_of-want in
    let at-gather-all = c.gather_all-g in
    let at-if3 = c.if-g-eq3 in
    let at-least-source = c.least_source-low in
    let l = a.moves.now in
    let t = a.t in
    let g = at-gather-all.result in
    let k = gathers_by t at-mask-of.result at-want-of.result l g at-mask-of.ensures at-want-of.ensures at-gather-all.ensures in
    least_in_others (picks t) l g k at-least-source.result at-if3.true
    (lowest_by t at-mask-of.result at-want-of.result l at-least-source.result at-mask-of.ensures at-want-of.ensures at-least-source.ensures)

pub sole_of_three-requires : goal.sole_of_three-requires
sole_of_three-requires c =
    let a = c.args in
    let at_pre = c.requires in
    let at-mask-of = c.mask_of-mask in
    let at-want-of = c.want_of-want in
    let at-gather-all = c.gather_all-g in
    let at-if3 = c.if-g-eq3 in
    let at-least-source = c.least_source-low in
    let l = a.moves.now in
    let t = a.t in
    let g = at-gather-all.result in
    let k = gathers_by t at-mask-of.result at-want-of.result l g at-mask-of.ensures at-want-of.ensures at-gather-all.ensures in
    record {
      x_bound = omega (
        arith,
        largest_in_sum (picks t) l g k,
        sum_most (picks t) l g k at_pre.moves_len_bound,
        least_in_others (picks t) l g k at-least-source.result
            at-if3.true (lowest_by t at-mask-of.result at-want-of.result l at-least-source.result at-mask-of.ensures at-want-of.ensures
            at-least-source.ensures),
      );
      y_bound = omega (
        arith,
        largest_in_sum (picks t) l g k,
        sum_most (picks t) l g k at_pre.moves_len_bound,
        least_in_others (picks t) l g k at-least-source.result
            at-if3.true (lowest_by t at-mask-of.result at-want-of.result l at-least-source.result at-mask-of.ensures at-want-of.ensures
            at-least-source.ensures),
      );
      z_bound = omega (
        arith,
        largest_in_sum (picks t) l g k,
        sum_most (picks t) l g k at_pre.moves_len_bound,
        least_in_others (picks t) l g k at-least-source.result
            at-if3.true (lowest_by t at-mask-of.result at-want-of.result l at-least-source.result at-mask-of.ensures at-want-of.ensures
            at-least-source.ensures),
      );
    }

pub returns-then-g-eq3 : goal.returns-then-g-eq3
returns-then-g-eq3 c =
    let a = c.args in
    let at_pre = c.requires in
    let at-mask-of = c.mask_of-mask in
    let at-want-of = c.want_of-want in
    let at-gather-all = c.gather_all-g in
    let at-if1 = c.if-g-ne0 in
    let at-if3 = c.if-g-eq3 in
    let at-least-source = c.least_source-low in
    let l = a.moves.now in
    let t = a.t in
    let g = at-gather-all.result in
    let k = gathers_by t at-mask-of.result at-want-of.result l g at-mask-of.ensures at-want-of.ensures at-gather-all.ensures in
    let ok = eq-eqb g.above 0 at-if1.false in
    let good = list_by (picks t) l g k at_pre.moves_len_bound true ok in
    simp good (c.sole_of_three.ensures ∙ exact_answer a.standard a.pieces.now t l g at_pre.dest_bound at_pre.promotion_value at_pre.file_bound
    at_pre.rank_bound k ok at-least-source.result at-if3.true
    (lowest_by t at-mask-of.result at-want-of.result l at-least-source.result at-mask-of.ensures at-want-of.ensures
    at-least-source.ensures))

pub returns : goal.returns
returns c =
    let a = c.args in
    let at_pre = c.requires in
    let at-mask-of = c.mask_of-mask in
    let at-want-of = c.want_of-want in
    let at-gather-all = c.gather_all-g in
    let at-if1 = c.if-g-ne0 in
    let l = a.moves.now in
    let t = a.t in
    let g = at-gather-all.result in
    let k = gathers_by t at-mask-of.result at-want-of.result l g at-mask-of.ensures at-want-of.ensures at-gather-all.ensures in
    let ok = eq-eqb g.above 0 at-if1.false in
    let good = list_by (picks t) l g k at_pre.moves_len_bound true ok in
    simp (good, c.sole_move.ensures)
