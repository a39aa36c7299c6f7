-- `squares_follow` of lib.rt meets its contract: r ≡ same (now new.entry) (squares_after (now old.entry) source dest promotion).
use mathlib.Core.Path.{ap, sym, ◌∙◌}
use Prim.Native.Nat.{ℕ}
use lib.ListN.{set}
use Rattle.answer.specs.Numbers.{same}
use mathlib.Core.List.{List}
use Rattle.board_after.proofs.Touched.{apart, only_two}
use Rattle.board_after.proofs.squares_follow.Goals as goal

pub two_set-requires : goal.two_set-requires
two_set-requires c =
    let a = c.args in
    apart a.old.now a.step.way.source a.step.way.dest a.step.promotion (sym c.touches_more.ensures ∙ c.if-touches_more.false)

pub returns : goal.returns
returns c =
    let a = c.args in
    let at-touches-more = c.touches_more in
    let at-if1 = c.if-touches_more in
    c.two_set.ensures
    ∙ ap (λ (l : List ℕ). same a.new.now l)
    (ap (set (set a.old.now a.step.way.source 0) a.step.way.dest) c.set_down.ensures
    ∙ sym (only_two a.old.now a.step.way.source a.step.way.dest a.step.promotion (sym at-touches-more.ensures ∙ at-if1.false)))
