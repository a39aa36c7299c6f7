-- `read_first` of short.rt meets its contract: r ≡ short_of (now s.entry) n.
use Rattle.san_reader.specs.CodeShort.{short_of}
use borrow.Author.Tests.{eq-eqb, ne_eqb}
use Rattle.san_reader.proofs.short.read_first.Goals as goal

pub returns-then-n-eq3 : goal.returns-then-n-eq3
unfolding short_of
returns-then-n-eq3 c = simp (eq-eqb _ _ c.if-n-eq3.true, c.read_three.ensures)

pub returns-then-n-eq4 : goal.returns-then-n-eq4
unfolding short_of
returns-then-n-eq4 c =
    let at-if1 = c.if-n-eq3 in
    let at-if2 = c.if-n-eq4 in
    simp (ne_eqb _ _ at-if1.false, eq-eqb _ _ at-if2.true, c.read_four.ensures)

pub returns-then-n-eq2 : goal.returns-then-n-eq2
unfolding short_of
returns-then-n-eq2 c =
    let at-if1 = c.if-n-eq3 in
    let at-if2 = c.if-n-eq4 in
    let at-if3 = c.if-n-eq2 in
    simp (ne_eqb _ _ at-if1.false, ne_eqb _ _ at-if2.false, eq-eqb _ _ at-if3.true, c.read_two.ensures)

pub returns : goal.returns
unfolding short_of
returns c =
    let at-if1 = c.if-n-eq3 in
    let at-if2 = c.if-n-eq4 in
    let at-if3 = c.if-n-eq2 in
    simp (ne_eqb _ _ at-if1.false, ne_eqb _ _ at-if2.false, ne_eqb _ _ at-if3.false)
