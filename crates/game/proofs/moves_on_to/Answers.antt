-- `moves_on_to` of lib.rt meets its contract: r ≡ moves_on_to (now p.entry) x next.
use mathlib.Core.Path.{sym, ◌∙◌}
use Rattle.move_rules.specs.Leads.{counters_lead}
use Rattle.game.specs.CodeAnswers.{moves_on_to}
use Rattle.game.proofs.moves_on_to.Goals as goal

pub returns-then-not-leads_to_board : goal.returns-then-not-leads_to_board
unfolding moves_on_to
returns-then-not-leads_to_board c = simp (sym c.leads_to_board.ensures ∙ c.if-not-leads_to_board.true)

pub returns : goal.returns
unfolding moves_on_to
returns c =
    let a = c.args in
    let at-leads-to-board = c.leads_to_board in
    let at-if1 = c.if-not-leads_to_board in
    let at-half-of = c.half_of in
    let at-full-of = c.full_of in
    let p = a.p.now in
    let next = a.next in
    c.counters_lead.ensures
    ∙ (λ i. counters_lead p a.x (at-half-of.ensures i) (at-full-of.ensures i) next.half_moves next.full_moves)
    ∙ sym (simp (sym at-leads-to-board.ensures ∙ at-if1.false))
