-- `move_leads` of lib.rt meets its contract: r ≡ move_leads (now p.entry) m (now q.entry).
use mathlib.Core.Path.{sym, ◌∙◌}
use Rattle.move_rules.specs.Leads.{counters_lead}
use Rattle.good_log.proofs.Turns.{no_lead, other_record, by_counters}
use Rattle.good_log.proofs.move_leads.Goals as goal

pub returns-then-not-is_rest_with : goal.returns-then-not-is_rest_with
returns-then-not-is_rest_with c =
    let a = c.args in
    let at_pre = c.requires in
    let at-shared-slice-known = c.shared_slice_known-1 in
    let at-is-rest-with = c.is_rest_with in
    no_lead a.p.now at_pre.1 a.q.now a.m (λ i. (at-shared-slice-known.given i).fits)
    (sym at-is-rest-with.ensures ∙ c.if-not-is_rest_with.true)

pub returns-then-not-leads_to : goal.returns-then-not-leads_to
returns-then-not-leads_to c =
    let a = c.args in
    let at_pre = c.requires in
    let at-shared-slice-known = c.shared_slice_known-1 in
    let at-is-rest-with = c.is_rest_with in
    let at-if1 = c.if-not-is_rest_with in
    let at-leads-to = c.leads_to in
    other_record a.p.now at_pre.1 a.q.now a.m (λ i. (at-shared-slice-known.given i).fits)
    (sym at-is-rest-with.ensures ∙ at-if1.false)
    (sym at-leads-to.ensures ∙ c.if-not-leads_to.true)

pub returns : goal.returns
returns c =
    let a = c.args in
    let at_pre = c.requires in
    let at-shared-slice-known = c.shared_slice_known-1 in
    let at-is-rest-with = c.is_rest_with in
    let at-if1 = c.if-not-is_rest_with in
    let at-leads-to = c.leads_to in
    let at-if2 = c.if-not-leads_to in
    let at-half-of = c.half_of in
    let at-full-of = c.full_of in
    let at-half-of2 = c.half_of-2 in
    let at-full-of2 = c.full_of-2 in
    let p = a.p.now in
    c.counters_lead.ensures
    ∙ (λ i. counters_lead p a.m (at-half-of.ensures i) (at-full-of.ensures i) (at-half-of2.ensures i) (at-full-of2.ensures i))
    ∙ by_counters p at_pre.1 a.q.now a.m (λ i. (at-shared-slice-known.given i).fits)
    (sym at-is-rest-with.ensures ∙ at-if1.false)
    (sym at-leads-to.ensures ∙ at-if2.false)
