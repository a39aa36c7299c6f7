-- `offer_stands` of lib.rt meets its contract: r ≡ offer_at (now acts.entry) (now ps.entry) n m.
use Rattle.std.proofs.Common.{rules}
use borrow.Author.Tests.{tests}
use mathlib.Core.Path.{◌≡◌, ap, ap₂, sym, ◌∙◌}
use mathlib.Core.List.{List}
use Prim.Native.Nat.{ℕ, ◌-◌}
use lib.ListN.{get_or}
use Rattle.board_builder.specs.BoardBuilder.{side_at}
use Rattle.actions.specs.Part.{last_action}
use Rattle.position.specs.Layout.{side, position_at}
use Rattle.position.proofs.Fields.{side_at_fact}
use Rattle.ending.specs.Ending.{is_offer, is_offer_by}
use Rattle.ending.proofs.Standing.{stands_last, stands_before, none_before}
use Rattle.ending.proofs.offer_stands.Goals as goal

pub returns-then-is_offer : goal.returns-then-is_offer
returns-then-is_offer c =
    let a = c.args in
    let at_last = c.last in
    sym (stands_last (position_at a.ps.now a.m) (last_action a.acts.now a.n) (last_action a.acts.now (a.n - 1))
    (ap is_offer (sym at_last.ensures) ∙ sym c.is_offer.ensures ∙ c.if-is_offer.true))

pub returns-then-n-eq0 : goal.returns-then-n-eq0
returns-then-n-eq0 c =
    let a = c.args in
    let at_last = c.last in
    let at-is-offer = c.is_offer in
    let before = last_action a.acts.now (a.n - 1) in
    sym (stands_before (position_at a.ps.now a.m) (last_action a.acts.now a.n) before
    (ap is_offer (sym at_last.ensures) ∙ sym at-is-offer.ensures ∙ c.if-is_offer.false)
    ∙ none_before a.acts.now a.n _ c.if-n-eq0.true)

pub returns : goal.returns
returns c =
    let a = c.args in
    let at_last = c.last in
    let at-is-offer = c.is_offer in
    let at-if1 = c.if-is_offer in
    let at_at = c.at in
    let at-byte-at = c.byte_at-side in
    let s = at-byte-at.result in
    let other : c.from-other_side.result ≡ 1 - s = search (rules, tests) in
    let before = last_action a.acts.now (a.n - 1) in
    let side_is : at-byte-at.result ≡ side (position_at a.ps.now a.m) =
    at-byte-at.ensures ∙ ap (λ (p : List ℕ). get_or p side_at 0) at_at.ensures ∙ sym (side_at_fact _) in
    c.is_offer_by.ensures
    ∙ ap₂ is_offer_by (other ∙ ap (λ (s : ℕ). 1 - s) side_is) c.last-2.ensures
    ∙ sym (stands_before (position_at a.ps.now a.m) (last_action a.acts.now a.n) before
    (ap is_offer (sym at_last.ensures) ∙ sym at-is-offer.ensures ∙ at-if1.false))
