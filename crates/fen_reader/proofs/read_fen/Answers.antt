-- `read_fen` of lib.rt meets its contract: r ≡ read_fen (now text.entry).
use mathlib.Core.Path.{refl, sym, ◌∙◌}
use Prim.Native.Nat.{◌≤◌}
use native.Mathlib.Omega.{arith}
use lib.ListN.{length}
use Rattle.fen_reader.proofs.Placing.{good_placement}
use Rattle.fen_reader.proofs.Reading.{one_token, two_tokens, three_tokens, four_tokens}
use Rattle.fen_reader.proofs.read_fen.Goals as goal

pub returns-then-text-end : goal.returns-then-text-end
returns-then-text-end c = c.refused_at.ensures ∙ sym (one_token (record {
  place = c.place-walked.ensures.place;
  none =
      let at-if2 = c.if-text-end in
      at-if2.true;
}))

pub returns-then-from_side-side_end : goal.returns-then-from_side-side_end
returns-then-from_side-side_end c =
    let at_place = c.place-walked in
    let at-if2 = c.if-text-end in
    let at_after = c.after-from_side in
    let at-find = c.find-side_end in
    let at-if3 = c.if-from_side-side_end in
    c.refused_at-then-from_side-side_end.ensures
    ∙ sym (two_tokens
    (record { place = at_place.ensures.place; within = at-if2.false; rest = at_after.ensures })
    (record { place = at-find.ensures; none = at-if3.true }))

pub returns-then-from_rights-rights_end : goal.returns-then-from_rights-rights_end
returns-then-from_rights-rights_end c =
    let at_place = c.place-walked in
    let at-if2 = c.if-text-end in
    let at_after = c.after-from_side in
    let at-find = c.find-side_end in
    let at-if3 = c.if-from_side-side_end in
    let at-after2 = c.after-from_rights in
    let at-find2 = c.find-rights_end in
    let at-if4 = c.if-from_rights-rights_end in
    c.refused_at-then-from_rights-rights_end.ensures
    ∙ sym (three_tokens
    (record { place = at_place.ensures.place; within = at-if2.false; rest = at_after.ensures })
    (record { place = at-find.ensures; within = at-if3.false; rest = at-after2.ensures })
    (record { place = at-find2.ensures; none = at-if4.true }))

pub returns : goal.returns
returns c =
    let a = c.args in
    let at_place = c.place-walked in
    let at-if2 = c.if-text-end in
    let at_after = c.after-from_side in
    let at-find = c.find-side_end in
    let at-if3 = c.if-from_side-side_end in
    let at-after2 = c.after-from_rights in
    let at-find2 = c.find-rights_end in
    let at-if4 = c.if-from_rights-rights_end in
    let at-after3 = c.after-from_ep in
    let at-find3 = c.find-ep_end in
    let at-up-to = c.front in
    let at-up-to2 = c.front-2 in
    let at-up-to3 = c.front-3 in
    let s = a.text.now in
    let w = at_place.result in
    let inside : w.end ≤ length s = omega (arith, at-if2.false) in
    let good = rw c.in-Some.is at at_place.ensures.pieces in
    c.assemble.ensures
    ∙ sym (good_placement s w.end _ _ _ _ inside good.0 good.1)
    ∙ sym
    (four_tokens
    (record { place = at_place.ensures.place; within = at-if2.false; rest = at_after.ensures })
    (record { place = at-find.ensures; within = at-if3.false; rest = at-after2.ensures })
    (record { place = at-find2.ensures; within = at-if4.false; rest = at-after3.ensures })
    at-find3.ensures
    refl
    at-up-to.ensures
    at-up-to2.ensures
    at-up-to3.ensures)
