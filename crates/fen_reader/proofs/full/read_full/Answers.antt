-- `read_full` of full.rt meets its contract: r ≡ read_full (now text.entry).
use mathlib.Core.Path.{◌≡◌, sym, ap, ◌∙◌}
use mathlib.Core.List.{List}
use Prim.Native.Nat.{ℕ, ◌-◌}
use lib.ListN.{length}
use Rattle.fen_text.specs.declared.Fen.{Fen}
use Rattle.fen_text.specs.Token.{tokens}
use Rattle.fen_text.specs.Read.{read_fen}
use Rattle.fen_text.specs.Full.{clocked}
use Rattle.fen_reader.proofs.FullCuts.{rest, refused_first, no_counters, counters_there}
use Rattle.fen_reader.proofs.full.read_full.Goals as goal

pub returns-then-fen-ne-ACCEPTED : goal.returns-then-fen-ne-ACCEPTED
returns-then-fen-ne-ACCEPTED c =
    let same = c.read_fen-fen.ensures in
    same ∙ refused_first c.args.text.now (λ e. c.if-fen-ne-ACCEPTED.true (ap (λ (f : Fen). f.number) same ∙ e))

pub returns-then-ep-end : goal.returns-then-ep-end
returns-then-ep-end c =
    let a = c.args in
    let at-read-fen = c.read_fen-fen in
    let at-if1 = c.if-fen-ne-ACCEPTED in
    let at_first = c.behind_placement in
    let at_second = c.behind in
    let at-third = c.behind-ep in
    let at-find = c.find-end in
    let at-if2 = c.if-ep-end in
    let s = a.text.now in
    let good : (read_fen s).number ≡ 0 = sym (ap (λ (f : Fen). f.number) at-read-fen.ensures) ∙ at-if1.false in
    let here = at-third.ensures ∙ ap rest (at_second.ensures ∙ ap rest at_first.ensures) in
    c.refused_at.ensures ∙ no_counters s _ good here at-find.result at-find.ensures at-if2.true

pub returns : goal.returns
returns c =
    let a = c.args in
    let at-read-fen = c.read_fen-fen in
    let at-if1 = c.if-fen-ne-ACCEPTED in
    let at_first = c.behind_placement in
    let at_second = c.behind in
    let at-third = c.behind-ep in
    let at-find = c.find-end in
    let at-if2 = c.if-ep-end in
    let at_after = c.after-counters in
    let s = a.text.now in
    let t : List ℕ = at_after.result.now in
    let same = at-read-fen.ensures in
    let good : (read_fen s).number ≡ 0 = sym (ap (λ (f : Fen). f.number) same) ∙ at-if1.false in
    let here = at-third.ensures ∙ ap rest (at_second.ensures ∙ ap rest at_first.ensures) in
    c.half_moves.ensures
    ∙ ap (λ (f : Fen). clocked f.board (length s) (length s - length t) (tokens t)) same
    ∙ counters_there s _ good here at-find.result _ at-find.ensures at-if2.false at_after.ensures
