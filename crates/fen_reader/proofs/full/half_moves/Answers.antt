-- `half_moves` of full.rt meets its contract: r ≡ clocked b long at (tokens (now s.entry)).
use mathlib.Core.Path.{refl, ap, ◌∙◌}
use native.Mathlib.Omega.{arith}
use Prim.Native.Nat.{◌<◌}
use lib.ListN.{take}
use Rattle.board_builder.specs.BoardBuilder.{last_count}
use Rattle.fen_text.specs.Full.{counter_of}
use Rattle.fen_reader.proofs.FullCuts.{no_clock, last_clock, a_clock}
use Rattle.fen_reader.proofs.full.half_moves.Goals as goal

pub returns-in_default : goal.returns-in_default
returns-in_default c =
    let a = c.args in
    let end = c.find-end in
    let big : last_count < counter_of (take end.result a.s.now) = rw (← c.front.ensures) (omega (arith, c.in_default.ensures)) in
    c.refused_at.ensures ∙ no_clock a.b a.long a.at a.s.now end.result _ end.ensures refl big

pub returns-then-s-end : goal.returns-then-s-end
returns-then-s-end c =
    let a = c.args in
    let end = c.find-end in
    let half = c.in-Some.ensures in
    c.refused_at-then-s-end.ensures
    ∙ last_clock a.b a.long a.at a.s.now end.result _ end.ensures (half.1 ∙ ap counter_of c.front.ensures) (omega (arith, half.0, half.1)) c.if-s-end.true

pub returns : goal.returns
returns c =
    let a = c.args in
    let end = c.find-end in
    let half = c.in-Some.ensures in
    c.full_moves.ensures a.long
    ∙ a_clock a.b a.long a.at a.s.now end.result _ end.ensures (half.1 ∙ ap counter_of c.front.ensures)
    _ (omega (arith, half.0, half.1)) c.if-s-end.false c.after.ensures
