-- `full_moves` of full.rt meets its contract: (long : ℕ) → r ≡ numbered b half long at (tokens (now s.entry)).
use mathlib.Core.Path.{sym, ap, ◌∙◌}
use native.Mathlib.Omega.{arith}
use Prim.Native.Nat.{◌<◌}
use lib.ListN.{take}
use Rattle.board_builder.specs.BoardBuilder.{last_count}
use Rattle.fen_text.specs.Token.{place_of}
use Rattle.fen_text.specs.Full.{counter_of}
use Rattle.fen_reader.proofs.FullCuts.{no_number, big_number, a_number}
use Rattle.fen_reader.proofs.full.full_moves.Goals as goal

pub returns-in_default : goal.returns-in_default
returns-in_default c =
    let a = c.args in
    let s = a.s.now in
    let big : last_count < counter_of (take (place_of 32 s) s) = rw (← c.first.ensures) (omega (arith, c.in_default.ensures)) in
    λ long. c.refused_at.ensures ∙ big_number a.b a.half long a.at s big

pub returns-then-full-eq0 : goal.returns-then-full-eq0
returns-then-full-eq0 c =
    let a = c.args in
    let s = a.s.now in
    let says = c.in-Some.ensures.1 ∙ ap counter_of c.first.ensures in
    λ long. c.refused_at-then-full-eq0.ensures ∙ no_number a.b a.half long a.at s (sym says ∙ c.if-full-eq0.true)

pub returns : goal.returns
returns c =
    let a = c.args in
    let says = c.in-Some.ensures.1 ∙ ap counter_of c.first.ensures in
    λ long.
    c.with_counters.ensures
    ∙ a_number a.b a.half long a.at a.s.now _ says c.if-full-eq0.false (omega (arith, c.in-Some.ensures.0, c.in-Some.ensures.1))
