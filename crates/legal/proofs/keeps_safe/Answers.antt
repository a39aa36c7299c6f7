-- `keeps_safe` of lib.rt meets its contract: r ≡ keeps_safe (now squares.entry) king s t, of a king on no square for none.
use borrow.Author.Tests.{lt-ltb, eq-eqb, ne_eqb}
use mathlib.Core.Path.{refl, ap, sym, ◌∙◌}
use mathlib.Core.Bool.{not}
use Rattle.legal.specs.CodeList.{keeps_safe}
use Rattle.legal.proofs.keeps_safe.Goals as goal

pub returns-in_default : goal.returns-in_default
unfolding keeps_safe
returns-in_default c = rw c.in_default.is refl

pub returns-then-source-king : goal.returns-then-source-king
unfolding keeps_safe
returns-then-source-king c = rw c.in-Some.is (simp (lt-ltb _ _ (rw c.in-Some.is at c.requires), eq-eqb _ _ c.if-source-king.true))

pub returns-then-on_line : goal.returns-then-on_line
unfolding keeps_safe
returns-then-on_line c =
    rw c.in-Some.is
    (simp (lt-ltb _ _ (rw c.in-Some.is at c.requires), ne_eqb _ _ c.if-source-king.false, sym c.on_line.ensures ∙ c.if-on_line.true))

pub returns : goal.returns
unfolding keeps_safe
returns c =
    rw c.in-Some.is
    (ap not c.takes_in_passing.ensures
    ∙ simp (lt-ltb _ _ (rw c.in-Some.is at c.requires), ne_eqb _ _ c.if-source-king.false, sym c.on_line.ensures ∙ c.if-on_line.false))
