-- `place_from` of text.rt meets its contract: r ≡ place_from base b.
use borrow.Author.Tests.{le-leb, lt-leb}
use mathlib.Core.Path.{sym}
use Rattle.san_text.specs.Place.{place_from}
use Rattle.san_text.proofs.Places.{place_before}
use Rattle.san_reader.proofs.text.place_from.Goals as goal

pub returns-then-b-base : goal.returns-then-b-base
returns-then-b-base c = sym (place_before _ _ c.if-b-base.true)

pub returns-then-place-le8 : goal.returns-then-place-le8
unfolding place_from
returns-then-place-le8 c = simp (le-leb _ _ c.if-place-le8.true)

pub returns-else-place-le8 : goal.returns-else-place-le8
unfolding place_from
returns-else-place-le8 c = simp (lt-leb _ _ c.if-place-le8.false)
