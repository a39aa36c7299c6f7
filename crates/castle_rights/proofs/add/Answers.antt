-- `add` of lib.rt meets its contract: r ≡ add_rights rights add.
use borrow.Author.Tests.{lt-ltb}
use mathlib.Core.Path.{◌∙◌, ap}
use Rattle.answer.specs.Answer.{accepted}
use Rattle.castle_rights.proofs.Bits.{or_adds}
use Rattle.castle_rights.proofs.add.Goals as goal

pub returns : goal.returns
returns c =
    let first = c.if-rights-ge4.false in
    let second = c.if-add-ge4.false in
    c.accepted_byte.ensures ∙ simp (lt-ltb _ _ first, lt-ltb _ _ second) (ap accepted (or_adds _ _ first second))
