-- `remove` of lib.rt meets its contract: r ≡ remove_rights rights remove.
use borrow.Author.Tests.{lt-ltb}
use mathlib.Core.Path.{◌∙◌, ap}
use Rattle.answer.specs.Answer.{accepted}
use Rattle.castle_rights.proofs.Bits.{and_not_removes}
use Rattle.castle_rights.proofs.remove.Goals as goal

pub returns : goal.returns
returns c =
    let first = c.if-rights-ge4.false in
    let second = c.if-remove-ge4.false in
    c.accepted_byte.ensures ∙ simp (lt-ltb _ _ first, lt-ltb _ _ second) (ap accepted (and_not_removes _ _ first second))
