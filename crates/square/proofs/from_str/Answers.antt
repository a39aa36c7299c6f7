-- `from_str` of lib.rt meets its contract: r ≡ read_square (now text.entry).
use mathlib.Core.Path.{◌∙◌, sym}
use Rattle.square.proofs.Squares.{read_short, read_pair}
use Rattle.square.proofs.from_str.Goals as goal

pub returns-then-text-lt2 : goal.returns-then-text-lt2
returns-then-text-lt2 c = sym (read_short _ c.if-text-lt2.true)

pub returns : goal.returns
returns c = c.from_bytes.ensures ∙ sym (read_pair _ c.if-text-lt2.false)
