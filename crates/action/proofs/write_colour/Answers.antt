-- `write_colour` of lib.rt meets its contract: r ≡ write_answer (colour_check colour) (fields kind colour 0) (length (now out.entry)); now out.exit ≡
-- write_bytes (colour_check colour) (fields kind colour 0) (now out.entry).
use Rattle.action.proofs.Rules.{colour_refused}
use Rattle.action.proofs.write_colour.Goals as goal

pub returns-then-colour-gt-BLACK : goal.returns-then-colour-gt-BLACK
returns-then-colour-gt-BLACK c = let whole = colour_refused _ _ _ c.if-colour-gt-BLACK.true c.refused.ensures in record { answer = whole.0; bytes = whole.1 }
