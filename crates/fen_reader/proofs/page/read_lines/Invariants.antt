-- `read_lines` of page.rt meets its contract: now records.exit ≡ overwrite (page_records (now text.entry)) (now records.entry); now told.exit ≡
-- overwrite (page_told (now text.entry)) (now told.entry).
use Prim.Native.Nat.{◌-◌}
use lib.ListN.{length}
use Rattle.fen_reader.proofs.Paging.{Reached}
use Rattle.fen_reader.proofs.page.read_lines.Given as goal

abbrev pub invariant-loop-at : goal.invariant-loop-at
invariant-loop-at l = Reached l.text l.initial.records l.initial.told l.records l.told l.at l.line

abbrev pub decreases-loop-at : goal.decreases-loop-at
decreases-loop-at l = length l.text - l.at
