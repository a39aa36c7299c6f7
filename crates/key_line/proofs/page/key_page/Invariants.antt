-- `key_page` of page.rt meets its contract: r ≡ key_page (now text.entry) (length (now out.entry)); now out.exit ≡ key_room (now text.entry) (now
-- out.entry); (r.taken ≤ length (now text.entry)) × (r.ready ≤ length (now out.entry)).
use Prim.Native.Nat.{◌-◌}
use lib.ListN.{length}
use Rattle.key_line.proofs.Going.{Gone}
use Rattle.key_line.proofs.page.key_page.Given as goal

abbrev pub invariant-loop-out : goal.invariant-loop-out
invariant-loop-out l = Gone l.text l.initial.out l.out l.taken l.ready l.accepted l.refused

abbrev pub decreases-loop-out : goal.decreases-loop-out
decreases-loop-out l = length l.text - l.taken
