-- `repeats` of repeats.rt meets its contract: r ≡ repeats_below (counts_at (now told.entry)) (alike_in (now records.entry)) lines.
use Rattle.report.proofs.Chains.{linked_none}
use Rattle.report.proofs.repeats.repeats.Goals as goal

pub link_lines-requires : goal.link_lines-requires
link_lines-requires c =
    record { bucketed = c.requires; linked = linked_none c.args.page.records.now c.args.page.told.now c.args.buckets.now }
