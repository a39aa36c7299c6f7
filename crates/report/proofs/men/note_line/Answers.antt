-- `note_line` of men.rt meets its contract: r ≡ one (counts_at (now told.entry) k); AddedIf (counts_at (now told.entry) k) (squares_at (now (records
-- .entry)) k) (now men.entry) (now men.exit); now buckets.exit ≡ cond (counts_at (now told.entry) k) (set (now buckets.entry) k (bucket_of
-- (record_at (now records.entry) k))) (now buckets.entry).
use native.Mathlib.Omega.{arith}
use Rattle.report.proofs.Sums.{here_long, here_codes}
use Rattle.report.proofs.men.note_line.Goals as goal

pub note_record-requires : goal.note_record-requires
note_record-requires c =
    let a = c.args in
    let pre = c.requires in
    let long = here_long a.page.records.now a.k c.record_at.ensures (omega (arith, a.page.rooms.records_long, pre.k_lt_lines)) in
    let codes = here_codes a.page.records.now a.k c.record_at.ensures (a.page.rooms.codes a.k pre.k_lt_lines) in
    record { numbers_len = long; numbers_value = codes; by_index = pre.by_index }
