-- `link_line` of repeats.rt meets its contract: r ≡ one (counts_at (now told.entry) i && found_below .. i i), and with line i the first i + 1 are linked.
use mathlib.Core.Path.{◌≡◌, sym, ◌∙◌}
use mathlib.Core.Bool.{Bool, true, false}
use mathlib.Core.List.{List}
use Prim.Native.Nat.{ℕ, ◌+◌, ◌*◌, ◌<◌}
use native.Mathlib.Omega.{arith}
use lib.ListN.{get_or}
use borrow.Author.Tests.{eq-eqb, ne_eqb}
use Rattle.fen_text.specs.Page.{told_size}
use Rattle.report_text.specs.Report.{most_lines}
use Rattle.report_text.specs.Repeats.{found_below}
use Rattle.report.specs.CodeSets.{bucket_count}
use Rattle.report.specs.CodeRooms.{counts_at, alike_in, Bucketed}
use Rattle.report.specs.CodeChains.{bucket_in, Chained, Linked}
use Rattle.report.proofs.Chains.{bucket_below, chained_at, linked_old, linked_more, old_not_counted, old_found, is_new_fact, latest_le}
use Rattle.report.proofs.repeats.link_line.Goals as goal

-- line i counts: its bucket is one of the heads, and what `earlier` told is whether one like it is found below
module _ (records told buckets heads next : List ℕ) (i : ℕ) (bucketed : Bucketed records told buckets (i + 1)) (e : get_or told (told_size * i) 0 ≡ 0) where
  counted : counts_at told i ≡ true
  counted = eq-eqb _ _ e

  below : bucket_in buckets i < bucket_count
  below = bucket_below records told buckets i bucketed counted

  told_found : {r : Bool} → Linked records told buckets heads next i
      → ((counts : ℕ → Bool) (bucket : ℕ → ℕ) → Chained counts (alike_in records) bucket next (get_or heads (bucket_in buckets i) 0) i
      → r ≡ found_below counts (alike_in records) i i)
      → r ≡ found_below (counts_at told) (alike_in records) i i
  told_found linked told_by =
      told_by (counts_at told) (bucket_in buckets) (chained_at records told buckets i heads next linked bucketed counted)

pub returns-then-page-i-ne0 : goal.returns-then-page-i-ne0
returns-then-page-i-ne0 c =
    let a = c.args in
    let out : counts_at a.page.told.now a.i ≡ false = ne_eqb _ _ c.if-page-i-ne0.true in
    let old = old_not_counted (counts_at a.page.told.now) (alike_in a.page.records.now) a.i out in
    record { repeat = rw out; links = linked_old a.page.records.now a.page.told.now a.buckets.now a.i a.heads.now a.next.now c.requires.linked old }

pub bounds-heads-bucket : goal.bounds-heads-bucket
bounds-heads-bucket c =
    let a = c.args in
    below a.page.records.now a.page.told.now a.buckets.now a.heads.now a.next.now a.i c.requires.bucketed c.if-page-i-ne0.false

pub earlier-requires : goal.earlier-requires
earlier-requires c =
    let a = c.args in
    let was = c.requires.linked in
    let bucket = bucket_in a.buckets.now in
    let in_heads = below a.page.records.now a.page.told.now a.buckets.now a.heads.now a.next.now a.i c.requires.bucketed c.if-page-i-ne0.false in
    let from = was.heads_latest (bucket a.i) in_heads in
    let most = latest_le (counts_at a.page.told.now) (alike_in a.page.records.now) bucket (bucket a.i) a.i in
    record {
      i_lt_lines = c.requires.i_lt_lines;
      i_in_bounds = omega (arith, was.next_long, c.requires.i_lt_lines, a.page.rooms.few);
      from_le_i = omega (arith, from, most);
      falling = was.falls;
    }

pub returns-then-earlier : goal.returns-then-earlier
returns-then-earlier c =
    let a = c.args in
    let in_it = counted a.page.records.now a.page.told.now a.buckets.now a.heads.now a.next.now a.i c.requires.bucketed c.if-page-i-ne0.false in
    let told =
    told_found a.page.records.now a.page.told.now a.buckets.now a.heads.now a.next.now a.i c.requires.bucketed c.if-page-i-ne0.false c.requires.linked
    c.earlier.ensures in
    let found = sym told ∙ c.if-earlier.true in
    let old = old_found (counts_at a.page.told.now) (alike_in a.page.records.now) a.i found in
    record { repeat = rw (in_it, found); links = linked_old a.page.records.now a.page.told.now a.buckets.now a.i a.heads.now a.next.now c.requires.linked old }

pub bounds-heads-bucket-2 : goal.bounds-heads-bucket-2
bounds-heads-bucket-2 c =
    let a = c.args in
    below a.page.records.now a.page.told.now a.buckets.now a.heads.now a.next.now a.i c.requires.bucketed c.if-page-i-ne0.false

pub returns : goal.returns
returns c =
    let a = c.args in
    let in_it = counted a.page.records.now a.page.told.now a.buckets.now a.heads.now a.next.now a.i c.requires.bucketed c.if-page-i-ne0.false in
    let told =
    told_found a.page.records.now a.page.told.now a.buckets.now a.heads.now a.next.now a.i c.requires.bucketed c.if-page-i-ne0.false c.requires.linked
    c.earlier.ensures in
    let none = sym told ∙ c.if-earlier.false in
    let few : a.i < most_lines = omega (arith, c.requires.i_lt_lines, a.page.rooms.few) in
    let new = is_new_fact (counts_at a.page.told.now) (alike_in a.page.records.now) a.i in_it none in record {
      repeat = rw (in_it, none);
      links = linked_more a.page.records.now a.page.told.now a.buckets.now a.i a.heads.now a.next.now c.requires.linked few
          (below a.page.records.now a.page.told.now a.buckets.now a.heads.now a.next.now a.i c.requires.bucketed c.if-page-i-ne0.false) new;
    }
