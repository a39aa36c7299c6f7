-- `note_record` of men.rt meets its contract: r ≡ bucket_of (now numbers.entry); Added (take squares (now numbers.entry)) (now men.entry) (now (men
-- .exit)).
use Rattle.report.proofs.Sums.{front_asks, record_bucket, record_added}
use Rattle.report.proofs.men.note_record.Goals as goal

pub planes_of-planes-requires : goal.planes_of-planes-requires
planes_of-planes-requires c =
    let pre = c.requires in
    let whole = front_asks c.args.numbers.now c.front.ensures pre.numbers_len pre.numbers_value in record { places_len = whole.0; places_value = whole.1 }

pub returns : goal.returns
returns c =
    let a = c.args in
    let at_pre = c.requires in
    let at_front = c.front in
    let at-planes-of = c.planes_of-planes in
    let at-sets-of = c.sets_of-kinds in
    let at-add-men = c.add_men in
    let at-four-bytes = c.four_bytes in
    let numbers = a.numbers.now in
    let front = at_front.ensures in
    let planes = at-planes-of.ensures in
    let added = record_added numbers front at_pre.numbers_len planes at_pre.numbers_value at-sets-of.ensures at-add-men.ensures in
    record { bucket = record_bucket numbers front at_pre.numbers_len planes at-four-bytes.ensures.value c.bucket.ensures; men = added }
