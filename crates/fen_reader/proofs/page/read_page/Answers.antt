-- `read_page` of page.rt meets its contract: r ≡ page_answer (now text.entry) (length (now records.entry)) (length (now told.entry)); now (records
-- .exit) ≡ records_left (now text.entry) (now records.entry) (length (now told.entry)); now told.exit ≡ told_left (now text.entry) (length
-- (now records.entry)) (now told.entry).
use mathlib.Core.Path.{◌≡◌, ap, ◌∙◌}
use Prim.Native.Nat.{◌*◌, ◌≤◌, ◌<◌}
use native.Mathlib.Omega.{arith}
use lib.ListN.{length}
use Rattle.board_builder.specs.BoardBuilder.{record_size}
use Rattle.answer.specs.Answer.{accepted, too_short}
use Rattle.fen_text.specs.Page.{told_size, line_count}
use Rattle.fen_text.proofs.Pages.{records_cut, told_cut, both_fit, page_refused, page_taken}
use Rattle.fen_reader.proofs.page.read_page.Goals as goal

pub returns-then-records-lines : goal.returns-then-records-lines
returns-then-records-lines c =
    let a = c.args in
    let s = a.text.now in
    let records = a.records.now in
    let told = a.told.now in
    let n : c.line_count-lines.result ≡ line_count s = c.line_count-lines.ensures in
    let cut : length records < record_size * line_count s = omega (arith, c.if-records-lines.true) in
    let all = page_refused s records told (records_cut s (length records) (length told) cut) in
    record { answer = c.too_short.ensures ∙ ap too_short n ∙ all.0; records = all.1; told = all.2 }

pub returns-then-told-lines : goal.returns-then-told-lines
returns-then-told-lines c =
    let a = c.args in
    let at-line-count = c.line_count-lines in
    let s = a.text.now in
    let records = a.records.now in
    let told = a.told.now in
    let n : at-line-count.result ≡ line_count s = at-line-count.ensures in
    let cut : length told < told_size * line_count s = omega (arith, c.if-told-lines.true) in
    let all = page_refused s records told (told_cut s (length records) (length told) cut) in
    record { answer = c.too_short-then-told-lines.ensures ∙ ap too_short n ∙ all.0; records = all.1; told = all.2 }

pub returns : goal.returns
returns c =
    let at-args = c.args in
    let at-line-count = c.line_count-lines in
    let at-if1 = c.if-records-lines in
    let at-if2 = c.if-told-lines in
    let at-read-lines = c.read_lines in
    let s = at-args.text.now in
    let records = at-args.records.now in
    let told = at-args.told.now in
    let n : at-line-count.result ≡ line_count s = at-line-count.ensures in
    let a : record_size * line_count s ≤ length records = omega (arith, at-if1.false) in
    let b : told_size * line_count s ≤ length told = omega (arith, at-if2.false) in
    let all = page_taken s records told (both_fit s (length records) (length told) a b) in
    record { answer = c.accepted.ensures ∙ ap accepted n ∙ all.0; records = at-read-lines.ensures.records ∙ all.1; told = at-read-lines.ensures.told ∙ all.2 }
