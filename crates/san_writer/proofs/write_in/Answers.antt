-- `write_in` of lib.rt meets its contract: r ≡ write_answer 0 ((formOf standard).text (now pieces.entry) m file rank) (length (now out.entry)); now
-- out.exit ≡ write_bytes 0 ((formOf standard).text (now pieces.entry) m file rank) (now out.entry).
use mathlib.Core.Path.{ap, ◌∙◌}
use mathlib.Core.List.{◌++◌}
use Prim.Native.Nat.{◌/◌}
use Rattle.san_writer.specs.CodeLetters.{end_in}
use Rattle.san_writer.proofs.Parts.{whole}
use Rattle.san_writer.proofs.write_in.Goals as goal

pub returns : goal.returns
returns c =
    let a = c.args in
    let text = c.as_bytes.ensures ∙ c.end_in.ensures
    ∙ ap (λ h. h ++ end_in a.standard c.dest_of-dest.result (a.m / 4096) c.both.result) c.head-text.ensures.text
    ∙ whole a.standard a.pieces.now a.m a.file a.rank c.kind_of-kind.result c.source_of-source.result c.dest_of-dest.result c.either.result
    c.both-changes_files.result c.both.result c.source_of-source.ensures c.dest_of-dest.ensures c.kind_of-kind.ensures c.both-changes_files.ensures
    c.either.ensures c.both.ensures in
    record { answer = rw (← text) (c.write_text.ensures.answer); bytes = rw (← text) (c.write_text.ensures.bytes) }
