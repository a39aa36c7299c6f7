-- `en_passant` of text.rt meets its contract: Put 91 (now bytes.entry) n (en_passant_text side file) (now bytes.exit) r.
use Rattle.answer.proofs.Pushes.{put_both, put_as}
use Rattle.fen_writer.proofs.Parts.{no_file, white_file, black_file}
use Rattle.fen_writer.proofs.text.en_passant.Goals as goal

pub returns-then-file-eq0 : goal.returns-then-file-eq0
returns-then-file-eq0 c = put_as (no_file _ _ c.if-file-eq0.true) c.push.ensures

pub returns-then-side-eq0 : goal.returns-then-side-eq0
returns-then-side-eq0 c =
    let small = c.requires.file_bound in
    let some = c.if-file-eq0.false in
    put_as (white_file _ _ small some c.if-side-eq0.true) (put_both c.push-m.ensures c.push-then-side-eq0.ensures)

pub returns : goal.returns
returns c =
    let small = c.requires.file_bound in
    let some = c.if-file-eq0.false in
    put_as (black_file _ _ small some c.if-side-eq0.false) (put_both c.push-m.ensures c.push-2.ensures)
