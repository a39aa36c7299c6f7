-- `square_of` of text.rt meets its contract: r ≡ square_at (file_place a) (rank_place b).
use Rattle.san_reader.proofs.Shorts.{square_here, file_low, file_past, rank_low, rank_past}
use Rattle.san_reader.proofs.text.square_of.Goals as goal

pub returns-in-49-to-56 : goal.returns-in-49-to-56
returns-in-49-to-56 c =
    let at-args = c.args in
    square_here at-args.a at-args.b c.in-97-to-104.if-a-lt97-own.false c.in-97-to-104.if-a-lt105-own.true c.in-49-to-56.if-b-lt49-own.false
    c.in-49-to-56.if-b-lt57-own.true

pub returns-in_default-b : goal.returns-in_default-b
returns-in_default-b c =
    let at-args = c.args in
    rank_low at-args.a at-args.b c.in_default-b.if-b-lt49-own.true

pub returns-in_default-b-2 : goal.returns-in_default-b-2
returns-in_default-b-2 c =
    let at-args = c.args in
    rank_past at-args.a at-args.b c.in_default-b.if-b-lt57-own.false

pub returns-in_default : goal.returns-in_default
returns-in_default c = file_low c.args.a c.args.b c.in_default.if-a-lt97-own.true

pub returns-in_default-2 : goal.returns-in_default-2
returns-in_default-2 c = file_past c.args.a c.args.b c.in_default.if-a-lt105-own.false
