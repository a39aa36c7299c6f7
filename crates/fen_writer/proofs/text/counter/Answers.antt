-- `counter` of text.rt meets its contract: Put 91 (now bytes.entry) at (decimal n) (now bytes.exit) r.
use Rattle.answer.proofs.Pushes.{put_both, put_as}
use Rattle.fen_writer.proofs.Counters.{counter_is}
use Rattle.fen_writer.proofs.text.counter.Goals as goal

pub returns : goal.returns
returns c =
    put_as (counter_is c.args.n c.requires.n_le_last_count)
    (put_both c.push_if-a.ensures (put_both c.push_if-b.ensures (put_both c.push_if-c.ensures c.push.ensures)))
