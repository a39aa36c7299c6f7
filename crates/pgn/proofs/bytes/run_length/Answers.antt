-- `run_length` of bytes.rt meets its contract: r ≡ run_length run (now s.entry).
use mathlib.Core.Path.{sym, ◌∙◌}
use Rattle.std.proofs.Common.{rules, tests}
use Rattle.std.proofs.lemmas.Iterator.{YieldsList-from_slice}
use Rattle.std.proofs.lemmas.Iterator.Consumers.{count_from_yields_List}
use Rattle.std.proofs.lemmas.Iterator.Search.{YieldsList-from_take_while}
use Rattle.std.proofs.lemmas.List.Folds.{length-prefix_len}
use Rattle.pgn_text.specs.Bytes.{in_run}
use Rattle.pgn_text.proofs.Runs.{run_prefix}
use Rattle.pgn.proofs.bytes.run_length.Goals as goal

pub returns : goal.returns
returns c =
    let test = in_run c.args.run in
    count_from_yields_List c.take_while.result _ c.count.ensures.ran
    (YieldsList-from_take_while _ test (YieldsList-from_slice c.args.s.now (cc))
    c.take_while.ensures.closure c.take_while.ensures.done (λ x b q k. search (rules, tests)))
    ∙ length-prefix_len test c.args.s.now
    ∙ sym (run_prefix c.args.run c.args.s.now)
