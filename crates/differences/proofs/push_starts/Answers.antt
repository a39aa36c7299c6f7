-- `push_starts` of lib.rt meets its contract.
use Rattle.differences_text.specs.Promises.{longest}
use Rattle.differences.proofs.Starts.{line_fits, start_more, start_all}
use Rattle.differences.proofs.push_starts.Goals as goal

pub push_start-requires : goal.push_start-requires
push_start-requires c =
    let a = c.args in
    let l = c.loop-i in
    let long = c.requires.record_size_in_bounds in
    line_fits a.first.now a.second.now a.text.now l.text l.i long.0 long.1 l.invariant longest c.requires.text_in_bounds c.loop-i-test.true

pub loop-i-preserved : goal.loop-i-preserved
loop-i-preserved c =
    let a = c.args in
    let l = c.loop-i in
    let long = c.requires.record_size_in_bounds in
    start_more a.first.now a.second.now a.text.now l.text l.i long.0 long.1 l.invariant c.loop-i-test.true _ c.push_start.ensures

pub returns : goal.returns
returns c =
    let a = c.args in
    let l = c.loop-i in
    let long = c.requires.record_size_in_bounds in
    start_all a.first.now a.second.now a.text.now l.text l.i long.0 long.1 l.invariant c.loop-i-test.false
