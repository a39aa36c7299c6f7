-- `push_number` of text.rt meets its contract.
use native.Mathlib.Omega.{arith}
use Rattle.differences.proofs.Pushing.{number_put}
use Rattle.differences.proofs.text.Text.push_number.Goals as goal

pub overflow_add-self : goal.overflow_add-self
overflow_add-self c =
    let s = c.self.inside in
    let w = c.to_string-written in
    let p = number_put c.args.number s.bytes c.args.self.now w.new.out s.length _ w.result c.self.told c.self.invariant c.self.view_is c.requires
    w.ensures.answer w.ensures.bytes in
    omega (arith, p.0)

pub invariant_of-self : goal.invariant_of-self
invariant_of-self c =
    let s = c.self.inside in
    let w = c.to_string-written in
    let p = number_put c.args.number s.bytes c.args.self.now w.new.out s.length _ w.result c.self.told c.self.invariant c.self.view_is c.requires
    w.ensures.answer w.ensures.bytes in
    p.0

pub returns : goal.returns
returns c =
    let s = c.self.inside in
    let w = c.to_string-written in
    let p = number_put c.args.number s.bytes c.args.self.now w.new.out s.length _ w.result c.self.told c.self.invariant c.self.view_is c.requires
    w.ensures.answer w.ensures.bytes in
    p.1
