-- `adjoining` of lib.rt meets its contract: r ≡ adjoining s t.
use Rattle.move_laws.specs.Apart.{adjoining}
use Rattle.legal.proofs.adjoining.Goals as goal

pub returns : goal.returns
unfolding adjoining
returns c = simp c.distance.ensures
