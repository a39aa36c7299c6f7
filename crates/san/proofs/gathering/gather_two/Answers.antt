-- `gather_two` of gathering.rt meets its contract: r ≡ gather_two g here m there n.
use Rattle.san.specs.CodeGathered.{gather_two}
use Rattle.san.proofs.gathering.gather_two.Goals as goal

pub returns : goal.returns
unfolding gather_two
returns c =
    simp (
      c.over.ensures,
      c.over-2.ensures,
      c.choose-source.ensures,
      c.choose-other.ensures,
      c.choose.ensures,
      c.choose-2.ensures,
      c.max.ensures,
      c.max-2.ensures,
    )
