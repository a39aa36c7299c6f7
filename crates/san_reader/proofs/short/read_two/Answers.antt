-- `read_two` of short.rt meets its contract: r ≡ short_two a b.
use Rattle.san_reader.specs.CodeShort.{short_two}
use Rattle.san_reader.proofs.short.read_two.Goals as goal

pub returns : goal.returns
unfolding short_two
returns c = rw c.square_of.ensures
