-- What falls from call to call of `read_groups` is how many groups there may still be.
-- Assumes nothing.
use Rattle.roll_reader.proofs.+read_groups.Given as goal

abbrev pub decreases-read_groups : goal.decreases-read_groups
decreases-read_groups l = l.k
