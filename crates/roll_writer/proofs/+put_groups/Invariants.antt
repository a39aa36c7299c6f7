-- What falls from call to call of `put_groups` is how many groups there may still be.
-- Assumes nothing.
use Rattle.roll_writer.proofs.+put_groups.Given as goal

abbrev pub decreases-put_groups : goal.decreases-put_groups
decreases-put_groups l = l.k
