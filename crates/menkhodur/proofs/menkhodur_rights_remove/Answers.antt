-- `menkhodur_rights_remove` of lib.rt meets its contract: r ≡ remove_rights rights removed.
use Rattle.menkhodur.proofs.menkhodur_rights_remove.Goals as goal

pub returns : goal.returns
returns c = c.remove.ensures
