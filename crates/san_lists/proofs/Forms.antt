-- The order's promises for document 01's form and for the standard's, over the definitions that the contracts of the public functions cite.
-- Assumes nothing.
use mathlib.Core.Path.{refl}
use Rattle.san_text.specs.Paper.{paper}
use Rattle.san_text.specs.Standard.{standard}
use Rattle.san_text.proofs.PaperLawful.{paper_lawful}
use Rattle.san_text.proofs.StandardLawful.{standard_lawful}
use Rattle.san_lists.specs.Calls.{paper_calls, standard_calls}
use Rattle.san_lists.specs.Promises.{AnyOrder, RemovingKeeps, AddingKeepsOrRefuses}
use Rattle.san_lists.specs.Promises.{OldNamesRead, AddingNamesNone, NamesGetNoLonger, NoLongerOrWasCastling}
use Rattle.san_lists.proofs.Order.{any_order}
use Rattle.san_lists.proofs.Fewer.{removing_keeps, adding_keeps_or_refuses}
use Rattle.san_lists.proofs.Names.{old_names_read, adding_names_none}
use Rattle.san_lists.proofs.Shorter.{paper_grows, standard_grows, names_get_no_longer, no_longer_or_was_castling}

-- ---- the same move and the same name in another order

pub paper_any_order : AnyOrder paper_calls
paper_any_order = any_order paper

pub standard_any_order : AnyOrder standard_calls
standard_any_order = any_order standard

-- ---- entries removed

pub paper_removing_keeps : RemovingKeeps paper_calls
paper_removing_keeps = removing_keeps paper

pub standard_removing_keeps : RemovingKeeps standard_calls
standard_removing_keeps = removing_keeps standard

-- ---- entries added

pub paper_adding_keeps_or_refuses : AddingKeepsOrRefuses paper_calls
paper_adding_keeps_or_refuses = adding_keeps_or_refuses paper

pub standard_adding_keeps_or_refuses : AddingKeepsOrRefuses standard_calls
standard_adding_keeps_or_refuses = adding_keeps_or_refuses standard

-- ---- names

pub paper_old_names_read : OldNamesRead paper_calls
paper_old_names_read = old_names_read paper paper_lawful

pub standard_old_names_read : OldNamesRead standard_calls
standard_old_names_read = old_names_read standard standard_lawful

pub paper_adding_names_none : AddingNamesNone paper_calls
paper_adding_names_none = adding_names_none paper paper_lawful

pub standard_adding_names_none : AddingNamesNone standard_calls
standard_adding_names_none = adding_names_none standard standard_lawful

-- only document 01's last resort, the castling text, may give way to a longer name
pub paper_no_longer_or_was_castling : NoLongerOrWasCastling paper_calls
paper_no_longer_or_was_castling = no_longer_or_was_castling paper paper_lawful paper_grows

pub standard_names_get_no_longer : NamesGetNoLonger standard_calls
standard_names_get_no_longer = names_get_no_longer standard standard_grows (λ o. refl)
