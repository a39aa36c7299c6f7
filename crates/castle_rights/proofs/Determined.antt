-- Each public function's contract, as the toolchain reads it off the source, permits one answer, and one content of each slice that is lent to be written.
-- Assumes nothing.
use mathlib.Core.Path.{sym, ◌∙◌}
use Rattle.answer.specs.Determined.{OneAnswer, OnePart}
use Rattle.castle_rights.proofs.has_kingside.Reads as has-kingside
use Rattle.castle_rights.proofs.has_kingside.Kinds as has-kingside·k
use Rattle.castle_rights.proofs.has_queenside.Reads as has-queenside
use Rattle.castle_rights.proofs.has_queenside.Kinds as has-queenside·k
use Rattle.castle_rights.proofs.square_to_castle_rights.Reads as square-to-castle-rights
use Rattle.castle_rights.proofs.square_to_castle_rights.Kinds as square-to-castle-rights·k
use Rattle.castle_rights.proofs.remove.Reads as remove
use Rattle.castle_rights.proofs.remove.Kinds as remove·k
use Rattle.castle_rights.proofs.add.Reads as add
use Rattle.castle_rights.proofs.add.Kinds as add·k
use Rattle.castle_rights.proofs.from_index.Reads as from-index
use Rattle.castle_rights.proofs.from_index.Kinds as from-index·k
use Rattle.castle_rights.proofs.to_string.Reads as to-string
use Rattle.castle_rights.proofs.to_string.Kinds as to-string·k
use Rattle.castle_rights.proofs.rook_square_to_castle_rights.Reads as rook-square-to-castle-rights
use Rattle.castle_rights.proofs.rook_square_to_castle_rights.Kinds as rook-square-to-castle-rights·k

pub has_kingside_answer : OneAnswer has-kingside·k.ps has-kingside·k.r has-kingside.Learnt
has_kingside_answer κs a x y e f p q = p ∙ sym q

pub has_queenside_answer : OneAnswer has-queenside·k.ps has-queenside·k.r has-queenside.Learnt
has_queenside_answer κs a x y e f p q = p ∙ sym q

pub square_to_castle_rights_answer : OneAnswer square-to-castle-rights·k.ps square-to-castle-rights·k.r square-to-castle-rights.Learnt
square_to_castle_rights_answer κs a x y e f p q = p ∙ sym q

pub remove_answer : OneAnswer remove·k.ps remove·k.r remove.Learnt
remove_answer κs a x y e f p q = p ∙ sym q

pub add_answer : OneAnswer add·k.ps add·k.r add.Learnt
add_answer κs a x y e f p q = p ∙ sym q

pub from_index_answer : OneAnswer from-index·k.ps from-index·k.r from-index.Learnt
from_index_answer κs a x y e f p q = p ∙ sym q

pub to_string_answer : OneAnswer to-string·k.ps to-string·k.r to-string.Learnt
to_string_answer κs a x y e f p q = p.0 ∙ sym q.0

pub to_string_out : OnePart to-string·k.ps to-string·k.r (λ κs x e. e.1.1.0.now) to-string.Learnt
to_string_out κs a x y e f p q = p.1 ∙ sym q.1

pub rook_square_to_castle_rights_answer : OneAnswer rook-square-to-castle-rights·k.ps rook-square-to-castle-rights·k.r rook-square-to-castle-rights.Learnt
rook_square_to_castle_rights_answer κs a x y e f p q = p ∙ sym q
