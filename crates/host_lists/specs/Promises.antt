-- Document 02, order 13, for any two calls that a host makes, over the contract of the function itself: `Learnt` is what the contract says about a call.
-- Assumes nothing.
use Rattle.std.specs.Prelude.{ℕ, ◌≡◌, true, ◌⊎◌}
use Rattle.answer.specs.Answer.{accepted, refused, invalid_san_move}
use Rattle.answer.specs.Numbers.{among}
use Rattle.move_list.specs.MoveList.{list_in_range}
use Rattle.san_lists.specs.Lists.{Reordered, Within}
use Rattle.host_lists.specs.HostCalls.{Reading, ReadCall, read_board, read_list, text_to_read, san_read}
use Rattle.host_lists.specs.HostCalls.{Naming, NameCall, name_board, name_list, name_move, san_named, room_lent, room_left}

-- two calls of a reader with one record and one text
pub record OneText {Learnt : Reading} (c d : ReadCall Learnt) : Type 0 where
  pub board : read_board c ≡ read_board d
  pub text : text_to_read c ≡ text_to_read d

-- two calls of a namer with one record, one move and rooms of one content
pub record OneMove {Learnt : Naming} (c d : NameCall Learnt) : Type 0 where
  pub board : name_board c ≡ name_board d
  pub move : name_move c ≡ name_move d
  pub room : room_lent c ≡ room_lent d

-- "a list in another order gives the same move": one answer, refusals included
abbrev pub ReadsInAnyOrder : Reading → Type 0
ReadsInAnyOrder Learnt = (c d : ReadCall Learnt) → OneText c d → Reordered (read_list c) (read_list d) → san_read c ≡ san_read d

-- "and the same name": one answer, and every byte of the room
pub record SameName {Learnt : Naming} (c d : NameCall Learnt) : Type 0 where
  pub answer : san_named c ≡ san_named d
  pub room : room_left c ≡ room_left d

abbrev pub NamesInAnyOrder : Naming → Type 0
NamesInAnyOrder Learnt = (c d : NameCall Learnt) → OneMove c d → Reordered (name_list c) (name_list d) → SameName c d

-- "removing entries other than the resolved move never changes an accepted answer"
abbrev pub ReadsWithFewer : Reading → Type 0
ReadsWithFewer Learnt =
    (whole left : ReadCall Learnt) (m : ℕ) → OneText whole left → Within (read_list left) (read_list whole) → among m (read_list left) ≡ true
    → san_read whole ≡ accepted m → san_read left ≡ accepted m

-- "adding entries in range, up to 255 in all, leaves that move or refuses with 4"
abbrev pub ReadsWithMore : Reading → Type 0
ReadsWithMore Learnt =
    (c more : ReadCall Learnt) (m : ℕ) → OneText c more → Within (read_list c) (read_list more) → list_in_range (read_list more) ≡ true
    → san_read c ≡ accepted m → (san_read more ≡ accepted m) ⊎ (san_read more ≡ refused invalid_san_move)
