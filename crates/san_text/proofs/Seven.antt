-- The lengths told are those of the name: also with 7, which is given only for a shorter room, a room of that length being accepted. So a namer that
-- invents a length does not keep the promise.
-- Assumes nothing.
use Prim.Native.Nat.{ℕ, ◌<◌}
use mathlib.Core.Path.{◌≡◌}
use mathlib.Core.Bool.{Bool, true, false, cond}
use mathlib.Core.List.{List}
use mathlib.Core.Option.{Option, none, some}
use native.Mathlib.Omega.{arith}
use lib.ListN.{length}
use Rattle.answer.specs.Answer.{out_of_range, bad_list, not_listed, output_too_short, accepted, write_answer}
use Rattle.answer.proofs.Writes.{check_passed}
use Rattle.answer.proofs.ItsText as its-text
use Rattle.answer.proofs.ItsText.{writers_keep_its_text, room_enough}
use Rattle.answer.specs.Numbers.{among}
use Rattle.board_builder.specs.declared.BoardBuilder.{BoardBuilder}
use Rattle.board_builder.specs.BoardBuilder.{in_range}
use Rattle.move_list.specs.MoveList.{list_in_range}
use Rattle.san_text.specs.Form.{Form}
use Rattle.san_text.specs.Name.{none_is8, name_of, name_text, name_check}
use Rattle.san_text.specs.Paper.{paper, name_answer, name_bytes}
use Rattle.san_text.specs.Standard.{standard}
use Rattle.san_text.specs.Promises.{NamesTellTheirLength, InventedLengthFails, SevenIsTrue, StandardSevenIsTrue}

-- the checks before 7 never give 7
pub check_not_seven : (F : Form) (b : BoardBuilder) (l : List ℕ) (m : ℕ) → name_check F b l m ≡ output_too_short → ⊥
unfolding name_check
check_not_seven F b l m e = go (in_range b) (list_in_range l) (among m l) (name_of F b l m) e
  where
    go : (p q r : Bool) (o : Option (List ℕ)) → cond p (cond q (cond r (none_is8 o) not_listed) bad_list) out_of_range ≡ output_too_short → ⊥
    go true true true none z = omega arith
    go true true true (some t) z = omega arith
    go true true false o z = omega arith
    go true false r o z = omega arith
    go false q r o z = omega arith

pub names_tell_their_length : NamesTellTheirLength
names_tell_their_length b l m = writers_keep_its_text (name_check paper b l m) (name_text paper b l m) (check_not_seven paper b l m)

-- in any form
form_seven : (F : Form) (b : BoardBuilder) (l : List ℕ) (m room : ℕ) → (write_answer (name_check F b l m) (name_text F b l m) room).number ≡ output_too_short
    → (write_answer (name_check F b l m) (name_text F b l m) (write_answer (name_check F b l m) (name_text F b l m) room).value
    ≡ accepted (write_answer (name_check F b l m) (name_text F b l m) room).value)
    × (room < (write_answer (name_check F b l m) (name_text F b l m) room).value)
form_seven F b l m room e =
    let t = name_text F b l m in
    let s = (writers_keep_its_text (name_check F b l m) t (check_not_seven F b l m)).needed room e in
    let check : name_check F b l m ≡ 0 = check_passed (name_check F b l m) t (length t) s.enough in
    (rw (s.long, check) (room_enough t), rw s.long s.shorter)

pub seven_is_true : SevenIsTrue
seven_is_true b l m room e = let s = form_seven paper b l m room e in record { long_enough_lem = s.0; shorter = s.1 }

pub standard_seven_is_true : StandardSevenIsTrue
standard_seven_is_true = form_seven standard

pub invented_length_fails : InventedLengthFails
invented_length_fails w b l m i name keeps =
    its-text.invented_length_fails (name_answer b l m) (w.answer b l m) (name_bytes b l m) (w.room b l m) (name_text paper b l m) (name b l m)
    (names_tell_their_length b l m) i (keeps b l m)
