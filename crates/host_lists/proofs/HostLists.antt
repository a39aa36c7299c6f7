-- Each of the host's four calls over a list keeps the order's promises: its contract says that it answers by a definition, and the definitions keep them.
-- Assumes nothing.
use Prim.Native.Nat.{ℕ}
use mathlib.Core.Path.{◌≡◌, sym, ap₂, ◌∙◌}
use mathlib.Core.List.{List}
use lib.ListN.{length}
use Rattle.board_builder.specs.declared.BoardBuilder.{BoardBuilder}
use Rattle.san_lists.specs.Lists.{Reordered}
use Rattle.san_lists.proofs.Forms.{paper_any_order, standard_any_order, paper_removing_keeps, standard_removing_keeps}
use Rattle.san_lists.proofs.Forms.{paper_adding_keeps_or_refuses, standard_adding_keeps_or_refuses}
use Rattle.san_lists.specs.Calls.{Calls, paper_calls, standard_calls}
use Rattle.san_lists.specs.Promises.{AnyOrder, RemovingKeeps, AddingKeepsOrRefuses}
use Rattle.host_lists.specs.HostCalls.{Reading, ReadCall, read_board, read_list, text_to_read, san_read}
use Rattle.host_lists.specs.HostCalls.{Naming, NameCall, name_board, name_list, name_move, san_named, room_lent, room_left}
use Rattle.host_lists.specs.Promises.{OneText, ReadsInAnyOrder, NamesInAnyOrder, ReadsWithFewer, ReadsWithMore}
use Rattle.menkhodur.proofs.menkhodur_san_read.Reads as san-read
use Rattle.menkhodur.proofs.menkhodur_san_read_standard.Reads as san-read-standard
use Rattle.menkhodur.proofs.menkhodur_san_name.Reads as san-name
use Rattle.menkhodur.proofs.menkhodur_san_name_standard.Reads as san-name-standard

-- ---- contracts that answer by a definition

-- what a reader's contract says is that it answers so
abbrev ReadsBy : Calls → Reading → Type 0
ReadsBy by Learnt = (c : ReadCall Learnt) → san_read c ≡ by.read (read_board c) (read_list c) (text_to_read c)

record NamedBy (by : Calls) {Learnt : Naming} (c : NameCall Learnt) : Type 0 where
  answer : san_named c ≡ by.name.answer (name_board c) (name_list c) (name_move c) (length (room_lent c))
  room : room_left c ≡ by.name.room (name_board c) (name_list c) (name_move c) (room_lent c)

module _ (by : Calls) {Learnt : Reading} (is : ReadsBy by Learnt) where
  -- the second call's answer, on the first one's record and text
  second : (c d : ReadCall Learnt) → OneText c d → san_read d ≡ by.read (read_board c) (read_list d) (text_to_read c)
  second c d o = is d ∙ sym (ap₂ (λ (b : BoardBuilder) (t : List ℕ). by.read b (read_list d) t) o.board o.text)

  in_any_order : AnyOrder by → ReadsInAnyOrder Learnt
  in_any_order any c d o r = is c ∙ any.read (read_board c) (read_list c) (read_list d) (text_to_read c) r ∙ sym (second c d o)

  with_fewer : RemovingKeeps by → ReadsWithFewer Learnt
  with_fewer keeps c d m o w here e =
      second c d o ∙ keeps (read_board c) (read_list c) (read_list d) (text_to_read c) m w here (sym (is c) ∙ e)

  with_more : AddingKeepsOrRefuses by → ReadsWithMore Learnt
  with_more keeps c d m o w range e =
      rw (second c d o) (keeps (read_board c) (read_list c) (read_list d) (text_to_read c) m w range (sym (is c) ∙ e))

-- a namer's two answers and rooms, the arguments but the list being equal
module _ (by : Calls) (any : AnyOrder by) {b d : BoardBuilder} {l k : List ℕ} {m n : ℕ} {out room : List ℕ} (r : Reordered l k) where
  same_answer : b ≡ d → m ≡ n → out ≡ room → by.name.answer b l m (length out) ≡ by.name.answer d k n (length room)
  same_answer p q s = rw (p, q, s) (any.answer d l k n (length room) r)

  same_room : b ≡ d → m ≡ n → out ≡ room → by.name.room b l m out ≡ by.name.room d k n room
  same_room p q s = rw (p, q, s) (any.room d l k n room r)

module _ (by : Calls) {Learnt : Naming} (is : (c : NameCall Learnt) → NamedBy by c) where
  names_in_any_order : AnyOrder by → NamesInAnyOrder Learnt
  names_in_any_order any c d o r = record {
    answer = (is c).answer ∙ same_answer by any r o.board o.move o.room ∙ sym (is d).answer;
    room = (is c).room ∙ same_room by any r o.board o.move o.room ∙ sym (is d).room;
  }

-- ---- the host's

reads_by : ReadsBy paper_calls san-read.Learnt
reads_by c = c.learnt

standard_reads_by : ReadsBy standard_calls san-read-standard.Learnt
standard_reads_by c = c.learnt

named_by : (c : NameCall san-name.Learnt) → NamedBy paper_calls c
named_by c = record { answer = c.learnt.0; room = c.learnt.1 }

standard_named_by : (c : NameCall san-name-standard.Learnt) → NamedBy standard_calls c
standard_named_by c = record { answer = c.learnt.0; room = c.learnt.1 }

pub san_read_in_any_order : ReadsInAnyOrder san-read.Learnt
san_read_in_any_order = in_any_order paper_calls reads_by paper_any_order

pub san_read_standard_in_any_order : ReadsInAnyOrder san-read-standard.Learnt
san_read_standard_in_any_order = in_any_order standard_calls standard_reads_by standard_any_order

pub san_read_with_fewer : ReadsWithFewer san-read.Learnt
san_read_with_fewer = with_fewer paper_calls reads_by paper_removing_keeps

pub san_read_standard_with_fewer : ReadsWithFewer san-read-standard.Learnt
san_read_standard_with_fewer = with_fewer standard_calls standard_reads_by standard_removing_keeps

pub san_read_with_more : ReadsWithMore san-read.Learnt
san_read_with_more = with_more paper_calls reads_by paper_adding_keeps_or_refuses

pub san_read_standard_with_more : ReadsWithMore san-read-standard.Learnt
san_read_standard_with_more = with_more standard_calls standard_reads_by standard_adding_keeps_or_refuses

pub san_name_in_any_order : NamesInAnyOrder san-name.Learnt
san_name_in_any_order = names_in_any_order paper_calls named_by paper_any_order

pub san_name_standard_in_any_order : NamesInAnyOrder san-name-standard.Learnt
san_name_standard_in_any_order = names_in_any_order standard_calls standard_named_by standard_any_order
