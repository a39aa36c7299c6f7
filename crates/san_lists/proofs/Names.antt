-- Names when entries are removed or added, in any lawful form: the whole list's name is read as the move on what is left, and a move without a name gets none
-- from more entries.
-- Assumes nothing.
use Prim.Native.Nat.{ℕ}
use mathlib.Core.Path.{◌≡◌, refl, sym, ap, ◌∙◌, subst}
use mathlib.Core.Bool.{Bool, true, false, cond}
use mathlib.Core.List.{List}
use mathlib.Core.Logic.{◌⊎◌, inl, inr}
use mathlib.Core.Option.{Option, none, some}
use native.Mathlib.Omega.{arith}
use lib.Dec.{eqb, leb}
use lib.ListN.{length, take}
use Rattle.answer.specs.Answer.{accepted, out_of_range, bad_list, not_listed, no_name, write_answer}
use Rattle.answer.specs.Numbers.{among}
use Rattle.answer.proofs.Writes.{accepted_writes_its_text, check_passed}
use Rattle.board_builder.specs.declared.BoardBuilder.{BoardBuilder}
use Rattle.board_builder.specs.BoardBuilder.{in_range}
use Rattle.move_list.specs.MoveList.{list_in_range}
use Rattle.san_text.specs.Form.{Form, read_answer}
use Rattle.san_text.specs.Name.{none_is8, name_of, name_text, name_check}
use Rattle.san_text.specs.Promises.{Ready}
use Rattle.san_text.proofs.Lawful.{Lawful}
use Rattle.san_text.proofs.Named.{Named, named, name_resolves}
use Rattle.san_text.proofs.ReadBack.{reads, checks, ready_side}
use Rattle.san_lists.specs.Lists.{Within}
use Rattle.san_lists.specs.Calls.{calls_of}
use Rattle.san_lists.specs.Promises.{OldNamesRead, AddingNamesNone}
use Rattle.san_lists.proofs.Counts.{within_listed, within_range}
use Rattle.san_lists.proofs.Fewer.{text_kept, removing_keeps}

-- ---- the namer's check: 0 with a name and 8 without one, where 5, 6 and 11 have passed

-- a number that none of those checks gives
abbrev Later : ℕ → Type 0
Later c = (c ≡ 0) ⊎ (c ≡ no_name)

pub ready_then : (F : Form) (b : BoardBuilder) (l : List ℕ) (m c : ℕ) → Later c → name_check F b l m ≡ c → Ready b l m
unfolding name_check
ready_then F b l m c later e = go (in_range b) (list_in_range l) (among m l) refl refl refl e later
  where
    go : (p q r : Bool) → in_range b ≡ p → list_in_range l ≡ q → among m l ≡ r
        → cond p (cond q (cond r (none_is8 (name_of F b l m)) not_listed) bad_list) out_of_range ≡ c → Later c → Ready b l m
    go true true true x y z k t = record { record_in_range = x; list_in_range_fact = y; move_listed = z }
    go true true false x y z k (inl t) = absurd (omega arith)
    go true true false x y z k (inr t) = absurd (omega arith)
    go true false r x y z k (inl t) = absurd (omega arith)
    go true false r x y z k (inr t) = absurd (omega arith)
    go false q r x y z k (inl t) = absurd (omega arith)
    go false q r x y z k (inr t) = absurd (omega arith)

-- a name whose checks have passed
pub record Name (F : Form) (b : BoardBuilder) (l : List ℕ) (m : ℕ) : Type 0 where
  pub ready : Ready b l m
  pub text : List ℕ
  pub name : name_of F b l m ≡ some text

pub name_there : (F : Form) (b : BoardBuilder) (l : List ℕ) (m : ℕ) → name_check F b l m ≡ 0 → Name F b l m
name_there F b l m e = go (name_of F b l m) refl (sym (checks F b l m h) ∙ e)
  where
    h : Ready b l m
    h = ready_then F b l m 0 (inl refl) e

    go : (o : Option (List ℕ)) → name_of F b l m ≡ o → none_is8 o ≡ 0 → Name F b l m
    go none p q = absurd (omega arith)
    go (some t) p q = record { ready = h; text = t; name = p }

name_missing : (F : Form) (b : BoardBuilder) (l : List ℕ) (m : ℕ) (h : Ready b l m) → name_check F b l m ≡ no_name → name_of F b l m ≡ none
name_missing F b l m h e = go (name_of F b l m) refl (sym (checks F b l m h) ∙ e)
  where
    go : (o : Option (List ℕ)) → name_of F b l m ≡ o → none_is8 o ≡ no_name → name_of F b l m ≡ none
    go none p q = p
    go (some t) p q = absurd (omega arith)

-- a writer says 8 exactly if its check does
check_said : (check : ℕ) (text : List ℕ) (room : ℕ) → (write_answer check text room).number ≡ no_name → check ≡ no_name
unfolding write_answer
check_said check text room e = go (eqb check 0) (leb (length text) room) refl refl
  where
    go : (p q : Bool) → eqb check 0 ≡ p → leb (length text) room ≡ q → check ≡ no_name
    go true true c d = absurd (omega (arith, simp (c, d) at e))
    go true false c d = absurd (omega (arith, simp (c, d) at e))
    go false q c d = simp c at e

check_says : (check : ℕ) (text : List ℕ) (room : ℕ) → check ≡ no_name → (write_answer check text room).number ≡ no_name
unfolding write_answer
check_says check text room e = rw e refl

-- what is left of a list passes the checks if the whole did
pub ready_left : {b : BoardBuilder} {m : ℕ} (whole left : List ℕ) → Within left whole → among m left ≡ true → Ready b whole m → Ready b left m
ready_left whole left w here h = record {
  record_in_range = h.record_in_range;
  list_in_range_fact = within_range left whole w h.list_in_range_fact;
  move_listed = here;
}

-- the text that was written
pub written_front : (F : Form) (b : BoardBuilder) (l : List ℕ) (m : ℕ) (out : List ℕ) → ((calls_of F).name.answer b l m (length out)).number ≡ 0
    → take ((calls_of F).name.answer b l m (length out)).value ((calls_of F).name.room b l m out) ≡ name_text F b l m
written_front F b l m out e =
    let w = accepted_writes_its_text (name_check F b l m) (name_text F b l m) out e in
    rw w.long w.front

-- ---- the promises

pub old_names_read : (F : Form) → Lawful F → OldNamesRead (calls_of F)
unfolding name_text
old_names_read F law b whole left m out w here e =
    let n = name_there F b whole m (check_passed (name_check F b whole m) (name_text F b whole m) (length out) e) in
    let h = n.ready in
    let t = n.text in
    let read : read_answer F b whole t ≡ accepted m = reads F b whole m h t ∙ name_resolves F law b whole m (ready_side h) h.move_listed t n.name in
    rw (written_front F b whole m out e, n.name) (removing_keeps F b whole left t m w here read)

pub adding_names_none : (F : Form) → Lawful F → AddingNamesNone (calls_of F)
adding_names_none F law b l more m room w range e =
    let c : name_check F b l m ≡ no_name = check_said (name_check F b l m) (name_text F b l m) room e in
    let h = ready_then F b l m no_name (inr refl) c in
    let there = within_listed l more w m h.move_listed in
    let longer : Ready b more m = record { record_in_range = h.record_in_range; list_in_range_fact = range; move_listed = there } in
    let None-found = go (name_of F b more m) refl longer h (name_missing F b l m h c) in
    check_says (name_check F b more m) (name_text F b more m) room (checks F b more m longer ∙ None-found)
  where
    go : (o : Option (List ℕ)) → name_of F b more m ≡ o → Ready b more m → Ready b l m → name_of F b l m ≡ none → none_is8 (name_of F b more m) ≡ no_name
    go none p i h q = ap none_is8 p
    go (some t) p i h q =
        let r = name_resolves F law b more m (ready_side i) i.move_listed t p in
        let s = text_kept l more w m h.move_listed F b (F.read t) r in
        absurd (subst Named q (named F law b l m (ready_side h) h.move_listed t s))
