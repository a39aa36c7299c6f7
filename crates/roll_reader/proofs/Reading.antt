-- An action read, and the iterations of the two passes over the actions.
-- Assumes nothing.
use mathlib.Core.Path.{◌≡◌, refl, ap, sym, ◌∙◌}
use mathlib.Core.Bool.{Bool, true, false}
use mathlib.Core.List.{List, []}
use Prim.Native.Nat.{ℕ, zero, suc, ◌+◌, ◌/◌, ◌%◌, ◌-◌, ◌≤◌, ◌<◌}
use native.Mathlib.Omega.{arith}
use lib.Dec.{eqb}
use lib.ListN.{length, drop, length-drop, drop_of_length-le}
use lib.Seq.{drop-drop, drop-cons}
use borrow.Author.Tests.{eqb-false}
use Rattle.std.specs.Prelude.{Some, None, Result, Ok, Err}
use Rattle.answer.specs.Answer.{bad_roll, log_full}
use Rattle.chess_move.specs.Number.{last_move}
use Rattle.action.specs.Layout.{fields}
use Rattle.roll_text.specs.declared.Entry.{Entry}
use Rattle.roll_text.specs.declared.Entry.TheVariants.{Move, Plain}
use Rattle.roll_text.specs.Number.{Number, read_number}
use Rattle.roll_text.specs.Roll.{is_code, moved_by, coded, read_entry, Acts, halted, acts, put_action, next_action, read_actions}
use Rattle.roll_text.specs.Calls.{acts_number}
use Rattle.roll_reader.specs.CodeWalk.{acts_check, stage_number}
use Rattle.roll_text.proofs.Numbers.{number_within}
use Rattle.roll_text.proofs.Entries.{coded_plain, coded_bad, coded_full, coded_move, moved_small, moved_over, next_move_lem, next_plain}
use Rattle.roll_text.proofs.Forth as forth

-- ---- one action

module _ (full : Bool) (s : List ℕ) (first : Number) (is : first ≡ read_number s) where
  -- whatever the code's number
  at_code : (x : Number) → first ≡ x → read_entry full s ≡ coded full s x
  at_code x e = ap (coded full s) (sym is ∙ e)

  pub no_entry : first ≡ None → Err bad_roll ≡ read_entry full s
  unfolding coded
  no_entry e = sym (at_code None e)

  pub plain_entry : (code size : ℕ) → first ≡ Some (code, size) → (code ≡ 2 → ⊥) → is_code code ≡ true → Ok (Plain code size) ≡ read_entry full s
  plain_entry code size e h k = sym (at_code (Some (code, size)) e ∙ coded_plain full s code size h k)

  pub bad_entry : (code size : ℕ) → first ≡ Some (code, size) → (code ≡ 2 → ⊥) → is_code code ≡ false → Err bad_roll ≡ read_entry full s
  bad_entry code size e h k = sym (at_code (Some (code, size)) e ∙ coded_bad full s code size h k)

  pub full_entry : (code size : ℕ) → first ≡ Some (code, size) → code ≡ 2 → full ≡ true → Err log_full ≡ read_entry full s
  full_entry code size e h k = sym (at_code (Some (code, size)) e ∙ rw (h, k) (coded_full s size))

  module _ (code size : ℕ) (e : first ≡ Some (code, size)) (two : code ≡ 2) (room : full ≡ false) (t : List ℕ) (second : Number) (left : t ≡ drop size s)
      (reads : second ≡ read_number t) where
    at_move : read_entry full s ≡ moved_by size second
    at_move = at_code (Some (code, size)) e ∙ rw (two, room) (coded_move s size) ∙ ap (moved_by size) (sym (reads ∙ ap read_number left))

    pub no_move_lem : second ≡ None → Err bad_roll ≡ read_entry full s
    unfolding moved_by
    no_move_lem f = sym (at_move ∙ ap (moved_by size) f)

    pub over_move : (move more : ℕ) → second ≡ Some (move, more) → last_move < move → Err bad_roll ≡ read_entry full s
    over_move move more f h = sym (at_move ∙ ap (moved_by size) f ∙ moved_over size move more h)

    pub move_entry : (move more : ℕ) → second ≡ Some (move, more) → move ≤ last_move → Ok (Move move (size + more)) ≡ read_entry full s
    move_entry move more f h = sym (at_move ∙ ap (moved_by size) f ∙ moved_small size move more h)

-- its bytes lie in the text
pub move_inside : (full : Bool) (s : List ℕ) (move size : ℕ) → read_entry full s ≡ Ok (Move move size) → (size ≤ length s) × (full ≡ false) × (move ≤ last_move)
move_inside full s move size e =
    let o = forth.coded_move full s (read_number s) move size e in
    let m = o.number in
    let w = number_within s 2 o.size o.is in
    let v = number_within (drop o.size s) move m.more m.is in
    (omega (arith, w.inside, v.inside, length-drop o.size s, m.whole), o.room, m.last)

pub plain_inside : (full : Bool) (s : List ℕ) (code size : ℕ) → read_entry full s ≡ Ok (Plain code size) → (size ≤ length s) × (is_code code ≡ true)
plain_inside full s code size e =
    let o = forth.coded_plain full s (read_number s) code size e in
    ((number_within s code size o.is).inside, o.is_code_fact)

-- ---- an iteration: m actions are left, `left` moves may come, the text is read up to `at`

turn_of : (m left : ℕ) (s : List ℕ) → 0 < m → read_actions m left s ≡ next_action (read_entry (eqb left 0) s) left s (λ l t. read_actions (m - 1) l t)
unfolding read_actions
turn_of zero left s h = absurd (omega arith)
turn_of (suc m) left s h = let e : suc m - 1 ≡ m = omega arith in rw e

pub record MoveTurn (m left at : ℕ) (s : List ℕ) (move size : ℕ) : Type 0 where
  pub some : 1 ≤ left
  pub inside : at + size ≤ length s
  pub last : move ≤ last_move
  pub then : read_actions m left (drop at s) ≡ put_action (fields 1 0 move) (read_actions (m - 1) (left - 1) (drop (at + size) s))

pub record PlainTurn (m left at : ℕ) (s : List ℕ) (code size : ℕ) : Type 0 where
  pub inside : at + size ≤ length s
  pub is_code_fact : is_code code ≡ true
  pub then : read_actions m left (drop at s) ≡ put_action (fields (code / 2) (code % 2) 0) (read_actions (m - 1) left (drop (at + size) s))

module _ (m left at : ℕ) (s t : List ℕ) (e : Result Entry ℕ) (some : 0 < m) (within : at ≤ length s) (rest : t ≡ drop at s)
    (is : e ≡ read_entry (eqb left 0) t) where
  here : read_entry (eqb left 0) (drop at s) ≡ e
  here = sym (is ∙ ap (read_entry (eqb left 0)) rest)

  turned : read_actions m left (drop at s) ≡ next_action e left (drop at s) (λ l u. read_actions (m - 1) l u)
  turned = turn_of m left (drop at s) some ∙ ap (λ (x : Result Entry ℕ). next_action x left (drop at s) (λ l u. read_actions (m - 1) l u)) here

  pub move_turn : (move size : ℕ) → e ≡ Ok (Move move size) → MoveTurn m left at s move size
  move_turn move size f =
      let i = move_inside (eqb left 0) (drop at s) move size (here ∙ f) in
      let h : left ≡ 0 → ⊥ = eqb-false left 0 i.1 in
      record {
        some = omega arith;
        inside = omega (arith, i.0, length-drop at s);
        last = i.2;
        then =
            turned
            ∙ ap (λ (x : Result Entry ℕ). next_action x left (drop at s) (λ l u. read_actions (m - 1) l u)) f
            ∙ next_move_lem left (drop at s) move size (λ l u. read_actions (m - 1) l u)
            ∙ ap (λ (l : List ℕ). put_action (fields 1 0 move) (read_actions (m - 1) (left - 1) l)) (drop-drop size at s);
      }

  pub plain_turn : (code size : ℕ) → e ≡ Ok (Plain code size) → PlainTurn m left at s code size
  plain_turn code size f =
      let i = plain_inside (eqb left 0) (drop at s) code size (here ∙ f) in
      record {
        inside = omega (arith, i.0, length-drop at s);
        is_code_fact = i.1;
        then =
            turned
            ∙ ap (λ (x : Result Entry ℕ). next_action x left (drop at s) (λ l u. read_actions (m - 1) l u)) f
            ∙ next_plain left (drop at s) code size (λ l u. read_actions (m - 1) l u)
            ∙ ap (λ (l : List ℕ). put_action (fields (code / 2) (code % 2) 0) (read_actions (m - 1) left l)) (drop-drop size at s);
      }

  pub stop_turn : (k : ℕ) → e ≡ Err k → read_actions m left (drop at s) ≡ halted k
  unfolding next_action
  stop_turn k f = turned ∙ ap (λ (x : Result Entry ℕ). next_action x left (drop at s) (λ l u. read_actions (m - 1) l u)) f

  pub refused_turn : ((x : Entry) → e ≡ Ok x → ⊥) → (k : ℕ) × (read_actions m left (drop at s) ≡ halted k)
  refused_turn never = by e refl
    where
      by : (x : Result Entry ℕ) → e ≡ x → (k : ℕ) × (read_actions m left (drop at s) ≡ halted k)
      by (Ok x) f = absurd (never x f)
      by (Err k) f = (k, stop_turn k f)

-- a short move, three bytes
pub short_turn : (m left at : ℕ) (s : List ℕ) (move : ℕ) → 0 < m → at ≤ length s → read_entry (eqb left 0) (drop at s) ≡ Ok (Move move 3) → MoveTurn m left
    at s move 3
short_turn m left at s move some fits e = move_turn m left at s (drop at s) (Ok (Move move 3)) some fits refl (sym e) move 3 refl

-- no action is left: the text is at its end, or too long
pub end_turn : (left at : ℕ) (s : List ℕ) → length s ≤ at → read_actions 0 left (drop at s) ≡ acts []
unfolding read_actions
end_turn left at s h = rw (drop_of_length-le s h)

pub long_turn : (left at : ℕ) (s : List ℕ) → at < length s → read_actions 0 left (drop at s) ≡ halted bad_roll
unfolding read_actions
long_turn left at s h = rw (drop-cons s at 0 h)

-- what is wrong with it
pub number_put : (bs : List ℕ) (x : Acts) → acts_check (put_action bs x) ≡ acts_check x
unfolding acts_check put_action
number_put bs (halted k) = refl
number_put bs (acts cs) = refl

pub number_halted : (k : ℕ) → acts_check (halted k) ≡ Err k
unfolding acts_check
number_halted k = refl

pub number_acts : (bs : List ℕ) → acts_check (acts bs) ≡ Ok tt
unfolding acts_check
number_acts bs = refl

-- the number that the calls tell is the stage's own
pub acts_told : (r : Result (Unit {0}) ℕ) (x : Acts) → r ≡ acts_check x → (r ≡ acts_check x) × (stage_number r ≡ acts_number x)
unfolding acts_check acts_number
acts_told r (halted k) e = (e, ap stage_number e)
acts_told r (acts bs) e = (e, ap stage_number e)

-- the first pass, one iteration further
pub judged_move : (total : Result (Unit {0}) ℕ) (n i left at : ℕ) (s : List ℕ) (move size : ℕ) → MoveTurn (n - i) left at s move size
    → total ≡ acts_check (read_actions (n - i) left (drop at s)) → total ≡ acts_check (read_actions (n - (i + 1)) (left - 1) (drop (at + size) s))
judged_move total n i left at s move size t e =
    let z : n - i - 1 ≡ n - (i + 1) = omega arith in
    e ∙ ap acts_check t.then ∙ number_put (fields 1 0 move) (read_actions (n - i - 1) (left - 1) (drop (at + size) s))
    ∙ ap (λ (m : ℕ). acts_check (read_actions m (left - 1) (drop (at + size) s))) z

pub judged_plain : (total : Result (Unit {0}) ℕ) (n i left at : ℕ) (s : List ℕ) (code size : ℕ) → PlainTurn (n - i) left at s code size
    → total ≡ acts_check (read_actions (n - i) left (drop at s)) → total ≡ acts_check (read_actions (n - (i + 1)) left (drop (at + size) s))
judged_plain total n i left at s code size t e =
    let z : n - i - 1 ≡ n - (i + 1) = omega arith in
    e ∙ ap acts_check t.then ∙ number_put (fields (code / 2) (code % 2) 0) (read_actions (n - i - 1) left (drop (at + size) s))
    ∙ ap (λ (m : ℕ). acts_check (read_actions m left (drop (at + size) s))) z

pub judged_end : (total : Result (Unit {0}) ℕ) (n i left at : ℕ) (s : List ℕ)
    → n ≤ i → length s ≤ at → total ≡ acts_check (read_actions (n - i) left (drop at s)) → Ok tt ≡ total
judged_end total n i left at s h l e =
    let z : n - i ≡ 0 = omega arith in
    sym (e ∙ ap (λ (m : ℕ). acts_check (read_actions m left (drop at s))) z ∙ ap acts_check (end_turn left at s l) ∙ number_acts [])

pub judged_long : (total : Result (Unit {0}) ℕ) (n i left at : ℕ) (s : List ℕ)
    → n ≤ i → at < length s → total ≡ acts_check (read_actions (n - i) left (drop at s)) → Err bad_roll ≡ total
judged_long total n i left at s h l e =
    let z : n - i ≡ 0 = omega arith in
    sym (e ∙ ap (λ (m : ℕ). acts_check (read_actions m left (drop at s))) z ∙ ap acts_check (long_turn left at s l) ∙ number_halted bad_roll)
