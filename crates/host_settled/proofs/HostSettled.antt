-- The host's calls keep what is promised: each contract says that the call answers by a definition, and the definitions keep it.
-- Assumes nothing.
use Prim.Native.Nat.{ℕ}
use mathlib.Core.Path.{◌≡◌, refl, ap, ap₂, sym, ◌∙◌}
use mathlib.Core.Bool.{Bool, true, false}
use mathlib.Core.List.{List}
use native.Mathlib.Omega.{arith}
use lib.ListN.{length, take}
use Rattle.answer.specs.declared.Answer.{Answer}
use Rattle.answer.specs.declared.Placed.{Placed}
use Rattle.answer.specs.Answer.{out_of_range}
use Rattle.board_builder.specs.declared.BoardBuilder.{BoardBuilder}
use Rattle.board_builder.specs.declared.Stepped.{Stepped}
use Rattle.board_builder.specs.BoardBuilder.{numbers, in_range}
use Rattle.board_builder.specs.Steps.{stepped}
use Rattle.fen_text.specs.declared.Fen.{Fen}
use Rattle.fen_text.specs.Read.{read_fen}
use Rattle.fen_text.specs.Write.{fen_text}
use Rattle.fen_text.specs.Promises.{fen_writer, SameNumbers}
use Rattle.fen_text.proofs.Keys.{one_key, reads_in_range}
use Rattle.move_rules.specs.After.{after_answer}
use Rattle.settled_rules.specs.Settled.{settled, settled_answer}
use Rattle.settled_rules.proofs.Settles.{call_settles, unusable_files_settle_alike}
use Rattle.settled_rules.proofs.Played.{played_stays_as_it_is}
use Rattle.settled.specs.Key.{unplaced, settled_key, settled_room}
use Rattle.settled.specs.Promises.{AsThreeCalls, OneTextName}
use Rattle.settled.proofs.Keys.{given_in_range, taken_in_range, key_front, one_call_is_three, refused_settling_writes_nothing}
use Rattle.settled.proofs.Keys.{text_accepted, calls_tell_settled_records}
use Rattle.host_settled.specs.SettledCalls.{SettleCall, to_settle, settle_told, PlayCall, to_play_from, to_play, play_told, TextCall, to_read, read_told}
use Rattle.host_settled.specs.SettledCalls.{WriteCall, to_write, write_told, write_lent, write_left, write_key}
use Rattle.host_settled.specs.SettledCalls.{KeyCall, to_name, name_told, name_lent, name_left, name_key}
use Rattle.host_settled.specs.Promises.{SettlesOnce, PlayedNeedsNothing, AlikeSettleToOne, AlikeButForTheFile, SettledAndWritten}
use Rattle.host_settled.specs.Promises.{WrittenKeysTell, AlikeHaveOneKey, OneCallForThree, ReadAndSettled, TextKeysTell, RefusedLeavesTheRoom}

-- ---- the contracts

settle_by : (c : SettleCall) → settle_told c ≡ settled_answer (to_settle c)
settle_by c = c.learnt

play_by : (p : PlayCall) → play_told p ≡ after_answer (to_play_from p) (to_play p)
play_by p = p.learnt

read_by : (r : TextCall) → read_told r ≡ read_fen (to_read r)
read_by r = r.learnt

write_by : (w : WriteCall) → write_told w ≡ fen_writer.answer (to_write w) (length (write_lent w))
write_by w = w.learnt.0

write_leaves : (w : WriteCall) → write_left w ≡ fen_writer.room (to_write w) (write_lent w)
write_leaves w = w.learnt.1

name_by : (k : KeyCall) → name_told k ≡ settled_key (to_name k) (length (name_lent k))
name_by k = k.learnt.0

name_leaves : (k : KeyCall) → name_left k ≡ settled_room (to_name k) (name_lent k)
name_leaves k = k.learnt.1

-- ---- settling

pub settles_once : SettlesOnce
settles_once c d e =
    settle_by d ∙ ap settled_answer (e ∙ ap (λ (s : Stepped). s.board) (settle_by c)) ∙ call_settles.again (to_settle c) ∙ sym (settle_by c)

pub played_needs_nothing : PlayedNeedsNothing
played_needs_nothing p c z home e =
    let zero = sym (ap (λ (s : Stepped). s.number) (play_by p)) ∙ z in
    settle_by c
    ∙ ap settled_answer (e ∙ ap (λ (s : Stepped). s.board) (play_by p))
    ∙ played_stays_as_it_is (to_play_from p) (to_play p) zero home
    ∙ sym (play_by p)

-- a record that is not refused is settled
accepted_in_range : (b : BoardBuilder) → (settled_answer b).number ≡ 0 → in_range b ≡ true
accepted_in_range b z = go (in_range b) refl
  where
    go : (t : Bool) → in_range b ≡ t → in_range b ≡ true
    go true e = e
    go false e =
        let five : 0 ≡ out_of_range = sym z ∙ ap (λ (s : Stepped). s.number) (call_settles.out_of_range_fact b e) in
        absurd (omega (arith, five))

settle_in_range : (c : SettleCall) → (settle_told c).number ≡ 0 → in_range (to_settle c) ≡ true
settle_in_range c z = accepted_in_range (to_settle c) (sym (ap (λ (s : Stepped). s.number) (settle_by c)) ∙ z)

alike : (c d : SettleCall) → in_range (to_settle c) ≡ true → in_range (to_settle d) ≡ true → AlikeButForTheFile c d → settle_told c ≡ settle_told d
alike c d r s a =
    settle_by c
    ∙ call_settles.computed (to_settle c) r
    ∙ ap (λ (b : BoardBuilder). stepped 0 b)
    (ap settled a.first
    ∙ (unusable_files_settle_alike a.board a.file a.other).alike a.unusable a.other_unusable
    ∙ sym (ap settled a.second))
    ∙ sym (call_settles.computed (to_settle d) s)
    ∙ sym (settle_by d)

pub alike_settle_to_one : AlikeSettleToOne
alike_settle_to_one c d y z a = alike c d (settle_in_range c y) (settle_in_range d z) a

-- ---- writing

module _ (w : WriteCall) (z : (write_told w).number ≡ 0) where
  accepts : (fen_writer.answer (to_write w) (length (write_lent w))).number ≡ 0
  accepts = sym (ap (λ (a : Answer). a.number) (write_by w)) ∙ z

  write_in_range : in_range (to_write w) ≡ true
  write_in_range = taken_in_range (to_write w) (write_lent w) accepts

  written : write_key w ≡ fen_text (to_write w)
  written =
      ap₂ (λ (n : ℕ) (l : List ℕ). take n l) (ap (λ (a : Answer). a.value) (write_by w)) (write_leaves w)
      ∙ key_front (to_write w) (write_lent w) accepts

pub written_keys_tell : WrittenKeysTell
written_keys_tell c d v w a b = record {
  same_numbers = λ k. sym (ap numbers a.handed_on)
      ∙ tell.same_numbers (sym (written v a.accepted) ∙ k ∙ written w b.accepted)
      ∙ ap numbers b.handed_on;
  same_key = λ k. written v a.accepted
      ∙ tell.same_text (ap numbers a.handed_on ∙ k ∙ sym (ap numbers b.handed_on))
      ∙ sym (written w b.accepted);
}
  where
    tell : SameNumbers (to_write v) (to_write w)
    tell = one_key (to_write v) (to_write w) (write_in_range v a.accepted) (write_in_range w b.accepted)

given_so : (c : SettleCall) (w : WriteCall) → SettledAndWritten c w → in_range (to_settle c) ≡ true
given_so c w a =
    given_in_range (to_settle c)
    (sym (ap in_range (a.handed_on ∙ ap (λ (s : Stepped). s.board) (settle_by c))) ∙ write_in_range w a.accepted)

pub alike_have_one_key : AlikeHaveOneKey
alike_have_one_key c d v w a b e =
    (written_keys_tell c d v w a b).same_key (ap (λ (s : Stepped). numbers s.board) (alike c d (given_so c v a) (given_so d w b) e))

-- ---- texts

pub one_call_for_three : OneCallForThree
one_call_for_three k r c w t = record {
  answer = name_by k
      ∙ three.answered good
      ∙ ap unplaced (ap₂ (λ (b : BoardBuilder) (l : List ℕ). fen_writer.answer b (length l)) (sym board) (sym t.room) ∙ sym (write_by w));
  bytes = name_leaves k
      ∙ three.written good
      ∙ ap₂ (λ (b : BoardBuilder) (l : List ℕ). fen_writer.room b l) (sym board) (sym t.room)
      ∙ sym (write_leaves w);
}
  where
    three : AsThreeCalls (to_name k) (name_lent k)
    three = one_call_is_three (to_name k) (name_lent k)

    fen : read_told r ≡ read_fen (to_name k)
    fen = read_by r ∙ ap read_fen t.text

    good : (read_fen (to_name k)).number ≡ 0
    good = sym (ap (λ (f : Fen). f.number) fen) ∙ t.read

    board : to_write w ≡ (settled_answer (read_fen (to_name k)).board).board
    board =
        t.settled
        ∙ ap (λ (s : Stepped). s.board) (settle_by c)
        ∙ ap (λ (b : BoardBuilder). (settled_answer b).board) (t.board ∙ ap (λ (f : Fen). f.board) fen)

module _ (k : KeyCall) (r : TextCall) (c : SettleCall) (a : ReadAndSettled k r c) where
  name_accepts : (settled_key (to_name k) (length (name_lent k))).number ≡ 0
  name_accepts = sym (ap (λ (p : Placed). p.number) (name_by k)) ∙ a.accepted

  settles_to : settle_told c ≡ stepped 0 (settled (read_fen (to_name k)).board)
  settles_to =
      settle_by c
      ∙ ap settled_answer (a.board ∙ ap (λ (f : Fen). f.board) (read_by r ∙ ap read_fen a.text))
      ∙ call_settles.computed (read_fen (to_name k)).board (reads_in_range (to_name k) (text_accepted (to_name k) (name_lent k) name_accepts))

  named : name_key k ≡ take (settled_key (to_name k) (length (name_lent k))).value (settled_room (to_name k) (name_lent k))
  named = ap₂ (λ (n : ℕ) (l : List ℕ). take n l) (ap (λ (p : Placed). p.value) (name_by k)) (name_leaves k)

pub text_keys_tell : TextKeysTell
text_keys_tell j k q r c d a b = record {
  one_record = λ e. settles_to j q c a ∙ ap (stepped 0) (tell.one_record (sym (named j q c a) ∙ e ∙ named k r d b)) ∙ sym (settles_to k r d b);
  one_key = λ e. named j q c a
      ∙ tell.one_key (ap (λ (s : Stepped). s.board) (sym (settles_to j q c a) ∙ e ∙ settles_to k r d b))
      ∙ sym (named k r d b);
}
  where
    tell : OneTextName (to_name j) (to_name k) (name_lent j) (name_lent k)
    tell = calls_tell_settled_records (to_name j) (to_name k) (name_lent j) (name_lent k) (name_accepts j q c a) (name_accepts k r d b)

pub refused_leaves_the_room : RefusedLeavesTheRoom
refused_leaves_the_room k n =
    name_leaves k ∙ refused_settling_writes_nothing (to_name k) (name_lent k) (λ e. n (ap (λ (p : Placed). p.number) (name_by k) ∙ e))
