-- Keys of settled records, and the calls that write them.
-- Assumes nothing.
use mathlib.Core.Path.{◌≡◌, refl, ap, sym, ◌∙◌}
use mathlib.Core.Bool.{Bool, true, false, cond}
use mathlib.Core.List.{List}
use Prim.Native.Nat.{ℕ, ◌≤◌}
use native.Mathlib.Omega.{arith}
use lib.Dec.{eqb}
use lib.ListN.{length, take}
use borrow.Author.Tests.{eqb-true, eqb-false, eq-eqb, ne_eqb}
use Rattle.answer.specs.declared.Answer.{Answer}
use Rattle.answer.specs.declared.Placed.{Placed}
use Rattle.answer.specs.Answer.{out_of_range, fault_at, write_answer, write_bytes}
use Rattle.answer.proofs.Writes.{write_fits, check_passed, accepted_writes_its_text, refused_writes_nothing}
use Rattle.board_builder.specs.declared.BoardBuilder.{BoardBuilder}
use Rattle.board_builder.specs.declared.Stepped.{Stepped}
use Rattle.board_builder.specs.BoardBuilder.{with_counters, uncounted, in_range}
use Rattle.fen_text.specs.declared.Fen.{Fen}
use Rattle.fen_text.specs.Read.{read_fen, fen_of}
use Rattle.fen_text.specs.Write.{fen_text, full_text, fen_check}
use Rattle.fen_text.specs.Promises.{fen_writer}
use Rattle.fen_text.proofs.ReadBack.{read_back}
use Rattle.fen_text.proofs.Keys.{uncounted_text, one_key, reads_in_range, reads_uncounted}
use Rattle.fen_text.proofs.Full.{one_full_text}
use Rattle.settled_rules.specs.Settled.{with_file, settled, settled_answer}
use Rattle.settled_rules.proofs.Settles.{settled_is_settled, whatever_the_counters, stays_in_range, unusable_files_settle_alike, call_settles}
use Rattle.settled.specs.Key.{unplaced, settled_read, settled_bytes, settled_key}
use Rattle.settled.specs.Promises.{SettledKeysTell, SettledRecordsTell, SettledFullTextsTell, UnusableFilesHaveOneKey, record_named, CallsNameRecords}
use Rattle.settled.specs.Promises.{OneCallIsThree, RefusedSettlingWritesNothing, key_written, CallsTellSettledRecords, KeyNamesItself}

pub settled_keys_tell : SettledKeysTell
settled_keys_tell a b r s = one_key (settled a) (settled b) (stays_in_range a r) (stays_in_range b s)

pub settled_records_tell : SettledRecordsTell
settled_records_tell a b r s e f = one_key a b r s

pub settled_full_texts_tell : SettledFullTextsTell
settled_full_texts_tell a b r s = record {
  one_record = λ k. one_full_text (settled a) (settled b) (stays_in_range a r) (stays_in_range b s) k;
  one_text = λ k. ap full_text k;
}

pub unusable_files_have_one_key : UnusableFilesHaveOneKey
unusable_files_have_one_key b f g half full e k =
    ap fen_text (whatever_the_counters (with_file b f) half full)
    ∙ sym (uncounted_text (with_counters (settled (with_file b f)) half full))
    ∙ uncounted_text (settled (with_file b f))
    ∙ ap fen_text ((unusable_files_settle_alike b f g).alike e k)

-- ---- the writer, given what the call that settles hands out

board_of_lem : (s t : Stepped) → s ≡ t → s.board ≡ t.board
board_of_lem s t e = ap (λ (x : Stepped). x.board) e

handed_out : (b : BoardBuilder) → in_range b ≡ true → (settled_answer b).board ≡ settled b
handed_out b r = board_of_lem (settled_answer b) _ (call_settles.computed b r)

-- a record that the writer takes is in range
check_in_range : (b : BoardBuilder) → fen_check b ≡ 0 → in_range b ≡ true
check_in_range b e = go (in_range b) refl e
  where
    go : (t : Bool) → in_range b ≡ t → cond t 0 out_of_range ≡ 0 → in_range b ≡ true
    go true r z = r
    go false r z = absurd (omega (arith, z))

pub given_in_range : (b : BoardBuilder) → in_range (settled_answer b).board ≡ true → in_range b ≡ true
given_in_range b r = go (in_range b) refl
  where
    go : (t : Bool) → in_range b ≡ t → in_range b ≡ true
    go true e = e
    go false e = ap in_range (sym (board_of_lem (settled_answer b) _ (call_settles.out_of_range_fact b e))) ∙ r

module _ (b : BoardBuilder) (out : List ℕ) (e : (fen_writer.answer b (length out)).number ≡ 0) where
  pub taken_in_range : in_range b ≡ true
  taken_in_range = check_in_range b (check_passed (fen_check b) (fen_text b) (length out) e)

  pub key_front : take (fen_writer.answer b (length out)).value (fen_writer.room b out) ≡ fen_text b
  key_front =
      let w = accepted_writes_its_text (fen_check b) (fen_text b) out e in
      ap (λ (n : ℕ). take n (write_bytes (fen_check b) (fen_text b) out)) w.long ∙ w.front

module _ (b : BoardBuilder) (out : List ℕ) (e : (fen_writer.answer (settled_answer b).board (length out)).number ≡ 0) where
  named_in_range : in_range b ≡ true
  named_in_range = given_in_range b (taken_in_range (settled_answer b).board out e)

  named_so : record_named b out ≡ fen_text (settled b)
  named_so = key_front (settled_answer b).board out e ∙ ap fen_text (handed_out b named_in_range)

pub calls_name_records : CallsNameRecords
calls_name_records a b out other e f =
    let tell = settled_keys_tell a b (named_in_range a out e) (named_in_range b other f) in
    record {
      same_numbers = λ k. tell.same_numbers (sym (named_so a out e) ∙ k ∙ named_so b other f);
      same_key = λ k. named_so a out e ∙ tell.same_text k ∙ sym (named_so b other f);
    }

-- ---- the call for a text, by what was read

module _ (f : Fen) (out : List ℕ) where
  abbrev written : Answer
  written = fen_writer.answer (settled f.board) (length out)

  read_refused : (f.number ≡ 0 → ⊥) → settled_read f (length out) ≡ fault_at f.number f.offset
  unfolding settled_read
  read_refused n = rw (ne_eqb f.number 0 n)

  read_answer_lem : f.number ≡ 0 → settled_read f (length out) ≡ unplaced written
  unfolding settled_read
  read_answer_lem e = rw (eq-eqb f.number 0 e)

  read_bytes : f.number ≡ 0 → settled_bytes f out ≡ fen_writer.room (settled f.board) out
  unfolding settled_bytes
  read_bytes e = rw (eq-eqb f.number 0 e)

  read_accepts : (settled_read f (length out)).number ≡ 0 → (f.number ≡ 0) × (written.number ≡ 0)
  unfolding settled_read
  read_accepts e = go (eqb f.number 0) refl e
    where
      go : (t : Bool) → eqb f.number 0 ≡ t → (cond t (unplaced written) (fault_at f.number f.offset)).number ≡ 0
          → (f.number ≡ 0) × (written.number ≡ 0)
      go true e h = (eqb-true _ _ e, h)
      go false e h = absurd (eqb-false _ _ e h)

  read_front : (settled_read f (length out)).number ≡ 0
      → take (settled_read f (length out)).value (settled_bytes f out) ≡ fen_text (settled f.board)
  read_front e =
      let p = read_accepts e in
      rw (read_answer_lem p.0, read_bytes p.0) (key_front (settled f.board) out p.1)

  nothing_written : ((settled_read f (length out)).number ≡ 0 → ⊥) → settled_bytes f out ≡ out
  unfolding settled_read settled_bytes
  nothing_written n = go (eqb f.number 0) n
    where
      b : BoardBuilder
      b = settled f.board

      go : (t : Bool) → ((cond t (unplaced written) (fault_at f.number f.offset)).number ≡ 0 → ⊥)
          → cond t (write_bytes (fen_check b) (fen_text b) out) out ≡ out
      go true n = refused_writes_nothing (fen_check b) (fen_text b) out n
      go false n = refl

pub one_call_is_three : OneCallIsThree
one_call_is_three text out = record {
  refused = read_refused (read_fen text) out;
  answered = λ e. read_answer_lem (read_fen text) out e ∙ ap (λ (b : BoardBuilder). unplaced (fen_writer.answer b (length out))) (sym (settles e));
  written = λ e. read_bytes (read_fen text) out e ∙ ap (λ (b : BoardBuilder). fen_writer.room b out) (sym (settles e));
}
  where
    settles : (read_fen text).number ≡ 0 → (settled_answer (read_fen text).board).board ≡ settled (read_fen text).board
    settles e = handed_out (read_fen text).board (reads_in_range text e)

pub refused_settling_writes_nothing : RefusedSettlingWritesNothing
refused_settling_writes_nothing text out n = nothing_written (read_fen text) out n

-- the record of a text that is taken, settled: its counters are 0 and 1
module _ (text out : List ℕ) (e : (settled_key text (length out)).number ≡ 0) where
  abbrev b : BoardBuilder
  b = settled (read_fen text).board

  pub text_accepted : (read_fen text).number ≡ 0
  text_accepted = (read_accepts (read_fen text) out e).0

  in_range_settled : in_range b ≡ true
  in_range_settled = stays_in_range (read_fen text).board (reads_in_range text text_accepted)

  begun : uncounted b ≡ b
  begun = sym (whatever_the_counters (read_fen text).board 0 1) ∙ ap settled (reads_uncounted text text_accepted)

  key_is_written : key_written text out ≡ fen_text b
  key_is_written = read_front (read_fen text) out e

  key_is_read : read_fen (key_written text out) ≡ fen_of b
  key_is_read = ap read_fen key_is_written ∙ read_back b in_range_settled ∙ ap fen_of begun

pub calls_tell_settled_records : CallsTellSettledRecords
calls_tell_settled_records s t out other e f = record {
  one_record = λ k. ap (λ (x : Fen). x.board) (sym (key_is_read s out e) ∙ ap read_fen k ∙ key_is_read t other f);
  one_key = λ k. key_is_written s out e ∙ ap fen_text k ∙ sym (key_is_written t other f);
}

-- a record in range is written in any room that is long enough
writer_takes : (b : BoardBuilder) (out : List ℕ) → in_range b ≡ true → length (fen_text b) ≤ length out → (fen_writer.answer b (length out)).number ≡ 0
writer_takes b out r long =
    let check : fen_check b ≡ 0 = simp r in
    ap (λ (n : ℕ). (write_answer n (fen_text b) (length out)).number) check ∙ sym (ap (λ (a : Answer). a.number) (write_fits (fen_text b) out long).answer)

pub key_names_itself : KeyNamesItself
key_names_itself text out e = record {
  read = ap (λ (f : Fen). f.number) is;
  settled_record = once ∙ sym (ap (λ (f : Fen). f.board) is);
  again = λ other long. (taken other long, key_is_written key other (taken other long) ∙ ap fen_text once ∙ sym (key_is_written text out e));
}
  where
    key : List ℕ
    key = key_written text out

    b : BoardBuilder
    b = settled (read_fen text).board

    is : read_fen key ≡ fen_of b
    is = key_is_read text out e

    once : settled (read_fen key).board ≡ b
    once = ap (λ (f : Fen). settled f.board) is ∙ settled_is_settled (read_fen text).board

    taken : (other : List ℕ) → length key ≤ length other → (settled_key key (length other)).number ≡ 0
    taken other long =
        let fits : length (fen_text b) ≤ length other = rw (← key_is_written text out e) long in
        ap (λ (a : Placed). a.number) (read_answer_lem (read_fen key) other (ap (λ (f : Fen). f.number) is))
        ∙ ap (λ (c : BoardBuilder). (fen_writer.answer c (length other)).number) once
        ∙ writer_takes b other (in_range_settled text out e) fits
