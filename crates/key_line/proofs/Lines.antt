-- A line of the program keys, put behind what a room holds: the key and its newline, or the refusal, with 86 bytes at hand.
-- Assumes nothing.
use mathlib.Core.Path.{◌≡◌, refl, sym, ap, ◌∙◌}
use mathlib.Core.Bool.{Bool, true, false, cond}
use mathlib.Core.List.{List, ◌++◌}
use Prim.Native.Nat.{ℕ, ◌+◌, ◌-◌, ◌≤◌, ◌<◌}
use native.Mathlib.Omega.{arith}
use lib.ListN.{length, take, drop, set, length-append}
use borrow.Author.Tests.{eq-eqb, ne_eqb}
use Rattle.answer.specs.declared.Answer.{Answer}
use Rattle.answer.specs.Answer.{write_answer, write_bytes, out_of_range}
use Rattle.answer.specs.Parts.{written}
use Rattle.answer.proofs.Parts.{written_next, length_written}
use Rattle.answer.proofs.Puts.{put_text, put_written}
use Rattle.board_builder.specs.BoardBuilder.{in_range}
use Rattle.fen_text.specs.declared.Fen.{Fen}
use Rattle.fen_text.specs.Read.{read_fen}
use Rattle.fen_text.specs.Write.{fen_text, fen_check}
use Rattle.fen_text.specs.Promises.{key_of}
use Rattle.fen_text.proofs.Keys.{reads_in_range}
use Rattle.fen_text.proofs.Lengths.{fen_long}
use Rattle.key_line.specs.declared.Lined.{Lined}
use Rattle.key_line.specs.KeyLine.{newline, refusal_line, key_line}
use Rattle.key_line.specs.KeyPage.{longest_line, is_key, lined_at}
use Rattle.key_line.proofs.Refusals.{few_digits}

pub line_accepted : (s : List ℕ) (f : Fen) → f ≡ read_fen s → f.number ≡ 0 → key_line s ≡ key_of s ++ newline
unfolding key_line
line_accepted s f e z =
    let number : (read_fen s).number ≡ 0 = ap (λ (g : Fen). g.number) (sym e) ∙ z in
    simp (eq-eqb _ _ number)

pub line_refused : (s : List ℕ) (f : Fen) → f ≡ read_fen s → (f.number ≡ 0 → ⊥) → key_line s ≡ refusal_line f.number f.offset
unfolding key_line
line_refused s f e n =
    let other : (read_fen s).number ≡ 0 → ⊥ = λ z. n (ap (λ (g : Fen). g.number) e ∙ z) in
    simp (ne_eqb _ _ other, e)

-- ---- what a writer that is lent a room from some place on leaves

module _ (l bytes w : List ℕ) (at room check : ℕ) (a : Answer) (passed : check ≡ 0) (fits : at + length bytes ≤ length l)
    (ea : a ≡ write_answer check bytes room) (ew : w ≡ write_bytes check bytes (take (length l - at) (drop at l))) where
  pub value_there : a.value ≡ length bytes
  value_there =
      let e : a ≡ write_answer 0 bytes room = ea ∙ ap (λ (k : ℕ). write_answer k bytes room) passed in
      let f : w ≡ write_bytes 0 bytes (take (length l - at) (drop at l)) = ew ∙ ap (λ (k : ℕ). write_bytes k bytes (take (length l - at) (drop at l))) passed in
      omega (arith, (put_text l bytes w at room a refl fits e f).pushed.count)

  pub bytes_there : take at l ++ (w ++ drop (length l - at) (drop at l)) ≡ written l at bytes
  bytes_there = put_written at check l bytes w passed fits ew

-- ---- a refused line

pub refusal_short : (number offset : ℕ) → number < 18446744073709551616 → offset < 18446744073709551616 → length (refusal_line number offset) ≤ 44
refusal_short number offset h k =
    let a = few_digits number h in
    let b = few_digits offset k in
    simp length-append (omega arith)

lined : (ready more : ℕ) (accepted known : Bool) → ready ≡ more → accepted ≡ known
    → ◌≡◌ {A = Lined} (record { ready = ready; accepted = accepted }) (record { ready = more; accepted = known })
lined ready more accepted known e f = rw (e, f)

module _ (s l w : List ℕ) (f : Fen) (at room : ℕ) (a : Answer) (e : f ≡ read_fen s) (n : f.number ≡ 0 → ⊥)
    (small : f.number < 18446744073709551616) (near : f.offset < 18446744073709551616) (fits : at + longest_line ≤ length l)
    (ea : a ≡ write_answer 0 (refusal_line f.number f.offset) room)
    (ew : w ≡ write_bytes 0 (refusal_line f.number f.offset) (take (length l - at) (drop at l))) where
  refusal_fits : at + length (refusal_line f.number f.offset) ≤ length l
  refusal_fits = omega (arith, refusal_short f.number f.offset small near)

  pub refused_value : a.value ≡ length (refusal_line f.number f.offset)
  refused_value = value_there l (refusal_line f.number f.offset) w at room 0 a refl refusal_fits ea ew

  pub refused_short : length (key_line s) ≤ longest_line
  refused_short = rw (line_refused s f e n) (omega (arith, refusal_short f.number f.offset small near))

  pub refused_line : ◌≡◌ {A = Lined} (record { ready = at + a.value; accepted = false }) (lined_at at s)
  refused_line =
      let other : (read_fen s).number ≡ 0 → ⊥ = λ z. n (ap (λ (g : Fen). g.number) e ∙ z) in
      lined (at + a.value) (at + length (key_line s)) false (is_key s)
      (ap (λ (k : ℕ). at + k) (refused_value ∙ ap length (sym (line_refused s f e n))))
      (sym (simp (ne_eqb _ _ other)))

  pub refused_bytes : take at l ++ (w ++ drop (length l - at) (drop at l)) ≡ written l at (key_line s)
  refused_bytes =
      bytes_there l (refusal_line f.number f.offset) w at room 0 a refl refusal_fits ea ew
      ∙ ap (written l at) (sym (line_refused s f e n))

-- ---- an accepted line

module _ (s l w : List ℕ) (f : Fen) (at room : ℕ) (a : Answer) (e : f ≡ read_fen s) (z : f.number ≡ 0) (fits : at + longest_line ≤ length l)
    (ea : a ≡ write_answer (fen_check f.board) (fen_text f.board) room)
    (ew : w ≡ write_bytes (fen_check f.board) (fen_text f.board) (take (length l - at) (drop at l))) where
  number : (read_fen s).number ≡ 0
  number = ap (λ (g : Fen). g.number) (sym e) ∙ z

  ranged : in_range f.board ≡ true
  ranged = ap (λ (g : Fen). in_range g.board) e ∙ reads_in_range s number

  passed : fen_check f.board ≡ 0
  passed = ap (λ (t : mathlib.Core.Bool.Bool). cond t 0 out_of_range) ranged

  short : length (fen_text f.board) ≤ 85
  short = (fen_long f.board ranged).1

  key : fen_text f.board ≡ key_of s
  key = ap (λ (g : Fen). fen_text g.board) e

  text_fits : at + length (fen_text f.board) ≤ length l
  text_fits = omega (arith, short)

  pub key_value : a.value ≡ length (fen_text f.board)
  key_value = value_there l (fen_text f.board) w at room (fen_check f.board) a passed text_fits ea ew

  pub key_within : a.value ≤ 85
  key_within = omega (arith, key_value, short)

  pub newline_place : at + a.value < length (take at l ++ (w ++ drop (length l - at) (drop at l)))
  newline_place =
      let long : length (take at l ++ (w ++ drop (length l - at) (drop at l))) ≡ length l =
      ap length (bytes_there l (fen_text f.board) w at room (fen_check f.board) a passed text_fits ea ew)
      ∙ length_written l at (fen_text f.board) text_fits in
      omega (arith, key_within)

  whole : key_line s ≡ fen_text f.board ++ newline
  whole = line_accepted s f e z ∙ ap (λ (t : List ℕ). t ++ newline) (sym key)

  whole_long : length (key_line s) ≡ a.value + 1
  whole_long = ap length whole ∙ length-append (fen_text f.board) newline ∙ omega (arith, key_value)

  pub key_short : length (key_line s) ≤ longest_line
  key_short = omega (arith, whole_long, key_within)

  pub accepted_line : ◌≡◌ {A = Lined} (record { ready = at + a.value + 1; accepted = true }) (lined_at at s)
  accepted_line = lined (at + a.value + 1) (at + length (key_line s)) true (is_key s) (omega (arith, whole_long)) (sym (simp (eq-eqb _ _ number)))

  pub accepted_bytes : set (take at l ++ (w ++ drop (length l - at) (drop at l))) (at + a.value) 10 ≡ written l at (key_line s)
  accepted_bytes =
      ap (λ (x : List ℕ). set x (at + a.value) 10) (bytes_there l (fen_text f.board) w at room (fen_check f.board) a passed text_fits ea ew)
      ∙ written_next l at (fen_text f.board) text_fits (at + a.value) 10 (omega (arith, key_value)) (omega (arith, key_within))
      ∙ ap (written l at) (sym whole)
