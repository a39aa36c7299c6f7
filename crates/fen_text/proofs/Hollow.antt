-- Demand 2's read-back, kept by ours, but not by a constant text nor by a reader that always refuses. And the lengths told, kept by ours, but not by a
-- writer that invents one.
-- Assumes nothing.
use mathlib.Core.Path.{◌≡◌, refl, sym, ap, ap₂, ◌∙◌}
use mathlib.Core.Bool.{true}
use mathlib.Core.List.{List}
use Prim.Native.Nat.{ℕ, ◌≤◌}
use native.Mathlib.Omega.{arith}
use lib.ListN.{length, take, drop, replicate, length-replicate}
use lib.Seq.{take_at}
use Rattle.answer.specs.declared.Answer.{Answer}
use Rattle.answer.specs.Answer.{out_of_range, accepted, overwrite, write_answer, write_bytes}
use Rattle.answer.proofs.Writes.{write_fits}
use Rattle.answer.proofs.ItsText as its-text
use Rattle.answer.proofs.ItsText.{writers_keep_its_text, passed_or}
use Rattle.answer.specs.Numbers.{all_at_most}
use Rattle.board_builder.specs.declared.BoardBuilder.{BoardBuilder}
use Rattle.board_builder.specs.BoardBuilder.{uncounted, in_range, empty_board, initial_board}
use Rattle.fen_text.specs.declared.Fen.{Fen}
use Rattle.fen_text.specs.Read.{fen_of, read_fen}
use Rattle.fen_text.specs.Write.{fen_text, full_text, fen_check}
use Rattle.fen_text.specs.Full.{read_full}
use Rattle.fen_text.specs.Promises.{writer_of, fen_writer, crate_pair, full_pair, BackAgain, FenReadsBack, FullReadsBack, OneConstantTextFails}
use Rattle.fen_text.specs.Promises.{AlwaysRefusingFails, FenTellsItsLength, FullTellsItsLength, InventedLengthFails}
use Rattle.fen_text.proofs.Lengths.{fen_long, full_long}
use Rattle.fen_text.proofs.ReadBack.{read_back}
use Rattle.fen_text.proofs.Full.{full_read_back}

-- for either pair
module _ (text : BoardBuilder → List ℕ) (read : List ℕ → Fen) (most : ℕ) (kept : BoardBuilder → BoardBuilder)
    (b : BoardBuilder) (out : List ℕ) (r : in_range b ≡ true) (long : (25 ≤ length (text b)) × (length (text b) ≤ most)) (room : most ≤ length out) where
  goes_back : read (text b) ≡ fen_of (kept b) → BackAgain (record { writes = writer_of text; reads = read; most = most; kept = kept }) b out
  goes_back back =
      let s = text b in
      let fits : length s ≤ length out = omega (arith, long.1, room) in
      let check : fen_check b ≡ 0 = simp r in
      let w = write_fits s out fits in
      let answer : write_answer (fen_check b) s (length out) ≡ accepted (length s) = rw check (sym w.answer) in
      let bytes : write_bytes (fen_check b) s out ≡ overwrite s out = rw check (sym w.bytes) in
      let value : (write_answer (fen_check b) s (length out)).value ≡ length s = ap (λ (a : Answer). a.value) answer in
      record {
        accepts = ap (λ (a : Answer). a.number) answer;
        least = rw value long.0;
        most = rw value long.1;
        back = rw (value, bytes, take_at s (drop (length s) out) (length s) refl) back;
      }

pub fen_reads_back : FenReadsBack
fen_reads_back b out r room = goes_back fen_text read_fen 85 uncounted b out r (fen_long b r) room (read_back b r)

pub full_reads_back : FullReadsBack
full_reads_back b out r room = goes_back full_text read_full 91 (λ b. b) b out r (full_long b r) room (full_read_back b r)

-- two records in range
empty_in_range : in_range empty_board ≡ true
unfolding in_range all_at_most
empty_in_range = refl

initial_in_range : in_range initial_board ≡ true
unfolding in_range all_at_most
initial_in_range = refl

pub one_constant_text_fails : OneConstantTextFails
one_constant_text_fails p differ same_answer same_room back =
    let room : List ℕ = replicate p.most 0 in
    let long : p.most ≤ length room = omega (arith, length-replicate {A = ℕ} p.most 0) in
    let e = back empty_board room empty_in_range long in
    let i = back initial_board room initial_in_range long in
    let text : BoardBuilder → List ℕ = λ b. take (p.writes.answer b (length room)).value (p.writes.room b room) in
    let texts : text empty_board ≡ text initial_board
    = ap₂ (λ (a : Answer) (l : List ℕ). take a.value l)
    (same_answer empty_board initial_board (length room) empty_in_range initial_in_range)
    (same_room empty_board initial_board room empty_in_range initial_in_range) in
    let boards : fen_of (p.kept empty_board) ≡ fen_of (p.kept initial_board) = sym e.back ∙ ap p.reads texts ∙ i.back in
    differ (ap (λ (f : Fen). f.board) boards)

-- and each pair keeps apart what it must
pub crate_keeps_apart : crate_pair.kept empty_board ≡ crate_pair.kept initial_board → ⊥
crate_keeps_apart e = let rights : ◌≡◌ {A = ℕ} 0 3 = ap (λ (b : BoardBuilder). b.white_castle_rights) e in omega arith

pub full_keeps_apart : full_pair.kept empty_board ≡ full_pair.kept initial_board → ⊥
full_keeps_apart e = let rights : ◌≡◌ {A = ℕ} 0 3 = ap (λ (b : BoardBuilder). b.white_castle_rights) e in omega arith

pub always_refusing_fails : AlwaysRefusingFails
always_refusing_fails p refuses back =
    let room : List ℕ = replicate p.most 0 in
    let long : p.most ≤ length room = omega (arith, length-replicate {A = ℕ} p.most 0) in
    refuses _ (ap (λ (f : Fen). f.number) (back empty_board room empty_in_range long).back)

pub fen_tells_its_length : FenTellsItsLength
fen_tells_its_length b = writers_keep_its_text (fen_check b) (fen_text b) (passed_or (in_range b) out_of_range (λ z. omega arith))

pub full_tells_its_length : FullTellsItsLength
full_tells_its_length b = writers_keep_its_text (fen_check b) (full_text b) (passed_or (in_range b) out_of_range (λ z. omega arith))

pub invented_length_fails : InventedLengthFails
invented_length_fails w b i text keeps =
    its-text.invented_length_fails (fen_writer.answer b) (w.answer b) (fen_writer.room b) (w.room b) (fen_text b) (text b) (fen_tells_its_length b) i (keeps b)
