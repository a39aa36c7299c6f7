-- The full pair: a record's full text is read as the record, and the full reader is the crate's with counters.
-- Assumes nothing.
use mathlib.Core.Path.{◌≡◌, refl, sym, ap, ◌∙◌}
use mathlib.Core.Bool.{Bool, true, false, cond, false≢true}
use mathlib.Core.List.{List, [], ◌∷◌, ◌++◌}
use Prim.Native.Nat.{ℕ, ◌+◌, ◌≤◌}
use native.Mathlib.Omega.{arith}
use lib.Dec.{eqb, leb}
use lib.ListN.{length, drop}
use borrow.Author.Tests.{le-leb, leb-true, eqb-true, eq-eqb}
use Rattle.answer.specs.Answer.{bad_counter}
use Rattle.answer.specs.Numbers.{between}
use Rattle.answer.proofs.Numbers.{both_left, both_right}
use Rattle.board_builder.specs.declared.BoardBuilder.{BoardBuilder}
use Rattle.board_builder.specs.BoardBuilder.{with_counters, uncounted, numbers, last_count, in_range}
use Rattle.board_builder.proofs.Ranges.{CountersIn, InRange, in_range_lem, range_holds}
use Rattle.decimal.specs.Decimal.{decimal}
use Rattle.fen_text.specs.declared.Fen.{Fen}
use Rattle.fen_text.specs.Token.{tokens}
use Rattle.fen_text.specs.Read.{refused_at, fen_of, read_fen}
use Rattle.fen_text.specs.Write.{ranks_text, tail_with, full_tail, full_text}
use Rattle.fen_text.specs.Full.{counter_of, numbered, clocked, start_behind, counters_read, read_full}
use Rattle.fen_text.specs.Promises.{FullTextReadsBack, OneFullText, FullAsTheCrate, FullReaderIsTheCratesWithCounters}
use Rattle.fen_text.proofs.ReadBack.{token, four, back}
use Rattle.fen_text.proofs.Counters.{count_back, count_free, alone}
use Rattle.fen_text.proofs.Keys.{reads_in_range}

-- the last two tokens
two : (half full : ℕ) → tokens (decimal half ++ (32 ∷ decimal full)) ≡ decimal half ∷ decimal full ∷ []
two half full = token (decimal half) (decimal full) (count_free half) ∙ ap (λ (ts : List (List ℕ)). decimal half ∷ ts) (alone (decimal full) (count_free full))

-- they are read as the counters
clocked_back : (b : BoardBuilder) (half full long at : ℕ) → half ≤ last_count → 1 ≤ full → full ≤ last_count
    → clocked b long at (decimal half ∷ decimal full ∷ []) ≡ fen_of (with_counters b half full)
unfolding clocked numbered
clocked_back b half full long at h k l = simp (count_back half h, count_back full l, le-leb _ _ h, le-leb _ _ k, le-leb _ _ l)

pub full_read_back : FullTextReadsBack
unfolding read_full counters_read full_text full_tail
full_read_back b good =
    let r = in_range_lem b good in
    let half = b.half_moves in
    let full = b.full_moves in
    let end : List ℕ = decimal half ++ (32 ∷ decimal full) in
    let s : List ℕ = ranks_text 8 b.pieces ++ tail_with b (32 ∷ end) in
    let c = r.counters in
    rw (back b r end, four b r end, two half full)
    (clocked_back (uncounted b) half full (length s) _ c.half_most c.full_least c.full_most)

pub one_full_text : OneFullText
one_full_text a b r s e = ap (λ (f : Fen). f.board) (sym (full_read_back a r) ∙ ap read_full e ∙ full_read_back b s)

-- ---- the full reader is the crate's, with counters

-- what is made of a record in range and the tokens behind it: 25, or that record with counters in range
record Made (b : BoardBuilder) (f : Fen) : Type 0 where
  good : f.number ≡ 0 → in_range f.board ≡ true
  same_numbers : f.number ≡ 0 → numbers f.board ≡ numbers b
  other : (f.number ≡ 0 → ⊥) → f ≡ refused_at bad_counter f.offset

made_none : (b : BoardBuilder) (offset : ℕ) → Made b (refused_at bad_counter offset)
made_none b offset = record { good = λ e. absurd (omega (arith, e)); same_numbers = λ e. absurd (omega (arith, e)); other = λ n. refl }

made_with : (b : BoardBuilder) (half full : ℕ) → InRange b → CountersIn half full → Made b (fen_of (with_counters b half full))
unfolding numbers
made_with b half full r c = record {
  good = λ e.
      range_holds (with_counters b half full)
      (record { long = r.long; side = r.side; white = r.white; black = r.black; file = r.file; codes = r.codes; counters = c });
  same_numbers = λ e. refl;
  other = λ n. absurd (n refl);
}

numbered_made : (b : BoardBuilder) (half long at : ℕ) (ts : List (List ℕ)) → InRange b → half ≤ last_count → Made b (numbered b half long at ts)
unfolding numbered
numbered_made b half long at [] r h = made_none b long
numbered_made b half long at (t ∷ ts) r h = go (between 1 last_count (counter_of t)) refl
  where
    go : (u : Bool) → between 1 last_count (counter_of t) ≡ u
        → Made b (cond u (fen_of (with_counters b half (counter_of t))) (refused_at bad_counter at))
    go false e = made_none b at
    go true e =
        let n : ℕ = counter_of t in
        made_with b half n r
        (record {
          half_most = h;
          full_least = leb-true _ _ (both_left (leb 1 n) (leb n last_count) e);
          full_most = leb-true _ _ (both_right (leb 1 n) (leb n last_count) e);
        })

clocked_made : (b : BoardBuilder) (long at : ℕ) (ts : List (List ℕ)) → InRange b → Made b (clocked b long at ts)
unfolding clocked
clocked_made b long at [] r = made_none b long
clocked_made b long at (t ∷ ts) r = go (leb (counter_of t) last_count) refl
  where
    go : (u : Bool) → leb (counter_of t) last_count ≡ u
        → Made b (cond u (numbered b (counter_of t) long (at + length t + 1) ts) (refused_at bad_counter at))
    go false e = made_none b at
    go true e = numbered_made b (counter_of t) long (at + length t + 1) ts r (leb-true _ _ e)

pub full_as_the_crate : FullReaderIsTheCratesWithCounters
unfolding read_full counters_read
full_as_the_crate s = go (eqb (read_fen s).number 0) refl
  where
    behind : Fen
    behind = clocked (read_fen s).board (length s) (start_behind 4 (tokens s)) (drop 4 (tokens s))

    go : (t : Bool) → eqb (read_fen s).number 0 ≡ t → FullAsTheCrate s
    go true e =
        let zero-said : (read_fen s).number ≡ 0 = eqb-true (read_fen s).number 0 e in
        let m : Made (read_fen s).board behind =
        clocked_made (read_fen s).board (length s) (start_behind 4 (tokens s)) (drop 4 (tokens s))
        (in_range_lem (read_fen s).board (reads_in_range s zero-said)) in
        let same : read_full s ≡ behind = simp e in
        record {
          in_range_lem = λ z. rw same (m.good (sym (ap (λ (f : Fen). f.number) same) ∙ z));
          accepted = λ z. (zero-said, rw same (m.same_numbers (sym (ap (λ (f : Fen). f.number) same) ∙ z)));
          refused = λ n. absurd (n zero-said);
          only_25 = λ z n. rw same (m.other (λ y. n (ap (λ (f : Fen). f.number) same ∙ y)));
        }
    go false e =
        let some : (read_fen s).number ≡ 0 → ⊥ = λ z. false≢true (sym e ∙ eq-eqb _ _ z) in
        let same : read_full s ≡ read_fen s = simp e in
        record {
          in_range_lem = λ z. absurd (some (sym (ap (λ (f : Fen). f.number) same) ∙ z));
          accepted = λ z. absurd (some (sym (ap (λ (f : Fen). f.number) same) ∙ z));
          refused = λ n. same;
          only_25 = λ z n. absurd (some z);
        }
