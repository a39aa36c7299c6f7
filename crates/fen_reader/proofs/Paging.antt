-- A page read line by line: what the rooms hold after some lines, which with the lines that are left makes the whole page.
-- Assumes nothing.
use mathlib.Core.Path.{◌≡◌, refl, sym, ap, subst, ◌∙◌}
use mathlib.Core.Bool.{Bool, true, false, cond}
use mathlib.Core.List.{List, [], ◌∷◌, ◌++◌}
use Prim.Native.Nat.{ℕ, ◌+◌, ◌*◌, ◌-◌, ◌≤◌, ◌<◌}
use native.Mathlib.Omega.{arith}
use lib.Dec.{ltb}
use lib.ListN.{length, take, drop, drop_of_length-le}
use borrow.Author.Tests.{ltb-true, ltb-false}
use Rattle.answer.specs.Answer.{overwrite}
use Rattle.answer.specs.Parts.{written}
use Rattle.answer.proofs.Parts.{length_written, written_behind, written_none}
use Rattle.answer.proofs.Overwrites.{from_front}
use Rattle.board_builder.specs.BoardBuilder.{numbers, record_size}
use Rattle.fen_text.specs.declared.Fen.{Fen}
use Rattle.fen_text.specs.Token.{place_of}
use Rattle.fen_text.specs.Read.{read_fen}
use Rattle.fen_text.specs.Lines.{line_feed, lines, line_end, over_lines}
use Rattle.fen_text.specs.Page.{record_of, told_of, told_size, line_count, page_records, page_told}
use Rattle.fen_text.proofs.Lines.{lines_from}
use Rattle.fen_text.proofs.Pages.{record_long, records_long, told_long}
use Rattle.fen_reader.proofs.Blocks.{end_within}

pub record Reached (text records₀ told₀ records told : List ℕ) (at line : ℕ) : Type 0 where
  pub within : at ≤ length text
  pub count : line + line_count (drop at text) ≡ line_count text
  pub records_long : length records ≡ length records₀
  pub bytes : written records (record_size * line) (page_records (drop at text)) ≡ overwrite (page_records text) records₀
  pub told_long : length told ≡ length told₀
  pub said : written told (told_size * line) (page_told (drop at text)) ≡ overwrite (page_told text) told₀

pub begun : (text records told : List ℕ) → Reached text records told records told 0 0
begun text records told = record {
  within = omega arith;
  count = omega arith;
  records_long = refl;
  bytes = from_front records (page_records text);
  told_long = refl;
  said = from_front told (page_told text);
}

-- no line is left: what the rooms hold is the whole page
pub done : (text records₀ told₀ records told : List ℕ) (at line : ℕ) → length text ≤ at → Reached text records₀ told₀ records told at line
    → (records ≡ overwrite (page_records text) records₀) × (told ≡ overwrite (page_told text) told₀)
unfolding lines over_lines
done text records₀ told₀ records told at line h r =
    let none : drop at text ≡ [] = drop_of_length-le text h in
    let a : page_records (drop at text) ≡ [] = ap page_records none in
    let b : page_told (drop at text) ≡ [] = ap page_told none in (
      written_none records (record_size * line) ∙ ap (written records (record_size * line)) (sym a) ∙ r.bytes,
      written_none told (told_size * line) ∙ ap (written told (told_size * line)) (sym b) ∙ r.said,
    )

-- the line that starts at a place, and those behind it
module _ (text : List ℕ) (at end : ℕ) (h : at < length text) (e : end ≡ line_end text at) where
  line_here : lines (drop at text) ≡ take (end - at) (drop at text) ∷ lines (drop (end + 1) text)
  line_here =
      let n : place_of line_feed (drop at text) ≡ end - at = omega arith in
      lines_from text at end h e ∙ ap (λ (k : ℕ). take k (drop at text) ∷ lines (drop (end + 1) text)) n

  one_more_lem : line_count (drop at text) ≡ 1 + line_count (drop (end + 1) text)
  one_more_lem = ap length line_here ∙ omega arith

-- where the next line starts: within the text, and with those lines
pub past_place : (text : List ℕ) (end next : ℕ) → end ≤ length text → next ≡ cond (ltb end (length text)) (end + 1) end
    → (next ≤ length text) × (drop next text ≡ drop (end + 1) text)
past_place text end next h e = go (ltb end (length text)) refl
  where
    go : (t : Bool) → ltb end (length text) ≡ t → (next ≤ length text) × (drop next text ≡ drop (end + 1) text)
    go true f =
        let n : next ≡ end + 1 = e ∙ simp f in
        let k = ltb-true end (length text) f in
        (omega arith, ap (λ (j : ℕ). drop j text) n)
    go false f =
        let n : next ≡ end = e ∙ simp f in
        let k = ltb-false end (length text) f in
        (omega arith, drop_of_length-le text {i = next} (omega arith) ∙ sym (drop_of_length-le text {i = end + 1} (omega arith)))

-- which is further on
pub further : (text : List ℕ) (at end next : ℕ) → at < length text → end ≡ line_end text at → next ≡ cond (ltb end (length text)) (end + 1) end
    → length text - next < length text - at
further text at end next h e w = go (ltb end (length text)) refl
  where
    go : (t : Bool) → ltb end (length text) ≡ t → length text - next < length text - at
    go true f = let n : next ≡ end + 1 = w ∙ simp f in let k = ltb-true end (length text) f in omega arith
    go false f = let n : next ≡ end = w ∙ simp f in let k = ltb-false end (length text) f in omega arith

module _ (text records₀ told₀ records told : List ℕ) (at line end : ℕ) (fen : Fen)
    (rooms : record_size * line_count text ≤ length records₀) (said : told_size * line_count text ≤ length told₀)
    (r : Reached text records₀ told₀ records told at line) (h : at < length text) (e : end ≡ line_end text at)
    (f : fen ≡ read_fen (take (end - at) (drop at text))) where
  long : length (numbers fen.board) ≡ record_size
  long = ap (λ (x : Fen). length (numbers x.board)) f ∙ record_long (take (end - at) (drop at text))

  pub bounds : (record_size * line + length (numbers fen.board) ≤ length records) × (told_size * line + told_size ≤ length told)
  bounds =
      let n = one_more_lem text at end h e in
      let c = r.count in
      let a = r.records_long in
      let b = r.told_long in
      (omega (arith, long), omega arith)

  pub turned : (next : ℕ) (records' told' : List ℕ)
      → records' ≡ written records (record_size * line) (numbers fen.board)
      → told' ≡ written told (told_size * line) (fen.number ∷ fen.offset ∷ [])
      → next ≡ cond (ltb end (length text)) (end + 1) end
      → Reached text records₀ told₀ records' told' next (line + 1)
  unfolding over_lines
  turned next records' told' u v w =
      let fit : end ≤ length text = subst (λ (k : ℕ). k ≤ length text) (sym e) (end_within line_feed text at r.within) in
      let p = past_place text end next fit w in
      let more = one_more_lem text at end h e in
      let left : drop next text ≡ drop (end + 1) text = p.1 in
      let c = r.count in
      let a = r.records_long in
      let b = r.told_long in
      let count : line_count (drop next text) ≡ line_count (drop (end + 1) text) = ap line_count left in
      let rest-long = records_long (drop next text) in
      let rest-told = told_long (drop next text) in
      let recs : page_records (drop at text) ≡ numbers fen.board ++ page_records (drop next text) =
      ap (over_lines record_of) (line_here text at end h e)
      ∙ ap (λ (x : Fen). numbers x.board ++ page_records (drop (end + 1) text)) (sym f)
      ∙ ap (λ (x : List ℕ). numbers fen.board ++ page_records x) (sym left) in
      let tolds : page_told (drop at text) ≡ (fen.number ∷ fen.offset ∷ []) ++ page_told (drop next text) =
      ap (over_lines told_of) (line_here text at end h e)
      ∙ ap (λ (x : Fen). (x.number ∷ x.offset ∷ []) ++ page_told (drop (end + 1) text)) (sym f)
      ∙ ap (λ (x : List ℕ). (fen.number ∷ fen.offset ∷ []) ++ page_told x) (sym left) in
      record {
        within = p.0;
        count = omega arith;
        records_long = ap length u ∙ length_written records (record_size * line) (numbers fen.board) bounds.0 ∙ a;
        bytes =
            ap (λ (x : List ℕ). written x (record_size * (line + 1)) (page_records (drop next text))) u
            ∙ written_behind records (record_size * line) (numbers fen.board) bounds.0 (record_size * (line + 1)) (page_records (drop next text))
            (omega (arith, long)) (omega arith)
            ∙ ap (written records (record_size * line)) (sym recs)
            ∙ r.bytes;
        told_long = ap length v ∙ length_written told (told_size * line) (fen.number ∷ fen.offset ∷ []) bounds.1 ∙ b;
        said =
            ap (λ (x : List ℕ). written x (told_size * (line + 1)) (page_told (drop next text))) v
            ∙ written_behind told (told_size * line) (fen.number ∷ fen.offset ∷ []) bounds.1 (told_size * (line + 1)) (page_told (drop next text))
            (omega arith) (omega arith)
            ∙ ap (written told (told_size * line)) (sym tolds)
            ∙ r.said;
      }
