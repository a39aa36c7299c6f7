-- The full reader's cuts: four tokens are cut off, then the fifth and the sixth are read as counters.
-- Assumes nothing.
use mathlib.Core.Path.{◌≡◌, refl, sym, ap, ◌∙◌}
use mathlib.Core.List.{List}
use Prim.Native.Nat.{ℕ, ◌+◌, ◌-◌, ◌≤◌, ◌<◌}
use native.Mathlib.Decide.{dec_le}
use native.Mathlib.Omega.{arith}
use lib.ListN.{length, take, drop, length-drop}
use lib.Seq.{take_all, length-take-le}
use borrow.Author.Tests.{eq-eqb, ne_eqb, le-leb, lt-leb}
use Rattle.answer.specs.Answer.{bad_counter}
use Rattle.board_builder.specs.declared.BoardBuilder.{BoardBuilder}
use Rattle.board_builder.specs.BoardBuilder.{with_counters, last_count}
use Rattle.fen_text.specs.declared.Fen.{Fen}
use Rattle.fen_text.specs.Token.{place_of, tokens}
use Rattle.fen_text.specs.Read.{refused_at, fen_of, read_fen}
use Rattle.fen_text.specs.Full.{counter_of, numbered, clocked, start_behind, counters_read, read_full}
use Rattle.fen_text.proofs.Tokens.{tokens_last}
use Rattle.fen_text.proofs.Faults.{every_text_is_told_where}
use Rattle.fen_reader.proofs.Reading.{Cut, last, cut, first_token}

-- the token at the front of a text
abbrev pub front : List ℕ → List ℕ
front s = take (place_of 32 s) s

-- ---- the sixth token
module _ (b : BoardBuilder) (half long at : ℕ) (s : List ℕ) where
  pub no_number : counter_of (front s) ≡ 0 → refused_at bad_counter at ≡ numbered b half long at (tokens s)
  unfolding numbered
  no_number e = rw (first_token s).1 (simp e)

  pub big_number : last_count < counter_of (front s) → refused_at bad_counter at ≡ numbered b half long at (tokens s)
  unfolding numbered
  big_number h =
      let some : 1 ≤ counter_of (front s) = omega arith in
      rw (first_token s).1 (simp (le-leb _ _ some, lt-leb _ _ h))

  pub a_number : (n : ℕ) → n ≡ counter_of (front s) → (n ≡ 0 → ⊥) → n ≤ last_count → fen_of (with_counters b half n) ≡ numbered b half long at (tokens s)
  unfolding numbered
  a_number n e z h =
      let some : 1 ≤ n = omega arith in
      rw ((first_token s).1, ← e) (simp (le-leb _ _ some, le-leb _ _ h))

-- ---- the fifth token
module _ (b : BoardBuilder) (long at : ℕ) (s : List ℕ) (end n : ℕ) (place : end ≡ place_of 32 s) (says : n ≡ counter_of (take end s)) where
  first : n ≡ counter_of (front s)
  first = says ∙ ap (λ (k : ℕ). counter_of (take k s)) place

  pub no_clock : last_count < n → refused_at bad_counter at ≡ clocked b long at (tokens s)
  unfolding clocked
  no_clock h = rw ((first_token s).1, ← first) (simp (lt-leb _ _ h))

  pub last_clock : n ≤ last_count → length s ≤ end → refused_at bad_counter long ≡ clocked b long at (tokens s)
  unfolding clocked numbered
  last_clock h none =
      let whole : n ≡ counter_of s = says ∙ ap counter_of (take_all end s none) in
      rw (last (record { place = place; none = none }), ← whole) (simp (le-leb _ _ h))

  pub a_clock : (t : List ℕ) → n ≤ last_count → end < length s → t ≡ drop (end + 1) s
      → numbered b n long (at + end + 1) (tokens t) ≡ clocked b long at (tokens s)
  unfolding clocked
  a_clock t h within rest =
      let long_enough_lem : length (take end s) ≡ end = length-take-le end s (omega arith) in
      rw (cut (record { place = place; within = within; rest = rest }), ← says, long_enough_lem) (simp (le-leb _ _ h))

-- ---- the first four
pub refused_first : (s : List ℕ) → ((read_fen s).number ≡ 0 → ⊥) → read_fen s ≡ read_full s
unfolding read_full counters_read
refused_first s n = simp (ne_eqb _ _ n)

four_tokens_there : (s : List ℕ) → (read_fen s).number ≡ 0 → 4 ≤ length (tokens s)
four_tokens_there s e = go (dec_le 4 (length (tokens s)))
  where
    go : Dec (4 ≤ length (tokens s)) → 4 ≤ length (tokens s)
    go (yes h) = h
    go (no n) = absurd (omega (arith, sym e ∙ ap (λ (f : Fen). f.number) ((every_text_is_told_where s).few (omega arith))))

-- what stands after the first space
abbrev pub rest : List ℕ → List ℕ
rest s = drop (place_of 32 s + 1) s

more_tokens : (s : List ℕ) → 2 ≤ length (tokens s) → Cut s (place_of 32 s) (rest s)
more_tokens s h = record { place = refl; within = go (dec_le (length s) (place_of 32 s)); rest = refl }
  where
    go : Dec (length s ≤ place_of 32 s) → place_of 32 s < length s
    go (no n) = omega arith
    go (yes k) = absurd (omega (arith, ap (λ (ts : List (List ℕ)). length ts) (tokens_last s k)))

-- a cut takes a token and a space from the length
cut_long : {s : List ℕ} {a : ℕ} {t : List ℕ} → Cut s a t → length s ≡ length (take a s) + 1 + length t
cut_long {s} {a} {t} h =
    let front_long : length (take a s) ≡ a = length-take-le a s (omega (arith, h.within)) in
    let rest-long : length t ≡ length s - (a + 1) = ap length h.rest ∙ length-drop (a + 1) s in
    omega (arith, h.within)

module _ (s ep : List ℕ) (good : (read_fen s).number ≡ 0) (here : ep ≡ rest (rest (rest s))) where
  enough : 4 ≤ length (tokens s)
  enough = four_tokens_there s good

  cut1 : Cut s (place_of 32 s) (rest s)
  cut1 = more_tokens s (omega (arith, enough))

  count1 : 3 ≤ length (tokens (rest s))
  count1 = omega (arith, enough, ap (λ (ts : List (List ℕ)). length ts) (cut cut1))

  cut2 : Cut (rest s) (place_of 32 (rest s)) (rest (rest s))
  cut2 = more_tokens (rest s) (omega (arith, count1))

  count2 : 2 ≤ length (tokens (rest (rest s)))
  count2 = omega (arith, count1, ap (λ (ts : List (List ℕ)). length ts) (cut cut2))

  cut3 : Cut (rest (rest s)) (place_of 32 (rest (rest s))) ep
  cut3 =
      let c = more_tokens (rest (rest s)) (omega (arith, count2)) in
      record { place = c.place; within = c.within; rest = here }

  as_counted : read_full s ≡ clocked (read_fen s).board (length s) (start_behind 4 (tokens s)) (drop 4 (tokens s))
  unfolding read_full counters_read
  as_counted = simp (eq-eqb _ _ good)

  pub no_counters : (end : ℕ) → end ≡ place_of 32 ep → length ep ≤ end → refused_at bad_counter (length s) ≡ read_full s
  unfolding clocked
  no_counters end place none = sym (as_counted ∙ rw (cut cut1, cut cut2, cut cut3, last (record { place = place; none = none })))

  module _ (end : ℕ) (t : List ℕ) (place : end ≡ place_of 32 ep) (within : end < length ep) (behind : t ≡ drop (end + 1) ep) where
    cut4 : Cut ep end t
    cut4 = record { place = place; within = within; rest = behind }

    starts : start_behind 4 (tokens s) ≡ length s - length t
    unfolding start_behind
    starts = rw (cut cut1, cut cut2, cut cut3, cut cut4) (omega (arith, cut_long cut1, cut_long cut2, cut_long cut3, cut_long cut4))

    pub not_past : length t ≤ length s
    not_past = omega (arith, cut_long cut1, cut_long cut2, cut_long cut3, cut_long cut4)

    pub counters_there : clocked (read_fen s).board (length s) (length s - length t) (tokens t) ≡ read_full s
    counters_there = sym (as_counted ∙ rw (starts, cut cut1, cut cut2, cut cut3, cut cut4))
