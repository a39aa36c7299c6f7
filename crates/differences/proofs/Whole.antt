-- The whole call: what it knows of two rolls that are read, space for the text, and what it answers and leaves.
-- Assumes nothing.
use mathlib.Core.Path.{◌≡◌, refl, ap, ap₂, sym, ◌∙◌}
use mathlib.Core.Bool.{true}
use mathlib.Core.List.{List, [], ◌∷◌, ◌++◌, append_assoc}
use Prim.Native.Nat.{ℕ, suc, ◌+◌, ◌≤◌, ◌<◌}
use native.Mathlib.Omega.{arith}
use lib.ListN.{length, drop, get_or, length-append}
use lib.Seq.{drop_at}
use Rattle.answer.specs.declared.Answer.{Answer}
use Rattle.answer.specs.Answer.{accepted, refused, write_answer, write_bytes}
use Rattle.answer.specs.Numbers.{all_at_most, same}
use Rattle.answer.proofs.Numbers.{most_cons}
use Rattle.answer.proofs.Same.{same_eq}
use Rattle.answer.proofs.Writes.{write_refused, write_fits}
use Rattle.board_builder.specs.BoardBuilder.{record_size}
use Rattle.game_rules.specs.Limits.{limits}
use Rattle.roll_text.specs.Number.{number_text}
use Rattle.roll_text.specs.Roll.{Start, Rolled, refusal, rolled, actions_text, read_roll}
use Rattle.roll_text.specs.Calls.{roll_answer}
use Rattle.roll_text.proofs.Refusals.{roll_told_lem, accepted_rolled}
use Rattle.roll_reader.specs.declared.Checked.{Checked}
use Rattle.roll_reader.specs.Checked.{checked}
use Rattle.differences_text.specs.Differences.{start_numbers, start_differences, action_numbers, action_difference, lines_text}
use Rattle.differences_text.specs.Calls.{differences, differences_check, differences_text, differences_answer, differences_room}
use Rattle.differences_text.specs.Promises.{longest}
use Rattle.differences_text.proofs.Lines.{lines_both}
use Rattle.differences_text.proofs.Games.{Read, read_roll_lem, numbers_within, counts_within, action_within, start_text}
use Rattle.differences_text.proofs.Refusals.{first_told, second_told, both_pass, limits_have_four_digits}
use Rattle.differences_text.proofs.NoLine.{no_own_text}
use Rattle.differences.specs.CodeEntries.{text_numbers}
use Rattle.differences.specs.CodeTexts.{start_of, start_lines, counted_lines, action_line, actions_at}
use Rattle.differences.proofs.Written.{text_numbers_lem}

-- what a slice of bytes holds
pub all_bytes : (s : List ℕ) → ((j : ℕ) → get_or s j 0 < 256) → all_at_most 255 s ≡ true
unfolding all_at_most
all_bytes [] h = refl
all_bytes (x ∷ xs) h = most_cons 255 x xs (omega (arith, h 0)) (all_bytes xs (λ j. h (suc j)))

-- ---- one roll

-- its start, by its first 68 bytes and what a look at it answered
abbrev pub start_in : List ℕ → Checked → Start
start_in s game = record { numbers = start_of s; half = game.half_moves; full = game.full_moves }

-- what it has behind its start and its count
abbrev pub actions_of : List ℕ → Checked → List ℕ
actions_of s game = drop (actions_at game.half_moves game.full_moves game.actions) s

pub record Known (s : List ℕ) (game : Checked) : Type 0 where
  pub bs : List ℕ
  pub read : Read limits s (start_in s game) game.actions bs
  pub is : read_roll limits s ≡ rolled (start_in s game) game.actions bs
  pub numbers : text_numbers game.actions (actions_of s game) ≡ action_numbers game.actions bs

number_of : (x : Rolled) → (checked x).number ≡ (roll_answer x).number
unfolding checked roll_answer
number_of (refusal k) = refl
number_of (rolled st n bs) = refl

-- the actions stand behind four texts
actions_left : (xs h f c acts s : List ℕ) → s ≡ xs ++ ((h ++ f) ++ (c ++ acts)) → length xs ≡ record_size
    → drop (record_size + (length h + length f) + length c) s ≡ acts
actions_left xs h f c acts s e long =
    let grouped : s ≡ (xs ++ ((h ++ f) ++ c)) ++ acts = e ∙ simp append_assoc in
    let counted : length (xs ++ ((h ++ f) ++ c)) ≡ record_size + (length h + length f) + length c
    = omega (arith, length-append xs ((h ++ f) ++ c), length-append (h ++ f) c, length-append h f) in
    ap (drop (record_size + (length h + length f) + length c)) grouped
    ∙ drop_at (xs ++ ((h ++ f) ++ c)) acts (record_size + (length h + length f) + length c) counted

module _ (s : List ℕ) (game : Checked) (e : game ≡ checked (read_roll limits s)) where
  pub number_told : game.number ≡ (roll_answer (read_roll limits s)).number
  number_told = ap (λ (r : Checked). r.number) e ∙ number_of (read_roll limits s)

  pub known : ((j : ℕ) → get_or s j 0 < 256) → game.number ≡ 0 → Known s game
  unfolding checked
  known bytes z =
      let r = accepted_rolled (read_roll limits s) (roll_told_lem true limits s) (sym number_told ∙ z) in
      let small = all_bytes s bytes in
      let told : checked (rolled r.start r.count r.actions) ≡ game = sym (e ∙ ap checked r.is) in
      let half : r.start.half ≡ game.half_moves = ap (λ (g : Checked). g.half_moves) told in
      let full : r.start.full ≡ game.full_moves = ap (λ (g : Checked). g.full_moves) told in
      let count : r.count ≡ game.actions = ap (λ (g : Checked). g.actions) told in
      let numbers : r.start.numbers ≡ start_of s = (read_roll_lem limits s r.start r.count r.actions small r.is).start in
      let same_start : r.start ≡ start_in s game = λ i. record { numbers = numbers i; half = half i; full = full i } in
      let is : read_roll limits s ≡ rolled (start_in s game) game.actions r.actions
      = r.is ∙ ap₂ (λ (st : Start) (n : ℕ). rolled st n r.actions) same_start count in
      let read = read_roll_lem limits s (start_in s game) game.actions r.actions small is in
      let left : actions_of s game ≡ actions_text game.actions r.actions
      = actions_left (start_of s) (number_text game.half_moves) (number_text game.full_moves) (number_text game.actions)
      (actions_text game.actions r.actions) s read.text read.numbers in
      record {
        bs = r.actions;
        read = read;
        is = is;
        numbers = ap (text_numbers game.actions) left ∙ text_numbers_lem game.actions r.actions read.held;
      }

-- its counters and its count have at most two groups
pub two_groups_lem : (s : List ℕ) (game : Checked) → Known s game → (game.half_moves < 16384) × ((game.full_moves < 16384) × (game.actions < 16384))
two_groups_lem s game a =
    let counters = a.read.counters in
    (omega (arith, counters.half_most), (omega (arith, counters.full_most), omega (arith, a.read.few, limits_have_four_digits)))

-- ---- both

module _ (s t : List ℕ) (g h : Checked) (a : Known s g) (b : Known t h) where
  start_fits_lem : length (start_lines s t) ≤ 602
  start_fits_lem =
      numbers_within limits s (start_in s g) g.actions a.bs t (start_in t h) h.actions b.bs limits_have_four_digits a.read b.read

  counts_fit : length (counted_lines g h) ≤ 30
  counts_fit =
      counts_within limits s (start_in s g) g.actions a.bs t (start_in t h) h.actions b.bs limits_have_four_digits a.read b.read

  start_within : length (start_lines s t ++ counted_lines g h) ≤ 632
  start_within = omega (arith, length-append (start_lines s t) (counted_lines g h), start_fits_lem, counts_fit)

  pub starts_asked : (text : List ℕ) → text ≡ [] → length text + length (start_lines s t) ≤ longest
  starts_asked text e = omega (arith, ap length e, start_fits_lem)

  pub long_enough : (record_size ≤ length s) × (record_size ≤ length t)
  long_enough = (a.read.long, b.read.long)

  pub few : (g.actions ≤ 10000) × (h.actions ≤ 10000)
  few = (omega (arith, a.read.few, limits_have_four_digits), omega (arith, b.read.few, limits_have_four_digits))

  module _ (empty text : List ℕ) (none : empty ≡ []) (p : text ≡ empty ++ start_lines s t) where
    pub counters_asked : length text + length (counted_lines g h) ≤ longest
    counters_asked = omega (arith, ap length p, ap length none, length-append empty (start_lines s t), start_fits_lem, counts_fit)

    -- the start's text
    pub start_put : (more : List ℕ) → more ≡ text ++ counted_lines g h → more ≡ start_lines s t ++ counted_lines g h
    start_put more q = q ∙ ap (λ (l : List ℕ). l ++ counted_lines g h) (p ∙ ap (λ (l : List ℕ). l ++ start_lines s t) none)

-- with the two texts of actions, l and k
module _ (s t : List ℕ) (g h : Checked) (a : Known s g) (b : Known t h) (l k : List ℕ) (el : l ≡ actions_of s g) (ek : k ≡ actions_of t h) where
  abbrev acted : List ℕ
  acted = action_line g.actions l h.actions k

  first_numbers : text_numbers g.actions l ≡ action_numbers g.actions a.bs
  first_numbers = ap (text_numbers g.actions) el ∙ a.numbers

  second_numbers : text_numbers h.actions k ≡ action_numbers h.actions b.bs
  second_numbers = ap (text_numbers h.actions) ek ∙ b.numbers

  action_fits : length acted ≤ 26
  action_fits =
      rw (first_numbers, second_numbers)
      (action_within limits s (start_in s g) g.actions a.bs t (start_in t h) h.actions b.bs limits_have_four_digits a.read b.read)

  whole_text : differences_text limits s t ≡ (start_lines s t ++ counted_lines g h) ++ acted
  unfolding differences_text differences
  whole_text =
      ap₂ (λ (x y : Rolled). lines_text (differences x y)) a.is b.is
      ∙ lines_both (start_differences 0 (start_numbers (start_in s g)) (start_numbers (start_in t h)))
      (action_difference 0 (action_numbers g.actions a.bs) (action_numbers h.actions b.bs))
      ∙ rw (← first_numbers, ← second_numbers) (ap (λ (x : List ℕ). x ++ acted)
      (start_text limits s (start_in s g) g.actions a.bs t (start_in t h) h.actions b.bs limits_have_four_digits a.read b.read))

  module _ (text : List ℕ) (p : text ≡ start_lines s t ++ counted_lines g h) where
    pub action_asked : length text + length acted ≤ longest
    action_asked = omega (arith, ap length p, start_within s t g h a b, action_fits)

    pub whole_answer : (full : List ℕ) → full ≡ text ++ acted → (roll_answer (read_roll limits s)).number ≡ 0
        → (roll_answer (read_roll limits t)).number ≡ 0 → (out exit : List ℕ) (r : Answer) → r ≡ write_answer 0 full (length out)
        → exit ≡ write_bytes 0 full out → (r ≡ differences_answer limits s t (length out)) × (exit ≡ differences_room limits s t out)
    whole_answer full q passes passes-too out exit r er ee =
        let text-is : full ≡ differences_text limits s t = q ∙ ap (λ (l : List ℕ). l ++ acted) p ∙ sym whole_text in
        let check : 0 ≡ differences_check limits s t = sym (both_pass limits s t passes passes-too) in (
          er ∙ ap₂ (λ (k : ℕ) (l : List ℕ). write_answer k l (length out)) check text-is,
          ee ∙ ap₂ (λ (k : ℕ) (l : List ℕ). write_bytes k l out) check text-is,
        )

-- ---- the same bytes

pub same_answer : (s t out : List ℕ) (r : Answer) → r ≡ accepted 0 → same s t ≡ true → (roll_answer (read_roll limits s)).number ≡ 0
    → (r ≡ differences_answer limits s t (length out)) × (out ≡ differences_room limits s t out)
same_answer s t out r e f z =
    let equal : s ≡ t = same_eq s t f in
    let none : [] ≡ differences_text limits s t = sym (ap (differences_text limits s) (sym equal) ∙ no_own_text limits s) in
    let passes : (roll_answer (read_roll limits t)).number ≡ 0 = ap (λ (u : List ℕ). (roll_answer (read_roll limits u)).number) (sym equal) ∙ z in
    let check : 0 ≡ differences_check limits s t = sym (both_pass limits s t z passes) in
    let w = write_fits [] out (omega arith) in (
      e ∙ w.answer ∙ ap₂ (λ (k : ℕ) (l : List ℕ). write_answer k l (length out)) check none,
      w.bytes ∙ ap₂ (λ (k : ℕ) (l : List ℕ). write_bytes k l out) check none,
    )

-- ---- refused

module _ (s t out : List ℕ) (number : ℕ) (r : Answer) (e : r ≡ refused number) (some : number ≡ 0 → ⊥) (check : differences_check limits s t ≡ number) where
  pub refused_answer : (r ≡ differences_answer limits s t (length out)) × (out ≡ differences_room limits s t out)
  refused_answer =
      let w = write_refused number (differences_text limits s t) out some in (
        e ∙ w.answer ∙ ap (λ (k : ℕ). write_answer k (differences_text limits s t) (length out)) (sym check),
        w.bytes ∙ ap (λ (k : ℕ). write_bytes k (differences_text limits s t) out) (sym check),
      )

pub first_refused : (s t out : List ℕ) (number : ℕ) (r : Answer) → r ≡ refused number → (number ≡ 0 → ⊥)
    → number ≡ (roll_answer (read_roll limits s)).number → (r ≡ differences_answer limits s t (length out)) × (out ≡ differences_room limits s t out)
first_refused s t out number r e some n = refused_answer s t out number r e some (first_told limits s t (λ z. some (n ∙ z)) ∙ sym n)

pub second_refused : (s t out : List ℕ) (before number : ℕ) (r : Answer) → r ≡ refused number → (number ≡ 0 → ⊥)
    → before ≡ (roll_answer (read_roll limits s)).number → before ≡ 0 → number ≡ (roll_answer (read_roll limits t)).number
    → (r ≡ differences_answer limits s t (length out)) × (out ≡ differences_room limits s t out)
second_refused s t out before number r e some b z n =
    refused_answer s t out number r e some (second_told limits s t (sym b ∙ z) (λ w. some (n ∙ w)) ∙ sym n)
