-- No line exactly if the rolls are equal, byte for byte: two games without a line have the same start numbers and the same action numbers, these tell the
-- actions, and each roll is its game's text.
-- Assumes nothing.
use mathlib.Core.Path.{◌≡◌, refl, ap, ap₂, sym, ◌∙◌}
use mathlib.Core.Bool.{Bool, true, false}
use mathlib.Core.List.{List, [], ◌∷◌, ◌++◌}
use Prim.Native.Nat.{ℕ, suc, ◌≤◌, ◌<◌}
use native.Mathlib.Omega.{arith}
use lib.Dec.{eqb}
use lib.ListN.{length, take, drop, length-append}
use lib.Seq.{take_at, drop_at}
use borrow.Author.Tests.{eq-eqb, eqb-true, le-leb}
use Rattle.answer.specs.declared.Answer.{Answer}
use Rattle.answer.specs.Answer.{accepted, write_answer}
use Rattle.game_rules.specs.Limits.{Limits}
use Rattle.roll_text.specs.Number.{number_text}
use Rattle.board_builder.specs.BoardBuilder.{record_size}
use Rattle.roll_text.specs.Roll.{Start, Rolled, refusal, rolled, actions_text, read_roll}
use Rattle.differences_text.specs.Differences.{Difference, difference, start_counts, start_numbers, start_key, if_differs, start_differences}
use Rattle.differences_text.specs.Differences.{action_numbers, action_key}
use Rattle.differences_text.specs.Differences.{action_difference, pair_text, line_text, lines_text}
use Rattle.differences_text.specs.Calls.{differences, differences_text}
use Rattle.differences_text.specs.Promises.{teller, NoLineExactlyIfEqual}
use Rattle.differences_text.proofs.Numbers.{same_text}
use Rattle.differences_text.proofs.Lines.{start_numbers_long}
use Rattle.differences_text.proofs.Games.{Read}
use Rattle.differences_text.proofs.Refusals.{Games, games, value_told}

-- ---- a line has bytes

some_bytes : (d : Difference) → 0 < length (line_text d)
unfolding line_text
some_bytes d = omega (arith, length-append d.key (pair_text d.first d.second))

no_text : (ds : List Difference) → length (lines_text ds) ≡ 0 → ds ≡ []
unfolding lines_text
no_text [] e = refl
no_text (d ∷ ds) e = absurd (omega (arith, e, length-append (line_text d) (lines_text ds), some_bytes d))

-- ---- no line of two starts, of two games' actions

one_told : (key : List ℕ) (x y : ℕ) (ds : List Difference) → if_differs key x y ++ ds ≡ [] → (x ≡ y) × (ds ≡ [])
unfolding if_differs
one_told key x y ds e = go (eqb x y) refl
  where
    go : (b : Bool) → eqb x y ≡ b → (x ≡ y) × (ds ≡ [])
    go true f = (eqb-true x y f, simp f at e)
    go false f =
        let g : difference key x y ∷ ds ≡ [] = simp f at e in
        let z : ◌≡◌ {A = ℕ} 0 1 = cc in absurd (omega arith)

start_equal : (i : ℕ) (xs ys : List ℕ) → length xs ≡ length ys → start_differences i xs ys ≡ [] → xs ≡ ys
unfolding start_differences
start_equal i [] [] l e = refl
start_equal i [] (y ∷ ys) l e = absurd (omega (arith, l))
start_equal i (x ∷ xs) [] l e = absurd (omega (arith, l))
start_equal i (x ∷ xs) (y ∷ ys) l e =
    let o = one_told (start_key i) x y (start_differences (suc i) xs ys) e in
    ap₂ ◌∷◌ o.0 (start_equal (suc i) xs ys (omega (arith, l)) o.1)

start_none : (i : ℕ) (xs : List ℕ) → start_differences i xs xs ≡ []
unfolding start_differences if_differs
start_none i [] = refl
start_none i (x ∷ xs) = let e : x ≡ x = refl in simp (eq-eqb x x e) (start_none (suc i) xs)

actions_equal : (i : ℕ) (xs ys : List ℕ) → action_difference i xs ys ≡ [] → xs ≡ ys
unfolding action_difference
actions_equal i [] [] e = refl
actions_equal i [] (y ∷ ys) e = let z : ◌≡◌ {A = ℕ} 0 1 = cc in absurd (omega arith)
actions_equal i (x ∷ xs) [] e = let z : ◌≡◌ {A = ℕ} 0 1 = cc in absurd (omega arith)
actions_equal i (x ∷ xs) (y ∷ ys) e = go (eqb x y) refl (actions_equal (suc i) xs ys)
  where
    go : (b : Bool) → eqb x y ≡ b → (action_difference (suc i) xs ys ≡ [] → xs ≡ ys) → ◌≡◌ {A = List ℕ} (x ∷ xs) (y ∷ ys)
    go true f left = ap₂ ◌∷◌ (eqb-true x y f) (left (simp f at e))
    go false f left =
        let g : difference (action_key i) x y ∷ [] ≡ [] = simp f at e in
        let z : ◌≡◌ {A = ℕ} 0 1 = cc in absurd (omega arith)

actions_none : (i : ℕ) (xs : List ℕ) → action_difference i xs xs ≡ []
unfolding action_difference
actions_none i [] = refl
actions_none i (x ∷ xs) = let e : x ≡ x = refl in simp (eq-eqb x x e) (actions_none (suc i) xs)

-- ---- two rolls

none_both : (ds es : List Difference) → ds ++ es ≡ [] → (ds ≡ []) × (es ≡ [])
none_both [] es e = (refl, e)
none_both (d ∷ ds) es e = let z : ◌≡◌ {A = ℕ} 0 1 = cc in absurd (omega arith)

-- a start's 70 numbers are the start
same_start : (st other : Start) → length st.numbers ≡ record_size → length other.numbers ≡ record_size → start_numbers st ≡ start_numbers other → st ≡ other
unfolding start_numbers
same_start st other a b e =
    let numbers : st.numbers ≡ other.numbers
    = sym (take_at st.numbers (start_counts st) record_size a) ∙ ap (take record_size) e ∙ take_at other.numbers (start_counts other) record_size b in
    let counts : start_counts st ≡ start_counts other
    = sym (drop_at st.numbers (start_counts st) record_size a) ∙ ap (drop record_size) e ∙ drop_at other.numbers (start_counts other) record_size b in
    let half : st.half ≡ other.half = cc in
    let full : st.full ≡ other.full = cc in
    λ i. record { numbers = numbers i; half = half i; full = full i }

same_rolls : (L : Limits) (s : List ℕ) (st : Start) (n : ℕ) (bs t : List ℕ) (other : Start) (m : ℕ) (cs : List ℕ) → Read L s st n bs → Read L t other m cs
    → differences (rolled st n bs) (rolled other m cs) ≡ [] → s ≡ t
unfolding differences
same_rolls L s st n bs t other m cs a b e =
    let o = none_both (start_differences 0 (start_numbers st) (start_numbers other)) (action_difference 0 (action_numbers n bs) (action_numbers m cs)) e in
    let long : length (start_numbers st) ≡ length (start_numbers other) = start_numbers_long st a.numbers ∙ sym (start_numbers_long other b.numbers) in
    let starts : st ≡ other
    = same_start st other a.numbers b.numbers (start_equal 0 (start_numbers st) (start_numbers other) long o.0) in
    let acts = same_text n bs m cs a.held b.held (actions_equal 0 (action_numbers n bs) (action_numbers m cs) o.1) in
    let texts : number_text n ++ actions_text n bs ≡ number_text m ++ actions_text m cs
    = ap₂ (λ (k : ℕ) (l : List ℕ). number_text k ++ l) acts.counts acts.texts in
    a.text
    ∙ ap₂ (λ (x : Start) (l : List ℕ). x.numbers ++ ((number_text x.half ++ number_text x.full) ++ l)) starts texts
    ∙ sym b.text

no_differences : (x : Rolled) → differences x x ≡ []
unfolding differences
no_differences (refusal k) = refl
no_differences (rolled st n bs) = rw (start_none 0 (start_numbers st), actions_none 0 (action_numbers n bs))

nothing_written : (room : ℕ) → write_answer 0 [] room ≡ accepted 0
unfolding write_answer
nothing_written room = let h : 0 ≤ room = omega arith in simp (le-leb 0 room h)

pub no_own_text : (L : Limits) (s : List ℕ) → differences_text L s s ≡ []
unfolding differences_text lines_text
no_own_text L s = ap lines_text (no_differences (read_roll L s))

pub no_line_exactly_if_equal : NoLineExactlyIfEqual
no_line_exactly_if_equal L s t room both = record { none = none; equal = equal }
  where
    g : Games L s t
    g = games L s t both

    none : (teller L).answer s t room ≡ accepted 0 → s ≡ t
    none e =
        let zero : length (differences_text L s t) ≡ 0 = sym (value_told L s t room g.passes) ∙ ap (λ (a : Answer). a.value) e in
        same_rolls L s g.st g.n g.bs t g.other g.m g.cs g.first g.second
        (no_text (differences (rolled g.st g.n g.bs) (rolled g.other g.m g.cs)) (sym (ap length g.text) ∙ zero))

    equal : s ≡ t → (teller L).answer s t room ≡ accepted 0
    equal e =
        let text : differences_text L s t ≡ [] = ap (λ (u : List ℕ). differences_text L s u) (sym e) ∙ no_own_text L s in
        ap₂ (λ (k : ℕ) (l : List ℕ). write_answer k l room) g.passes text ∙ nothing_written room
