-- How long an action's text is, by one look at its bytes.
-- Assumes nothing.
use mathlib.Core.Path.{◌≡◌, refl, ap, sym, ◌∙◌}
use mathlib.Core.Bool.{Bool, true, false, cond}
use mathlib.Core.List.{List}
use Prim.Native.Nat.{ℕ, zero, suc, ◌+◌, ◌*◌, ◌-◌, ◌≤◌, ◌<◌}
use native.Mathlib.Omega.{arith}
use mir.Val.{bool_byte}
use lib.Dec.{eqb, leb, ltb}
use lib.ListN.{length, take, drop, get_or, length-append}
use lib.Seq.{get_or-take}
use Rattle.std.proofs.lemmas.List.{take-take}
use borrow.Author.Tests.{eqb-true, eqb-false, eq-eqb, ne_eqb, le-ltb, ltb-true, ltb-false}
use Rattle.std.specs.Prelude.{Option, Some, None, Result, Ok, Err}
use Rattle.std.proofs.lemmas.Option.{cond_some, none-some}
use Rattle.answer.specs.declared.Answer.{Answer}
use Rattle.answer.specs.Answer.{refused}
use Rattle.answer.proofs.Parts.{of_item}
use Rattle.answer.proofs.Writes.{Written, write_refused}
use Rattle.chess_move.specs.Number.{last_move}
use Rattle.action.specs.Layout.{action_size, moves_here, action_of}
use Rattle.actions.specs.Part.{is_held, actions_held}
use Rattle.actions.proofs.Held.{held_none, held_turn, held_stop, held_all}
use Rattle.roll_text.specs.Number.{number_text}
use Rattle.roll_text.specs.Roll.{code_of, kind_at, colour_at, move_number_at, action_text, actions_text}
use Rattle.roll_text.specs.Calls.{moves_by_kind}
use Rattle.roll_text.proofs.ByFields.{action_in_range, held_fields, fields_here}
use Rattle.roll_text.proofs.ByKind.{by_kind_turn}
use Rattle.roll_text.proofs.Entries.{plain_here, code_range}
use Rattle.roll_writer.specs.CodeSizes.{move_size, plain_size, size_at, actions_size, measured, are_first}
use Rattle.roll_writer.proofs.Laws.{one_byte, two_bytes, three_bytes}
use Rattle.roll_writer.proofs.Counting.{text_of_move, text_of_plain, length_turn, text_end, whole, item_there}

-- ---- at the front of some bytes

pub at_move : (bs : List ℕ) → action_size ≤ length bs → kind_at bs ≡ 1 → move_size (colour_at bs) (move_number_at bs) ≡ size_at bs
unfolding size_at
at_move bs h one = go (eqb c 0) (leb m last_move) refl refl
  where
    c : ℕ
    c = colour_at bs

    m : ℕ
    m = move_number_at bs

    held : is_held (action_of (take action_size bs)) ≡ is_held (moves_here (colour_at bs) (move_number_at bs))
    held = ap is_held (fields_here bs h) ∙ simp (eq-eqb (kind_at bs) 1 one)

    go : (t u : Bool) → eqb (colour_at bs) 0 ≡ t → leb (move_number_at bs) last_move ≡ u
        → move_size (colour_at bs) (move_number_at bs)
        ≡ cond (is_held (action_of (take action_size bs))) (Some (length (action_text (kind_at bs) (colour_at bs) (move_number_at bs)))) None
    go true true e f =
        let code : code_of (kind_at bs) (colour_at bs) ≡ 2 = omega (arith, one, eqb-true (colour_at bs) 0 e) in
        let long = ap length (text_of_move (kind_at bs) (colour_at bs) (move_number_at bs) one)
        ∙ length-append (number_text (code_of (kind_at bs) (colour_at bs))) (number_text (move_number_at bs)) in
        let two : length (number_text (code_of (kind_at bs) (colour_at bs))) ≡ 1 = ap (λ (k : ℕ). length (number_text k)) code
        ∙ sym (one_byte 2 (omega arith)) in
        rw (held, long, two) (simp (e, f))
    go true false e f = rw held (simp (e, f))
    go false u e f = rw held (simp e)

pub at_plain : (bs t : List ℕ) → action_size ≤ length bs → (kind_at bs ≡ 1 → ⊥) → t ≡ take action_size bs → plain_size t ≡ size_at bs
unfolding size_at
at_plain bs t h not is = rw is (go (is_held (action_of (take action_size bs))) refl)
  where
    go : (b : Bool) → is_held (action_of (take action_size bs)) ≡ b → cond b (Some 1) None
        ≡ cond b (Some (length (action_text (kind_at bs) (colour_at bs) (move_number_at bs)))) None
    go true e =
        let range : action_in_range (kind_at bs) (colour_at bs) (move_number_at bs) ≡ true =
        sym (ap is_held (fields_here bs h) ∙ held_fields (kind_at bs) (colour_at bs) (move_number_at bs)) ∙ e in
        let p = plain_here (kind_at bs) (colour_at bs) (move_number_at bs) not range in
        let r = code_range (code_of (kind_at bs) (colour_at bs)) p.code in
        ap (λ (j : ℕ). Some j) (one_byte (code_of (kind_at bs) (colour_at bs)) (omega (arith, r))
        ∙ sym (ap length (text_of_plain (kind_at bs) (colour_at bs) (move_number_at bs) not)))
    go false e = refl

-- four bytes are all that is looked at
size_front : (bs : List ℕ) → size_at (take action_size bs) ≡ size_at bs
unfolding size_at
size_front bs =
    let all : take 4 (take 4 bs) ≡ take 4 bs = take-take 4 4 bs (omega arith) in
    rw (
      all,
      get_or-take 4 bs 0 0 (omega arith),
      get_or-take 4 bs 1 0 (omega arith),
      get_or-take 4 bs 2 0 (omega arith),
      get_or-take 4 bs 3 0 (omega arith),
    ) refl

-- ---- one action after the other

none_held : (bs : List ℕ) → size_at bs ≡ None → is_held (action_of (take action_size bs)) ≡ false
unfolding size_at
none_held bs e = go (is_held (action_of (take action_size bs))) e
  where
    go : (b : Bool) → cond b (Some (length (action_text (kind_at bs) (colour_at bs) (move_number_at bs)))) None ≡ None → b ≡ false
    go true f = absurd (none-some _ (sym f))
    go false f = refl

-- an action in range is there, and its text has `size` bytes
one_held : (bs : List ℕ) (size : ℕ) → size_at bs ≡ Some size
    → (is_held (action_of (take action_size bs)) ≡ true) × (length (action_text (kind_at bs) (colour_at bs) (move_number_at bs)) ≡ size)
unfolding size_at
one_held bs size e = cond_some (is_held (action_of (take action_size bs))) (length (action_text (kind_at bs) (colour_at bs) (move_number_at bs))) size e

pub size_there : (actions : List (List ℕ)) (acts : List ℕ) (first : are_first actions acts) (i : ℕ) (d : List ℕ) (r : Option ℕ) → i < length actions
    → r ≡ size_at (get_or actions i d) → size_at (drop (4 * i) acts) ≡ r
size_there actions acts first i d r h e = sym (e ∙ ap size_at (item_there actions acts first i d h) ∙ size_front (drop (4 * i) acts))

-- the first i actions are held, and k is the length of their text
pub record SizedSo (acts : List ℕ) (n i k : ℕ) : Type 0 where
  pub within : i ≤ n
  pub held : actions_held acts i ≡ true
  pub long : length (actions_text n acts) ≡ k + length (actions_text (n - i) (drop (4 * i) acts))

pub sized_none : (acts : List ℕ) (n : ℕ) → SizedSo acts n 0 0
sized_none acts n =
    record { within = omega arith; held = held_none acts; long = rw (whole n) (omega arith) }

pub sized_more : (acts : List ℕ) (n i k size : ℕ) → SizedSo acts n i k → i < n → size_at (drop (4 * i) acts) ≡ Some size
    → SizedSo acts n (i + 1) (k + size)
sized_more acts n i k size w h e =
    let bs : List ℕ = drop (4 * i) acts in
    let o = one_held bs size e in
    let t = length_turn n i acts bs h refl in
    record {
      within = omega arith;
      held = held_turn acts i w.held o.0;
      long = omega (arith, w.long, t, o.1);
    }

pub sized_stop : (acts : List ℕ) (n i : ℕ) → i < n → size_at (drop (4 * i) acts) ≡ None → None ≡ actions_size n acts
unfolding actions_size
sized_stop acts n i h e = rw (held_stop acts n i h (none_held (drop (4 * i) acts) e)) refl

pub sized_all : (acts : List ℕ) (n i k : ℕ) → SizedSo acts n i k → n ≤ i → Some k ≡ actions_size n acts
unfolding actions_size
sized_all acts n i k w h =
    let e = ap length (text_end n i (drop (4 * i) acts) h) in
    let long : k ≡ length (actions_text n acts) = omega (arith, w.long, e) in
    rw (held_all acts n i h w.within w.held) (ap (λ (j : ℕ). Some j) long)

-- ---- the moves need not be counted where there are few actions

moves_few : (acts : List ℕ) (n : ℕ) → moves_by_kind acts n ≤ n
unfolding moves_by_kind
moves_few acts zero = omega arith
moves_few acts (suc n) = go (eqb (get_or acts (action_size * n) 0) 1) (moves_few acts n)
  where
    go : (t : Bool) → moves_by_kind acts n ≤ n → cond t (suc (moves_by_kind acts n)) (moves_by_kind acts n) ≤ suc n
    go true h = omega arith
    go false h = omega arith

pub few_enough : (acts : List ℕ) (n most : ℕ) → n ≤ most → false ≡ ltb most (moves_by_kind acts n)
few_enough acts n most h = sym (le-ltb most (moves_by_kind acts n) (omega (arith, moves_few acts n)))

-- the loop that counts them
pub one_or_none : (t : Bool) → bool_byte t ≡ cond t 1 0
one_or_none true = refl
one_or_none false = refl

pub one_most : (t : Bool) → cond t 1 0 ≤ 1
one_most true = omega arith
one_most false = omega arith

pub kinds_none : (acts : List ℕ) → 0 ≡ moves_by_kind acts 0
unfolding moves_by_kind
kinds_none acts = refl

pub kinds_more : (actions : List (List ℕ)) (acts : List ℕ) (first : are_first actions acts) (i k one : ℕ) (d : List ℕ) → k ≡ moves_by_kind acts i
    → i < length actions → one ≡ bool_byte (eqb (kind_at (get_or actions i d)) 1) → k + one ≡ moves_by_kind acts (i + 1)
kinds_more actions acts first i k one d w h e =
    let next : i + 1 ≡ suc i = omega arith in
    let here : action_size * i + 0 ≡ action_size * i = omega arith in
    let kind : kind_at (get_or actions i d) ≡ get_or acts (action_size * i) 0 =
    ap kind_at (item_there actions acts first i d h) ∙ sym (of_item acts 4 i 0 (omega arith)) ∙ ap (λ (j : ℕ). get_or acts j 0) here in
    let counts = e ∙ one_or_none _ ∙ ap (λ (j : ℕ). cond (eqb j 1) 1 0) kind in
    omega (arith, w, counts, by_kind_turn acts i, ap (moves_by_kind acts) next)

-- ---- bounds

pub small_number : (n : ℕ) → n < 2097152 → length (number_text n) ≤ 3
small_number n h = go (ltb n 128) (ltb n 16384) refl refl
  where
    go : (t u : Bool) → ltb n 128 ≡ t → ltb n 16384 ≡ u → length (number_text n) ≤ 3
    go true u e f = omega (arith, one_byte n (ltb-true n 128 e))
    go false true e f = omega (arith, two_bytes n (ltb-false n 128 e) (ltb-true n 16384 f))
    go false false e f = omega (arith, three_bytes n (ltb-false n 16384 f) h)

-- ---- what the measuring answers

pub size_none : (acts : List ℕ) (n : ℕ) → actions_size n acts ≡ None → actions_held acts n ≡ false
unfolding actions_size
size_none acts n e = go (actions_held acts n) refl
  where
    go : (t : Bool) → actions_held acts n ≡ t → t ≡ false
    go true f =
        let one : ◌≡◌ {A = Option ℕ} (Some (length (actions_text n acts))) None = simp f at e in
        let z : ◌≡◌ {A = ℕ} 0 1 = cc in absurd (omega arith)
    go false f = refl

pub record AllSized (acts : List ℕ) (n size : ℕ) : Type 0 where
  pub held : actions_held acts n ≡ true
  pub long : size ≡ length (actions_text n acts)

pub size_all : (acts : List ℕ) (n size : ℕ) → actions_size n acts ≡ Some size → AllSized acts n size
unfolding actions_size
size_all acts n size e = go (actions_held acts n) refl
  where
    go : (t : Bool) → actions_held acts n ≡ t → AllSized acts n size
    go true f =
        let one : ◌≡◌ {A = Option ℕ} (Some (length (actions_text n acts))) (Some size) = simp f at e in
        record { held = f; long = cc }
    go false f =
        let one : ◌≡◌ {A = Option ℕ} None (Some size) = simp f at e in
        let z : ◌≡◌ {A = ℕ} 0 1 = cc in absurd (omega arith)

pub refused_so : (k check : ℕ) (text : List ℕ) → k ≡ check → (k ≡ 0 → ⊥) → Err k ≡ measured check text
refused_so k check text f n = simp (ne_eqb check 0 (λ z. n (f ∙ z))) (ap (λ (j : ℕ). Err j) f)

pub accepted_so : (value check : ℕ) (text : List ℕ) → 0 ≡ check → value ≡ length text → Ok value ≡ measured check text
accepted_so value check text f g = simp (eq-eqb check 0 (sym f)) (ap (λ (j : ℕ). Ok j) g)

-- what a writer does with what was measured
pub not_accepted : (r : Answer) (k check : ℕ) (text out : List ℕ) → measured check text ≡ Err k → r ≡ refused k → Written check text out r out
not_accepted r k check text out e is = go (eqb check 0) refl
  where
    go : (t : Bool) → eqb check 0 ≡ t → Written check text out r out
    go true f =
        let same : ◌≡◌ {A = Result ℕ ℕ} (Ok (length text)) (Err k) = simp f at e in
        let z : ◌≡◌ {A = ℕ} 0 1 = cc in absurd (omega arith)
    go false f =
        let same : ◌≡◌ {A = Result ℕ ℕ} (Err check) (Err k) = simp f at e in
        let number : check ≡ k = cc in
        let w = write_refused check text out (eqb-false check 0 f) in
        record { answer = is ∙ ap refused (sym number) ∙ w.answer; bytes = w.bytes }

pub record Measured (value check : ℕ) (text : List ℕ) : Type 0 where
  pub passed : check ≡ 0
  pub long : value ≡ length text

pub was_accepted : (value check : ℕ) (text : List ℕ) → measured check text ≡ Ok value → Measured value check text
was_accepted value check text e = go (eqb check 0) refl
  where
    go : (t : Bool) → eqb check 0 ≡ t → Measured value check text
    go true f =
        let same : ◌≡◌ {A = Result ℕ ℕ} (Ok (length text)) (Ok value) = simp f at e in
        record { passed = eqb-true check 0 f; long = cc }
    go false f =
        let same : ◌≡◌ {A = Result ℕ ℕ} (Err check) (Ok value) = simp f at e in
        let z : ◌≡◌ {A = ℕ} 0 1 = cc in absurd (omega arith)
