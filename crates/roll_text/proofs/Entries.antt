-- One number of the record and one action, written and read.
-- Assumes nothing.
use mathlib.Core.Path.{◌≡◌, refl, ap, sym, ◌∙◌}
use mathlib.Core.Bool.{Bool, true, false, false≢true}
use mathlib.Core.List.{List, [], ◌∷◌, ◌++◌, append_assoc}
use Prim.Native.Nat.{ℕ, ◌+◌, ◌*◌, ◌/◌, ◌%◌, ◌-◌, ◌≤◌, ◌<◌}
use native.Mathlib.Omega.{arith}
use lib.Dec.{eqb, leb}
use lib.ListN.{length, drop}
use borrow.Author.Tests.{le-leb, lt-leb, leb-true, leb-false, eq-eqb, ne_eqb, eqb-true, eqb-false}
use Rattle.std.specs.Prelude.{Some, Ok, Err}
use Rattle.answer.specs.Answer.{log_full, bad_roll}
use Rattle.chess_move.specs.Number.{last_move}
use Rattle.action.specs.Layout.{fields}
use Rattle.actions.specs.CodeCount.{one_if_move}
use Rattle.roll_text.specs.declared.Entry.TheVariants.{Move, Plain}
use Rattle.roll_text.specs.Number.{most_groups, reach, number_text, read_number}
use Rattle.roll_text.specs.Roll.{Front, put_number, one_number, is_code, code_of, action_text, moved_by, coded, read_entry, Acts, next_action, put_action}
use Rattle.roll_text.proofs.ByFields.{move_in_range, action_in_range}
use Rattle.roll_text.proofs.Numbers.{numbers_read_back}

pub reach_five : reach most_groups ≡ 34359738368
unfolding reach
reach_five = refl

-- ---- a number of the record

pub number_next : (m x : ℕ) (rest : List ℕ) (go : List ℕ → Front) → x ≤ m → x < reach most_groups
    → one_number m (read_number (number_text x ++ rest)) (number_text x ++ rest) go ≡ put_number x (go rest)
unfolding one_number
number_next m x rest go h small =
    let b = numbers_read_back x rest small in
    rw b.number (simp (le-leb _ _ h, b.behind_it))

-- ---- codes

no_code : (c : ℕ) → (c ≡ 4 → ⊥) → (c ≡ 5 → ⊥) → (c ≡ 6 → ⊥) → (c ≡ 8 → ⊥) → (c ≡ 10 → ⊥) → (c ≡ 11 → ⊥) → is_code c ≡ false
unfolding is_code
no_code c p q r s t u = simp (ne_eqb _ _ p, ne_eqb _ _ q, ne_eqb _ _ r, ne_eqb _ _ s, ne_eqb _ _ t, ne_eqb _ _ u)

pub code_range : (c : ℕ) → is_code c ≡ true → (4 ≤ c) × (c ≤ 11)
code_range c e = (low (leb 4 c) refl, high (leb c 11) refl)
  where
    low : (t : Bool) → leb 4 c ≡ t → 4 ≤ c
    low true f = leb-true 4 c f
    low false f =
        let h = leb-false 4 c f in
        absurd (false≢true (sym (no_code c (λ z. omega arith) (λ z. omega arith) (λ z. omega arith) (λ z. omega arith) (λ z. omega arith) (λ z. omega
        arith)) ∙ e))

    high : (t : Bool) → leb c 11 ≡ t → c ≤ 11
    high true f = leb-true c 11 f
    high false f =
        let h = leb-false c 11 f in
        absurd (false≢true (sym (no_code c (λ z. omega arith) (λ z. omega arith) (λ z. omega arith) (λ z. omega arith) (λ z. omega arith) (λ z. omega
        arith)) ∙ e))

-- ---- an action that was written reads back

pub coded_plain : (full : Bool) (s : List ℕ) (code size : ℕ) → (code ≡ 2 → ⊥) → is_code code ≡ true → coded full s (Some (code, size)) ≡ Ok (Plain code size)
unfolding coded
coded_plain full s code size h e = simp (ne_eqb _ _ h, e)

pub coded_bad : (full : Bool) (s : List ℕ) (code size : ℕ) → (code ≡ 2 → ⊥) → is_code code ≡ false → coded full s (Some (code, size)) ≡ Err bad_roll
unfolding coded
coded_bad full s code size h e = simp (ne_eqb _ _ h, e)

pub coded_full : (s : List ℕ) (size : ℕ) → coded true s (Some (2, size)) ≡ Err log_full
unfolding coded
coded_full s size = refl

pub coded_move : (s : List ℕ) (size : ℕ) → coded false s (Some (2, size)) ≡ moved_by size (read_number (drop size s))
unfolding coded
coded_move s size = refl

pub moved_small : (size move more : ℕ) → move ≤ last_move → moved_by size (Some (move, more)) ≡ Ok (Move move (size + more))
unfolding moved_by
moved_small size move more h = simp (le-leb _ _ h)

pub moved_over : (size move more : ℕ) → last_move < move → moved_by size (Some (move, more)) ≡ Err bad_roll
unfolding moved_by
moved_over size move more h = simp (lt-leb _ _ h)

plain_back : (full : Bool) (code : ℕ) (rest : List ℕ) → is_code code ≡ true
    → read_entry full (number_text code ++ rest) ≡ Ok (Plain code (length (number_text code)))
plain_back full code rest e =
    let r = code_range code e in
    let b = numbers_read_back code rest (omega (arith, reach_five)) in
    rw b.number (coded_plain full (number_text code ++ rest) code (length (number_text code)) (λ z. omega arith) e)

move_back : (move : ℕ) (rest : List ℕ) → move ≤ last_move
    → read_entry false (number_text 2 ++ (number_text move ++ rest)) ≡ Ok (Move move (length (number_text 2) + length (number_text move)))
move_back move rest h =
    let b = numbers_read_back 2 (number_text move ++ rest) (omega (arith, reach_five)) in
    let d = numbers_read_back move rest (omega (arith, reach_five)) in
    rw b.number
    (coded_move (number_text 2 ++ (number_text move ++ rest)) (length (number_text 2))
    ∙ ap (λ (l : List ℕ). moved_by (length (number_text 2)) (read_number l)) b.behind_it
    ∙ ap (moved_by (length (number_text 2))) d.number
    ∙ moved_small (length (number_text 2)) move (length (number_text move)) h)

pub behind_both : (a b rest : List ℕ) → drop (length a + length b) (a ++ (b ++ rest)) ≡ rest
behind_both a b rest = lib.Seq.drop-append-add a (b ++ rest) (length b) ∙ lib.Seq.drop-append_seam b rest

pub next_move_lem : (left : ℕ) (s : List ℕ) (move size : ℕ) (go : ℕ → List ℕ → Acts)
    → next_action (Ok (Move move size)) left s go ≡ put_action (fields 1 0 move) (go
    (left - 1) (drop size s))
unfolding next_action
next_move_lem left s move size go = refl

pub next_plain : (left : ℕ) (s : List ℕ) (code size : ℕ) (go : ℕ → List ℕ → Acts) → next_action (Ok (Plain code size)) left s go ≡ put_action (fields (code / 2)
    (code % 2) 0) (go left (drop size s))
unfolding next_action
next_plain left s code size go = refl

text_move : (kind colour move : ℕ) → kind ≡ 1 → action_text kind colour move ≡ number_text (code_of kind colour) ++ number_text move
unfolding action_text
text_move kind colour move h = simp (eq-eqb _ _ h)

text_plain : (kind colour move : ℕ) → (kind ≡ 1 → ⊥) → action_text kind colour move ≡ number_text (code_of kind colour)
unfolding action_text
text_plain kind colour move h = simp (ne_eqb _ _ h)

-- what an action in range is
pub record MoveHere (colour move : ℕ) : Type 0 where
  pub none : colour ≡ 0
  pub last : move ≤ last_move

pub record PlainHere (kind colour move : ℕ) : Type 0 where
  pub colours : colour ≤ 1
  pub none : move ≡ 0
  pub code : is_code (code_of kind colour) ≡ true

pub move_here_lem : (kind colour move : ℕ) → kind ≡ 1 → action_in_range kind colour move ≡ true → MoveHere colour move
unfolding action_in_range move_in_range
move_here_lem kind colour move h e = go (eqb colour 0) (leb move last_move) refl refl
  where
    go : (t u : Bool) → eqb colour 0 ≡ t → leb move last_move ≡ u → MoveHere colour move
    go true true f g = record { none = eqb-true colour 0 f; last = leb-true move last_move g }
    go true false f g = absurd (false≢true (simp (eq-eqb _ _ h, f, g) at e))
    go false u f g = absurd (false≢true (simp (eq-eqb _ _ h, f) at e))

pub plain_here : (kind colour move : ℕ) → (kind ≡ 1 → ⊥) → action_in_range kind colour move ≡ true → PlainHere kind colour move
unfolding action_in_range
plain_here kind colour move h e = go (leb colour 1) (eqb move 0) refl refl
  where
    go : (t u : Bool) → leb colour 1 ≡ t → eqb move 0 ≡ u → PlainHere kind colour move
    go true true f g = record { colours = leb-true colour 1 f; none = eqb-true move 0 g; code = simp (ne_eqb _ _ h, f, g) at e }
    go true false f g = absurd (false≢true (simp (ne_eqb _ _ h, f, g) at e))
    go false u f g = absurd (false≢true (simp (ne_eqb _ _ h, f) at e))

pub one_move_lem : (kind colour move : ℕ) → kind ≡ 1 → MoveHere colour move → one_if_move kind colour move ≡ 1
unfolding move_in_range
one_move_lem kind colour move h m = simp (eq-eqb _ _ h, eq-eqb _ _ m.none, le-leb _ _ m.last)

pub no_move_lem : (kind colour move : ℕ) → (kind ≡ 1 → ⊥) → one_if_move kind colour move ≡ 0
no_move_lem kind colour move h = simp (ne_eqb _ _ h)

-- the action at the front, with `left` moves to come
pub action_next : (k c l u left : ℕ) (rest : List ℕ) (go : ℕ → List ℕ → Acts) → l ≤ 255 → action_in_range k c (l + 256 * u) ≡ true → one_if_move k c (l +
    256 * u) ≤ left
    → next_action (read_entry (eqb left 0) (action_text k c (l + 256 * u) ++ rest)) left (action_text k c (l + 256 * u) ++ rest) go
    ≡ put_action (k ∷ c ∷ l ∷ u ∷ []) (go (left - one_if_move k c (l + 256 * u)) rest)
action_next k c l u left rest go hl e few =
    by (eqb k 1) refl
  where
    by : (t : Bool) → eqb k 1 ≡ t
        → next_action (read_entry (eqb left 0) (action_text k c (l + 256 * u) ++ rest)) left (action_text k c (l + 256 * u) ++ rest) go
        ≡ put_action (k ∷ c ∷ l ∷ u ∷ []) (go (left - one_if_move k c (l + 256 * u)) rest)
    by true f =
        let one : k ≡ 1 = eqb-true k 1 f in
        let m = move_here_lem k c (l + 256 * u) one e in
        let o = one_move_lem k c (l + 256 * u) one m in
        let some : eqb left 0 ≡ false = ne_eqb left 0 (λ z. omega arith) in
        let code : code_of k c ≡ 2 = omega (arith, m.none) in
        let text : action_text k c (l + 256 * u) ≡ number_text 2 ++ number_text (l + 256 * u) = text_move k c (l + 256 * u) one ∙ ap (λ (x : ℕ).
        number_text x ++ number_text (l + 256 * u)) code in
        let low : (l + 256 * u) % 256 ≡ l = omega arith in
        let high : (l + 256 * u) / 256 ≡ u = omega arith in
        let zero : c ≡ 0 = m.none in
        rw (text, append_assoc (number_text 2) (number_text (l + 256 * u)) rest, some, move_back (l + 256 * u) rest m.last, o)
        (next_move_lem left (number_text 2 ++ (number_text (l + 256 * u) ++ rest)) (l + 256 * u)
        (length (number_text 2) + length (number_text (l + 256 * u))) go
        ∙ rw (behind_both (number_text 2) (number_text (l + 256 * u)) rest, low, high, one, zero))
    by false f =
        let not : k ≡ 1 → ⊥ = eqb-false k 1 f in
        let p = plain_here k c (l + 256 * u) not e in
        let o = no_move_lem k c (l + 256 * u) not in
        let text = text_plain k c (l + 256 * u) not in
        let kind : (k * 2 + c) / 2 ≡ k = omega (arith, p.colours) in
        let colour : (k * 2 + c) % 2 ≡ c = omega (arith, p.colours) in
        let low : l ≡ 0 = omega (arith, p.none) in
        let high : u ≡ 0 = omega (arith, p.none) in
        let same : left - 0 ≡ left = omega arith in
        rw (text, plain_back (eqb left 0) (code_of k c) rest p.code, o)
        (next_plain left (number_text (code_of k c) ++ rest) (code_of k c) (length (number_text (code_of k c))) go
        ∙ rw (lib.Seq.drop-append_seam (number_text (code_of k c)) rest, kind, colour, low, high, same))
