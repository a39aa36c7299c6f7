-- The writer's loops over the actions, and the text that they make.
-- Assumes nothing.
use mathlib.Core.Path.{◌≡◌, refl, ap, ap₂, sym, ◌∙◌}
use mathlib.Core.List.{List, [], ◌∷◌, ◌++◌, append_assoc, append-nil}
use Prim.Native.Nat.{ℕ, zero, suc, ◌+◌, ◌*◌, ◌/◌, ◌%◌, ◌-◌, ◌≤◌, ◌<◌}
use native.Mathlib.Omega.{arith}
use lib.ListN.{length, take, drop, get_or, set, length-append, drop_of_length-le}
use lib.Seq.{drop-drop, get_or-take}
use Rattle.std.specs.Simd.{first_chunks}
use Rattle.std.proofs.lemmas.List.{at_drop_more}
use borrow.Author.Tests.{eq-eqb, ne_eqb}
use Rattle.answer.specs.Parts.{item, written}
use Rattle.answer.proofs.Parts.{set_written, written_next, written_behind, length_written}
use Rattle.position.proofs.Chunks.{chunk_item}
use Rattle.roll_text.specs.Number.{number_text}
use Rattle.roll_text.proofs.Numbers.{groups_last, groups_more}
use Rattle.roll_text.specs.Roll.{code_of, kind_at, colour_at, move_number_at, action_text, actions_text}
use Rattle.roll_writer.specs.CodeSizes.{text_of, are_first}

-- ---- one action

pub text_of_move : (k c m : ℕ) → k ≡ 1 → action_text k c m ≡ number_text (code_of k c) ++ number_text m
unfolding action_text
text_of_move k c m h = simp (eq-eqb _ _ h)

pub text_of_plain : (k c m : ℕ) → (k ≡ 1 → ⊥) → action_text k c m ≡ number_text (code_of k c)
unfolding action_text
text_of_plain k c m h = simp (ne_eqb _ _ h)

-- an action's text put: a move's code and its number right behind it, or the code alone
module _ (l : List ℕ) (k c m at code : ℕ) (is : code ≡ code_of k c) (room : at + length (action_text k c m) ≤ length l) where
  module _ (move : k ≡ 1) where
    both_long : length (action_text k c m) ≡ length (number_text code) + length (number_text m)
    both_long = ap length (text_of_move k c m move) ∙ length-append (number_text (code_of k c)) (number_text m) ∙ rw (← is) refl

    pub code_fits : at + length (number_text code) ≤ length l
    code_fits = omega (arith, both_long)

    module _ (x : List ℕ) (behind : ℕ) (here : behind ≡ at + length (number_text code)) (e : x ≡ written l at (number_text code)) where
      pub number_fits : behind + length (number_text m) ≤ length x
      number_fits = omega (arith, both_long, ap length e ∙ length_written l at (number_text code) code_fits)

      pub move_end : (r : ℕ) → r ≡ behind + length (number_text m) → r ≡ at + length (action_text k c m)
      move_end r f = omega (arith, both_long, f)

      pub move_put : (y : List ℕ) → y ≡ written x behind (number_text m) → y ≡ written l at (action_text k c m)
      move_put y f =
          f ∙ ap (λ (z : List ℕ). written z behind (number_text m)) e
          ∙ written_behind l at (number_text code) code_fits behind (number_text m) (sym here) (omega (arith, both_long, here))
          ∙ ap (λ (z : ℕ). written l at (number_text z ++ number_text m)) is ∙ ap (written l at) (sym (text_of_move k c m move))

  module _ (plain : k ≡ 1 → ⊥) where
    pub plain_is : number_text code ≡ action_text k c m
    plain_is = ap number_text is ∙ sym (text_of_plain k c m plain)

    pub plain_fits : at + length (number_text code) ≤ length l
    plain_fits = omega (arith, ap length plain_is)

-- a move whose number has two groups is three bytes
pub short_text_lem : (m : ℕ) → 128 ≤ m → m < 16384 → action_text 1 0 m ≡ 2 ∷ (128 + m % 128) ∷ (m / 128) ∷ []
short_text_lem m h l =
    let last : m / 128 < 128 = omega arith in
    text_of_move 1 0 m refl
    ∙ ap (λ (t : List ℕ). t ++ number_text m) (groups_last 4 2 (omega arith))
    ∙ ap (λ (t : List ℕ). 2 ∷ t) (groups_more 4 m h ∙ ap (λ (t : List ℕ). (128 + m % 128) ∷ t) (groups_last 3 (m / 128) last))

pub three_put : (l : List ℕ) (at a b c : ℕ) → at + 3 ≤ length l → set (set (set l at a) (at + 1) b) (at + 2) c ≡ written l at (a ∷ b ∷ c ∷ [])
three_put l at a b c h =
    ap (λ (m : List ℕ). set (set m (at + 1) b) (at + 2) c) (set_written l at a (omega arith))
    ∙ ap (λ (m : List ℕ). set m (at + 2) c) (written_next l at (a ∷ []) (omega arith) (at + 1) b refl (omega arith))
    ∙ written_next l at (a ∷ b ∷ []) (omega arith) (at + 2) c refl (omega arith)

-- ---- an iteration: from i actions on

four : (i : ℕ) (s : List ℕ) → drop 4 (drop (4 * i) s) ≡ drop (4 * (i + 1)) s
four i s = let e : 4 * i + 4 ≡ 4 * (i + 1) = omega arith in drop-drop 4 (4 * i) s ∙ ap (λ (j : ℕ). drop j s) e

text_one : (m : ℕ) (s : List ℕ) → 0 < m → actions_text m s ≡ action_text (kind_at s) (colour_at s) (move_number_at s) ++ actions_text (m - 1) (drop 4 s)
unfolding actions_text
text_one zero s h = absurd (omega arith)
text_one (suc m) s h = let e : suc m - 1 ≡ m = omega arith in rw e

module _ (n i : ℕ) (s t : List ℕ) (h : i < n) (rest : t ≡ drop (4 * i) s) where
  less : n - i - 1 ≡ n - (i + 1)
  less = omega arith

  pub text_turn : actions_text (n - i) (drop (4 * i) s)
      ≡ action_text (kind_at t) (colour_at t) (move_number_at t) ++ actions_text (n - (i + 1)) (drop (4 * (i + 1)) s)
  text_turn = text_one (n - i) (drop (4 * i) s) (omega arith) ∙ rw (less, four i s, rest)

  pub length_turn : length (actions_text (n - i) (drop (4 * i) s)) ≡ length (action_text (kind_at t) (colour_at t) (move_number_at t)) + length (actions_text
      (n - (i + 1)) (drop (4 * (i + 1)) s))
  length_turn = ap length text_turn ∙ length-append (action_text (kind_at t) (colour_at t) (move_number_at t))
      (actions_text (n - (i + 1)) (drop (4 * (i + 1)) s))

pub text_end : (n i : ℕ) (s : List ℕ) → n ≤ i → actions_text (n - i) s ≡ []
unfolding actions_text
text_end n i s h = let z : n - i ≡ 0 = omega arith in rw z

-- a loop starts at the first action
pub whole : (n : ℕ) → n - 0 ≡ n
whole n = omega arith

-- ---- the actions of a part, as arrays

-- the first n of more
pub take_chunks : (n m : ℕ) (part : List ℕ) → n ≤ m → take n (first_chunks 4 m part) ≡ first_chunks 4 n part
take_chunks zero m part h = refl
take_chunks (suc n) zero part h = absurd (omega arith)
take_chunks (suc n) (suc m) part h = ap (λ (l : List (List ℕ)). take 4 part ∷ l) (take_chunks n m (drop 4 part) (omega arith))

front_text : (bs : List ℕ) → action_text (kind_at (take 4 bs)) (colour_at (take 4 bs)) (move_number_at (take 4 bs))
    ≡ action_text (kind_at bs) (colour_at bs) (move_number_at bs)
front_text bs =
    rw (get_or-take 4 bs 0 0 (omega arith), get_or-take 4 bs 1 0 (omega arith), get_or-take 4 bs 2 0 (omega arith), get_or-take 4 bs 3 0 (omega arith)) refl

chunks_text : (n : ℕ) (part : List ℕ) → text_of (first_chunks 4 n part) ≡ actions_text n part
unfolding text_of actions_text
chunks_text zero part = refl
chunks_text (suc n) part =
    ap₂ (λ (f g : List ℕ). f ++ g) (front_text part) (chunks_text n (drop 4 part))

module _ (actions : List (List ℕ)) (part : List ℕ) (first : are_first actions part) where
  pub text_is : (n : ℕ) → length actions ≡ n → text_of actions ≡ actions_text n part
  text_is n e = ap text_of first ∙ chunks_text (length actions) part ∙ ap (λ (k : ℕ). actions_text k part) e

  pub item_there : (i : ℕ) (d : List ℕ) → i < length actions → get_or actions i d ≡ item 4 part i
  item_there i d h = ap (λ (l : List (List ℕ)). get_or l i d) first ∙ chunk_item 4 (length actions) i part d h

-- ---- the text so far, and what is to come

-- with the others behind it, it is the whole text
pub record SoFar (actions : List (List ℕ)) (l out : List ℕ) (from i at : ℕ) : Type 0 where
  pub done : List ℕ
  pub split : text_of actions ≡ done ++ text_of (drop i actions)
  pub here : at ≡ from + length done
  pub bytes : out ≡ written l from done

module _ (actions : List (List ℕ)) (l out : List ℕ) (from i at : ℕ) (d : List ℕ) (w : SoFar actions l out from i at) where
  abbrev pub t : List ℕ
  t = get_or actions i d

  abbrev pub x : List ℕ
  x = action_text (kind_at t) (colour_at t) (move_number_at t)

  module _ (h : i < length actions) (fits : from + length (text_of actions) ≤ length l) where
    turn : text_of (drop i actions) ≡ x ++ text_of (drop (i + 1) actions)
    unfolding text_of
    turn = at_drop_more text_of actions i d h

    long : length (text_of actions) ≡ length w.done + (length x + length (text_of (drop (i + 1) actions)))
    long = ap length w.split ∙ length-append w.done (text_of (drop i actions))
        ∙ ap (λ (k : ℕ). length w.done + k) (ap length turn ∙ length-append x (text_of (drop (i + 1) actions)))

    pub so_far_fits : (at + length x ≤ length l) × (length out ≡ length l)
    so_far_fits = (omega (arith, long, w.here), ap length w.bytes ∙ length_written l from w.done (omega (arith, long)))

    pub so_far_more : (new : List ℕ) → new ≡ written out at x → SoFar actions l new from (i + 1) (at + length x)
    so_far_more new e = record {
      done = w.done ++ x;
      split = w.split ∙ ap (λ (y : List ℕ). w.done ++ y) turn ∙ sym (append_assoc w.done x (text_of (drop (i + 1) actions)));
      here = omega (arith, length-append w.done x, w.here);
      bytes = e ∙ ap (λ (y : List ℕ). written y at x) w.bytes ∙ written_behind l from w.done (omega (arith, long)) at x (sym w.here)
          (omega (arith, long, w.here));
    }

pub so_far_all : (actions : List (List ℕ)) (l out : List ℕ) (from i at : ℕ) → SoFar actions l out from i at → length actions ≤ i
    → out ≡ written l from (text_of actions)
unfolding text_of
so_far_all actions l out from i at w h =
    w.bytes ∙ ap (written l from) (sym (w.split ∙ ap (λ (y : List ℕ). w.done ++ y) (ap text_of (drop_of_length-le actions h)) ∙ append-nil w.done))
