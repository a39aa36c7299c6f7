-- The actions of a part by their fields, as a roll's text has them, and that these are the log's actions: the same bytes are actions, and as many are moves.
-- Assumes nothing.
use Prim.Native.Nat.{ℕ, zero, suc, ◌+◌, ◌*◌, ◌≤◌, ◌<◌}
use mathlib.Core.Path.{◌≡◌, refl, ap, ap₂, sym, ◌∙◌}
use mathlib.Core.Bool.{Bool, true, false, cond, ◌&&◌}
use mathlib.Core.List.{List, [], ◌∷◌}
use native.Mathlib.Omega.{arith}
use lib.Dec.{eqb, leb}
use lib.ListN.{length, take, drop, get_or, length-drop}
use lib.Seq.{get_or-drop, drop-drop}
use borrow.Author.Tests.{eqb-true, eqb-false, ne_eqb, leb-true, leb-false, lt-leb}
use Rattle.chess_move.specs.Number.{last_move, of_bytes}
use Rattle.action.specs.declared.Action.{Action}
use Rattle.action.specs.declared.Action.TheVariants.{OfferDraw, AcceptDraw, DeclareDraw, Resign}
use Rattle.action.specs.Layout.{action_size, moves_here, stands_alone, action_of_fields, action_of}
use Rattle.actions.specs.Part.{action_at, is_held, actions_held, moves_in}
use Rattle.actions.specs.CodeCount.{one_if_move}
use Rattle.actions.proofs.Counting.{none_made, count_turn}
use Rattle.roll_text.specs.Roll.{is_code, code_of, kind_at, colour_at, move_number_at}

unfoldable pub move_in_range : ℕ → ℕ → Bool
move_in_range colour move = cond (eqb colour 0) (leb move last_move) false

unfoldable pub action_in_range : ℕ → ℕ → ℕ → Bool
action_in_range kind colour move =
    cond (eqb kind 1) (move_in_range colour move) (cond (leb colour 1) (cond (eqb move 0) (is_code (code_of kind colour)) false) false)

unfoldable pub actions_in_range : ℕ → List ℕ → Bool
actions_in_range zero bs = true
actions_in_range (suc n) bs = action_in_range (kind_at bs) (colour_at bs) (move_number_at bs) && actions_in_range n (drop action_size bs)

unfoldable pub moves_among : ℕ → List ℕ → ℕ
moves_among zero bs = 0
moves_among (suc n) bs = one_if_move (kind_at bs) (colour_at bs) (move_number_at bs) + moves_among n (drop action_size bs)

-- ---- one action

alone : (most c m : ℕ) (a : Action) → is_held (stands_alone most c m a) ≡ cond (leb c most) (eqb m 0) false
alone most c m a = go (leb c most) (eqb m 0) refl refl
  where
    go : (t u : Bool) → leb c most ≡ t → eqb m 0 ≡ u → is_held (stands_alone most c m a) ≡ cond (leb c most) (eqb m 0) false
    go true true e f = simp (e, f)
    go true false e f = simp (e, f)
    go false u e f = simp e

-- whichever colours a kind has: x says whether the colour is one of them
coded : (x b : Bool) (c m : ℕ) → (c ≤ 1 → b ≡ x) → (1 < c → x ≡ false)
    → cond x (eqb m 0) false ≡ cond (leb c 1) (cond (eqb m 0) b false) false
coded x b c m small large = go (leb c 1) refl
  where
    swapped : (t u : Bool) → cond t u false ≡ cond u t false
    swapped true true = refl
    swapped true false = refl
    swapped false true = refl
    swapped false false = refl

    go : (t : Bool) → leb c 1 ≡ t → cond x (eqb m 0) false ≡ cond t (cond (eqb m 0) b false) false
    go true e = rw (small (leb-true c 1 e)) (swapped x (eqb m 0))
    go false e = rw (large (leb-false c 1 e)) refl

both_colours : (k c : ℕ) → (k ≡ 2) → c ≤ 1 → is_code (code_of k c) ≡ leb c 1
unfolding is_code
both_colours k zero h l = rw h refl
both_colours k (suc zero) h l = rw h refl
both_colours k (suc (suc c)) h l = absurd (omega arith)

both_resign : (k c : ℕ) → (k ≡ 5) → c ≤ 1 → is_code (code_of k c) ≡ leb c 1
unfolding is_code
both_resign k zero h l = rw h refl
both_resign k (suc zero) h l = rw h refl
both_resign k (suc (suc c)) h l = absurd (omega arith)

no_colour : (k c : ℕ) → (k ≡ 3) → c ≤ 1 → is_code (code_of k c) ≡ leb c 0
unfolding is_code
no_colour k zero h l = rw h refl
no_colour k (suc zero) h l = rw h refl
no_colour k (suc (suc c)) h l = absurd (omega arith)

no_colour_declared : (k c : ℕ) → (k ≡ 4) → c ≤ 1 → is_code (code_of k c) ≡ leb c 0
unfolding is_code
no_colour_declared k zero h l = rw h refl
no_colour_declared k (suc zero) h l = rw h refl
no_colour_declared k (suc (suc c)) h l = absurd (omega arith)

no_code : (k c : ℕ) → (k ≡ 2 → ⊥) → (k ≡ 3 → ⊥) → (k ≡ 4 → ⊥) → (k ≡ 5 → ⊥) → c ≤ 1 → is_code (code_of k c) ≡ false
unfolding is_code
no_code k c two three four five l =
    simp (
      ne_eqb (code_of k c) 4 (λ z. two (omega arith)),
      ne_eqb (code_of k c) 5 (λ z. two (omega arith)),
      ne_eqb (code_of k c) 6 (λ z. three (omega arith)),
      ne_eqb (code_of k c) 8 (λ z. four (omega arith)),
      ne_eqb (code_of k c) 10 (λ z. five (omega arith)),
      ne_eqb (code_of k c) 11 (λ z. five (omega arith)),
    )

pub a_move_held : (c m : ℕ) → is_held (moves_here c m) ≡ move_in_range c m
unfolding move_in_range
a_move_held c m = go (eqb c 0) (leb m last_move) refl refl
  where
    go : (t u : Bool) → eqb c 0 ≡ t → leb m last_move ≡ u → is_held (moves_here c m) ≡ cond (eqb c 0) (leb m last_move) false
    go true true e f = simp (e, f)
    go true false e f = simp (e, f)
    go false u e f = simp e

-- a kind's action is held exactly if its fields are in range
pub held_fields : (k c m : ℕ) → is_held (action_of_fields k c m) ≡ action_in_range k c m
unfolding action_in_range
held_fields k c m = go (eqb k 1) (eqb k 2) (eqb k 3) (eqb k 4) (eqb k 5) refl refl refl refl refl
  where
    rest : Bool
    rest = cond (leb c 1) (cond (eqb m 0) (is_code (code_of k c)) false) false

    go : (one two three four five : Bool) → eqb k 1 ≡ one → eqb k 2 ≡ two → eqb k 3 ≡ three → eqb k 4 ≡ four → eqb k 5 ≡ five
        → is_held (action_of_fields k c m) ≡ cond (eqb k 1) (move_in_range c m) (cond (leb c 1) (cond (eqb m 0) (is_code (code_of k c)) false) false)
    go true two three four five e1 e2 e3 e4 e5 = simp e1 (a_move_held c m)
    go false true three four five e1 e2 e3 e4 e5 =
        simp (e1, e2) (alone 1 c m (OfferDraw c) ∙ coded (leb c 1) (is_code (code_of k c)) c m (both_colours k c (eqb-true k 2 e2)) (λ l. lt-leb c 1 l))
    go false false true four five e1 e2 e3 e4 e5 =
        simp (e1, e2, e3)
        (alone 0 c m AcceptDraw ∙ coded (leb c 0) (is_code (code_of k c)) c m (no_colour k c (eqb-true k 3 e3)) (λ l. lt-leb c 0 (omega arith)))
    go false false false true five e1 e2 e3 e4 e5 =
        simp (e1, e2, e3, e4)
        (alone 0 c m DeclareDraw ∙ coded (leb c 0) (is_code (code_of k c)) c m (no_colour_declared k c (eqb-true k 4 e4)) (λ l. lt-leb c 0 (omega arith)))
    go false false false false true e1 e2 e3 e4 e5 =
        simp (e1, e2, e3, e4, e5) (alone 1 c m (Resign c) ∙ coded (leb c 1) (is_code (code_of k c)) c m (both_resign k c (eqb-true k 5 e5)) (λ l. lt-leb c 1 l))
    go false false false false false e1 e2 e3 e4 e5 =
        simp (e1, e2, e3, e4, e5)
        (coded false (is_code (code_of k c)) c m (no_code k c (eqb-false k 2 e2) (eqb-false k 3 e3) (eqb-false k 4 e4) (eqb-false k 5 e5)) (λ l. refl))

-- ---- the actions of a part

and_true : (t : Bool) → (true && t) ≡ (t && true)
and_true true = refl
and_true false = refl

and_assoc : (t u v : Bool) → ((t && u) && v) ≡ (t && (u && v))
and_assoc true u v = refl
and_assoc false u v = refl

-- the first four bytes hold what their fields say
pub fields_here : (bs : List ℕ) → action_size ≤ length bs → action_of (take action_size bs) ≡ action_of_fields (kind_at bs) (colour_at bs) (move_number_at bs)
unfolding action_of
fields_here [] h = absurd (omega arith)
fields_here (k ∷ []) h = absurd (omega arith)
fields_here (k ∷ c ∷ []) h = absurd (omega arith)
fields_here (k ∷ c ∷ l ∷ []) h = absurd (omega arith)
fields_here (k ∷ c ∷ l ∷ u ∷ bs) h = refl

pub held_here : (bs : List ℕ) → action_size ≤ length bs
    → is_held (action_of (take action_size bs)) ≡ action_in_range (kind_at bs) (colour_at bs) (move_number_at bs)
held_here bs h = ap is_held (fields_here bs h) ∙ held_fields (kind_at bs) (colour_at bs) (move_number_at bs)

-- an action behind the first is one of what is left
at_behind : (bs : List ℕ) (i : ℕ) → action_at bs (i + 1) ≡ action_at (drop action_size bs) i
at_behind bs i =
    let e : action_size * (i + 1) ≡ action_size + action_size * i = omega arith in
    ap (λ (l : List ℕ). action_of (take action_size l)) (ap (λ (k : ℕ). drop k bs) e ∙ sym (drop-drop (action_size * i) action_size bs))

first_held : (bs : List ℕ) (n : ℕ) → actions_held bs (n + 1) ≡ (is_held (action_at bs 0) && actions_held (drop action_size bs) n)
unfolding actions_held
first_held bs zero =
    and_true (is_held (action_at bs 0))
first_held bs (suc n) =
    let e : suc n + 1 ≡ suc (n + 1) = omega arith in
    let i : suc n ≡ n + 1 = omega arith in
    rw (e, first_held bs n, at_behind bs n)
    (and_assoc (is_held (action_at bs 0)) (actions_held (drop action_size bs) n) (is_held (action_at (drop action_size bs) n)))

pub held_in_range : (n : ℕ) (bs : List ℕ) → action_size * n ≤ length bs → actions_held bs n ≡ actions_in_range n bs
unfolding actions_held actions_in_range
held_in_range zero bs h = refl
held_in_range (suc n) bs h =
    let e : suc n ≡ n + 1 = omega arith in
    let rest : action_size * n ≤ length (drop action_size bs) = rw (length-drop action_size bs) (omega arith) in
    let here : is_held (action_at bs 0) ≡ action_in_range (kind_at bs) (colour_at bs) (move_number_at bs) = held_here bs (omega arith) in
    ap (actions_held bs) e ∙ first_held bs n ∙ ap₂ ◌&&◌ here (held_in_range n (drop action_size bs) rest)

-- what the action at a place counts
abbrev one_at : List ℕ → ℕ → ℕ
one_at bs at = one_if_move (get_or bs at 0) (get_or bs (at + 1) 0) (of_bytes (get_or bs (at + 2) 0) (get_or bs (at + 3) 0))

one_behind : (bs : List ℕ) (n : ℕ) → one_at bs (action_size * (n + 1)) ≡ one_at (drop action_size bs) (action_size * n)
one_behind bs n =
    let at : (j : ℕ) → get_or bs (action_size * (n + 1) + j) 0 ≡ get_or (drop action_size bs) (action_size * n + j) 0 =
    λ j. let e : action_size * (n + 1) + j ≡ action_size + (action_size * n + j) = omega arith in
    ap (λ (i : ℕ). get_or bs i 0) e ∙ sym (get_or-drop action_size bs (action_size * n + j) 0) in
    let first : get_or bs (action_size * (n + 1)) 0 ≡ get_or (drop action_size bs) (action_size * n) 0 =
    let e : action_size * (n + 1) ≡ action_size + action_size * n = omega arith in
    ap (λ (i : ℕ). get_or bs i 0) e ∙ sym (get_or-drop action_size bs (action_size * n) 0) in
    rw (first, at 1, at 2, at 3) refl

first_counted : (bs : List ℕ) (n : ℕ) → action_size * (n + 1) ≤ length bs → moves_in bs (n + 1) ≡ one_at bs 0 + moves_in (drop action_size bs) n
first_counted bs zero h =
    let turn : moves_in bs (0 + 1) ≡ moves_in bs 0 + one_at bs 0 = count_turn bs 0 (omega arith) in
    omega (arith, turn, none_made bs, none_made (drop action_size bs))
first_counted bs (suc n) h =
    let e : suc n ≡ n + 1 = omega arith in
    let here : action_size * n + action_size ≤ length (drop action_size bs) = rw (length-drop action_size bs) (omega arith) in
    let turn : moves_in bs (n + 1 + 1) ≡ moves_in bs (n + 1) + one_at bs (action_size * (n + 1)) = count_turn bs (n + 1) (omega arith) in
    let behind : moves_in (drop action_size bs) (n + 1) ≡ moves_in (drop action_size bs) n + one_at (drop action_size bs) (action_size * n)
    = count_turn (drop action_size bs) n here in
    let was : moves_in bs (n + 1) ≡ one_at bs 0 + moves_in (drop action_size bs) n = first_counted bs n (omega arith) in
    let now : moves_in bs (n + 1 + 1) ≡ one_at bs 0 + moves_in (drop action_size bs) (n + 1) = omega (arith, turn, behind, was, one_behind bs n) in
    rw e now

pub as_many_moves : (n : ℕ) (bs : List ℕ) → action_size * n ≤ length bs → moves_among n bs ≡ moves_in bs n
unfolding moves_among moves_in
as_many_moves zero bs h = refl
as_many_moves (suc n) bs h =
    let e : suc n ≡ n + 1 = omega arith in
    let rest : action_size * n ≤ length (drop action_size bs) = rw (length-drop action_size bs) (omega arith) in
    ap (λ (k : ℕ). one_at bs 0 + k) (as_many_moves n (drop action_size bs) rest) ∙ sym (ap (moves_in bs) e ∙ first_counted bs n (omega arith))
