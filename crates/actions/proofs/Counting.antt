-- The moves among the first actions, action by action, and by the fields of each.
-- Assumes nothing.
use Rattle.std.specs.Prelude.{Option, Some, None}
use mathlib.Core.Path.{◌≡◌, refl, ap, sym, ◌∙◌}
use mathlib.Core.Bool.{Bool, true, false, cond, ◌&&◌}
use mathlib.Core.List.{List}
use Prim.Native.Nat.{ℕ, zero, suc, ◌+◌, ◌*◌, ◌-◌, ◌≤◌, ◌<◌, ◌/◌, min}
use native.Mathlib.Numerals.{add-one}
use native.Mathlib.Omega.{arith}
use lib.Dec.{eqb, leb}
use lib.ListN.{length, drop, get_or, length-take, length-drop}
use lib.Seq.{get_or-take, get_or-drop}
use borrow.Author.Tests.{eqb-true, eqb-false, le-leb, lt-leb, leb-true, leb-false}
use Rattle.answer.specs.Answer.{in_range_or5}
use Rattle.answer.specs.Parts.{item}
use Rattle.answer.proofs.Parts.{length_item}
use Rattle.chess_move.specs.declared.ChessMove.{ChessMove}
use Rattle.chess_move.specs.Number.{last_move, of_bytes, move_of, number_of, number_answer}
use Rattle.chess_move.proofs.Numbers.{parts_of_number}
use Rattle.action.specs.declared.Action.{Action}
use Rattle.action.specs.declared.Action.TheVariants.{MakeMove, OfferDraw, AcceptDraw, DeclareDraw, Resign}
use Rattle.action.specs.Layout.{action_size, action_of}
use Rattle.action.proofs.Rules.{not_four, of_move, of_offer, of_accept, of_declare, of_resign, of_none}
use Rattle.actions.specs.Part.{no_move, move_held, move_at, moves_in}
use Rattle.actions.specs.CodeCount.{one_if_move}

pub none_made : (acts : List ℕ) → moves_in acts 0 ≡ 0
unfolding moves_in
none_made acts = refl

-- action i makes move m, or none
module _ (acts : List ℕ) (i m : ℕ) (read : m ≡ move_at acts i) where
  pub one_more_lem : m ≤ last_move → moves_in acts (i + 1) ≡ moves_in acts i + 1
  unfolding moves_in
  one_more_lem h = rw (add-one i, ← read, le-leb m last_move h, add-one (moves_in acts i))

  pub no_more : last_move < m → moves_in acts (i + 1) ≡ moves_in acts i
  unfolding moves_in
  no_more h = rw (add-one i, ← read, lt-leb m last_move h)

-- a held move has a move's number
pub value_most : (m : ChessMove) → leb (number_answer m).value last_move ≡ true
value_most m = go (leb m.source 63 && (leb m.dest 63 && leb m.promotion 6)) refl
  where
    go : (ok : Bool) → (leb m.source 63 && (leb m.dest 63 && leb m.promotion 6)) ≡ ok → leb (number_answer m).value last_move ≡ true
    go true e = le-leb _ _ (parts_of_number m (ap (λ (b : Bool). (in_range_or5 b (number_of m.source m.dest m.promotion)).number) e)).0
    go false e = rw e refl

pub one_at_most : (kind colour number : ℕ) → one_if_move kind colour number ≤ 1
one_at_most kind colour number = go (eqb kind 1) (eqb colour 0 && leb number last_move)
  where
    go : (t u : Bool) → cond t (cond u 1 0) 0 ≤ 1
    go true true = omega arith
    go true false = omega arith
    go false u = omega arith

-- what an action counts
abbrev counts : Option Action → ℕ
counts a = cond (leb (move_held a) last_move) 1 0

held_counts_none : (a : Action) → move_held (Some a) ≡ no_move → (held : Bool) → counts (cond held (Some a) None) ≡ 0
held_counts_none a e true = rw e
held_counts_none a e false = refl

held_counts_one : (m : ChessMove) (held : Bool) → counts (cond held (Some (MakeMove m)) None) ≡ cond held 1 0
held_counts_one m true = rw (value_most m)
held_counts_one m false = refl

module _ (s : List ℕ) (four : length s ≡ action_size) where
  abbrev kind : ℕ
  kind = get_or s 0 0

  abbrev colour : ℕ
  colour = get_or s 1 0

  abbrev number : ℕ
  number = of_bytes (get_or s 2 0) (get_or s 3 0)

  -- kind by kind: a move first, then the four others, then none
  not_counted : (kind ≡ 1 → ⊥) → counts (action_of s) ≡ 0
  not_counted no_move_lem = go (eqb kind 2) refl (eqb kind 3) refl (eqb kind 4) refl (eqb kind 5) refl
    where
      go : (t : Bool) → eqb kind 2 ≡ t → (u : Bool) → eqb kind 3 ≡ u → (v : Bool) → eqb kind 4 ≡ v → (w : Bool) → eqb kind 5 ≡ w → counts (action_of s) ≡ 0
      go true e u f v g w h = ap counts (of_offer s four (eqb-true _ _ e)) ∙ held_counts_none (OfferDraw colour) refl (leb colour 1 && eqb number 0)
      go false e true f v g w h = ap counts (of_accept s four (eqb-true _ _ f)) ∙ held_counts_none AcceptDraw refl (leb colour 0 && eqb number 0)
      go false e false f true g w h = ap counts (of_declare s four (eqb-true _ _ g)) ∙ held_counts_none DeclareDraw refl (leb colour 0 && eqb number 0)
      go false e false f false g true h = ap counts (of_resign s four (eqb-true _ _ h)) ∙ held_counts_none (Resign colour) refl (leb colour 1 && eqb number 0)
      go false e false f false g false h =
          ap counts (of_none s four no_move_lem (eqb-false _ _ e) (eqb-false _ _ f) (eqb-false _ _ g) (eqb-false _ _ h))

  counted : counts (action_of s) ≡ one_if_move kind colour number
  counted = go (eqb kind 1) refl
    where
      go : (t : Bool) → eqb kind 1 ≡ t → counts (action_of s) ≡ cond t (cond (eqb colour 0 && leb number last_move) 1 0) 0
      go true e = ap counts (of_move s four (eqb-true _ _ e)) ∙ held_counts_one (move_of number) (eqb colour 0 && leb number last_move)
      go false e = not_counted (eqb-false _ _ e)

count_more : (acts : List ℕ) (i : ℕ) → moves_in acts (i + 1) ≡ moves_in acts i + cond (leb (move_at acts i) last_move) 1 0
unfolding moves_in
count_more acts i = rw (add-one i) (go (leb (move_at acts i) last_move))
  where
    go : (t : Bool) → cond t (suc (moves_in acts i)) (moves_in acts i) ≡ moves_in acts i + cond t 1 0
    go true = omega arith
    go false = omega arith

-- an iteration of the loop over the stored actions
pub count_turn : (acts : List ℕ) (i : ℕ) → action_size * i + action_size ≤ length acts
    → moves_in acts (i + 1) ≡ moves_in acts i
    + one_if_move (get_or acts (action_size * i) 0) (get_or acts (action_size * i + 1) 0)
    (of_bytes (get_or acts (action_size * i + 2) 0) (get_or acts (action_size * i + 3) 0))
count_turn acts i h =
    let at : (j : ℕ) → j < action_size → get_or (item action_size acts i) j 0 ≡ get_or acts (action_size * i + j) 0 =
    λ j k. get_or-take action_size (drop (action_size * i) acts) j 0 k ∙ get_or-drop (action_size * i) acts j 0 in
    let e : action_size * i + 0 ≡ action_size * i = omega arith in
    let first : get_or (item action_size acts i) 0 0 ≡ get_or acts (action_size * i) 0 = at 0 (omega arith) ∙ ap (λ (j : ℕ). get_or acts j 0) e in
    count_more acts i
    ∙ ap (λ (x : ℕ). moves_in acts i + x)
    (counted (item action_size acts i) (length_item action_size i acts h)
    ∙ rw (first, at 1 (omega arith), at 2 (omega arith), at 3 (omega arith)))

-- past the stored actions there are no more
not_stored : (acts : List ℕ) (i : ℕ) → length acts < action_size * i + action_size → moves_in acts (i + 1) ≡ moves_in acts i
not_stored acts i h =
    let short : length (item action_size acts i) ≡ 4 → ⊥ = λ e. omega (arith, simp (length-take, length-drop) at e) in
    count_more acts i
    ∙ ap (λ (a : Option Action). moves_in acts i + counts a) (not_four (item action_size acts i) short)
    ∙ omega arith

past_stored : (acts : List ℕ) (i d : ℕ) → length acts < action_size * i + action_size → moves_in acts (i + d) ≡ moves_in acts i
past_stored acts i zero h = let e : i + 0 ≡ i = omega arith in rw e
past_stored acts i (suc d) h =
    let e : i + suc d ≡ i + d + 1 = omega arith in
    rw e (not_stored acts (i + d) (omega arith) ∙ past_stored acts i d h)

pub count_end : (acts : List ℕ) (n i : ℕ) → min n (length acts / action_size) ≤ i → i ≤ min n (length acts / action_size) → moves_in acts i ≡ moves_in acts n
count_end acts n i h k = go (leb n i) refl
  where
    go : (t : Bool) → leb n i ≡ t → moves_in acts i ≡ moves_in acts n
    go true e = let f : i ≡ n = omega (arith, leb-true n i e) in ap (moves_in acts) f
    go false e =
        let f : i + (n - i) ≡ n = omega (arith, leb-false n i e) in
        sym (ap (moves_in acts) (sym f) ∙ past_stored acts i (n - i) (omega (arith, leb-false n i e)))
