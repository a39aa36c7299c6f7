-- A written action reads back to itself, and no other bytes hold it.
-- Assumes nothing.
use Rattle.std.specs.Prelude.{Option, Some, None}
use mathlib.Core.Path.{◌≡◌, refl, ap, sym, ◌∙◌}
use mathlib.Core.Bool.{Bool, true, false, cond, ◌&&◌, false≢true}
use mathlib.Core.List.{[], ◌∷◌}
use Prim.Native.Nat.{ℕ, zero, suc, ◌+◌, ◌*◌, ◌/◌, ◌%◌, ◌≤◌}
use native.Mathlib.Omega.{arith}
use lib.Dec.{eqb, leb}
use lib.ListN.{length}
use borrow.Author.Tests.{le-leb, leb-true, eqb-true}
use Rattle.answer.specs.declared.Answer.{Answer}
use Rattle.answer.specs.Answer.{accepted}
use Rattle.answer.specs.Numbers.{all_at_most}
use Rattle.answer.proofs.Numbers.{both_left, both_right}
use Rattle.answer.proofs.Writes.{accepted_writes_its_text, check_passed}
use Rattle.chess_move.specs.Number.{last_move, move_of, number_answer}
use Rattle.chess_move.proofs.Numbers.{number_of_parts, parts_of_number}
use Rattle.action.specs.declared.Action.{Action}
use Rattle.action.specs.declared.Action.TheVariants.{MakeMove, OfferDraw, AcceptDraw, DeclareDraw, Resign}
use Rattle.action.specs.Layout.{action_size, fields, action_bytes, colour_check, action_check, moves_here, stands_alone, action_of_fields, action_of}
use Rattle.action.proofs.Rules.{no_kind, not_four}
use Rattle.action.specs.Promises.{ActionsReadBack, OneForm}

split : (n : ℕ) → n % 256 + 256 * (n / 256) ≡ n
split n = omega arith

colour_fits : (c : ℕ) → colour_check c ≡ 0 → leb c 1 ≡ true
colour_fits c h = go (leb c 1) refl
  where
    go : (b : Bool) → leb c 1 ≡ b → leb c 1 ≡ true
    go true e = e
    go false e = absurd (omega (arith, simp e at h))

pub length_bytes : (a : Action) → length (action_bytes a) ≡ action_size
unfolding action_bytes
length_bytes (MakeMove m) = refl
length_bytes (OfferDraw c) = refl
length_bytes AcceptDraw = refl
length_bytes DeclareDraw = refl
length_bytes (Resign c) = refl

-- the bytes of an action in range hold it
pub held : (a : Action) → action_check a ≡ 0 → action_of (action_bytes a) ≡ Some a
unfolding action_of action_bytes action_check
held (MakeMove m) h =
    let p = parts_of_number m h in
    simp (split (number_answer m).value, le-leb _ _ p.0, p.1)
held (OfferDraw c) h = simp (colour_fits c h)
held AcceptDraw h = refl
held DeclareDraw h = refl
held (Resign c) h = simp (colour_fits c h)

pub actions_read_back : ActionsReadBack
actions_read_back a out h =
    let w = (accepted_writes_its_text (action_check a) (action_bytes a) out h).front in
    ap action_of (rw (length_bytes a) at w) ∙ held a (check_passed (action_check a) (action_bytes a) (length out) h)

abbrev is_held : Option Action → Bool
is_held (Some a) = true
is_held None = false

abbrev kept : Action → Option Action → Action
kept other (Some a) = a
kept other None = other

-- where an action is held, the test passed and it is that one
held_if : (ok : Bool) (b a : Action) → cond ok (Some b) None ≡ Some a → (ok ≡ true) × (b ≡ a)
held_if true b a h = (refl, ap (kept b) h)
held_if false b a h = absurd (false≢true (ap is_held h))

abbrev Form : ℕ → ℕ → ℕ → ℕ → Action → Type 0
Form k c l u a = (action_check a ≡ 0) × (k ∷ c ∷ l ∷ u ∷ [] ≡ action_bytes a)

-- an action without a move: two bytes of a number that is 0 are 0
alone : (most k c l u : ℕ) (b a : Action) → stands_alone most c (l + 256 * u) b ≡ Some a → (c ≤ most → Form k c 0 0 b) → Form k c l u a
alone most k c l u b a h form =
    let p = held_if (leb c most && eqb (l + 256 * u) 0) b a h in
    let z : l + 256 * u ≡ 0 = eqb-true _ _ (both_right (leb c most) _ p.0) in
    let zl : l ≡ 0 = omega (arith, z) in
    let zu : u ≡ 0 = omega (arith, z) in
    rw (← p.1, zl, zu) (form (leb-true _ _ (both_left _ (eqb (l + 256 * u) 0) p.0)))

move_fields : (l u : ℕ) → l ≤ 255 → 1 ∷ 0 ∷ l ∷ u ∷ [] ≡ fields 1 0 (l + 256 * u)
move_fields l u h =
    let el : (l + 256 * u) % 256 ≡ l = omega (arith, h) in
    let eu : (l + 256 * u) / 256 ≡ u = omega (arith, h) in
    rw (el, eu) refl

moved : (c l u : ℕ) (a : Action) → l ≤ 255 → moves_here c (l + 256 * u) ≡ Some a → Form 1 c l u a
unfolding action_bytes action_check
moved c l u a hl h =
    let p = held_if (eqb c 0 && leb (l + 256 * u) last_move) (MakeMove (move_of (l + 256 * u))) a h in
    let zc : c ≡ 0 = eqb-true _ _ (both_left _ (leb (l + 256 * u) last_move) p.0) in
    let n : number_answer (move_of (l + 256 * u)) ≡ accepted (l + 256 * u) = number_of_parts (l + 256 * u) (leb-true _ _ (both_right (eqb c 0) _ p.0)) in
    rw (← p.1, zc) (
      ap (λ (x : Answer). x.number) n,
      move_fields l u hl ∙ ap (λ (x : Answer). fields 1 0 x.value) (sym n),
    )

offered : (c : ℕ) → c ≤ 1 → Form 2 c 0 0 (OfferDraw c)
unfolding action_bytes action_check
offered c h = (simp (le-leb _ _ h), refl)

resigned : (c : ℕ) → c ≤ 1 → Form 5 c 0 0 (Resign c)
unfolding action_bytes action_check
resigned c h = (simp (le-leb _ _ h), refl)

accepts : (c : ℕ) → c ≤ 0 → Form 3 c 0 0 AcceptDraw
unfolding action_bytes action_check
accepts c h = let z : c ≡ 0 = omega (arith, h) in rw z (refl, refl)

declares : (c : ℕ) → c ≤ 0 → Form 4 c 0 0 DeclareDraw
unfolding action_bytes action_check
declares c h = let z : c ≡ 0 = omega (arith, h) in rw z (refl, refl)

-- five kinds and no other
of_fields : (k c l u : ℕ) (a : Action) → l ≤ 255 → action_of_fields k c (l + 256 * u) ≡ Some a → Form k c l u a
of_fields (suc zero) c l u a hl h = moved c l u a hl h
of_fields (suc (suc zero)) c l u a hl h = alone 1 2 c l u (OfferDraw c) a h (offered c)
of_fields (suc (suc (suc zero))) c l u a hl h = alone 0 3 c l u AcceptDraw a h (accepts c)
of_fields (suc (suc (suc (suc zero)))) c l u a hl h = alone 0 4 c l u DeclareDraw a h (declares c)
of_fields (suc (suc (suc (suc (suc zero))))) c l u a hl h = alone 1 5 c l u (Resign c) a h (resigned c)
of_fields zero c l u a hl h = absurd (false≢true (ap is_held h))
of_fields (suc (suc (suc (suc (suc (suc k)))))) c l u a hl h =
    let n = no_kind (suc (suc (suc (suc (suc (suc k)))))) c (l + 256 * u)
    (λ e. omega arith) (λ e. omega arith) (λ e. omega arith) (λ e. omega arith) (λ e. omega arith) in
    absurd (false≢true (ap is_held (sym n ∙ h)))

pub one_form : OneForm
unfolding action_of all_at_most
one_form [] a small h = absurd (false≢true (ap is_held h))
one_form (k ∷ []) a small h = absurd (false≢true (ap is_held h))
one_form (k ∷ c ∷ []) a small h = absurd (false≢true (ap is_held h))
one_form (k ∷ c ∷ l ∷ []) a small h = absurd (false≢true (ap is_held h))
one_form (k ∷ c ∷ l ∷ u ∷ []) a small h =
    of_fields k c l u a (leb-true _ _ (both_left (leb l 255) _ (both_right (leb c 255) _ (both_right (leb k 255) _ small)))) h
one_form (k ∷ c ∷ l ∷ u ∷ x ∷ xs) a small h =
    absurd (false≢true (ap is_held (sym (not_four (k ∷ c ∷ l ∷ u ∷ x ∷ xs) (λ e. omega (arith, e))) ∙ h)))
