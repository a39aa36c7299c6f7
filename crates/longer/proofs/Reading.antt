-- Reading a roll under two limits: whatever is not 13 under the smaller is the same under the larger.
-- Assumes nothing.
use mathlib.Core.Path.{◌≡◌, refl, ap, sym, ◌∙◌}
use mathlib.Core.Bool.{Bool, true, false, false≢true}
use mathlib.Core.List.{List, [], ◌∷◌}
use Prim.Native.Nat.{ℕ, zero, suc, ◌-◌, ◌/◌, ◌%◌, ◌≤◌}
use native.Mathlib.Omega.{arith}
use lib.Dec.{eqb, leb}
use lib.ListN.{drop}
use borrow.Author.Tests.{eq-eqb, ne_eqb, leb-true, le-leb}
use Rattle.std.specs.Prelude.{Some, None, Result, Ok, Err}
use Rattle.answer.specs.Answer.{log_full}
use Rattle.action.specs.Layout.{fields}
use Rattle.game_rules.specs.Limits.{Limits}
use Rattle.roll_text.specs.declared.Entry.{Entry}
use Rattle.roll_text.specs.declared.Entry.TheVariants.{Move, Plain}
use Rattle.roll_text.specs.Number.{Number, read_number}
use Rattle.roll_text.specs.Roll.{Counters, Front, stopped, front, read_numbers, largest_numbers, coded, read_entry}
use Rattle.roll_text.specs.Roll.{Acts, halted, put_action, next_action, read_actions}
use Rattle.roll_text.specs.Roll.{Start, refusal, with_actions, with_count, with_counts, with_front, read_counters, read_by}
use Rattle.longer.specs.TwoLimits.{AllowsNoLess}

-- ---- an entry: whether there is room for a move is tested only at a move's code, and answered with 13

coded_alike : (f g : Bool) (s : List ℕ) (x : Number) → (f ≡ false → g ≡ false) → (coded f s x ≡ Err log_full → ⊥) → coded f s x ≡ coded g s x
unfolding coded
coded_alike true true s x h n = refl
coded_alike false false s x h n = refl
coded_alike false true s x h n = absurd (false≢true (sym (h refl)))
coded_alike true false s None h n = refl
coded_alike true false s (Some (code, size)) h n = by (eqb code 2) refl
  where
    by : (t : Bool) → eqb code 2 ≡ t → coded true s (Some (code, size)) ≡ coded false s (Some (code, size))
    by true e = absurd (n (simp e))
    by false e = simp e

-- none left under the larger only if none is left under the smaller
full_alike : (l k : ℕ) → l ≤ k → eqb l 0 ≡ false → eqb k 0 ≡ false
full_alike l k h e = ne_eqb k 0 (λ z. false≢true (sym e ∙ eq-eqb l 0 (omega arith)))

-- ---- the actions

put_alike : (bs : List ℕ) (x y : Acts) → ((x ≡ halted log_full → ⊥) → x ≡ y) → (put_action bs x ≡ halted log_full → ⊥) → put_action bs x ≡ put_action bs y
unfolding put_action
put_alike bs x y h n = ap (put_action bs) (h (λ e. n (ap (put_action bs) e)))

next_alike : (x : Result Entry ℕ) (l k : ℕ) (s : List ℕ) (go : ℕ → List ℕ → Acts) → l ≤ k
    → ((a b : ℕ) (t : List ℕ) → a ≤ b → (go a t ≡ halted log_full → ⊥) → go a t ≡ go b t)
    → (next_action x l s go ≡ halted log_full → ⊥) → next_action x l s go ≡ next_action x k s go
unfolding next_action
next_alike (Ok (Move move size)) l k s go h ih n =
    put_alike (fields 1 0 move) (go (l - 1) (drop size s)) (go (k - 1) (drop size s)) (ih (l - 1) (k - 1) (drop size s) (omega arith)) n
next_alike (Ok (Plain code size)) l k s go h ih n =
    put_alike (fields (code / 2) (code % 2) 0) (go l (drop size s)) (go k (drop size s)) (ih l k (drop size s) h) n
next_alike (Err j) l k s go h ih n = refl

stop_halts : (x : Result Entry ℕ) (l : ℕ) (s : List ℕ) (go : ℕ → List ℕ → Acts) → x ≡ Err log_full → next_action x l s go ≡ halted log_full
unfolding next_action
stop_halts x l s go e = rw e refl

actions_alike : (n l k : ℕ) (s : List ℕ) → l ≤ k → (read_actions n l s ≡ halted log_full → ⊥) → read_actions n l s ≡ read_actions n k s
unfolding read_actions
actions_alike zero l k [] h isnt = refl
actions_alike zero l k (b ∷ bs) h isnt = refl
actions_alike (suc n) l k s h isnt =
    next_alike (read_entry (eqb l 0) s) l k s (λ a t. read_actions n a t) h (λ a b t. actions_alike n a b t) isnt
    ∙ ap (λ (x : Result Entry ℕ). next_action x k s (λ a t. read_actions n a t))
    (coded_alike (eqb l 0) (eqb k 0) s (read_number s) (full_alike l k h) (λ e. isnt (stop_halts (read_entry (eqb l 0) s) l s (λ a t. read_actions n a t) e)))

-- ---- the roll

with_actions_alike : (st : Start) (n : ℕ) (x y : Acts) → ((x ≡ halted log_full → ⊥) → x ≡ y) → (with_actions st n x ≡ refusal log_full → ⊥)
    → with_actions st n x ≡ with_actions st n y
unfolding with_actions
with_actions_alike st n x y h isnt = ap (with_actions st n) (h (λ e. isnt (ap (with_actions st n) e)))

module _ (L M : Limits) (o : AllowsNoLess L M) where
  count_alike : (st : Start) (x : Number) (s : List ℕ) → (with_count L st x s ≡ refusal log_full → ⊥) → with_count L st x s ≡ with_count M st x s
  unfolding with_count
  count_alike st None s isnt = refl
  count_alike st (Some (n, size)) s isnt = by (leb n L.most_actions) refl
    where
      by : (t : Bool) → leb n L.most_actions ≡ t → with_count L st (Some (n, size)) s ≡ with_count M st (Some (n, size)) s
      by true e =
          let le : n ≤ L.most_actions = leb-true n L.most_actions e in
          let also : leb n M.most_actions ≡ true = le-leb n M.most_actions (omega (arith, le, o.actions)) in
          simp (e, also)
          (with_actions_alike st n (read_actions n L.most_moves (drop size s)) (read_actions n M.most_moves (drop size s))
          (actions_alike n L.most_moves M.most_moves (drop size s) o.moves)
          (simp e at isnt))
      by false e = absurd (isnt (simp e))

  counts_alike : (xs : List ℕ) (x : Counters) (s : List ℕ) → (with_counts L xs x s ≡ refusal log_full → ⊥) → with_counts L xs x s ≡ with_counts M xs x s
  unfolding with_counts
  counts_alike xs (Err k) s isnt = refl
  counts_alike xs (Ok (half, full, size)) s isnt =
      count_alike (record { numbers = xs; half = half; full = full }) (read_number (drop size s)) (drop size s) isnt

  module _ (counted : Bool) where
    front_alike : (x : Front) → (with_front counted L x ≡ refusal log_full → ⊥) → with_front counted L x ≡ with_front counted M x
    unfolding with_front
    front_alike (stopped k) isnt = refl
    front_alike (front xs s) isnt = counts_alike xs (read_counters counted s) s isnt

    pub roll_alike : (s : List ℕ) → (read_by counted L s ≡ refusal log_full → ⊥) → read_by counted L s ≡ read_by counted M s
    unfolding read_by
    roll_alike s isnt = front_alike (read_numbers largest_numbers s) isnt
