-- Lines, or records, in another order: what is counted over them stays the same.
-- Assumes nothing.
use mathlib.Core.Path.{◌≡◌, refl, ap, ap₂, subst, ◌∙◌}
use mathlib.Core.Bool.{Bool, true, false, ◌||◌}
use mathlib.Core.List.{List, [], ◌∷◌, ◌++◌, append-nil}
use Prim.Native.Nat.{ℕ, ◌+◌}
use native.Mathlib.Omega.{arith}
use Rattle.answer.specs.Numbers.{same}
use Rattle.answer.proofs.Same.{same_eq}
use Rattle.fen_text.specs.declared.Fen.{Fen}
use Rattle.fen_text.specs.Read.{read_fen}
use Rattle.report_text.specs.Report.{one, is_taken, with_taken, taken_records, has_record, repeated_behind, repeated_of}
use Rattle.report_text.specs.Promises.{sum_over}
use Rattle.report_text.proofs.Figures.{or_swap}

-- the second list is the first after some swaps of neighbours
pub data Reordered : List (List ℕ) → List (List ℕ) → Type 0 where
  empty : Reordered [] []
  keep : (x : List ℕ) {a b : List (List ℕ)} → Reordered a b → Reordered (x ∷ a) (x ∷ b)
  swap : (x y : List ℕ) (a : List (List ℕ)) → Reordered (x ∷ y ∷ a) (y ∷ x ∷ a)
  twice : {a b c : List (List ℕ)} → Reordered a b → Reordered b c → Reordered a c

pub unmoved : (a : List (List ℕ)) → Reordered a a
unmoved [] = empty
unmoved (x ∷ a) = keep x (unmoved a)

-- one from the middle put in front
pub to_front : (a : List (List ℕ)) (x : List ℕ) (b : List (List ℕ)) → Reordered (a ++ (x ∷ b)) (x ∷ (a ++ b))
to_front [] x b = unmoved (x ∷ b)
to_front (y ∷ a) x b = twice (keep y (to_front a x b)) (swap y x (a ++ b))

pub reordered_sum : (f : List ℕ → ℕ) {a b : List (List ℕ)} → Reordered a b → sum_over f a ≡ sum_over f b
unfolding sum_over
reordered_sum f empty = refl
reordered_sum f (keep x p) = ap (λ (n : ℕ). f x + n) (reordered_sum f p)
reordered_sum f (swap x y a) = omega arith
reordered_sum f (twice p q) = reordered_sum f p ∙ reordered_sum f q

reordered_has : (r : List ℕ) {a b : List (List ℕ)} → Reordered a b → has_record r a ≡ has_record r b
unfolding has_record
reordered_has r empty = refl
reordered_has r (keep x p) = ap (λ (t : Bool). same x r || t) (reordered_has r p)
reordered_has r (swap x y a) = or_swap (same x r) (same y r) (has_record r a)
reordered_has r (twice p q) = reordered_has r p ∙ reordered_has r q

-- the records of the accepted lines are reordered with the lines
with_kept : (t : Bool) (f : Fen) {a b : List (List ℕ)} → Reordered a b → Reordered (with_taken t f a) (with_taken t f b)
unfolding with_taken
with_kept true f p = keep _ p
with_kept false f p = p

with_swapped : (t u : Bool) (f g : Fen) (a : List (List ℕ)) → Reordered (with_taken t f (with_taken u g a)) (with_taken u g (with_taken t f a))
unfolding with_taken
with_swapped true true f g a = swap _ _ a
with_swapped true false f g a = unmoved _
with_swapped false u f g a = unmoved _

pub reordered_taken : {a b : List (List ℕ)} → Reordered a b → Reordered (taken_records a) (taken_records b)
unfolding taken_records
reordered_taken empty = empty
reordered_taken (keep x p) = with_kept (is_taken x) (read_fen x) (reordered_taken p)
reordered_taken (swap x y a) = with_swapped (is_taken x) (is_taken y) (read_fen x) (read_fen y) (taken_records a)
reordered_taken (twice p q) = twice (reordered_taken p) (reordered_taken q)

-- ---- repeats

-- how many records stand once more behind their own place
unfoldable pub stood_again : List (List ℕ) → ℕ
stood_again [] = 0
stood_again (r ∷ rs) = one (has_record r rs) + stood_again rs

-- of two neighbours that differ each is looked for in the rest, and two that are equal may change places
pub reordered_again : {a b : List (List ℕ)} → Reordered a b → stood_again a ≡ stood_again b
unfolding has_record stood_again
reordered_again empty = refl
reordered_again (keep x p) = ap₂ (λ (t : Bool) (n : ℕ). one t + n) (reordered_has x p) (reordered_again p)
reordered_again (swap x y a) = go (same x y) (same y x) refl refl
  where
    go : (t u : Bool) → same x y ≡ t → same y x ≡ u → stood_again (x ∷ y ∷ a) ≡ stood_again (y ∷ x ∷ a)
    go true u e f = subst (λ (z : List ℕ). stood_again (x ∷ z ∷ a) ≡ stood_again (z ∷ x ∷ a)) (same_eq x y e) refl
    go false true e f = subst (λ (z : List ℕ). stood_again (z ∷ y ∷ a) ≡ stood_again (y ∷ z ∷ a)) (same_eq y x f) refl
    go false false e f = rw (e, f) (omega arith)
reordered_again (twice p q) = reordered_again p ∙ reordered_again q

-- those that repeat an earlier one are as many as those that a later one repeats
again_behind : (seen rs : List (List ℕ)) → repeated_behind seen rs + stood_again seen ≡ stood_again (rs ++ seen)
unfolding repeated_behind stood_again
again_behind seen [] = omega arith
again_behind seen (r ∷ rs) = omega (arith, again_behind (r ∷ seen) rs, reordered_again (to_front rs r seen))

pub repeated_again : (rs : List (List ℕ)) → repeated_of rs ≡ stood_again rs
unfolding stood_again
repeated_again rs = omega (arith, rw (append-nil rs) at (again_behind [] rs))
