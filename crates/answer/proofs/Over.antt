-- A bound on all numbers of a list, as std's words say it: none of them compares greater.
-- Assumes nothing.
use mathlib.Core.Path.{◌≡◌, refl, sym, ap, ap₂, ◌∙◌}
use mathlib.Core.Bool.{Bool, true, false, not, ◌||◌, ◌&&◌}
use mathlib.Core.List.{List, [], ◌∷◌}
use Prim.Native.Nat.{ℕ, ◌<◌}
use native.Mathlib.Omega.{arith}
use lib.Dec.{eqb, leb, ltb}
use borrow.Author.Tests.{le-leb, lt-leb, eqb-true, eqb-false, ltb-true, ltb-false}
use Rattle.std.specs.List.{list_any}
use Rattle.std.proofs.Common.{Some, Ordering, Less, Equal, Greater, is_gt}
use Rattle.std.specs.Cmp.{nat_cmp_is}
use Rattle.std.specs.Ordering.{nat_cmp, partial_gt}
use Rattle.answer.specs.Numbers.{all_at_most}

not_or : (a b : Bool) → not (a || b) ≡ not a && not b
not_or true b = refl
not_or false b = refl

over_one : (x n : ℕ) → not (partial_gt (λ (a b : ℕ). Some (nat_cmp a b)) x n) ≡ leb x n
over_one x n = go (ltb x n) (eqb x n) refl refl
  where
    told : (o : Ordering) → o ≡ nat_cmp x n → not (is_gt o) ≡ leb x n → not (is_gt (nat_cmp x n)) ≡ leb x n
    told o e f = ap (λ (p : Ordering). not (is_gt p)) (sym e) ∙ f

    go : (a b : Bool) → ltb x n ≡ a → eqb x n ≡ b → not (is_gt (nat_cmp x n)) ≡ leb x n
    go true b e f =
        let h : x < n = ltb-true x n e in
        told Less (nat_cmp_is x n Less h) (sym (le-leb x n (omega (arith, h))))
    go false true e f =
        let h : x ≡ n = eqb-true x n f in
        told Equal (nat_cmp_is x n Equal h) (sym (le-leb x n (omega (arith, h))))
    go false false e f =
        let h : n < x = omega (arith, ltb-false x n e, eqb-false x n f) in
        told Greater (nat_cmp_is x n Greater h) (sym (lt-leb x n h))

pub none_over : (n : ℕ) (s : List ℕ) → not (list_any (λ (x : ℕ). partial_gt (λ (a b : ℕ). Some (nat_cmp a b)) x n) s) ≡ all_at_most n s
unfolding all_at_most
none_over n [] = refl
none_over n (x ∷ s) =
    let p = λ (x : ℕ). partial_gt (λ (a b : ℕ). Some (nat_cmp a b)) x n in
    not_or (p x) (list_any p s) ∙ (ap₂ (λ (a b : Bool). a && b) (over_one x n) (none_over n s))
