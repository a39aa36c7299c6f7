-- The search's answer in words: two earlier positions that equal the last, in both directions.
-- Assumes nothing.
use mathlib.Core.Path.{◌≡◌, refl, ◌∙◌}
use mathlib.Core.Bool.{Bool, true, false}
use mathlib.Core.List.{List}
use Prim.Native.Nat.{ℕ, zero, suc, ◌+◌, ◌*◌, ◌-◌, ◌≤◌, ◌<◌}
use native.Mathlib.Omega.{arith}
use lib.Dec.{leb}
use lib.ListN.{length}
use borrow.Author.Tests.{le-leb, leb-true}
use Rattle.answer.specs.Numbers.{same}
use Rattle.answer.proofs.Numbers.{both_left, both_right}
use Rattle.answer.proofs.Same.{same_refl, same_eq}
use Rattle.position.specs.Layout.{Position, position_size, position_at, positions_from}
use Rattle.position.specs.Repeats.{equal, times, equals_two_earlier}
use Rattle.position.specs.Promises.{EqualIsAlike, AlikeIsEqual, FindsTwo, TwoAreFound}
use Rattle.position.proofs.Repeats.{there, two_found}

pub equal_is_alike : EqualIsAlike
unfolding equal
equal_is_alike p q h = record {
  boards = same_eq _ _ (both_left (same p.board q.board) _ h);
  lists = same_eq _ _ (both_right (same p.board q.board) _ h);
}

pub alike_is_equal : AlikeIsEqual
unfolding equal
alike_is_equal p q h = rw (h.boards, h.lists, same_refl q.board, same_refl q.moves) refl

module _ (ps : List ℕ) (q : Position) (first : ℕ) where
  record OneOf (k : ℕ) : Type 0 where
    i : ℕ
    low : first ≤ i
    high : i < first + k
    is : equal (position_at ps i) q ≡ true

  record TwoOf (k : ℕ) : Type 0 where
    i : ℕ
    j : ℕ
    low : first ≤ i
    apart : i < j
    high : j < first + k
    i_is : equal (position_at ps i) q ≡ true
    j_is : equal (position_at ps j) q ≡ true

  one_of : (k : ℕ) → 1 ≤ times q (positions_from ps first k) → OneOf k
  unfolding times positions_from
  one_of zero h = absurd (omega (arith, h))
  one_of (suc k) h = go (one_of k) (equal (position_at ps (first + k)) q) refl
    where
      go : (1 ≤ times q (positions_from ps first k) → OneOf k) → (t : Bool) → equal (position_at ps (first + k)) q ≡ t → OneOf (suc k)
      go before true e = record { i = first + k; low = omega arith; high = omega arith; is = e }
      go before false e =
          let o = before (omega (arith, rw e at h)) in
          record { i = o.i; low = o.low; high = omega (arith, o.high); is = o.is }

  two_of : (k : ℕ) → 2 ≤ times q (positions_from ps first k) → TwoOf k
  unfolding times positions_from
  two_of zero h = absurd (omega (arith, h))
  two_of (suc k) h = go (two_of k) (equal (position_at ps (first + k)) q) refl
    where
      go : (2 ≤ times q (positions_from ps first k) → TwoOf k) → (t : Bool) → equal (position_at ps (first + k)) q ≡ t → TwoOf (suc k)
      go before true e =
          let o = one_of k (omega (arith, rw e at h)) in
          record { i = o.i; j = first + k; low = o.low; apart = o.high; high = omega arith; i_is = o.is; j_is = e }
      go before false e =
          let o = before (omega (arith, rw e at h)) in
          record { i = o.i; j = o.j; low = o.low; apart = o.apart; high = omega (arith, o.high); i_is = o.i_is; j_is = o.j_is }

pub finds_two : FindsTwo
unfolding equals_two_earlier
finds_two ps first last h =
    let o = two_of ps (position_at ps last) first (last - first) (leb-true _ _ (both_right (leb (position_size * last + position_size) (length ps)) _ h)) in
    record {
      i = o.i;
      j = o.j;
      from_first = o.low;
      apart = o.apart;
      earlier = omega (arith, o.high, o.low, o.apart);
      i_equal = o.i_is;
      j_equal = o.j_is;
      inside = leb-true _ _ (both_left _ (leb 2 (times (position_at ps last) (positions_from ps first (last - first)))) h);
    }

pub two_are_found : TwoAreFound
two_are_found ps first last t =
    there ps first last t.inside
    ∙ le-leb 2 _ (two_found ps (position_at ps last) first t.j t.i last t.from_first t.apart t.earlier t.i_equal t.j_equal)
