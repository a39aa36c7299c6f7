-- The number of an action in range: it is not 0, it is at most 2 + 16 × 28671, and it tells the action.
-- Assumes nothing.
use mathlib.Core.Path.{◌≡◌, refl, ap}
use mathlib.Core.Bool.{Bool, true, false}
use mathlib.Core.List.{List, [], ◌∷◌}
use Prim.Native.Nat.{ℕ, zero, suc, ◌+◌, ◌*◌, ◌≤◌, ◌<◌}
use native.Mathlib.Omega.{arith}
use lib.Dec.{eqb}
use lib.ListN.{length, drop}
use borrow.Author.Tests.{eqb-true, eqb-false}
use Rattle.answer.specs.Numbers.{all_at_most}
use Rattle.answer.proofs.Numbers.{both_left, both_right, most_cons}
use Rattle.chess_move.specs.Number.{last_move}
use Rattle.action.specs.Layout.{action_size}
use Rattle.roll_text.specs.Roll.{code_of, kind_at, colour_at, move_number_at, actions_text}
use Rattle.roll_text.proofs.ByFields.{action_in_range, actions_in_range}
use Rattle.roll_text.proofs.Entries.{code_range, move_here_lem, plain_here}
use Rattle.differences_text.specs.Differences.{action_number, action_numbers}

-- the largest: the last move
abbrev pub largest_number : ℕ
largest_number = 458738

pub record InRange (kind colour move : ℕ) : Type 0 where
  pub colours : colour ≤ 1
  pub least : 2 ≤ code_of kind colour
  pub most : code_of kind colour ≤ 11
  pub move_most : move ≤ last_move
  pub move_code : 0 < move → code_of kind colour ≡ 2

pub in_range_lem : (k c m : ℕ) → action_in_range k c m ≡ true → InRange k c m
in_range_lem k c m e = by (eqb k 1) refl
  where
    by : (t : Bool) → eqb k 1 ≡ t → InRange k c m
    by true f =
        let one : k ≡ 1 = eqb-true k 1 f in
        let h = move_here_lem k c m one e in
        record {
          colours = omega (arith, h.none);
          least = omega (arith, h.none);
          most = omega (arith, h.none);
          move_most = h.last;
          move_code = λ _. omega (arith, h.none);
        }
    by false f =
        let h = plain_here k c m (eqb-false k 1 f) e in
        let r = code_range (code_of k c) h.code in
        record {
          colours = h.colours;
          least = omega (arith, r.0);
          most = r.1;
          move_most = omega (arith, h.none);
          move_code = λ z. absurd (omega (arith, h.none));
        }

pub some_number : (k c m : ℕ) → InRange k c m → 0 < code_of k c + 16 * m
some_number k c m h = omega (arith, h.least)

by_move : (m code : ℕ) → m ≤ last_move → code ≤ 11 → (0 < m → code ≡ 2) → code + 16 * m ≤ largest_number
by_move zero code h k e = omega arith
by_move (suc m) code h k e = let f : code ≡ 2 = e (omega arith) in omega arith

most_number : (k c m : ℕ) → InRange k c m → code_of k c + 16 * m ≤ largest_number
most_number k c m h = by_move m (code_of k c) h.move_most h.most h.move_code

-- the same number, the same action
pub record Same (k c m kind colour move : ℕ) : Type 0 where
  pub kinds : k ≡ kind
  pub colours : c ≡ colour
  pub moves : m ≡ move

one_action : (k c m kind colour move : ℕ) → InRange k c m → InRange kind colour move → code_of k c + 16 * m ≡ code_of kind colour + 16 * move
    → Same k c m kind colour move
one_action k c m kind colour move h l e =
    let a : k * 2 + c ≤ 11 = h.most in
    let b : kind * 2 + colour ≤ 11 = l.most in
    let moves : m ≡ move = omega arith in
    let codes : k * 2 + c ≡ kind * 2 + colour = omega arith in
    let p : c ≤ 1 = h.colours in
    let q : colour ≤ 1 = l.colours in
    record { kinds = omega arith; colours = omega arith; moves = moves }

-- ---- of all actions

heading : List ℕ → ℕ
heading [] = 0
heading (x ∷ xs) = x

behind : List ℕ → List ℕ
behind [] = []
behind (x ∷ xs) = xs

pub first_in_range : (n : ℕ) (bs : List ℕ) → actions_in_range (suc n) bs ≡ true → InRange (kind_at bs) (colour_at bs) (move_number_at bs)
unfolding actions_in_range
first_in_range n bs e =
    in_range_lem (kind_at bs) (colour_at bs) (move_number_at bs)
    (both_left (action_in_range (kind_at bs) (colour_at bs) (move_number_at bs)) (actions_in_range n (drop action_size bs)) e)

pub rest_in_range : (n : ℕ) (bs : List ℕ) → actions_in_range (suc n) bs ≡ true → actions_in_range n (drop action_size bs) ≡ true
unfolding actions_in_range
rest_in_range n bs e = both_right (action_in_range (kind_at bs) (colour_at bs) (move_number_at bs)) (actions_in_range n (drop action_size bs)) e

pub as_many : (n : ℕ) (bs : List ℕ) → length (action_numbers n bs) ≡ n
unfolding action_numbers
as_many zero bs = refl
as_many (suc n) bs = ap suc (as_many n (drop action_size bs))

pub numbers_small : (n : ℕ) (bs : List ℕ) → actions_in_range n bs ≡ true → all_at_most largest_number (action_numbers n bs) ≡ true
unfolding action_numbers all_at_most
numbers_small zero bs e = refl
numbers_small (suc n) bs e =
    most_cons largest_number (action_number bs) (action_numbers n (drop action_size bs))
    (most_number (kind_at bs) (colour_at bs) (move_number_at bs) (first_in_range n bs e)) (numbers_small n (drop action_size bs) (rest_in_range n bs e))

-- equal numbers: as many actions, with the same text
pub record SameText (n : ℕ) (bs : List ℕ) (m : ℕ) (cs : List ℕ) : Type 0 where
  pub counts : n ≡ m
  pub texts : actions_text n bs ≡ actions_text m cs

pub same_text : (n : ℕ) (bs : List ℕ) (m : ℕ) (cs : List ℕ) → actions_in_range n bs ≡ true → actions_in_range m cs ≡ true
    → action_numbers n bs ≡ action_numbers m cs → SameText n bs m cs
unfolding action_numbers actions_text heading behind
same_text zero bs zero cs h k e =
    record { counts = refl; texts = refl }
same_text zero bs (suc m) cs h k e = let z : ◌≡◌ {A = ℕ} 0 1 = cc in absurd (omega arith)
same_text (suc n) bs zero cs h k e = let z : ◌≡◌ {A = ℕ} 0 1 = cc in absurd (omega arith)
same_text (suc n) bs (suc m) cs h k e =
    let here : action_number bs ≡ action_number cs = ap heading e in
    let left = same_text n (drop action_size bs) m (drop action_size cs) (rest_in_range n bs h) (rest_in_range m cs k) (ap behind e) in
    let s = one_action (kind_at bs) (colour_at bs) (move_number_at bs) (kind_at cs) (colour_at cs) (move_number_at cs) (first_in_range n bs h)
    (first_in_range m cs k)
    here in
    record { counts = ap suc left.counts; texts = rw (s.kinds, s.colours, s.moves, left.texts) }
