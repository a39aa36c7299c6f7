-- What is promised about equal positions, each as a statement that can be read by itself.
-- Assumes nothing.
use Rattle.std.specs.Prelude.{◌≡◌, true, List, ℕ, ◌+◌, ◌*◌, ◌≤◌, ◌<◌, length, take}
use Rattle.position.specs.Layout.{Position, position_size, position_at}
use Rattle.position.specs.Repeats.{equal, equals_two_earlier}

-- equal: the same record and the same list in order
pub record Alike (p q : Position) : Type 0 where
  pub boards : p.board ≡ q.board
  pub lists : p.moves ≡ q.moves

abbrev pub EqualIsAlike : Type 0
EqualIsAlike = (p q : Position) → equal p q ≡ true → Alike p q

abbrev pub AlikeIsEqual : Type 0
AlikeIsEqual = (p q : Position) → Alike p q → equal p q ≡ true

-- the last position lies in the part and equals two earlier ones, none before `first`
pub record TwoEarlier (ps : List ℕ) (first last : ℕ) : Type 0 where
  pub i : ℕ
  pub j : ℕ
  pub from_first : first ≤ i
  pub apart : i < j
  pub earlier : j < last
  pub i_equal : equal (position_at ps i) (position_at ps last) ≡ true
  pub j_equal : equal (position_at ps j) (position_at ps last) ≡ true
  pub inside : position_size * last + position_size ≤ length ps

abbrev pub FindsTwo : Type 0
FindsTwo = (ps : List ℕ) (first last : ℕ) → equals_two_earlier ps first last ≡ true → TwoEarlier ps first last

abbrev pub TwoAreFound : Type 0
TwoAreFound = (ps : List ℕ) (first last : ℕ) → TwoEarlier ps first last → equals_two_earlier ps first last ≡ true

-- nothing past the last position is looked at
abbrev pub used_to : ℕ → ℕ
used_to last = position_size * last + position_size

abbrev pub LooksAtNothingPast : Type 0
LooksAtNothingPast = (ps qs : List ℕ) (first last : ℕ) → used_to last ≤ length ps → used_to last ≤ length qs →
    take (used_to last) ps ≡ take (used_to last) qs → equals_two_earlier ps first last ≡ equals_two_earlier qs first last
