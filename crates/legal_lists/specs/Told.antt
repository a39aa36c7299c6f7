-- What a judgement tells of a list that is not right: the first thing that is wrong, in the order 1 to 4, and the entry or the move.
-- Assumes nothing.
use Rattle.std.specs.Prelude.{ℕ, ◌≤◌, ◌<◌, ◌≡◌, true, false, List, ◌∷◌, ◌++◌, length}
use Rattle.answer.specs.Numbers.{among}
use Rattle.board_builder.specs.declared.BoardBuilder.{BoardBuilder}
use Rattle.san_lists.specs.Lists.{occurrences, Reordered}
use Rattle.move_laws.specs.declared.Judged.{Judged}
use Rattle.move_laws.specs.Legal.{legal_moves, check_byte}
use Rattle.move_laws.specs.Judge.{judged_answer}

-- 1: the first entry that is not legal
pub record FirstNotLegal (legal list : List ℕ) (m : ℕ) : Type 0 where
  pub earlier : List ℕ
  pub later : List ℕ
  pub stands : list ≡ earlier ++ (m ∷ later)
  pub earlier_legal : (k : ℕ) → among k earlier ≡ true → among k legal ≡ true
  pub not_legal : among m legal ≡ false

-- 2: the first entry that comes again
pub record FirstTwice (list : List ℕ) (m : ℕ) : Type 0 where
  pub earlier : List ℕ
  pub later : List ℕ
  pub stands : list ≡ earlier ++ (m ∷ later)
  pub earlier_once : (k : ℕ) → among k earlier ≡ true → occurrences k list ≤ 1
  pub again : among m later ≡ true

-- 3: the smallest legal move that is missing
pub record SmallestMissing (legal list : List ℕ) (m : ℕ) : Type 0 where
  pub is_legal : among m legal ≡ true
  pub missing : among m list ≡ false
  pub smallest : (k : ℕ) → k < m → among k legal ≡ true → among k list ≡ true

-- in this order: beside 2 every entry is legal, beside 3 each stands there once too, and beside 4 the list is that which is owed
pub record Told (b : BoardBuilder) (byte : ℕ) (list : List ℕ) (j : Judged) : Type 0 where
  pub byte_told : j.in_check ≡ check_byte b
  pub entries_told : j.entries ≡ length (legal_moves b)
  pub first : j.wrong ≡ 1 → FirstNotLegal (legal_moves b) list j.named
  pub second : j.wrong ≡ 2 → FirstTwice list j.named
  pub third : j.wrong ≡ 3 → SmallestMissing (legal_moves b) list j.named
  pub fourth : j.wrong ≡ 4 → byte ≡ check_byte b → ⊥
  pub no_other : j.wrong ≤ 4
  pub behind_first : 2 ≤ j.wrong → (k : ℕ) → among k list ≡ true → among k (legal_moves b) ≡ true
  pub behind_second : 3 ≤ j.wrong → (k : ℕ) → occurrences k list ≤ 1
  pub behind_third : j.wrong ≡ 4 → Reordered list (legal_moves b)

abbrev pub JudgementsTell : Type 0
JudgementsTell = (b : BoardBuilder) (byte : ℕ) (list : List ℕ) → (judged_answer b byte list).number ≡ 0 → Told b byte list (judged_answer b byte list)
