-- The order's sentences on the smallest lists, and what does not hold: white knights on b1 and e2 that both go to c3 (1153 and 1164).
-- Assumes nothing.
use Rattle.std.specs.Prelude.{ℕ, ◌≡◌, List, [], ◌∷◌, length, replicate, take}
use Prim.Native.String.{String}
use Rattle.answer.specs.Answer.{accepted, refused, invalid_san_move, bad_list, not_listed, no_name, too_short}
use Rattle.answer.specs.Ascii.{ascii}
use Rattle.board_builder.specs.declared.BoardBuilder.{BoardBuilder}
use Rattle.board_builder.specs.Steps.{with_piece}
use Rattle.san_text.specs.Slips.{knight, knights, rook}
use Rattle.san_lists.specs.Lists.{occurrences, Reordered}
use Rattle.san_lists.specs.Calls.{Calls, calls_of, paper_calls, standard_calls}
use Rattle.san_text.specs.Paper.{paper}
use Rattle.san_text.specs.Standard.{standard}

-- a text is read as the move, or refused with 4; a move is named so, in a room of eleven bytes
abbrev pub Reads : Calls → BoardBuilder → List ℕ → String → ℕ → Type 0
Reads c b moves text m = c.read b moves (ascii text) ≡ accepted m

abbrev pub Refuses : Calls → BoardBuilder → List ℕ → String → Type 0
Refuses c b moves text = c.read b moves (ascii text) ≡ refused invalid_san_move

pub record Named (c : Calls) (b : BoardBuilder) (moves : List ℕ) (m : ℕ) (name : String) : Type 0 where
  pub answer : c.name.answer b moves m 11 ≡ accepted (length (ascii name))
  pub text : take (length (ascii name)) (c.name.room b moves m (replicate 11 0)) ≡ ascii name

-- one list and the same in another order, one entry of the two, and the same entry twice
abbrev pub two_entries : List ℕ
two_entries = 1153 ∷ 1164 ∷ []

abbrev pub entries_turned : List ℕ
entries_turned = 1164 ∷ 1153 ∷ []

abbrev pub one_entry : List ℕ
one_entry = 1153 ∷ []

abbrev pub twice : List ℕ
twice = 1153 ∷ 1153 ∷ []

-- how often a number stands in a list; one entry is not the same entry twice in another order
pub record ListsAtSmallest : Type 0 where
  pub not_there : occurrences 1164 one_entry ≡ 0
  pub once : occurrences 1153 two_entries ≡ 1
  pub counted_each : occurrences 1153 twice ≡ 2
  pub not_reordered : Reordered one_entry twice → ⊥

-- for either form
pub record InOneForm (c : Calls) : Type 0 where
  -- another order: the same move, the same name, the same refusals
  pub read : (Reads c knights two_entries "Nbc3" 1153) × (Reads c knights entries_turned "Nbc3" 1153)
  pub not_alone : (Refuses c knights two_entries "Nc3") × (Refuses c knights entries_turned "Nc3")
  pub named : (Named c knights two_entries 1153 "Nbc3") × (Named c knights entries_turned 1153 "Nbc3")
  pub too_short_fact : (c.name.answer knights two_entries 1153 3 ≡ too_short 4) × (c.name.answer knights entries_turned 1153 3 ≡ too_short 4)
  pub not_listed_fact : (c.name.answer knights two_entries 0 11 ≡ refused not_listed) × (c.name.answer knights entries_turned 0 11 ≡ refused not_listed)
  pub unnamed : (c.name.answer knights (1153 ∷ two_entries) 1153 11 ≡ refused no_name)
      × (c.name.answer knights (1153 ∷ entries_turned) 1153 11 ≡ refused no_name)
  -- an entry removed: the same move, and the name may be shorter
  pub left : Reads c knights one_entry "Nbc3" 1153
  pub shorter : Named c knights one_entry 1153 "Nc3"
  -- the resolved move is the one entry that must stay: without it the text is refused, or read as another
  pub all_gone : Refuses c knights (1164 ∷ []) "Nbc3"
  -- an entry removed may make a refused text a good one
  pub refused_no_more : Reads c knights one_entry "Nc3" 1153
  -- an entry added: the same move, or 4, also for the same entry once more
  pub kept : (Reads c knight one_entry "Nc3" 1153) × (Reads c knight (0 ∷ one_entry) "Nc3" 1153)
  pub one_too_many : Refuses c knights two_entries "Nc3"
  pub same_again : Refuses c knight twice "Nc3"
  -- 255 entries in all, and one more
  pub full : Reads c knight (1153 ∷ replicate 254 0) "Nc3" 1153
  pub over_full : c.read knight (1153 ∷ replicate 255 0) (ascii "Nc3") ≡ refused bad_list

pub record AtSmallest : Type 0 where
  pub lists : ListsAtSmallest
  -- for any form's calls, as proofs/ has them, and by the names that the contracts cite
  pub paper_form : InOneForm (calls_of paper)
  pub standard_form : InOneForm (calls_of standard)
  -- a name that gets longer when an entry is removed: a rook on e1, a man on g1, its move there listed twice and once
  pub castling : Named paper_calls (with_piece rook 6 7) (388 ∷ 388 ∷ []) 388 "O-O"
  pub longer : Named paper_calls (with_piece rook 6 7) (388 ∷ []) 388 "Rxg1"
  -- in the standard's form that move has no name while it is listed twice
  pub none_then : standard_calls.name.answer (with_piece rook 6 7) (388 ∷ 388 ∷ []) 388 11 ≡ refused no_name
  pub named_now : Named standard_calls (with_piece rook 6 7) (388 ∷ []) 388 "Rxg1"
