-- What a host may do with its list (document 02, order 13), for any reader and namer; the proofs are in proofs/, over any form, and so for both that
-- there are.
-- Assumes nothing.
use Rattle.std.specs.Prelude.{ℕ, ◌≤◌, ◌≡◌, true, List, ◌⊎◌, length, take}
use Rattle.answer.specs.Answer.{accepted, refused, invalid_san_move, no_name}
use Rattle.answer.specs.Numbers.{among}
use Rattle.board_builder.specs.declared.BoardBuilder.{BoardBuilder}
use Rattle.move_list.specs.MoveList.{list_in_range}
use Rattle.san_text.specs.Text.{king_side_text, queen_side_text}
use Rattle.san_lists.specs.Lists.{Reordered, Within}
use Rattle.san_lists.specs.Calls.{Calls}

-- "a list in another order gives the same move and the same name": the same answer, refusals included, and the same bytes in the room
pub record AnyOrder (c : Calls) : Type 0 where
  pub read : (b : BoardBuilder) (l k text : List ℕ) → Reordered l k → c.read b l text ≡ c.read b k text
  pub answer : (b : BoardBuilder) (l k : List ℕ) (m room : ℕ) → Reordered l k → c.name.answer b l m room ≡ c.name.answer b k m room
  pub room : (b : BoardBuilder) (l k : List ℕ) (m : ℕ) (out : List ℕ) → Reordered l k → c.name.room b l m out ≡ c.name.room b k m out

-- "removing entries other than the resolved move never changes an accepted answer": what is left has that move, and is within the list as it was
abbrev pub RemovingKeeps : Calls → Type 0
RemovingKeeps c =
    (b : BoardBuilder) (whole left text : List ℕ) (m : ℕ) → Within left whole → among m left ≡ true
    → c.read b whole text ≡ accepted m → c.read b left text ≡ accepted m

-- "adding entries in range, up to 255 in all, leaves that move or refuses with 4"
abbrev pub AddingKeepsOrRefuses : Calls → Type 0
AddingKeepsOrRefuses c =
    (b : BoardBuilder) (l more text : List ℕ) (m : ℕ) → Within l more → list_in_range more ≡ true
    → c.read b l text ≡ accepted m → (c.read b more text ≡ accepted m) ⊎ (c.read b more text ≡ refused invalid_san_move)

-- ---- names, when entries are removed. The name may change; what holds is this

-- the name on the whole list is read as the move on what is left
abbrev pub OldNamesRead : Calls → Type 0
OldNamesRead c =
    (b : BoardBuilder) (whole left : List ℕ) (m : ℕ) (out : List ℕ) → Within left whole → among m left ≡ true
    → (c.name.answer b whole m (length out)).number ≡ 0
    → c.read b left (take (c.name.answer b whole m (length out)).value (c.name.room b whole m out)) ≡ accepted m

-- a move that has no name on a list has none on a longer one, so one that has a name keeps one
abbrev pub AddingNamesNone : Calls → Type 0
AddingNamesNone c =
    (b : BoardBuilder) (l more : List ℕ) (m room : ℕ) → Within l more → list_in_range more ≡ true
    → (c.name.answer b l m room).number ≡ no_name → (c.name.answer b more m room).number ≡ no_name

-- the name on what is left fits the room that was long enough, and has no more bytes
pub record NameNoLonger (c : Calls) (b : BoardBuilder) (whole left : List ℕ) (m room : ℕ) : Type 0 where
  pub number : (c.name.answer b left m room).number ≡ 0
  pub value : (c.name.answer b left m room).value ≤ (c.name.answer b whole m room).value

abbrev pub NamesGetNoLonger : Calls → Type 0
NamesGetNoLonger c =
    (b : BoardBuilder) (whole left : List ℕ) (m room : ℕ) → Within left whole → among m left ≡ true
    → (c.name.answer b whole m room).number ≡ 0 → NameNoLonger c b whole left m room

-- or the name on the whole list was a castling text: document 01's last resort
abbrev pub WasCastling : Calls → BoardBuilder → List ℕ → ℕ → List ℕ → Type 0
WasCastling c b whole m out =
    (take (c.name.answer b whole m (length out)).value (c.name.room b whole m out) ≡ king_side_text)
    ⊎ (take (c.name.answer b whole m (length out)).value (c.name.room b whole m out) ≡ queen_side_text)

abbrev pub NoLongerOrWasCastling : Calls → Type 0
NoLongerOrWasCastling c =
    (b : BoardBuilder) (whole left : List ℕ) (m : ℕ) (out : List ℕ) → Within left whole → among m left ≡ true
    → (c.name.answer b whole m (length out)).number ≡ 0 → NameNoLonger c b whole left m (length out) ⊎ WasCastling c b whole m out
