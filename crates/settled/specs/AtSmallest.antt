-- The call for a text at its smallest.
-- Assumes nothing.
use Rattle.std.specs.Prelude.{◌≡◌, [], ◌∷◌, ℕ, length, replicate}
use Prim.Native.String.{String}
use Rattle.answer.specs.Answer.{too_few_tokens, bad_placement, bad_side, output_too_short, read_as, fault_at}
use Rattle.answer.specs.Ascii.{ascii}
use Rattle.settled.specs.Key.{settled_key, settled_room}
use Rattle.settled.specs.Promises.{key_written}

-- a text is accepted in a room for the longest key, and its settled record is written as the other
abbrev pub Named : String → String → Type 0
Named text key =
    (settled_key (ascii text) 85 ≡ read_as (length (ascii key))) × (key_written (ascii text) (replicate 85 0) ≡ ascii key)

-- a text is refused in a room of no bytes
abbrev pub Faulted : String → ℕ → ℕ → Type 0
Faulted text number offset = settled_key (ascii text) 0 ≡ fault_at number offset

pub record KeyRows : Type 0 where
  -- a file that no pawn can use is not in the key, and the text without it has the same; black to move, then white
  pub cleared : Named "8/8/8/8/4P3/8/8/8 b - e3" "8/8/8/8/4P3/8/8/8 b - - 0 1"
  pub none : Named "8/8/8/8/4P3/8/8/8 b - - 7 20" "8/8/8/8/4P3/8/8/8 b - - 0 1"
  pub whites_cleared : Named "8/8/8/3p4/8/8/8/8 w - d6" "8/8/8/3p4/8/8/8/8 w - - 0 1"
  -- one that a pawn can use is
  pub kept : Named "8/8/8/8/3pP3/8/8/8 b - e3" "8/8/8/8/3pP3/8/8/8 b - e3 0 1"
  pub whites_kept : Named "8/8/8/3pP3/8/8/8/8 w - d6" "8/8/8/3pP3/8/8/8/8 w - d6 0 1"
  -- "18, 19, 20 with their offset", each before 7
  pub few : Faulted "8/8 w -" too_few_tokens 7
  pub placement : Faulted "x x - -" bad_placement 0
  pub side : Faulted "K8 x - -" bad_side 3
  -- "then 7 with the length needed", that of the settled key; and nothing is written
  pub short : settled_key (ascii "8/8/8/8/4P3/8/8/8 b - e3") 26 ≡ record { number = output_too_short; value = 27; offset = 0 }
  pub untouched : settled_room (ascii "8/8/8/8/4P3/8/8/8 b - e3") (1 ∷ 2 ∷ []) ≡ 1 ∷ 2 ∷ []
