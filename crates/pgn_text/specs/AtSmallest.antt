-- Texts and places at their smallest, with their answers: a row or more for each sentence of the order and of what was settled about it.
-- Assumes nothing.
use Rattle.std.specs.Prelude.{ℕ, ◌≡◌}
use Prim.Native.String.{String}
use Rattle.answer.specs.Ascii.{ascii}
use Rattle.pgn_text.specs.Walk.{check, next_move}

-- a text that is accepted, with its number of moves
abbrev pub Accepts : String → ℕ → Type 0
Accepts text moves = check (ascii text) ≡ record { number = 0; offset = 0; moves = moves }

-- a text that is refused, with the number and its offset
abbrev pub Refuses : String → ℕ → ℕ → Type 0
Refuses text number at = check (ascii text) ≡ record { number = number; offset = at; moves = 0 }

-- an answer without a move: the number and the offset
abbrev pub NoMove : String → ℕ → ℕ → ℕ → ℕ → Type 0
NoMove text offset level number at =
    next_move (ascii text) offset level ≡ record { number = number; offset = at; found = 0; start = 0; length = 0; level = 0 }

-- a move's start, length and level
abbrev pub NextMove : String → ℕ → ℕ → ℕ → ℕ → ℕ → Type 0
NextMove text offset level start size at_level =
    next_move (ascii text) offset level ≡ record { number = 0; offset = 0; found = 1; start = start; length = size; level = at_level }

pub record TokensAtSmallest : Type 0 where
  -- move numbers: digits, then any periods; a period that follows no digits is unknown
  pub numbers : (Accepts "1" 0) × (Accepts "12...e4" 1) × (Refuses "." 23 0) × (Refuses "1. .e4" 23 3)
  -- moves: the bytes that start one, and the bytes that continue one
  pub starts : (Accepts "a b c d e f g h N B R Q K O" 14) × (Refuses "i" 23 0) × (Refuses "P" 23 0) × (Refuses "x" 23 0) × (Refuses "-" 23 0)
  pub runs : (Accepts "e8=Q+!? exd6# O-O-O KzZ09" 4) × (Refuses "e4." 23 2)
  -- the letters at their edges: `A` and `a` continue a move, the bytes before them and behind `Z` do not, and none of those before `a` starts one
  pub letters : (Accepts "eA aa" 2) × (Refuses "e@" 23 1) × (Refuses "e[" 23 1) × (Refuses "e`" 23 1) × (Refuses "`" 23 0)
  -- and `:`, the byte behind `9`, is no digit
  pub colon : Refuses "1:" 23 1
  -- comments: a brace comment to its brace, not nested; a semicolon comment to LF or the end; brackets in them are not counted
  pub braces : (Accepts "{(} e4 {)}" 1) × (Accepts "e4{}e5" 2) × (Refuses "{{}}" 23 3) × (Refuses "}" 23 0) × (Refuses "e4 {e5" 21 3)
  pub lines : (Accepts "; (e4" 0) × (Accepts "e4 ;{e5" 1)
  -- white space is space, tab, CR and LF; a semicolon comment ends at LF and not at CR, and what stands right behind LF is read
  pub breaks : (Accepts "e4 ;x\ne5" 2) × (Accepts "e4\te5\r\ne6\rd4\nd5" 5) × (Accepts ";x\re4" 0) × (Accepts ";x\te4" 0)
  -- `$` and digits; `$` without a digit is unknown, at the `$`
  pub glyphs : (Accepts "e4$1$23" 1) × (Refuses "e4 $" 23 3) × (Refuses "$e4" 23 0)
  -- results: tried at the place itself, before numbers, without a look at what follows; outside brackets one ends the walk
  pub results : (Accepts "e4 1-0 )}" 1) × (Accepts "0-1 e4" 0) × (Accepts "1/2-1/2x" 0) × (Accepts "* $" 0) × (Accepts "1-00" 0)
  pub no_results : (Refuses "10-1" 23 2) × (Refuses "1/2" 23 1) × (Refuses "0-2" 23 1) × (Refuses "2-0" 23 1)
  pub in_brackets : (Refuses "(*)" 23 1) × (Refuses "(e4 1-0)" 23 4)

pub record LevelsAtSmallest : Type 0 where
  -- variations hold sequences, and sequences variations
  pub nested : (Accepts "" 0) × (Accepts "()" 0) × (Accepts "e4 (d4 (c4) d5) e5" 5) × (Refuses "e4 )" 23 3)
  -- down to 8 levels: the bracket that would open the ninth is refused, whatever follows
  pub deep : (Accepts "((((((((e4))))))))" 1) × (Refuses "(((((((((" 22 8) × (Refuses "e4 ((((((((e5 ( }" 22 14)
  -- the first refusal from the left; if the end is reached, the innermost that is left open
  pub left_first : (Refuses "e4 % (" 23 3) × (Refuses "(((((((((}" 22 8)
  pub left_open_fact : (Refuses "( (e4" 21 2) × (Refuses "((e4)" 21 0) × (Refuses "(e4 {x" 21 4) × (Refuses "(e4 ;)" 21 0)

pub record PlacesAtSmallest : Type 0 where
  -- from place to place, in text order: behind a move, its end at its level; and then none is left
  pub from_start : (NextMove "e4 (d4) e5" 0 0 0 2 0) × (NextMove "e4 (d4) e5" 2 0 4 2 1) × (NextMove "e4 (d4) e5" 6 1 8 2 0) × (NoMove "e4 (d4) e5" 10 0 0 0)
  -- as if the text began there: in a move, in a comment
  pub as_if_begun : (NextMove "Nbd2" 1 0 1 3 0) × (NextMove "{e4}" 1 0 1 2 0) × (NoMove "{e4}" 3 0 23 3)
  -- the level of a place is first, then its offset; an offset equal to the length is not a fault
  pub no_place : (NoMove "e4" 5 9 22 5) × (NoMove "e4" 3 8 23 3) × (NoMove "e4" 2 0 0 0) × (NoMove "" 1 0 23 1)
  -- a bracket opened before the place has the place's offset, one opened behind it its own
  pub open_before : (NoMove "e4 1." 2 1 21 2) × (NoMove "e4 (" 2 1 21 3) × (NoMove "e4 {" 2 1 21 3) × (NoMove "e4 ()" 2 1 21 2)
  pub closed_before : (NoMove "e4 )))" 2 2 23 5) × (NoMove "e4 ) *" 2 1 0 0) × (NoMove "e4 *" 2 1 23 3)
  -- a place at level 8 is the deepest that there is, and a bracket there is too deep
  pub at_deepest : (NextMove "e4" 0 8 0 2 8) × (NoMove "(e4" 0 8 22 0)
  -- nothing behind the move is looked at
  pub not_looked_at : (NextMove "e4 }" 0 0 0 2 0) × (NextMove "e4(((((((((" 0 0 0 2 0)
