-- How the reader counts the entries that fit: those that go to the text's square with its promotion first, then the man on the source. For its inner
-- functions; the public contract does not speak of this.
-- Assumes nothing.
use Rattle.std.specs.Prelude.{ℕ, ◌+◌, ◌/◌, ◌%◌, ◌<◌, ◌≡◌, Bool, true, false, cond, ◌&&◌, List, eqb, Some, None}
use Rattle.answer.specs.declared.Answer.{Answer}
use Rattle.board_builder.specs.declared.BoardBuilder.{BoardBuilder}
use Rattle.board_builder.specs.BoardBuilder.{board}
use Rattle.chess_move.specs.Number.{source_of}
use Rattle.move_list.specs.MoveList.{count, first_of}
use Rattle.san_text.specs.declared.San.{San}
use Rattle.san_text.specs.declared.SanText.TheVariants.{KingSide, QueenSide, Move}
use Rattle.san_text.specs.Text.{Said}
use Rattle.san_text.specs.Resolve.{kind_on, agrees, fits, sole_that}
use Rattle.san_text.specs.Forms.{form_of}
use Rattle.san.specs.declared.resolve.Fitting.{Fitting}

-- a record with this side and these squares; what a text resolves to depends on no other part of a record
abbrev pub board_with : ℕ → List ℕ → BoardBuilder
board_with side pieces = board pieces side 0 0 0

-- piece kind, file and rank of the source agree
unfoldable pub source_fits : List ℕ → San → ℕ → Bool
source_fits pieces t m =
    eqb (kind_on pieces (source_of m)) t.piece && (agrees t.file (source_of m % 8 + 1) && agrees t.rank (source_of m / 8 + 1))

-- the count and the first so far, whether the next entry fits, and the entry
unfoldable pub with_entry : Fitting → Bool → ℕ → Fitting
with_entry f true m = record { count = f.count + 1; first = cond (eqb f.count 0) m f.first }
with_entry f false m = f

-- the count and the first of the entries that fit
pub record Counted (pieces : List ℕ) (t : San) (moves : List ℕ) (f : Fitting) : Type 0 where
  pub counts : f.count ≡ count (fits pieces t) moves
  pub first : f.first ≡ first_of (fits pieces t) moves

-- in the form that the flag says
abbrev pub sole_move : Bool → List ℕ → San → List ℕ → Answer
sole_move form pieces t moves = sole_that (fits pieces t) ((form_of form).captures pieces t) moves

-- what a text can say: a destination is a square
abbrev pub Sayable : Said → Type 0
Sayable (Some KingSide) = Unit {0}
Sayable (Some QueenSide) = Unit {0}
Sayable (Some (Move t)) = t.dest < 64
Sayable None = Unit {0}
