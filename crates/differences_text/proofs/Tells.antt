-- The text that is written tells exactly what differs, and behind it the room is as it was.
-- Assumes nothing.
use mathlib.Core.Path.{◌≡◌, ap, ap₂, ◌∙◌}
use mathlib.Core.List.{List, ◌++◌, map}
use Prim.Native.Nat.{ℕ}
use lib.ListN.{length, take, drop}
use Rattle.answer.proofs.Writes.{accepted_writes_its_text}
use Rattle.game_rules.specs.Limits.{Limits}
use Rattle.roll_text.specs.Roll.{Start, rolled, read_roll}
use Rattle.differences_text.specs.Differences.{Difference, start_numbers, action_numbers, action_difference, lines_text}
use Rattle.differences_text.specs.Calls.{differences, roll_differences, differences_check, differences_text}
use Rattle.differences_text.specs.Promises.{teller, lines_written, Lines, lines_of, swapped, TellsWhatDiffers}
use Rattle.differences_text.proofs.Lines.{start_numbers_long}
use Rattle.differences_text.proofs.Games.{Read, read_roll_lem}
use Rattle.differences_text.proofs.Told.{places, start_told, start_lines_lem, some_numbers, actions_told, swap_games}

-- the lines of two games
module _ (L : Limits) (s t : List ℕ) (st : Start) (n : ℕ) (bs : List ℕ) (other : Start) (m : ℕ) (cs : List ℕ)
    (a : Read L s st n bs) (b : Read L t other m cs) where
  lines : Lines (start_numbers st) (action_numbers n bs) (start_numbers other) (action_numbers m cs)
  lines =
      record {
        start = places 0 (start_numbers st) (start_numbers other);
        action = action_difference 0 (action_numbers n bs) (action_numbers m cs);
        start_told =
            start_told (start_numbers st) (start_numbers other) (start_numbers_long st a.numbers) (start_numbers_long other b.numbers);
        action_told = actions_told (action_numbers n bs) (action_numbers m cs) (some_numbers n bs a.held) (some_numbers m cs b.held);
      }

  lines_are : differences (rolled st n bs) (rolled other m cs) ≡ lines_of lines
  unfolding differences lines
  lines_are =
      ap (λ (ds : List Difference). ds ++ action_difference 0 (action_numbers n bs) (action_numbers m cs))
      (start_lines_lem (start_numbers st) (start_numbers other))

-- what an accepted call wrote is its text
text_wrote : (L : Limits) (s t out : List ℕ) → ((teller L).answer s t (length out)).number ≡ 0 → lines_written (teller L) s t out ≡ differences_text L s t
text_wrote L s t out e =
    let w = accepted_writes_its_text (differences_check L s t) (differences_text L s t) out e in
    ap (λ (k : ℕ). take k ((teller L).room s t out)) w.long ∙ w.front

behind_it : (L : Limits) (s t out : List ℕ) → ((teller L).answer s t (length out)).number ≡ 0
    → drop ((teller L).answer s t (length out)).value ((teller L).room s t out) ≡ drop ((teller L).answer s t (length out)).value out
behind_it L s t out e =
    let w = accepted_writes_its_text (differences_check L s t) (differences_text L s t) out e in
    rw w.long w.behind

pub tells_what_differs : TellsWhatDiffers
unfolding differences_text
tells_what_differs L s t out st n bs other m cs small tiny e f passes back =
    let a = read_roll_lem L s st n bs small e in
    let b = read_roll_lem L t other m cs tiny f in
    let all = lines L s t st n bs other m cs a b in
    let are : roll_differences L s t ≡ lines_of all = ap₂ differences e f ∙ lines_are L s t st n bs other m cs a b in
    record {
      lines = all;
      text = text_wrote L s t out passes ∙ ap lines_text are;
      behind = behind_it L s t out passes;
      other_way =
          text_wrote L t s out back
          ∙ ap lines_text (swap_games (read_roll L s) (read_roll L t) ∙ ap (map swapped) are);
    }
