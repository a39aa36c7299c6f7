-- What a look at a roll that hands out no action answers: the reader's number, or 0 with how many actions the roll has and its start's counters; zeros
-- beside a refusal.
-- Assumes nothing.
use Rattle.roll_text.specs.Roll.{Rolled, refusal, rolled}
use Rattle.roll_reader.specs.declared.Checked.{Checked}

unfoldable pub checked : Rolled → Checked
checked (refusal k) = record { number = k; actions = 0; half_moves = 0; full_moves = 0 }
checked (rolled st n bs) = record { number = 0; actions = n; half_moves = st.half; full_moves = st.full }
