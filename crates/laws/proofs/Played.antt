-- Both queries answer for the calls that made the log, and look at nothing past its used part.
-- Assumes nothing.
use mathlib.Core.Path.{◌≡◌, refl, ap}
use mathlib.Core.Bool.{cond, not, ◌&&◌}
use mathlib.Core.List.{List}
use Prim.Native.Nat.{ℕ}
use Rattle.answer.specs.Answer.{accepted, refused}
use Rattle.game_rules.specs.Limits.{Limits}
use Rattle.game_rules.specs.Rules.{History, ended}
use Rattle.game_rules.specs.Good.{history_of}
use Rattle.game_rules.specs.Calls.{log_check}
use Rattle.game_rules.specs.Promises.{SameUsed}
use Rattle.game_rules.proofs.Decide.{good_history}
use Rattle.game_rules.proofs.Plays.{held_passes}
use Rattle.game_rules.proofs.Used.{where_passed, one_check, one_history}
use Rattle.laws.specs.Laws.{laws_claim_stands}
use Rattle.laws.specs.Ruling.{ruled_on, not_ruled, ruling_answer, laws_answer}
use Rattle.laws.specs.Promises.{EveryLogIsRuledAsPlayed, LooksAtNothingPast}

pub every_log_is_ruled_as_played : EveryLogIsRuledAsPlayed
unfolding ruling_answer laws_answer
every_log_is_ruled_as_played L acts ps n m h long a g =
    let passed : log_check L acts ps n m ≡ 0 = held_passes L acts ps n m h a g long in
    let one : history_of acts ps n ≡ h = good_history L acts ps n m h a g in
    record { ruling_told = rw (passed, one) refl; laws_told = rw (passed, one) refl }

module _ (L : Limits) (acts bacts ps qs : List ℕ) (n m : ℕ) (u : SameUsed L acts bacts ps qs n m) where
  check : log_check L bacts qs n m ≡ log_check L acts ps n m
  check = one_check L acts bacts ps qs n m u

  history : log_check L acts ps n m ≡ 0 → history_of acts ps n ≡ history_of bacts qs n
  history = one_history L acts bacts ps qs n m u

  one_ruling : ruling_answer L acts ps n m ≡ ruling_answer L bacts qs n m
  unfolding ruling_answer
  one_ruling =
      rw check
      (where_passed (log_check L acts ps n m) (ruled_on (history_of acts ps n)) (ruled_on (history_of bacts qs n)) (not_ruled (log_check L acts ps n m))
      (λ e. ap ruled_on (history e)))

  one_laws : laws_answer L acts ps n m ≡ laws_answer L bacts qs n m
  unfolding laws_answer
  one_laws =
      rw check
      (where_passed (log_check L acts ps n m)
      (accepted (cond (not (ended (history_of acts ps n)) && laws_claim_stands (history_of acts ps n)) 1 0))
      (accepted (cond (not (ended (history_of bacts qs n)) && laws_claim_stands (history_of bacts qs n)) 1 0))
      (refused (log_check L acts ps n m))
      (λ e. ap (λ (h : History). accepted (cond (not (ended h) && laws_claim_stands h) 1 0)) (history e)))

pub looks_at_nothing_past : LooksAtNothingPast
looks_at_nothing_past L acts bacts ps qs n m u =
    record { to_ruling = one_ruling L acts bacts ps qs n m u; to_laws = one_laws L acts bacts ps qs n m u }
