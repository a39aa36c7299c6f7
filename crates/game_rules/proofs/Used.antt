-- Two logs whose parts are long enough and agree on the used bytes get the same answers: one is good exactly if the other is, and then both are read as
-- one history.
-- Assumes nothing.
use mathlib.Core.Path.{◌≡◌, refl, ap, sym, ◌∙◌}
use mathlib.Core.Bool.{Bool, true, false, cond, not, ◌&&◌}
use mathlib.Core.List.{List, [], ◌∷◌}
use Prim.Native.Nat.{ℕ, suc, ◌*◌}
use lib.Dec.{eqb}
use lib.ListN.{take}
use borrow.Author.Tests.{eqb-true}
use Rattle.answer.specs.Answer.{accepted, refused}
use Rattle.action.specs.Layout.{action_size}
use Rattle.position.specs.Layout.{position_size}
use Rattle.game_rules.specs.Limits.{Limits}
use Rattle.game_rules.specs.Rules.{Call, History, answer, result, ended, claim_stands, first_refusal}
use Rattle.game_rules.specs.Good.{Holding, Good, history_of, is_good}
use Rattle.game_rules.specs.Calls.{log_check, call_answer, result_answer, claim_answer}
use Rattle.game_rules.specs.Promises.{SameUsed, LooksAtNothingPast}
use Rattle.game_rules.proofs.Checks.{log_says}
use Rattle.game_rules.proofs.Decide.{good_history, good_is_decided}

-- what matters only where a check passed
pub where_passed : {A : Type 0} (a : ℕ) (x y z : A) → (a ≡ 0 → x ≡ y) → cond (eqb a 0) x z ≡ cond (eqb a 0) y z
where_passed a x y z e = go (eqb a 0) refl
  where
    go : (t : Bool) → eqb a 0 ≡ t → cond t x z ≡ cond t y z
    go true k = e (eqb-true a 0 k)
    go false k = refl

one_test : (s t : Bool) → (s ≡ true → t ≡ true) → (t ≡ true → s ≡ true) → s ≡ t
one_test true t f g = sym (f refl)
one_test false true f g = g refl
one_test false false f g = refl

module _ (L : Limits) (acts bacts ps qs : List ℕ) (n m : ℕ) where
  -- the same used bytes hold the same history
  holds_too : take (action_size * n) acts ≡ take (action_size * n) bacts → take (position_size * suc m) ps ≡ take (position_size * suc m) qs
      → (h : History) → Holding acts ps n m h → Holding bacts qs n m h
  holds_too a p h g =
      record {
        action_count = g.action_count;
        move_count = g.move_count;
        action_bytes_fact = sym a ∙ g.action_bytes_fact;
        position_bytes_fact = sym p ∙ g.position_bytes_fact;
      }

  good_too : take (action_size * n) acts ≡ take (action_size * n) bacts → take (position_size * suc m) ps ≡ take (position_size * suc m) qs
      → is_good L acts ps n m ≡ true → is_good L bacts qs n m ≡ true
  good_too a p e = go ((good_is_decided L acts ps n m).0 e)
    where
      go : Good L acts ps n m → is_good L bacts qs n m ≡ true
      go (h, k, g) = (good_is_decided L bacts qs n m).1 (h, k, holds_too a p h g)

module _ (L : Limits) (acts bacts ps qs : List ℕ) (n m : ℕ) (u : SameUsed L acts bacts ps qs n m) where
  one_good : is_good L acts ps n m ≡ is_good L bacts qs n m
  one_good =
      one_test (is_good L acts ps n m) (is_good L bacts qs n m)
      (good_too L acts bacts ps qs n m u.action_bytes_fact u.position_bytes_fact)
      (good_too L bacts acts qs ps n m (sym u.action_bytes_fact) (sym u.position_bytes_fact))

  pub one_check : log_check L bacts qs n m ≡ log_check L acts ps n m
  unfolding log_check
  one_check = rw (u.long, u.also_long, one_good) refl

  pub one_history : log_check L acts ps n m ≡ 0 → history_of acts ps n ≡ history_of bacts qs n
  one_history e = go ((good_is_decided L acts ps n m).0 (log_says L acts ps n m e).good)
    where
      go : Good L acts ps n m → history_of acts ps n ≡ history_of bacts qs n
      go (h, k, g) =
          good_history L acts ps n m h k g
          ∙ sym (good_history L bacts qs n m h k (holds_too L acts bacts ps qs n m u.action_bytes_fact u.position_bytes_fact h g))

  one_answer : (c : Call) → call_answer L acts ps n m c ≡ call_answer L bacts qs n m c
  unfolding call_answer first_refusal
  one_answer c =
      rw one_check
      (where_passed (log_check L acts ps n m) (first_refusal (answer L (history_of acts ps n) c ∷ [])) (first_refusal (answer L (history_of bacts qs n) c ∷ []))
      (log_check L acts ps n m)
      (λ e. ap (λ (h : History). first_refusal (answer L h c ∷ [])) (one_history e)))

  one_result : result_answer L acts ps n m ≡ result_answer L bacts qs n m
  unfolding result_answer
  one_result =
      rw one_check
      (where_passed (log_check L acts ps n m) (accepted (result (history_of acts ps n))) (accepted (result (history_of bacts qs n)))
      (refused (log_check L acts ps n m))
      (λ e. ap (λ (h : History). accepted (result h)) (one_history e)))

  one_claim : claim_answer L acts ps n m ≡ claim_answer L bacts qs n m
  unfolding claim_answer
  one_claim =
      rw one_check
      (where_passed (log_check L acts ps n m)
      (accepted (cond (not (ended (history_of acts ps n)) && claim_stands (history_of acts ps n)) 1 0))
      (accepted (cond (not (ended (history_of bacts qs n)) && claim_stands (history_of bacts qs n)) 1 0))
      (refused (log_check L acts ps n m))
      (λ e. ap (λ (h : History). accepted (cond (not (ended h) && claim_stands h) 1 0)) (one_history e)))

pub looks_at_nothing_past : LooksAtNothingPast
looks_at_nothing_past L acts bacts ps qs n m u =
    record {
      to_call = one_answer L acts bacts ps qs n m u;
      to_result = one_result L acts bacts ps qs n m u;
      to_claim = one_claim L acts bacts ps qs n m u;
    }
