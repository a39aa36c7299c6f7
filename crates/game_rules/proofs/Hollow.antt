-- A log that stores its first action and merely says yes to later ones. Begun on empty parts, it stores one offer. Then it says yes to a resignation: its
-- action is not there, and whatever is counted after it, the result query does not say that White resigned. Where it counts on, the log that it leaves is
-- not good; where it gives back the counts that it was given, it is the good log from before.
-- Assumes nothing.
use mathlib.Core.Path.{◌≡◌, refl, ap, sym, ◌∙◌}
use mathlib.Core.Bool.{Bool, true, false, cond, not, ◌&&◌, false≢true}
use mathlib.Core.List.{List, [], ◌∷◌}
use Prim.Native.Nat.{ℕ, ◌*◌, ◌≤◌, ◌<◌}
use native.Mathlib.Omega.{arith}
use lib.Dec.{T, eqb, leb}
use lib.ListN.{replicate, take, get_or}
use borrow.Author.Tests.{eqb-true, eq-eqb, leb-true}
use Rattle.answer.specs.declared.Answer.{Answer}
use Rattle.answer.specs.Answer.{accepted}
use Rattle.answer.specs.Numbers.{same, all_at_most}
use Rattle.answer.proofs.Below.{every, fails, below}
use Rattle.answer.proofs.Numbers.{both_left, both_right}
use Rattle.board_builder.specs.BoardBuilder.{record_size, in_range, numbers_in_range}
use Rattle.move_list.specs.MoveList.{list_in_range}
use Rattle.action.specs.Layout.{action_size, action_bytes, action_of}
use Rattle.actions.specs.Part.{moves_in}
use Rattle.position.specs.Layout.{Position, moves_from, position_of}
use Rattle.stored_position.specs.Bytes.{move_bytes, position_bytes, position_check, is_position}
use Rattle.ending.specs.Ending.{result_of}
use Rattle.game_rules.specs.Limits.{Limits, actions_length, positions_length}
use Rattle.game_rules.specs.Rules.{History, begun, after, offer_draw, resign, current, actions, moves, last_made, result, first_refusal, answer}
use Rattle.game_rules.specs.Good.{Accepted, action_part, position_part, Holding, call_at, history_of, next_sound, sound, is_good}
use Rattle.game_rules.specs.Calls.{log_check, call_answer, counts, counts_after, actions_after, positions_after}
use Rattle.game_rules.specs.Calls.{start_answer, positions_begun, accepted_unless, result_answer}
use Rattle.game_rules.specs.Promises.{Left, called, started, GoodLeft, FirstOnlyIsHollow, CountingOnIsNotGood, SameCountsKeepGood}
use Rattle.game_rules.proofs.Checks.{log_says}
use Rattle.game_rules.proofs.Decide.{good_is_decided}
use Rattle.game_rules.proofs.Keeps.{keeps_good}

-- limits of two actions and no move, and an empty board with one move in its list
abbrev few : Limits
few = record { most_actions = 2; most_moves = 0 }

abbrev bare : Position
bare = record { board = replicate record_size 0; half = 0; full = 1; check = 0; moves = 0 ∷ [] }

-- the log after the start, and after the first offer, which is stored
abbrev at_start : Left
at_start = started few (replicate (actions_length few) 0) (replicate (positions_length few) 0) bare

abbrev offered : Left
offered = called few at_start.acts at_start.ps at_start.counts.actions at_start.counts.moves (offer_draw 0)

abbrev history : History
history = after (begun bare) (offer_draw 0)

-- the calls made: the offer, and the resignation that gets a yes
abbrev resigned : History
resigned = after history (resign 0)

-- an answer 0 with the resignation's result, and the result query answers so for the log that is left, with k actions counted
says_resigned : Answer → Bool
says_resigned a = eqb a.number 0 && eqb a.value (result resigned)

told_so : ℕ → Bool
told_so k = says_resigned (result_answer few offered.acts offered.ps k 0)

-- what is computed: the offer is in the log, a resignation is not, no counts within the limits make the result query say so, and two actions are not good
record Seen : Type 0 where
  was_accepted : Accepted few history
  is_held : Holding offered.acts offered.ps 1 0 history
  two : actions resigned ≡ 2
  wanted : get_or (action_part resigned) action_size 0 ≡ 5
  not_there : get_or (take (action_size * 2) offered.acts) action_size 0 ≡ 0
  not_told : T (every (λ (k : ℕ). not (told_so k)) 3)
  not_good_lem : is_good few offered.acts offered.ps 2 0 ≡ false

seen : Seen
unfolding same all_at_most in_range numbers_in_range list_in_range action_bytes action_of moves_in moves_from position_of move_bytes position_bytes
    position_check is_position result_of current actions moves last_made result first_refusal answer Accepted action_part position_part call_at history_of
    next_sound sound is_good log_check call_answer counts_after actions_after positions_after start_answer positions_begun result_answer called started
    says_resigned told_so
seen = record {
  was_accepted = (refl, refl);
  is_held = record { action_count = refl; move_count = refl; action_bytes_fact = refl; position_bytes_fact = refl };
  two = refl;
  wanted = refl;
  not_there = refl;
  not_told = tt;
  not_good_lem = refl;
}

not_stored : (k m : ℕ) → Holding offered.acts offered.ps k m resigned → ⊥
not_stored k m g =
    let two : k ≡ 2 = g.action_count ∙ seen.two in
    let z : ◌≡◌ {A = ℕ} 0 5 = sym seen.not_there ∙ ap (λ (l : List ℕ). get_or l action_size 0) (rw two at g.action_bytes_fact) ∙ seen.wanted in
    omega arith

-- a query that is answered 0 passed the log's checks, so its counts are within the limits
told_passed : (a v : ℕ) → (accepted_unless a v).number ≡ 0 → a ≡ 0
told_passed a v e = go (eqb a 0) refl
  where
    go : (t : Bool) → eqb a 0 ≡ t → a ≡ 0
    go true f = eqb-true a 0 f
    go false f = simp f at e

not_ruled_lem : (k m : ℕ) → result_answer few offered.acts offered.ps k m ≡ accepted (result resigned) → ⊥
unfolding result_answer says_resigned told_so
not_ruled_lem k m e =
    let check = told_passed (log_check few offered.acts offered.ps k m) _ (ap (λ (a : Answer). a.number) e) in
    let within = (log_says few offered.acts offered.ps k m check).within in
    let j : k ≤ 2 = leb-true _ _ (both_left (leb k 2) (leb m 0) within) in
    let z : m ≤ 0 = leb-true _ _ (both_right (leb k 2) (leb m 0) within) in
    let none : m ≡ 0 = omega arith in
    let h : k < 3 = omega arith in
    let yes : told_so k ≡ true = ap says_resigned (rw none at e) ∙ eq-eqb (result resigned) (result resigned) refl in
    false≢true (sym (fails (told_so k) (below (λ (i : ℕ). not (told_so i)) 3 seen.not_told k h)) ∙ yes)

pub first_only_is_hollow : FirstOnlyIsHollow
first_only_is_hollow later =
    record {
      to_store = λ keeps. not_stored _ _ (keeps few offered.acts offered.ps 1 0 history (resign 0) seen.was_accepted seen.is_held refl).holds;
      to_rule = λ keeps. not_ruled_lem _ _ (keeps few offered.acts offered.ps 1 0 history (resign 0) seen.was_accepted seen.is_held refl).result_told_lem;
    }

pub counting_on_is_not_good : CountingOnIsNotGood
counting_on_is_not_good keeps =
    let g = keeps few offered.acts offered.ps 1 0 (resign 0) (history, seen.was_accepted, seen.is_held) refl in
    false≢true (sym seen.not_good_lem ∙ (good_is_decided few offered.acts offered.ps 2 0).1 g)

pub same_counts_keep_good : SameCountsKeepGood
same_counts_keep_good L acts ps n m c good e = go (eqb n 0) e
  where
    left : Bool → Left
    left first = cond first (called L acts ps n m c) (record { counts = counts 0 n m; acts = acts; ps = ps })

    go : (first : Bool) → (left first).counts.number ≡ 0 → GoodLeft L (left first)
    go true f = keeps_good L acts ps n m c good f
    go false f = good
