-- An accepted start and an accepted call leave a good log, and a refused call changes nothing.
-- Assumes nothing.
use mathlib.Core.Path.{◌≡◌, refl, ap, sym, subst, ◌∙◌}
use mathlib.Core.Bool.{Bool, true, false, cond}
use mathlib.Core.List.{List, []}
use Prim.Native.Nat.{ℕ, suc, ◌+◌, ◌*◌}
use native.Mathlib.Numerals.{add-one}
use native.Mathlib.Omega.{arith}
use lib.Dec.{eqb}
use lib.ListN.{length, take}
use borrow.Author.Tests.{eqb-true, ne_eqb}
use Rattle.answer.specs.Parts.{written}
use Rattle.answer.proofs.Written.{used_written}
use Rattle.action.specs.Layout.{action_size, action_bytes}
use Rattle.action.proofs.ReadBack.{length_bytes}
use Rattle.position.specs.Layout.{Position, position_size}
use Rattle.stored_position.specs.Bytes.{position_bytes, position_check}
use Rattle.stored_position.proofs.ReadBack.{one_size}
use Rattle.game_rules.specs.Limits.{Limits}
use Rattle.game_rules.specs.Rules.{Call, History, begun, after, is_move, action_made, actions, moves, answer}
use Rattle.game_rules.specs.Good.{Accepted, action_part, position_made, position_part, Holding}
use Rattle.game_rules.specs.Calls.{call_answer, counts, counts_after, actions_after, positions_after, positions_begun}
use Rattle.game_rules.specs.Promises.{left_by, called, started, LogCall}
use Rattle.game_rules.specs.Promises.{StartIsGood, KeepsGood, AcceptedIsGood, RefusedChangesNothing, StoredSo, StoresCalls, CallsAreStored}
use Rattle.game_rules.proofs.Checks.{log_says, call_says, start_says}
use Rattle.game_rules.proofs.Decide.{positions_room, length_action_part, length_position_part, good_history, good_is_decided}

-- a start leaves its position, and a call one more action, and its position if it has one
pub holding_begun : (acts ps : List ℕ) (p : Position) → position_check p ≡ 0 → Holding acts (written ps 0 (position_bytes p)) 0 0 (begun p)
unfolding actions moves action_part position_part
holding_begun acts ps p e =
    let u : position_size * suc 0 ≡ 0 + length (position_bytes p) = omega (arith, one_size p e) in
    record {
      action_count = refl;
      move_count = refl;
      action_bytes_fact = refl;
      position_bytes_fact =
          ap (λ (k : ℕ). take k (written ps 0 (position_bytes p))) u
          ∙ used_written ps (position_bytes p) [] 0 refl refl;
    }

pub holding_after : (L : Limits) (acts ps : List ℕ) (n m : ℕ) (h : History) (c : Call) → Accepted L h → Holding acts ps n m h → answer L h c ≡ 0
    → Holding (written acts (action_size * n) (action_bytes (action_made c))) (written ps (position_size * suc m) (position_made c))
    (n + 1) (cond (is_move c) (m + 1) m) (after h c)
unfolding actions moves action_part position_part
holding_after L acts ps n m h c a g e =
    let la : length (action_part h) ≡ action_size * n = length_action_part h ∙ ap (λ (k : ℕ). action_size * k) (sym g.action_count) in
    let lp : length (position_part h) ≡ position_size * suc m = length_position_part L h a ∙ ap (λ (k : ℕ). position_size * suc k) (sym g.move_count) in
    let ua : action_size * (n + 1) ≡ action_size * n + length (action_bytes (action_made c)) = omega (arith, length_bytes (action_made c)) in
    let up : position_size * suc (cond (is_move c) (m + 1) m) ≡ position_size * suc m + length (position_made c) =
    ap (λ (k : ℕ). position_size * suc (cond (is_move c) k m)) (add-one m) ∙ positions_room L h m c e in
    record {
      action_count = omega (arith, g.action_count);
      move_count = rw (add-one m, g.move_count) refl;
      action_bytes_fact =
          ap (λ (k : ℕ). take k (written acts (action_size * n) (action_bytes (action_made c)))) ua
          ∙ used_written acts (action_bytes (action_made c)) (action_part h) (action_size * n) la g.action_bytes_fact;
      position_bytes_fact =
          ap (λ (k : ℕ). take k (written ps (position_size * suc m) (position_made c))) up
          ∙ used_written ps (position_made c) (position_part h) (position_size * suc m) lp g.position_bytes_fact;
    }

pub start_is_good : StartIsGood
unfolding started positions_begun Accepted
start_is_good L acts ps p e =
    let check = (start_says L acts ps p e).1 in
    rw e (begun p, check, holding_begun acts ps p check)

-- what is left, accepted and refused
pub left_accepted : (acts ps : List ℕ) (n m : ℕ) (c : Call)
    → left_by 0 acts ps n m c
    ≡ record {
      counts = counts 0 (n + 1) (cond (is_move c) (m + 1) m);
      acts = written acts (action_size * n) (action_bytes (action_made c));
      ps = written ps (position_size * suc m) (position_made c);
    }
unfolding counts_after actions_after positions_after
left_accepted acts ps n m c = refl

pub left_refused : (a : ℕ) (acts ps : List ℕ) (n m : ℕ) (c : Call) → (a ≡ 0 → ⊥)
    → left_by a acts ps n m c ≡ record { counts = counts a n m; acts = acts; ps = ps }
unfolding counts_after actions_after positions_after
left_refused a acts ps n m c z = rw (ne_eqb _ _ z) refl

pub answer_left : (a : ℕ) (acts ps : List ℕ) (n m : ℕ) (c : Call) → (left_by a acts ps n m c).counts.number ≡ a
unfolding counts_after
answer_left a acts ps n m c = go (eqb a 0) refl
  where
    go : (t : Bool) → eqb a 0 ≡ t → (cond t (counts 0 (n + 1) (cond (is_move c) (m + 1) m)) (counts a n m)).number ≡ a
    go true e = sym (eqb-true a 0 e)
    go false e = refl

pub calls_are_stored : CallsAreStored
unfolding called
calls_are_stored L acts ps n m h c a g e =
    let z : call_answer L acts ps n m c ≡ 0 = sym (answer_left (call_answer L acts ps n m c) acts ps n m c) ∙ e in
    let f : answer L h c ≡ 0 = ap (λ (x : History). answer L x c) (sym (good_history L acts ps n m h a g)) ∙ (call_says L acts ps n m c z).1 in
    subst (StoredSo L h c) (sym (ap (λ (k : ℕ). left_by k acts ps n m c) z ∙ left_accepted acts ps n m c))
    (record { lawful = f; holds = holding_after L acts ps n m h c a g f })

-- a program that stores its calls keeps logs good
pub stores_good : (call : LogCall) → StoresCalls call → KeepsGood call
unfolding Accepted
stores_good call stores L acts ps n m c (h, a, g) e = let s = stores L acts ps n m h c a g e in (after h c, (a, s.lawful), s.holds)

pub keeps_good : KeepsGood called
keeps_good = stores_good called calls_are_stored

pub accepted_is_good : AcceptedIsGood
unfolding called
accepted_is_good L acts ps n m c e =
    let z : call_answer L acts ps n m c ≡ 0 = sym (answer_left (call_answer L acts ps n m c) acts ps n m c) ∙ e in
    (good_is_decided L acts ps n m).0 (log_says L acts ps n m (call_says L acts ps n m c z).0).good

pub refused_changes_nothing : RefusedChangesNothing
unfolding called
refused_changes_nothing L acts ps n m c z =
    left_refused (call_answer L acts ps n m c) acts ps n m c (λ e. z (answer_left (call_answer L acts ps n m c) acts ps n m c ∙ e))
