-- The converse: an accepted history, played through the calls on parts that are long enough, is answered 0 at each call and leaves its bytes and counts.
-- And the queries then answer what the rules say about it.
-- Assumes nothing.
use mathlib.Core.Path.{◌≡◌, refl, ap, ap₂, sym, subst, ◌∙◌}
use mathlib.Core.Bool.{true, cond, ◌&&◌}
use mathlib.Core.List.{List, [], ◌∷◌}
use Prim.Native.Nat.{ℕ, suc, ◌+◌, ◌*◌, ◌≤◌}
use native.Mathlib.Omega.{arith}
use lib.Dec.{leb}
use lib.ListN.{length}
use borrow.Author.Tests.{le-leb, leb-true}
use Rattle.answer.specs.Parts.{written}
use Rattle.answer.proofs.Numbers.{both_left, both_right}
use Rattle.answer.proofs.Parts.{length_written}
use Rattle.action.specs.Layout.{action_size, action_bytes}
use Rattle.action.proofs.ReadBack.{length_bytes}
use Rattle.position.specs.Layout.{Position, position_size}
use Rattle.stored_position.specs.Bytes.{position_bytes, position_check}
use Rattle.stored_position.proofs.ReadBack.{one_size}
use Rattle.game_rules.specs.Limits.{Limits, actions_length, positions_length}
use Rattle.game_rules.specs.Rules.{Call, History, begun, after, is_move, action_made, actions, moves, answer}
use Rattle.game_rules.specs.Good.{Accepted, position_made, Holding, history_of}
use Rattle.game_rules.specs.Calls.{long_enough, log_check, call_answer, counts, start_answer, positions_begun, result_answer, claim_answer}
use Rattle.game_rules.specs.Promises.{EveryLogIsRuledAsPlayed, Left, left_by, called, started}
use Rattle.game_rules.specs.Promises.{played, AllAnswered0, AcceptedPlays, RuledLeft, CallsAreRuledOn}
use Rattle.game_rules.proofs.Checks.{first_passes, only_check, room_of_actions, log_says, log_passes, call_says, start_passes, actions_most, moves_most}
use Rattle.game_rules.proofs.Decide.{positions_room, good_history, good_is_decided}
use Rattle.game_rules.proofs.Keeps.{holding_begun, holding_after, left_accepted, answer_left, calls_are_stored}

-- parts are long enough by their two lengths
long_actions : (L : Limits) (acts ps : List ℕ) → long_enough L acts ps ≡ true → action_size * L.most_actions ≤ length acts
long_actions L acts ps e = leb-true _ _ (both_left (leb (actions_length L) (length acts)) (leb (positions_length L) (length ps)) e)

long_positions : (L : Limits) (acts ps : List ℕ) → long_enough L acts ps ≡ true → position_size * suc L.most_moves ≤ length ps
long_positions L acts ps e = leb-true _ _ (both_right (leb (actions_length L) (length acts)) (leb (positions_length L) (length ps)) e)

as_long : (L : Limits) (acts bacts ps qs : List ℕ) → length bacts ≡ length acts → length qs ≡ length ps → long_enough L acts ps ≡ true
    → long_enough L bacts qs ≡ true
as_long L acts bacts ps qs a p e = rw (a, p) e

-- a log that holds an accepted history passes 16 and 9
pub held_passes : (L : Limits) (acts ps : List ℕ) (n m : ℕ) (h : History) → Accepted L h → Holding acts ps n m h → long_enough L acts ps ≡ true
    → log_check L acts ps n m ≡ 0
held_passes L acts ps n m h a g long =
    log_passes L acts ps n m
    (record {
      long = long;
      within = ap₂ ◌&&◌ (le-leb n L.most_actions (rw g.action_count (actions_most L h a)))
          (le-leb m L.most_moves (rw g.move_count (moves_most L h a)));
      good = (good_is_decided L acts ps n m).1 (h, a, g);
    })

-- and so answers every call and query as that history does
pub ruled_as_played : EveryLogIsRuledAsPlayed
unfolding call_answer result_answer claim_answer
ruled_as_played L acts ps n m h long a g =
    let passed : log_check L acts ps n m ≡ 0 = held_passes L acts ps n m h a g long in
    let one : history_of acts ps n ≡ h = good_history L acts ps n m h a g in
    record {
      calls = λ c. first_passes _ (answer L (history_of acts ps n) c ∷ []) passed ∙ only_check _ ∙ ap (λ (x : History). answer L x c) one;
      result_told_lem = rw (passed, one) refl;
      claim_told = rw (passed, one) refl;
    }

pub answered : (L : Limits) (acts ps : List ℕ) (n m : ℕ) (h : History) (c : Call) → Accepted L h → Holding acts ps n m h → long_enough L acts ps ≡ true
    → answer L h c ≡ 0 → call_answer L acts ps n m c ≡ 0
answered L acts ps n m h c a g long e = (ruled_as_played L acts ps n m h long a g).calls c ∙ e

-- a log that was left: answered 0, holding the history, its parts long enough
record Plays (L : Limits) (h : History) (x : Left) : Type 0 where
  number : x.counts.number ≡ 0
  holding : Holding x.acts x.ps x.counts.actions x.counts.moves h
  long : long_enough L x.acts x.ps ≡ true

plays_start : (L : Limits) (acts ps : List ℕ) (p : Position) → long_enough L acts ps ≡ true → position_check p ≡ 0 → Plays L (begun p) (started L acts ps p)
unfolding started positions_begun
plays_start L acts ps p long e =
    let z : start_answer L acts ps p ≡ 0 = start_passes L acts ps p long e in
    let fits : 0 + length (position_bytes p) ≤ length ps = omega (arith, one_size p e, long_positions L acts ps long) in
    record {
      number = z;
      holding = rw z (holding_begun acts ps p e);
      long = rw z (as_long L acts acts ps (written ps 0 (position_bytes p)) refl (length_written ps 0 (position_bytes p) fits) long);
    }

plays_call : (L : Limits) (h : History) (c : Call) (x : Left) → Accepted L h → answer L h c ≡ 0 → Plays L h x
    → Plays L (after h c) (called L x.acts x.ps x.counts.actions x.counts.moves c)
unfolding called Accepted moves
plays_call L h c x a e was =
    let n : ℕ = x.counts.actions in
    let m : ℕ = x.counts.moves in
    let acts : List ℕ = written x.acts (action_size * n) (action_bytes (action_made c)) in
    let ps : List ℕ = written x.ps (position_size * suc m) (position_made c) in
    let z : call_answer L x.acts x.ps n m c ≡ 0 = answered L x.acts x.ps n m h c a was.holding was.long e in
    let most : cond (is_move c) (suc (moves h)) (moves h) ≤ L.most_moves = moves_most L (after h c) (a, e) in
    let fa : action_size * n + length (action_bytes (action_made c)) ≤ length x.acts =
    omega (arith, was.holding.action_count, length_bytes (action_made c), room_of_actions L h c e, long_actions L x.acts x.ps was.long) in
    let fp : position_size * suc m + length (position_made c) ≤ length x.ps =
    rw (was.holding.move_count, ← positions_room L h (moves h) c e) (omega (arith, most, long_positions L x.acts x.ps was.long)) in
    subst (Plays L (after h c)) (sym (ap (λ (k : ℕ). left_by k x.acts x.ps n m c) z ∙ left_accepted x.acts x.ps n m c))
    (record {
      number = refl;
      holding = holding_after L x.acts x.ps n m h c a was.holding e;
      long = as_long L x.acts acts x.ps ps
          (length_written x.acts (action_size * n) (action_bytes (action_made c)) fa)
          (length_written x.ps (position_size * suc m) (position_made c) fp)
          was.long;
    })

-- what the calls and queries answer to it
plays_ruled : (L : Limits) (h : History) (x : Left) → Accepted L h → Plays L h x → RuledLeft L x h
plays_ruled L h x a was = ruled_as_played L x.acts x.ps x.counts.actions x.counts.moves h was.long a was.holding

pub calls_are_ruled_on : CallsAreRuledOn
unfolding called Accepted
calls_are_ruled_on L acts ps n m h c a g e =
    let s = calls_are_stored L acts ps n m h c a g e in
    let z : call_answer L acts ps n m c ≡ 0 = sym (answer_left (call_answer L acts ps n m c) acts ps n m c) ∙ e in
    let long = (log_says L acts ps n m (call_says L acts ps n m c z).0).long in
    let x : Left = record { counts = counts 0 n m; acts = acts; ps = ps } in
    plays_ruled L (after h c) (called L acts ps n m c) (a, s.lawful)
    (plays_call L h c x a s.lawful (record { number = refl; holding = g; long = long }))

plays : (L : Limits) (h : History) (acts ps : List ℕ) → long_enough L acts ps ≡ true → Accepted L h → AllAnswered0 L h acts ps × Plays L h (played L h acts ps)
unfolding played AllAnswered0 Accepted
plays L (begun p) acts ps long a = let s : _ = plays_start L acts ps p long a in (s.number, s)
plays L (after h c) acts ps long a =
    let was : _ = plays L h acts ps long a.0 in
    let s : _ = plays_call L h c (played L h acts ps) a.0 a.1 was.1 in
    ((was.0, s.number), s)

pub accepted_plays : AcceptedPlays
accepted_plays L h acts ps long a = let p : _ = plays L h acts ps long a in (p.0, p.1.holding)
