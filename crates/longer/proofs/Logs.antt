-- Logs under two limits. Room for a call is all that depends on the limits: a call that has room under both is answered the same, whatever its own checks,
-- and one that has room under neither or only under the larger is answered 13 where all other checks pass.
-- Assumes nothing.
use mathlib.Core.Path.{◌≡◌, refl, ap, sym, ◌∙◌}
use mathlib.Core.Bool.{Bool, true, false, cond, not, ◌||◌}
use mathlib.Core.List.{List, [], ◌∷◌}
use Prim.Native.Nat.{ℕ, suc, ◌≤◌, ◌<◌}
use native.Mathlib.Omega.{arith}
use lib.Dec.{eqb, leb, ltb}
use lib.ListN.{length}
use borrow.Author.Tests.{eqb-true, eqb-false, leb-true, le-leb, ltb-true, lt-ltb}
use Rattle.answer.specs.Answer.{log_full, game_over}
use Rattle.answer.proofs.Numbers.{both_left, both_right}
use Rattle.actions.specs.Part.{moves_in}
use Rattle.game_rules.specs.Limits.{Limits, actions_length, positions_length}
use Rattle.game_rules.specs.Rules.{Call, History, begun, after, is_move, actions, moves, ended, unless, first_refusal, own_checks, room_for, answer}
use Rattle.game_rules.specs.Good.{Accepted, Good, history_of, is_good}
use Rattle.game_rules.specs.Calls.{long_enough, log_check, call_answer, counts, start_answer, result_answer, claim_answer}
use Rattle.game_rules.specs.Promises.{left_by, called, started}
use Rattle.game_rules.proofs.Checks.{first_refuses, first_passes, refusals_joined, only_check, answer_says}
use Rattle.game_rules.proofs.Checks.{actions_most, moves_most, log_says, call_says}
use Rattle.game_rules.proofs.Decide.{good_is_decided}
use Rattle.game_rules.proofs.Keeps.{left_refused}
use Rattle.game_rules.proofs.Log.{actions_at_lem, moves_at_lem}
use Rattle.laws.specs.Ruling.{ruling_answer, laws_answer}
use Rattle.longer.specs.TwoLimits.{AllowsNoLess, within, room_after}
use Rattle.longer.specs.Promises.{SameGames, SameGood, StartsAlike, AnsweredAlike, LogsAlike, LongerLogsAre9}
use Rattle.longer.proofs.Rolls.{within_actions, within_moves, are_within}

-- ---- room

-- what has room under L has room under M
more_room : (L M : Limits) → AllowsNoLess L M → (n m : ℕ) (c : Call) → room_after L n m c ≡ true → room_after M n m c ≡ true
more_room L M o n m c e = go (is_move c) refl
  where
    few : n < L.most_actions
    few = ltb-true n L.most_actions (both_left (ltb n L.most_actions) (not (is_move c) || ltb m L.most_moves) e)

    actions_too : ltb n M.most_actions ≡ true
    actions_too = lt-ltb n M.most_actions (omega (arith, few, o.actions))

    go : (t : Bool) → is_move c ≡ t → room_after M n m c ≡ true
    go false f = rw (f, actions_too) refl
    go true f =
        let here : (not true || ltb m L.most_moves) ≡ true =
        rw f at (both_right (ltb n L.most_actions) (not (is_move c) || ltb m L.most_moves) e) in
        let less : m < L.most_moves = ltb-true m L.most_moves here in
        rw (f, actions_too, lt-ltb m M.most_moves (omega (arith, less, o.moves))) refl

-- ---- the answer to a call after a history: the game's end and the call's own checks, which depend on no limit, and then 13

unfoldable before : History → Call → ℕ
before h c = first_refusal (unless (not (ended h)) game_over ∷ own_checks h c)

answer_is : (L : Limits) (h : History) (c : Call) → answer L h c ≡ first_refusal (before h c ∷ unless (room_for L h c) log_full ∷ [])
unfolding answer before
answer_is L h c = refusals_joined (unless (not (ended h)) game_over ∷ own_checks h c) (unless (room_for L h c) log_full ∷ [])

-- a last check that passes
passed_last : (a : ℕ) → first_refusal (a ∷ 0 ∷ []) ≡ a
unfolding first_refusal
passed_last a = go (eqb a 0) refl
  where
    go : (t : Bool) → eqb a 0 ≡ t → cond t 0 a ≡ a
    go true f = sym (eqb-true a 0 f)
    go false f = refl

module _ (L M : Limits) (h : History) (c : Call) where
  room_decides : room_for L h c ≡ room_for M h c → answer L h c ≡ answer M h c
  room_decides e = answer_is L h c ∙ ap (λ (t : Bool). first_refusal (before h c ∷ unless t log_full ∷ [])) e ∙ sym (answer_is M h c)

  -- with room under M, what M answers is what came before
  with_room : room_for M h c ≡ true → answer M h c ≡ before h c
  with_room e =
      answer_is M h c ∙ ap (λ (t : Bool). first_refusal (before h c ∷ unless t log_full ∷ [])) e ∙ passed_last (before h c)

  without_room : room_for L h c ≡ false → before h c ≡ 0 → answer L h c ≡ log_full
  unfolding first_refusal
  without_room e f = answer_is L h c ∙ ap (λ (t : Bool). first_refusal (before h c ∷ unless t log_full ∷ [])) e ∙ rw f refl

  refused_before : (before h c ≡ 0 → ⊥) → answer L h c ≡ before h c
  refused_before f = answer_is L h c ∙ first_refuses (before h c) (unless (room_for L h c) log_full ∷ []) f

module _ (L M : Limits) (o : AllowsNoLess L M) (h : History) (c : Call) where
  room_too : room_for L h c ≡ true → room_for M h c ≡ true
  room_too e = more_room L M o (actions h) (moves h) c e

  answer_full : room_for L h c ≡ false → answer M h c ≡ 0 → answer L h c ≡ log_full
  answer_full e f = without_room L M h c e (sym (with_room L M h c (answer_says M h c f).room) ∙ f)

  answer_refused : (answer M h c ≡ 0 → ⊥) → answer L h c ≡ answer M h c
  answer_refused isnt = go (room_for L h c) (room_for M h c) refl refl
    where
      go : (t u : Bool) → room_for L h c ≡ t → room_for M h c ≡ u → answer L h c ≡ answer M h c
      go true u e f = room_decides L M h c (e ∙ sym (room_too e))
      go false false e f = room_decides L M h c (e ∙ sym f)
      go false true e f =
          let other : before h c ≡ 0 → ⊥ = λ z. isnt (with_room L M h c f ∙ z) in
          refused_before L M h c other ∙ sym (with_room L M h c f)

  answer_kept : answer L h c ≡ 0 → answer M h c ≡ 0
  answer_kept e = sym (room_decides L M h c ((answer_says L h c e).room ∙ sym (room_too (answer_says L h c e).room))) ∙ e

-- ---- histories

module _ (L M : Limits) (o : AllowsNoLess L M) where
  accepted_too : (h : History) → Accepted L h → Accepted M h
  unfolding Accepted
  accepted_too (begun p) a = a
  accepted_too (after h c) a = (accepted_too h a.0, answer_kept L M o h c a.1)

  -- one call fewer is within L too, and the call has room
  room_before : (h : History) (c : Call) → within L (actions (after h c)) (moves (after h c)) ≡ true
      → (within L (actions h) (moves h) ≡ true) × (room_for L h c ≡ true)
  unfolding actions moves
  room_before h c e = go (is_move c) refl
    where
      few : suc (actions h) ≤ L.most_actions
      few = within_actions L (suc (actions h)) (cond (is_move c) (suc (moves h)) (moves h)) e

      few_moves : cond (is_move c) (suc (moves h)) (moves h) ≤ L.most_moves
      few_moves = within_moves L (suc (actions h)) (cond (is_move c) (suc (moves h)) (moves h)) e

      room : ltb (actions h) L.most_actions ≡ true
      room = lt-ltb (actions h) L.most_actions few

      go : (t : Bool) → is_move c ≡ t → (within L (actions h) (moves h) ≡ true) × (room_for L h c ≡ true)
      go true f =
          let less : suc (moves h) ≤ L.most_moves = rw f at few_moves in
          (are_within L (actions h) (moves h) (omega (arith, few)) (omega (arith, less)), rw (f, room, lt-ltb (moves h) L.most_moves less) refl)
      go false f =
          let no_more : moves h ≤ L.most_moves = rw f at few_moves in
          (are_within L (actions h) (moves h) (omega (arith, few)) no_more, rw (f, room) refl)

  accepted_within : (h : History) → Accepted M h → within L (actions h) (moves h) ≡ true → Accepted L h
  unfolding Accepted
  accepted_within (begun p) a e = a
  accepted_within (after h c) a e =
      let r = room_before h c e in (
        accepted_within h a.0 r.0,
        room_decides L M h c (r.1 ∙ sym (answer_says M h c a.1).room) ∙ a.1,
      )

  pub same_games : SameGames L M
  same_games h = (
    (λ a. (accepted_too h a, are_within L (actions h) (moves h) (actions_most L h a) (moves_most L h a))),
    (λ b. accepted_within h b.0 b.1),
  )

  pub same_good : SameGood L M
  same_good acts ps n m e = (forth, back)
    where
      forth : Good L acts ps n m → Good M acts ps n m
      forth (h, a, g) = (h, accepted_too h a, g)

      back : Good M acts ps n m → Good L acts ps n m
      back (h, a, g) = (h, accepted_within h a (rw (g.action_count, g.move_count) at e), g)

  -- ---- the bytes

  long_too : (acts ps : List ℕ) → long_enough M acts ps ≡ true → long_enough L acts ps ≡ true
  long_too acts ps e =
      let a : actions_length M ≤ length acts = leb-true _ _ (both_left (leb (actions_length M) (length acts)) (leb (positions_length M) (length ps)) e) in
      let b : positions_length M ≤ length ps = leb-true _ _ (both_right (leb (actions_length M) (length acts)) (leb (positions_length M) (length ps)) e) in
      rw (le-leb (actions_length L) (length acts) (omega (arith, a, o.actions)), le-leb (positions_length L) (length ps) (omega (arith, b, o.moves))) refl

  pub starts_alike : StartsAlike L M
  unfolding started start_answer
  starts_alike acts ps p e = rw (long_too acts ps e, e) refl

module _ (L M : Limits) (o : AllowsNoLess L M) (acts ps : List ℕ) (n m : ℕ) (long : long_enough M acts ps ≡ true) (inside : within L n m ≡ true) where
  one_test : (s t : Bool) → (s ≡ true → t ≡ true) → (t ≡ true → s ≡ true) → s ≡ t
  one_test true t f g = sym (f refl)
  one_test false true f g = g refl
  one_test false false f g = refl

  good_alike : is_good L acts ps n m ≡ is_good M acts ps n m
  good_alike =
      one_test (is_good L acts ps n m) (is_good M acts ps n m)
      (λ e. (good_is_decided M acts ps n m).1 ((same_good L M o acts ps n m inside).0 ((good_is_decided L acts ps n m).0 e)))
      (λ e. (good_is_decided L acts ps n m).1 ((same_good L M o acts ps n m inside).1 ((good_is_decided M acts ps n m).0 e)))

  also_inside : within M n m ≡ true
  also_inside =
      let a : n ≤ L.most_actions = within_actions L n m inside in
      let b : m ≤ L.most_moves = within_moves L n m inside in
      are_within M n m (omega (arith, a, o.actions)) (omega (arith, b, o.moves))

  check_alike : log_check L acts ps n m ≡ log_check M acts ps n m
  unfolding log_check
  check_alike = rw (long_too L M o acts ps long, long, inside, also_inside, good_alike) refl

  -- the room after the history of a good log
  room_is : (K : Limits) (c : Call) → log_check L acts ps n m ≡ 0 → room_for K (history_of acts ps n) c ≡ room_after K n m c
  unfolding is_good
  room_is K c e =
      let moved : m ≡ moves_in acts n = eqb-true m (moves_in acts n) (both_left (eqb m (moves_in acts n)) _ (log_says L acts ps n m e).good) in
      rw (actions_at_lem acts ps n, moves_at_lem acts ps n, ← moved) refl

  -- calls: the log's check, the same under both; then, where it passes, the answer after its history
  call_is : (K : Limits) (c : Call) → log_check K acts ps n m ≡ 0 → call_answer K acts ps n m c ≡ answer K (history_of acts ps n) c
  unfolding call_answer
  call_is K c e =
      first_passes (log_check K acts ps n m) (answer K (history_of acts ps n) c ∷ []) e ∙ only_check (answer K (history_of acts ps n) c)

  call_stops : (K : Limits) (c : Call) → (log_check K acts ps n m ≡ 0 → ⊥) → call_answer K acts ps n m c ≡ log_check K acts ps n m
  unfolding call_answer
  call_stops K c e = first_refuses (log_check K acts ps n m) (answer K (history_of acts ps n) c ∷ []) e

  call_alike : (c : Call) → (log_check L acts ps n m ≡ 0 → answer L (history_of acts ps n) c ≡ answer M (history_of acts ps n) c)
      → call_answer L acts ps n m c ≡ call_answer M acts ps n m c
  call_alike c h = go (eqb (log_check L acts ps n m) 0) refl
    where
      go : (t : Bool) → eqb (log_check L acts ps n m) 0 ≡ t → call_answer L acts ps n m c ≡ call_answer M acts ps n m c
      go true e =
          let passed : log_check L acts ps n m ≡ 0 = eqb-true (log_check L acts ps n m) 0 e in
          call_is L c passed ∙ h passed ∙ sym (call_is M c (sym check_alike ∙ passed))
      go false e =
          let stopped : log_check L acts ps n m ≡ 0 → ⊥ = eqb-false (log_check L acts ps n m) 0 e in
          call_stops L c stopped ∙ check_alike ∙ sym (call_stops M c (λ z. stopped (check_alike ∙ z)))

  called_alike : (c : Call) → call_answer L acts ps n m c ≡ call_answer M acts ps n m c → called L acts ps n m c ≡ called M acts ps n m c
  unfolding called
  called_alike c e = ap (λ (a : ℕ). left_by a acts ps n m c) e

  calls : (c : Call) → room_after L n m c ≡ true → called L acts ps n m c ≡ called M acts ps n m c
  calls c r =
      called_alike c (call_alike c
      (λ e. room_decides L M (history_of acts ps n) c (room_is L c e ∙ r ∙ sym (more_room L M o n m c r) ∙ sym (room_is M c e))))

  refusals : (c : Call) → (call_answer M acts ps n m c ≡ 0 → ⊥) → called L acts ps n m c ≡ called M acts ps n m c
  refusals c isnt =
      called_alike c (call_alike c
      (λ e. answer_refused L M o (history_of acts ps n) c (λ z. isnt (call_is M c (sym check_alike ∙ e) ∙ z))))

  full : (c : Call) → room_after L n m c ≡ false → call_answer M acts ps n m c ≡ 0
      → called L acts ps n m c ≡ record { counts = counts log_full n m; acts = acts; ps = ps }
  unfolding called
  full c r e =
      let said = call_says M acts ps n m c e in
      let passed : log_check L acts ps n m ≡ 0 = check_alike ∙ said.0 in
      let number : call_answer L acts ps n m c ≡ log_full =
      call_is L c passed ∙ answer_full L M o (history_of acts ps n) c (room_is L c passed ∙ r) said.1 in
      ap (λ (a : ℕ). left_by a acts ps n m c) number ∙ left_refused log_full acts ps n m c (λ z. omega (arith, z))

  pub answered_alike : AnsweredAlike L M acts ps n m
  unfolding result_answer claim_answer laws_answer ruling_answer
  answered_alike =
      record {
        checks = check_alike;
        calls = calls;
        full = full;
        refusals = refusals;
        results = rw check_alike refl;
        claims = rw check_alike refl;
        laws_claims = rw check_alike refl;
        rulings = rw check_alike refl;
      }

pub logs_alike : (L M : Limits) → AllowsNoLess L M → LogsAlike L M
logs_alike L M o acts ps n m long inside = answered_alike L M o acts ps n m long inside

pub longer_logs_are_9 : (L : Limits) → LongerLogsAre9 L
unfolding log_check first_refusal
longer_logs_are_9 L acts ps n m long beyond = rw (long, beyond) refl
