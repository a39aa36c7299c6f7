-- The ways through the calls, over plain numbers and lists: each check refuses or passes on, and a call gives back and leaves what its answer says.
-- Assumes nothing.
use mathlib.Core.Path.{◌≡◌, refl, ap, ap₂, sym, ◌∙◌}
use mathlib.Core.Bool.{Bool, true, false, cond, not, ◌&&◌}
use mathlib.Core.List.{List, [], ◌∷◌, ◌++◌}
use Prim.Native.Nat.{ℕ, zero, suc, ◌+◌, ◌*◌, ◌≤◌, ◌<◌}
use native.Mathlib.Omega.{arith}
use lib.ListN.{length, drop, get_or}
use native.Mathlib.Numerals.{add-one}
use lib.Dec.{eqb, leb, ltb}
use borrow.Author.Tests.{eq-eqb, ne_eqb, eqb-true, eqb-false, lt-ltb, le-ltb, lt-leb, le-leb}
use Rattle.std.specs.Prelude.{Ok, Err}
use Rattle.answer.specs.declared.Answer.{Answer}
use Rattle.answer.specs.Answer.{accepted, refused, game_over, log_full, not_listed, wrong_side, wrong_record, part_too_short, write_answer, write_bytes}
use Rattle.answer.specs.Parts.{item, written}
use Rattle.board_builder.specs.declared.BoardBuilder.{BoardBuilder}
use Rattle.board_builder.specs.BoardBuilder.{squares, record_size, side_at, numbers}
use Rattle.chess_move.specs.Number.{move_of}
use Rattle.move_rules.specs.Leads.{comes_from, counters_lead}
use Rattle.action.specs.declared.Action.{Action}
use Rattle.action.specs.declared.Action.TheVariants.{MakeMove}
use Rattle.action.specs.Layout.{action_size, action_bytes}
use Rattle.position.specs.Layout.{Position, position_size, side, position_of, position_at}
use Rattle.stored_position.specs.Bytes.{position_bytes, position_check, position_given, lists_move}
use Rattle.stored_position.proofs.Checks.{behind}
use Rattle.stored_position.proofs.ReadBack.{one_size}
use Rattle.position.proofs.Fields.{side_at_fact}
use Rattle.claim.specs.Claim.{claim_at}
use Rattle.ending.specs.Ending.{result_at}
use Rattle.game_rules.specs.declared.Counts.{Counts}
use Rattle.game_rules.specs.Limits.{limits, actions_length, positions_length}
use Rattle.game_rules.specs.Rules.{make_move, unless, comes_after, first_refusal, result, ended, claim_stands}
use Rattle.game_rules.specs.Good.{history_of}
use Rattle.game_rules.specs.Calls.{long_enough, log_check, call_answer, start_answer, result_answer, claim_answer, counts, counts_after, actions_after}
use Rattle.game_rules.specs.Calls.{positions_after, positions_begun, accepted_unless}
use Rattle.good_log.specs.CodeSteps.{other_check}
use Rattle.game_rules.proofs.Checks.{first_refuses, first_passes}
use Rattle.game_rules.proofs.Log.{result_is}
use Rattle.game_rules.proofs.Rulings.{claim_is}
use Rattle.game.proofs.Answers.{Ready, log_ready, move_is}
use Rattle.game.specs.CodeAnswers.{check_of, moves_on_to, open_check, other_answer, other_counts, other_actions}

-- a check, found by its number
pub refused_by : (a x : ℕ) (l : List ℕ) → x ≡ a → (x ≡ 0 → ⊥) → x ≡ first_refusal (a ∷ l)
refused_by a x l e some = e ∙ sym (first_refuses a l (λ z. some (e ∙ z)))

pub passed_by : (a x v : ℕ) (l : List ℕ) → x ≡ a → x ≡ 0 → v ≡ first_refusal l → v ≡ first_refusal (a ∷ l)
passed_by a x v l e z rest = rest ∙ sym (first_passes a l (sym e ∙ z))

-- a check, found by its test
pub failed : (t : Bool) (k : ℕ) (l : List ℕ) → eqb k 0 ≡ false → t ≡ false → k ≡ first_refusal (unless t k ∷ l)
failed t k l some e = rw e (sym (first_refuses k l (eqb-false k 0 some)))

pub held : (t : Bool) (k v : ℕ) (l : List ℕ) → t ≡ true → v ≡ first_refusal l → v ≡ first_refusal (unless t k ∷ l)
held t k v l e rest = rest ∙ sym (first_passes (unless t k) l (ap (λ (u : Bool). unless u k) e))

pub none_left_lem : 0 ≡ first_refusal []
unfolding first_refusal
none_left_lem = refl

pub only : (a x : ℕ) → x ≡ a → x ≡ first_refusal (a ∷ [])
unfolding first_refusal
only a x e = go (eqb a 0) refl
  where
    go : (t : Bool) → eqb a 0 ≡ t → x ≡ cond t 0 a
    go true f = e ∙ eqb-true a 0 f
    go false f = e

-- a check's number as a result, there and back
pub err_of : (a k : ℕ) → k ≡ a → (k ≡ 0 → ⊥) → Err k ≡ check_of a
unfolding check_of
err_of zero k e some = absurd (some e)
err_of (suc a) k e some = ap Err e

pub ok_of : (a : ℕ) → 0 ≡ a → Ok tt ≡ check_of a
unfolding check_of
ok_of zero e = refl
ok_of (suc a) e = absurd (omega (arith, e))

pub refused_of : (a k : ℕ) → check_of a ≡ Err k → (k ≡ a) × (k ≡ 0 → ⊥)
unfolding check_of
refused_of zero k e = let z : ◌≡◌ {A = ℕ} 0 1 = cc in absurd (omega arith)
refused_of (suc a) k e = let f : k ≡ suc a = cc in (f, λ z. omega (arith, f, z))

pub passed_of : (a : ℕ) (u : Unit {0}) → check_of a ≡ Ok u → a ≡ 0
unfolding check_of
passed_of zero u e = refl
passed_of (suc a) u e = let z : ◌≡◌ {A = ℕ} 0 1 = cc in absurd (omega arith)

-- a call without a move, answered a
module _ (a n m : ℕ) (acts : List ℕ) (action : Action) (r : Counts) where
  pub other_refused : (x : ℕ) → x ≡ a → (x ≡ 0 → ⊥) → r ≡ counts x n m → (r ≡ other_counts a n m) × (acts ≡ other_actions a acts n action)
  other_refused x e some given = rw (ne_eqb a 0 (λ z. some (e ∙ z))) (given ∙ ap (λ (k : ℕ). counts k n m) e, refl)

  pub other_accepted : (w : List ℕ) → a ≡ 0 → r ≡ counts 0 (n + 1) m → w ≡ written acts (action_size * n) (action_bytes action)
      → (r ≡ other_counts a n m) × (w ≡ other_actions a acts n action)
  other_accepted w z given wrote = rw z (given, wrote)

-- a move, answered a
module _ (a n m k : ℕ) (acts ps : List ℕ) (p : Position) (r : Counts) where
  pub move_refused : (x : ℕ) → x ≡ a → (x ≡ 0 → ⊥) → r ≡ counts x n m
      → (r ≡ counts_after a n m (make_move k p)) × ((acts ≡ actions_after a acts n (make_move k p)) × (ps ≡ positions_after a ps m (make_move k p)))
  unfolding counts_after actions_after positions_after
  move_refused x e some given = rw (ne_eqb a 0 (λ z. some (e ∙ z))) (given ∙ ap (λ (j : ℕ). counts j n m) e, (refl, refl))

  pub move_accepted : (v w : List ℕ) → a ≡ 0 → r ≡ counts 0 (n + 1) (m + 1) → v ≡ written acts (action_size * n) (action_bytes (MakeMove (move_of k)))
      → w ≡ written ps (position_size * (m + 1)) (position_bytes p)
      → (r ≡ counts_after a n m (make_move k p)) × ((v ≡ actions_after a acts n (make_move k p)) × (w ≡ positions_after a ps m (make_move k p)))
  unfolding counts_after actions_after positions_after
  move_accepted v w z given acted placed =
      rw z (given, (acted, placed ∙ ap (λ (j : ℕ). written ps (position_size * j) (position_bytes p)) (add-one m)))

-- a refused start, answered a
module _ (a x : ℕ) (ps : List ℕ) (p : Position) (r : Counts) (e : x ≡ a) where
  pub start_refused : (x ≡ 0 → ⊥) → r ≡ counts x 0 0 → (r ≡ counts a 0 0) × (ps ≡ positions_begun a ps p)
  unfolding positions_begun
  start_refused some given = rw (ne_eqb a 0 (λ z. some (e ∙ z))) (given ∙ ap (λ (j : ℕ). counts j 0 0) e, refl)

-- a query whose log was answered a
module _ (a x v : ℕ) (r : Answer) (e : x ≡ a) where
  pub told_refused : (x ≡ 0 → ⊥) → r ≡ refused x → r ≡ accepted_unless a v
  told_refused some given = rw (ne_eqb a 0 (λ z. some (e ∙ z))) (given ∙ ap refused e)

  pub told_value : x ≡ 0 → r ≡ accepted v → r ≡ accepted_unless a v
  told_value z given = rw (sym e ∙ z) given

-- 16, 9, 10
module _ (acts ps : List ℕ) (n m x : ℕ) (e : x ≡ log_check limits acts ps n m) where
  abbrev over : List ℕ
  over = unless (eqb (result_at acts ps n m) 0) game_over ∷ []

  pub open_refused : (x ≡ 0 → ⊥) → x ≡ open_check acts ps n m
  unfolding open_check
  open_refused some = refused_by (log_check limits acts ps n m) x over e some

  pub open_ended : (r : ℕ) → x ≡ 0 → r ≡ result_at acts ps n m → (r ≡ 0 → ⊥) → game_over ≡ open_check acts ps n m
  unfolding open_check
  open_ended r z f some =
      passed_by (log_check limits acts ps n m) x game_over over e z
      (failed (eqb (result_at acts ps n m) 0) game_over [] refl (ne_eqb (result_at acts ps n m) 0 (λ y. some (f ∙ y))))

  pub open_passed : (r : ℕ) → x ≡ 0 → r ≡ result_at acts ps n m → r ≡ 0 → 0 ≡ open_check acts ps n m
  unfolding open_check
  open_passed r z f y =
      passed_by (log_check limits acts ps n m) x 0 over e z
      (held (eqb (result_at acts ps n m) 0) game_over 0 [] (eq-eqb (result_at acts ps n m) 0 (sym f ∙ y)) none_left_lem)

-- then the call's own check, for a call without a move, then 13
module _ (acts ps : List ℕ) (n m : ℕ) (action : Action) where
  abbrev full : List ℕ
  full = unless (ltb n limits.most_actions) log_full ∷ []

  abbrev own : ℕ
  own = other_check acts ps n m action

  pub other_closed : (x : ℕ) → x ≡ open_check acts ps n m → (x ≡ 0 → ⊥) → x ≡ other_answer acts ps n m action
  unfolding other_answer
  other_closed x e some = refused_by (open_check acts ps n m) x (own ∷ full) e some

  pub other_own : (y : ℕ) → open_check acts ps n m ≡ 0 → y ≡ own → (y ≡ 0 → ⊥) → y ≡ other_answer acts ps n m action
  unfolding other_answer
  other_own y z f some = passed_by (open_check acts ps n m) _ y (own ∷ full) refl z (refused_by own y full f some)

  pub other_full : (y : ℕ) → open_check acts ps n m ≡ 0 → y ≡ own → y ≡ 0 → limits.most_actions ≤ n → log_full ≡ other_answer acts ps n m action
  unfolding other_answer
  other_full y z f u h =
      passed_by (open_check acts ps n m) _ log_full (own ∷ full) refl z
      (passed_by own y log_full full f u (failed (ltb n limits.most_actions) log_full [] refl (le-ltb _ _ h)))

  pub other_passed : (y : ℕ) → open_check acts ps n m ≡ 0 → y ≡ own → y ≡ 0 → n < limits.most_actions → 0 ≡ other_answer acts ps n m action
  unfolding other_answer
  other_passed y z f u h =
      passed_by (open_check acts ps n m) _ 0 (own ∷ full) refl z
      (passed_by own y 0 full f u (held (ltb n limits.most_actions) log_full 0 [] (lt-ltb _ _ h) none_left_lem))

-- then 11, 5 or 6, 12, 24, 13 for move k to position q
module _ (acts ps : List ℕ) (n m k : ℕ) (q : Position) where
  abbrev lists : Bool
  lists = lists_move (item position_size ps m) k

  abbrev turns : Bool
  turns = not (eqb (side q) (side (position_at ps m)))

  abbrev room : Bool
  room = ltb n limits.most_actions && ltb m limits.most_moves

  abbrev last : List ℕ
  last = unless room log_full ∷ []

  abbrev follows : Bool
  follows = comes_after (position_at ps m) k q

  abbrev behind_turn : List ℕ
  behind_turn = unless follows wrong_record ∷ last

  abbrev later : List ℕ
  later = unless turns wrong_side ∷ behind_turn

  abbrev row : List ℕ
  row = unless lists not_listed ∷ position_check q ∷ later

  abbrev answer : ℕ
  answer = call_answer limits acts ps n m (make_move k q)

  of_row : (v : ℕ) → v ≡ first_refusal (open_check acts ps n m ∷ row) → v ≡ answer
  of_row v f = f ∙ sym (move_is acts ps n m k q)

  pub move_closed : (x : ℕ) → x ≡ open_check acts ps n m → (x ≡ 0 → ⊥) → x ≡ answer
  move_closed x e some = of_row x (refused_by (open_check acts ps n m) x row e some)

  module _ (z : open_check acts ps n m ≡ 0) where
    opened : (v : ℕ) → v ≡ first_refusal row → v ≡ answer
    opened v f = of_row v (passed_by (open_check acts ps n m) _ v row refl z f)

    pub move_unlisted : lists ≡ false → not_listed ≡ answer
    move_unlisted f = opened not_listed (failed lists not_listed (position_check q ∷ later) refl f)

    module _ (l : lists ≡ true) (y : ℕ) (c : y ≡ position_check q) where
      listed : (v : ℕ) → v ≡ first_refusal (position_check q ∷ later) → v ≡ answer
      listed v f = opened v (held lists not_listed v (position_check q ∷ later) l f)

      pub move_unfit : (y ≡ 0 → ⊥) → y ≡ answer
      move_unfit some = listed y (refused_by (position_check q) y later c some)

      fit : y ≡ 0 → (v : ℕ) → v ≡ first_refusal later → v ≡ answer
      fit u v f = listed v (passed_by (position_check q) y v later c u f)

      pub move_wrong_side : y ≡ 0 → side q ≡ side (position_at ps m) → wrong_side ≡ answer
      move_wrong_side u s = fit u wrong_side (failed turns wrong_side behind_turn refl (ap not (eq-eqb _ _ s)))

      module _ (u : y ≡ 0) (s : side q ≡ side (position_at ps m) → ⊥) where
        turned : (v : ℕ) → v ≡ first_refusal behind_turn → v ≡ answer
        turned v f = fit u v (held turns wrong_side v behind_turn (ap not (ne_eqb (side q) (side (position_at ps m)) s)) f)

        pub move_wrong_record : follows ≡ false → wrong_record ≡ answer
        move_wrong_record f = turned wrong_record (failed follows wrong_record last refl f)

        module _ (t : follows ≡ true) where
          followed : (v : ℕ) → v ≡ first_refusal last → v ≡ answer
          followed v f = turned v (held follows wrong_record v last t f)

          pub move_full : limits.most_actions ≤ n → log_full ≡ answer
          move_full h = followed log_full (failed room log_full [] refl (ap (λ (o : Bool). o && ltb m limits.most_moves) (le-ltb n limits.most_actions h)))

          pub move_no_place : n < limits.most_actions → limits.most_moves ≤ m → log_full ≡ answer
          move_no_place h g = followed log_full (failed room log_full [] refl (ap₂ ◌&&◌ (lt-ltb n limits.most_actions h) (le-ltb m limits.most_moves g)))

          pub move_passed : n < limits.most_actions → m < limits.most_moves → 0 ≡ answer
          move_passed h g = followed 0 (held room log_full 0 [] (ap₂ ◌&&◌ (lt-ltb n limits.most_actions h) (lt-ltb m limits.most_moves g)) none_left_lem)

-- the side of a board that is given, and that of the position in the log, as a byte
module _ (b : BoardBuilder) (check : ℕ) (list ps p : List ℕ) (m x : ℕ) (long : length b.pieces ≡ squares) (here : p ≡ item position_size ps m)
    (e : x ≡ get_or p side_at 0) where
  given_side : side (position_given b check list) ≡ b.side_to_move
  unfolding numbers
  given_side = behind b long 0

  log_side : x ≡ side (position_at ps m)
  log_side = e ∙ ap (λ (s : List ℕ). get_or s side_at 0) here ∙ sym (side_at_fact (item position_size ps m))

  pub same_side : b.side_to_move ≡ x → side (position_given b check list) ≡ side (position_at ps m)
  same_side f = given_side ∙ f ∙ log_side

  pub other_side : (b.side_to_move ≡ x → ⊥) → side (position_given b check list) ≡ side (position_at ps m) → ⊥
  other_side f g = f (sym given_side ∙ g ∙ sym log_side)

-- the record that is given, and the one after the move from the position in the log
pub record_tells : (b : BoardBuilder) (check : ℕ) (list ps p : List ℕ) (m x : ℕ) (t : Bool) → p ≡ item position_size ps m
    → record_size ≤ length (item position_size ps m) → t ≡ moves_on_to p x b → t ≡ comes_after (position_at ps m) x (position_given b check list)
unfolding position_of moves_on_to comes_from counters_lead
record_tells b check list ps p m x t here long e =
    e ∙ ap (λ (s : List ℕ). moves_on_to s x b) here ∙ rw (le-leb record_size (length (item position_size ps m)) long)

-- a start's checks: 16, then 5 or 6
module _ (acts ps : List ℕ) (p : Position) where
  pub start_no_actions : length acts < actions_length limits → part_too_short ≡ start_answer limits acts ps p
  unfolding start_answer
  start_no_actions h = failed (long_enough limits acts ps) part_too_short (position_check p ∷ []) refl
      (ap (λ (t : Bool). t && leb (positions_length limits) (length ps)) (lt-leb _ _ h))

  pub start_no_positions : actions_length limits ≤ length acts → length ps < positions_length limits → part_too_short ≡ start_answer limits acts ps p
  unfolding start_answer
  start_no_positions h g = failed (long_enough limits acts ps) part_too_short (position_check p ∷ []) refl (ap₂ ◌&&◌ (le-leb _ _ h) (lt-leb _ _ g))

  pub start_checked : (x : ℕ) → actions_length limits ≤ length acts → positions_length limits ≤ length ps → x ≡ position_check p
      → x ≡ start_answer limits acts ps p
  unfolding start_answer
  start_checked x h g e = held (long_enough limits acts ps) part_too_short x (position_check p ∷ []) (ap₂ ◌&&◌ (le-leb _ _ h) (le-leb _ _ g))
      (only (position_check p) x e)

  -- the writer's 7 does not come, since the part is long enough
  module _ (h : actions_length limits ≤ length acts) (g : positions_length limits ≤ length ps) where
    holds : position_check p ≡ 0 → leb (length (position_bytes p)) (length ps) ≡ true
    holds k = le-leb (length (position_bytes p)) (length ps) (omega (arith, g, one_size p k))

    put_number_lem : (write_answer (position_check p) (position_bytes p) (length ps)).number ≡ position_check p
    unfolding write_answer
    put_number_lem = go (eqb (position_check p) 0) refl
      where
        go : (t : Bool) → eqb (position_check p) 0 ≡ t → (write_answer (position_check p) (position_bytes p) (length ps)).number ≡ position_check p
        go true e = let k = eqb-true (position_check p) 0 e in simp (e, holds k) (sym k)
        go false e = simp e

    put_left : write_bytes (position_check p) (position_bytes p) ps ≡ positions_begun (position_check p) ps p
    unfolding write_bytes positions_begun
    put_left = go (eqb (position_check p) 0) refl
      where
        go : (t : Bool) → eqb (position_check p) 0 ≡ t → write_bytes (position_check p) (position_bytes p) ps ≡ positions_begun (position_check p) ps p
        go true e =
            let from : length (position_bytes p) ≡ 0 + length (position_bytes p) = omega arith in
            simp (e, holds (eqb-true (position_check p) 0 e)) (ap (λ (n : ℕ). position_bytes p ++ drop n ps) from)
        go false e = simp e

    pub start_put : (x : Answer) (w : List ℕ) (r : Counts) → x ≡ write_answer (position_check p) (position_bytes p) (length ps)
        → w ≡ write_bytes (position_check p) (position_bytes p) ps → r ≡ counts x.number 0 0
        → (r ≡ counts (start_answer limits acts ps p) 0 0) × (w ≡ positions_begun (start_answer limits acts ps p) ps p)
    start_put x w r answered left given =
        let e : position_check p ≡ start_answer limits acts ps p = start_checked (position_check p) h g refl in
        let number : x.number ≡ start_answer limits acts ps p = ap (λ (y : Answer). y.number) answered ∙ put_number_lem ∙ e in
        (given ∙ ap (λ (n : ℕ). counts n 0 0) number, left ∙ put_left ∙ ap (λ (n : ℕ). positions_begun n ps p) e)

-- the queries
module _ (acts ps : List ℕ) (n m x v : ℕ) (r : Answer) (e : x ≡ log_check limits acts ps n m) (f : v ≡ result_at acts ps n m) where
  pub result_told_lem : x ≡ 0 → r ≡ accepted v → r ≡ result_answer limits acts ps n m
  unfolding result_answer
  result_told_lem z given =
      let w = log_ready acts ps n m (sym e ∙ z) in
      told_value (log_check limits acts ps n m) x _ r e z (given ∙ ap accepted (f ∙ result_is limits acts ps n m w.counted w.ok))

  module _ (z : x ≡ 0) where
    ready : Ready acts ps n m
    ready = log_ready acts ps n m (sym e ∙ z)

    abbrev ruled : Bool
    ruled = not (ended (history_of acts ps n)) && claim_stands (history_of acts ps n)

    result_here : v ≡ result (history_of acts ps n)
    result_here = f ∙ result_is limits acts ps n m ready.counted ready.ok

    pub claim_over : (v ≡ 0 → ⊥) → r ≡ accepted 0 → r ≡ claim_answer limits acts ps n m
    unfolding claim_answer
    claim_over some given =
        told_value (log_check limits acts ps n m) x (cond ruled 1 0) r e z
        (given ∙ rw (ne_eqb (result (history_of acts ps n)) 0 (λ y. some (result_here ∙ y))))

    pub claim_told : (t : Bool) → v ≡ 0 → t ≡ claim_at acts ps n m → r ≡ accepted (cond t 1 0) → r ≡ claim_answer limits acts ps n m
    unfolding claim_answer
    claim_told t y g given =
        told_value (log_check limits acts ps n m) x (cond ruled 1 0) r e z
        (given
        ∙ ap (λ (u : Bool). accepted (cond u 1 0))
        (g ∙ claim_is acts ps n m ready.counted (omega (arith, ready.few, ready.room)) (omega (arith, ready.some, ready.place)))
        ∙ rw (eq-eqb (result (history_of acts ps n)) 0 (sym result_here ∙ y)))
