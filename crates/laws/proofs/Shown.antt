-- What the code shows for a log that passed its checks is what the rules say about its history; and the Laws' query.
-- Assumes nothing.
use mathlib.Core.Path.{◌≡◌, refl, sym, ap, ◌∙◌}
use mathlib.Core.Bool.{Bool, true, false, cond, not}
use mathlib.Core.List.{List, ◌∷◌}
use Prim.Native.Nat.{ℕ, suc, ◌+◌, ◌*◌, ◌-◌, ◌≤◌, ◌<◌}
use native.Mathlib.Omega.{arith}
use lib.Dec.{eqb, leb}
use lib.ListN.{length}
use borrow.Author.Tests.{le-leb, lt-leb, eq-eqb, ne_eqb}
use Rattle.answer.specs.Answer.{accepted, refused}
use Rattle.position.specs.declared.Places.{Places}
use Rattle.position.specs.Layout.{position_size, position_at, positions_from}
use Rattle.position.specs.Repeats.{equals_two_earlier}
use Rattle.position.specs.Places.{places_of, places_told, equal_places}
use Rattle.ending.specs.Ending.{result_at}
use Rattle.claim.specs.declared.Run.{Run}
use Rattle.claim.specs.Claim.{claim_count, run_at}
use Rattle.game_rules.specs.Limits.{limits}
use Rattle.game_rules.specs.Rules.{moves, result, ruling, repeats}
use Rattle.game_rules.specs.Good.{history_of}
use Rattle.game_rules.specs.Calls.{log_check}
use Rattle.game_rules.proofs.Log.{moves_at_lem, current_is, result_is}
use Rattle.game_rules.proofs.Rulings.{run_is}
use Rattle.game.proofs.Answers.{Ready, log_ready}
use Rattle.laws.specs.declared.Ruled.{Ruled}
use Rattle.laws.specs.CodeSince.{laws_since}
use Rattle.laws.specs.Laws.{laws_count, laws_claim_stands}
use Rattle.laws.specs.Ruling.{equals_at, reason, ruled_on, not_ruled, ruling_answer, laws_answer}
use Rattle.laws.proofs.Counted.{laws_counted}
use Rattle.laws.proofs.Histories.{equals_are_shown}

-- the eight numbers
abbrev shown : ℕ → ℕ → Places → ℕ → ℕ → Ruled
shown count laws places claim laws_claim = record {
  number = 0;
  count = count;
  laws_count = laws;
  equals = places.count;
  first = places.first;
  second = places.second;
  claim = claim;
  laws_claim = laws_claim;
}

module _ (acts ps : List ℕ) (n m : ℕ) (passed : log_check limits acts ps n m ≡ 0) where
  ready : Ready acts ps n m
  ready = log_ready acts ps n m passed

  count_is : m - (run_at acts ps n).since ≡ (ruling (history_of acts ps n)).count
  count_is = ap (λ (k : ℕ). k - (run_at acts ps n).since) ready.counted ∙ sym (run_is acts ps n).counted

  laws_is : m - laws_since acts ps n ≡ laws_count (history_of acts ps n)
  laws_is = ap (λ (k : ℕ). k - laws_since acts ps n) ready.counted ∙ sym (laws_counted acts ps n)

  run_here : (ruling (history_of acts ps n)).run ≡ position_at ps m ∷ positions_from ps (run_at acts ps n).first (m - (run_at acts ps n).first)
  unfolding positions_from
  run_here =
      let was = run_is acts ps n in
      let first = (run_at acts ps n).first in
      let long : suc m - first ≡ suc (m - first) = omega (arith, was.begins, ready.counted) in
      let top : first + (m - first) ≡ m = omega (arith, was.begins, ready.counted) in
      was.holds ∙ ap (λ (k : ℕ). positions_from ps first (suc k - first)) (sym ready.counted) ∙ rw (long, top)

  -- the numbers of the equal positions
  equals_here : equals_at (history_of acts ps n) ≡ places_of (position_at ps m) m (positions_from ps (run_at acts ps n).first (m - (run_at acts ps n).first))
  unfolding equals_at
  equals_here =
      let h = history_of acts ps n in
      let top : moves h ≡ m = moves_at_lem acts ps n ∙ sym ready.counted in
      rw (run_here, top, current_is limits acts ps n m ready.counted ready.ok)

  places_are : equal_places ps (run_at acts ps n).first m ≡ places_told (equals_at (history_of acts ps n))
  unfolding equal_places
  places_are =
      let inside : position_size * m + position_size ≤ length ps = omega (arith, ready.some, ready.place) in
      rw (le-leb _ _ inside, equals_here)

  -- the reason for a claim, by whether the game goes on
  reason_is : (g : Bool) (count : ℕ) (places : Places) → g ≡ eqb (result_at acts ps n m) 0 → places ≡ places_told (equals_at (history_of acts ps n))
      → cond g (cond (leb claim_count count) 1 0 + cond (leb 2 places.count) 2 0) 0 ≡ reason (history_of acts ps n) count
  reason_is g count places e f =
      let h = history_of acts ps n in
      let equals : places.count ≡ repeats (ruling h).run = ap (λ (p : Places). p.count) f ∙ equals_are_shown h in
      let goes : g ≡ eqb (result h) 0 = e ∙ ap (λ (k : ℕ). eqb k 0) (result_is limits acts ps n m ready.counted ready.ok) in
      rw (equals, goes) (turned (eqb (result h) 0) (cond (leb claim_count count) 1 0 + cond (leb 2 (repeats (ruling h).run)) 2 0))
    where
      turned : (t : Bool) (x : ℕ) → cond t x 0 ≡ cond (not t) 0 x
      turned true x = refl
      turned false x = refl

  pub ruled_by : (r : Run) (since count laws : ℕ) (places : Places) (g : Bool) (claim laws_claim : ℕ)
      → r ≡ run_at acts ps n → since ≡ laws_since acts ps n
      → count ≡ m - r.since → laws ≡ m - since
      → places ≡ equal_places ps r.first m
      → g ≡ eqb (result_at acts ps n m) 0
      → claim ≡ cond g (cond (leb claim_count count) 1 0 + cond (leb 2 places.count) 2 0) 0
      → laws_claim ≡ cond g (cond (leb claim_count laws) 1 0 + cond (leb 2 places.count) 2 0) 0
      → shown count laws places claim laws_claim ≡ ruled_on (history_of acts ps n)
  unfolding ruled_on
  ruled_by r since count laws places g claim laws_claim er es ec el ep eg ex ey =
      let h = history_of acts ps n in
      let counted : count ≡ (ruling h).count = ec ∙ ap (λ (q : Run). m - q.since) er ∙ count_is in
      let by-laws : laws ≡ laws_count h = el ∙ ap (λ (k : ℕ). m - k) es ∙ laws_is in
      let there : places ≡ places_told (equals_at h) = ep ∙ ap (λ (q : Run). equal_places ps q.first m) er ∙ places_are in
      let one : claim ≡ reason h (ruling h).count = ex ∙ reason_is g count places eg there ∙ ap (reason h) counted in
      let two : laws_claim ≡ reason h (laws_count h) = ey ∙ reason_is g laws places eg there ∙ ap (reason h) by-laws in
      rw (counted, by-laws, one, two, there, ← equals_are_shown h)

-- ---- the steps of the code

pub at_most : (t : Bool) (x r : ℕ) → r ≡ cond t x 0 → r ≤ x
at_most true x r e = omega arith
at_most false x r e = omega arith

module _ (acts ps : List ℕ) (n m x : ℕ) (e : x ≡ log_check limits acts ps n m) where
  pub ruling_refused : (x ≡ 0 → ⊥) → not_ruled x ≡ ruling_answer limits acts ps n m
  unfolding ruling_answer
  ruling_refused some = rw (← e, ne_eqb x 0 some)

  pub ruling_given : (r : Ruled) → x ≡ 0 → r ≡ ruled_on (history_of acts ps n) → r ≡ ruling_answer limits acts ps n m
  unfolding ruling_answer
  ruling_given r z given = rw (← e, eq-eqb x 0 z) given

-- ---- the Laws' query

module _ (acts ps : List ℕ) (n m : ℕ) (passed : log_check limits acts ps n m ≡ 0) (since count : ℕ)
    (es : since ≡ laws_since acts ps n) (ec : count ≡ m - since) where
  counted : count ≡ laws_count (history_of acts ps n)
  counted = ec ∙ ap (λ (k : ℕ). m - k) es ∙ laws_is acts ps n m passed

  pub stands_by_count : claim_count ≤ count → true ≡ laws_claim_stands (history_of acts ps n)
  unfolding laws_claim_stands
  stands_by_count h = rw (← counted, le-leb _ _ h)

  pub stands_by_run : count < claim_count → (r : Run) → r ≡ run_at acts ps n → equals_two_earlier ps r.first m ≡ laws_claim_stands (history_of acts ps n)
  unfolding laws_claim_stands equals_two_earlier
  stands_by_run h r e =
      let ready = log_ready acts ps n m passed in
      let inside : position_size * m + position_size ≤ length ps = omega (arith, ready.some, ready.place) in
      rw (← counted, lt-leb _ _ h, le-leb _ _ inside, run_here acts ps n m passed, e)

-- x is the log's check, v the game's result
module _ (acts ps : List ℕ) (n m x : ℕ) (e : x ≡ log_check limits acts ps n m) where
  pub laws_refused : (x ≡ 0 → ⊥) → refused x ≡ laws_answer limits acts ps n m
  unfolding laws_answer
  laws_refused some = rw (← e, ne_eqb x 0 some)

  module _ (z : x ≡ 0) (v : ℕ) (f : v ≡ result_at acts ps n m) where
    result_here : v ≡ result (history_of acts ps n)
    result_here =
        let r = log_ready acts ps n m (sym e ∙ z) in
        f ∙ result_is limits acts ps n m r.counted r.ok

    pub laws_over : (v ≡ 0 → ⊥) → accepted 0 ≡ laws_answer limits acts ps n m
    unfolding laws_answer
    laws_over some = rw (← e, eq-eqb x 0 z, ← result_here, ne_eqb v 0 some)

    pub laws_told : v ≡ 0 → (t : Bool) → t ≡ laws_claim_stands (history_of acts ps n) → accepted (cond t 1 0) ≡ laws_answer limits acts ps n m
    unfolding laws_answer
    laws_told y t g = rw (← e, eq-eqb x 0 z, ← result_here, eq-eqb v 0 y, ← g)
