-- The two counts and the two rulings over histories: which is never lower, where they differ, where not; what is shown is what the queries say.
-- Assumes nothing.
use mathlib.Core.Path.{◌≡◌, refl, sym, ap, ◌∙◌}
use mathlib.Core.Bool.{Bool, true, false, cond, not, ◌&&◌, ◌||◌, true≢false}
use mathlib.Core.List.{List, [], ◌∷◌}
use Prim.Native.Nat.{ℕ, suc, ◌+◌, ◌≤◌, ◌<◌}
use native.Mathlib.Decide.{dec_le}
use native.Mathlib.Omega.{arith}
use lib.Dec.{eqb, leb}
use borrow.Author.Tests.{le-leb, lt-leb}
use Rattle.position.specs.Layout.{Position}
use Rattle.position.proofs.PlacesOf.{places_times}
use Rattle.claim.specs.Emptying.{irreversible, rights_differ}
use Rattle.claim.specs.Claim.{claim_count}
use Rattle.game_rules.specs.Rules.{make_move, offer_draw, accept_draw, declare_draw, resign}
use Rattle.game_rules.specs.Rules.{History, begun, after, current, moves, ended, ruling, repeats, claim_stands}
use Rattle.game_rules.specs.Good.{history_of}
use Rattle.game_rules.specs.Calls.{log_check, claim_answer}
use Rattle.laws.specs.Laws.{moves_made, since_last, laws_count, laws_claim_stands, rights_kept}
use Rattle.laws.specs.Ruling.{equals_at, ruled_on, ruling_answer, laws_answer}
use Rattle.laws.specs.Promises.{NeverUnder, ByTheLawsAlone, TheyDifferSo, SameWhereRightsWereKept, EqualsAreShown, AsTheQueries, RulingsAreAsTheQueries}

-- ---- the counts

-- one move: s a pawn's or a capture, t with a change of rights
under_move : (s t : Bool) (a b : ℕ) → a ≤ b → cond (s || t) 0 (suc a) ≤ cond s 0 (suc b)
under_move true t a b h = omega arith
under_move false true a b h = omega arith
under_move false false a b h = omega arith

pub never_under : NeverUnder
unfolding ruling laws_count moves_made since_last
never_under (begun p) = omega arith
never_under (after h (make_move m q)) =
    under_move (irreversible (current h) m) (rights_differ (current h) q) (ruling h).count (laws_count h) (never_under h)
never_under (after h (offer_draw c)) = never_under h
never_under (after h accept_draw) = never_under h
never_under (after h declare_draw) = never_under h
never_under (after h (resign c)) = never_under h

kept_move : (s t k : Bool) (a b : ℕ) → (k ≡ true → b ≡ a) → cond s true (not t && k) ≡ true → cond s 0 (suc b) ≡ cond (s || t) 0 (suc a)
kept_move true t k a b f e = refl
kept_move false true k a b f e = absurd (true≢false (sym e))
kept_move false false k a b f e = ap suc (f e)

same_counts : (h : History) → rights_kept (moves_made h) ≡ true → laws_count h ≡ (ruling h).count
unfolding ruling laws_count moves_made since_last rights_kept
same_counts (begun p) e = refl
same_counts (after h (make_move m q)) e =
    kept_move (irreversible (current h) m) (rights_differ (current h) q) (rights_kept (moves_made h)) (ruling h).count (laws_count h) (same_counts h) e
same_counts (after h (offer_draw c)) e = same_counts h e
same_counts (after h accept_draw) e = same_counts h e
same_counts (after h declare_draw) e = same_counts h e
same_counts (after h (resign c)) e = same_counts h e

-- ---- the rulings

pub same_where_rights_were_kept : SameWhereRightsWereKept
unfolding laws_claim_stands claim_stands
same_where_rights_were_kept h e = record {
  counts = same_counts h e;
  rulings = ap (λ (n : ℕ). leb claim_count n || leb 2 (repeats (ruling h).run)) (same_counts h e);
}

module _ (h : History) where
  both_by_run : 2 ≤ repeats (ruling h).run → laws_claim_stands h ≡ claim_stands h
  unfolding laws_claim_stands claim_stands
  both_by_run r = rw (le-leb _ _ r) (or_true (leb claim_count (laws_count h)) ∙ sym (or_true (leb claim_count (ruling h).count)))
    where
      or_true : (b : Bool) → b || true ≡ true
      or_true true = refl
      or_true false = refl

  both_by_count : claim_count ≤ (ruling h).count → laws_claim_stands h ≡ claim_stands h
  unfolding laws_claim_stands claim_stands
  both_by_count c =
      let l : claim_count ≤ laws_count h = omega (arith, never_under h) in
      rw (le-leb _ _ c, le-leb _ _ l)

  neither : laws_count h < claim_count → laws_claim_stands h ≡ claim_stands h
  unfolding laws_claim_stands claim_stands
  neither l =
      let c : (ruling h).count < claim_count = omega (arith, never_under h) in
      rw (lt-leb _ _ c, lt-leb _ _ l)

  differ_by : Dec (2 ≤ repeats (ruling h).run) → Dec (claim_count ≤ (ruling h).count) → Dec (claim_count ≤ laws_count h)
      → (laws_claim_stands h ≡ claim_stands h → ⊥) → ByTheLawsAlone h
  differ_by (yes r) c l n = absurd (n (both_by_run r))
  differ_by (no r) (yes c) l n = absurd (n (both_by_count c))
  differ_by (no r) (no c) (yes l) n = record { laws = l; count = omega arith; equals = omega arith }
  differ_by (no r) (no c) (no l) n = absurd (n (neither (omega arith)))

  differ_then : ByTheLawsAlone h → laws_claim_stands h ≡ claim_stands h → ⊥
  unfolding laws_claim_stands claim_stands
  differ_then a e = true≢false (rw (le-leb _ _ a.laws, lt-leb _ _ a.count, lt-leb _ _ a.equals) at e)

pub they_differ_so : TheyDifferSo
they_differ_so h = record {
  only_then = differ_by h (dec_le 2 (repeats (ruling h).run)) (dec_le claim_count (ruling h).count) (dec_le claim_count (laws_count h));
  then = differ_then h;
}

-- ---- the run begins with the position on the board

pub run_head : (h : History) → (rest : List Position) × ((ruling h).run ≡ current h ∷ rest)
unfolding ruling current
run_head (begun p) = ([], refl)
run_head (after h (make_move m q)) = (_, refl)
run_head (after h (offer_draw c)) = run_head h
run_head (after h accept_draw) = run_head h
run_head (after h declare_draw) = run_head h
run_head (after h (resign c)) = run_head h

pub equals_are_shown : EqualsAreShown
unfolding equals_at
equals_are_shown h = let r = run_head h in rw r.1 (places_times (current h) (moves h) r.0)

-- ---- reasons and queries

claims : (e c r : Bool) → (cond e 0 (cond c 1 0 + cond r 2 0) ≡ 0 → ⊥) → ◌≡◌ {A = ℕ} (cond (not e && (c || r)) 1 0) 1
claims true c r n = absurd (n refl)
claims false true r n = refl
claims false false true n = refl
claims false false false n = absurd (n refl)

claims_none : (e c r : Bool) → cond e 0 (cond c 1 0 + cond r 2 0) ≡ 0 → ◌≡◌ {A = ℕ} (cond (not e && (c || r)) 1 0) 0
claims_none true c r z = refl
claims_none false true true z = absurd (omega arith)
claims_none false true false z = absurd (omega arith)
claims_none false false true z = absurd (omega arith)
claims_none false false false z = refl

pub rulings_are_as_the_queries : RulingsAreAsTheQueries
unfolding ruling_answer claim_answer laws_answer ruled_on claim_stands laws_claim_stands
rulings_are_as_the_queries L acts ps n m = go (eqb (log_check L acts ps n m) 0) refl
  where
    h : History
    h = history_of acts ps n

    C : Bool
    C = leb claim_count (ruling (history_of acts ps n)).count

    W : Bool
    W = leb claim_count (laws_count (history_of acts ps n))

    R : Bool
    R = leb 2 (repeats (ruling (history_of acts ps n)).run)

    E : Bool
    E = ended (history_of acts ps n)

    go : (t : Bool) → eqb (log_check L acts ps n m) 0 ≡ t → AsTheQueries L acts ps n m
    go true e = record {
      numbers = simp e;
      laws_numbers = simp e;
      claim = λ k. simp e (claims E C R (simp e at k));
      no_claim = λ z. simp e (claims_none E C R (simp e at z));
      laws_claim = λ k. simp e (claims E W R (simp e at k));
      no_laws_claim = λ z. simp e (claims_none E W R (simp e at z));
    }
    go false e = record {
      numbers = simp e;
      laws_numbers = simp e;
      claim = λ k. absurd ((simp e at k) refl);
      no_claim = λ z. simp e;
      laws_claim = λ k. absurd ((simp e at k) refl);
      no_laws_claim = λ z. simp e;
    }
