-- A game as a host plays it, beside the game itself: what stands on the board, the counts and the run have the host's lists and are otherwise the same; and
-- two positions with one host's lists are equal exactly if their records are.
-- Assumes nothing.
use Prim.Native.Nat.{ℕ, suc, ◌-◌}
use mathlib.Core.Path.{◌≡◌, refl, sym, ap, ◌∙◌}
use mathlib.Core.Bool.{Bool, true, false, cond, ◌&&◌}
use mathlib.Core.List.{List, [], ◌∷◌}
use Rattle.answer.specs.Numbers.{same}
use Rattle.answer.proofs.Same.{same_refl, same_eq}
use Rattle.position.specs.Layout.{Position}
use Rattle.position.specs.Repeats.{equal, times}
use Rattle.position.specs.Places.{places_of}
use Rattle.claim.specs.Emptying.{irreversible, rights_differ, empties_run}
use Rattle.game_rules.specs.Rules.{make_move, offer_draw, accept_draw, declare_draw, resign, History, begun, after}
use Rattle.game_rules.specs.Rules.{current, actions, moves, last_made, last_but_one, ruling, repeats}
use Rattle.laws.specs.Laws.{moves_made, since_last, laws_count}
use Rattle.laws.specs.Ruling.{earlier}
use Rattle.log_lists.specs.Relisted.{Host, listed, game_of}

-- positions with a host's lists
unfoldable pub listed_all : Host → List Position → List Position
listed_all host [] = []
listed_all host (p ∷ ps) = listed host p ∷ listed_all host ps

module _ (host : Host) where
  pub current_of : (h : History) → current (game_of host h) ≡ listed host (current h)
  unfolding current game_of
  current_of (begun p) = refl
  current_of (after h (make_move m p)) = refl
  current_of (after h (offer_draw c)) = current_of h
  current_of (after h accept_draw) = current_of h
  current_of (after h declare_draw) = current_of h
  current_of (after h (resign c)) = current_of h

  pub actions_of : (h : History) → actions (game_of host h) ≡ actions h
  unfolding actions game_of
  actions_of (begun p) = refl
  actions_of (after h c) = ap suc (actions_of h)

  pub moves_of : (h : History) → moves (game_of host h) ≡ moves h
  unfolding moves game_of
  moves_of (begun p) = refl
  moves_of (after h (make_move m p)) = ap suc (moves_of h)
  moves_of (after h (offer_draw c)) = moves_of h
  moves_of (after h accept_draw) = moves_of h
  moves_of (after h declare_draw) = moves_of h
  moves_of (after h (resign c)) = moves_of h

  pub last_of : (h : History) → last_made (game_of host h) ≡ last_made h
  unfolding last_made game_of
  last_of (begun p) = refl
  last_of (after h (make_move m p)) = refl
  last_of (after h (offer_draw c)) = refl
  last_of (after h accept_draw) = refl
  last_of (after h declare_draw) = refl
  last_of (after h (resign c)) = refl

  pub last_but_one_of : (h : History) → last_but_one (game_of host h) ≡ last_but_one h
  unfolding last_but_one game_of
  last_but_one_of (begun p) = refl
  last_but_one_of (after h c) = last_of h

  -- ---- the count and the run

  irreversible_of : (p : Position) (m : ℕ) → irreversible (listed host p) m ≡ irreversible p m
  unfolding irreversible
  irreversible_of p m = refl

  rights_of_lem : (p q : Position) → rights_differ (listed host p) (listed host q) ≡ rights_differ p q
  unfolding rights_differ
  rights_of_lem p q = refl

  run_cut : (b : Bool) (ps : List Position) → cond b [] (listed_all host ps) ≡ listed_all host (cond b [] ps)
  unfolding listed_all
  run_cut true ps = refl
  run_cut false ps = refl

  pub ruling_of : (h : History) → ruling (game_of host h) ≡ record { count = (ruling h).count; run = listed_all host (ruling h).run }
  unfolding ruling game_of listed_all
  ruling_of (begun p) = refl
  ruling_of (after h (make_move m q)) =
      rw (current_of h, ruling_of h, irreversible_of (current h) m, rights_of_lem (current h) q, run_cut (empties_run (current h) m q) (ruling h).run)
  ruling_of (after h (offer_draw c)) = ruling_of h
  ruling_of (after h accept_draw) = ruling_of h
  ruling_of (after h declare_draw) = ruling_of h
  ruling_of (after h (resign c)) = ruling_of h

  since_of : (h : History) → since_last (moves_made (game_of host h)) ≡ since_last (moves_made h)
  unfolding since_last moves_made game_of
  since_of (begun p) = refl
  since_of (after h (make_move m q)) = rw (current_of h, irreversible_of (current h) m, since_of h)
  since_of (after h (offer_draw c)) = since_of h
  since_of (after h accept_draw) = since_of h
  since_of (after h declare_draw) = since_of h
  since_of (after h (resign c)) = since_of h

  pub laws_count_of : (h : History) → laws_count (game_of host h) ≡ laws_count h
  unfolding laws_count
  laws_count_of h = since_of h

  -- ---- equal positions

  equal_of : (q p : Position) → equal (listed host q) (listed host p) ≡ same q.board p.board
  unfolding equal
  equal_of q p = go (same q.board p.board) refl
    where
      go : (b : Bool) → same q.board p.board ≡ b → b && same (host q.board) (host p.board) ≡ b
      go true e = rw (same_eq q.board p.board e) (same_refl (host p.board))
      go false e = refl

-- the same for two hosts
module _ (host other : Host) where
  equal_both : (q p : Position) → equal (listed host q) (listed host p) ≡ equal (listed other q) (listed other p)
  equal_both q p = equal_of host q p ∙ sym (equal_of other q p)

  times_both : (p : Position) (ps : List Position) → times (listed host p) (listed_all host ps) ≡ times (listed other p) (listed_all other ps)
  unfolding times listed_all
  times_both p [] = refl
  times_both p (q ∷ qs) = rw (equal_both q p, times_both p qs)

  pub repeats_both : (ps : List Position) → repeats (listed_all host ps) ≡ repeats (listed_all other ps)
  unfolding listed_all
  repeats_both [] = refl
  repeats_both (p ∷ ps) = times_both p ps

  places_of_fact : (p : Position) (top : ℕ) (ps : List Position)
      → places_of (listed host p) top (listed_all host ps) ≡ places_of (listed other p) top (listed_all other ps)
  unfolding places_of listed_all
  places_of_fact p top [] = refl
  places_of_fact p top (q ∷ qs) = rw (equal_both q p, places_of_fact p (top - 1) qs)

  pub places_both : (p : Position) (top : ℕ) (ps : List Position)
      → places_of (listed host p) top (earlier (listed_all host ps)) ≡ places_of (listed other p) top (earlier (listed_all other ps))
  unfolding places_of listed_all
  places_both p top [] = refl
  places_both p top (q ∷ qs) = places_of_fact p top qs
