-- Two hosts whose lists for each record have the same entries get the same answers and rulings.
-- Assumes nothing.
use mathlib.Core.Path.{◌≡◌}
use Rattle.position.specs.Layout.{Position}
use Rattle.stored_position.specs.Bytes.{position_check}
use Rattle.ending.specs.Ending.{result_of, offer_in}
use Rattle.game_rules.specs.Limits.{Limits}
use Rattle.game_rules.specs.Rules.{Call, make_move, offer_draw, accept_draw, declare_draw, resign, History}
use Rattle.game_rules.specs.Rules.{current, result, offer_stands, ruling, repeats, claim_stands, answer}
use Rattle.laws.specs.Laws.{laws_claim_stands}
use Rattle.laws.specs.Ruling.{equals_at, ruled_on}
use Rattle.san_lists.proofs.Counts.{reordered_listed, reordered_length, reordered_range}
use Rattle.log_lists.specs.Relisted.{Host, listed, call_relisted, game_of}
use Rattle.log_lists.specs.Promises.{SameLists, SortedAlikeRulesAlike, SortedAlikeAnswersAlike}
use Rattle.log_lists.proofs.Games.{current_of, actions_of, moves_of, last_of, last_but_one_of, ruling_of, laws_count_of, repeats_both, places_both}

module _ (host other : Host) (same : SameLists host other) where
  -- ---- a position's answers

  check_both : (p : Position) → position_check (listed host p) ≡ position_check (listed other p)
  unfolding position_check
  check_both p = rw (reordered_range (host p.board) (other p.board) (same p.board))

  -- ---- a game's

  results_same : (h : History) → result (game_of host h) ≡ result (game_of other h)
  unfolding result result_of
  results_same h =
      let p = current h in
      rw (current_of host h, current_of other h, last_of host h, last_of other h, reordered_length (host p.board) (other p.board) (same p.board))

  offers_same : (h : History) → offer_stands (game_of host h) ≡ offer_stands (game_of other h)
  unfolding offer_stands offer_in
  offers_same h = rw (current_of host h, current_of other h, last_of host h, last_of other h, last_but_one_of host h, last_but_one_of other h)

  repeats_same : (h : History) → repeats (ruling (game_of host h)).run ≡ repeats (ruling (game_of other h)).run
  repeats_same h = rw (ruling_of host h, ruling_of other h) (repeats_both host other (ruling h).run)

  counts_same : (h : History) → (ruling (game_of host h)).count ≡ (ruling (game_of other h)).count
  counts_same h = rw (ruling_of host h, ruling_of other h)

  claims_same : (h : History) → claim_stands (game_of host h) ≡ claim_stands (game_of other h)
  unfolding claim_stands
  claims_same h = rw (counts_same h, repeats_same h)

  laws_claims_same : (h : History) → laws_claim_stands (game_of host h) ≡ laws_claim_stands (game_of other h)
  unfolding laws_claim_stands
  laws_claims_same h = rw (laws_count_of host h, laws_count_of other h, repeats_same h)

  places_same : (h : History) → equals_at (game_of host h) ≡ equals_at (game_of other h)
  unfolding equals_at
  places_same h =
      rw (current_of host h, current_of other h, moves_of host h, moves_of other h, ruling_of host h, ruling_of other h)
      (places_both host other (current h) _ (ruling h).run)

  rulings_same : (h : History) → ruled_on (game_of host h) ≡ ruled_on (game_of other h)
  unfolding ruled_on
  rulings_same h =
      rw (places_same h, counts_same h, repeats_same h, laws_count_of host h, laws_count_of other h, results_same h)

  answers_same : (L : Limits) (h : History) (c : Call) → answer L (game_of host h) (call_relisted host c) ≡ answer L (game_of other h) (call_relisted other c)
  unfolding answer
  answers_same L h (make_move m p) =
      let b = (current h).board in
      rw (
        results_same h,
        current_of host h,
        current_of other h,
        reordered_listed (host b) (other b) (same b) m,
        check_both p,
        actions_of host h,
        actions_of other h,
        moves_of host h,
        moves_of other h,
      )
  answers_same L h (offer_draw c) = rw (results_same h, actions_of host h, actions_of other h)
  answers_same L h accept_draw = rw (results_same h, offers_same h, actions_of host h, actions_of other h)
  answers_same L h declare_draw = rw (results_same h, claims_same h, actions_of host h, actions_of other h)
  answers_same L h (resign c) = rw (results_same h, actions_of host h, actions_of other h)

pub sorted_alike_rules_alike : SortedAlikeRulesAlike
sorted_alike_rules_alike host other same h = record {
  results = results_same host other same h;
  offers = offers_same host other same h;
  claims = claims_same host other same h;
  laws_claims = laws_claims_same host other same h;
  rulings = rulings_same host other same h;
}

pub sorted_alike_answers_alike : SortedAlikeAnswersAlike
sorted_alike_answers_alike host other same = answers_same host other same
