-- What a host may do with the lists of a game (document 02, order 13): sort every list alike. Two hosts whose lists for each record have the same entries,
-- each as often, get the same answers and rulings, whatever order each has.
-- Assumes nothing.
use Rattle.std.specs.Prelude.{ℕ, ◌≡◌, List}
use Rattle.game_rules.specs.Limits.{Limits}
use Rattle.game_rules.specs.Rules.{Call, History, result, offer_stands, claim_stands, answer}
use Rattle.laws.specs.Laws.{laws_claim_stands}
use Rattle.laws.specs.Ruling.{ruled_on}
use Rattle.san_lists.specs.Lists.{Reordered}
use Rattle.log_lists.specs.Relisted.{Host, call_relisted, game_of}

-- the same lists except for their order
abbrev pub SameLists : Host → Host → Type 0
SameLists host other = (board : List ℕ) → Reordered (host board) (other board)

-- what the answers to the queries depend on: the result, a standing offer, both claims, and all that a ruling shows
pub record RuledAlike (h k : History) : Type 0 where
  pub results : result h ≡ result k
  pub offers : offer_stands h ≡ offer_stands k
  pub claims : claim_stands h ≡ claim_stands k
  pub laws_claims : laws_claim_stands h ≡ laws_claim_stands k
  pub rulings : ruled_on h ≡ ruled_on k

abbrev pub SortedAlikeRulesAlike : Type 0
SortedAlikeRulesAlike = (host other : Host) → SameLists host other → (h : History) → RuledAlike (game_of host h) (game_of other h)

-- and every call after that is answered alike, refusals included
abbrev pub SortedAlikeAnswersAlike : Type 0
SortedAlikeAnswersAlike =
    (host other : Host) → SameLists host other → (L : Limits) (h : History) (c : Call)
    → answer L (game_of host h) (call_relisted host c) ≡ answer L (game_of other h) (call_relisted other c)
