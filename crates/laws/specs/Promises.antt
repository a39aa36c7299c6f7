-- What is promised about the two counts and the two rulings, each as a statement that can be read by itself.
-- Assumes nothing.
use Rattle.std.specs.Prelude.{◌≡◌, true, cond, not, ◌&&◌, List, ℕ, ◌≤◌, ◌<◌, length}
use Rattle.answer.specs.Answer.{accepted}
use Rattle.claim.specs.Claim.{claim_count}
use Rattle.game_rules.specs.Limits.{Limits}
use Rattle.game_rules.specs.Rules.{History, ended, ruling, repeats, claim_stands}
use Rattle.game_rules.specs.Good.{Accepted, Holding}
use Rattle.game_rules.specs.Calls.{long_enough, claim_answer}
use Rattle.game_rules.specs.Promises.{SameUsed}
use Rattle.laws.specs.Laws.{moves_made, laws_count, laws_claim_stands, rights_kept}
use Rattle.laws.specs.Ruling.{equals_at, ruled_on, ruling_answer, laws_answer}

-- the Laws' count is never lower than the crate's
abbrev pub NeverUnder : Type 0
NeverUnder = (h : History) → (ruling h).count ≤ laws_count h

-- the Laws' count has reached 100, the crate's has not, and no two earlier positions of the run equal the last
pub record ByTheLawsAlone (h : History) : Type 0 where
  pub laws : claim_count ≤ laws_count h
  pub count : (ruling h).count < claim_count
  pub equals : repeats (ruling h).run < 2

-- the two rulings differ exactly then
pub record DifferSo (h : History) : Type 0 where
  pub only_then : (laws_claim_stands h ≡ claim_stands h → ⊥) → ByTheLawsAlone h
  pub then : ByTheLawsAlone h → laws_claim_stands h ≡ claim_stands h → ⊥

abbrev pub TheyDifferSo : Type 0
TheyDifferSo = (h : History) → DifferSo h

-- where no right changed since the Laws' count began, they are the same
pub record TheSame (h : History) : Type 0 where
  pub counts : laws_count h ≡ (ruling h).count
  pub rulings : laws_claim_stands h ≡ claim_stands h

abbrev pub SameWhereRightsWereKept : Type 0
SameWhereRightsWereKept = (h : History) → rights_kept (moves_made h) ≡ true → TheSame h

-- as many numbers of equal positions are at hand as there are equal positions
abbrev pub EqualsAreShown : Type 0
EqualsAreShown = (h : History) → length (equals_at h) ≡ repeats (ruling h).run

-- what is shown is what the queries say: a reason is given exactly if the query says 1
pub record AsTheQueries (L : Limits) (acts ps : List ℕ) (n m : ℕ) : Type 0 where
  pub numbers : (ruling_answer L acts ps n m).number ≡ (claim_answer L acts ps n m).number
  pub laws_numbers : (ruling_answer L acts ps n m).number ≡ (laws_answer L acts ps n m).number
  pub claim : ((ruling_answer L acts ps n m).claim ≡ 0 → ⊥) → (claim_answer L acts ps n m).value ≡ 1
  pub no_claim : (ruling_answer L acts ps n m).claim ≡ 0 → (claim_answer L acts ps n m).value ≡ 0
  pub laws_claim : ((ruling_answer L acts ps n m).laws_claim ≡ 0 → ⊥) → (laws_answer L acts ps n m).value ≡ 1
  pub no_laws_claim : (ruling_answer L acts ps n m).laws_claim ≡ 0 → (laws_answer L acts ps n m).value ≡ 0

abbrev pub RulingsAreAsTheQueries : Type 0
RulingsAreAsTheQueries = (L : Limits) (acts ps : List ℕ) (n m : ℕ) → AsTheQueries L acts ps n m

-- on a log that some accepted calls made, with parts that are long enough, both queries answer for those calls
pub record RuledAsPlayed (L : Limits) (acts ps : List ℕ) (n m : ℕ) (h : History) : Type 0 where
  pub ruling_told : ruling_answer L acts ps n m ≡ ruled_on h
  pub laws_told : laws_answer L acts ps n m ≡ accepted (cond (not (ended h) && laws_claim_stands h) 1 0)

abbrev pub EveryLogIsRuledAsPlayed : Type 0
EveryLogIsRuledAsPlayed = (L : Limits) (acts ps : List ℕ) (n m : ℕ) (h : History) → long_enough L acts ps ≡ true → Accepted L h → Holding acts ps n m h
    → RuledAsPlayed L acts ps n m h

-- and they look at nothing past the used actions and positions
pub record SameRulings (L : Limits) (acts bacts ps qs : List ℕ) (n m : ℕ) : Type 0 where
  pub to_ruling : ruling_answer L acts ps n m ≡ ruling_answer L bacts qs n m
  pub to_laws : laws_answer L acts ps n m ≡ laws_answer L bacts qs n m

abbrev pub LooksAtNothingPast : Type 0
LooksAtNothingPast = (L : Limits) (acts bacts ps qs : List ℕ) (n m : ℕ) → SameUsed L acts bacts ps qs n m → SameRulings L acts bacts ps qs n m
