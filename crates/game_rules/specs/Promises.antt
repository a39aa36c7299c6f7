-- What is promised about the log, each as a statement that can be read by itself. All hold for any limits.
-- Assumes nothing.
use Rattle.std.specs.Prelude.{◌≡◌, true, cond, not, ◌&&◌, ◌↔◌, List, ℕ, suc, ◌+◌, ◌*◌, eqb, take}
use Rattle.answer.specs.Answer.{accepted}
use Rattle.chess_move.specs.Number.{source_of, dest_of}
use Rattle.move_rules.specs.After.{record_after, half_after, full_after}
use Rattle.action.specs.Layout.{action_size}
use Rattle.position.specs.Layout.{Position, side, position_size}
use Rattle.game_rules.specs.declared.Counts.{Counts}
use Rattle.game_rules.specs.Limits.{Limits}
use Rattle.game_rules.specs.Rules.{Call, make_move, offer_draw, accept_draw, declare_draw, resign}
use Rattle.game_rules.specs.Rules.{is_move, History, begun, after, current, answer, result, ended, claim_stands}
use Rattle.game_rules.specs.Good.{Accepted, Holding, Good, history_of, is_good}
use Rattle.game_rules.specs.Calls.{long_enough, call_answer, counts, counts_after, actions_after, positions_after, start_answer, positions_begun}
use Rattle.game_rules.specs.Calls.{result_answer, claim_answer}

-- the one-pass test decides whether a log is good
abbrev pub GoodIsDecided : Type 0
GoodIsDecided = (L : Limits) (acts ps : List ℕ) (n m : ℕ) → (is_good L acts ps n m ≡ true) ↔ Good L acts ps n m

-- a good log has only one history, and it is the one that the contracts read off the bytes ..
abbrev pub OneHistory : Type 0
OneHistory = (L : Limits) (acts ps : List ℕ) (n m : ℕ) (h : History) → Accepted L h → Holding acts ps n m h → history_of acts ps n ≡ h

-- .. so that on parts that are long enough every refusal, result and claim is that of the calls that made the log
pub record RuledAsPlayed (L : Limits) (acts ps : List ℕ) (n m : ℕ) (h : History) : Type 0 where
  pub calls : (c : Call) → call_answer L acts ps n m c ≡ answer L h c
  pub result_told_lem : result_answer L acts ps n m ≡ accepted (result h)
  pub claim_told : claim_answer L acts ps n m ≡ accepted (cond (not (ended h) && claim_stands h) 1 0)

abbrev pub EveryLogIsRuledAsPlayed : Type 0
EveryLogIsRuledAsPlayed = (L : Limits) (acts ps : List ℕ) (n m : ℕ) (h : History) → long_enough L acts ps ≡ true → Accepted L h → Holding acts ps n m h
    → RuledAsPlayed L acts ps n m h

-- what a call leaves: the number and the counts that it gives back, and the two parts
pub record Left : Type 0 where
  pub counts : Counts
  pub acts : List ℕ
  pub ps : List ℕ

abbrev pub left_by : ℕ → List ℕ → List ℕ → ℕ → ℕ → Call → Left
left_by a acts ps n m c = record { counts = counts_after a n m c; acts = actions_after a acts n c; ps = positions_after a ps m c }

unfoldable pub called : Limits → List ℕ → List ℕ → ℕ → ℕ → Call → Left
called L acts ps n m c = left_by (call_answer L acts ps n m c) acts ps n m c

unfoldable pub started : Limits → List ℕ → List ℕ → Position → Left
started L acts ps p =
    record { counts = counts (start_answer L acts ps p) 0 0; acts = acts; ps = positions_begun (start_answer L acts ps p) ps p }

-- the log that was left is good
abbrev pub GoodLeft : Limits → Left → Type 0
GoodLeft L x = Good L x.acts x.ps x.counts.actions x.counts.moves

-- an accepted start leaves a good log
abbrev pub StartIsGood : Type 0
StartIsGood = (L : Limits) (acts ps : List ℕ) (p : Position) → (started L acts ps p).counts.number ≡ 0 → GoodLeft L (started L acts ps p)

-- an accepted call leaves a good log: a promise that any program for the calls may be held to. (A log that is not good is not accepted.)
abbrev pub LogCall : Type 0
LogCall = Limits → List ℕ → List ℕ → ℕ → ℕ → Call → Left

abbrev pub KeepsGood : LogCall → Type 0
KeepsGood call =
    (L : Limits) (acts ps : List ℕ) (n m : ℕ) (c : Call) → Good L acts ps n m → (call L acts ps n m c).counts.number ≡ 0 → GoodLeft L (call L acts ps n m c)

-- only a good log is answered 0
abbrev pub AcceptedIsGood : Type 0
AcceptedIsGood = (L : Limits) (acts ps : List ℕ) (n m : ℕ) (c : Call) → (called L acts ps n m c).counts.number ≡ 0 → Good L acts ps n m

-- a refused call gives its counts back and changes no byte
abbrev pub RefusedChangesNothing : Type 0
RefusedChangesNothing = (L : Limits) (acts ps : List ℕ) (n m : ℕ) (c : Call) → ((called L acts ps n m c).counts.number ≡ 0 → ⊥)
    → called L acts ps n m c ≡ record { counts = counts (call_answer L acts ps n m c) n m; acts = acts; ps = ps }

-- a history played through the calls, on parts that held anything
unfoldable pub played : Limits → History → List ℕ → List ℕ → Left
played L (begun p) acts ps = started L acts ps p
played L (after h c) acts ps =
    called L (played L h acts ps).acts (played L h acts ps).ps (played L h acts ps).counts.actions (played L h acts ps).counts.moves c

-- each call of it is answered 0
unfoldable pub AllAnswered0 : Limits → History → List ℕ → List ℕ → Type 0
AllAnswered0 L (begun p) acts ps = (played L (begun p) acts ps).counts.number ≡ 0
AllAnswered0 L (after h c) acts ps = AllAnswered0 L h acts ps × ((played L (after h c) acts ps).counts.number ≡ 0)

-- the converse: an accepted history, played on any parts that are long enough, is answered 0 at each call and leaves its bytes and counts
abbrev pub AcceptedPlays : Type 0
AcceptedPlays = (L : Limits) (h : History) (acts ps : List ℕ) → long_enough L acts ps ≡ true → Accepted L h
    → AllAnswered0 L h acts ps
    × Holding (played L h acts ps).acts (played L h acts ps).ps (played L h acts ps).counts.actions (played L h acts ps).counts.moves h

-- order 9: "A logged move must then come with this record"; order 12: and with its counters
pub record WithItsRecord (p : Position) (m : ℕ) (q : Position) : Type 0 where
  pub numbers : q.board ≡ record_after p.board m
  pub half : q.half ≡ half_after p.board p.half (source_of m) (dest_of m)
  pub full : q.full ≡ full_after (side p) p.full

-- so did each move of a history ..
unfoldable pub Follows : History → Type 0
Follows (begun p) = Unit {0}
Follows (after h (make_move m p)) = Follows h × WithItsRecord (current h) m p
Follows (after h (offer_draw c)) = Follows h
Follows (after h accept_draw) = Follows h
Follows (after h declare_draw) = Follows h
Follows (after h (resign c)) = Follows h

-- .. that a good log holds ..
abbrev pub GoodLogsFollow : Type 0
GoodLogsFollow = (L : Limits) (acts ps : List ℕ) (n m : ℕ) → Good L acts ps n m → Follows (history_of acts ps n)

-- .. and a move that is answered 0
abbrev pub MovesComeWithTheirRecord : Type 0
MovesComeWithTheirRecord = (L : Limits) (acts ps : List ℕ) (n m x : ℕ) (p : Position) → (called L acts ps n m (make_move x p)).counts.number ≡ 0
    → WithItsRecord (current (history_of acts ps n)) x p

-- two logs whose parts are long enough and agree on the used bytes
pub record SameUsed (L : Limits) (acts bacts ps qs : List ℕ) (n m : ℕ) : Type 0 where
  pub long : long_enough L acts ps ≡ true
  pub also_long : long_enough L bacts qs ≡ true
  pub action_bytes_fact : take (action_size * n) acts ≡ take (action_size * n) bacts
  pub position_bytes_fact : take (position_size * suc m) ps ≡ take (position_size * suc m) qs

-- get the same answers: a call looks at nothing past the used actions and positions
pub record SameAnswers (L : Limits) (acts bacts ps qs : List ℕ) (n m : ℕ) : Type 0 where
  pub to_call : (c : Call) → call_answer L acts ps n m c ≡ call_answer L bacts qs n m c
  pub to_result : result_answer L acts ps n m ≡ result_answer L bacts qs n m
  pub to_claim : claim_answer L acts ps n m ≡ claim_answer L bacts qs n m

abbrev pub LooksAtNothingPast : Type 0
LooksAtNothingPast = (L : Limits) (acts bacts ps qs : List ℕ) (n m : ℕ) → SameUsed L acts bacts ps qs n m → SameAnswers L acts bacts ps qs n m

-- a call that is answered 0 stores itself: it may be made after the calls that the log holds, and the log that is left holds them and it
pub record StoredSo (L : Limits) (h : History) (c : Call) (x : Left) : Type 0 where
  pub lawful : answer L h c ≡ 0
  pub holds : Holding x.acts x.ps x.counts.actions x.counts.moves (after h c)

abbrev pub StoresCalls : LogCall → Type 0
StoresCalls call = (L : Limits) (acts ps : List ℕ) (n m : ℕ) (h : History) (c : Call) → Accepted L h → Holding acts ps n m h
    → (call L acts ps n m c).counts.number ≡ 0 → StoredSo L h c (call L acts ps n m c)

-- demand 2's rulings: what the log that is left then answers is what the rules say about the calls made
abbrev pub RuledLeft : Limits → Left → History → Type 0
RuledLeft L x h = RuledAsPlayed L x.acts x.ps x.counts.actions x.counts.moves h

abbrev pub RulesOnCalls : LogCall → Type 0
RulesOnCalls call = (L : Limits) (acts ps : List ℕ) (n m : ℕ) (h : History) (c : Call) → Accepted L h → Holding acts ps n m h
    → (call L acts ps n m c).counts.number ≡ 0 → RuledLeft L (call L acts ps n m c) (after h c)

-- both are kept by ours
abbrev pub CallsAreStored : Type 0
CallsAreStored = StoresCalls called

abbrev pub CallsAreRuledOn : Type 0
CallsAreRuledOn = RulesOnCalls called

-- a log that stores its first action and merely says yes to later ones, even to those that must be refused; `later` is what it counts after them
abbrev pub first_only : (ℕ → ℕ → Call → ℕ × ℕ) → LogCall
first_only later L acts ps n m c =
    cond (eqb n 0) (called L acts ps n m c) (record { counts = counts 0 (later n m c).0 (later n m c).1; acts = acts; ps = ps })

-- keeps neither, whatever it counts: an action that it did not store is not there, and a resignation is not the game's result
pub record Fails (call : LogCall) : Type 0 where
  pub to_store : StoresCalls call → ⊥
  pub to_rule : RulesOnCalls call → ⊥

abbrev pub FirstOnlyIsHollow : Type 0
FirstOnlyIsHollow = (later : ℕ → ℕ → Call → ℕ × ℕ) → Fails (first_only later)

-- where it counts on, the log that it leaves is not even good ..
abbrev pub counts_on : ℕ → ℕ → Call → ℕ × ℕ
counts_on n m c = (n + 1, cond (is_move c) (m + 1) m)

abbrev pub CountingOnIsNotGood : Type 0
CountingOnIsNotGood = KeepsGood (first_only counts_on) → ⊥

-- .. but saying yes with the counts as given leaves good logs, so that good logs alone would not stop it
abbrev pub SameCountsKeepGood : Type 0
SameCountsKeepGood = KeepsGood (first_only (λ (n m : ℕ) (c : Call). (n, m)))
