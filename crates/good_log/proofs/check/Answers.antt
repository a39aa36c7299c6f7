-- `check` of lib.rt meets its contract: r ≡ log_check limits (now acts.entry) (now ps.entry) n m.
use mathlib.Core.Path.{sym, ◌∙◌}
use borrow.Author.Tests.{le-leb, lt-leb}
use Rattle.game_rules.specs.Rules.{first_refusal}
use Rattle.game_rules.specs.Calls.{log_check}
use Rattle.good_log.proofs.check.Goals as goal

pub returns-then-acts-lt-ACTIONS_LENGTH : goal.returns-then-acts-lt-ACTIONS_LENGTH
unfolding log_check first_refusal
returns-then-acts-lt-ACTIONS_LENGTH c = rw (lt-leb _ _ c.if-acts-lt-ACTIONS_LENGTH.true)

pub returns-then-ps-lt-POSITIONS_LENGTH : goal.returns-then-ps-lt-POSITIONS_LENGTH
unfolding log_check first_refusal
returns-then-ps-lt-POSITIONS_LENGTH c = rw (le-leb _ _ c.if-acts-lt-ACTIONS_LENGTH.false, lt-leb _ _ c.if-ps-lt-POSITIONS_LENGTH.true)

pub returns-then-n-gt-MAX_ACTIONS : goal.returns-then-n-gt-MAX_ACTIONS
unfolding log_check first_refusal
returns-then-n-gt-MAX_ACTIONS c =
    rw (le-leb _ _ c.if-acts-lt-ACTIONS_LENGTH.false, le-leb _ _ c.if-ps-lt-POSITIONS_LENGTH.false, lt-leb _ _ c.if-n-gt-MAX_ACTIONS.true)

pub returns-then-m-gt-MAX_MOVES : goal.returns-then-m-gt-MAX_MOVES
unfolding log_check first_refusal
returns-then-m-gt-MAX_MOVES c =
    let at-if1 = c.if-acts-lt-ACTIONS_LENGTH in
    let at-if2 = c.if-ps-lt-POSITIONS_LENGTH in
    rw (le-leb _ _ at-if1.false, le-leb _ _ at-if2.false, le-leb _ _ c.if-n-gt-MAX_ACTIONS.false, lt-leb _ _ c.if-m-gt-MAX_MOVES.true)

pub returns-then-is_good : goal.returns-then-is_good
unfolding log_check first_refusal
returns-then-is_good c =
    let at-if1 = c.if-acts-lt-ACTIONS_LENGTH in
    let at-if2 = c.if-ps-lt-POSITIONS_LENGTH in
    let at-if3 = c.if-n-gt-MAX_ACTIONS in
    let at-if4 = c.if-m-gt-MAX_MOVES in
    rw (
      le-leb _ _ at-if1.false,
      le-leb _ _ at-if2.false,
      le-leb _ _ at-if3.false,
      le-leb _ _ at-if4.false,
      sym c.is_good.ensures ∙ c.if-is_good.true,
    )

pub returns : goal.returns
unfolding log_check first_refusal
returns c =
    let at-if1 = c.if-acts-lt-ACTIONS_LENGTH in
    let at-if2 = c.if-ps-lt-POSITIONS_LENGTH in
    let at-if3 = c.if-n-gt-MAX_ACTIONS in
    let at-if4 = c.if-m-gt-MAX_MOVES in
    rw (
      le-leb _ _ at-if1.false,
      le-leb _ _ at-if2.false,
      le-leb _ _ at-if3.false,
      le-leb _ _ at-if4.false,
      sym c.is_good.ensures ∙ c.if-is_good.false,
    )
