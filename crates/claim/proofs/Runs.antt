-- Laws of a claim by the run.
-- Assumes nothing.
use mathlib.Core.Path.{◌≡◌}
use mathlib.Core.Bool.{true, false}
use mathlib.Core.List.{List}
use Prim.Native.Nat.{ℕ, ◌*◌, ◌-◌, ◌≤◌, ◌<◌}
use lib.ListN.{length}
use borrow.Author.Tests.{le-leb, lt-leb}
use Rattle.action.specs.Layout.{action_size}
use Rattle.position.specs.Repeats.{equals_two_earlier}
use Rattle.claim.specs.declared.Run.{Run}
use Rattle.claim.specs.Claim.{claim_count, run_at, claim_in, claim_at}

module _ (ps : List ℕ) (m : ℕ) (r : Run) where
  pub claim_by_count : claim_count ≤ m - r.since → claim_in ps m r ≡ true
  unfolding claim_in
  claim_by_count h = rw (le-leb claim_count (m - r.since) h)

  pub claim_by_run : m - r.since < claim_count → claim_in ps m r ≡ equals_two_earlier ps r.first m
  unfolding claim_in
  claim_by_run h = rw (lt-leb claim_count (m - r.since) h)

module _ (acts ps : List ℕ) (n m : ℕ) where
  pub not_there : length acts < action_size * n → claim_at acts ps n m ≡ false
  unfolding claim_at
  not_there h = rw (lt-leb (action_size * n) (length acts) h)

  pub there : action_size * n ≤ length acts → claim_at acts ps n m ≡ claim_in ps m (run_at acts ps n)
  unfolding claim_at
  there h = rw (le-leb (action_size * n) (length acts) h)
