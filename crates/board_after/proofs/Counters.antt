-- The counters after a move, read off bytes that have a record in front.
-- Assumes nothing.
use mathlib.Core.Path.{◌≡◌, ap, sym, ◌∙◌}
use mathlib.Core.Bool.{false}
use mathlib.Core.List.{List}
use Prim.Native.Nat.{ℕ, ◌/◌, ◌%◌, ◌≤◌, ◌<◌}
use native.Mathlib.Omega.{arith}
use lib.Dec.{eqb}
use lib.ListN.{length, get_or, take}
use Rattle.std.proofs.lemmas.List.{get_or-take}
use borrow.Author.Tests.{le-leb, lt-leb, eq-eqb, ne_eqb}
use Rattle.board_builder.specs.BoardBuilder.{record_size, side_at}
use Rattle.move_rules.specs.After.{restarts, half_after, full_after}
use Rattle.move_rules.specs.Leads.{counters_from, counters_lead}

-- the clock reads no more than the squares, which stand first
half_front : (l : List ℕ) (half source dest : ℕ) → source < 64 → dest < 64 → half_after (take 64 l) half source dest ≡ half_after l half source dest
unfolding half_after restarts
half_front l half source dest h k = simp (get_or-take 64 l source 0 h, get_or-take 64 l dest 0 k)

module _ (p : List ℕ) (m half full clock number : ℕ) where
  pub short_lead : length p < record_size → false ≡ counters_lead p m half full clock number
  unfolding counters_lead
  short_lead h = rw (lt-leb record_size (length p) h)

  module _ (h : record_size ≤ length p) (numbers : List ℕ) (front : numbers ≡ take record_size p) (after : ℕ)
      (clocked : after ≡ half_after (take 64 numbers) half (m % 64) (m / 64 % 64)) where
    same_clock : after ≡ half_after (take record_size p) half (m % 64) (m / 64 % 64)
    same_clock =
        clocked
        ∙ half_front numbers half (m % 64) (m / 64 % 64) (omega arith) (omega arith)
        ∙ ap (λ (l : List ℕ). half_after l half (m % 64) (m / 64 % 64)) front

    pub other_clock : (clock ≡ after → ⊥) → false ≡ counters_lead p m half full clock number
    unfolding counters_lead counters_from
    other_clock n = rw (le-leb record_size (length p) h, ne_eqb clock _ (λ e. n (e ∙ sym same_clock)))

    pub by_number : clock ≡ after → (next : ℕ) → next ≡ full_after (get_or numbers side_at 0) full
        → eqb number next ≡ counters_lead p m half full clock number
    unfolding counters_lead counters_from
    by_number e next counted =
        let side : next ≡ full_after (get_or (take record_size p) side_at 0) full =
        counted ∙ ap (λ (l : List ℕ). full_after (get_or l side_at 0) full) front in
        rw (le-leb record_size (length p) h, eq-eqb clock _ (e ∙ same_clock), ← side)
