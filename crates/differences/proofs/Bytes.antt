-- The action at the front of a text, as the code tells its bytes apart.
-- Assumes nothing.
use mathlib.Core.Path.{◌≡◌}
use mathlib.Core.List.{List}
use Prim.Native.Nat.{ℕ, ◌+◌, ◌*◌, ◌≤◌, ◌<◌}
use borrow.Author.Tests.{lt-ltb, le-ltb, eq-eqb, ne_eqb}
use Rattle.std.specs.Prelude.{Some, None}
use Rattle.answer.specs.Numbers.{number_at}
use Rattle.differences.specs.CodeEntries.{entry_size, entry_number, two_groups, three_groups, same_entry}

module _ (l : List ℕ) (a : ℕ) (ea : a ≡ number_at l 0) where
  pub size_plain : (a ≡ 2 → ⊥) → 1 ≡ entry_size l
  unfolding entry_size
  size_plain h = rw (← ea) (simp (ne_eqb _ _ h))

  pub number_plain : (a ≡ 2 → ⊥) → a ≡ entry_number l
  unfolding entry_number
  number_plain h = rw (← ea) (simp (ne_eqb _ _ h))

  module _ (h : a ≡ 2) (b : ℕ) (eb : b ≡ number_at l 1) where
    pub size_one : b < 128 → 2 ≡ entry_size l
    unfolding entry_size
    size_one k = rw (← ea, ← eb) (simp (eq-eqb _ _ h, lt-ltb _ _ k))

    pub number_one : (r : ℕ) → r ≡ 2 + 16 * b → b < 128 → r ≡ entry_number l
    unfolding entry_number
    number_one r e k = rw (← ea, ← eb) (simp (eq-eqb _ _ h, lt-ltb _ _ k, e))

    module _ (k : 128 ≤ b) (c : ℕ) (ec : c ≡ number_at l 2) where
      pub size_two : c < 128 → 3 ≡ entry_size l
      unfolding entry_size
      size_two i = rw (← ea, ← eb, ← ec) (simp (eq-eqb _ _ h, le-ltb _ _ k, lt-ltb _ _ i))

      pub size_three : 128 ≤ c → 4 ≡ entry_size l
      unfolding entry_size
      size_three i = rw (← ea, ← eb, ← ec) (simp (eq-eqb _ _ h, le-ltb _ _ k, le-ltb _ _ i))

      pub number_two : (m r : ℕ) → m ≡ two_groups b c → r ≡ 2 + 16 * m → c < 128 → r ≡ entry_number l
      unfolding entry_number
      number_two m r em e i = rw (← ea, ← eb, ← ec) (simp (eq-eqb _ _ h, le-ltb _ _ k, lt-ltb _ _ i, e, em))

      pub number_three : (d m r : ℕ) → d ≡ number_at l 3 → m ≡ three_groups b c d → r ≡ 2 + 16 * m → 128 ≤ c → r ≡ entry_number l
      unfolding entry_number
      number_three d m r ed em e i = rw (← ea, ← eb, ← ec, ← ed) (simp (eq-eqb _ _ h, le-ltb _ _ k, le-ltb _ _ i, e, em))

-- ---- of two texts

module _ (l m : List ℕ) (a : ℕ) (ea : a ≡ number_at l 0) (x : ℕ) (ex : x ≡ number_at m 0) where
  pub other_code : (a ≡ x → ⊥) → None ≡ same_entry l m
  unfolding same_entry
  other_code h = rw (← ea, ← ex) (simp (ne_eqb _ _ h))

  pub same_plain : a ≡ x → (a ≡ 2 → ⊥) → Some 1 ≡ same_entry l m
  unfolding same_entry
  same_plain h p = rw (← ea, ← ex) (simp (eq-eqb _ _ h, ne_eqb _ _ p))

  module _ (h : a ≡ x) (p : a ≡ 2) (b : ℕ) (eb : b ≡ number_at l 1) (y : ℕ) (ey : y ≡ number_at m 1) where
    pub other_low : (b ≡ y → ⊥) → None ≡ same_entry l m
    unfolding same_entry
    other_low i = rw (← ea, ← ex, ← eb, ← ey) (simp (eq-eqb _ _ h, eq-eqb _ _ p, ne_eqb _ _ i))

    pub same_one : b ≡ y → b < 128 → Some 2 ≡ same_entry l m
    unfolding same_entry
    same_one i k = rw (← ea, ← ex, ← eb, ← ey) (simp (eq-eqb _ _ h, eq-eqb _ _ p, eq-eqb _ _ i, lt-ltb _ _ k))

    module _ (i : b ≡ y) (k : 128 ≤ b) (c : ℕ) (ec : c ≡ number_at l 2) (z : ℕ) (ez : z ≡ number_at m 2) where
      pub other_middle : (c ≡ z → ⊥) → None ≡ same_entry l m
      unfolding same_entry
      other_middle j = rw (← ea, ← ex, ← eb, ← ey, ← ec, ← ez) (simp (eq-eqb _ _ h, eq-eqb _ _ p, eq-eqb _ _ i, le-ltb _ _ k, ne_eqb _ _ j))

      pub same_two : c ≡ z → c < 128 → Some 3 ≡ same_entry l m
      unfolding same_entry
      same_two j n = rw (← ea, ← ex, ← eb, ← ey, ← ec, ← ez) (simp (eq-eqb _ _ h, eq-eqb _ _ p, eq-eqb _ _ i, le-ltb _ _ k, eq-eqb _ _ j, lt-ltb _ _ n))

      module _ (j : c ≡ z) (n : 128 ≤ c) (d : ℕ) (ed : d ≡ number_at l 3) (w : ℕ) (ew : w ≡ number_at m 3) where
        pub other_high : (d ≡ w → ⊥) → None ≡ same_entry l m
        unfolding same_entry
        other_high q =
            rw (← ea, ← ex, ← eb, ← ey, ← ec, ← ez, ← ed, ← ew)
            (simp (eq-eqb _ _ h, eq-eqb _ _ p, eq-eqb _ _ i, le-ltb _ _ k, eq-eqb _ _ j, le-ltb _ _ n, ne_eqb _ _ q))

        pub same_three : d ≡ w → Some 4 ≡ same_entry l m
        unfolding same_entry
        same_three q =
            rw (← ea, ← ex, ← eb, ← ey, ← ec, ← ez, ← ed, ← ew)
            (simp (eq-eqb _ _ h, eq-eqb _ _ p, eq-eqb _ _ i, le-ltb _ _ k, eq-eqb _ _ j, le-ltb _ _ n, eq-eqb _ _ q))
