-- A short move is read as the entry at its place.
-- Assumes nothing.
use mathlib.Core.Path.{◌≡◌, refl, ap, ◌∙◌}
use mathlib.Core.Bool.{Bool, false}
use mathlib.Core.List.{List, ◌∷◌}
use Prim.Native.Nat.{ℕ, suc, ◌+◌, ◌*◌, ◌%◌, ◌≤◌, ◌<◌}
use native.Mathlib.Omega.{arith}
use lib.ListN.{length, drop, get_or}
use lib.Seq.{drop-cons}
use borrow.Author.Tests.{lt-ltb, le-ltb, ne_eqb, le-leb}
use Rattle.std.specs.Prelude.{Ok}
use Rattle.chess_move.specs.Number.{last_move}
use Rattle.roll_text.specs.declared.Entry.TheVariants.{Move}
use Rattle.roll_text.specs.Number.{behind, read_groups}
use Rattle.roll_text.specs.Roll.{moved_by, coded, read_entry}
use Rattle.roll_reader.specs.CodeShort.{ShortMove}

pub no_short_lem : (s : List ℕ) (at left : ℕ) → ShortMove s at left (last_move + 1)
no_short_lem s at left = record { there = λ h. absurd (omega arith) }

two_groups_lem : (low high : ℕ) (rest : List ℕ) → 128 ≤ low → high < 128 → (high ≡ 0 → ⊥) → low % 128 + 128 * high ≤ last_move
    → read_entry false (2 ∷ low ∷ high ∷ rest) ≡ Ok (Move (low % 128 + 128 * high) 3)
unfolding read_groups behind moved_by coded
two_groups_lem low high rest l h n m = simp (le-ltb low 128 l, lt-ltb high 128 h, ne_eqb high 0 n, le-leb _ _ m)

-- one byte of a text, and what is behind it
one_on : (s : List ℕ) (at next : ℕ) → next ≡ at + 1 → at < length s → drop at s ≡ get_or s at 0 ∷ drop next s
one_on s at next e h = let n : suc at ≡ next = omega arith in drop-cons s at 0 h ∙ ap (λ (k : ℕ). get_or s at 0 ∷ drop k s) n

pub short : (s : List ℕ) (at left : ℕ) → (left ≡ 0 → ⊥) → at + 3 ≤ length s → get_or s at 0 ≡ 2 → 128 ≤ get_or s (at + 1) 0 → get_or s (at + 2) 0 < 128 →
    (get_or s (at + 2) 0 ≡ 0 → ⊥)
    → ShortMove s at left (get_or s (at + 1) 0 % 128 + 128 * get_or s (at + 2) 0)
short s at left some h code l k n =
    let low : ℕ = get_or s (at + 1) 0 in
    let high : ℕ = get_or s (at + 2) 0 in
    let behind-code = one_on s (at + 1) (at + 2) (omega arith) (omega arith) ∙ ap (λ (t : List ℕ). low ∷ t) (one_on s (at + 2) (at + 3) (omega arith)
    (omega arith)) in
    let whole : drop at s ≡ 2 ∷ low ∷ high ∷ drop (at + 3) s =
    one_on s at (at + 1) refl (omega arith) ∙ ap (λ (t : List ℕ). get_or s at 0 ∷ t) behind-code ∙ ap (λ (c : ℕ). c ∷ low ∷ high ∷ drop (at + 3) s) code in
    record {
      there = λ m. ap (λ (t : Bool). read_entry t (drop at s)) (ne_eqb left 0 some) ∙ ap (read_entry false) whole ∙ two_groups_lem low high (drop (at
          + 3) s) l k n m;
    }
