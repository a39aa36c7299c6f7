-- An entry's number above its source is its destination and promotion: it fits only if that is the text's, and then if its source fits.
-- Assumes nothing.
use Prim.Native.Nat.{ℕ, ◌+◌, ◌*◌, ◌/◌, ◌%◌, ◌<◌}
use mathlib.Core.Path.{◌≡◌, refl}
use mathlib.Core.Bool.{Bool, true, false, ◌&&◌}
use mathlib.Core.List.{List}
use native.Mathlib.Omega.{arith}
use lib.Dec.{eqb}
use borrow.Author.Tests.{eq-eqb, eqb-true}
use Rattle.chess_move.specs.Number.{source_of, dest_of, promotion_of}
use Rattle.san_text.specs.declared.San.{San}
use Rattle.san_text.specs.Resolve.{kind_on, agrees, fits}
use Rattle.san.specs.CodeFitting.{source_fits}

-- what `m / 64` is of an entry that arrives as the text says
abbrev pub arrival : San → ℕ
arrival t = t.promotion * 64 + t.dest

and_true : (a : Bool) → a && true ≡ a
and_true true = refl
and_true false = refl

and_false : (a : Bool) → a && false ≡ false
and_false true = refl
and_false false = refl

module _ (pieces : List ℕ) (t : San) (m : ℕ) where
  pub arrives : t.dest < 64 → m / 64 ≡ arrival t → fits pieces t m ≡ source_fits pieces t m
  unfolding fits source_fits
  arrives h e =
      let d : dest_of m ≡ t.dest = omega arith in
      let p : promotion_of m ≡ t.promotion = omega arith in
      simp (eq-eqb _ _ d, eq-eqb _ _ p, and_true)

  pub arrives_elsewhere : (m / 64 ≡ arrival t → ⊥) → fits pieces t m ≡ false
  unfolding fits
  arrives_elsewhere n = go (eqb (dest_of m) t.dest) (eqb (promotion_of m) t.promotion) refl refl
    where
      kind : Bool
      kind = eqb (kind_on pieces (source_of m)) t.piece

      file : Bool
      file = agrees t.file (source_of m % 8 + 1)

      rank : Bool
      rank = agrees t.rank (source_of m / 8 + 1)

      go : (d p : Bool) → eqb (dest_of m) t.dest ≡ d → eqb (promotion_of m) t.promotion ≡ p → kind && (file && (rank && (d && p))) ≡ false
      go true true ed ep =
          let hd : dest_of m ≡ t.dest = eqb-true _ _ ed in
          let hp : promotion_of m ≡ t.promotion = eqb-true _ _ ep in
          absurd (n (omega arith))
      go true false ed ep = simp and_false
      go false p ed ep = simp and_false
