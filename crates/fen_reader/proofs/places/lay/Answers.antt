use borrow.Author.Rules.{rules}
use mathlib.Core.Path.{◌≡◌, sym, ap, subst, ◌∙◌}
use mathlib.Core.List.{List}
use native.Mathlib.Omega.{arith}
use Prim.Native.Nat.{ℕ, ◌+◌, ◌%◌, ◌<◌}
use lib.Dec.{lit<}
use lib.ListN.{length, get_or, replicate, length-set}
use Rattle.fen_reader.specs.CodeMarks.{byte_mark}
use Rattle.fen_reader.specs.CodePlaces.{Walks}
use Rattle.fen_reader.proofs.ByteMarks.{mark_at}
use Rattle.fen_reader.proofs.QuickWalk.{empty, walk_start, walk_next, still_clear, places_taken}
use Rattle.fen_reader.proofs.places.lay.Goals as goal

pub loop-i-init : goal.loop-i-init
loop-i-init c =
    let a = c.args in
    let none : a.places.now ≡ replicate 128 0 = c.requires.1 in (
      lit< tt,
      search rules,
      λ k h. ap (λ (l : List ℕ). get_or l k 0) none ∙ empty 128 k,
      λ _ _. subst (λ (l : List ℕ). Walks a.text.now 0 0 l) (sym none) (walk_start a.text.now),
    )

pub loop-i-preserved : goal.loop-i-preserved
loop-i-preserved c =
    let a = c.args in
    let at = c.loop-i in
    let s : List ℕ = a.text.now in
    let i : ℕ = at.i in
    let h : i < length s = c.loop-i-test.true in
    let low : at.at < 120 = c.if-at-ge-LAST.false in
    let b : ℕ = get_or s i 0 in
    let byte : b < 256 = omega arith in
    let m : ℕ = get_or a.marks.now c.from.result 0 in
    let mark : m ≡ byte_mark b =
    ap (λ (k : ℕ). get_or a.marks.now k 0) c.from.ensures ∙ ap (λ (t : List ℕ). get_or t b 0) c.requires.0 ∙ mark_at b byte in
    let next : at.at + c.from-at.result ≡ at.at + m % 16 = ap (λ (k : ℕ). at.at + k) c.from-at.ensures in
    let n : ℕ = at.at + c.from-at.result in (
      omega (arith, places_taken b m mark),
      simp length-set at.invariant.1,
      still_clear s at.places i at.at m n h low at.invariant.1 at.invariant.2 at.invariant.3 mark next,
      walk_next s at.places i at.at m n h low at.invariant.1 at.invariant.2 at.invariant.3 mark next,
    )
