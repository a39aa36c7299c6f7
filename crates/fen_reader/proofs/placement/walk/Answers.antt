use mathlib.Core.Path.{◌≡◌, sym, ap, subst, ◌∙◌}
use mathlib.Core.List.{List}
use native.Mathlib.Omega.{arith}
use Prim.Native.Nat.{ℕ, ◌<◌}
use lib.Dec.{lit<}
use lib.ListN.{length, get_or}
use Rattle.fen_reader.specs.CodeMarks.{byte_mark}
use Rattle.fen_reader.proofs.ByteMarks.{mark_at}
use Rattle.fen_reader.proofs.Placing.{next, stored, turn, file_small, rank_small, at_start_lem}
use Rattle.fen_reader.proofs.placement.walk.Goals as goal

pub loop-b-init : goal.loop-b-init
loop-b-init c = (lit< tt, lit< tt, at_start_lem)

pub loop-b-preserved : goal.loop-b-preserved
loop-b-preserved c =
    let at = c.loop-b in
    let s : List ℕ = c.args.token.now in
    let table : List ℕ = c.args.marks.now in
    let i : ℕ = at.b-index in
    let r = at.rank in
    let f = at.file in
    let p = at.pieces in
    let b : ℕ = get_or s i 0 in
    let byte : b < 256 = omega arith in
    let h : i < length s = c.loop-b-test.true in
    let piece = c.piece_after in
    let file = c.file_after-file in
    let rank = c.rank_after-rank in
    let m : ℕ = get_or table c.from.result 0 in
    let mark : m ≡ byte_mark b =
    ap (λ (k : ℕ). get_or table k 0) c.from.ensures ∙ ap (λ (t : List ℕ). get_or t b 0) c.requires ∙ mark_at b byte in (
      subst (λ (n : ℕ). n < 8) (sym rank.ensures) (rank_small r m at.invariant.0),
      subst (λ (n : ℕ). n < 8) (sym file.ensures) (file_small f m),
      turn s i h at.invariant.2
          (next p r f at.good b at.invariant.1
          ∙ stored p r f at.good m (byte_mark b) piece.result rank.result file.result mark piece.ensures rank.ensures file.ensures),
    )
