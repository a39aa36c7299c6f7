-- `from_san_in` of lib.rt meets its contract: r ≡ over_list (now moves.entry) (resolved (formOf standard) (board_with side (now pieces.entry)) (now
-- moves.entry) ((formOf standard).read (now text.entry))).
use native.Mathlib.Omega.{arith}
use mathlib.Core.Path.{sym, ◌∙◌}
use lib.ListN.{length}
use Rattle.san_text.specs.Form.{resolved}
use Rattle.san_reader.proofs.Shorts.{told_by}
use Rattle.san.proofs.Gathers.{long_list, not_none, long_enough_lem}
use Rattle.san.proofs.from_san_in.Goals as goal

pub returns-then-moves-gt-LONGEST_LIST : goal.returns-then-moves-gt-LONGEST_LIST
returns-then-moves-gt-LONGEST_LIST c = simp (long_list c.args.moves.now c.if-moves-gt-LONGEST_LIST.true, c.refused.ensures)

pub sole_arrival-requires : goal.sole_arrival-requires
sole_arrival-requires c =
    let at-args = c.args in
    let at-read-short = c.read_short-short in
    let at-either = c.either in
    let at-if2 = c.if-either in
    let told = told_by at-args.text.now at-read-short.result at-read-short.ensures in
    let test = sym at-either.ensures ∙ at-if2.false in
    let long =
    long_enough_lem at-read-short.result.square (length at-args.moves.now) test in record {
      block_in_bounds = omega (arith, long);
      moves_len_bound = omega arith;
      dest_bound = rw c.said_by.ensures (omega (arith, told.on_board));
      promotion_value = rw c.said_by.ensures;
      file_bound = rw c.said_by.ensures told.file_most;
      rank_bound = rw c.said_by.ensures told.rank_most;
    }

pub returns : goal.returns
unfolding resolved
returns c =
    let at-args = c.args in
    let at-read-short = c.read_short-short in
    let at-either = c.either in
    let at-if2 = c.if-either in
    let at-said-by = c.said_by in
    let told = told_by at-args.text.now at-read-short.result at-read-short.ensures in
    let test =
    sym at-either.ensures
    ∙ at-if2.false in simp (
      told.said at-args.standard (not_none at-read-short.result.square (length at-args.moves.now) test),
      c.sole_arrival.ensures,
      at-said-by.ensures,
    )
