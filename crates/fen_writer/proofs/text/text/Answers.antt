-- `text` of text.rt meets its contract: Put 91 (now bytes.entry) 0 (text_with board half full) (now bytes.exit) r.
use mathlib.Core.Path.{ap, ◌∙◌}
use native.Mathlib.Omega.{arith}
use lib.Dec.{lit<}
use Rattle.answer.specs.Numbers.{all_at_most}
use Rattle.board_builder.proofs.Ranges.{in_range_lem}
use Rattle.fen_text.specs.Write.{ranks_text}
use Rattle.fen_text.proofs.Counters.{count_few}
use Rattle.fen_text.proofs.Lengths.{ranks_long, place_long}
use Rattle.answer.proofs.Pushes.{put_both, put_as}
use Rattle.fen_writer.proofs.text.text.Goals as goal

pub ranks-n-requires : goal.ranks-n-requires
ranks-n-requires c = ap (all_at_most 12) c.requires.pieces_value ∙ (in_range_lem c.args.board c.requires.board_value).codes

pub tail-a-requires : goal.tail-a-requires
tail-a-requires c =
    let b = c.args.board in
    let put = put_as (ap (ranks_text 8) c.requires.pieces_value) c.ranks-n.ensures in
    let r = ranks_long 7 b.pieces (in_range_lem b c.requires.board_value).long (lit< tt) in
    record { at_bound = omega (arith, put.pushed.count, r.high); board_value = c.requires.board_value }

pub push-b-requires : goal.push-b-requires
push-b-requires c =
    let whole = put_both (put_as (ap (ranks_text 8) c.requires.pieces_value) c.ranks-n.ensures) c.tail-a.ensures in
    omega (arith, whole.pushed.count, place_long c.args.board c.requires.board_value)

pub counter-c-requires : goal.counter-c-requires
counter-c-requires c =
    let whole = put_both (put_as (ap (ranks_text 8) c.requires.pieces_value) c.ranks-n.ensures) c.tail-a.ensures in
    record {
      at_bound = omega (arith, whole.pushed.count, c.push-b.ensures.pushed.count, place_long c.args.board c.requires.board_value);
      n_le_last_count = c.requires.half_le_last_count;
    }

pub push-d-requires : goal.push-d-requires
push-d-requires c =
    let whole = put_both (put_as (ap (ranks_text 8) c.requires.pieces_value) c.ranks-n.ensures) c.tail-a.ensures in
    let few = count_few c.args.half c.requires.half_le_last_count in
    omega (arith, whole.pushed.count, c.push-b.ensures.pushed.count, c.counter-c.ensures.pushed.count, place_long c.args.board c.requires.board_value)

pub counter-requires : goal.counter-requires
counter-requires c =
    let whole = put_both (put_as (ap (ranks_text 8) c.requires.pieces_value) c.ranks-n.ensures) c.tail-a.ensures in
    let few = count_few c.args.half c.requires.half_le_last_count in
    let before = c.counter-c.ensures.pushed.count in
    record {
      at_bound = omega (
        arith,
        whole.pushed.count,
        c.push-b.ensures.pushed.count,
        before,
        c.push-d.ensures.pushed.count,
        place_long c.args.board c.requires.board_value,
      );
      n_le_last_count = c.requires.full_le_last_count;
    }
