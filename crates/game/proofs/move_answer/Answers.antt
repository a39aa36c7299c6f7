-- `move_answer` of lib.rt meets its contract: r ≡ check_of (call_answer limits (now acts.entry) (now ps.entry) n m (make_move x (position_given next in_check
-- (now list.entry)))).
use borrow.Author.Rules.{length_unmapped}
use mathlib.Core.Path.{◌≡◌, ap, sym, ◌∙◌}
use mathlib.Core.List.{List}
use native.Mathlib.Omega.{arith}
use Prim.Native.Nat.{ℕ}
use lib.ListN.{length}
use Rattle.std.proofs.lemmas.Result.{err_from_is_err_and}
use Rattle.answer.specs.Answer.{log_full, not_listed, wrong_side, wrong_record}
use Rattle.position.specs.Layout.{Position}
use Rattle.stored_position.specs.Bytes.{position_given, lists_move}
use Rattle.game.proofs.Answers.{record_there, listed_number}
use Rattle.game.proofs.Ways as ways
use Rattle.game.proofs.move_answer.Goals as goal

pub returns-in_err-open_check : goal.returns-in_err-open_check
returns-in_err-open_check c =
    let a = c.args in
    let q : Position = position_given a.next a.in_check a.list.now in
    let p = err_from_is_err_and c.from_residual.result c.from_residual.ensures.1 in
    let f = ways.refused_of _ _ (sym c.open_check.ensures ∙ c.in_err-open_check.was) in
    rw (p.1, p.2) (ways.err_of _ _ (ways.move_closed a.acts.now a.ps.now a.n a.m a.x q _ f.0 f.1) f.1)

pub returns-then-not-lists : goal.returns-then-not-lists
returns-then-not-lists c =
    let a = c.args in
    let opened = ways.passed_of _ _ (sym c.open_check.ensures ∙ c.in_ok-open_check.was) in
    let at_at = c.at-p in
    let at-lists = c.lists in
    let q : Position = position_given a.next a.in_check a.list.now in
    let unlisted = ap (λ (s : List ℕ). lists_move s a.x) (sym at_at.ensures) ∙ sym at-lists.ensures ∙ c.if-not-lists.true in
    ways.err_of _ not_listed
    (ways.move_unlisted a.acts.now a.ps.now a.n a.m a.x
    q opened unlisted) (λ z. omega (arith, z))

pub returns-then-number-ne-ACCEPTED : goal.returns-then-number-ne-ACCEPTED
returns-then-number-ne-ACCEPTED c =
    let a = c.args in
    let opened = ways.passed_of _ _ (sym c.open_check.ensures ∙ c.in_ok-open_check.was) in
    let at_at = c.at-p in
    let at-lists = c.lists in
    let at-if2 = c.if-not-lists in
    let at-check = c.check-number in
    let q : Position = position_given a.next a.in_check a.list.now in
    let listed = ap (λ (s : List ℕ). lists_move s a.x) (sym at_at.ensures) ∙ sym at-lists.ensures ∙ at-if2.false in
    ways.err_of _ _
    (ways.move_unfit a.acts.now a.ps.now a.n a.m a.x
    q opened listed at-check.result at-check.ensures c.if-number-ne-ACCEPTED.true) c.if-number-ne-ACCEPTED.true

pub returns-then-next-byte_at : goal.returns-then-next-byte_at
returns-then-next-byte_at c =
    let a = c.args in
    let at-good = c.well_formed in
    let long : length a.next.pieces ≡ 64 = search (length_unmapped, at-good) in
    let opened = ways.passed_of _ _ (sym c.open_check.ensures ∙ c.in_ok-open_check.was) in
    let at_at = c.at-p in
    let at-lists = c.lists in
    let at-if2 = c.if-not-lists in
    let at-check = c.check-number in
    let at-if3 = c.if-number-ne-ACCEPTED in
    let at-byte-at = c.byte_at in
    let q : Position = position_given a.next a.in_check a.list.now in
    let listed = ap (λ (s : List ℕ). lists_move s a.x) (sym at_at.ensures) ∙ sym at-lists.ensures ∙ at-if2.false in
    let same_side = ways.same_side a.next a.in_check a.list.now a.ps.now at_at.result.now a.m at-byte-at.result long
    at_at.ensures at-byte-at.ensures c.if-next-byte_at.true in
    ways.err_of _ wrong_side
    (ways.move_wrong_side a.acts.now a.ps.now a.n a.m a.x
    q opened listed at-check.result at-check.ensures at-if3.false same_side) (λ z. omega (arith, z))

pub overflow_cast-x : goal.overflow_cast-x
overflow_cast-x c =
    let a = c.args in
    let opened = ways.passed_of _ _ (sym c.open_check.ensures ∙ c.in_ok-open_check.was) in
    let at_at = c.at-p in
    let at-lists = c.lists in
    let at-if2 = c.if-not-lists in
    let listed = ap (λ (s : List ℕ). lists_move s a.x) (sym at_at.ensures) ∙ sym at-lists.ensures ∙ at-if2.false in
    let n = listed_number a.acts.now a.ps.now a.n a.m a.x opened listed in
    omega arith

pub returns-then-not-moves_on_to : goal.returns-then-not-moves_on_to
returns-then-not-moves_on_to c =
    let a = c.args in
    let at-good = c.well_formed in
    let long : length a.next.pieces ≡ 64 = search (length_unmapped, at-good) in
    let opened = ways.passed_of _ _ (sym c.open_check.ensures ∙ c.in_ok-open_check.was) in
    let at_at = c.at-p in
    let at-lists = c.lists in
    let at-if2 = c.if-not-lists in
    let at-check = c.check-number in
    let at-if3 = c.if-number-ne-ACCEPTED in
    let at-byte-at = c.byte_at in
    let at-if4 = c.if-next-byte_at in
    let at-moves-on-to = c.moves_on_to in
    let q : Position = position_given a.next a.in_check a.list.now in
    let listed = ap (λ (s : List ℕ). lists_move s a.x) (sym at_at.ensures) ∙ sym at-lists.ensures ∙ at-if2.false in
    let other_side = ways.other_side a.next a.in_check a.list.now a.ps.now at_at.result.now a.m at-byte-at.result long
    at_at.ensures at-byte-at.ensures at-if4.false in
    let there = record_there a.acts.now a.ps.now a.n a.m opened in
    let tells = ways.record_tells a.next a.in_check a.list.now a.ps.now at_at.result.now a.m a.x at-moves-on-to.result
    at_at.ensures there at-moves-on-to.ensures in
    let not_after = sym tells ∙ c.if-not-moves_on_to.true in
    ways.err_of _ wrong_record
    (ways.move_wrong_record a.acts.now a.ps.now a.n a.m a.x
    q opened listed at-check.result at-check.ensures at-if3.false other_side not_after) (λ z. omega (arith, z))

pub returns-then-n-ge-MAX_ACTIONS : goal.returns-then-n-ge-MAX_ACTIONS
returns-then-n-ge-MAX_ACTIONS c =
    let a = c.args in
    let at-good = c.well_formed in
    let long : length a.next.pieces ≡ 64 = search (length_unmapped, at-good) in
    let opened = ways.passed_of _ _ (sym c.open_check.ensures ∙ c.in_ok-open_check.was) in
    let at_at = c.at-p in
    let at-lists = c.lists in
    let at-if2 = c.if-not-lists in
    let at-check = c.check-number in
    let at-if3 = c.if-number-ne-ACCEPTED in
    let at-byte-at = c.byte_at in
    let at-if4 = c.if-next-byte_at in
    let at-moves-on-to = c.moves_on_to in
    let q : Position = position_given a.next a.in_check a.list.now in
    let listed = ap (λ (s : List ℕ). lists_move s a.x) (sym at_at.ensures) ∙ sym at-lists.ensures ∙ at-if2.false in
    let other_side = ways.other_side a.next a.in_check a.list.now a.ps.now at_at.result.now a.m at-byte-at.result long
    at_at.ensures at-byte-at.ensures at-if4.false in
    let there = record_there a.acts.now a.ps.now a.n a.m opened in
    let tells = ways.record_tells a.next a.in_check a.list.now a.ps.now at_at.result.now a.m a.x at-moves-on-to.result
    at_at.ensures there at-moves-on-to.ensures in
    let follows = sym tells ∙ c.if-not-moves_on_to.false in
    ways.err_of _ log_full
    (ways.move_full a.acts.now a.ps.now a.n a.m a.x
    q opened listed
    at-check.result at-check.ensures at-if3.false other_side follows c.if-n-ge-MAX_ACTIONS.true) (λ z. omega (arith, z))

pub returns-then-m-ge-MAX_MOVES : goal.returns-then-m-ge-MAX_MOVES
returns-then-m-ge-MAX_MOVES c =
    let a = c.args in
    let at-good = c.well_formed in
    let long : length a.next.pieces ≡ 64 = search (length_unmapped, at-good) in
    let opened = ways.passed_of _ _ (sym c.open_check.ensures ∙ c.in_ok-open_check.was) in
    let at_at = c.at-p in
    let at-lists = c.lists in
    let at-if2 = c.if-not-lists in
    let at-check = c.check-number in
    let at-if3 = c.if-number-ne-ACCEPTED in
    let at-byte-at = c.byte_at in
    let at-if4 = c.if-next-byte_at in
    let at-moves-on-to = c.moves_on_to in
    let at-if5 = c.if-not-moves_on_to in
    let q : Position = position_given a.next a.in_check a.list.now in
    let listed = ap (λ (s : List ℕ). lists_move s a.x) (sym at_at.ensures) ∙ sym at-lists.ensures ∙ at-if2.false in
    let other_side = ways.other_side a.next a.in_check a.list.now a.ps.now at_at.result.now a.m at-byte-at.result long
    at_at.ensures at-byte-at.ensures at-if4.false in
    let there = record_there a.acts.now a.ps.now a.n a.m opened in
    let tells = ways.record_tells a.next a.in_check a.list.now a.ps.now at_at.result.now a.m a.x at-moves-on-to.result
    at_at.ensures there at-moves-on-to.ensures in
    let follows = sym tells ∙ at-if5.false in
    ways.err_of _ log_full
    (ways.move_no_place a.acts.now a.ps.now a.n a.m a.x
    q opened listed
    at-check.result at-check.ensures at-if3.false other_side follows c.if-n-ge-MAX_ACTIONS.false c.if-m-ge-MAX_MOVES.true) (λ z. omega (arith, z))

pub returns : goal.returns
returns c =
    let a = c.args in
    let at-good = c.well_formed in
    let long : length a.next.pieces ≡ 64 = search (length_unmapped, at-good) in
    let opened = ways.passed_of _ _ (sym c.open_check.ensures ∙ c.in_ok-open_check.was) in
    let at_at = c.at-p in
    let at-lists = c.lists in
    let at-if2 = c.if-not-lists in
    let at-check = c.check-number in
    let at-if3 = c.if-number-ne-ACCEPTED in
    let at-byte-at = c.byte_at in
    let at-if4 = c.if-next-byte_at in
    let at-moves-on-to = c.moves_on_to in
    let at-if5 = c.if-not-moves_on_to in
    let q : Position = position_given a.next a.in_check a.list.now in
    let listed = ap (λ (s : List ℕ). lists_move s a.x) (sym at_at.ensures) ∙ sym at-lists.ensures ∙ at-if2.false in
    let other_side = ways.other_side a.next a.in_check a.list.now a.ps.now at_at.result.now a.m at-byte-at.result long
    at_at.ensures at-byte-at.ensures at-if4.false in
    let there = record_there a.acts.now a.ps.now a.n a.m opened in
    let tells = ways.record_tells a.next a.in_check a.list.now a.ps.now at_at.result.now a.m a.x at-moves-on-to.result
    at_at.ensures there at-moves-on-to.ensures in
    let follows = sym tells ∙ at-if5.false in
    ways.ok_of _
    (ways.move_passed a.acts.now a.ps.now a.n a.m a.x
    q opened listed
    at-check.result at-check.ensures at-if3.false other_side follows c.if-n-ge-MAX_ACTIONS.false c.if-m-ge-MAX_MOVES.false)
