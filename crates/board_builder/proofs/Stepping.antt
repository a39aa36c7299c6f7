-- A step, made or refused: what it hands back, and that what it makes is in range.
-- Assumes nothing.
use mathlib.Core.Path.{◌≡◌, refl, ◌∙◌}
use mathlib.Core.Bool.{Bool, true, false, not, ◌&&◌, false≢true}
use Prim.Native.Nat.{ℕ, zero, suc, ◌≤◌, zero-le}
use native.Mathlib.Omega.{arith}
use lib.Dec.{eqb, leb}
use lib.ListN.{length-set}
use borrow.Author.Tests.{leb-true}
use Rattle.answer.specs.Answer.{out_of_range}
use Rattle.board_builder.specs.declared.BoardBuilder.{BoardBuilder}
use Rattle.board_builder.specs.BoardBuilder.{with_counters, last_count, in_range}
use Rattle.board_builder.specs.Steps.{stepped, step, with_piece, with_rights}
use Rattle.board_builder.specs.Promises.{KeepsRange, EveryStepKeepsRange, OutOfRangeHandsBack}
use Rattle.answer.proofs.Numbers.{both_left, both_right, most_set}
use Rattle.board_builder.proofs.Ranges.{CountersIn, InRange, in_range_lem, range_holds}

pub out_of_range_hands_back : OutOfRangeHandsBack
unfolding step
out_of_range_hands_back ok new old e = simp e

-- for the functions: the three outcomes of a step
pub step_record : (ok : Bool) (new old : BoardBuilder) → in_range old ≡ false → stepped out_of_range old ≡ step ok new old
unfolding step
step_record ok new old e = simp e

pub step_refused_lem : (ok : Bool) (new old : BoardBuilder) → in_range old ≡ true → ok ≡ false → stepped out_of_range old ≡ step ok new old
unfolding step
step_refused_lem ok new old e f = simp (e, f)

pub step_made : (ok : Bool) (new old : BoardBuilder) → in_range old ≡ true → ok ≡ true → stepped 0 new ≡ step ok new old
unfolding step
step_made ok new old e f = simp (e, f)

-- a step whose new record is in range wherever its test holds
keeps : (ok : Bool) (new old : BoardBuilder) → (InRange old → ok ≡ true → InRange new) → KeepsRange old (step ok new old)
unfolding step
keeps ok new old f = go (in_range old) ok refl refl
  where
    go : (a b : Bool) → in_range old ≡ a → ok ≡ b → KeepsRange old (step ok new old)
    go false b e g = record { refused = λ n. simp e; made = λ z. absurd (omega (arith, simp e at z)) }
    go true false e g = record { refused = λ n. simp (e, g); made = λ z. absurd (omega (arith, simp (e, g) at z)) }
    go true true e g = record {
      refused = λ n. absurd (n (simp (e, g)));
      made = λ z. (e, simp (e, g) (range_holds new (f (in_range_lem old e) g)));
    }

set_keeps : (b : BoardBuilder) (square code : ℕ) → InRange b → code ≤ 12 → InRange (with_piece b square code)
set_keeps b square code r h = record {
  long = length-set b.pieces square code ∙ r.long;
  side = r.side;
  white = r.white;
  black = r.black;
  file = r.file;
  codes = most_set 12 b.pieces square code h r.codes;
  counters = r.counters;
}

rights_keep : (b : BoardBuilder) (colour rights : ℕ) → InRange b → rights ≤ 3 → InRange (with_rights b colour rights)
rights_keep b colour rights r h = go (eqb colour 0) refl
  where
    go : (t : Bool) → eqb colour 0 ≡ t → InRange (with_rights b colour rights)
    go true e = simp e (record { long = r.long; side = r.side; white = h; black = r.black; file = r.file; codes = r.codes; counters = r.counters })
    go false e = simp e (record { long = r.long; side = r.side; white = r.white; black = h; file = r.file; codes = r.codes; counters = r.counters })

counters_keep : (b : BoardBuilder) (half full : ℕ) → InRange b → CountersIn half full → InRange (with_counters b half full)
counters_keep b half full r h =
    record { long = r.long; side = r.side; white = r.white; black = r.black; file = r.file; codes = r.codes; counters = h }

some : (n : ℕ) → not (eqb n 0) ≡ true → 1 ≤ n
some zero e = absurd (false≢true e)
some (suc n) e = omega arith

pub every_step_keeps_range : EveryStepKeepsRange
every_step_keeps_range b = record {
  piece = λ square code.
      keeps (leb square 63 && (not (eqb code 0) && leb code 12)) (with_piece b square code) b
      (λ r t. set_keeps b square code r
      (leb-true _ _ (both_right (not (eqb code 0)) (leb code 12) (both_right (leb square 63) (not (eqb code 0) && leb code 12) t))));
  clear_square_fact = λ square. keeps (leb square 63) (with_piece b square 0) b (λ r t. set_keeps b square 0 r zero-le);
  side_to_move = λ colour.
      keeps (leb colour 1) _ b
      (λ r t. record { long = r.long; side = leb-true _ _ t; white = r.white; black = r.black; file = r.file; codes = r.codes; counters = r.counters });
  castle_rights = λ colour rights.
      keeps (leb rights 3 && leb colour 1) (with_rights b colour rights) b
      (λ r t. rights_keep b colour rights r (leb-true _ _ (both_left (leb rights 3) (leb colour 1) t)));
  en_passant = λ file.
      keeps (leb file 8) _ b
      (λ r t. record { long = r.long; side = r.side; white = r.white; black = r.black; file = leb-true _ _ t; codes = r.codes; counters = r.counters });
  half_moves = λ count.
      keeps (leb count last_count) _ b
      (λ r t. counters_keep b count b.full_moves r
      (record { half_most = leb-true _ _ t; full_least = r.counters.full_least; full_most = r.counters.full_most }));
  full_moves = λ count.
      keeps (not (eqb count 0) && leb count last_count) _ b
      (λ r t. counters_keep b b.half_moves count r
      (record {
        half_most = r.counters.half_most;
        full_least = some count (both_left (not (eqb count 0)) (leb count last_count) t);
        full_most = leb-true _ _ (both_right (not (eqb count 0)) (leb count last_count) t);
      }));
}
