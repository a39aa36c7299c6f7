-- The whole roll: the record's numbers, the count, the actions, one right behind the other.
-- Assumes nothing.
use mathlib.Core.Path.{◌≡◌, refl, ap, sym, ◌∙◌}
use mathlib.Core.Bool.{Bool, true, false}
use mathlib.Core.List.{List, ◌++◌, append_assoc}
use Prim.Native.Nat.{ℕ, ◌+◌, ◌≤◌}
use native.Mathlib.Omega.{arith}
use lib.Dec.{ltb}
use lib.ListN.{length, length-append}
use borrow.Author.Tests.{ltb-false, le-leb}
use Rattle.answer.specs.Answer.{out_of_range, part_too_short, log_full, write_bytes}
use Rattle.answer.specs.Parts.{written}
use Rattle.answer.proofs.Numbers.{both_right}
use Rattle.answer.proofs.Parts.{written_behind, length_written}
use Rattle.board_builder.specs.declared.BoardBuilder.{BoardBuilder}
use Rattle.board_builder.specs.BoardBuilder.{squares, record_size, counters_in_range, in_range, numbers, numbers_in_range}
use Rattle.board_builder.proofs.Ranges.{in_range_lem}
use Rattle.stored_position.proofs.Checks.{length_numbers, numbers_range}
use Rattle.game_rules.specs.Limits.{Limits, actions_length}
use Rattle.roll_text.specs.Number.{number_text}
use Rattle.roll_text.specs.Roll.{start_from, counts_text, actions_text, text_by}
use Rattle.roll_text.specs.Calls.{write_check, game_text}
use Rattle.roll_text.proofs.Plain.{start_numbers_lem}
use Rattle.roll_writer.specs.CodeSizes.{start_text}

-- what a roll that passes the checks has
pub record Passed (L : Limits) (b : BoardBuilder) (part : List ℕ) (n : ℕ) : Type 0 where
  pub long : actions_length L ≤ length part
  pub good : in_range b ≡ true
  pub few : n ≤ L.most_actions

pub passed : (L : Limits) (b : BoardBuilder) (part : List ℕ) (n : ℕ) → write_check L b part n ≡ 0 → Passed L b part n
unfolding write_check
passed L b part n e = go (ltb (length part) (actions_length L)) (in_range b) (ltb L.most_actions n) refl refl refl
  where
    go : (t u v : Bool) → ltb (length part) (actions_length L) ≡ t → in_range b ≡ u → ltb L.most_actions n ≡ v → Passed L b part n
    go true u v f g h = let z : part_too_short ≡ 0 = simp f at e in absurd (omega (arith, z))
    go false false v f g h = let z : out_of_range ≡ 0 = simp (f, g) at e in absurd (omega (arith, z))
    go false true true f g h = let z : log_full ≡ 0 = simp (f, g, h) at e in absurd (omega (arith, z))
    go false true false f g h = record { long = ltb-false _ _ f; good = g; few = ltb-false _ _ h }

-- what a writer of texts leaves is the text over the front
pub over_front : (t l : List ℕ) → length t ≤ length l → write_bytes 0 t l ≡ written l 0 t
unfolding write_bytes
over_front t l fits = let none : 0 + length t ≡ length t = omega arith in simp (le-leb _ _ fits, none)

module _ (b : BoardBuilder) (good : in_range b ≡ true) where
  squares_long : length b.pieces ≡ squares
  squares_long = (in_range_lem b good).long

  pub record_long : length (numbers b) ≡ record_size
  record_long = length_numbers b squares_long

  numbers_good : numbers_in_range (numbers b) ≡ true
  numbers_good =
      both_right (counters_in_range b.half_moves b.full_moves) (numbers_in_range (numbers b)) (numbers_range b squares_long ∙ good)

  -- the text of the start: the numbers themselves, then the counters
  pub start_long_lem : length (start_text b) ≡ record_size + length (number_text b.half_moves) + length (number_text b.full_moves)
  unfolding start_text
  start_long_lem =
      length-append (numbers b) (number_text b.half_moves ++ number_text b.full_moves)
      ∙ omega (arith, record_long, length-append (number_text b.half_moves) (number_text b.full_moves))

  -- it is written one right behind the other
  module _ (l x y z : List ℕ) (at : ℕ) (room : length (start_text b) ≤ length l) (e : x ≡ write_bytes 0 (numbers b) l)
      (here : at ≡ record_size + length (number_text b.half_moves)) where
    first : x ≡ written l 0 (numbers b)
    first = e ∙ over_front (numbers b) l (omega (arith, record_long, start_long_lem))

    pub half_there : record_size + length (number_text b.half_moves) ≤ length x
    half_there = omega (arith, start_long_lem, ap length first ∙ length_written l 0 (numbers b) (omega (arith, record_long, start_long_lem)))

    module _ (f : y ≡ written x record_size (number_text b.half_moves)) where
      clocked : y ≡ written l 0 (numbers b ++ number_text b.half_moves)
      clocked =
          f ∙ ap (λ (w : List ℕ). written w record_size (number_text b.half_moves)) first
          ∙ written_behind l 0 (numbers b) (omega (arith, record_long, start_long_lem)) record_size (number_text b.half_moves) (omega (arith, record_long))
          (omega (arith, start_long_lem))

      both_long : length (numbers b ++ number_text b.half_moves) ≡ record_size + length (number_text b.half_moves)
      both_long = length-append (numbers b) (number_text b.half_moves) ∙ omega (arith, record_long)

      pub full_there : at + length (number_text b.full_moves) ≤ length y
      full_there =
          omega (
            arith,
            start_long_lem,
            here,
            ap length clocked ∙ length_written l 0 (numbers b ++ number_text b.half_moves) (omega (arith, both_long, start_long_lem)),
          )

      pub start_there : z ≡ written y at (number_text b.full_moves) → z ≡ written l 0 (start_text b)
      unfolding start_text
      start_there g =
          g ∙ ap (λ (w : List ℕ). written w at (number_text b.full_moves)) clocked
          ∙ written_behind l 0 (numbers b ++ number_text b.half_moves) (omega (arith, both_long, start_long_lem)) at (number_text b.full_moves)
          (omega (arith, both_long, here)) (omega (arith, start_long_lem, here))
          ∙ ap (written l 0) (append_assoc (numbers b) (number_text b.half_moves) (number_text b.full_moves))

module _ (b : BoardBuilder) (part : List ℕ) (n : ℕ) (good : in_range b ≡ true) where
  -- the record's text is its numbers
  in_parts : game_text b part n ≡ start_text b ++ (number_text n ++ actions_text n part)
  unfolding text_by counts_text start_text
  in_parts =
      ap (λ (l : List ℕ). l ++ (counts_text true (start_from b) ++ (number_text n ++ actions_text n part)))
      (start_numbers_lem (numbers b) (numbers_good b good))
      ∙ sym (append_assoc (numbers b) (counts_text true (start_from b)) (number_text n ++ actions_text n part))

  pub text_long : length (game_text b part n) ≡ length (start_text b) + length (number_text n) + length (actions_text n part)
  text_long =
      ap length in_parts
      ∙ length-append (start_text b) (number_text n ++ actions_text n part)
      ∙ omega (arith, length-append (number_text n) (actions_text n part))

  module _ (l x y z : List ℕ) (at : ℕ) (room : length (game_text b part n) ≤ length l) (start : x ≡ written l 0 (start_text b))
      (here : at ≡ length (start_text b) + length (number_text n)) where
    pub record_there : length (start_text b) + length (number_text n) ≤ length x
    record_there = omega (arith, text_long, ap length start ∙ length_written l 0 (start_text b) (omega (arith, text_long)))

    module _ (f : y ≡ written x (length (start_text b)) (number_text n)) where
      counted : y ≡ written l 0 (start_text b ++ number_text n)
      counted =
          f ∙ ap (λ (w : List ℕ). written w (length (start_text b)) (number_text n)) start
          ∙ written_behind l 0 (start_text b) (omega (arith, text_long)) (length (start_text b)) (number_text n) (omega arith) (omega (arith, text_long))

      both : length (start_text b ++ number_text n) ≡ length (start_text b) + length (number_text n)
      both = length-append (start_text b) (number_text n)

      pub count_there : at + length (actions_text n part) ≤ length y
      count_there = omega (arith, text_long, here, ap length counted ∙ length_written l 0 (start_text b ++ number_text n) (omega (arith, both, text_long)))

      pub all_there : z ≡ written y at (actions_text n part) → z ≡ written l 0 (game_text b part n)
      all_there g =
          g ∙ ap (λ (w : List ℕ). written w at (actions_text n part)) counted
          ∙ written_behind l 0 (start_text b ++ number_text n) (omega (arith, both, text_long)) at (actions_text n part) (omega (arith, both, here))
          (omega (arith, text_long, here))
          ∙ ap (written l 0) (append_assoc (start_text b) (number_text n) (actions_text n part) ∙ sym in_parts)
