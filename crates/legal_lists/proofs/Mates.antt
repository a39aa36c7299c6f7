-- Where the list and the byte of a position are those that are owed, the log's mates and stalemates are those of the Laws.
-- Assumes nothing.
use Rattle.std.specs.Prelude.{Option, Some, None}
use Prim.Native.Nat.{ℕ, ◌≤◌}
use mathlib.Core.Path.{◌≡◌, refl, sym, ap, ◌∙◌}
use mathlib.Core.Bool.{Bool, true, false, cond, ◌||◌, false≢true}
use mathlib.Core.List.{List, [], ◌∷◌}
use native.Mathlib.Omega.{arith}
use lib.Dec.{eqb}
use lib.ListN.{length}
use borrow.Author.Tests.{eq-eqb, eqb-true, eqb-false}
use Rattle.answer.specs.Numbers.{among}
use Rattle.board_builder.specs.declared.BoardBuilder.{BoardBuilder}
use Rattle.board_builder.specs.BoardBuilder.{in_range, numbers, board_of}
use Rattle.board_builder.proofs.Ranges.{in_range_lem}
use Rattle.board_builder.proofs.Numbers.{numbers_of_record}
use Rattle.action.specs.declared.Action.{Action}
use Rattle.action.specs.declared.Action.TheVariants.{MakeMove, OfferDraw, AcceptDraw, DeclareDraw, Resign}
use Rattle.position.specs.Layout.{Position, side}
use Rattle.ending.specs.Ending.{white_checkmates, black_checkmates, stalemate, result_without_moves, result_of_action, result_of}
use Rattle.game_rules.specs.Rules.{current, last_made, result}
use Rattle.san_lists.proofs.Counts.{reordered_length}
use Rattle.move_laws.specs.Attack.{in_check}
use Rattle.move_laws.specs.Legal.{legal_moves, check_byte}
use Rattle.move_laws.proofs.Listed.{lists_legal, lists_moves}
use Rattle.legal_lists.specs.Mates.{NoLegalMove}
use Rattle.legal_lists.specs.Promises.{ListedRight, RuledByTheLaws, MatesByTheLaws}

-- ---- an empty list says that there is no legal move

none_there : (l : List ℕ) → length l ≡ 0 → (n : ℕ) → among n l ≡ false
unfolding among
none_there [] e n = refl
none_there (x ∷ xs) e n = absurd (omega (arith, e))

empty_none : (b : BoardBuilder) → length (legal_moves b) ≡ 0 → NoLegalMove b
empty_none b e m h = sym (lists_legal b m h) ∙ none_there (legal_moves b) e m

first_there : (x : ℕ) (xs : List ℕ) → among x (x ∷ xs) ≡ true
unfolding among
first_there x xs = ap (λ (t : Bool). t || among x xs) (eq-eqb x x refl)

none_empty : (b : BoardBuilder) → NoLegalMove b → length (legal_moves b) ≡ 0
none_empty b f = go (legal_moves b) refl
  where
    go : (l : List ℕ) → legal_moves b ≡ l → length l ≡ 0
    go [] e = refl
    go (x ∷ xs) e =
        let here : among x (legal_moves b) ≡ true = ap (λ (l : List ℕ). among x l) e ∙ first_there x xs in
        let most = lists_moves b x here in
        absurd (false≢true (sym (f x most) ∙ sym (lists_legal b x most) ∙ here))

-- ---- what the log says then

-- no action ends a game by mate or stalemate
record NoMate (n : ℕ) : Type 0 where
  not_white : n ≡ white_checkmates → ⊥
  not_black : n ≡ black_checkmates → ⊥
  not_stale : n ≡ stalemate → ⊥

other_number : (n : ℕ) → (n ≡ 1 → ⊥) → (n ≡ 3 → ⊥) → (n ≡ 5 → ⊥) → NoMate n
other_number n a b c = record { not_white = a; not_black = b; not_stale = c }

resigned : (t : Bool) → NoMate (cond t 2 4)
resigned true = other_number 2 (λ e. omega (arith, e)) (λ e. omega (arith, e)) (λ e. omega (arith, e))
resigned false = other_number 4 (λ e. omega (arith, e)) (λ e. omega (arith, e)) (λ e. omega (arith, e))

no_mate : (s : Option Action) → NoMate (result_of_action s)
no_mate (Some (MakeMove m)) = other_number 0 (λ e. omega (arith, e)) (λ e. omega (arith, e)) (λ e. omega (arith, e))
no_mate (Some (OfferDraw c)) = other_number 0 (λ e. omega (arith, e)) (λ e. omega (arith, e)) (λ e. omega (arith, e))
no_mate (Some AcceptDraw) = other_number 6 (λ e. omega (arith, e)) (λ e. omega (arith, e)) (λ e. omega (arith, e))
no_mate (Some DeclareDraw) = other_number 7 (λ e. omega (arith, e)) (λ e. omega (arith, e)) (λ e. omega (arith, e))
no_mate (Some (Resign c)) = resigned (eqb c 0)
no_mate None = other_number 0 (λ e. omega (arith, e)) (λ e. omega (arith, e)) (λ e. omega (arith, e))

module _ (b : BoardBuilder) (low : b.side_to_move ≤ 1) where
  abbrev check : Bool
  check = in_check b.pieces b.side_to_move

  abbrev Ruled : ℕ → Type 0
  Ruled n = RuledByTheLaws b n

  -- a move is left
  moves_left : (n : ℕ) → NoMate n → (NoLegalMove b → ⊥) → Ruled n
  moves_left n o f = record {
    white_mates = ((λ e. absurd (o.not_white e)), (λ c. absurd (f c.0.no_move_lem)));
    black_mates = ((λ e. absurd (o.not_black e)), (λ c. absurd (f c.0.no_move_lem)));
    stalemates = ((λ e. absurd (o.not_stale e)), (λ c. absurd (f c.no_move_lem)));
  }

  -- none is left: by the byte, and by the side
  none_left_lem : NoLegalMove b → (t : Bool) → check ≡ t → (u : Bool) → eqb b.side_to_move 0 ≡ u
      → Ruled (cond (eqb (cond t 1 0) 0) stalemate (cond u black_checkmates white_checkmates))
  none_left_lem f true p true q = record {
    white_mates = ((λ e. absurd (omega (arith, e))), (λ c. absurd (omega (arith, c.1, eqb-true b.side_to_move 0 q))));
    black_mates = ((λ e. (record { under_attack = p; no_move_lem = f }, eqb-true b.side_to_move 0 q)), (λ c. refl));
    stalemates = ((λ e. absurd (omega (arith, e))), (λ c. absurd (false≢true (sym c.not_in_check ∙ p))));
  }
  none_left_lem f true p false q = record {
    white_mates = ((λ e. (record { under_attack = p; no_move_lem = f }, one (eqb-false b.side_to_move 0 q))), (λ c. refl));
    black_mates = ((λ e. absurd (omega (arith, e))), (λ c. absurd (eqb-false b.side_to_move 0 q c.1)));
    stalemates = ((λ e. absurd (omega (arith, e))), (λ c. absurd (false≢true (sym c.not_in_check ∙ p))));
  }
    where
      one : (b.side_to_move ≡ 0 → ⊥) → b.side_to_move ≡ 1
      one n = omega (arith, low, n)
  none_left_lem f false p u q = record {
    white_mates = ((λ e. absurd (omega (arith, e))), (λ c. absurd (false≢true (sym p ∙ c.0.under_attack))));
    black_mates = ((λ e. absurd (omega (arith, e))), (λ c. absurd (false≢true (sym p ∙ c.0.under_attack))));
    stalemates = ((λ e. record { not_in_check = p; no_move_lem = f }), (λ c. refl));
  }

-- the side to move of a position with this record
side_is : (b : BoardBuilder) (p : Position) → in_range b ≡ true → numbers b ≡ p.board → side p ≡ b.side_to_move
side_is b p r e = ap (λ (l : List ℕ). (board_of l).side_to_move) (sym e) ∙ ap (λ (x : BoardBuilder). x.side_to_move) (numbers_of_record b r)

byte_is : (b : BoardBuilder) → check_byte b ≡ cond (in_check b.pieces b.side_to_move) 1 0
unfolding check_byte
byte_is b = refl

ruled_by : (b : BoardBuilder) (p : Position) (last : Option Action) → ListedRight b p → RuledByTheLaws b (result_of p last)
unfolding result_of
ruled_by b p last l = go (eqb (length p.moves) 0) refl
  where
    low : b.side_to_move ≤ 1
    low = (in_range_lem b l.in_range_lem).side

    long : length p.moves ≡ length (legal_moves b)
    long = reordered_length p.moves (legal_moves b) l.right.list_owed

    go : (t : Bool) → eqb (length p.moves) 0 ≡ t → RuledByTheLaws b (cond t (result_without_moves (side p) p.check) (result_of_action last))
    go true q =
        rw (side_is b p l.in_range_lem l.its_record, l.right.byte_owed ∙ byte_is b)
        (none_left_lem b low (empty_none b (sym long ∙ eqb-true (length p.moves) 0 q)) (in_check b.pieces b.side_to_move) refl
        (eqb b.side_to_move 0) refl)
    go false q = moves_left b low (result_of_action last) (no_mate last) (λ f. eqb-false (length p.moves) 0 q (long ∙ none_empty b f))

pub mates_by_the_laws : MatesByTheLaws
unfolding result
mates_by_the_laws h b l = ruled_by b (current h) (last_made h) l
