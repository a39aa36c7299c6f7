-- The record after a move is settled, if a double step is one of the side's own pawns from its second rank.
-- Assumes nothing.
use mathlib.Core.Path.{◌≡◌, refl, ap, sym, ◌∙◌}
use mathlib.Core.Bool.{Bool, true, false, cond, not, ◌&&◌, ◌||◌}
use mathlib.Core.List.{List}
use mathlib.Core.Logic.{◌⊎◌, inl, inr, ⊎_elim}
use Prim.Native.Nat.{ℕ, zero, suc, ◌+◌, ◌-◌, ◌/◌, ◌%◌, ◌≤◌, ◌<◌}
use native.Mathlib.Omega.{arith}
use lib.Dec.{eqb, leb}
use borrow.Author.Tests.{eqb-true, eqb-false, eq-eqb, ne_eqb, leb-true}
use Rattle.answer.specs.Answer.{out_of_range, bad_list}
use Rattle.answer.specs.Numbers.{among}
use Rattle.answer.proofs.Numbers.{both_left, both_right}
use Rattle.square.specs.Piece.{kind_of, pawn, man_on}
use Rattle.board_builder.specs.declared.BoardBuilder.{BoardBuilder}
use Rattle.board_builder.specs.declared.Stepped.{Stepped}
use Rattle.board_builder.specs.BoardBuilder.{in_range}
use Rattle.board_builder.specs.Steps.{stepped}
use Rattle.board_builder.proofs.Ranges.{in_range_lem}
use Rattle.chess_move.specs.Number.{last_move, source_of, dest_of, promotion_of}
use Rattle.move_rules.specs.After.{enemy_pawn, two_apart, castles, takes_in_passing, squares_after, steps_twice, stood_before, stood_behind, stood_beside}
use Rattle.move_rules.specs.After.{file_after, after_parts, board_after, after_answer}
use Rattle.move_rules.specs.Promises.{named}
use Rattle.move_rules.proofs.Ranges.{after_in_range}
use Rattle.move_rules.proofs.Stay.{others_stay}
use Rattle.settled_rules.specs.Settled.{stepped_rank, stepped_pawn, own_pawn, usable, settled_file, with_file, settled, settled_answer}
use Rattle.settled_rules.specs.Promises.{home_rank, PlayedIsSettled, PlayedStaysAsItIs}
use Rattle.settled_rules.proofs.Settles.{none_stays, call_settles}

-- a double step leaves what stands on the other squares
module _ (l : List ℕ) (man source dest promotion : ℕ) (here : man_on l source ≡ man) (kind : kind_of man ≡ pawn) (files : source % 8 ≡ dest % 8) where
  only_two : (s : ℕ) → (source ≡ s → ⊥) → (dest ≡ s → ⊥) → among s (named l source dest) ≡ false
  unfolding castles takes_in_passing among
  only_two s a b = rw (here, kind, eq-eqb _ _ files, ne_eqb _ _ a, ne_eqb _ _ b)

  module _ (apart : two_apart (source / 8) (dest / 8) ≡ true) where
    sixteen : (dest ≡ source + 16) ⊎ (source ≡ dest + 16)
    unfolding two_apart
    sixteen = go (eqb (dest / 8) (source / 8 + 2)) refl apart
      where
        go : (t : Bool) → eqb (dest / 8) (source / 8 + 2) ≡ t → t || eqb (source / 8) (dest / 8 + 2) ≡ true → (dest ≡ source + 16) ⊎ (source ≡ dest + 16)
        go true e f = inl (let d : dest / 8 ≡ source / 8 + 2 = eqb-true _ _ e in omega (arith, d, files))
        go false e f = inr (let d : source / 8 ≡ dest / 8 + 2 = eqb-true _ _ f in omega (arith, d, files))

    far : (s : ℕ) → (s ≡ dest + 1) ⊎ (s + 1 ≡ dest) → source ≡ s → ⊥
    far s w e = ⊎_elim (λ d. ⊎_elim (λ a. omega (arith, a, d, e)) (λ a. omega (arith, a, d, e)) w)
        (λ d. ⊎_elim (λ a. omega (arith, a, d, e)) (λ a. omega (arith, a, d, e)) w) sixteen

    beside_stays : (p : ℕ) → stood_beside (squares_after l source dest promotion) dest p ≡ stood_beside l dest p
    unfolding stood_before stood_behind
    beside_stays p = rw (before, behind)
      where
        before : not (eqb (dest % 8) 0) && eqb (man_on (squares_after l source dest promotion) (dest - 1)) p ≡ not (eqb (dest % 8) 0) && eqb
            (man_on l (dest - 1)) p
        before = go (eqb (dest % 8) 0) refl
          where
            go : (t : Bool) → eqb (dest % 8) 0 ≡ t → not t && eqb (man_on (squares_after l source dest promotion) (dest - 1)) p ≡ not t && eqb
                (man_on l (dest - 1)) p
            go true e = refl
            go false e =
                let n : dest % 8 ≡ 0 → ⊥ = eqb-false _ _ e in
                let low : (dest - 1) + 1 ≡ dest = omega (arith, n) in
                ap (λ (x : ℕ). eqb x p) (others_stay l source dest promotion (dest - 1)
                (only_two (dest - 1) (far (dest - 1) (inr low)) (λ f. omega (arith, f, low))))

        behind : not (eqb (dest % 8) 7) && eqb (man_on (squares_after l source dest promotion) (dest + 1)) p ≡ not (eqb (dest % 8) 7) && eqb
            (man_on l (dest + 1)) p
        behind = ap (λ (x : ℕ). not (eqb (dest % 8) 7) && eqb x p)
            (others_stay l source dest promotion (dest + 1) (only_two (dest + 1) (far (dest + 1) (inl refl)) (λ f. omega (arith, f))))

-- the pawn that moved, and the one that stands beside it, by the side that moved
arrived : (side source dest : ℕ) → side ≤ 1 → source % 8 ≡ dest % 8 → dest < 64 → source / 8 ≡ home_rank side
    → (dest ≡ source + 16) ⊎ (source ≡ dest + 16) → stepped_pawn (1 - side) (dest % 8 + 1) ≡ dest
unfolding stepped_pawn stepped_rank home_rank
arrived zero source dest h f k r w = ⊎_elim (λ d. omega (arith, f, r, d)) (λ d. absurd (omega (arith, f, r, d))) w
arrived (suc zero) source dest h f k r w = ⊎_elim (λ d. absurd (omega (arith, f, r, d, k))) (λ d. omega (arith, f, r, d)) w
arrived (suc (suc n)) source dest h f k r w = absurd (omega (arith, h))

enemies : (side : ℕ) → side ≤ 1 → enemy_pawn (own_pawn side) ≡ own_pawn (1 - side)
unfolding enemy_pawn own_pawn
enemies zero h = refl
enemies (suc zero) h = refl
enemies (suc (suc n)) h = absurd (omega (arith, h))

module _ (l : List ℕ) (side source dest promotion : ℕ) (h : side ≤ 1) (low : dest < 64)
    (home : steps_twice (man_on l source) source dest ≡ true → (man_on l source ≡ own_pawn side) × (source / 8 ≡ home_rank side)) where
  abbrev man : ℕ
  man = man_on l source

  abbrev after : List ℕ
  after = squares_after l source dest promotion

  use_kept : steps_twice man source dest ≡ true → stood_beside l dest (enemy_pawn man) ≡ true → usable after (1 - side) (dest % 8 + 1) ≡ true
  unfolding usable steps_twice
  use_kept s u =
      let kind : kind_of man ≡ pawn = eqb-true _ _ (both_left (eqb (kind_of man) pawn) _ s) in
      let rest = both_right (eqb (kind_of man) pawn) _ s in
      let files : source % 8 ≡ dest % 8 = eqb-true _ _ (both_left (eqb (source % 8) (dest % 8)) _ rest) in
      let apart : two_apart (source / 8) (dest / 8) ≡ true = both_right (eqb (source % 8) (dest % 8)) _ rest in
      let at : stepped_pawn (1 - side) (dest % 8 + 1) ≡ dest =
      arrived side source dest h files low (home s).1 (sixteen l man source dest promotion refl kind files apart) in
      let enemy : enemy_pawn man ≡ own_pawn (1 - side) = ap enemy_pawn (home s).0 ∙ enemies side h in
      let there : eqb (dest % 8 + 1) 0 ≡ false = ne_eqb (dest % 8 + 1) 0 (λ z. omega (arith, z)) in
      rw there
      (ap (λ (q : ℕ). stood_beside after q (own_pawn (1 - side))) at
      ∙ ap (λ (p : ℕ). stood_beside after dest p) (sym enemy)
      ∙ beside_stays l man source dest promotion refl kind files apart (enemy_pawn man)
      ∙ u)

  file_settled : settled_file after (1 - side) (file_after l man source dest) ≡ file_after l man source dest
  unfolding settled_file file_after
  file_settled = go (steps_twice man source dest) refl (stood_beside l dest (enemy_pawn man)) refl
    where
      go : (t : Bool) → steps_twice man source dest ≡ t → (u : Bool) → stood_beside l dest (enemy_pawn man) ≡ u
          → cond (usable after (1 - side) (cond t (cond u (dest % 8 + 1) 0) 0)) (cond t (cond u (dest % 8 + 1) 0) 0) 0 ≡ cond t (cond u (dest % 8 + 1) 0) 0
      go true e true f = ap (λ (x : Bool). cond x (dest % 8 + 1) 0) (use_kept e f)
      go true e false f = none_stays after (1 - side)
      go false e u f = none_stays after (1 - side)

pub played_is_settled : PlayedIsSettled
unfolding settled after_parts
played_is_settled b m e home =
    ap (λ (f : ℕ). with_file (board_after b m) f)
    (file_settled b.pieces b.side_to_move (source_of m) (dest_of m) (promotion_of m) (in_range_lem b e).side (omega arith) home)

-- ---- the calls

module _ (b : BoardBuilder) (m : ℕ) where
  abbrev told : Bool → Bool → Stepped
  told x y = cond x (cond y (stepped 0 (board_after b m)) (stepped bad_list b)) (stepped out_of_range b)

  computed : (after_answer b m).number ≡ 0 → (in_range b ≡ true) × (m ≤ last_move) × (after_answer b m ≡ stepped 0 (board_after b m))
  unfolding after_answer
  computed z = go (in_range b) refl (leb m last_move) refl z
    where
      go : (x : Bool) → in_range b ≡ x → (y : Bool) → leb m last_move ≡ y → (told x y).number ≡ 0
          → (in_range b ≡ true) × (m ≤ last_move) × (told x y ≡ stepped 0 (board_after b m))
      go true e true f z = (e, leb-true m last_move f, refl)
      go true e false f z = absurd (omega (arith, z))
      go false e y f z = absurd (omega (arith, z))

pub played_stays_as_it_is : PlayedStaysAsItIs
played_stays_as_it_is b m z home =
    let c = computed b m z in
    ap (λ (s : Stepped). settled_answer s.board) c.2
    ∙ call_settles.computed (board_after b m) (after_in_range b m c.0 c.1)
    ∙ ap (stepped 0) (played_is_settled b m c.0 home)
    ∙ sym c.2
