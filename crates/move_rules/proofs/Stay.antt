-- What a move leaves on each square: on those that its rules name what the rule says, on all others what stood there.
-- Assumes nothing.
use mathlib.Core.Path.{◌≡◌, refl, ap, sym, ◌∙◌}
use mathlib.Core.Bool.{Bool, true, false, cond, not, ◌||◌, false≢true}
use mathlib.Core.List.{List, [], ◌∷◌, ◌++◌}
use Prim.Native.Nat.{ℕ, ◌+◌, ◌*◌, ◌/◌, ◌%◌, ◌<◌}
use native.Mathlib.Omega.{arith}
use lib.Dec.{eqb, ltb}
use lib.ListN.{length, set, length-set}
use lib.Seq.{get_or-set_same, get_or-set_other}
use borrow.Author.Tests.{eqb-true, eqb-false, eq-eqb, lt-leb, le-leb, ltb-true, ltb-false}
use Rattle.answer.specs.Numbers.{among}
use Rattle.square.specs.Piece.{kind_of, king, man_on}
use Rattle.answer.proofs.Numbers.{both_left, both_right}
use Rattle.move_rules.specs.After.{rank, file, two_apart, castles, corner, passed_over, rook_moved, takes_in_passing, pawn_removed, set_down}
use Rattle.move_rules.specs.After.{squares_after, after_answer}
use Rattle.move_rules.specs.Promises.{taken_square, OthersStay, RulesHold, CallIsAnswered}
use Rattle.move_rules.proofs.Squares.{rook_length, pawn_length, corner_below}

-- a number that is not among some is none of them
apart : (s x : ℕ) (l : List ℕ) → among s (x ∷ l) ≡ false → (s ≡ x → ⊥) × (among s l ≡ false)
unfolding among
apart s x l h = go (eqb x s) refl h
  where
    go : (t : Bool) → eqb x s ≡ t → t || among s l ≡ false → (s ≡ x → ⊥) × (among s l ≡ false)
    go false e h = ((λ f. eqb-false x s e (sym f)), h)
    go true e h = absurd (false≢true (sym h))

-- a king takes nothing in passing
module _ (man source dest : ℕ) (c : castles man source dest ≡ true) where
  a_king : kind_of man ≡ king
  unfolding castles
  a_king = eqb-true _ _ (both_left (eqb (kind_of man) king) _ c)

  no_passing : (l : List ℕ) → takes_in_passing l man source dest ≡ false
  unfolding takes_in_passing
  no_passing l = rw a_king

  one_rank : rank source ≡ rank dest
  unfolding castles
  one_rank = eqb-true _ _ (both_left (eqb (rank source) (rank dest)) _ (both_right (eqb (kind_of man) king) _ c))

  two_files : two_apart (file source) (file dest) ≡ true
  unfolding castles
  two_files = both_right (eqb (rank source) (rank dest)) _ (both_right (eqb (kind_of man) king) _ c)

-- the squares after a move, by the rule that it falls under
module _ (l : List ℕ) (source dest promotion : ℕ) where
  abbrev man : ℕ
  man = man_on l source

  abbrev moved : List ℕ → List ℕ
  moved k = set (set k source 0) dest (set_down man promotion)

  abbrev crossed : List ℕ
  crossed = set (set l (passed_over source dest) (man_on l (corner source dest))) (corner source dest) 0

  by_castling : castles man source dest ≡ true → squares_after l source dest promotion ≡ moved crossed
  unfolding squares_after rook_moved pawn_removed
  by_castling c = rw (c, no_passing man source dest c crossed)

  by_passing : castles man source dest ≡ false → takes_in_passing l man source dest ≡ true
      → squares_after l source dest promotion ≡ moved (set l (taken_square source dest) 0)
  unfolding squares_after rook_moved pawn_removed
  by_passing c t = rw (c, t)

  by_none : castles man source dest ≡ false → takes_in_passing l man source dest ≡ false → squares_after l source dest promotion ≡ moved l
  unfolding squares_after rook_moved pawn_removed
  by_none c t = rw (c, t)

  -- a square that is neither source nor destination keeps what it had when the man is moved
  moved_past : (k : List ℕ) (s : ℕ) → (s ≡ source → ⊥) → (s ≡ dest → ⊥) → man_on (moved k) s ≡ man_on k s
  moved_past k s a b = get_or-set_other (set k source 0) dest s (set_down man promotion) 0 b ∙ get_or-set_other k source s 0 0 a

  stays : (s : ℕ) (c t : Bool) → castles man source dest ≡ c → takes_in_passing l man source dest ≡ t
      → among s (source ∷ dest ∷ (cond c (corner source dest ∷ passed_over source dest ∷ []) [] ++ cond t (taken_square source dest ∷ []) [])) ≡ false
      → man_on (squares_after l source dest promotion) s ≡ man_on l s
  stays s true t c e h =
      let from = apart s source _ h in
      let to = apart s dest _ from.1 in
      let rook = apart s (corner source dest) _ to.1 in
      let over = apart s (passed_over source dest) _ rook.1 in
      ap (λ (k : List ℕ). man_on k s) (by_castling c)
      ∙ moved_past crossed s from.0 to.0
      ∙ get_or-set_other (set l (passed_over source dest) (man_on l (corner source dest))) (corner source dest) s 0 0 rook.0
      ∙ get_or-set_other l (passed_over source dest) s (man_on l (corner source dest)) 0 over.0
  stays s false true c e h =
      let from = apart s source _ h in
      let to = apart s dest _ from.1 in
      let pawn = apart s (taken_square source dest) _ to.1 in
      ap (λ (k : List ℕ). man_on k s) (by_passing c e)
      ∙ moved_past (set l (taken_square source dest) 0) s from.0 to.0
      ∙ get_or-set_other l (taken_square source dest) s 0 0 pawn.0
  stays s false false c e h =
      let from = apart s source _ h in
      let to = apart s dest _ from.1 in
      ap (λ (k : List ℕ). man_on k s) (by_none c e) ∙ moved_past l s from.0 to.0

pub others_stay : OthersStay
others_stay l source dest promotion s h =
    stays l source dest promotion s (castles (man_on l source) source dest) (takes_in_passing l (man_on l source) source dest) refl refl h

-- where the rook goes: between the source and the destination, and away from the corner
module _ (source dest : ℕ) (r : source / 8 ≡ dest / 8) (h : source < 64) where
  over_apart : two_apart (source % 8) (dest % 8) ≡ true
      → (passed_over source dest ≡ source → ⊥) × (passed_over source dest ≡ dest → ⊥) × (passed_over source dest ≡ corner source dest → ⊥)
      × (corner source dest ≡ source → ⊥) × (passed_over source dest < 64)
  unfolding two_apart corner
  over_apart t = go (eqb (dest % 8) (source % 8 + 2)) refl (ltb source dest) refl t
    where
      go : (a : Bool) → eqb (dest % 8) (source % 8 + 2) ≡ a → (b : Bool) → ltb source dest ≡ b → a || eqb (source % 8) (dest % 8 + 2) ≡ true
          → ((source + dest) / 2 ≡ source → ⊥) × ((source + dest) / 2 ≡ dest → ⊥) × ((source + dest) / 2 ≡ source / 8 * 8 + cond b 7 0 → ⊥)
          × (source / 8 * 8 + cond b 7 0 ≡ source → ⊥) × ((source + dest) / 2 < 64)
      go true e true f w =
          let d : dest % 8 ≡ source % 8 + 2 = eqb-true _ _ e in
          ((λ x. omega (arith, r, d, x)), (λ x. omega (arith, r, d, x)), (λ x. omega (arith, r, d, x)), (λ x. omega (arith, r, d, x)), omega (arith, r, d))
      go true e false f w =
          let d : dest % 8 ≡ source % 8 + 2 = eqb-true _ _ e in
          absurd (omega (arith, r, d, ltb-false source dest f))
      go false e true f w =
          let d : source % 8 ≡ dest % 8 + 2 = eqb-true _ _ w in
          absurd (omega (arith, r, d, ltb-true source dest f))
      go false e false f w =
          let d : source % 8 ≡ dest % 8 + 2 = eqb-true _ _ w in
          ((λ x. omega (arith, r, d, x)), (λ x. omega (arith, r, d, x)), (λ x. omega (arith, r, d, x)), (λ x. omega (arith, r, d, x)), omega (arith, r, d))

module _ (l : List ℕ) (source dest promotion : ℕ) (long : length l ≡ 64) (hs : source < 64) (hd : dest < 64) where
  abbrev here : ℕ
  here = man_on l source

  abbrev after : List ℕ
  after = squares_after l source dest promotion

  abbrev before_set : List ℕ
  before_set = pawn_removed (rook_moved l here source dest) here source dest

  kept : length before_set ≡ 64
  kept = pawn_length here source dest (rook_moved l here source dest) ∙ rook_length here source dest l ∙ long

  at_dest : man_on after dest ≡ set_down here promotion
  unfolding squares_after
  at_dest = get_or-set_same (set before_set source 0) dest (set_down here promotion) 0 (omega (arith, length-set before_set source 0, kept))

  at_source : (source ≡ dest → ⊥) → man_on after source ≡ 0
  unfolding squares_after
  at_source n =
      get_or-set_other (set before_set source 0) dest source (set_down here promotion) 0 n
      ∙ get_or-set_same before_set source 0 0 (omega (arith, kept))

  module _ (c : castles here source dest ≡ true) where
    abbrev crossing : List ℕ
    crossing = set l (passed_over source dest) (man_on l (corner source dest))

    at_passed : man_on after (passed_over source dest) ≡ man_on l (corner source dest)
    at_passed =
        let w = over_apart source dest (one_rank here source dest c) hs (two_files here source dest c) in
        ap (λ (k : List ℕ). man_on k (passed_over source dest)) (by_castling l source dest promotion c)
        ∙ moved_past l source dest promotion (set crossing (corner source dest) 0) (passed_over source dest) w.0 w.1
        ∙ get_or-set_other crossing (corner source dest) (passed_over source dest) 0 0 w.2
        ∙ get_or-set_same l (passed_over source dest) (man_on l (corner source dest)) 0 (omega (arith, long, w.4))

    at_corner : (corner source dest ≡ dest → ⊥) → man_on after (corner source dest) ≡ 0
    at_corner n =
        let w = over_apart source dest (one_rank here source dest c) hs (two_files here source dest c) in
        ap (λ (k : List ℕ). man_on k (corner source dest)) (by_castling l source dest promotion c)
        ∙ moved_past l source dest promotion (set crossing (corner source dest) 0) (corner source dest) w.3 n
        ∙ get_or-set_same crossing (corner source dest) 0 0
        (omega (arith, long, length-set l (passed_over source dest) (man_on l (corner source dest)), corner_below source dest hs))

  module _ (t : takes_in_passing l here source dest ≡ true) where
    not_castling : castles here source dest ≡ false
    not_castling = go (castles here source dest) refl
      where
        go : (x : Bool) → castles here source dest ≡ x → x ≡ false
        go false e = refl
        go true e = absurd (false≢true (sym (no_passing here source dest e l) ∙ t))

    files_differ : source % 8 ≡ dest % 8 → ⊥
    unfolding takes_in_passing
    files_differ e =
        absurd (false≢true (sym (ap not (eq-eqb _ _ e)) ∙ both_left (not (eqb (source % 8) (dest % 8))) _ (both_right (eqb (kind_of here) 1) _ t)))

    at_taken : (taken_square source dest ≡ dest → ⊥) → man_on after (taken_square source dest) ≡ 0
    at_taken n =
        ap (λ (k : List ℕ). man_on k (taken_square source dest)) (by_passing l source dest promotion not_castling t)
        ∙ moved_past l source dest promotion (set l (taken_square source dest) 0) (taken_square source dest) (λ e. files_differ (omega (arith, e))) n
        ∙ get_or-set_same l (taken_square source dest) 0 0 (omega (arith, long))

pub rules_hold : RulesHold
rules_hold l source dest promotion long hs hd =
    record {
      arrives = at_dest l source dest promotion long hs hd;
      leaves = at_source l source dest promotion long hs hd;
      rook_crosses = at_passed l source dest promotion long hs hd;
      corner_empties = at_corner l source dest promotion long hs hd;
      pawn_goes = at_taken l source dest promotion long hs hd;
    }

pub call_is_answered : CallIsAnswered
unfolding after_answer
call_is_answered =
    record {
      out_of_range_fact = λ b m e. rw e;
      no_move_lem = λ b m e h. rw (e, lt-leb _ _ h);
      computed = λ b m e h. rw (e, le-leb _ _ h);
    }
