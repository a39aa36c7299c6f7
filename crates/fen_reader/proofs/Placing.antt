-- The placement in one pass: a byte's mark says what `place_byte` does, and whether it may stand in a placement.
-- Assumes nothing.
use mathlib.Core.Path.{◌≡◌, refl, sym, ap, ◌∙◌}
use mathlib.Core.Bool.{Bool, true, false, ◌&&◌, not, and-true, and-false}
use mathlib.Core.List.{List, [], ◌∷◌}
use Prim.Native.Nat.{ℕ, ◌+◌, ◌*◌, ◌-◌, ◌/◌, ◌%◌, ◌≤◌, ◌<◌}
use native.Mathlib.Numerals.{add-one}
use native.Mathlib.Omega.{arith}
use lib.Dec.{eqb, lit<}
use borrow.Author.Tests.{eq-eqb, ne_eqb, eqb-false, lt-ltb, le-ltb, le-leb}
use lib.ListN.{length, take, get_or, set, replicate}
use lib.Seq.{set-get_or, take-suc, length-take-le}
use lib.Seq.{take_all}
use Rattle.std.specs.Bool.{then_some}
use Rattle.answer.specs.Answer.{bad_placement, bad_side}
use Rattle.answer.specs.Numbers.{between}
use Rattle.square.specs.Square.{square_of}
use Rattle.square.specs.Piece.{piece_of}
use Rattle.board_builder.specs.BoardBuilder.{board}
use Rattle.fen_text.specs.Token.{tokens}
use Rattle.fen_text.specs.Placement.{Placement, placement, start, down, skip, fill, spoil, place_byte, place_all, first_bad}
use Rattle.fen_text.specs.Read.{side_of, rights_of, en_passant_of, refused_at, fen_of, sided, assembled, read_fen}
use Rattle.fen_text.specs.Faults.{nth_token}
use Rattle.fen_text.proofs.Cases.{cond_both}
use Rattle.fen_text.proofs.Faults.{four}
use Rattle.fen_text.proofs.Placed.{place_append}
use Rattle.fen_text.proofs.Keys.{piece_most}
use Rattle.fen_reader.specs.CodeMarks.{slash_mark, no_mark, byte_mark}
use Rattle.fen_reader.specs.CodeWalk.{NoPlacement, PlacedBy, piece_after, step_of, file_next, rank_next}
use Rattle.fen_reader.proofs.ByteMarks.{Kind, slash, digit, letter, other, kind, mark_slash, mark_digit, mark_letter, mark_other}
use Rattle.fen_reader.proofs.Reading.{first_token}

-- the square to fill next stays on the board
pub file_small : (file c : ℕ) → file_next file c < 8
file_small file c = cond_both (λ (x : ℕ). x < 8) (eqb c slash_mark) {x = 0} {y = (file + step_of c) % 8} (lit< tt) (omega arith)

pub rank_small : (rank c : ℕ) → rank < 8 → rank_next rank c < 8
rank_small rank c h = cond_both (λ (x : ℕ). x < 8) (eqb c slash_mark) {x = (rank + 7) % 8} {y = rank} (omega arith) h

-- the placement after a byte of this mark
abbrev pub after : List ℕ → ℕ → ℕ → Bool → ℕ → Placement
after pieces rank file good m =
    placement (set pieces (square_of rank file) (piece_after m (get_or pieces (square_of rank file) 0)))
    (rank_next rank m) (file_next file m) (good && not (eqb m no_mark))

is_same : (l k : List ℕ) (r f g : ℕ) (t u : Bool) → l ≡ k → f ≡ g → t ≡ u → placement l r f t ≡ placement k r g u
is_same l k r f g t u e p q = rw (e, p, q)

-- what the placement rule does with a byte of each kind
pub rule_slash : (p : Placement) (b : ℕ) → b ≡ 47 → place_byte p b ≡ down p
unfolding place_byte
rule_slash p b e = simp (eq-eqb _ _ e)

pub rule_digit : (p : Placement) (b : ℕ) → 49 ≤ b → b ≤ 56 → place_byte p b ≡ skip (b - 48) p
unfolding place_byte
rule_digit p b l h =
    let n : b ≡ 47 → ⊥ = λ e. omega arith in
    simp (ne_eqb _ _ n, le-leb _ _ l, le-leb _ _ h)

pub rule_letter : (p : Placement) (b : ℕ) → eqb b 47 ≡ false → between 49 56 b ≡ false → eqb (piece_of b) 0 ≡ false → place_byte p b ≡ fill (piece_of b) p
unfolding place_byte
rule_letter p b e f g = rw (e, f, g)

rule_other : (p : Placement) (b : ℕ) → eqb b 47 ≡ false → between 49 56 b ≡ false → eqb (piece_of b) 0 ≡ true → place_byte p b ≡ spoil p
unfolding place_byte
rule_other p b e f g = rw (e, f, g)

-- one byte
pub next : (pieces : List ℕ) (rank file : ℕ) (good : Bool) (b : ℕ) → file < 8
    → place_byte (placement pieces rank file good) b ≡ after pieces rank file good (byte_mark b)
next pieces rank file good b small = by (kind b)
  where
    p : Placement
    p = placement pieces rank file good

    stays : pieces ≡ set pieces (square_of rank file) (get_or pieces (square_of rank file) 0)
    stays = sym (set-get_or pieces (square_of rank file) 0)

    by : Kind b → place_byte p b ≡ after pieces rank file good (byte_mark b)
    by (slash e) = rule_slash p b e ∙ rw (mark_slash b e) (is_same _ _ _ _ _ _ _ stays refl (sym (and-true good)))
    by (digit l u) =
        let few : b - 48 < 16 = omega arith in
        let n : b - 48 ≡ slash_mark → ⊥ = λ e. omega arith in
        let o : b - 48 ≡ no_mark → ⊥ = λ e. omega arith in
        let same : b - 48 ≡ (b - 48) % 16 = omega arith in
        rule_digit p b l u
        ∙ rw (mark_digit b l u) (simp (ne_eqb _ _ n, ne_eqb _ _ o, lt-ltb _ _ few)
        (is_same _ _ _ _ _ _ _ stays (ap (λ (m : ℕ). (file + m) % 8) same) (sym (and-true good))))
    by (letter e f g) =
        let m : ℕ = piece_of b * 16 + 1 in
        let some : piece_of b ≡ 0 → ⊥ = eqb-false _ _ g in
        let far : 16 ≤ m = omega arith in
        let few : m < 208 = omega (arith, piece_most b) in
        let n : m ≡ slash_mark → ⊥ = λ q. omega arith in
        let o : m ≡ no_mark → ⊥ = λ q. omega arith in
        let code : piece_of b ≡ m / 16 = omega arith in
        let one : 1 ≡ m % 16 = omega arith in
        rule_letter p b e f g
        ∙ rw (mark_letter b e f g) (simp (ne_eqb _ _ n, ne_eqb _ _ o, le-ltb _ _ far, lt-ltb _ _ few)
        (is_same _ _ _ _ _ _ _ (ap (λ (c : ℕ). set pieces (square_of rank file) c) code) (ap (λ (m : ℕ). (file + m) % 8) one) (sym (and-true good))))
    by (other e f g) = rule_other p b e f g ∙ rw (mark_other b e f g) (is_same _ _ _ _ _ _ _ stays (omega arith) (sym (and-false good)))

-- the same, as the code has it: the mark as it was looked up, and what the three functions gave
pub stored : (pieces : List ℕ) (rank file : ℕ) (good : Bool) (m d x r f : ℕ)
    → m ≡ d → x ≡ piece_after m (get_or pieces (square_of rank file) 0) → r ≡ rank_next rank m → f ≡ file_next file m
    → after pieces rank file good d ≡ placement (set pieces (square_of rank file) x) r f (good && not (eqb m no_mark))
stored pieces rank file good m d x r f e g h k = rw (g, h, k, e)

-- one more byte
pub turn : (s : List ℕ) (i : ℕ) {p q : Placement} → i < length s → place_all start (take i s) ≡ p → place_byte p (get_or s i 0) ≡ q
    → place_all start (take (i + 1) s) ≡ q
unfolding place_all
turn s i {p} {q} h e f =
    rw (add-one i, take-suc s i 0 h) (place_append start (take i s) (get_or s i 0 ∷ []) ∙ rw e f)

pub at_start_lem : place_all start [] ≡ placement (replicate 64 0) 7 0 true
unfolding place_all
at_start_lem = refl

-- the end: the pieces, if each byte was good
pub placed : (s : List ℕ) (i : ℕ) (pieces : List ℕ) (rank file : ℕ) (good : Bool) → length s ≤ i
    → place_all start (take i s) ≡ placement pieces rank file good → PlacedBy s (then_some good pieces)
placed s i pieces rank file good h e = by good (rw (take_all i s h) at e)
  where
    by : (t : Bool) → place_all start s ≡ placement pieces rank file t → PlacedBy s (then_some t pieces)
    by true w = (ap (λ (p : Placement). p.good) w, ap (λ (p : Placement). p.pieces) w)
    by false w = ap (λ (p : Placement). p.good) w

-- a placement that was walked, and the side's start behind it
pub bad_placement_lem : (s : List ℕ) (n : ℕ) (b c d : List ℕ) → (place_all start (take n s)).good ≡ false
    → assembled (take n s) b c d ≡ refused_at bad_placement (first_bad (take n s))
unfolding assembled
bad_placement_lem s n b c d e = simp e

-- the same for a text with enough tokens, of which the first was walked
pub bad_first : (s : List ℕ) (n : ℕ) → NoPlacement s n → 4 ≤ length (tokens s) → read_fen s ≡ refused_at bad_placement (first_bad (take n s))
bad_first s n h k =
    let first : nth_token 0 s ≡ take n s = ap (λ (ts : List (List ℕ)). get_or ts 0 []) (first_token s).1 ∙ ap (λ (m : ℕ). take m s) (sym h.place) in
    four s k
    ∙ ap (λ (t : List ℕ). assembled t (nth_token 1 s) (nth_token 2 s) (nth_token 3 s)) first
    ∙ bad_placement_lem s n (nth_token 1 s) (nth_token 2 s) (nth_token 3 s) h.bad

pub good_placement : (s : List ℕ) (n : ℕ) (pieces b c d : List ℕ)
    → n ≤ length s → (place_all start (take n s)).good ≡ true → (place_all start (take n s)).pieces ≡ pieces
    → assembled (take n s) b c d ≡ sided (n + 1) pieces (side_of b) c d
unfolding assembled
good_placement s n pieces b c d h e f = simp (e, f, length-take-le n s h)

-- the four tokens put together, and no side
pub made : (at : ℕ) (pieces : List ℕ) (s w b e : ℕ) (castling ep : List ℕ)
    → s ≤ 1 → w ≡ rights_of 75 81 castling → b ≡ rights_of 107 113 castling → e ≡ en_passant_of ep
    → fen_of (board pieces s w b e) ≡ sided at pieces s castling ep
unfolding sided
made at pieces s w b e castling ep h ew eb ee =
    let low : s < 2 = omega arith in
    simp (lt-ltb _ _ low, ew, eb, ee)

pub no_side_lem : (at : ℕ) (pieces : List ℕ) (s : ℕ) (castling ep : List ℕ) → 1 < s → refused_at bad_side at ≡ sided at pieces s castling ep
unfolding sided
no_side_lem at pieces s castling ep h = simp (le-ltb _ _ h)
