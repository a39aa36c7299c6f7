-- A placement's text, read back: each rank fills its eight squares, from the eighth rank down.
-- Assumes nothing.
use mathlib.Core.Path.{◌≡◌, refl, sym, ap, ap₂, ◌∙◌}
use mathlib.Core.Bool.{true}
use mathlib.Core.List.{List, [], ◌∷◌, ◌++◌, append_assoc, append-nil}
use Prim.Native.Nat.{ℕ, zero, suc, ◌+◌, ◌*◌, ◌%◌, ◌≤◌, ◌<◌}
use native.Mathlib.Nat.{le_of_eq, le_of_suc-le-suc, add-sub_cancel_left}
use native.Mathlib.Omega.{arith}
use lib.Dec.{eqb, leb, eqb-suc-zero, eqb→eq, leb→le, lit<}
use borrow.Author.Tests.{le-leb, lt-leb, ne_eqb}
use lib.ListN.{length, drop, replicate}
use lib.ListN.{length-append, length-take, length-drop, length-replicate, replicate-append-replicate, take-append-drop, drop_of_length-le}
use lib.Seq.{append_snoc, set_at, drop-drop}
use Rattle.square.specs.Piece.{piece_of, letter_of}
use Rattle.answer.proofs.Below.{below}
use Rattle.answer.specs.Numbers.{all_at_most}
use Rattle.answer.proofs.Numbers.{most_head, most_tail, most_take, most_drop}
use Rattle.fen_text.specs.Placement.{Placement, placement, start, skip, fill, place_byte, place_all}
use Rattle.fen_text.specs.Write.{digit_text, run_text, row_of, slash_text, ranks_text}

-- a placement that is good so far
abbrev pub at : ℕ → ℕ → List ℕ → Placement
at rank file pieces = placement pieces rank file true

pub place_append : (p : Placement) (xs ys : List ℕ) → place_all p (xs ++ ys) ≡ place_all (place_all p xs) ys
unfolding place_all
place_append p [] ys = refl
place_append p (x ∷ xs) ys = place_append (place_byte p x) xs ys

-- a letter stands for its piece, and is neither a slash nor a digit: twelve codes, each computed
letter_piece : (x : ℕ) → x < 13 → (x ≡ 0 → ⊥) → piece_of (letter_of x) ≡ x
unfolding piece_of letter_of
letter_piece x h n = eqb→eq _ x (below (λ (y : ℕ). eqb (piece_of (letter_of y)) y) 13 tt x h)

letter_high : (x : ℕ) → x < 13 → (x ≡ 0 → ⊥) → 57 ≤ letter_of x
unfolding letter_of
letter_high zero h n = absurd (n refl)
letter_high (suc x) h n = leb→le 57 _ (below (λ (y : ℕ). leb 57 (letter_of (suc y))) 12 tt x (le_of_suc-le-suc h))

high_fills : (p : Placement) (b x : ℕ) → 57 ≤ b → piece_of b ≡ x → (x ≡ 0 → ⊥) → place_byte p b ≡ fill x p
unfolding place_byte
high_fills p b x h e n =
    let slash : b ≡ 47 → ⊥ = λ q. omega arith in
    let low : 49 ≤ b = omega arith in
    simp (ne_eqb _ _ slash, le-leb _ _ low, lt-leb b 56 h, e, ne_eqb _ _ n)

letter_fills : (p : Placement) (x : ℕ) → x < 13 → (x ≡ 0 → ⊥) → place_byte p (letter_of x) ≡ fill x p
letter_fills p x h n = high_fills p (letter_of x) x (letter_high x h n) (letter_piece x h n) n

-- an empty run moves on by its length
wrap : (f n : ℕ) → (f % 8 + n) % 8 ≡ (f + n) % 8
wrap f n = omega arith

digit_skips : (p : Placement) (n : ℕ) → n < 9 → (n ≡ 0 → ⊥) → place_byte p (48 + n) ≡ skip n p
unfolding place_byte
digit_skips p n h e =
    let slash : 48 + n ≡ 47 → ⊥ = λ q. omega arith in
    let low : 49 ≤ 48 + n = omega arith in
    let high : 48 + n ≤ 56 = omega arith in
    simp (ne_eqb _ _ slash, le-leb _ _ low, le-leb _ _ high, add-sub_cancel_left)

run_skips : (k f n : ℕ) (l : List ℕ) → n < 9 → place_all (at k (f % 8) l) (digit_text n) ≡ at k ((f + n) % 8) l
unfolding place_all digit_text
run_skips k f zero l h = ap (λ (m : ℕ). at k m l) (same_file f)
  where
    same_file : (f : ℕ) → f % 8 ≡ (f + 0) % 8
    same_file f = omega arith
run_skips k f (suc n) l h = rw (eqb-suc-zero n) (digit_skips (at k (f % 8) l) (suc n) h (λ e. omega arith) ∙ ap (λ (m : ℕ). at k m l) (wrap f (suc n)))

-- a piece after a run: the square at the end of q is filled
filled : (k g x : ℕ) (q tail : List ℕ) → g < 8 → length q ≡ k * 8 + g → fill x (at k (g % 8) (q ++ (0 ∷ tail))) ≡ at k ((g + 1) % 8) ((q ++ (x ∷ [])) ++ tail)
filled k g x q tail small long =
    let place : length q ≡ k * 8 + g % 8 = omega arith in
    ap₂ (λ (l : List ℕ) (m : ℕ). at k m l) (set_at q 0 tail x (k * 8 + g % 8) place ∙ sym (append_snoc q x tail)) (wrap g 1)

fill_next : (k f n x : ℕ) (q tail : List ℕ) → x < 13 → (x ≡ 0 → ⊥) → f + n < 8 → length q ≡ k * 8 + (f + n)
    → place_all (at k (f % 8) (q ++ (0 ∷ tail))) (digit_text n ++ (letter_of x ∷ [])) ≡ at k ((f + n + 1) % 8) ((q ++ (x ∷ [])) ++ tail)
unfolding place_all
fill_next k f n x q tail h e small long =
    let l : List ℕ = q ++ (0 ∷ tail) in
    place_append (at k (f % 8) l) (digit_text n) (letter_of x ∷ [])
    ∙ ap (λ (p : Placement). place_byte p (letter_of x)) (run_skips k f n l (omega arith))
    ∙ letter_fills (at k ((f + n) % 8) l) x h e
    ∙ filled k (f + n) x q tail small long

-- a rank, from the file f with n empty squares before what is left. q are the squares before, and rest those of the ranks above
rank_back : (xs : List ℕ) (k f n : ℕ) (q rest : List ℕ) → all_at_most 12 xs ≡ true → f + n + length xs ≡ 8 → length q ≡ k * 8 + (f + n)
    → place_all (at k (f % 8) (q ++ (replicate (length xs) 0 ++ rest))) (run_text n xs) ≡ at k 0 (q ++ (xs ++ rest))
unfolding run_text
rank_back [] k f n q rest ok sum long =
    let end : (f + n) % 8 ≡ 0 = omega arith in
    run_skips k f n (q ++ rest) (omega arith) ∙ ap (λ (m : ℕ). at k m (q ++ rest)) end
rank_back (zero ∷ xs) k f n q rest ok sum long =
    let longer : length (q ++ (0 ∷ [])) ≡ k * 8 + (f + (n + 1)) = simp length-append (omega arith) in
    ap (λ (l : List ℕ). place_all (at k (f % 8) l) (run_text (n + 1) xs)) (sym (append_snoc q 0 (replicate (length xs) 0 ++ rest)))
    ∙ rank_back xs k f (n + 1) (q ++ (0 ∷ [])) rest (most_tail 12 0 xs ok) (omega arith) longer
    ∙ ap (at k 0) (append_snoc q 0 (xs ++ rest))
rank_back (suc x ∷ xs) k f n q rest ok sum long =
    let zeros : List ℕ = replicate (length xs) 0 ++ rest in
    let here : Placement = at k (f % 8) (q ++ (0 ∷ zeros)) in
    let low : suc x < 13 = omega (arith, most_head 12 (suc x) xs ok) in
    let longer : length (q ++ (suc x ∷ [])) ≡ k * 8 + (f + n + 1 + 0) = simp length-append (omega arith) in
    ap (place_all here) (sym (append_snoc (digit_text n) (letter_of (suc x)) (run_text 0 xs)))
    ∙ place_append here (digit_text n ++ (letter_of (suc x) ∷ [])) (run_text 0 xs)
    ∙ ap (λ (p : Placement). place_all p (run_text 0 xs)) (fill_next k f n (suc x) q zeros low (λ e. omega arith) (omega arith) long)
    ∙ rank_back xs k (f + n + 1) 0 (q ++ (suc x ∷ [])) rest (most_tail 12 (suc x) xs ok) (omega arith) longer
    ∙ ap (at k 0) (append_snoc q (suc x) (xs ++ rest))

-- the codes of a rank are codes
pub row_codes : (k : ℕ) (pieces : List ℕ) → all_at_most 12 pieces ≡ true → all_at_most 12 (row_of k pieces) ≡ true
row_codes k pieces ok = most_take 8 12 (drop (k * 8) pieces) (most_drop (k * 8) 12 pieces ok)

-- the board with the ranks below k still empty
abbrev above : ℕ → List ℕ → List ℕ
above k pieces = replicate (k * 8) 0 ++ drop (k * 8) pieces

row_length : (k : ℕ) (pieces : List ℕ) → length pieces ≡ 64 → k < 8 → length (row_of k pieces) ≡ 8
row_length k pieces long h = simp (length-take, length-drop) (omega arith)

row_rest : (k : ℕ) (pieces : List ℕ) → row_of k pieces ++ drop (k * 8 + 8) pieces ≡ drop (k * 8) pieces
row_rest k pieces = rw (← drop-drop 8 (k * 8) pieces) (take-append-drop 8 (drop (k * 8) pieces))

row_zeros : (k : ℕ) (pieces : List ℕ) → above (suc k) pieces ≡ replicate (k * 8) 0 ++ (replicate 8 0 ++ drop (k * 8 + 8) pieces)
row_zeros k pieces =
    let size : suc k * 8 ≡ k * 8 + 8 = omega arith in
    rw (size, ← replicate-append-replicate {A = ℕ} (k * 8) 8 0) (append_assoc (replicate (k * 8) 0) (replicate 8 0) (drop (k * 8 + 8) pieces))

-- one rank fills its row
row_back : (k : ℕ) (pieces : List ℕ) → length pieces ≡ 64 → all_at_most 12 pieces ≡ true → k < 8
    → place_all (at k 0 (above (suc k) pieces)) (run_text 0 (row_of k pieces)) ≡ at k 0 (above k pieces)
row_back k pieces long ok h =
    let row : List ℕ = row_of k pieces in
    let eight : length row ≡ 8 = row_length k pieces long h in
    let zeros : List ℕ = replicate (k * 8) 0 in
    let before : length zeros ≡ k * 8 + (0 + 0) = length-replicate {A = ℕ} (k * 8) 0 ∙ omega arith in
    let empty : above (suc k) pieces ≡ zeros ++ (replicate (length row) 0 ++ drop (k * 8 + 8) pieces) =
    row_zeros k pieces ∙ ap (λ (n : ℕ). zeros ++ (replicate n 0 ++ drop (k * 8 + 8) pieces)) (sym eight) in
    ap (λ (l : List ℕ). place_all (at k 0 l) (run_text 0 row)) empty
    ∙ rank_back row k 0 0 zeros (drop (k * 8 + 8) pieces) (row_codes k pieces ok) (omega arith) before
    ∙ ap (λ (l : List ℕ). at k 0 (zeros ++ l)) (row_rest k pieces)

-- a slash goes one rank down
slash_down : (k : ℕ) (l : List ℕ) → k < 7 → place_byte (at (suc k) 0 l) 47 ≡ at k 0 l
unfolding place_byte
slash_down k l h =
    let low : (suc k + 7) % 8 ≡ k = omega arith in
    ap (λ (m : ℕ). at m 0 l) low

first_rank : (pieces : List ℕ) → ranks_text 1 pieces ≡ run_text 0 (row_of 0 pieces)
unfolding ranks_text slash_text
first_rank pieces = append-nil (run_text 0 (row_of 0 pieces))

next_rank : (k : ℕ) (pieces : List ℕ) → ranks_text (suc (suc k)) pieces ≡ run_text 0 (row_of (suc k) pieces) ++ (47 ∷ ranks_text (suc k) pieces)
unfolding ranks_text slash_text
next_rank k pieces = refl

slashed : (p : Placement) (xs : List ℕ) → place_all p (47 ∷ xs) ≡ place_all (place_byte p 47) xs
unfolding place_all
slashed p xs = refl

ranks_back : (k : ℕ) (pieces : List ℕ) → length pieces ≡ 64 → all_at_most 12 pieces ≡ true → k < 8
    → place_all (at k 0 (above (suc k) pieces)) (ranks_text (suc k) pieces) ≡ at 0 0 pieces
ranks_back zero pieces long ok h = ap (place_all (at 0 0 (above 1 pieces))) (first_rank pieces) ∙ row_back 0 pieces long ok h
ranks_back (suc k) pieces long ok h =
    let here : Placement = at (suc k) 0 (above (suc (suc k)) pieces) in
    let rest : List ℕ = ranks_text (suc k) pieces in
    ap (place_all here) (next_rank k pieces)
    ∙ place_append here (run_text 0 (row_of (suc k) pieces)) (47 ∷ rest)
    ∙ ap (λ (p : Placement). place_all p (47 ∷ rest)) (row_back (suc k) pieces long ok h)
    ∙ slashed (at (suc k) 0 (above (suc k) pieces)) rest
    ∙ ap (λ (p : Placement). place_all p rest) (slash_down k (above (suc k) pieces) (omega arith))
    ∙ ranks_back k pieces long ok (omega arith)

pub placed_back : (pieces : List ℕ) → length pieces ≡ 64 → all_at_most 12 pieces ≡ true → place_all start (ranks_text 8 pieces) ≡ at 0 0 pieces
placed_back pieces long ok =
    let none : drop 64 pieces ≡ [] = drop_of_length-le pieces (le_of_eq long) in
    let empty : replicate 64 0 ≡ above 8 pieces = rw none in
    ap (λ (l : List ℕ). place_all (at 7 0 l) (ranks_text 8 pieces)) empty ∙ ranks_back 7 pieces long ok (lit< tt)
