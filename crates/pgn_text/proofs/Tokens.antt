-- A token ends within the text; a move is one by its first byte and its run.
-- Assumes nothing.
use mathlib.Core.Path.{◌≡◌, refl, sym, ap, ◌∙◌}
use mathlib.Core.Bool.{Bool, true, false, cond, false≢true}
use mathlib.Core.List.{List}
use Prim.Native.Nat.{ℕ, ◌+◌, ◌-◌, ◌≤◌, zero-le}
use native.Mathlib.Omega.{arith}
use lib.Dec.{eqb, ltb}
use lib.ListN.{length, drop, length-drop}
use borrow.Author.Tests.{ltb-true}
use Rattle.pgn_text.specs.declared.Run.TheVariants.{Digits, Periods, MoveBytes, InBraces, InLine}
use Rattle.pgn_text.specs.declared.Token.{Token}
use Rattle.pgn_text.specs.declared.Token.TheVariants.{Passed, Move, Opening, Closing, Result, LeftOpen, Unknown}
use Rattle.pgn_text.specs.Bytes.{is_white, is_digit, starts_move, run_length}
use Rattle.pgn_text.specs.Token.{is_result, number, glyph, brace_comment, line_comment, token}
use Rattle.pgn_text.proofs.Runs.{run_within}

-- how many bytes a token has behind its first one
abbrev pub more : Token → ℕ
more (Passed n) = n
more (Move n) = n
more Opening = 0
more Closing = 0
more Result = 0
more LeftOpen = 0
more Unknown = 0

either_within : (t : Bool) (a b : Token) (n : ℕ) → more a ≤ n → more b ≤ n → more (cond t a b) ≤ n
either_within true a b n h k = h
either_within false a b n h k = k

-- the same where the first case knows that its test held
tested_within : (t : Bool) (a b : Token) (n : ℕ) → (t ≡ true → more a ≤ n) → more b ≤ n → more (cond t a b) ≤ n
tested_within true a b n h k = h refl
tested_within false a b n h k = k

module _ (bs : List ℕ) where
  number_within : more (number bs) ≤ length bs
  unfolding number
  number_within =
      let d = run_length Digits bs in
      let k : d ≤ length bs = run_within Digits bs in
      let l : length (drop d bs) ≡ length bs - d = length-drop d bs in
      let p : run_length Periods (drop d bs) ≤ length (drop d bs) = run_within Periods (drop d bs) in
      omega arith

  glyph_within : more (glyph bs) ≤ length bs
  unfolding glyph
  glyph_within = either_within (eqb (run_length Digits bs) 0) Unknown (Passed (run_length Digits bs)) (length bs) zero-le (run_within Digits bs)

  brace_within : more (brace_comment bs) ≤ length bs
  unfolding brace_comment
  brace_within =
      let n = run_length InBraces bs in
      tested_within (ltb n (length bs)) (Passed (n + 1)) LeftOpen (length bs) (λ e. omega (arith, ltb-true n (length bs) e)) zero-le

  line_within : more (line_comment bs) ≤ length bs
  unfolding line_comment
  line_within =
      let n = run_length InLine bs in
      tested_within (ltb n (length bs)) (Passed (n + 1)) (Passed n) (length bs) (λ e. omega (arith, ltb-true n (length bs) e)) (run_within InLine bs)

  pub token_within : (b : ℕ) → more (token b bs) ≤ length bs
  unfolding token
  token_within b =
      let n = length bs in
      let t9 = either_within (is_digit b) (number bs) Unknown n number_within zero-le in
      let t8 = either_within (is_result b bs) Result _ n zero-le t9 in
      let t7 = either_within (eqb b 41) Closing _ n zero-le t8 in
      let t6 = either_within (eqb b 40) Opening _ n zero-le t7 in
      let t5 = either_within (eqb b 36) (glyph bs) _ n glyph_within t6 in
      let t4 = either_within (eqb b 59) (line_comment bs) _ n line_within t5 in
      let t3 = either_within (eqb b 123) (brace_comment bs) _ n brace_within t4 in
      let t2 = either_within (starts_move b) (Move (run_length MoveBytes bs)) _ n (run_within MoveBytes bs) t3 in
      either_within (is_white b) (Passed 0) _ n zero-le t2

-- digits and periods together fit where the text's length does
pub number_sum : (bs : List ℕ) (d p : ℕ) → d ≡ run_length Digits bs → p ≡ run_length Periods (drop d bs) → d + p ≤ length bs
number_sum bs d p e f =
    let k : run_length Digits bs ≤ length bs = run_within Digits bs in
    let l : length (drop d bs) ≡ length bs - d = length-drop d bs in
    let q : run_length Periods (drop d bs) ≤ length (drop d bs) = run_within Periods (drop d bs) in
    omega arith

-- ---- which tokens are moves
is_move : Token → Bool
is_move (Passed n) = false
is_move (Move n) = true
is_move Opening = false
is_move Closing = false
is_move Result = false
is_move LeftOpen = false
is_move Unknown = false

either_no : (t : Bool) (a b : Token) → is_move a ≡ false → is_move b ≡ false → is_move (cond t a b) ≡ false
either_no true a b h k = h
either_no false a b h k = k

move_by : (w s : Bool) (m n : ℕ) (other : Token) → is_move other ≡ false → cond w (Passed 0) (cond s (Move m) other) ≡ Move n → (s ≡ true) × (n ≡ m)
unfolding is_move
move_by true s m n other h e = let z : ◌≡◌ {A = ℕ} 0 1 = cc in absurd (omega arith)
move_by false true m n other h e = (refl, cc)
move_by false false m n other h e = absurd (false≢true (sym h ∙ ap is_move e))

module _ (bs : List ℕ) where
  number_no : is_move (number bs) ≡ false
  unfolding number is_move
  number_no = refl

  glyph_no : is_move (glyph bs) ≡ false
  unfolding glyph is_move
  glyph_no = either_no (eqb (run_length Digits bs) 0) Unknown (Passed (run_length Digits bs)) refl refl

  brace_no : is_move (brace_comment bs) ≡ false
  unfolding brace_comment is_move
  brace_no = either_no (ltb (run_length InBraces bs) (length bs)) (Passed (run_length InBraces bs + 1)) LeftOpen refl refl

  line_no : is_move (line_comment bs) ≡ false
  unfolding line_comment is_move
  line_no = either_no (ltb (run_length InLine bs) (length bs)) (Passed (run_length InLine bs + 1)) (Passed (run_length InLine bs)) refl refl

  pub move_is : (b n : ℕ) → token b bs ≡ Move n → (starts_move b ≡ true) × (n ≡ run_length MoveBytes bs)
  unfolding token is_move
  move_is b n e =
      let t9 = either_no (is_digit b) (number bs) Unknown number_no refl in
      let t8 = either_no (is_result b bs) Result _ refl t9 in
      let t7 = either_no (eqb b 41) Closing _ refl t8 in
      let t6 = either_no (eqb b 40) Opening _ refl t7 in
      let t5 = either_no (eqb b 36) (glyph bs) _ glyph_no t6 in
      let t4 = either_no (eqb b 59) (line_comment bs) _ line_no t5 in
      let t3 = either_no (eqb b 123) (brace_comment bs) _ brace_no t4 in
      move_by (is_white b) (starts_move b) (run_length MoveBytes bs) n _ t3 e
