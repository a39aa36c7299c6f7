-- What the walkers promise, token by token, by what a variation's sequence says, and level by level outward.
-- Assumes nothing.
use mathlib.Core.Path.{◌≡◌, refl, ap, sym, ◌∙◌}
use mathlib.Core.Bool.{Bool, true, false, cond}
use mathlib.Core.List.{List, [], ◌∷◌}
use Prim.Native.Nat.{ℕ, zero, suc, ◌+◌, ◌-◌, ◌*◌, ◌^◌, ◌≤◌, ◌<◌, zero-le}
use native.Mathlib.Nat.{le_trans}
use native.Mathlib.Omega.{arith}
use lib.Dec.{eqb, ltb}
use lib.ListN.{length, drop, get_or, replicate, length-drop, length-replicate}
use borrow.Author.Tests.{lt-ltb, le-ltb, eqb-true, eqb-false}
use Rattle.pgn_text.specs.declared.Token.{Token}
use Rattle.pgn_text.specs.declared.Token.TheVariants.{Passed, Move, Opening, Closing, Result, LeftOpen, Unknown}
use Rattle.answer.specs.Answer.{left_open, too_deep, unknown_token}
use Rattle.pgn_text.specs.declared.Run.TheVariants.{MoveBytes}
use Rattle.pgn_text.specs.Bytes.{is_white, starts_move, run_length}
use Rattle.pgn_text.specs.Token.{token, token_at}
use Rattle.pgn_text.specs.Walk.{Walk, found, ended, at_end, met, walk, walk_from, counted, first_move, next_move, deepest}
use Rattle.pgn_text.specs.Main.{first_main}
use Rattle.pgn_text.proofs.Tokens.{more, token_within}
use Rattle.pgn_text.proofs.Follows.{moves_in_text_order}
use Rattle.pgn_text.proofs.Walks.{walk_at, walk_end, beyond, beyond_skip}
use Rattle.pgn.specs.declared.walk.Stopped.{Stopped}
use Rattle.pgn.specs.declared.walk.Stopped.TheVariants.{Found, Ended}
use Rattle.pgn.specs.CodeWalkers.{outcome, walked_from, at_result, IsNear, Came, Over, count_of, move_walked}

-- the levels left, then the text left, as one number: a text is shorter than 2 ^ 64
abbrev pub lexicographic : ℕ → ℕ → ℕ
lexicographic levels text = levels * 2 ^ 64 + text

module _ (s : List ℕ) (stop : ℕ) (level : ℕ) where
  pub came_on : {start moves at count to total : ℕ} → Came s stop level start moves at count → Came s stop level at count to total
      → Came s stop level start moves to total
  came_on p q = record { same = λ os l. p.same os l ∙ q.same os l; forth = le_trans p.forth q.forth; within = q.within; counted = q.counted }

  pub over_on : {start moves at count : ℕ} {r : Stopped} → Came s stop level start moves at count → Over s stop level at count r
      → Over s stop level start moves r
  over_on p q os l = p.same os l ∙ q os l

-- ---- one token
module _ (s : List ℕ) (stop : ℕ) (level at count : ℕ) (h : at < length s) (k : count ≤ at) where
  -- the walk at the token that stands there
  at_token : (t : Token) → token_at s at ≡ t → (os : List ℕ) → walked_from s stop os at count ≡ outcome stop count (met t at os (beyond s at))
  at_token t e os = ap (outcome stop count) (walk_at s at h os ∙ ap (λ (u : Token). met u at os (beyond s at)) e)

  pub reach : (t : Token) → token_at s at ≡ t → at + 1 + more t ≤ length s
  reach t e =
      let w : more (token_at s at) ≤ length (drop (at + 1) s) = token_within (drop (at + 1) s) _ in
      let m : more (token_at s at) ≡ more t = ap more e in
      let d : length (drop (at + 1) s) ≡ length s - (at + 1) = length-drop (at + 1) s in
      omega arith

  pub passed : (n : ℕ) → token_at s at ≡ Passed n → Came s stop level at count (at + 1 + n) count
  unfolding met
  passed n e = record {
    same = λ os l. at_token (Passed n) e os ∙ ap (outcome stop count) (beyond_skip s at n os);
    forth = omega arith;
    within = reach (Passed n) e;
    counted = omega arith;
  }

  pub too_deep_fact : token_at s at ≡ Opening → deepest ≤ level → Over s stop level at count (Ended count too_deep at)
  unfolding met outcome
  too_deep_fact e d os l = at_token Opening e os ∙ rw (le-ltb (length os) deepest (omega arith))

  pub entered : token_at s at ≡ Opening → level < deepest → (os : List ℕ) → length os ≡ level
      → walked_from s stop os at count ≡ walked_from s stop (at ∷ os) (at + 1) count
  unfolding met
  entered e d os l = at_token Opening e os ∙ rw (lt-ltb (length os) deepest (omega arith))

  pub left : token_at s at ≡ Closing → (o : ℕ) (os : List ℕ) → walked_from s stop (o ∷ os) at count ≡ walked_from s stop os (at + 1) count
  unfolding met
  left e o os = at_token Closing e (o ∷ os)

  pub stray : token_at s at ≡ Closing → walked_from s stop [] at count ≡ Ended count unknown_token at
  unfolding met outcome
  stray e = at_token Closing e []

  result_outside : token_at s at ≡ Result → level ≡ 0 → Over s stop level at count (Ended count 0 0)
  unfolding met outcome
  result_outside e z [] l = at_token Result e []
  result_outside e z (o ∷ os) l = absurd (omega arith)

  result_inside : token_at s at ≡ Result → (level ≡ 0 → ⊥) → Over s stop level at count (Ended count unknown_token at)
  unfolding met outcome
  result_inside e z [] l = absurd (z (sym l))
  result_inside e z (o ∷ os) l = at_token Result e (o ∷ os)

  -- a result that is met, outside brackets or in them
  pub result_met : token_at s at ≡ Result → (r : Stopped) → r ≡ at_result level count at → Over s stop level at count r
  unfolding at_result
  result_met e r q = go (eqb level 0) refl r q
    where
      go : (t : Bool) → eqb level 0 ≡ t → (r : Stopped) → r ≡ cond t (Ended count 0 0) (Ended count unknown_token at) → Over s stop level at count r
      go true z r q = rw q (result_outside e (eqb-true level 0 z))
      go false z r q = rw q (result_inside e (eqb-false level 0 z))

  pub comment_open : token_at s at ≡ LeftOpen → Over s stop level at count (Ended count left_open at)
  unfolding met outcome
  comment_open e os l = at_token LeftOpen e os

  pub unknown : token_at s at ≡ Unknown → Over s stop level at count (Ended count unknown_token at)
  unfolding met outcome
  unknown e os l = at_token Unknown e os

-- ---- a move is counted, or the walk stops at it
module _ (s : List ℕ) (level at count : ℕ) (h : at < length s) (k : count ≤ at) (n : ℕ) (e : token_at s at ≡ Move n) (stop : ℕ) where
  -- by the level of the move
  at_move : (os : List ℕ) → length os ≡ level → walked_from s stop os at count
      ≡ cond (ltb level stop) (Found at (n + 1) level) (outcome stop (count + 1) (beyond s at n os))
  unfolding met outcome
  at_move os l = at_token s stop level at count h k (Move n) e os ∙ rw l

  pub move_counted : stop ≤ level → Came s stop level at count (at + 1 + n) (count + 1)
  move_counted z = record {
    same = λ os l. at_move os l ∙ rw (le-ltb level stop z) (ap (outcome stop (count + 1)) (beyond_skip s at n os));
    forth = omega arith;
    within = reach s stop level at count h k (Move n) e;
    counted = omega arith;
  }

  pub move_stopped : level < stop → Over s stop level at count (Found at (n + 1) level)
  move_stopped z os l = at_move os l ∙ rw (lt-ltb level stop z)

-- ---- the end of the text
module _ (s : List ℕ) (stop : ℕ) (at count : ℕ) (h : length s ≤ at) where
  pub end_outside : walked_from s stop [] at count ≡ Ended count 0 0
  unfolding at_end outcome
  end_outside = ap (outcome stop count) (walk_end s at h [])

  pub end_inside : (o : ℕ) (os : List ℕ) → walked_from s stop (o ∷ os) at count ≡ Ended count left_open o
  unfolding at_end outcome
  end_inside o os = ap (outcome stop count) (walk_end s at h (o ∷ os))

-- ---- a variation, by what its sequence says
module _ (s : List ℕ) (stop : ℕ) (level at moves : ℕ) (h : at < length s) (k : moves ≤ at) (e : token_at s at ≡ Opening) (d : level < deepest) where
  longer : (os : List ℕ) → length os ≡ level → length (at ∷ os) ≡ level + 1
  longer os l = omega arith

  pub inner_over : (r : Stopped) → Over s stop (level + 1) (at + 1) moves r → Over s stop level at moves r
  inner_over r q os l = entered s stop level at moves h k e d os l ∙ q (at ∷ os) (longer os l)

  module _ (to total : ℕ) (p : Came s stop (level + 1) (at + 1) moves to total) where
    pub inner_open : length s ≤ to → Over s stop level at moves (Ended total left_open at)
    inner_open z os l = entered s stop level at moves h k e d os l ∙ p.same (at ∷ os) (longer os l) ∙ end_inside s stop to total z at os

    pub inner_closed : to < length s → token_at s to ≡ Closing → Came s stop level at moves (to + 1) total
    inner_closed z c =
        let f : at + 1 ≤ to = p.forth in
        let n : total ≤ to = p.counted in
        record {
          same = λ os l. entered s stop level at moves h k e d os l ∙ p.same (at ∷ os) (longer os l) ∙ left s stop level to total z n c at os;
          forth = omega arith;
          within = omega arith;
          counted = omega arith;
        }

-- ---- outward, one level at a time; the brackets that were open at the place count as opened there
pub one_out : (o n : ℕ) → (n ≡ 0 → ⊥) → replicate {A = ℕ} n o ≡ o ∷ replicate (n - 1) o
one_out o zero z = absurd (z refl)
one_out o (suc n) z =
    let e : suc n - 1 ≡ n = omega arith in
    rw e

module _ (s : List ℕ) (stop : ℕ) (o inside at count to total : ℕ) (p : Came s stop inside at count to total) where
  came_to : walked_from s stop (replicate inside o) at count ≡ walked_from s stop (replicate inside o) to total
  came_to = p.same (replicate inside o) (length-replicate inside o)

  pub out_end : length s ≤ to → inside ≡ 0 → walked_from s stop (replicate inside o) at count ≡ Ended total 0 0
  out_end h z = came_to ∙ rw z (end_outside s stop to total h)

  pub out_open : length s ≤ to → (inside ≡ 0 → ⊥) → walked_from s stop (replicate inside o) at count ≡ Ended total left_open o
  out_open h z = came_to ∙ rw (one_out o inside z) (end_inside s stop to total h o (replicate (inside - 1) o))

  module _ (h : to < length s) (c : token_at s to ≡ Closing) where
    pub out_stray : inside ≡ 0 → walked_from s stop (replicate inside o) at count ≡ Ended total unknown_token to
    out_stray z = came_to ∙ rw z (stray s stop inside to total h p.counted c)

    pub out_more : (inside ≡ 0 → ⊥) → walked_from s stop (replicate inside o) at count ≡ walked_from s stop (replicate (inside - 1) o) (to + 1) total
    out_more z = came_to ∙ rw (one_out o inside z) (left s stop inside to total h p.counted c o (replicate (inside - 1) o))

-- ---- the answers: of a walk that stops nowhere, at any move, and at a move outside brackets
pub counted_of : (n : ℕ) (w : Walk) → count_of (outcome 0 n w) ≡ counted n w
unfolding outcome count_of counted
counted_of n (ended number offset) = refl
counted_of n (found start size level w) = rw (le-ltb level 0 zero-le) (counted_of (n + 1) w)

first_of : (stop n : ℕ) (w : Walk) → ((start size level : ℕ) (v : Walk) → w ≡ found start size level v → level < stop)
    → move_walked (outcome stop n w) ≡ first_move w
unfolding outcome move_walked first_move
first_of stop n (ended number offset) h =
    refl
first_of stop n (found start size level w) h = rw (lt-ltb level stop (h start size level w refl))

pub first_from : (text : List ℕ) (offset level : ℕ) → move_walked (outcome 9 0 (walk_from text offset level)) ≡ next_move text offset level
unfolding next_move
first_from text offset level =
    first_of 9 0 (walk_from text offset level)
    (λ start size at_level w e. let q = (moves_in_text_order text offset level start size at_level w e).shallow in omega (arith, q))

pub main_of : (n : ℕ) (w : Walk) → move_walked (outcome 1 n w) ≡ first_main w
unfolding outcome move_walked first_main
main_of n (ended number offset) = refl
main_of n (found start size zero w) = refl
main_of n (found start size (suc level) w) = let h : 1 ≤ suc level = omega arith in rw (le-ltb (suc level) 1 h) (main_of (n + 1) w)

-- ---- a move that stands one blank behind a place
module _ (s : List ℕ) (at : ℕ) where
  pub white_passed : is_white (get_or s at 0) ≡ true → token_at s at ≡ Passed 0
  unfolding token
  white_passed e = simp e

  pub move_stands : is_white (get_or s at 0) ≡ false → starts_move (get_or s at 0) ≡ true → token_at s at ≡ Move (run_length MoveBytes (drop (at + 1) s))
  unfolding token
  move_stands e f = simp (e, f)

pub near_told : (s : List ℕ) (stop level place size : ℕ) (os : List ℕ) → length os ≡ level → level < stop → IsNear s place size
    → walked_from s stop os place 0 ≡ Found (place + 1) size level
near_told s stop level place size os l low q =
    let h : place + 1 < length s = q.1 in
    let e : place + 1 + 0 ≡ place + 1 = omega arith in
    let c : size - 1 + 1 ≡ size = omega (arith, q.0) in
    let p : walked_from s stop os place 0 ≡ walked_from s stop os (place + 1 + 0) 0 = (passed s stop level place 0 (omega arith) zero-le 0 q.2).same os l in
    let m : walked_from s stop os (place + 1) 0 ≡ Found (place + 1) (size - 1 + 1) level = move_stopped s level (place + 1) 0 h zero-le (size - 1) q.3 stop
    low os l in
    p ∙ ap (λ (i : ℕ). walked_from s stop os i 0) e ∙ m ∙ ap (λ (i : ℕ). Found (place + 1) i level) c

-- the walk from a place whose level and offset are good
pub placed : (text : List ℕ) (offset level : ℕ) → level ≤ deepest → offset ≤ length text
    → walk 0 offset (replicate level offset) (drop offset text) ≡ walk_from text offset level
unfolding walk_from
placed text offset level h k = rw (le-ltb deepest level h, le-ltb (length text) offset k)
