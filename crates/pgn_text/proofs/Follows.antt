-- From place to place: open brackets matter to a walk only by their number, except for the offset of one left open.
-- Assumes nothing.
use mathlib.Core.Path.{◌≡◌, refl, ap, sym, ◌∙◌}
use mathlib.Core.Bool.{Bool, true, false, cond}
use mathlib.Core.List.{List, [], ◌∷◌}
use Prim.Native.Nat.{ℕ, zero, suc, ◌+◌, ◌-◌, ◌≤◌, ◌<◌}
use native.Mathlib.Nat.{le_refl}
use native.Mathlib.Omega.{arith}
use lib.Dec.{ltb}
use lib.ListN.{length, drop, get_or, replicate, length-drop, length-replicate}
use lib.Seq.{drop-drop}
use borrow.Author.Tests.{ltb-true, ltb-false, le-ltb}
use Rattle.pgn_text.specs.declared.Token.{Token}
use Rattle.pgn_text.specs.declared.Token.TheVariants.{Passed, Move, Opening, Closing, Result, LeftOpen, Unknown}
use Rattle.pgn_text.specs.declared.Run.TheVariants.{MoveBytes}
use Rattle.pgn_text.specs.Bytes.{starts_move, in_move, in_run, run_length}
use Rattle.pgn_text.specs.Token.{token}
use Rattle.answer.specs.Answer.{too_deep, unknown_token}
use Rattle.pgn_text.specs.Walk.{Walk, found, ended, at_end, met, walk, walk_from, deepest}
use Rattle.pgn_text.specs.Promises.{WalksAlike, same_end, open_end, same_move, FoundFrom, MovesInTextOrder}
use Rattle.pgn_text.proofs.Runs.{run_over, run_stops}
use Rattle.pgn_text.proofs.Tokens.{more, token_within, move_is}
use Rattle.pgn_text.proofs.Walks.{walk_skip}

-- ---- brackets by their number
alike_end : (os ps : List ℕ) → length os ≡ length ps → WalksAlike (at_end os) (at_end ps)
unfolding at_end
alike_end [] [] e = same_end
alike_end [] (p ∷ ps) e = absurd (omega arith)
alike_end (o ∷ os) [] e = absurd (omega arith)
alike_end (o ∷ os) (p ∷ ps) e = open_end

alike_cond : (t : Bool) (v w : Walk) (number offset : ℕ) → WalksAlike v w → WalksAlike (cond t v (ended number offset)) (cond t w (ended number offset))
alike_cond true v w number offset a = a
alike_cond false v w number offset a = same_end

module _ (at : ℕ) (f g : ℕ → List ℕ → Walk) (h : (n : ℕ) (os ps : List ℕ) → length os ≡ length ps → WalksAlike (f n os) (g n ps)) where
  alike_met : (t : Token) (os ps : List ℕ) → length os ≡ length ps → WalksAlike (met t at os f) (met t at ps g)
  unfolding met
  alike_met (Passed n) os ps e = h n os ps e
  alike_met (Move n) os ps e = rw e (same_move (h n os ps e))
  alike_met Opening os ps e =
      let k : length (at ∷ os) ≡ length (at ∷ ps) = omega arith in
      rw e (alike_cond (ltb (length ps) deepest) (f 0 (at ∷ os)) (g 0 (at ∷ ps)) too_deep at (h 0 (at ∷ os) (at ∷ ps) k))
  alike_met Closing [] [] e = same_end
  alike_met Closing [] (p ∷ ps) e = absurd (omega arith)
  alike_met Closing (o ∷ os) [] e = absurd (omega arith)
  alike_met Closing (o ∷ os) (p ∷ ps) e = h 0 os ps (omega arith)
  alike_met Result [] [] e = same_end
  alike_met Result [] (p ∷ ps) e = absurd (omega arith)
  alike_met Result (o ∷ os) [] e = absurd (omega arith)
  alike_met Result (o ∷ os) (p ∷ ps) e = same_end
  alike_met LeftOpen os ps e = same_end
  alike_met Unknown os ps e = same_end

alike_walk : (n at : ℕ) (s os ps : List ℕ) → length os ≡ length ps → WalksAlike (walk n at os s) (walk n at ps s)
unfolding walk
alike_walk n at [] os ps e = alike_end os ps e
alike_walk zero at (b ∷ bs) os ps e =
    alike_met at (λ n os'. walk n (at + 1) os' bs) (λ n os'. walk n (at + 1) os' bs) (λ n qs rs k. alike_walk n (at + 1) bs qs rs k) (token b bs) os ps e
alike_walk (suc n) at (b ∷ bs) os ps e = alike_walk n (at + 1) bs os ps e

-- ---- the walk from a place in the text is the walk there, with that exception
pub from_place : (text : List ℕ) (at : ℕ) (os : List ℕ) → at ≤ length text → length os ≤ deepest
    → WalksAlike (walk 0 at os (drop at text)) (walk_from text at (length os))
unfolding walk_from
from_place text at os h k =
    rw (le-ltb deepest (length os) k, le-ltb (length text) at h)
    (alike_walk 0 at (drop at text) os (replicate (length os) at) (sym (length-replicate (length os) at)))

-- ---- a move's own bytes
at_drop : (at i : ℕ) (s : List ℕ) → get_or (drop at s) i 0 ≡ get_or s (at + i) 0
at_drop zero i s = let e : 0 + i ≡ i = omega arith in rw e
at_drop (suc at) i [] = refl
at_drop (suc at) i (x ∷ xs) = let e : suc at + i ≡ suc (at + i) = omega arith in rw e (at_drop at i xs)

module _ (text : List ℕ) (at b : ℕ) (bs : List ℕ) (d : b ∷ bs ≡ drop at text) where
  first_byte : get_or text at 0 ≡ b
  first_byte =
      let e : at + 0 ≡ at = omega arith in
      sym (ap (λ (s : List ℕ). get_or s 0 0) d ∙ at_drop at 0 text ∙ ap (λ (i : ℕ). get_or text i 0) e)

  later_byte : (i : ℕ) → get_or text (at + 1 + i) 0 ≡ get_or bs i 0
  later_byte i =
      let e : at + suc i ≡ at + 1 + i = omega arith in
      sym (ap (λ (s : List ℕ). get_or s (suc i) 0) d ∙ at_drop at (suc i) text ∙ ap (λ (i : ℕ). get_or text i 0) e)

  module _ (n : ℕ) (e : n ≡ run_length MoveBytes bs) where
    bytes_run : (i : ℕ) → at < i → i < at + (n + 1) → in_move (get_or text i 0) ≡ true
    unfolding in_run
    bytes_run i h k =
        let j : ℕ = i - (at + 1) in
        let q : at + 1 + j ≡ i = omega arith in
        let r : j < run_length MoveBytes bs = omega arith in
        ap (λ (i : ℕ). in_move (get_or text i 0)) (sym q) ∙ ap in_move (later_byte j) ∙ run_over MoveBytes bs j r

    byte_stops : n < length bs → in_move (get_or text (at + (n + 1)) 0) ≡ false
    unfolding in_run
    byte_stops h =
        let q : at + 1 + n ≡ at + (n + 1) = omega arith in
        let r : run_length MoveBytes bs < length bs = omega arith in
        ap (λ (i : ℕ). in_move (get_or text i 0)) (sym q)
        ∙ ap in_move (later_byte n)
        ∙ ap (λ (i : ℕ). in_move (get_or bs i 0)) e
        ∙ run_stops MoveBytes bs r

-- ---- behind a move
module _ (text : List ℕ) (offset start size level : ℕ) (w : Walk) where
  abbrev Behind : Type 0
  Behind = FoundFrom text offset start size level w

  module _ (at : ℕ) (go : ℕ → List ℕ → Walk) (ih : (n : ℕ) (os : List ℕ) → length os ≤ deepest → go n os ≡ found start size level w → Behind) where
    opened : (t : Bool) (os : List ℕ) → ltb (length os) deepest ≡ t → cond t (go 0 (at ∷ os)) (ended too_deep at) ≡ found start size level w → Behind
    opened true os q e =
        let k : length os < deepest = ltb-true (length os) deepest q in
        ih 0 (at ∷ os) (omega arith) e
    opened false os q e = let z : ◌≡◌ {A = ℕ} 0 1 = cc in absurd (omega arith)

    behind_met : (t : Token) (os : List ℕ) → length os ≤ deepest → ((n : ℕ) → t ≡ Move n → FoundFrom text offset at (n + 1) (length os) (go n os))
        → met t at os go ≡ found start size level w → Behind
    unfolding met
    behind_met (Passed n) os k m e = ih n os k e
    behind_met (Move n) os k m e =
        let a : w ≡ go n os = cc in
        let b : start ≡ at = cc in
        let c : size ≡ n + 1 = cc in
        let d : level ≡ length os = cc in
        rw (a, b, c, d) (m n refl)
    behind_met Opening os k m e = opened (ltb (length os) deepest) os refl e
    behind_met Closing [] k m e = let z : ◌≡◌ {A = ℕ} 0 1 = cc in absurd (omega arith)
    behind_met Closing (o ∷ os) k m e = ih 0 os (omega arith) e
    behind_met Result [] k m e = let z : ◌≡◌ {A = ℕ} 0 1 = cc in absurd (omega arith)
    behind_met Result (o ∷ os) k m e = let z : ◌≡◌ {A = ℕ} 0 1 = cc in absurd (omega arith)
    behind_met LeftOpen os k m e = let z : ◌≡◌ {A = ℕ} 0 1 = cc in absurd (omega arith)
    behind_met Unknown os k m e = let z : ◌≡◌ {A = ℕ} 0 1 = cc in absurd (omega arith)

  no_move_lem : (os : List ℕ) → at_end os ≡ found start size level w → Behind
  unfolding at_end
  no_move_lem [] e = let z : ◌≡◌ {A = ℕ} 0 1 = cc in absurd (omega arith)
  no_move_lem (o ∷ os) e = let z : ◌≡◌ {A = ℕ} 0 1 = cc in absurd (omega arith)

  -- behind a move whose first byte stands at an offset
  move_here_lem : (at n b : ℕ) (bs os : List ℕ) → b ∷ bs ≡ drop at text → offset ≤ at → length os ≤ deepest → token b bs ≡ Move n
      → FoundFrom text offset at (n + 1) (length os) (walk n (at + 1) os bs)
  move_here_lem at n b bs os d f k e =
      let t : bs ≡ drop (at + 1) text = ap (drop 1) d ∙ drop-drop 1 at text in
      let l : suc (length bs) ≡ length text - at = ap length d ∙ length-drop at text in
      let m : more (token b bs) ≤ length bs = token_within bs b in
      let r : more (token b bs) ≡ n = ap more e in
      let i : at + 1 + n ≡ at + (n + 1) = omega arith in
      let u : drop n bs ≡ drop (at + (n + 1)) text = ap (drop n) t ∙ drop-drop n (at + 1) text ∙ ap (λ (j : ℕ). drop j text) i in
      let is = move_is bs b n e in
      record {
        forth = f;
        some = omega arith;
        within = omega arith;
        shallow = k;
        starts = ap starts_move (first_byte text at b bs d) ∙ is.0;
        runs_on = bytes_run text at b bs d n is.1;
        longest = λ h. byte_stops text at b bs d n is.1 (omega arith);
        behind = rw (walk_skip n (at + 1) os bs, u, i) (from_place text (at + (n + 1)) os (omega arith) k);
      }

  behind : (n at : ℕ) (s os : List ℕ) → s ≡ drop at text → offset ≤ at → length os ≤ deepest → walk n at os s ≡ found start size level w → Behind
  unfolding walk
  behind n at [] os d g k e = no_move_lem os e
  behind zero at (b ∷ bs) os d g k e =
      let t : bs ≡ drop (at + 1) text = ap (drop 1) d ∙ drop-drop 1 at text in
      behind_met at (λ n os'. walk n (at + 1) os' bs) (λ n qs q f. behind n (at + 1) bs qs t (omega arith) q f) (token b bs) os k
      (λ n f. move_here_lem at n b bs os d g k f) e
  behind (suc n) at (b ∷ bs) os d g k e =
      let t : bs ≡ drop (at + 1) text = ap (drop 1) d ∙ drop-drop 1 at text in
      behind n (at + 1) bs os t (omega arith) k e

  from : (place : ℕ) (t u : Bool) → ltb deepest place ≡ t → ltb (length text) offset ≡ u
      → cond t (ended too_deep offset) (cond u (ended unknown_token offset) (walk 0 offset (replicate place offset) (drop offset text))) ≡ found start size
      level w → Behind
  from place true u p q e = let z : ◌≡◌ {A = ℕ} 0 1 = cc in absurd (omega arith)
  from place false true p q e = let z : ◌≡◌ {A = ℕ} 0 1 = cc in absurd (omega arith)
  from place false false p q e =
      let k : place ≤ deepest = ltb-false deepest place p in
      behind 0 offset (drop offset text) (replicate place offset) refl (le_refl offset) (rw (length-replicate place offset) k) e

pub moves_in_text_order : MovesInTextOrder
unfolding walk_from
moves_in_text_order text offset level start size at_level w e =
    from text offset start size at_level w level (ltb deepest level) (ltb (length text) offset) refl refl e
