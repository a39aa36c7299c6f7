-- The call for the next move looks at nothing past the end of its move: each token before it, and the move, is the same in any other text that has the
-- same bytes up to there and in which the move does not run on.
-- Assumes nothing.
use mathlib.Core.Path.{◌≡◌, refl, ap, sym, ◌∙◌}
use mathlib.Core.Bool.{Bool, true, false, cond, ◌||◌, false≢true}
use mathlib.Core.List.{List, [], ◌∷◌, ◌++◌}
use Prim.Native.Nat.{ℕ, zero, suc, min, ◌+◌, ◌-◌, ◌≤◌, ◌<◌}
use native.Mathlib.Omega.{arith}
use lib.Dec.{eqb, ltb}
use lib.ListN.{length, take, drop, replicate, length-append, length-drop, length-take, take-append-drop}
use lib.Seq.{length-take-le}
use borrow.Author.Tests.{lt-ltb, le-ltb, eqb-true, eqb-false, ne_eqb}
use Rattle.answer.specs.Ascii.{ascii}
use Rattle.answer.specs.Answer.{too_deep, unknown_token}
use Rattle.pgn_text.specs.declared.Run.{Run}
use Rattle.pgn_text.specs.declared.Run.TheVariants.{Digits, Periods, MoveBytes, InBraces, InLine}
use Rattle.pgn_text.specs.declared.Token.{Token}
use Rattle.pgn_text.specs.declared.Token.TheVariants.{Passed, Move, Opening, Closing, Result, LeftOpen, Unknown}
use Rattle.pgn_text.specs.declared.PgnMove.{PgnMove}
use Rattle.pgn_text.specs.Bytes.{is_white, is_digit, starts_move, in_run, onward, run_length, begins_with}
use Rattle.pgn_text.specs.Token.{number, glyph, brace_comment, line_comment, is_result, token}
use Rattle.pgn_text.specs.Walk.{Walk, found, ended, at_end, met, walk, walk_from, no_move_found, move_found, first_move, next_move, deepest}
use Rattle.pgn_text.specs.Promises.{LooksNoFurther}
use Rattle.pgn_text.proofs.Tokens.{move_is}
use Rattle.pgn_text.proofs.Follows.{moves_in_text_order}

-- ---- runs that stop in what both texts have, and runs over all of it
same_onward : (t : Bool) (n m k : ℕ) → (m < k → n ≡ m) → onward t m < suc k → onward t n ≡ onward t m
unfolding onward
same_onward true n m k h l = ap (λ (i : ℕ). i + 1) (h (omega arith))
same_onward false n m k h l = refl

run_same : (run : Run) (p r o : List ℕ) → run_length run (p ++ r) < length p → run_length run (p ++ o) ≡ run_length run (p ++ r)
unfolding run_length
run_same run [] r o h = absurd (omega arith)
run_same run (b ∷ p) r o h = same_onward (in_run run b) (run_length run (p ++ o)) (run_length run (p ++ r)) (length p) (run_same run p r o) h

whole_onward : (t : Bool) (n m k : ℕ) → (m ≡ k → n ≡ k) → onward t m ≡ suc k → onward t n ≡ suc k
unfolding onward
whole_onward true n m k h e = let q : n ≡ k = h (omega arith) in omega arith
whole_onward false n m k h e = absurd (omega arith)

run_whole : (run : Run) (p r o : List ℕ) → run_length run o ≡ 0 → run_length run (p ++ r) ≡ length p → run_length run (p ++ o) ≡ length p
unfolding run_length
run_whole run [] r o z e = z
run_whole run (b ∷ p) r o z e = whole_onward (in_run run b) (run_length run (p ++ o)) (run_length run (p ++ r)) (length p) (run_whole run p r o z) e

drop_front : (d : ℕ) (p r : List ℕ) → d ≤ length p → drop d (p ++ r) ≡ drop d p ++ r
drop_front zero p r h = refl
drop_front (suc d) [] r h = absurd (omega arith)
drop_front (suc d) (x ∷ p) r h = drop_front d p r (omega arith)

-- ---- tokens that end in what both texts have
module _ (k : ℕ) where
  brace_of : (t : Bool) (n : ℕ) → cond t (Passed (n + 1)) LeftOpen ≡ Passed k → n + 1 ≡ k
  brace_of true n e = cc
  brace_of false n e = let z : ◌≡◌ {A = ℕ} 0 1 = cc in absurd (omega arith)

  line_of : (t : Bool) (n : ℕ) → cond t (Passed (n + 1)) (Passed n) ≡ Passed k → n ≤ k
  line_of true n e = let q : n + 1 ≡ k = cc in omega arith
  line_of false n e = let q : n ≡ k = cc in omega arith

  glyph_of : (t : Bool) (n : ℕ) → cond t Unknown (Passed n) ≡ Passed k → n ≡ k
  glyph_of true n e = let z : ◌≡◌ {A = ℕ} 0 1 = cc in absurd (omega arith)
  glyph_of false n e = cc

  module _ (p r o : List ℕ) (h : k < length p) where
    longer : (q : List ℕ) → length p ≤ length (p ++ q)
    longer q = omega (arith, length-append p q)

    number_same : number (p ++ r) ≡ Passed k → number (p ++ o) ≡ Passed k
    unfolding number
    number_same e =
        let d : ℕ = run_length Digits (p ++ r) in
        let s : run_length Digits (p ++ r) + run_length Periods (drop (run_length Digits (p ++ r)) (p ++ r)) ≡ k = cc in
        let dd : run_length Digits (p ++ o) ≡ run_length Digits (p ++ r) = run_same Digits p r o (omega arith) in
        let fr : drop d (p ++ r) ≡ drop d p ++ r = drop_front d p r (omega arith) in
        let fo : drop d (p ++ o) ≡ drop d p ++ o = drop_front d p o (omega arith) in
        let l : length (drop d p) ≡ length p - d = length-drop d p in
        let qr : run_length Periods (drop d (p ++ r)) ≡ run_length Periods (drop d p ++ r) = ap (run_length Periods) fr in
        let qq : run_length Periods (drop d p ++ o) ≡ run_length Periods (drop d p ++ r) = run_same Periods (drop d p) r o (omega arith) in
        let t : run_length Periods (drop (run_length Digits (p ++ o)) (p ++ o)) ≡ run_length Periods (drop d (p ++ r)) =
        ap (λ (i : ℕ). run_length Periods (drop i (p ++ o))) dd ∙ ap (run_length Periods) fo ∙ qq ∙ sym qr in
        let u : run_length Digits (p ++ o) + run_length Periods (drop (run_length Digits (p ++ o)) (p ++ o)) ≡ k = omega arith in
        ap Passed u

    glyph_same : glyph (p ++ r) ≡ Passed k → glyph (p ++ o) ≡ Passed k
    unfolding glyph
    glyph_same e =
        let s = glyph_of (eqb (run_length Digits (p ++ r)) 0) (run_length Digits (p ++ r)) e in
        let dd = run_same Digits p r o (omega (arith, s)) in
        ap (λ (i : ℕ). cond (eqb i 0) Unknown (Passed i)) dd ∙ e

    brace_same : brace_comment (p ++ r) ≡ Passed k → brace_comment (p ++ o) ≡ Passed k
    unfolding brace_comment
    brace_same e =
        let n : ℕ = run_length InBraces (p ++ r) in
        let s : n + 1 ≡ k = brace_of (ltb n (length (p ++ r))) n e in
        let dd : run_length InBraces (p ++ o) ≡ n = run_same InBraces p r o (omega arith) in
        let l : n < length (p ++ o) = omega (arith, longer o) in
        rw (dd, lt-ltb n (length (p ++ o)) l) (ap Passed s)

    line_same : line_comment (p ++ r) ≡ Passed k → line_comment (p ++ o) ≡ Passed k
    unfolding line_comment
    line_same e =
        let n : ℕ = run_length InLine (p ++ r) in
        let s : n ≤ k = line_of (ltb n (length (p ++ r))) n e in
        let dd : run_length InLine (p ++ o) ≡ n = run_same InLine p r o (omega arith) in
        let l : n < length (p ++ o) = omega (arith, longer o) in
        let m : n < length (p ++ r) = omega (arith, longer r) in
        let q : ltb n (length (p ++ o)) ≡ ltb n (length (p ++ r)) = lt-ltb n (length (p ++ o)) l ∙ sym (lt-ltb n (length (p ++ r)) m) in
        rw dd (ap (λ (t : Bool). cond t (Passed (n + 1)) (Passed n)) q ∙ e)

-- neither a move nor a bracket
plain : Token → Bool
plain (Passed n) = true
plain (Move n) = false
plain Opening = false
plain Closing = false
plain Result = true
plain LeftOpen = true
plain Unknown = true

either_plain : (t : Bool) (a b : Token) → plain a ≡ true → plain b ≡ true → plain (cond t a b) ≡ true
either_plain true a b h k = h
either_plain false a b h k = k

not_plain : (t a : Token) → plain t ≡ false → plain a ≡ true → {x : Token} → a ≡ t → x ≡ t
not_plain t a h k e = absurd (false≢true (sym h ∙ sym (ap plain e) ∙ k))

module _ (s : List ℕ) (b : ℕ) where
  brace_plain : plain (brace_comment s) ≡ true
  unfolding plain brace_comment
  brace_plain = either_plain (ltb (run_length InBraces s) (length s)) (Passed (run_length InBraces s + 1)) LeftOpen refl refl

  line_plain : plain (line_comment s) ≡ true
  unfolding plain line_comment
  line_plain = either_plain (ltb (run_length InLine s) (length s)) (Passed (run_length InLine s + 1)) (Passed (run_length InLine s)) refl refl

  glyph_plain : plain (glyph s) ≡ true
  unfolding plain glyph
  glyph_plain = either_plain (eqb (run_length Digits s) 0) Unknown (Passed (run_length Digits s)) refl refl

  -- a result, a number, or something unknown
  last_of : Token
  last_of = cond (is_result b s) Result (cond (is_digit b) (number s) Unknown)

  last_plain : plain last_of ≡ true
  unfolding plain last_of number
  last_plain = either_plain (is_result b s) Result _ refl (either_plain (is_digit b) (number s) Unknown refl refl)

-- the tests of a token in their order, over two texts
chain : Bool → Bool → Bool → Bool → Bool → Bool → Bool → Token → Token → Token → Token → Token → Token
chain w m t u v x y a b c d e = cond w (Passed 0) (cond m a (cond t b (cond u c (cond v d (cond x Opening (cond y Closing e))))))

module _ (t : Token) (a b c d e f g h i j : Token) (α : a ≡ t → f ≡ t) (β : b ≡ t → g ≡ t) (γ : c ≡ t → h ≡ t) (δ : d ≡ t → i ≡ t) (ε : e ≡ t → j ≡ t) where
  chain_same : (o p q r s u v : Bool) → chain o p q r s u v a b c d e ≡ t → chain o p q r s u v f g h i j ≡ t
  unfolding chain
  chain_same true p q r s u v k = k
  chain_same false true q r s u v k = α k
  chain_same false false true r s u v k = β k
  chain_same false false false true s u v k = γ k
  chain_same false false false false true u v k = δ k
  chain_same false false false false false true v k = k
  chain_same false false false false false false true k = k
  chain_same false false false false false false false k = ε k

module _ (b : ℕ) (p r o : List ℕ) where
  other_token : (t : Token) → plain t ≡ false → (Move (run_length MoveBytes (p ++ r)) ≡ t → Move (run_length MoveBytes (p ++ o)) ≡ t)
      → token b (p ++ r) ≡ t → token b (p ++ o) ≡ t
  unfolding token chain last_of
  other_token t h α e =
      chain_same t _ _ _ _ _ _ _ _ _ _ α (not_plain t _ h (brace_plain (p ++ r) b)) (not_plain t _ h (line_plain (p ++ r) b))
      (not_plain t _ h (glyph_plain (p ++ r) b)) (not_plain t _ h (last_plain (p ++ r) b))
      (is_white b) (starts_move b) (eqb b 123) (eqb b 59) (eqb b 36) (eqb b 40) (eqb b 41) e

  last_same : (k : ℕ) → k < length p → is_result b (p ++ o) ≡ is_result b (p ++ r) → last_of (p ++ r) b ≡ Passed k → last_of (p ++ o) b ≡ Passed k
  unfolding last_of
  last_same k h q e = rw q (go (is_result b (p ++ r)) (is_digit b) e)
    where
      go : (t u : Bool) → cond t Result (cond u (number (p ++ r)) Unknown) ≡ Passed k → cond t Result (cond u (number (p ++ o)) Unknown) ≡ Passed k
      go true u e = let z : ◌≡◌ {A = ℕ} 0 1 = cc in absurd (omega arith)
      go false true e = number_same k p r o h e
      go false false e = e

  passed_same : (k : ℕ) → k < length p → is_result b (p ++ o) ≡ is_result b (p ++ r) → token b (p ++ r) ≡ Passed k → token b (p ++ o) ≡ Passed k
  unfolding token chain last_of
  passed_same k h q e =
      chain_same (Passed k) _ _ _ _ _ _ _ _ _ _ (λ z. let y : ◌≡◌ {A = ℕ} 0 1 = cc in absurd (omega arith)) (brace_same k p r o h) (line_same k p r o h)
      (glyph_same k p r o h) (last_same k h q)
      (is_white b) (starts_move b) (eqb b 123) (eqb b 59) (eqb b 36) (eqb b 40) (eqb b 41) e

-- ---- results are tried with a look at what follows: `0` and `1` before `-` or `/`, if not a result, are a number before an unknown token
stuck : (t : Bool) (k : ℕ) → cond t Result (Passed (0 + 0)) ≡ Passed k → k ≡ 0
stuck true k e = let z : ◌≡◌ {A = ℕ} 0 1 = cc in absurd (omega arith)
stuck false k e = let q : 0 + 0 ≡ k = cc in omega arith

module _ (x : List ℕ) (k : ℕ) where
  zero_dash : token 48 (45 ∷ x) ≡ Passed k → k ≡ 0
  unfolding token is_white starts_move is_digit is_result number run_length onward in_run
  zero_dash e = stuck (begins_with (45 ∷ x) (ascii "-1")) k e

  zero_slash : token 48 (47 ∷ x) ≡ Passed k → k ≡ 0
  unfolding token is_white starts_move is_digit is_result number run_length onward in_run
  zero_slash e = stuck (begins_with (47 ∷ x) (ascii "-1")) k e

  one_dash : token 49 (45 ∷ x) ≡ Passed k → k ≡ 0
  unfolding token is_white starts_move is_digit is_result number run_length onward in_run
  one_dash e = stuck (begins_with (45 ∷ x) (ascii "-0") || begins_with (45 ∷ x) (ascii "/2-1/2")) k e

  one_slash : token 49 (47 ∷ x) ≡ Passed k → k ≡ 0
  unfolding token is_white starts_move is_digit is_result number run_length onward in_run
  one_slash e = stuck (begins_with (47 ∷ x) (ascii "-0") || begins_with (47 ∷ x) (ascii "/2-1/2")) k e

results_same : (b c : ℕ) (p r o : List ℕ) → (c ≡ 45 → ⊥) → (c ≡ 47 → ⊥) → is_result b (c ∷ p ++ o) ≡ is_result b (c ∷ p ++ r)
unfolding is_result begins_with ascii
results_same b c p r o h k = simp (ne_eqb c 45 h, ne_eqb c 47 k)

others_same : (b : ℕ) (s q : List ℕ) → (b ≡ 48 → ⊥) → (b ≡ 49 → ⊥) → is_result b q ≡ is_result b s
unfolding is_result
others_same b s q h k = simp (ne_eqb b 48 h, ne_eqb b 49 k)

-- ---- the walk
module _ (start size level : ℕ) where
  -- the walk finds this move
  record Finds (v : Walk) : Type 0 where
    behind : Walk
    is : v ≡ found start size level behind

  abbrev Forth : ℕ → Type 0
  Forth at = (at ≤ start) × (0 < size)

  forth_opening : (at : ℕ) (v : Walk) (t : Bool) (w : Walk) → (v ≡ found start size level w → Forth at)
      → cond t v (ended too_deep at) ≡ found start size level w → Forth at
  forth_opening at v true w ih e = ih e
  forth_opening at v false w ih e = let z : ◌≡◌ {A = ℕ} 0 1 = cc in absurd (omega arith)

  forth_met : (at : ℕ) (go : ℕ → List ℕ → Walk) (w : Walk) → ((n : ℕ) (os : List ℕ) → go n os ≡ found start size level w → Forth (at + 1 + n))
      → (t : Token) (os : List ℕ) → met t at os go ≡ found start size level w → Forth at
  unfolding met
  forth_met at go w ih (Passed n) os e = let q = ih n os e in (omega (arith, q.0), q.1)
  forth_met at go w ih (Move n) os e =
      let a : at ≡ start = cc in
      let b : n + 1 ≡ size = cc in
      (omega arith, omega arith)
  forth_met at go w ih Opening os e =
      forth_opening at (go 0 (at ∷ os)) (ltb (length os) deepest) w (λ f. let q = ih 0 (at ∷ os) f in (omega (arith, q.0), q.1)) e
  forth_met at go w ih Closing [] e = let z : ◌≡◌ {A = ℕ} 0 1 = cc in absurd (omega arith)
  forth_met at go w ih Closing (o ∷ os) e = let q = ih 0 os e in (omega (arith, q.0), q.1)
  forth_met at go w ih Result [] e = let z : ◌≡◌ {A = ℕ} 0 1 = cc in absurd (omega arith)
  forth_met at go w ih Result (o ∷ os) e = let z : ◌≡◌ {A = ℕ} 0 1 = cc in absurd (omega arith)
  forth_met at go w ih LeftOpen os e = let z : ◌≡◌ {A = ℕ} 0 1 = cc in absurd (omega arith)
  forth_met at go w ih Unknown os e = let z : ◌≡◌ {A = ℕ} 0 1 = cc in absurd (omega arith)

  none_at_end : (os : List ℕ) (w : Walk) → at_end os ≡ found start size level w → ⊥
  unfolding at_end
  none_at_end [] w e = let z : ◌≡◌ {A = ℕ} 0 1 = cc in absurd (omega arith)
  none_at_end (o ∷ os) w e = let z : ◌≡◌ {A = ℕ} 0 1 = cc in absurd (omega arith)

  forth : (n at : ℕ) (s os : List ℕ) (w : Walk) → walk n at os s ≡ found start size level w → Forth (at + n)
  unfolding walk
  forth n at [] os w e = absurd (none_at_end os w e)
  forth zero at (b ∷ bs) os w e =
      let q = forth_met at (λ n os'. walk n (at + 1) os' bs) w (λ n qs f. forth n (at + 1) bs qs w f) (token b bs) os e in
      (omega (arith, q.0), q.1)
  forth (suc n) at (b ∷ bs) os w e = let q = forth n (at + 1) bs os w e in (omega (arith, q.0), q.1)

  dash_ends : (at : ℕ) (os x : List ℕ) (w : Walk) → walk 0 at os (45 ∷ x) ≡ found start size level w → ⊥
  unfolding walk met token is_white starts_move is_digit is_result
  dash_ends at os x w e = let z : ◌≡◌ {A = ℕ} 0 1 = cc in absurd (omega arith)

  slash_ends : (at : ℕ) (os x : List ℕ) (w : Walk) → walk 0 at os (47 ∷ x) ≡ found start size level w → ⊥
  unfolding walk met token is_white starts_move is_digit is_result
  slash_ends at os x w e = let z : ◌≡◌ {A = ℕ} 0 1 = cc in absurd (omega arith)

  module _ (o : List ℕ) (z : run_length MoveBytes o ≡ 0) where
    -- what follows a number that was passed is neither `-` nor `/`, or the walk would end there
    results_agree : (b k at : ℕ) (p r os : List ℕ) (w : Walk) → k < length p → token b (p ++ r) ≡ Passed k
        → walk k at os (p ++ r) ≡ found start size level w → is_result b (p ++ o) ≡ is_result b (p ++ r)
    results_agree b k at [] r os w h t e = absurd (omega arith)
    results_agree b k at (c ∷ p) r os w h t e = go (eqb b 48) (eqb b 49) refl refl
      where
        dashed : (token b (c ∷ p ++ r) ≡ Passed k → c ≡ 45 → k ≡ 0) → c ≡ 45 → ⊥
        dashed f q =
            let n : k ≡ 0 = f t q in
            dash_ends at os (p ++ r) w (sym (ap (λ (i : ℕ). walk i at os (45 ∷ p ++ r)) n) ∙ sym (ap (λ (i : ℕ). walk k at os (i ∷ p ++ r)) q) ∙ e)

        slashed : (token b (c ∷ p ++ r) ≡ Passed k → c ≡ 47 → k ≡ 0) → c ≡ 47 → ⊥
        slashed f q =
            let n : k ≡ 0 = f t q in
            slash_ends at os (p ++ r) w (sym (ap (λ (i : ℕ). walk i at os (47 ∷ p ++ r)) n) ∙ sym (ap (λ (i : ℕ). walk k at os (i ∷ p ++ r)) q) ∙ e)

        told : (i j : ℕ) → b ≡ i → c ≡ j → token b (c ∷ p ++ r) ≡ Passed k → token i (j ∷ p ++ r) ≡ Passed k
        told i j y q t = sym (ap (λ (n : ℕ). token n (j ∷ p ++ r)) y) ∙ sym (ap (λ (n : ℕ). token b (n ∷ p ++ r)) q) ∙ t

        go : (u v : Bool) → eqb b 48 ≡ u → eqb b 49 ≡ v → is_result b (c ∷ p ++ o) ≡ is_result b (c ∷ p ++ r)
        go true v x y =
            let q = eqb-true b 48 x in
            results_same b c p r o (dashed (λ t f. zero_dash (p ++ r) k (told 48 45 q f t))) (slashed (λ t f. zero_slash (p ++ r) k (told 48 47 q f t)))
        go false true x y =
            let q = eqb-true b 49 y in
            results_same b c p r o (dashed (λ t f. one_dash (p ++ r) k (told 49 45 q f t))) (slashed (λ t f. one_slash (p ++ r) k (told 49 47 q f t)))
        go false false x y = others_same b (c ∷ p ++ r) (c ∷ p ++ o) (eqb-false b 48 x) (eqb-false b 49 y)

    module _ (at b : ℕ) (p r : List ℕ) (h : start + size ≡ at + suc (length p))
        (ih : (n : ℕ) (os : List ℕ) (w : Walk) → walk n (at + 1) os (p ++ r) ≡ found start size level w → Finds (walk n (at + 1) os (p ++ o))) where
      abbrev Goes : Token → List ℕ → Type 0
      Goes t os = Finds (met t at os (λ n os'. walk n (at + 1) os' (p ++ o)))

      same_opening : (t : Bool) (os : List ℕ) (w : Walk) → cond t (walk 0 (at + 1) (at ∷ os) (p ++ r)) (ended too_deep at) ≡ found start size level w
          → Finds (cond t (walk 0 (at + 1) (at ∷ os) (p ++ o)) (ended too_deep at))
      same_opening true os w e = ih 0 (at ∷ os) w e
      same_opening false os w e = let z : ◌≡◌ {A = ℕ} 0 1 = cc in absurd (omega arith)

      -- what the first text's token finds, the same token finds in the other text
      same_met : (t : Token) (os : List ℕ) (w : Walk) → met t at os (λ n os'. walk n (at + 1) os' (p ++ r)) ≡ found start size level w → Goes t os
      unfolding met
      same_met (Passed n) os w e = ih n os w e
      same_met (Move n) os w e = record { behind = walk n (at + 1) os (p ++ o); is = cc }
      same_met Opening os w e = same_opening (ltb (length os) deepest) os w e
      same_met Closing [] w e = let z : ◌≡◌ {A = ℕ} 0 1 = cc in absurd (omega arith)
      same_met Closing (q ∷ os) w e = ih 0 os w e
      same_met Result [] w e = let z : ◌≡◌ {A = ℕ} 0 1 = cc in absurd (omega arith)
      same_met Result (q ∷ os) w e = let z : ◌≡◌ {A = ℕ} 0 1 = cc in absurd (omega arith)
      same_met LeftOpen os w e = let z : ◌≡◌ {A = ℕ} 0 1 = cc in absurd (omega arith)
      same_met Unknown os w e = let z : ◌≡◌ {A = ℕ} 0 1 = cc in absurd (omega arith)

      -- and the other text has the same token there
      same_token : (t : Token) (os : List ℕ) (w : Walk) → token b (p ++ r) ≡ t → met t at os (λ n os'. walk n (at + 1) os' (p ++ r)) ≡ found start size level w
          → token b (p ++ o) ≡ t
      unfolding met plain
      same_token (Passed k) os w t e =
          let f = forth k (at + 1) (p ++ r) os w e in
          let l : k < length p = omega (arith, f.0, f.1) in
          passed_same b p r o k l (results_agree b k (at + 1) p r os w l t e) t
      same_token (Move n) os w t e =
          let a : at ≡ start = cc in
          let c : n + 1 ≡ size = cc in
          let i : n ≡ run_length MoveBytes (p ++ r) = (move_is (p ++ r) b n t).1 in
          let j : run_length MoveBytes (p ++ r) ≡ length p = omega arith in
          let k : run_length MoveBytes (p ++ o) ≡ n = run_whole MoveBytes p r o z j ∙ sym j ∙ sym i in
          other_token b p r o (Move n) refl (λ q. ap Move k) t
      same_token Opening os w t e = other_token b p r o Opening refl (λ q. let y : ◌≡◌ {A = ℕ} 0 1 = cc in absurd (omega arith)) t
      same_token Closing os w t e = other_token b p r o Closing refl (λ q. let y : ◌≡◌ {A = ℕ} 0 1 = cc in absurd (omega arith)) t
      same_token Result [] w t e = let z : ◌≡◌ {A = ℕ} 0 1 = cc in absurd (omega arith)
      same_token Result (q ∷ os) w t e = let z : ◌≡◌ {A = ℕ} 0 1 = cc in absurd (omega arith)
      same_token LeftOpen os w t e = let z : ◌≡◌ {A = ℕ} 0 1 = cc in absurd (omega arith)
      same_token Unknown os w t e = let z : ◌≡◌ {A = ℕ} 0 1 = cc in absurd (omega arith)

    same_walk : (p r : List ℕ) (n at : ℕ) (os : List ℕ) (w : Walk) → walk n at os (p ++ r) ≡ found start size level w → start + size ≡ at + length p
        → Finds (walk n at os (p ++ o))
    unfolding walk
    same_walk [] r n at os w e h = let f = forth n at r os w e in absurd (omega (arith, f.0, f.1))
    same_walk (b ∷ p) r zero at os w e h =
        let ih : (n : ℕ) (qs : List ℕ) (v : Walk) → walk n (at + 1) qs (p ++ r) ≡ found start size level v → Finds (walk n (at + 1) qs (p ++ o)) =
        λ n qs v f. same_walk p r n (at + 1) qs v f (omega arith) in
        rw (same_token at b p r h ih (token b (p ++ r)) os w refl e) (same_met at b p r h ih (token b (p ++ r)) os w e)
    same_walk (b ∷ p) r (suc n) at os w e h = same_walk p r n (at + 1) os w e (omega arith)

-- ---- from any place
module _ (start size level : ℕ) where
  found_by : (w : Walk) → first_move w ≡ move_found start size level → Finds start size level w
  unfolding first_move no_move_found move_found
  found_by (ended number offset) e =
      let z : ◌≡◌ {A = ℕ} 0 1 = ap (λ (m : PgnMove). m.found) e in
      absurd (omega arith)
  found_by (found s n l w) e =
      let a : s ≡ start = ap (λ (m : PgnMove). m.start) e in
      let b : n ≡ size = ap (λ (m : PgnMove). m.length) e in
      let c : l ≡ level = ap (λ (m : PgnMove). m.level) e in
      record { behind = w; is = rw (a, b, c) refl }

  first_of : (w : Walk) → Finds start size level w → first_move w ≡ move_found start size level
  unfolding first_move
  first_of w f = ap first_move f.is

  -- a place from which a move is found is in range, and the walk there finds the move
  at_place : (t u : Bool) (offset : ℕ) (v w : Walk) → cond t (ended too_deep offset) (cond u (ended unknown_token offset) v) ≡ found start size level w
      → (t ≡ false) × (v ≡ found start size level w)
  at_place true u offset v w e = let z : ◌≡◌ {A = ℕ} 0 1 = cc in absurd (omega arith)
  at_place false true offset v w e = let z : ◌≡◌ {A = ℕ} 0 1 = cc in absurd (omega arith)
  at_place false false offset v w e = (refl, e)

-- what stands from a place to an end, and what stands behind
split : (s : List ℕ) (offset end : ℕ) → offset ≤ end → end ≤ length s → drop offset s ≡ drop offset (take end s) ++ drop end s
split s offset end h k =
    let l : length (take end s) ≡ end = length-take-le end s k in
    ap (drop offset) (sym (take-append-drop end s)) ∙ drop_front offset (take end s) (drop end s) (omega arith)

as_long : (s other : List ℕ) (end : ℕ) → end ≤ length s → take end other ≡ take end s → end ≤ length other
as_long s other end k e =
    let l : length (take end s) ≡ end = length-take-le end s k in
    let m : length (take end other) ≡ min end (length other) = length-take end other in
    let n : length (take end other) ≡ length (take end s) = ap length e in
    omega arith

pub looks_no_further : LooksNoFurther next_move
unfolding next_move walk_from
looks_no_further text other offset level start size at_level e a z =
    let end : ℕ = start + size in
    let w = walk_from text offset level in
    let f = found_by start size at_level w e in
    let m = moves_in_text_order text offset level start size at_level f.behind f.is in
    let g = at_place start size at_level (ltb deepest level) (ltb (length text) offset) offset (walk 0 offset (replicate level offset) (drop offset text))
    f.behind f.is in
    let i : offset ≤ end = omega (arith, m.forth) in
    let j : end ≤ length other = as_long text other end m.within a in
    let p : List ℕ = drop offset (take end text) in
    let st : drop offset text ≡ p ++ drop end text = split text offset end i m.within in
    let so : drop offset other ≡ p ++ drop end other =
    split other offset end i j ∙ ap (λ (s : List ℕ). drop offset s ++ drop end other) a in
    let l : length (take end text) ≡ end = length-take-le end text m.within in
    let n : length p ≡ length (take end text) - offset = length-drop offset (take end text) in
    let v = same_walk start size at_level (drop end other) z p (drop end text) 0 offset (replicate level offset) f.behind
    (sym (ap (walk 0 offset (replicate level offset)) st) ∙ g.1) (omega arith) in
    rw (g.0, le-ltb (length other) offset (omega arith), so) (first_of start size at_level _ v)
