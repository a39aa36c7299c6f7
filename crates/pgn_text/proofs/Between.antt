-- The brackets between a place and the next move lead to its level.
-- Assumes nothing.
use mathlib.Core.Path.{◌≡◌, refl, ap}
use mathlib.Core.Bool.{Bool, true, false, cond}
use mathlib.Core.List.{List, [], ◌∷◌}
use Prim.Native.Nat.{ℕ, zero, suc, ◌+◌, ◌-◌, ◌≤◌, ◌<◌, zero-le}
use native.Mathlib.Nat.{le_refl}
use native.Mathlib.Omega.{arith}
use lib.Dec.{eqb, ltb}
use lib.ListN.{length, drop, replicate, length-replicate}
use borrow.Author.Tests.{eqb-true, eqb-false, lt-ltb, le-ltb, ltb-true, ltb-false}
use Rattle.answer.specs.Answer.{too_deep, unknown_token}
use Rattle.pgn_text.specs.declared.Token.{Token}
use Rattle.pgn_text.specs.declared.Token.TheVariants.{Passed, Move, Opening, Closing, Result, LeftOpen, Unknown}
use Rattle.pgn_text.specs.declared.Crossed.{Crossed}
use Rattle.pgn_text.specs.declared.PgnMove.{PgnMove}
use Rattle.pgn_text.specs.Token.{token}
use Rattle.pgn_text.specs.Walk.{Walk, found, ended, at_end, met, walk, walk_from, deepest, no_move_found, move_found, first_move, next_move}
use Rattle.pgn_text.specs.Between.{crossing, cross_met, cross, crossed_from, LevelsCrossed, CrossedLeadsToTheMove, FoundFromLower}

-- ---- the levels
module _ (L start size level : ℕ) (w : Walk) where
  abbrev Leads : Crossed → Type 0
  Leads x = (x.closed ≤ L) × (level + x.closed ≡ L + x.opened)

  abbrev Balanced : List ℕ → ℕ → ℕ → Type 0
  Balanced os c o = (c ≤ L) × (length os + c ≡ L + o)

  module _ (at : ℕ) (go : ℕ → List ℕ → Walk) (x : ℕ → ℕ → ℕ → Crossed)
      (ih : (n : ℕ) (os : List ℕ) (c o : ℕ) → Balanced os c o → go n os ≡ found start size level w → Leads (x n c o)) where
    leads_opening : (t : Bool) (os : List ℕ) (c o : ℕ) → Balanced os c o → cond t (go 0 (at ∷ os)) (ended too_deep at) ≡ found start size level w
        → Leads (x 0 c (o + 1))
    leads_opening true os c o b e = ih 0 (at ∷ os) c (o + 1) (b.0, omega (arith, b.1)) e
    leads_opening false os c o b e = let z : ◌≡◌ {A = ℕ} 0 1 = cc in absurd (omega arith)

    leads_closing : (t : Bool) (os : List ℕ) (q c o : ℕ) → eqb o 0 ≡ t → Balanced (q ∷ os) c o → go 0 os ≡ found start size level w
        → Leads (cond t (x 0 (c + 1) 0) (x 0 c (o - 1)))
    leads_closing true os q c o z b e = let y : o ≡ 0 = eqb-true _ _ z in ih 0 os (c + 1) 0 (omega (arith, b.1, y), omega (arith, b.1, y)) e
    leads_closing false os q c o z b e = let y : o ≡ 0 → ⊥ = eqb-false _ _ z in ih 0 os c (o - 1) (b.0, omega (arith, b.1, y)) e

    leads_met : (t : Token) (os : List ℕ) (c o : ℕ) → Balanced os c o → met t at os go ≡ found start size level w → Leads (cross_met t c o x)
    unfolding met cross_met
    leads_met (Passed n) os c o b e = ih n os c o b e
    leads_met (Move n) os c o b e = let l : length os ≡ level = cc in (b.0, omega (arith, b.1, l))
    leads_met Opening os c o b e = leads_opening (ltb (length os) deepest) os c o b e
    leads_met Closing [] c o b e = let z : ◌≡◌ {A = ℕ} 0 1 = cc in absurd (omega arith)
    leads_met Closing (q ∷ os) c o b e = leads_closing (eqb o 0) os q c o refl b e
    leads_met Result [] c o b e = let z : ◌≡◌ {A = ℕ} 0 1 = cc in absurd (omega arith)
    leads_met Result (q ∷ os) c o b e = let z : ◌≡◌ {A = ℕ} 0 1 = cc in absurd (omega arith)
    leads_met LeftOpen os c o b e = let z : ◌≡◌ {A = ℕ} 0 1 = cc in absurd (omega arith)
    leads_met Unknown os c o b e = let z : ◌≡◌ {A = ℕ} 0 1 = cc in absurd (omega arith)

  leads_end : (os : List ℕ) → at_end os ≡ found start size level w → Leads (crossing 0 0)
  unfolding at_end
  leads_end [] e = let z : ◌≡◌ {A = ℕ} 0 1 = cc in absurd (omega arith)
  leads_end (q ∷ os) e = let z : ◌≡◌ {A = ℕ} 0 1 = cc in absurd (omega arith)

  leads_walk : (n at : ℕ) (s os : List ℕ) (c o : ℕ) → Balanced os c o → walk n at os s ≡ found start size level w → Leads (cross n c o s)
  unfolding walk cross
  leads_walk n at [] os c o b e = leads_end os e
  leads_walk zero at (x ∷ xs) os c o b e =
      leads_met at (λ n os'. walk n (at + 1) os' xs) (λ n c' o'. cross n c' o' xs)
      (λ n qs c' o' k f. leads_walk n (at + 1) xs qs c' o' k f) (token x xs) os c o b e
  leads_walk (suc n) at (x ∷ xs) os c o b e = leads_walk n (at + 1) xs os c o b e

found_is : (v : Walk) (start size level : ℕ) → first_move v ≡ move_found start size level → (w : Walk) × (v ≡ found start size level w)
unfolding first_move move_found no_move_found
found_is (ended number offset) start size level e =
    let z : ◌≡◌ {A = ℕ} 0 1 = ap (λ (m : PgnMove). m.found) e in absurd (omega (arith, z))
found_is (found a b c w) start size level e =
    (w, rw (ap (λ (m : PgnMove). m.start) e, ap (λ (m : PgnMove). m.length) e, ap (λ (m : PgnMove). m.level) e))

pub crossed_leads_to_the_move : CrossedLeadsToTheMove
unfolding next_move walk_from crossed_from
crossed_leads_to_the_move text offset level start size at_level e =
    let f = found_is (walk_from text offset level) start size at_level e in
    go (ltb deepest level) (ltb (length text) offset) f.0 f.1
  where
    go : (t u : Bool) (w : Walk)
        → cond t (ended too_deep offset) (cond u (ended unknown_token offset) (walk 0 offset (replicate level offset) (drop offset text))) ≡ found start
        size at_level w
        → LevelsCrossed text offset level at_level
    go true u w q = let z : ◌≡◌ {A = ℕ} 0 1 = cc in absurd (omega arith)
    go false true w q = let z : ◌≡◌ {A = ℕ} 0 1 = cc in absurd (omega arith)
    go false false w q =
        let r = leads_walk level start size at_level w 0 offset (drop offset text) (replicate level offset) 0 0
        (zero-le, ap (λ (k : ℕ). k + 0) (length-replicate level offset)) q in
        record { left = r.0; entered = r.1 }

-- ---- a move that is found from a level is found from a lower one too, if no more levels are left than that one has
unfoldable IsFound : Walk → Type 0
IsFound (found start size level w) = Unit {0}
IsFound (ended number offset) = ⊥

module _ (at : ℕ) (go : ℕ → List ℕ → Walk) (x : ℕ → ℕ → ℕ → Crossed)
    (ih : (n : ℕ) (os : List ℕ) (c o : ℕ) → IsFound (go n os) → c ≤ (x n c o).closed) where
  grows_opening : (t : Bool) (os : List ℕ) (c o : ℕ) → IsFound (cond t (go 0 (at ∷ os)) (ended too_deep at)) → c ≤ (x 0 c (o + 1)).closed
  unfolding IsFound
  grows_opening true os c o f = ih 0 (at ∷ os) c (o + 1) f
  grows_opening false os c o f = absurd f

  grows_closing : (t : Bool) (os : List ℕ) (c o : ℕ) → IsFound (go 0 os) → c ≤ (cond t (x 0 (c + 1) 0) (x 0 c (o - 1))).closed
  grows_closing true os c o f = let h = ih 0 os (c + 1) 0 f in omega (arith, h)
  grows_closing false os c o f = ih 0 os c (o - 1) f

  grows_met : (t : Token) (os : List ℕ) (c o : ℕ) → IsFound (met t at os go) → c ≤ (cross_met t c o x).closed
  unfolding met cross_met IsFound
  grows_met (Passed n) os c o f = ih n os c o f
  grows_met (Move n) os c o f = le_refl c
  grows_met Opening os c o f = grows_opening (ltb (length os) deepest) os c o f
  grows_met Closing [] c o f = absurd f
  grows_met Closing (q ∷ os) c o f = grows_closing (eqb o 0) os c o f
  grows_met Result [] c o f = absurd f
  grows_met Result (q ∷ os) c o f = absurd f
  grows_met LeftOpen os c o f = absurd f
  grows_met Unknown os c o f = absurd f

no_end : (os : List ℕ) → IsFound (at_end os) → ⊥
unfolding at_end IsFound
no_end [] f = f
no_end (q ∷ os) f = f

grows_walk : (n at : ℕ) (s os : List ℕ) (c o : ℕ) → IsFound (walk n at os s) → c ≤ (cross n c o s).closed
unfolding walk cross
grows_walk n at [] os c o f = absurd (no_end os f)
grows_walk zero at (x ∷ xs) os c o f =
    grows_met at (λ n os'. walk n (at + 1) os' xs) (λ n c' o'. cross n c' o' xs) (λ n qs c' o' g. grows_walk n (at + 1) xs qs c' o' g) (token x xs) os c o f
grows_walk (suc n) at (x ∷ xs) os c o f = grows_walk n (at + 1) xs os c o f

module _ (J : ℕ) where
  module _ (at : ℕ) (go : ℕ → List ℕ → Walk) (x : ℕ → ℕ → ℕ → Crossed)
      (grows : (n : ℕ) (os : List ℕ) (c o : ℕ) → IsFound (go n os) → c ≤ (x n c o).closed)
      (ih : (n : ℕ) (os js : List ℕ) (c o : ℕ) → length js + c ≡ J + o → length js ≤ length os → IsFound (go n os) → (x n c o).closed ≤ J
      → IsFound (go n js)) where
    lower_opening : (t : Bool) (os js : List ℕ) (c o : ℕ) → ltb (length os) deepest ≡ t → length js + c ≡ J + o → length js ≤ length os
        → IsFound (cond t (go 0 (at ∷ os)) (ended too_deep at)) → (x 0 c (o + 1)).closed ≤ J
        → IsFound (cond (ltb (length js) deepest) (go 0 (at ∷ js)) (ended too_deep at))
    unfolding IsFound
    lower_opening true os js c o q b l f h =
        let few : length os < deepest = ltb-true _ _ q in
        let fewer : length js < deepest = omega (arith, few, l) in
        rw (lt-ltb (length js) deepest fewer) (ih 0 (at ∷ os) (at ∷ js) c (o + 1) (omega (arith, b)) (omega (arith, l)) f h)
    lower_opening false os js c o q b l f h = absurd f

    lower_closing : (t : Bool) (q : ℕ) (os js : List ℕ) (c o : ℕ) → eqb o 0 ≡ t → length js + c ≡ J + o → length js ≤ length (q ∷ os)
        → IsFound (go 0 os) → (cond t (x 0 (c + 1) 0) (x 0 c (o - 1))).closed ≤ J → IsFound (met Closing at js go)
    unfolding met IsFound
    lower_closing true q os [] c o z b l f h =
        let y : o ≡ 0 = eqb-true _ _ z in
        let g = grows 0 os (c + 1) 0 f in
        absurd (omega (arith, g, h, b, y))
    lower_closing true q os (r ∷ js) c o z b l f h =
        let y : o ≡ 0 = eqb-true _ _ z in
        ih 0 os js (c + 1) 0 (omega (arith, b, y)) (omega (arith, l)) f h
    lower_closing false q os [] c o z b l f h =
        let y : o ≡ 0 → ⊥ = eqb-false _ _ z in
        let g = grows 0 os c (o - 1) f in
        absurd (omega (arith, g, h, b, y))
    lower_closing false q os (r ∷ js) c o z b l f h =
        let y : o ≡ 0 → ⊥ = eqb-false _ _ z in
        ih 0 os js c (o - 1) (omega (arith, b, y)) (omega (arith, l)) f h

    lower_met : (t : Token) (os js : List ℕ) (c o : ℕ) → length js + c ≡ J + o → length js ≤ length os → IsFound (met t at os go)
        → (cross_met t c o x).closed ≤ J → IsFound (met t at js go)
    unfolding met cross_met IsFound
    lower_met (Passed n) os js c o b l f h = ih n os js c o b l f h
    lower_met (Move n) os js c o b l f h = tt
    lower_met Opening os js c o b l f h = lower_opening (ltb (length os) deepest) os js c o refl b l f h
    lower_met Closing [] js c o b l f h = absurd f
    lower_met Closing (q ∷ os) js c o b l f h = lower_closing (eqb o 0) q os js c o refl b l f h
    lower_met Result [] js c o b l f h = absurd f
    lower_met Result (q ∷ os) js c o b l f h = absurd f
    lower_met LeftOpen os js c o b l f h = absurd f
    lower_met Unknown os js c o b l f h = absurd f

  lower_walk : (n at : ℕ) (s os js : List ℕ) (c o : ℕ) → length js + c ≡ J + o → length js ≤ length os → IsFound (walk n at os s)
      → (cross n c o s).closed ≤ J → IsFound (walk n at js s)
  unfolding walk cross
  lower_walk n at [] os js c o b l f h = absurd (no_end os f)
  lower_walk zero at (x ∷ xs) os js c o b l f h =
      lower_met at (λ n os'. walk n (at + 1) os' xs) (λ n c' o'. cross n c' o' xs) (λ n qs c' o' g. grows_walk n (at + 1) xs qs c' o' g)
      (λ n qs rs c' o' d e g k. lower_walk n (at + 1) xs qs rs c' o' d e g k) (token x xs) os js c o b l f h
  lower_walk (suc n) at (x ∷ xs) os js c o b l f h = lower_walk n (at + 1) xs os js c o b l f h

is_found : (v : Walk) → (first_move v).found ≡ 1 → IsFound v
unfolding first_move move_found no_move_found IsFound
is_found (ended number offset) e = absurd (omega (arith, e))
is_found (found a b c w) e = tt

found_so : (v : Walk) → IsFound v → (first_move v).found ≡ 1
unfolding first_move move_found no_move_found IsFound
found_so (ended number offset) f = absurd f
found_so (found a b c w) f = refl

pub found_from_lower : FoundFromLower
unfolding next_move walk_from crossed_from IsFound
found_from_lower text offset level lower e low few =
    found_so (walk_from text offset lower) (go (ltb deepest level) refl (ltb (length text) offset) (is_found (walk_from text offset level) e))
  where
    deep : ltb deepest level ≡ false → ltb deepest lower ≡ false
    deep q =
        let h : level ≤ deepest = ltb-false _ _ q in
        let k : lower ≤ deepest = omega (arith, h, low) in
        le-ltb deepest lower k

    from : ℕ → Bool → Bool → Walk
    from l t u = cond t (ended too_deep offset) (cond u (ended unknown_token offset) (walk 0 offset (replicate l offset) (drop offset text)))

    inside : (u : Bool) → IsFound (from level false u) → IsFound (from lower false u)
    inside true f = f
    inside false f =
        lower_walk lower 0 offset (drop offset text) (replicate level offset) (replicate lower offset) 0 0
        (ap (λ (k : ℕ). k + 0) (length-replicate lower offset)) (rw (length-replicate lower offset, length-replicate level offset) low) f few

    go : (t : Bool) → ltb deepest level ≡ t → (u : Bool) → IsFound (from level t u) → IsFound (from lower (ltb deepest lower) u)
    go true q u f = absurd f
    go false q u f = rw (deep q) (inside u f)
