-- Order 2: each number is given exactly when its sentence holds, with exactly that offset, and the same texts are refused as before.
-- Assumes nothing.
use mathlib.Core.Path.{◌≡◌, refl, sym, ap, ◌∙◌}
use mathlib.Core.Bool.{Bool, true, false, not, cond, ◌&&◌, ◌||◌, true≢false}
use mathlib.Core.List.{List, [], ◌∷◌}
use Prim.Native.Nat.{ℕ, zero, suc, ◌+◌, ◌-◌, ◌≤◌, ◌<◌}
use native.Mathlib.Decide.{dec_le}
use native.Mathlib.Omega.{arith}
use lib.Dec.{eqb, leb, ltb}
use lib.ListN.{length, get_or, take}
use lib.Seq.{length-take-le}
use borrow.Author.Tests.{ne_eqb, eqb-true, lt-leb}
use Rattle.answer.specs.Answer.{too_few_tokens, bad_placement, bad_side}
use Rattle.answer.specs.Ascii.{ascii}
use Rattle.answer.specs.Numbers.{all_at_most, among}
use Rattle.answer.specs.Numbers.{between}
use Rattle.square.specs.Piece.{piece_of}
use Rattle.answer.proofs.Below.{agree}
use Rattle.answer.proofs.Numbers.{most_head, most_tail}
use Rattle.fen_text.specs.declared.Fen.{Fen}
use Rattle.fen_text.specs.Token.{tokens, place_after, place_where, place_of}
use Rattle.fen_text.specs.Placement.{Placement, start, down, skip, fill, spoil, place_byte, place_all, signs, first_bad}
use Rattle.fen_text.specs.Read.{side_of, refused_at, fen_of, sided, assembled, of_tokens, read_fen}
use Rattle.fen_text.specs.Base.{no_fen, base_assembled, base_tokens, base_fen}
use Rattle.fen_text.specs.Faults.{nth_token, GoodUpTo, TooFew, BadPlacement, NoSide, BadSide}
use Rattle.fen_text.specs.Faults.{EveryTextIsToldWhere, Numbers, accepted, few, placement, side, OneIsNotGiven}
use Rattle.fen_text.proofs.Tokens.{tokens_last, tokens_next}

-- ---- the bytes of a placement are those that do not spoil it

-- a byte as `place_byte` tells it apart
is_sign : ℕ → Bool
is_sign b = eqb b 47 || (between 49 56 b || not (eqb (piece_of b) 0))

far_among : (b : ℕ) (l : List ℕ) → all_at_most 122 l ≡ true → 122 < b → among b l ≡ false
unfolding among
far_among b [] h f = refl
far_among b (x ∷ l) h f =
    let other : x ≡ b → ⊥ = λ e. omega (arith, most_head 122 x l h) in
    simp (ne_eqb _ _ other) (far_among b l (most_tail 122 x l h) f)

far_piece : (b : ℕ) → 122 < b → piece_of b ≡ 0
unfolding piece_of
far_piece b h =
    let other : (x : ℕ) → x ≤ 122 → eqb b x ≡ false = λ x k. ne_eqb b x (λ e. omega arith) in
    simp (
      other 80 (omega arith),
      other 78 (omega arith),
      other 66 (omega arith),
      other 82 (omega arith),
      other 81 (omega arith),
      other 75 (omega arith),
      other 112 (omega arith),
      other 110 (omega arith),
      other 98 (omega arith),
      other 114 (omega arith),
      other 113 (omega arith),
      other 107 (omega arith),
    )

far_sign : (b : ℕ) → 122 < b → is_sign b ≡ false
unfolding is_sign
far_sign b h =
    let slash : b ≡ 47 → ⊥ = λ e. omega arith in
    let high : 56 < b = omega arith in
    let none : between 49 56 b ≡ false = and_second (leb 49 b) (leb b 56) (lt-leb b 56 high) in
    simp (ne_eqb _ _ slash, none, far_piece b h)
  where
    and_second : (s t : Bool) → t ≡ false → s && t ≡ false
    and_second true t e = e
    and_second false t e = refl

signs_low : all_at_most 122 signs ≡ true
unfolding ascii all_at_most
signs_low = refl

sign_by : (b : ℕ) → Dec (b ≤ 122) → among b signs ≡ is_sign b
unfolding among ascii is_sign piece_of
sign_by b (yes h) = agree (λ (x : ℕ). among x signs) is_sign 123 tt b (omega arith)
sign_by b (no n) = far_among b signs signs_low (omega arith) ∙ sym (far_sign b (omega arith))

sign : (b : ℕ) → among b signs ≡ is_sign b
sign b = sign_by b (dec_le b 122)

and_true : (t : Bool) → t ≡ t && true
and_true true = refl
and_true false = refl

and_false : (t : Bool) → false ≡ t && false
and_false true = refl
and_false false = refl

good_byte : (p : Placement) (b : ℕ) → (place_byte p b).good ≡ p.good && among b signs
unfolding place_byte is_sign
good_byte p b = by (eqb b 47) (between 49 56 b) (eqb (piece_of b) 0) ∙ ap (λ (t : Bool). p.good && t) (sym (sign b))
  where
    by : (s t u : Bool)
        → (cond s (down p) (cond t (skip (b - 48) p) (cond u (spoil p) (fill (piece_of b) p)))).good ≡ p.good && (s || (t || not u))
    by true t u = and_true p.good
    by false true u = and_true p.good
    by false false true = and_false p.good
    by false false false = and_true p.good

-- ---- a placement is good, or its first bad byte can be shown

spoilt : (p : Placement) (token : List ℕ) → p.good ≡ false → (place_all p token).good ≡ false
unfolding place_all
spoilt p [] e = e
spoilt p (b ∷ bs) e = spoilt (place_byte p b) bs (good_byte p b ∙ ap (λ (t : Bool). t && among b signs) e)

record FirstAt (token : List ℕ) (at : ℕ) : Type 0 where
  within : at < length token
  bad : among (get_or token at 0) signs ≡ false
  none_before : GoodUpTo token at

data Judged (p : Placement) (token : List ℕ) : Type 0 where
  sound : (place_all p token).good ≡ true → GoodUpTo token (length token) → Judged p token
  broken : (place_all p token).good ≡ false → FirstAt token (first_bad token) → Judged p token

good_more : (b : ℕ) (bs : List ℕ) (n : ℕ) → among b signs ≡ true → GoodUpTo bs n → GoodUpTo (b ∷ bs) (suc n)
good_more b bs n e g zero h = e
good_more b bs n e g (suc k) h = g k (omega arith)

judge : (p : Placement) (token : List ℕ) → p.good ≡ true → Judged p token
unfolding place_all place_where place_after
judge p [] e = sound e (λ k h. absurd (omega arith))
judge p (b ∷ bs) e = go (among b signs) refl (λ f. judge (place_byte p b) bs (next ∙ f))
  where
    next : (place_byte p b).good ≡ among b signs
    next = good_byte p b ∙ ap (λ (t : Bool). t && among b signs) e

    more : among b signs ≡ true → Judged (place_byte p b) bs → Judged p (b ∷ bs)
    more f (sound g all) = sound g (good_more b bs (length bs) f all)
    more f (broken g at) =
        broken g (simp f (record { within = omega (arith, at.within); bad = at.bad; none_before = good_more b bs (first_bad bs) f at.none_before }))

    go : (t : Bool) → among b signs ≡ t → (among b signs ≡ true → Judged (place_byte p b) bs) → Judged p (b ∷ bs)
    go true f rest = more f (rest f)
    go false f rest =
        broken (spoilt (place_byte p b) bs (next ∙ f))
        (simp f (record { within = omega arith; bad = f; none_before = λ k h. absurd (omega arith) }))

-- there is one first bad byte, and none in a good placement
one_first : (token : List ℕ) (m n : ℕ) → FirstAt token m → FirstAt token n → m ≡ n
one_first token m n a b = go (dec_le (suc m) n) (dec_le (suc n) m)
  where
    go : Dec (suc m ≤ n) → Dec (suc n ≤ m) → m ≡ n
    go (yes h) k = absurd (true≢false (sym (b.none_before m h) ∙ a.bad))
    go (no h) (yes k) = absurd (true≢false (sym (a.none_before n k) ∙ b.bad))
    go (no h) (no k) = omega arith

no_first : (token : List ℕ) (at : ℕ) → FirstAt token at → GoodUpTo token (length token) → ⊥
no_first token at a g = true≢false (sym (g at a.within) ∙ a.bad)

-- ---- the side is one of the four, or none of them

no_side_lem : (t : List ℕ) → ltb (side_of t) 2 ≡ false → NoSide t
unfolding side_of ascii
no_side_lem t h = record {
  w = λ e. true≢false (sym (ap (λ (s : List ℕ). ltb (side_of s) 2) e) ∙ h);
  W = λ e. true≢false (sym (ap (λ (s : List ℕ). ltb (side_of s) 2) e) ∙ h);
  b = λ e. true≢false (sym (ap (λ (s : List ℕ). ltb (side_of s) 2) e) ∙ h);
  B = λ e. true≢false (sym (ap (λ (s : List ℕ). ltb (side_of s) 2) e) ∙ h);
}

one : (b c : ℕ) → eqb b c ≡ true → ◌≡◌ {A = List ℕ} (b ∷ []) (c ∷ [])
one b c e = ap (λ (x : ℕ). x ∷ []) (eqb-true b c e)

some_side : (t : List ℕ) → ltb (side_of t) 2 ≡ true → NoSide t → ⊥
unfolding side_of ascii
some_side [] h n = true≢false (sym h)
some_side (b ∷ []) h n = go (eqb b 119) refl (eqb b 87) refl (eqb b 98) refl (eqb b 66) refl
  where
    go : (s : Bool) → eqb b 119 ≡ s → (t : Bool) → eqb b 87 ≡ t → (u : Bool) → eqb b 98 ≡ u → (v : Bool) → eqb b 66 ≡ v → ⊥
    go true e t f u g v k = n.w (one b 119 e)
    go false e true f u g v k = n.W (one b 87 f)
    go false e false f true g v k = n.b (one b 98 g)
    go false e false f false g true k = n.B (one b 66 k)
    go false e false f false g false k = true≢false (sym (simp (e, f, g, k) at h))
some_side (b ∷ c ∷ t) h n = true≢false (sym h)

-- ---- the tokens

too_few : (n : ℕ) (ts : List (List ℕ)) → length ts < 4 → of_tokens n ts ≡ refused_at too_few_tokens n
unfolding of_tokens
too_few n [] h = refl
too_few n (a ∷ []) h = refl
too_few n (a ∷ b ∷ []) h = refl
too_few n (a ∷ b ∷ c ∷ []) h = refl
too_few n (a ∷ b ∷ c ∷ d ∷ ts) h = absurd (omega arith)

enough : (n : ℕ) (ts : List (List ℕ)) → 4 ≤ length ts → of_tokens n ts ≡ assembled (get_or ts 0 []) (get_or ts 1 []) (get_or ts 2 []) (get_or ts 3 [])
unfolding of_tokens
enough n [] h = absurd (omega arith)
enough n (a ∷ []) h = absurd (omega arith)
enough n (a ∷ b ∷ []) h = absurd (omega arith)
enough n (a ∷ b ∷ c ∷ []) h = absurd (omega arith)
enough n (a ∷ b ∷ c ∷ d ∷ ts) h = refl

-- the second token starts behind the first space
second_start : (s : List ℕ) → 4 ≤ length (tokens s) → length (nth_token 0 s) + 1 ≡ place_of 32 s + 1
second_start s h = go (dec_le (length s) (place_of 32 s))
  where
    go : Dec (length s ≤ place_of 32 s) → length (nth_token 0 s) + 1 ≡ place_of 32 s + 1
    go (yes k) = absurd (few_one (ap length (tokens_last s k)))
      where
        few_one : length (tokens s) ≡ 1 → ⊥
        few_one e = omega arith
    go (no k) =
        let first : nth_token 0 s ≡ take (place_of 32 s) s = ap (λ (ts : List (List ℕ)). get_or ts 0 []) (tokens_next s (omega arith)) in
        let long : length (take (place_of 32 s) s) ≡ place_of 32 s = length-take-le _ _ (omega arith) in
        omega (arith, ap length first, long)

-- ---- the four cases of a text

data Case (s : List ℕ) : Type 0 where
  is_few : TooFew s → read_fen s ≡ refused_at too_few_tokens (length s) → Case s
  is_placement : (at : ℕ) → BadPlacement s at → read_fen s ≡ refused_at bad_placement at → Case s
  is_side : (at : ℕ) → BadSide s at → read_fen s ≡ refused_at bad_side at → Case s
  is_good : 4 ≤ length (tokens s) → GoodUpTo (nth_token 0 s) (length (nth_token 0 s)) → (NoSide (nth_token 1 s) → ⊥)
      → read_fen s ≡ fen_of (read_fen s).board → Case s

good_four : (a b c d : List ℕ) → (place_all start a).good ≡ true → ltb (side_of b) 2 ≡ true → assembled a b c d ≡ fen_of (assembled a b c d).board
unfolding assembled sided
good_four a b c d e f = simp (e, f)

is_fen : {f g : Fen} → f ≡ g → g ≡ fen_of g.board → f ≡ fen_of f.board
is_fen e h = rw e h

module _ (s : List ℕ) (h : 4 ≤ length (tokens s)) where
  pub four : read_fen s ≡ assembled (nth_token 0 s) (nth_token 1 s) (nth_token 2 s) (nth_token 3 s)
  unfolding read_fen
  four = enough (length s) (tokens s) h

  by_side : (t : Bool) → ltb (side_of (nth_token 1 s)) 2 ≡ t → (place_all start (nth_token 0 s)).good ≡ true → GoodUpTo (nth_token 0 s) (length (nth_token 0 s))
      → Case s
  unfolding assembled sided
  by_side true e f g =
      is_good h g (some_side (nth_token 1 s) e) (is_fen four (good_four (nth_token 0 s) (nth_token 1 s) (nth_token 2 s) (nth_token 3 s) f e))
  by_side false e f g =
      is_side (length (nth_token 0 s) + 1)
      (record { enough = h; good = g; side = no_side_lem (nth_token 1 s) e; start = second_start s h })
      (four ∙ simp (f, e))

  by_placement : Judged start (nth_token 0 s) → Case s
  unfolding assembled
  by_placement (sound f g) = by_side (ltb (side_of (nth_token 1 s)) 2) refl f g
  by_placement (broken f at) =
      is_placement (first_bad (nth_token 0 s))
      (record { enough = h; within = at.within; bad = at.bad; none_before = at.none_before })
      (four ∙ simp f)

pub few_read : (s : List ℕ) → TooFew s → read_fen s ≡ refused_at too_few_tokens (length s)
unfolding read_fen
few_read s h = too_few (length s) (tokens s) h

case : (s : List ℕ) → Case s
case s = go (dec_le 4 (length (tokens s)))
  where
    go : Dec (4 ≤ length (tokens s)) → Case s
    go (yes h) = by_placement s h (judge start (nth_token 0 s) refl)
    go (no n) = is_few (omega arith) (few_read s (omega arith))

-- ---- each sentence against the case of the text

number : {f g : Fen} → f ≡ g → f.number ≡ g.number
number e = ap (λ (x : Fen). x.number) e

first_of : {s : List ℕ} {at : ℕ} → BadPlacement s at → FirstAt (nth_token 0 s) at
first_of b = record { within = b.within; bad = b.bad; none_before = b.none_before }

said_few : {s : List ℕ} → Case s → TooFew s → read_fen s ≡ refused_at too_few_tokens (length s)
said_few (is_few t e) h = e
said_few (is_placement at b e) h = absurd (omega (arith, b.enough))
said_few (is_side at b e) h = absurd (omega (arith, b.enough))
said_few (is_good l g n e) h = absurd (omega arith)

few_said : {s : List ℕ} → Case s → (read_fen s).number ≡ too_few_tokens → TooFew s
few_said (is_few t e) z = t
few_said (is_placement at b e) z = absurd (omega (arith, number e))
few_said (is_side at b e) z = absurd (omega (arith, number e))
few_said (is_good l g n e) z = absurd (omega (arith, number e))

said_placement : {s : List ℕ} → Case s → (at : ℕ) → BadPlacement s at → read_fen s ≡ refused_at bad_placement at
said_placement (is_few t e) at b = absurd (omega (arith, b.enough))
said_placement {s} (is_placement at' b' e) at b = e ∙ ap (refused_at bad_placement) (one_first (nth_token 0 s) at' at (first_of b') (first_of b))
said_placement {s} (is_side at' b' e) at b = absurd (no_first (nth_token 0 s) at (first_of b) b'.good)
said_placement {s} (is_good l g n e) at b = absurd (no_first (nth_token 0 s) at (first_of b) g)

placement_said : {s : List ℕ} → Case s → (read_fen s).number ≡ bad_placement → BadPlacement s (read_fen s).offset
placement_said (is_few t e) z = absurd (omega (arith, number e))
placement_said {s} (is_placement at b e) z = rw (ap (λ (x : Fen). x.offset) e) b
placement_said (is_side at b e) z = absurd (omega (arith, number e))
placement_said (is_good l g n e) z = absurd (omega (arith, number e))

said_side : {s : List ℕ} → Case s → (at : ℕ) → BadSide s at → read_fen s ≡ refused_at bad_side at
said_side (is_few t e) at b = absurd (omega (arith, b.enough))
said_side {s} (is_placement at' b' e) at b = absurd (no_first (nth_token 0 s) at' (first_of b') b.good)
said_side {s} (is_side at' b' e) at b = e ∙ ap (refused_at bad_side) (b'.start ∙ sym b.start)
said_side {s} (is_good l g n e) at b = absurd (n b.side)

side_said : {s : List ℕ} → Case s → (read_fen s).number ≡ bad_side → BadSide s (read_fen s).offset
side_said (is_few t e) z = absurd (omega (arith, number e))
side_said (is_placement at b e) z = absurd (omega (arith, number e))
side_said {s} (is_side at b e) z = rw (ap (λ (x : Fen). x.offset) e) b
side_said (is_good l g n e) z = absurd (omega (arith, number e))

-- ---- the same texts are refused as before

record AsBefore (new old : Fen) : Type 0 where
  taken : old.number ≡ 0 → new ≡ fen_of old.board
  not_more : new.number ≡ 0 → old.number ≡ 0

both_refused : (n at : ℕ) → (n ≡ 0 → ⊥) → AsBefore (refused_at n at) no_fen
both_refused n at other = record { taken = λ e. absurd (omega arith); not_more = λ e. absurd (other e) }

four_as_before : (a b c d : List ℕ) → AsBefore (assembled a b c d) (base_assembled (place_all start a) (side_of b) c d)
unfolding assembled sided base_assembled
four_as_before a b c d =
    go (place_all start a).good refl (ltb (side_of b) 2) refl
  where
    go : (t : Bool) → (place_all start a).good ≡ t → (u : Bool) → ltb (side_of b) 2 ≡ u → AsBefore (assembled a b c d)
        (base_assembled (place_all start a) (side_of b) c d)
    go true e true f = simp (e, f) (record { taken = λ z. refl; not_more = λ z. refl })
    go true e false f = simp (e, f) (both_refused bad_side (length a + 1) (λ z. omega arith))
    go false e u f = simp e (both_refused bad_placement (first_bad a) (λ z. omega arith))

tokens_as_before : (n : ℕ) (ts : List (List ℕ)) → AsBefore (of_tokens n ts) (base_tokens ts)
unfolding of_tokens base_tokens
tokens_as_before n [] = both_refused too_few_tokens n (λ z. omega arith)
tokens_as_before n (a ∷ []) = both_refused too_few_tokens n (λ z. omega arith)
tokens_as_before n (a ∷ b ∷ []) = both_refused too_few_tokens n (λ z. omega arith)
tokens_as_before n (a ∷ b ∷ c ∷ []) = both_refused too_few_tokens n (λ z. omega arith)
tokens_as_before n (a ∷ b ∷ c ∷ d ∷ ts) = four_as_before a b c d

before : (s : List ℕ) → AsBefore (read_fen s) (base_fen s)
unfolding read_fen base_fen
before s = tokens_as_before (length s) (tokens s)

pub every_text_is_told_where : EveryTextIsToldWhere
every_text_is_told_where s = record {
  as_before = (before s).taken;
  not_more = (before s).not_more;
  few = said_few (case s);
  few_only = few_said (case s);
  placement = said_placement (case s);
  placement_only = placement_said (case s);
  side = said_side (case s);
  side_only = side_said (case s);
}

pub one_is_not_given : OneIsNotGiven
one_is_not_given s = go (case s)
  where
    offset : {f : Fen} → read_fen s ≡ f → (read_fen s).offset ≡ f.offset
    offset e = ap (λ (x : Fen). x.offset) e

    go : Case s → Numbers s
    go (is_few t e) = few (e ∙ ap (refused_at too_few_tokens) (sym (offset e)))
    go (is_placement at b e) = placement (e ∙ ap (refused_at bad_placement) (sym (offset e)))
    go (is_side at b e) = side (e ∙ ap (refused_at bad_side) (sym (offset e)))
    go (is_good l g n e) = accepted e
