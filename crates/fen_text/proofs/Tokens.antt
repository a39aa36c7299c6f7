-- Laws of the tokens' definitions, by the shapes of a list that the code tells apart: its length and its first bytes.
-- Assumes nothing.
use mathlib.Core.Path.{◌≡◌, refl, ap, ◌∙◌}
use mathlib.Core.Bool.{Bool, true, false, cond}
use mathlib.Core.List.{List, [], ◌∷◌}
use Prim.Native.Nat.{ℕ, suc, ◌+◌, ◌≤◌, ◌<◌}
use native.Mathlib.Nat.{add-zero}
use native.Mathlib.Numerals.{add-one}
use native.Mathlib.Omega.{arith}
use lib.Dec.{eqb}
use borrow.Author.Tests.{eq-eqb, ne_eqb}
use lib.ListN.{length, get_or, take, drop, drop_of_length-le}
use lib.Seq.{drop-cons}
use Rattle.fen_text.specs.Token.{place_after, place_where, place_of, onto, joined, tokens}
use Rattle.fen_text.specs.Read.{side_byte, side_of}

pub side_other : (s : List ℕ) → (length s ≡ 1 → ⊥) → side_of s ≡ 2
unfolding side_of
side_other [] n = refl
side_other (b ∷ []) n = absurd (n refl)
side_other (b ∷ c ∷ s) n = refl

pub side_one : (s : List ℕ) → length s ≡ 1 → side_of s ≡ side_byte (get_or s 0 0)
unfolding side_of
side_one [] e = absurd (omega arith)
side_one (b ∷ []) e = refl
side_one (b ∷ c ∷ s) e = absurd (omega arith)

-- the place where a test passes, looked for from the front: found, passed over, not there, not yet begun
module _ (test : ℕ → Bool) (s : List ℕ) where
  pub where_hit : (i : ℕ) → i < length s → test (get_or s i 0) ≡ true → i + place_where test (drop i s) ≡ i
  unfolding place_where place_after
  where_hit i h e = simp (drop-cons s i 0 h, e, add-zero)

  pub where_miss : (i : ℕ) → i < length s → test (get_or s i 0) ≡ false → i + place_where test (drop i s) ≡ i + 1 + place_where test (drop (i + 1) s)
  unfolding place_where place_after
  where_miss i h e = simp (add-one, drop-cons s i 0 h, e) (omega arith)

  pub where_end : (i : ℕ) → length s ≤ i → i + place_where test (drop i s) ≡ i
  unfolding place_where
  where_end i h = simp (drop_of_length-le s h, add-zero)

  pub where_start : place_where test s ≡ 0 + place_where test s
  where_start = omega arith

-- the same for a byte
pub place_hit : (b : ℕ) (s : List ℕ) (i : ℕ) → i < length s → get_or s i 0 ≡ b → i + place_of b (drop i s) ≡ i
place_hit b s i h e = where_hit (λ (x : ℕ). eqb x b) s i h (eq-eqb _ _ e)

pub place_miss : (b : ℕ) (s : List ℕ) (i : ℕ) → i < length s → (get_or s i 0 ≡ b → ⊥) → i + place_of b (drop i s) ≡ i + 1 + place_of b (drop (i + 1) s)
place_miss b s i h n = where_miss (λ (x : ℕ). eqb x b) s i h (ne_eqb _ _ n)

-- no space: one token. A space: a token, and the tokens past it
token_step : (t : Bool) (x k n : ℕ) (s : List ℕ) (ts : List (List ℕ)) → (n ≤ k → ts ≡ s ∷ []) → suc n ≤ place_after t k → joined t x ts ≡ (x ∷ s) ∷ []
unfolding place_after joined
token_step true x k n s ts f h = absurd (omega arith)
token_step false x k n s ts f h = ap (onto x) (f (omega arith))

pub tokens_last : (s : List ℕ) → length s ≤ place_of 32 s → tokens s ≡ s ∷ []
unfolding place_where tokens onto
tokens_last [] h = refl
tokens_last (x ∷ s) h = token_step (eqb x 32) x (place_of 32 s) (length s) s (tokens s) (tokens_last s) h

tokens_step : (t : Bool) (x k : ℕ) (s : List ℕ)
    → (k < length s → tokens s ≡ take k s ∷ tokens (drop (suc k) s))
    → place_after t k < suc (length s)
    → joined t x (tokens s) ≡ take (place_after t k) (x ∷ s) ∷ tokens (drop (suc (place_after t k)) (x ∷ s))
unfolding place_after joined onto
tokens_step true x k s f h = refl
tokens_step false x k s f h = ap (onto x) (f (omega arith))

pub tokens_next : (s : List ℕ) → place_of 32 s < length s → tokens s ≡ take (place_of 32 s) s ∷ tokens (drop (suc (place_of 32 s)) s)
unfolding place_where tokens
tokens_next [] h = absurd (omega arith)
tokens_next (x ∷ s) h = tokens_step (eqb x 32) x (place_of 32 s) s (tokens_next s) h

-- how many tokens there are: one more than spaces, counted from the front
length_onto : (x : ℕ) (ts : List (List ℕ)) → 0 < length ts → length (onto x ts) ≡ length ts
unfolding onto
length_onto x [] h = absurd (omega arith)
length_onto x (t ∷ ts) h = refl

length_joined : (t : Bool) (x : ℕ) (ts : List (List ℕ)) → 0 < length ts → length (joined t x ts) ≡ cond t 1 0 + length ts
unfolding joined
length_joined true x ts h = omega arith
length_joined false x ts h = length_onto x ts h ∙ omega arith

some_tokens : (s : List ℕ) → 0 < length (tokens s)
unfolding tokens
some_tokens [] = omega arith
some_tokens (x ∷ s) = omega (arith, length_joined (eqb x 32) x (tokens s) (some_tokens s), some_tokens s)

pub count_turn : (s : List ℕ) (i : ℕ) → i < length s → length (tokens (drop i s)) ≡ cond (eqb (get_or s i 0) 32) 1 0 + length (tokens (drop (i + 1) s))
unfolding tokens
count_turn s i h =
    rw (add-one i, drop-cons s i 0 h) (length_joined (eqb (get_or s i 0) 32) (get_or s i 0) (tokens (drop (suc i) s)) (some_tokens (drop (suc i) s)))

pub count_end : (s : List ℕ) (i : ℕ) → length s ≤ i → length (tokens (drop i s)) ≡ 1
unfolding tokens
count_end s i h = rw (drop_of_length-le s h)
