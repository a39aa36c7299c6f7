-- What the reader's cuts say about the tokens: each cut is at the first space, so that what it leaves has the tokens that follow.
-- Assumes nothing.
use mathlib.Core.Path.{◌≡◌, sym, ap, subst, ◌∙◌}
use mathlib.Core.List.{List, [], ◌∷◌}
use Prim.Native.Nat.{ℕ, suc, ◌+◌, ◌≤◌, ◌<◌}
use native.Mathlib.Numerals.{add-one}
use native.Mathlib.Decide.{dec_le}
use native.Mathlib.Omega.{arith}
use lib.ListN.{length, take, drop}
use lib.Seq.{take_all}
use Rattle.fen_text.specs.Token.{place_of, tokens}
use Rattle.answer.specs.Answer.{too_few_tokens}
use Rattle.fen_text.specs.Read.{refused_at, assembled, of_tokens, read_fen}
use Rattle.fen_text.proofs.Tokens.{tokens_last, tokens_next}

-- s has no space, and its end was found
pub record Last (s : List ℕ) (a : ℕ) : Type 0 where
  pub place : a ≡ place_of 32 s
  pub none : length s ≤ a

-- s has its first space at a, and t is what stands after it
pub record Cut (s : List ℕ) (a : ℕ) (t : List ℕ) : Type 0 where
  pub place : a ≡ place_of 32 s
  pub within : a < length s
  pub rest : t ≡ drop (a + 1) s

pub last : {s : List ℕ} {a : ℕ} → Last s a → tokens s ≡ s ∷ []
last {s} {a} h = tokens_last s (subst (λ (n : ℕ). length s ≤ n) h.place h.none)

pub cut : {s : List ℕ} {a : ℕ} {t : List ℕ} → Cut s a t → tokens s ≡ take a s ∷ tokens t
cut {s} {a} {t} h =
    tokens_next s (subst (λ (n : ℕ). n < length s) h.place h.within)
    ∙ rw (← h.place, h.rest, add-one)

-- the first token ends at the first space or at the end
first_by : (s : List ℕ) → Dec (length s ≤ place_of 32 s) → (ts : List (List ℕ)) × (tokens s ≡ take (place_of 32 s) s ∷ ts)
first_by s (yes h) = ([], tokens_last s h ∙ ap (λ (t : List ℕ). t ∷ []) (sym (take_all (place_of 32 s) s h)))
first_by s (no n) = (tokens (drop (suc (place_of 32 s)) s), tokens_next s (omega arith))

pub first_token : (s : List ℕ) → (ts : List (List ℕ)) × (tokens s ≡ take (place_of 32 s) s ∷ ts)
first_token s = first_by s (dec_le (length s) (place_of 32 s))

pub one_token : {s : List ℕ} {a : ℕ} → Last s a → read_fen s ≡ refused_at too_few_tokens (length s)
unfolding read_fen of_tokens
one_token h = rw (last h)

pub two_tokens : {s : List ℕ} {a : ℕ} {t : List ℕ} {b : ℕ} → Cut s a t → Last t b → read_fen s ≡ refused_at too_few_tokens (length s)
unfolding read_fen of_tokens
two_tokens h k = rw (cut h, last k)

pub three_tokens : {s : List ℕ} {a : ℕ} {t : List ℕ} {b : ℕ} {u : List ℕ} {c : ℕ} → Cut s a t → Cut t b u → Last u c
    → read_fen s ≡ refused_at too_few_tokens (length s)
unfolding read_fen of_tokens
three_tokens h k l = rw (cut h, cut k, last l)

-- four tokens or more, the first four as they were taken
pub four_tokens : {s : List ℕ} {a : ℕ} {t : List ℕ} {b : ℕ} {u : List ℕ} {c : ℕ} {v : List ℕ} {d : ℕ} {p q x y : List ℕ}
    → Cut s a t → Cut t b u → Cut u c v → d ≡ place_of 32 v
    → p ≡ take a s → q ≡ take b t → x ≡ take c u → y ≡ take d v
    → read_fen s ≡ assembled p q x y
unfolding read_fen of_tokens
four_tokens {v} h k l e ep eq ex ey = rw (cut h, cut k, cut l, (first_token v).1, ep, eq, ex, ey, e)
