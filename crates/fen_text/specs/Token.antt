-- Tokens (document 01, "FEN, read and written"): a text is split at each single space, and empty tokens count.
-- Assumes nothing.
use Rattle.std.specs.Prelude.{ℕ, zero, suc, Bool, true, false, List, [], ◌∷◌, eqb}

-- a byte put before the first token
unfoldable pub onto : ℕ → List (List ℕ) → List (List ℕ)
onto b [] = (b ∷ []) ∷ []
onto b (t ∷ ts) = (b ∷ t) ∷ ts

-- a space begins a new token, any other byte joins the one that follows
unfoldable pub joined : Bool → ℕ → List (List ℕ) → List (List ℕ)
unfolding onto
joined true b ts = [] ∷ ts
joined false b ts = onto b ts

-- the tokens of a text; there is always one
unfoldable pub tokens : List ℕ → List (List ℕ)
unfolding joined
tokens [] = [] ∷ []
tokens (x ∷ xs) = joined (eqb x 32) x (tokens xs)

-- the place of the first byte that passes a test, by whether this one does, and the place in the rest
unfoldable pub place_after : Bool → ℕ → ℕ
place_after true k = zero
place_after false k = suc k

-- the place of the first byte that passes a test, or the list's length where none does
unfoldable pub place_where : (ℕ → Bool) → List ℕ → ℕ
unfolding place_after
place_where test [] = zero
place_where test (x ∷ xs) = place_after (test x) (place_where test xs)

-- the place of the first b
abbrev pub place_of : ℕ → List ℕ → ℕ
place_of b s = place_where (λ (x : ℕ). eqb x b) s
