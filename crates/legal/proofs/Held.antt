-- A conjunction whose first tests hold is its last.
-- Assumes nothing.
use mathlib.Core.Path.{◌≡◌, ap, sym, ◌∙◌}
use mathlib.Core.Bool.{Bool, true, ◌&&◌}

pub one_held : (a b : Bool) → a ≡ true → b ≡ (a && b)
one_held a b e = ap (λ (x : Bool). x && b) (sym e)

pub four_held : (a b c d e : Bool) → a ≡ true → b ≡ true → c ≡ true → d ≡ true → e ≡ (a && (b && (c && (d && e))))
four_held a b c d e p q r s =
    one_held d e s ∙ one_held c (d && e) r ∙ one_held b (c && (d && e)) q ∙ one_held a (b && (c && (d && e))) p
