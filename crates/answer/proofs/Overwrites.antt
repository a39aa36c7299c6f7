-- Laws of a text over the front of a room: what is left past it, one text after the other, and the room written from its front.
-- Assumes nothing.
use mathlib.Core.Path.{◌≡◌, sym, ap, ap₂, ◌∙◌}
use mathlib.Core.List.{List, ◌++◌, append_assoc}
use Prim.Native.Nat.{ℕ, ◌+◌}
use native.Mathlib.Omega.{arith}
use lib.ListN.{length, take, drop, length-append}
use lib.Seq.{take_at, drop_at, drop-drop}
use Rattle.answer.specs.Answer.{overwrite}
use Rattle.answer.specs.Parts.{written}

-- past the text the room is as it was
pub past_it : (text l : List ℕ) (n : ℕ) → length text ≡ n → drop n (overwrite text l) ≡ drop n l
past_it text l n e = drop_at text (drop (length text) l) n e ∙ ap (λ (k : ℕ). drop k l) e

-- one text after the other over the front of a room: the second over what is left behind the first
pub over_two : (x y l : List ℕ) (n : ℕ) → length x ≡ n → overwrite (x ++ y) l ≡ take n (overwrite x l) ++ overwrite y (drop n (overwrite x l))
over_two x y l n e =
    let front : take n (overwrite x l) ≡ x = take_at x (drop (length x) l) n e in
    let rest : drop n (overwrite x l) ≡ drop (length x) l = drop_at x (drop (length x) l) n e in
    let past : drop (length (x ++ y)) l ≡ drop (length y) (drop (length x) l) =
    ap (λ (k : ℕ). drop k l) (length-append x y) ∙ sym (drop-drop (length y) (length x) l) in
    append_assoc x y (drop (length (x ++ y)) l)
    ∙ ap₂ (λ (a b : List ℕ). a ++ (y ++ b)) (sym front) (past ∙ ap (drop (length y)) (sym rest))

-- written from the front on
pub from_front : (l x : List ℕ) → written l 0 x ≡ overwrite x l
from_front l x = let e : 0 + length x ≡ length x = omega arith in ap (λ (k : ℕ). x ++ drop k l) e
