-- A lent part that holds items of one size, one after the other, and bytes written over others.
-- Assumes nothing.
use Rattle.std.specs.Prelude.{List, ◌++◌, ℕ, ◌+◌, ◌*◌, length, take, drop}

-- item k of a part, or as much of it as lies in the part
abbrev pub item : ℕ → List ℕ → ℕ → List ℕ
item size part k = take size (drop (size * k) part)

-- the part with some bytes over what stood from a place on
abbrev pub written : List ℕ → ℕ → List ℕ → List ℕ
written part at bytes = take at part ++ bytes ++ drop (at + length bytes) part

-- the first n bytes of a part, or all there are, and what is left after them
abbrev pub front_of : List ℕ → ℕ → List ℕ
front_of part n = take n part

abbrev pub rest_of : List ℕ → ℕ → List ℕ
rest_of part n = drop n part
