-- The rights after a move: those that crate castle_rights gives for a square, and that none are gained.
-- Assumes nothing.
use mathlib.Core.Path.{◌≡◌, ap, ◌∙◌}
use mathlib.Core.Bool.{Bool, true, false, cond, ◌&&◌}
use Prim.Native.Nat.{ℕ, ◌+◌, ◌*◌, ◌-◌, ◌/◌, ◌%◌, ◌≤◌, ◌<◌}
use native.Mathlib.Omega.{arith}
use lib.Dec.{eqb}
use borrow.Author.Tests.{lt-ltb}
use Rattle.answer.specs.declared.Answer.{Answer}
use Rattle.castle_rights.specs.CastleRights.{castles_at, removed, square_rights}
use Rattle.move_rules.specs.After.{rights_on, rights_without, rights_after}

castles_small : (colour rank file : ℕ) → castles_at colour rank file < 4
castles_small colour rank file = go (eqb rank (colour * 7)) (eqb file 0) (eqb file 4) (eqb file 7)
  where
    go : (t a e h : Bool) → cond {A = ℕ} t (cond a 2 (cond e 3 (cond h 1 0))) 0 < 4
    go false a e h = omega arith
    go true true e h = omega arith
    go true false true h = omega arith
    go true false false true = omega arith
    go true false false false = omega arith

fewer : (a x y : ℕ) → (a % 2 - x) + 2 * (a / 2 - y) ≤ a
fewer a x y = omega arith

removed_fewer : (a b : ℕ) → removed a b ≤ a
removed_fewer a b = fewer a (b % 2) (b / 2)

pub without_fewer : (colour rights square : ℕ) → rights_without colour rights square ≤ rights
unfolding rights_without
without_fewer colour rights square = removed_fewer rights (castles_at colour (square / 8) (square % 8))

pub rights_fewer : (colour rights source dest : ℕ) → rights_after colour rights source dest ≤ rights
unfolding rights_after
rights_fewer colour rights source dest =
    omega (arith, without_fewer colour (rights_without colour rights source) dest, without_fewer colour rights source)

-- what crate castle_rights answers for a colour and a square in range
module _ (colour square : ℕ) (told : Answer) (c : colour < 2) (s : square < 64) (e : told ≡ square_rights colour square) where
  pub gone_is : told.value ≡ rights_on colour square
  gone_is = ap (λ (a : Answer). a.value) e ∙ simp (lt-ltb colour 2 c, lt-ltb square 64 s)

  pub gone_small : told.value < 4
  gone_small = omega (arith, gone_is, castles_small colour (square / 8) (square % 8))

-- where there were none, none are left, on either side
module _ (source dest left right : ℕ) where
  no_rights : (colour : ℕ) → rights_after colour 0 source dest ≡ 0
  no_rights colour = omega (arith, rights_fewer colour 0 source dest)

  pub none_left_lem : (white black : ℕ) → white ≡ 0 → black ≡ 0
      → eqb left 0 && eqb right 0 ≡ eqb left (rights_after 0 white source dest) && eqb right (rights_after 1 black source dest)
  none_left_lem white black w k = rw (w, k, no_rights 0, no_rights 1)

-- what is left of each bit makes what is left of the rights
pub less_of : (colour rights square gone : ℕ) → gone ≡ rights_on colour square → (x y : ℕ) → x ≡ rights % 2 - gone % 2 → y ≡ rights / 2 - gone / 2
    → x + 2 * y ≡ rights_without colour rights square
unfolding rights_without
less_of colour rights square gone e x y ex ey = rw (ex, ey, e)
