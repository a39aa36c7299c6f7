-- What is found in the namer's eleven bytes: a text that was written there, and the first of two that is there.
-- Assumes nothing.
use Prim.Native.Nat.{ℕ, ◌≤◌}
use mathlib.Core.Path.{◌≡◌, refl, sym, ap, ◌∙◌}
use mathlib.Core.List.{List}
use mathlib.Core.Option.{Option, none, some}
use native.Mathlib.Omega.{arith}
use lib.ListN.{length, take, drop}
use lib.Seq.{take_at}
use Rattle.answer.specs.declared.Answer.{Answer}
use Rattle.answer.specs.Answer.{write_answer, write_bytes}
use Rattle.answer.proofs.Writes.{write_fits, write_length}
use Rattle.std.specs.Prelude.{Some}
use Rattle.namer.specs.CodeTries.{Found}

-- ---- what was written

-- a text of two bytes or more stands in the first n of eleven
pub record InRoom (t : List ℕ) (n : ℕ) (bytes : List ℕ) : Type 0 where
  pub long : length bytes ≡ 11
  pub least : 2 ≤ length t
  pub most : length t ≤ 11
  pub count : n ≡ length t
  pub front : take n bytes ≡ t

pub written : (t bytes : List ℕ) → (2 ≤ length t) × (length t ≤ 11) → length bytes ≡ 11 → InRoom t (length t) (write_bytes 0 t bytes)
written t bytes s h =
    let fits : length t ≤ length bytes = omega (arith, s.1) in
    record {
      long = write_length 0 t bytes ∙ h;
      least = s.0;
      most = s.1;
      count = refl;
      front = rw (← (write_fits t bytes fits).bytes) (take_at t (drop (length t) bytes) (length t) refl);
    }

-- as many as the writer answered
pub answered : (t bytes exit : List ℕ) (a : Answer) → (2 ≤ length t) × (length t ≤ 11) → length bytes ≡ 11
    → a ≡ write_answer 0 t (length bytes) → exit ≡ write_bytes 0 t bytes → InRoom t a.value exit
answered t bytes exit a s h e x =
    let fits : length t ≤ length bytes = omega (arith, s.1) in
    let n : a.value ≡ length t = ap (λ (r : Answer). r.value) (e ∙ sym (write_fits t bytes fits).answer) in
    rw (n, x) (written t bytes s h)

pub found_some : {t bytes : List ℕ} {n : ℕ} → InRoom t n bytes → Found (some t) bytes (Some n)
found_some i = (ap some (sym i.front), omega (arith, i.long, i.most, i.count))

pub found_written : (t bytes exit : List ℕ) → (2 ≤ length t) × (length t ≤ 11) → length bytes ≡ 11 → exit ≡ write_bytes 0 t bytes
    → Found (some t) exit (Some (length t))
found_written t bytes exit s h x = rw x (found_some (written t bytes s h))

-- ---- the first of two that is there

unfoldable pub or_else : Option (List ℕ) → Option (List ℕ) → Option (List ℕ)
or_else none o = o
or_else (some t) o = some t

pub stays : {x : Option (List ℕ)} {t : List ℕ} → x ≡ some t → (y : Option (List ℕ)) → or_else x y ≡ x
unfolding or_else
stays e y = rw e

pub goes_on : {x : Option (List ℕ)} → x ≡ none → (y : Option (List ℕ)) → or_else x y ≡ y
unfolding or_else
goes_on e y = rw e
