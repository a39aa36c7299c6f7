-- A writer that is lent the rest of a part from some place on writes its bytes over the part there, and so puts its text behind another.
-- Assumes nothing.
use mathlib.Core.Path.{◌≡◌, refl, ◌∙◌}
use mathlib.Core.Bool.{Bool, true, false, cond}
use mathlib.Core.List.{List, [], ◌++◌, append-nil, append_assoc}
use Prim.Native.Nat.{ℕ, ◌+◌, ◌-◌, ◌≤◌}
use native.Mathlib.Omega.{arith}
use lib.ListN.{length, take, drop, length-drop, drop_of_length-le}
use lib.Seq.{take_all, drop-drop, length-take-le}
use lib.Dec.{leb}
use borrow.Author.Tests.{le-leb}
use Rattle.answer.specs.declared.Answer.{Answer}
use Rattle.answer.specs.Answer.{accepted, too_short, write_answer, write_bytes}
use Rattle.answer.specs.Parts.{written}
use Rattle.answer.specs.CodePushed.{Put}
use Rattle.answer.proofs.Parts.{length_written}
use Rattle.answer.proofs.Written.{used_written}

pub put_written : (at check : ℕ) (l bytes w : List ℕ) → check ≡ 0 → at + length bytes ≤ length l
    → w ≡ write_bytes check bytes (take (length l - at) (drop at l)) → take at l ++ (w ++ drop (length l - at) (drop at l)) ≡ written l at bytes
unfolding write_bytes
put_written at check l bytes w passed fits e =
    let long : length (drop at l) ≡ length l - at = length-drop at l in
    let all : take (length l - at) (drop at l) ≡ drop at l = take_all (length l - at) (drop at l) (omega (arith, long)) in
    let short : length (drop at l) ≤ length l - at = omega (arith, long) in
    let none : drop (length l - at) (drop at l) ≡ [] = drop_of_length-le (drop at l) short in
    let room : length bytes ≤ length (drop at l) = omega (arith, long) in
    let wrote : w ≡ bytes ++ drop (length bytes) (drop at l) = e ∙ rw (all, passed, le-leb _ _ room) in
    rw (none, wrote, append-nil, drop-drop (length bytes) at l, append_assoc (take at l) bytes (drop (at + length bytes) l))

-- the length is told whether or not the text fits
value_told : (text : List ℕ) (room : ℕ) → (write_answer 0 text room).value ≡ length text
unfolding write_answer
value_told text room = go (leb (length text) room)
  where
    go : (t : Bool) → (cond t (accepted (length text)) (too_short (length text))).value ≡ length text
    go true = refl
    go false = refl

-- a text put behind n bytes of an array by such a writer
pub put_text : {size : ℕ} (l bytes w : List ℕ) (n room : ℕ) (a : Answer) → length l ≡ size → n + length bytes ≤ size
    → a ≡ write_answer 0 bytes room
    → w ≡ write_bytes 0 bytes (take (length l - n) (drop n l))
    → Put size l n bytes (take n l ++ (w ++ drop (length l - n) (drop n l))) (n + a.value)
put_text {size} l bytes w n room a long fits ea ew =
    let all : take n l ++ (w ++ drop (length l - n) (drop n l)) ≡ written l n bytes = put_written n 0 l bytes w refl (omega arith) ew in
    let front : length (take n l) ≡ n = length-take-le n l (omega arith) in
    let value : a.value ≡ length bytes = rw ea (value_told bytes room) in
    rw (all, value) (record {
      pushed = record { count = refl; bytes = used_written l bytes (take n l) n front refl };
      long = length_written l n bytes (omega arith) ∙ long;
    })
