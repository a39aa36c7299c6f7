-- `write_letters` of lib.rt meets its contract: r ≡ write_answer 0 (letters_of king queen rights) (length (now out.entry)); now out.exit ≡ write_bytes 0
-- (letters_of king queen rights) (now out.entry).
use mathlib.Core.Path.{◌≡◌, ap}
use mathlib.Core.List.{[], ◌∷◌}
use native.Mathlib.Omega.{arith}
use Rattle.castle_rights.specs.CastleRights.{letters_of}
use Rattle.castle_rights.proofs.write_letters.Goals as goal

pub returns-in-1 : goal.returns-in-1
unfolding letters_of
returns-in-1 c =
    let a = c.args in
    let rights = c.in-1.is in
    let h : letters_of a.king a.queen a.rights ≡ (a.king ∷ []) = ap (letters_of a.king a.queen) rights in
    record { answer = rw h (c.write_text.ensures.answer); bytes = rw h (c.write_text.ensures.bytes) }

pub returns-in-2 : goal.returns-in-2
unfolding letters_of
returns-in-2 c =
    let a = c.args in
    let rights = c.in-2.is in
    let h : letters_of a.king a.queen a.rights ≡ (a.queen ∷ []) = ap (letters_of a.king a.queen) rights in
    record { answer = rw h (c.write_text-in-2.ensures.answer); bytes = rw h (c.write_text-in-2.ensures.bytes) }

pub returns-in-3 : goal.returns-in-3
unfolding letters_of
returns-in-3 c =
    let a = c.args in
    let rights = c.in-3.is in
    let h : letters_of a.king a.queen a.rights ≡ (a.king ∷ a.queen ∷ []) = ap (letters_of a.king a.queen) rights in
    record { answer = rw h (c.write_text-in-3.ensures.answer); bytes = rw h (c.write_text-in-3.ensures.bytes) }

pub returns-in_default : goal.returns-in_default
unfolding letters_of
returns-in_default c =
    let a = c.args in
    let none : a.rights ≡ 0 = omega (arith, c.in_default.in_default-own.rest) in
    let h : letters_of a.king a.queen a.rights ≡ [] = ap (letters_of a.king a.queen) (none) in
    record { answer = rw h (c.write_text-in_default.ensures.answer); bytes = rw h (c.write_text-in_default.ensures.bytes) }
