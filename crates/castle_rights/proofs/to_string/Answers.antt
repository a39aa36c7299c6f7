-- `to_string` of lib.rt meets its contract: r ≡ write_answer (letters_check rights color) (letters_text rights color) (length (now out.entry)); now (out
-- .exit) ≡ write_bytes (letters_check rights color) (letters_text rights color) (now out.entry).
use borrow.Author.Tests.{lt-ltb, le-ltb, eq-eqb, ne_eqb}
use mathlib.Core.Path.{◌≡◌, ◌∙◌}
use native.Mathlib.Omega.{arith}
use Rattle.answer.proofs.Writes.{write_refused}
use Rattle.castle_rights.specs.CastleRights.{letters_of, letters_text, letters_check}
use Rattle.castle_rights.proofs.to_string.Goals as goal

pub returns-then-rights-ge4 : goal.returns-then-rights-ge4
returns-then-rights-ge4 c = let a = c.args in
    let k : letters_check a.rights a.color ≡ 5 = simp (le-ltb _ _ c.if-rights-ge4.true) in
    let w = write_refused 5 (letters_text a.rights a.color) a.out.now (λ e. omega arith) in
    record { answer = rw k (c.refused.ensures ∙ w.answer); bytes = rw k (w.bytes) }

pub returns-then-color-ge2 : goal.returns-then-color-ge2
returns-then-color-ge2 c = let a = c.args in
    let k : letters_check a.rights a.color ≡ 5 = simp (lt-ltb _ _ c.if-rights-ge4.false, le-ltb _ _ c.if-color-ge2.true) in
    let w = write_refused 5 (letters_text a.rights a.color) a.out.now (λ e. omega arith) in
    record { answer = rw k (c.refused-then-color-ge2.ensures ∙ w.answer); bytes = rw k (w.bytes) }

pub returns-then-color-eq0 : goal.returns-then-color-eq0
unfolding letters_text
returns-then-color-eq0 c =
    let a = c.args in
    let rights = c.if-rights-ge4.false in
    let color = c.if-color-ge2.false in
    let h : letters_text a.rights a.color ≡ letters_of 75 81 a.rights = simp (eq-eqb _ _ c.if-color-eq0.true) in
    let k : letters_check a.rights a.color ≡ 0 = simp (lt-ltb _ _ rights, lt-ltb _ _ color) in
    record { answer = rw (h, k) (c.write_letters.ensures.answer); bytes = rw (h, k) (c.write_letters.ensures.bytes) }

pub returns : goal.returns
unfolding letters_text
returns c =
    let a = c.args in
    let rights = c.if-rights-ge4.false in
    let color = c.if-color-ge2.false in
    let h : letters_text a.rights a.color ≡ letters_of 107 113 a.rights = simp (ne_eqb _ _ c.if-color-eq0.false) in
    let k : letters_check a.rights a.color ≡ 0 = simp (lt-ltb _ _ rights, lt-ltb _ _ color) in
    record { answer = rw (h, k) (c.write_letters-2.ensures.answer); bytes = rw (h, k) (c.write_letters-2.ensures.bytes) }
