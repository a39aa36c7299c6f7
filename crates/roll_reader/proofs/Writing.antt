-- The second pass: the actions' bytes over the front of the part.
-- Assumes nothing.
use mathlib.Core.Path.{◌≡◌, refl, ap, sym, ◌∙◌}
use mathlib.Core.Bool.{Bool, true, false, false≢true}
use mathlib.Core.List.{List, [], ◌++◌, append_assoc, append-nil}
use Prim.Native.Nat.{ℕ, ◌+◌, ◌*◌, ◌-◌, ◌≤◌, ◌<◌}
use native.Mathlib.Omega.{arith}
use lib.Dec.{ltb}
use lib.ListN.{length, drop, length-append}
use borrow.Author.Tests.{ltb-true, ltb-false}
use Rattle.answer.specs.Answer.{bad_roll, overwrite}
use Rattle.answer.specs.Parts.{written}
use Rattle.answer.proofs.Parts.{written_none, written_behind, length_written}
use Rattle.roll_text.specs.Roll.{Acts, halted, acts, put_action, read_actions}
use Rattle.roll_text.specs.Calls.{acts_over, is_acts}
use Rattle.roll_reader.proofs.Reading.{end_turn, long_turn}

put_none : (x : Acts) → put_action [] x ≡ x
unfolding put_action
put_none (halted k) = refl
put_none (acts bs) = refl

put_both : (cs bs : List ℕ) (x : Acts) → put_action cs (put_action bs x) ≡ put_action (cs ++ bs) x
unfolding put_action
put_both cs bs (halted k) = refl
put_both cs bs (acts ds) = ap acts (sym (append_assoc cs bs ds))

put_halted : (cs : List ℕ) (k : ℕ) → is_acts (put_action cs (halted k)) ≡ false
unfolding put_action is_acts
put_halted cs k = refl

over_put : (cs part : List ℕ) → acts_over (put_action cs (acts [])) part ≡ overwrite cs part
unfolding put_action acts_over
over_put cs part = rw (append-nil cs)

front_written : (cs part : List ℕ) → written part 0 cs ≡ overwrite cs part
front_written cs part = let z : 0 + length cs ≡ length cs = omega arith in rw z

-- `i` actions are written, and the others are what is left of the text
pub record Wrote (part out s : List ℕ) (n most i left at : ℕ) : Type 0 where
  pub done : List ℕ
  pub long : length done ≡ 4 * i
  pub bytes : out ≡ written part 0 done
  pub left_over : read_actions n most s ≡ put_action done (read_actions (n - i) left (drop at s))

pub wrote_none : (part s : List ℕ) (n most : ℕ) → Wrote part part s n most 0 most 0
wrote_none part s n most =
    let z : n - 0 ≡ n = omega arith in
    record { done = []; long = refl; bytes = written_none part 0; left_over = sym (put_none (read_actions (n - 0) most s) ∙ rw z) }

pub wrote_length : (part out s : List ℕ) (n most i left at : ℕ) → Wrote part out s n most i left at → i ≤ n → 4 * n ≤ length part → length out ≡ length part
wrote_length part out s n most i left at w h fits = ap length w.bytes ∙ length_written part 0 w.done (omega (arith, w.long))

pub wrote_more : (part out new s : List ℕ) (n most i left at other further : ℕ) (bs : List ℕ) → Wrote part out s n most i left at → length bs ≡ 4 → i <
    n → 4 * n ≤ length part
    → read_actions (n - i) left (drop at s) ≡ put_action bs (read_actions (n - i - 1) other (drop further s)) → new ≡ written out (4 * i) bs
    → Wrote part new s n most (i + 1) other further
wrote_more part out new s n most i left at other further bs w four h fits e f =
    let z : n - i - 1 ≡ n - (i + 1) = omega arith in
    record {
      done = w.done ++ bs;
      long = length-append w.done bs ∙ omega (arith, w.long);
      bytes =
          f ∙ ap (λ (l : List ℕ). written l (4 * i) bs) w.bytes
          ∙ written_behind part 0 w.done (omega (arith, w.long)) (4 * i) bs (omega (arith, w.long)) (omega arith);
      left_over =
          w.left_over ∙ ap (put_action w.done) e ∙ put_both w.done bs (read_actions (n - i - 1) other (drop further s))
          ∙ ap (λ (m : ℕ). put_action (w.done ++ bs) (read_actions m other (drop further s))) z;
    }

pub wrote_stopped : (part out s : List ℕ) (n most i left at k : ℕ) → Wrote part out s n most i left at → is_acts (read_actions n most s) ≡ true
    → read_actions (n - i) left (drop at s) ≡ halted k → ⊥
wrote_stopped part out s n most i left at k w e f =
    false≢true (sym (ap is_acts (w.left_over ∙ ap (put_action w.done) f) ∙ put_halted w.done k) ∙ e)

pub wrote_all : (part out s : List ℕ) (n most i left at : ℕ) → Wrote part out s n most i left at → n ≤ i → is_acts (read_actions n most s) ≡ true
    → out ≡ acts_over (read_actions n most s) part
wrote_all part out s n most i left at w h e = by (ltb at (length s)) refl
  where
    z : n - i ≡ 0
    z = omega arith

    over : (x : Acts) → read_actions 0 left (drop at s) ≡ x → read_actions (n - i) left (drop at s) ≡ x
    over x f = ap (λ (m : ℕ). read_actions m left (drop at s)) z ∙ f

    by : (t : Bool) → ltb at (length s) ≡ t → out ≡ acts_over (read_actions n most s) part
    by true f = absurd (wrote_stopped part out s n most i left at bad_roll w e (over (halted bad_roll) (long_turn left at s (ltb-true at (length s) f))))
    by false f =
        w.bytes
        ∙ front_written w.done part
        ∙ sym (ap (λ (x : Acts). acts_over x part) (w.left_over ∙ ap (put_action w.done) (over (acts []) (end_turn left at s (ltb-false at (length s)
        f)))) ∙ over_put w.done part)
