-- What the call answers, by what the roll reader answers: the first refusal, or otherwise the text of two games that are read.
-- Assumes nothing.
use mathlib.Core.Path.{◌≡◌, refl, ap, ap₂, sym, ◌∙◌}
use mathlib.Core.Bool.{Bool, true, false}
use mathlib.Core.List.{List}
use Prim.Native.Nat.{ℕ}
use native.Mathlib.Omega.{arith}
use lib.Dec.{leb}
use lib.ListN.{length}
use borrow.Author.Tests.{eq-eqb, ne_eqb}
use Rattle.answer.specs.Answer.{write_answer, write_bytes}
use Rattle.answer.proofs.Writes.{write_refused}
use Rattle.game_rules.specs.Limits.{Limits}
use Rattle.game_rules.specs.Rules.{first_refusal}
use Rattle.roll_text.specs.Roll.{Start, Rolled, rolled, read_roll}
use Rattle.roll_text.specs.Calls.{roll_answer}
use Rattle.differences_text.specs.Differences.{lines_text}
use Rattle.differences_text.specs.Calls.{differences, differences_check, differences_text}
use Rattle.differences_text.specs.Promises.{teller, reader_number, BothRead, FirstRollFirst, ThenTheSecond, NoLonger}
use Rattle.differences_text.specs.Promises.{LimitsHaveFourDigits}
use Rattle.differences_text.proofs.Games.{Read, read_roll_lem, lines_within, number_read, is_rolled}

module _ (L : Limits) (s t : List ℕ) where
  pub first_told : ((roll_answer (read_roll L s)).number ≡ 0 → ⊥) → differences_check L s t ≡ (roll_answer (read_roll L s)).number
  unfolding differences_check first_refusal
  first_told h = simp (ne_eqb _ _ h)

  pub second_told : (roll_answer (read_roll L s)).number ≡ 0 → ((roll_answer (read_roll L t)).number ≡ 0 → ⊥)
      → differences_check L s t ≡ (roll_answer (read_roll L t)).number
  unfolding differences_check first_refusal
  second_told e h = simp (eq-eqb _ _ e, ne_eqb _ _ h)

  pub both_pass : (roll_answer (read_roll L s)).number ≡ 0 → (roll_answer (read_roll L t)).number ≡ 0 → differences_check L s t ≡ 0
  unfolding differences_check first_refusal
  both_pass e f = simp (eq-eqb _ _ e, eq-eqb _ _ f)

pub first_roll_first : FirstRollFirst
first_roll_first L s t out h =
    let same = number_read L s in
    let told = first_told L s t (λ z. h (same ∙ z)) in
    let check : differences_check L s t ≡ reader_number L s = told ∙ sym same in
    let w = write_refused (reader_number L s) (differences_text L s t) out h in
    record {
      answer = ap (λ (k : ℕ). write_answer k (differences_text L s t) (length out)) check ∙ sym w.answer;
      unchanged = ap (λ (k : ℕ). write_bytes k (differences_text L s t) out) check ∙ sym w.bytes;
    }

pub then_the_second : ThenTheSecond
then_the_second L s t out e h =
    let same = number_read L t in
    let told = second_told L s t (sym (number_read L s) ∙ e) (λ z. h (same ∙ z)) in
    let check : differences_check L s t ≡ reader_number L t = told ∙ sym same in
    let w = write_refused (reader_number L t) (differences_text L s t) out h in
    record {
      answer = ap (λ (k : ℕ). write_answer k (differences_text L s t) (length out)) check ∙ sym w.answer;
      unchanged = ap (λ (k : ℕ). write_bytes k (differences_text L s t) out) check ∙ sym w.bytes;
    }

-- ---- both are read

-- the two games, and the text of their lines
pub record Games (L : Limits) (s t : List ℕ) : Type 0 where
  pub st : Start
  pub n : ℕ
  pub bs : List ℕ
  pub other : Start
  pub m : ℕ
  pub cs : List ℕ
  pub first : Read L s st n bs
  pub second : Read L t other m cs
  pub passes : differences_check L s t ≡ 0
  pub text : differences_text L s t ≡ lines_text (differences (rolled st n bs) (rolled other m cs))

pub games : (L : Limits) (s t : List ℕ) → BothRead L s t → Games L s t
unfolding differences_text
games L s t both =
    let a = is_rolled L s both.first in
    let b = is_rolled L t both.second in
    record {
      st = a.start;
      n = a.count;
      bs = a.actions;
      other = b.start;
      m = b.count;
      cs = b.actions;
      first = read_roll_lem L s a.start a.count a.actions both.first_bytes a.is;
      second = read_roll_lem L t b.start b.count b.actions both.second_bytes b.is;
      passes = both_pass L s t (sym (number_read L s) ∙ both.first) (sym (number_read L t) ∙ both.second);
      text = ap₂ (λ (x y : Rolled). lines_text (differences x y)) a.is b.is;
    }

value_of : (text : List ℕ) (room : ℕ) → (write_answer 0 text room).value ≡ length text
unfolding write_answer
value_of text room = go (leb (length text) room) refl
  where
    go : (b : Bool) → leb (length text) room ≡ b → (write_answer 0 text room).value ≡ length text
    go true e = simp e
    go false e = simp e

-- the value is the length of the text, whether it fits or not
pub value_told : (L : Limits) (s t : List ℕ) (room : ℕ) → differences_check L s t ≡ 0 → ((teller L).answer s t room).value ≡ length (differences_text L s t)
value_told L s t room e = ap (λ (k : ℕ). (write_answer k (differences_text L s t) room).value) e ∙ value_of (differences_text L s t) room

pub no_longer : NoLonger
no_longer L s t room few both =
    let g = games L s t both in
    let h = lines_within L s g.st g.n g.bs t g.other g.m g.cs few g.first g.second in
    omega (arith, value_told L s t room g.passes, ap length g.text, h)

pub limits_have_four_digits : LimitsHaveFourDigits
limits_have_four_digits = omega arith
