-- Order 3: number and move are as before, and each refusal is at exactly the place that its sentence says.
-- Assumes nothing.
use mathlib.Core.Path.{◌≡◌, refl, sym, ap, ◌∙◌}
use mathlib.Core.Bool.{Bool, true, false, not, true≢false}
use mathlib.Core.List.{List, [], ◌∷◌}
use mathlib.Core.Logic.{◌⊎◌, inl, inr}
use Prim.Native.Nat.{ℕ, zero, suc, ◌*◌, ◌/◌, ◌-◌, ◌≤◌, ◌<◌}
use native.Mathlib.Decide.{dec_le}
use native.Mathlib.Omega.{arith}
use lib.Dec.{eqb}
use lib.ListN.{length, get_or}
use borrow.Author.Tests.{eqb-true, eqb-false, ne_eqb, lt-ltb, le-ltb}
use Rattle.answer.specs.declared.Answer.{Answer}
use Rattle.answer.specs.declared.Placed.{Placed}
use Rattle.answer.specs.Answer.{accepted, refused, read_as, fault_at, invalid_square, invalid_uci_move}
use Rattle.answer.specs.Ascii.{ascii}
use Rattle.answer.specs.Numbers.{among}
use Rattle.answer.specs.Numbers.{between}
use Rattle.square.specs.Square.{square_of, read_square, pair_told}
use Rattle.answer.proofs.Below.{agree}
use Rattle.square.proofs.Squares.{read_short}
use Rattle.chess_move.specs.Number.{number_of}
use Rattle.chess_move.specs.Coordinate.{promotion_named, with_dest, with_source, read_move}
use Rattle.chess_move.specs.Base.{base_move}
use Rattle.chess_move.specs.Faults.{GoodUpTo, BadByte, NoPair, BadLetter, EveryTextIsToldWhere}

-- ---- the fifth byte: it is named as a promotion exactly if it is one of the four

far_letter : (b : ℕ) → 114 < b → among b (ascii "qrnb") ≡ not (eqb (promotion_named b) 0)
unfolding among ascii promotion_named
far_letter b h =
    let no : (x : ℕ) → x ≤ 114 → eqb b x ≡ false = λ x k. ne_eqb b x (λ e. omega arith) in
    let on : (x : ℕ) → x ≤ 114 → eqb x b ≡ false = λ x k. ne_eqb x b (λ e. omega arith) in
    simp (
      no 113 (omega arith),
      no 114 (omega arith),
      no 110 (omega arith),
      no 98 (omega arith),
      on 113 (omega arith),
      on 114 (omega arith),
      on 110 (omega arith),
      on 98 (omega arith),
    )

letter_by : (b : ℕ) → Dec (b ≤ 114) → among b (ascii "qrnb") ≡ not (eqb (promotion_named b) 0)
unfolding among ascii promotion_named
letter_by b (yes h) = agree (λ (x : ℕ). among x (ascii "qrnb")) (λ (x : ℕ). not (eqb (promotion_named x) 0)) 115 tt b (omega arith)
letter_by b (no n) = far_letter b (omega arith)

letter : (b : ℕ) → among b (ascii "qrnb") ≡ not (eqb (promotion_named b) 0)
letter b = letter_by b (dec_le b 114)

-- ---- good bytes

module _ (a b : ℕ) (t : List ℕ) (e : between 97 104 a ≡ true) where
  one : GoodUpTo (a ∷ b ∷ t) 1
  one zero h = e
  one (suc k) h = absurd (omega arith)

  two : between 49 56 b ≡ true → GoodUpTo (a ∷ b ∷ t) 2
  two f zero h = e
  two f (suc zero) h = f
  two f (suc (suc k)) h = absurd (omega arith)

module _ (a b c d : ℕ) (t : List ℕ) (e : between 97 104 a ≡ true) (f : between 49 56 b ≡ true) (g : between 97 104 c ≡ true) where
  three : GoodUpTo (a ∷ b ∷ c ∷ d ∷ t) 3
  three zero h = e
  three (suc zero) h = f
  three (suc (suc zero)) h = g
  three (suc (suc (suc k))) h = absurd (omega arith)

  four : between 49 56 d ≡ true → GoodUpTo (a ∷ b ∷ c ∷ d ∷ t) 4
  four w zero h = e
  four w (suc zero) h = f
  four w (suc (suc zero)) h = g
  four w (suc (suc (suc zero))) h = w
  four w (suc (suc (suc (suc k)))) h = absurd (omega arith)

-- ---- the four cases of a text

data Case (s : List ℕ) : Type 0 where
  bad_byte : (at : ℕ) → BadByte s at → read_move s ≡ fault_at invalid_square at → base_move s ≡ refused invalid_square → Case s
  no_pair : NoPair s → read_move s ≡ fault_at invalid_uci_move (length s) → base_move s ≡ refused invalid_uci_move → Case s
  bad_letter : BadLetter s → read_move s ≡ fault_at invalid_uci_move 4 → base_move s ≡ refused invalid_uci_move → Case s
  good : (m : ℕ) → 4 ≤ length s → GoodUpTo s 4 → (length s ≡ 5 → among (get_or s 4 0) (ascii "qrnb") ≡ true)
      → read_move s ≡ read_as m → base_move s ≡ accepted m → Case s

-- the first pair, if it is there
module _ (a b : ℕ) (t : List ℕ) where
  there : 2 ≤ length (a ∷ b ∷ t)
  there = omega arith

  first_file : between 97 104 a ≡ false → Case (a ∷ b ∷ t)
  unfolding read_move with_source read_square pair_told base_move
  first_file e =
      bad_byte 0 (record { of_four = omega arith; pair = omega arith; bad = e; none_before = λ k h. absurd (omega arith) })
      (simp e)
      (simp (le-ltb _ _ there, e))

  first_rank : between 97 104 a ≡ true → between 49 56 b ≡ false → Case (a ∷ b ∷ t)
  unfolding read_move with_source read_square pair_told base_move
  first_rank e f =
      bad_byte 1 (record { of_four = omega arith; pair = omega arith; bad = f; none_before = one a b t e })
      (simp (e, f))
      (simp (le-ltb _ _ there, e, f))

  read_first : between 97 104 a ≡ true → between 49 56 b ≡ true
      → read_move (a ∷ b ∷ t) ≡ with_dest (a ∷ b ∷ t) (square_of (b - 49) (a - 97)) (read_square t)
  unfolding read_move with_source read_square
  read_first e f = simp (e, f)

  no_second : between 97 104 a ≡ true → between 49 56 b ≡ true → length t < 2 → Case (a ∷ b ∷ t)
  unfolding read_move with_source with_dest pair_told base_move
  no_second e f h =
      let short : length (a ∷ b ∷ t) < 4 = omega arith in
      no_pair (record { short = short; none_before = λ k l. two a b t e f k (omega arith) })
      (read_first e f ∙ ap (with_dest (a ∷ b ∷ t) (square_of (b - 49) (a - 97))) (read_short t h))
      (simp (le-ltb _ _ there, e, f, lt-ltb _ _ short))

-- the second pair, behind a good first one
module _ (a b c d : ℕ) (u : List ℕ) (e : between 97 104 a ≡ true) (f : between 49 56 b ≡ true) where
  both_there : 4 ≤ length (a ∷ b ∷ c ∷ d ∷ u)
  both_there = omega arith

  second_file : between 97 104 c ≡ false → Case (a ∷ b ∷ c ∷ d ∷ u)
  unfolding with_dest read_square pair_told base_move
  second_file g =
      bad_byte 2 (record { of_four = omega arith; pair = omega arith; bad = g; none_before = two a b (c ∷ d ∷ u) e f })
      (read_first a b (c ∷ d ∷ u) e f ∙ simp g)
      (simp (le-ltb _ _ (there a b (c ∷ d ∷ u)), e, f, le-ltb _ _ both_there, g))

  second_rank : between 97 104 c ≡ true → between 49 56 d ≡ false → Case (a ∷ b ∷ c ∷ d ∷ u)
  unfolding with_dest read_square pair_told base_move
  second_rank g w =
      bad_byte 3 (record { of_four = omega arith; pair = omega arith; bad = w; none_before = three a b c d u e f g })
      (read_first a b (c ∷ d ∷ u) e f ∙ simp (g, w))
      (simp (le-ltb _ _ (there a b (c ∷ d ∷ u)), e, f, le-ltb _ _ both_there, g, w))

  -- two squares, and what ends the text
  module _ (g : between 97 104 c ≡ true) (w : between 49 56 d ≡ true) where
    x : ℕ
    x = square_of (b - 49) (a - 97)

    y : ℕ
    y = square_of (d - 49) (c - 97)

    p : ℕ
    p = promotion_named (get_or (a ∷ b ∷ c ∷ d ∷ u) 4 0)

    no_fifth : eqb (length (a ∷ b ∷ c ∷ d ∷ u)) 5 ≡ false → Case (a ∷ b ∷ c ∷ d ∷ u)
    unfolding with_dest read_square base_move x y
    no_fifth z =
        good (number_of x y 0) both_there (four a b c d u e f g w) (λ q. absurd (eqb-false _ _ z q))
        (read_first a b (c ∷ d ∷ u) e f ∙ simp (g, w, z))
        (simp (le-ltb _ _ (there a b (c ∷ d ∷ u)), e, f, le-ltb _ _ both_there, g, w, z))

    fifth : (t : Bool) → eqb p 0 ≡ t → eqb (length (a ∷ b ∷ c ∷ d ∷ u)) 5 ≡ true → Case (a ∷ b ∷ c ∷ d ∷ u)
    unfolding with_dest read_square base_move x y p
    fifth true q z =
        bad_letter (record { five = eqb-true _ _ z; none_before = four a b c d u e f g w; bad = letter _ ∙ ap not q })
        (read_first a b (c ∷ d ∷ u) e f ∙ simp (g, w, z, q))
        (simp (le-ltb _ _ (there a b (c ∷ d ∷ u)), e, f, le-ltb _ _ both_there, g, w, z, q))
    fifth false q z =
        good (number_of x y p) both_there (four a b c d u e f g w) (λ l. letter _ ∙ ap not q)
        (read_first a b (c ∷ d ∷ u) e f ∙ simp (g, w, z, q))
        (simp (le-ltb _ _ (there a b (c ∷ d ∷ u)), e, f, le-ltb _ _ both_there, g, w, z, q))

    last_byte : (t : Bool) → eqb (length (a ∷ b ∷ c ∷ d ∷ u)) 5 ≡ t → Case (a ∷ b ∷ c ∷ d ∷ u)
    last_byte true z = fifth (eqb p 0) refl z
    last_byte false z = no_fifth z

  second : (r : Bool) → between 97 104 c ≡ r → (v : Bool) → between 49 56 d ≡ v → Case (a ∷ b ∷ c ∷ d ∷ u)
  second false g v w = second_file g
  second true g false w = second_rank g w
  second true g true w = last_byte g w (eqb (length (a ∷ b ∷ c ∷ d ∷ u)) 5) refl

behind : (a b : ℕ) (t : List ℕ) → between 97 104 a ≡ true → between 49 56 b ≡ true → Case (a ∷ b ∷ t)
behind a b [] e f = no_second a b [] e f (omega arith)
behind a b (c ∷ []) e f = no_second a b (c ∷ []) e f (omega arith)
behind a b (c ∷ d ∷ u) e f = second a b c d u e f (between 97 104 c) refl (between 49 56 d) refl

first : (a b : ℕ) (t : List ℕ) (p : Bool) → between 97 104 a ≡ p → (q : Bool) → between 49 56 b ≡ q → Case (a ∷ b ∷ t)
first a b t false e q f = first_file a b t e
first a b t true e false f = first_rank a b t e f
first a b t true e true f = behind a b t e f

case : (s : List ℕ) → Case s
unfolding read_move with_source read_square pair_told base_move
case [] = no_pair (record { short = omega arith; none_before = λ k h. absurd (omega arith) }) refl refl
case (a ∷ []) = no_pair (record { short = omega arith; none_before = λ k h. absurd (omega arith) }) refl refl
case (a ∷ b ∷ t) = first a b t (between 97 104 a) refl (between 49 56 b) refl

-- ---- each sentence against the case of the text

number : {p q : Placed} → p ≡ q → p.number ≡ q.number
number e = ap (λ (r : Placed). r.number) e

offset : {p q : Placed} → p ≡ q → p.offset ≡ q.offset
offset e = ap (λ (r : Placed). r.offset) e

same_number : {p q : Placed} {a b : Answer} → p ≡ q → a ≡ b → q.number ≡ b.number → p.number ≡ a.number
same_number e f h = number e ∙ h ∙ sym (ap (λ (r : Answer). r.number) f)

same_value : {p q : Placed} {a b : Answer} → p ≡ q → a ≡ b → q.value ≡ b.value → p.value ≡ a.value
same_value e f h = ap (λ (r : Placed). r.value) e ∙ h ∙ sym (ap (λ (r : Answer). r.value) f)

as_before_number : {s : List ℕ} → Case s → (read_move s).number ≡ (base_move s).number
as_before_number (bad_byte at b e f) = same_number e f refl
as_before_number (no_pair n e f) = same_number e f refl
as_before_number (bad_letter l e f) = same_number e f refl
as_before_number (good m h g l e f) = same_number e f refl

as_before_value : {s : List ℕ} → Case s → (read_move s).value ≡ (base_move s).value
as_before_value (bad_byte at b e f) = same_value e f refl
as_before_value (no_pair n e f) = same_value e f refl
as_before_value (bad_letter l e f) = same_value e f refl
as_before_value (good m h g l e f) = same_value e f refl

one_bad : {s : List ℕ} (m n : ℕ) → BadByte s m → BadByte s n → m ≡ n
one_bad m n a b = go (dec_le (suc m) n) (dec_le (suc n) m)
  where
    go : Dec (suc m ≤ n) → Dec (suc n ≤ m) → m ≡ n
    go (yes h) k = absurd (true≢false (sym (b.none_before m h) ∙ a.bad))
    go (no h) (yes k) = absurd (true≢false (sym (a.none_before n k) ∙ b.bad))
    go (no h) (no k) = omega arith

not_there : {s : List ℕ} (at : ℕ) → BadByte s at → NoPair s → ⊥
not_there {s} at b n =
    let within : at < length s / 2 * 2 = omega (arith, b.pair) in
    true≢false (sym (n.none_before at within) ∙ b.bad)

not_good_lem : {s : List ℕ} (at : ℕ) → BadByte s at → GoodUpTo s 4 → ⊥
not_good_lem at b g = true≢false (sym (g at b.of_four) ∙ b.bad)

said_byte : {s : List ℕ} → Case s → (at : ℕ) → BadByte s at → read_move s ≡ fault_at invalid_square at
said_byte (bad_byte at' b' e f) at b = e ∙ ap (fault_at invalid_square) (one_bad at' at b' b)
said_byte (no_pair n e f) at b = absurd (not_there at b n)
said_byte (bad_letter l e f) at b = absurd (not_good_lem at b l.none_before)
said_byte (good m h g l e f) at b = absurd (not_good_lem at b g)

byte_said : {s : List ℕ} → Case s → (read_move s).number ≡ invalid_square → BadByte s (read_move s).offset
byte_said (bad_byte at b e f) z = rw (offset e) b
byte_said (no_pair n e f) z = absurd (omega (arith, number e))
byte_said (bad_letter l e f) z = absurd (omega (arith, number e))
byte_said (good m h g l e f) z = absurd (omega (arith, number e))

said_pair : {s : List ℕ} → Case s → NoPair s → read_move s ≡ fault_at invalid_uci_move (length s)
said_pair (bad_byte at b e f) n = absurd (not_there at b n)
said_pair (no_pair n' e f) n = e
said_pair (bad_letter l e f) n = absurd (omega (arith, l.five, n.short))
said_pair (good m h g l e f) n = absurd (omega (arith, n.short))

said_letter : {s : List ℕ} → Case s → BadLetter s → read_move s ≡ fault_at invalid_uci_move 4
said_letter (bad_byte at b e f) l = absurd (not_good_lem at b l.none_before)
said_letter (no_pair n e f) l = absurd (omega (arith, l.five, n.short))
said_letter (bad_letter l' e f) l = e
said_letter (good m h g k e f) l = absurd (true≢false (sym (k l.five) ∙ l.bad))

three_said : {s : List ℕ} → Case s → (read_move s).number ≡ invalid_uci_move → NoPair s ⊎ BadLetter s
three_said (bad_byte at b e f) z = absurd (omega (arith, number e))
three_said (no_pair n e f) z = inl n
three_said (bad_letter l e f) z = inr l
three_said (good m h g k e f) z = absurd (omega (arith, number e))

at_most_four : {s : List ℕ} → Case s → (read_move s).offset ≤ 4
at_most_four (bad_byte at b e f) = omega (arith, offset e, b.of_four)
at_most_four (no_pair n e f) = omega (arith, offset e, n.short)
at_most_four (bad_letter l e f) = omega (arith, offset e)
at_most_four (good m h g k e f) = omega (arith, offset e)

none_accepted : {s : List ℕ} → Case s → (read_move s).number ≡ 0 → (read_move s).offset ≡ 0
none_accepted (bad_byte at b e f) z = absurd (omega (arith, number e))
none_accepted (no_pair n e f) z = absurd (omega (arith, number e))
none_accepted (bad_letter l e f) z = absurd (omega (arith, number e))
none_accepted (good m h g k e f) z = offset e

pub every_text_is_told_where : EveryTextIsToldWhere
every_text_is_told_where s = record {
  number = as_before_number (case s);
  value = as_before_value (case s);
  byte = said_byte (case s);
  byte_only = byte_said (case s);
  no_pair = said_pair (case s);
  letter = said_letter (case s);
  three_only = three_said (case s);
  most = at_most_four (case s);
  none = none_accepted (case s);
}
