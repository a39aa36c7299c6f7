-- Every run is the whole: a page call takes whole lines from the front of what is held, and pages one after the other are answered like both joined.
-- Assumes nothing.
use mathlib.Core.Path.{◌≡◌, refl, sym, ap, subst, ◌∙◌}
use mathlib.Core.Bool.{Bool, true, false}
use mathlib.Core.List.{List, [], ◌∷◌, ◌++◌, append-nil, append_assoc}
use Prim.Native.Nat.{ℕ, suc, ◌+◌, ◌-◌, ◌≤◌, ◌<◌}
use native.Mathlib.Omega.{arith}
use native.Mathlib.Decide.{dec_le}
use lib.Dec.{eqb, leb}
use lib.ListN.{length, take, drop, get_or, length-append, drop_of_length-le, take-append-drop}
use lib.Seq.{take_all, take-suc, take-add, drop-drop, length-take-le}
use borrow.Author.Tests.{eqb-true, le-leb}
use Rattle.fen_text.specs.Token.{place_of, place_where, place_after, onto, joined}
use Rattle.fen_text.specs.Lines.{line_feed, lines, ended_lines, over_lines}
use Rattle.fen_text.proofs.Lines.{lines_next, ended_next, ended_none, lines_behind, over_append}
use Rattle.key_line.specs.KeyLine.{key_line}
use Rattle.key_line.specs.KeyPage.{keys_text, longest_line, going, bytes_of}
use Rattle.key_line.specs.Runs.{put_out, Run, EveryRunIsTheWhole, TakesAllThatHavePlace, WhatIsLeftIsOneLine}

-- ---- texts of whole lines

data Whole : List ℕ → Type 0 where
  nothing : Whole []
  to_newline : (front : List ℕ) → Whole (front ++ (line_feed ∷ []))

said_behind : (a b : List ℕ) → Whole a → keys_text (a ++ b) ≡ keys_text a ++ keys_text b
unfolding keys_text lines over_lines
said_behind [] b nothing = refl
said_behind (_) b (to_newline front) =
    ap (over_lines key_line) (lines_behind front b) ∙ over_append key_line (lines (front ++ (line_feed ∷ []))) (lines b)

whole_append : (a b : List ℕ) → Whole a → Whole b → Whole (a ++ b)
whole_append a (_) w nothing = subst Whole (sym (append-nil a)) w
whole_append a (_) w (to_newline front) = subst Whole (append_assoc a front (line_feed ∷ [])) (to_newline (a ++ front))

-- ---- the first line that is ended: its newline, and that it is alone

byte_step : (t : Bool) (x k : ℕ) (s : List ℕ) → eqb x line_feed ≡ t → (k < length s → get_or s k 0 ≡ line_feed) → place_after t k < suc (length s)
    → get_or (x ∷ s) (place_after t k) 0 ≡ line_feed
unfolding place_after
byte_step true x k s e f h = eqb-true x line_feed e
byte_step false x k s e f h = f (omega arith)

place_byte_lem : (s : List ℕ) → place_of line_feed s < length s → get_or s (place_of line_feed s) 0 ≡ line_feed
unfolding place_where
place_byte_lem [] h = absurd (omega arith)
place_byte_lem (x ∷ s) h = byte_step (eqb x line_feed) x (place_of line_feed s) s refl (place_byte_lem s) h

alone_step : (t : Bool) (x k : ℕ) (s : List ℕ) → (k < length s → lines (take (suc k) s) ≡ take k s ∷ []) → place_after t k < suc (length s)
    → joined t x (lines (take (place_after t k) s)) ≡ take (place_after t k) (x ∷ s) ∷ []
unfolding place_after joined onto lines
alone_step true x k s f h = refl
alone_step false x k s f h = ap (onto x) (f (omega arith))

first_alone : (s : List ℕ) → place_of line_feed s < length s → lines (take (suc (place_of line_feed s)) s) ≡ take (place_of line_feed s) s ∷ []
unfolding place_where lines
first_alone [] h = absurd (omega arith)
first_alone (x ∷ s) h = alone_step (eqb x line_feed) x (place_of line_feed s) s (first_alone s) h

-- ---- some of the ended lines, from the front: they are the lines of the bytes that they take, and the others are left

record Fronted (s : List ℕ) (gone rest : List (List ℕ)) : Type 0 where
  whole : Whole (take (bytes_of gone) s)
  these : lines (take (bytes_of gone) s) ≡ gone
  others : ended_lines (drop (bytes_of gone) s) ≡ rest

fronted_more : (l s : List ℕ) (gone rest : List (List ℕ)) → place_of line_feed s < length s → l ≡ take (place_of line_feed s) s
    → Fronted (drop (suc (place_of line_feed s)) s) gone rest → Fronted s (l ∷ gone) rest
unfolding bytes_of
fronted_more l s gone rest h e f =
    let p : ℕ = place_of line_feed s in
    let b : ℕ = bytes_of gone in
    let long : length l ≡ p = ap length e ∙ length-take-le p s (omega arith) in
    let all : length l + 1 + b ≡ suc p + b = omega arith in
    let first : take (suc p) s ≡ take p s ++ (line_feed ∷ []) =
    take-suc s p 0 h ∙ ap (λ (x : ℕ). take p s ++ (x ∷ [])) (place_byte_lem s h) in
    let parts : take (length l + 1 + b) s ≡ take (suc p) s ++ take b (drop (suc p) s) = ap (λ (k : ℕ). take k s) all ∙ take-add (suc p) b s in
    let parts' : take (length l + 1 + b) s ≡ (take p s ++ (line_feed ∷ [])) ++ take b (drop (suc p) s) =
    parts ∙ ap (λ (x : List ℕ). x ++ take b (drop (suc p) s)) first in
    let one : lines (take p s ++ (line_feed ∷ [])) ≡ l ∷ [] = ap lines (sym first) ∙ first_alone s h ∙ ap (λ (x : List ℕ). x ∷ []) (sym e) in
    record {
      whole = subst Whole (sym parts') (whole_append (take p s ++ (line_feed ∷ [])) (take b (drop (suc p) s)) (to_newline (take p s)) f.whole);
      these =
          ap lines parts'
          ∙ lines_behind (take p s) (take b (drop (suc p) s))
          ∙ ap (λ (ls : List (List ℕ)). ls ++ lines (take b (drop (suc p) s))) one
          ∙ ap (λ (ls : List (List ℕ)). l ∷ ls) f.these;
      others =
          ap (λ (k : ℕ). ended_lines (drop k s)) all
          ∙ ap ended_lines (sym (drop-drop b (suc p) s))
          ∙ f.others;
    }

head_is : (l m : List ℕ) (ls ms : List (List ℕ)) → l ∷ ls ≡ m ∷ ms → l ≡ m
head_is l m ls ms e = cc

tail_is : (l m : List ℕ) (ls ms : List (List ℕ)) → l ∷ ls ≡ m ∷ ms → ls ≡ ms
tail_is l m ls ms e = cc

none_is_no_line : (l : List ℕ) (ls : List (List ℕ)) → [] ≡ l ∷ ls → ⊥
none_is_no_line l ls e = let z : ◌≡◌ {A = ℕ} 0 1 = cc in omega arith

fronted : (gone rest : List (List ℕ)) (s : List ℕ) → ended_lines s ≡ gone ++ rest → Fronted s gone rest
unfolding bytes_of lines
fronted [] rest s e = record { whole = nothing; these = refl; others = e }
fronted (l ∷ gone) rest s e =
    go (dec_le (length s) (place_of line_feed s)) (λ f. fronted gone rest (drop (suc (place_of line_feed s)) s) f)
  where
    Left : Type 0
    Left = ended_lines (drop (suc (place_of line_feed s)) s) ≡ gone ++ rest → Fronted (drop (suc (place_of line_feed s)) s) gone rest

    go : Dec (length s ≤ place_of line_feed s) → Left → Fronted s (l ∷ gone) rest
    go (yes h) more = absurd (none_is_no_line l (gone ++ rest) (sym (ended_none s h) ∙ e))
    go (no n) more =
        let h : place_of line_feed s < length s = omega arith in
        let f : take (place_of line_feed s) s ∷ ended_lines (drop (suc (place_of line_feed s)) s) ≡ l ∷ (gone ++ rest) = sym (ended_next s h) ∙ e in
        fronted_more l s gone rest h (sym (head_is _ _ _ _ f)) (more (tail_is _ _ _ _ f))

-- ---- those that go out are some from the front, and all if there is space behind them

going_front : (room : ℕ) (ls : List (List ℕ)) → (rest : List (List ℕ)) × (ls ≡ going room ls ++ rest)
unfolding going
going_front room [] = ([], refl)
going_front room (l ∷ ls) = go (leb longest_line room) refl (going_front (room - length (key_line l)) ls)
  where
    go : (t : Bool) → leb longest_line room ≡ t
        → (rest : List (List ℕ)) × (ls ≡ going (room - length (key_line l)) ls ++ rest)
        → (rest : List (List ℕ)) × (l ∷ ls ≡ going room (l ∷ ls) ++ rest)
    go true e (rest, f) = (rest, simp e (ap (λ (x : List (List ℕ)). l ∷ x) f))
    go false e f = (l ∷ ls, simp e)

going_all : (room : ℕ) (ls : List (List ℕ)) → length (over_lines key_line (going room ls)) + longest_line ≤ room → going room ls ≡ ls
unfolding going over_lines
going_all room [] h = refl
going_all room (l ∷ ls) h = go (dec_le longest_line room) (going_all (room - length (key_line l)) ls)
  where
    left : ℕ
    left = room - length (key_line l)

    go : Dec (longest_line ≤ room) → (length (over_lines key_line (going left ls)) + longest_line ≤ left → going left ls ≡ ls)
        → going room (l ∷ ls) ≡ l ∷ ls
    go (no n) more = absurd (omega arith)
    go (yes k) more =
        let goes : going room (l ∷ ls) ≡ l ∷ going (room - length (key_line l)) ls = simp (le-leb _ _ k) in
        let long : length (over_lines key_line (going room (l ∷ ls)))
        ≡ length (key_line l) + length (over_lines key_line (going (room - length (key_line l)) ls)) =
        ap (λ (x : List (List ℕ)). length (over_lines key_line x)) goes
        ∙ length-append (key_line l) (over_lines key_line (going (room - length (key_line l)) ls)) in
        goes ∙ ap (λ (x : List (List ℕ)). l ∷ x) (more (omega arith))

pub takes_all_that_have_place : TakesAllThatHavePlace
takes_all_that_have_place s room h =
    let all : going room (ended_lines s) ≡ ended_lines s = going_all room (ended_lines s) h in
    (fronted (going room (ended_lines s)) [] s (sym all ∙ sym (append-nil (going room (ended_lines s))))).others

-- ---- a run

record Split (input output held : List ℕ) : Type 0 where
  front : List ℕ
  parts : input ≡ front ++ held
  whole : Whole front
  said : output ≡ keys_text front

split : (input output held : List ℕ) → Run input output held → Split input output held
unfolding keys_text lines over_lines
split (_) (_) (_) Run.begins = record { front = []; parts = refl; whole = nothing; said = refl }
split (_) (_) (_) (Run.comes some input output held r) =
    let q = split input output held r in
    record {
      front = q.front;
      parts = ap (λ (x : List ℕ). x ++ some) q.parts ∙ append_assoc q.front held some;
      whole = q.whole;
      said = q.said;
    }
split (_) (_) (_) (Run.goes room input output held r) =
    let q = split input output held r in
    let g = going_front room (ended_lines held) in
    let f = fronted (going room (ended_lines held)) g.0 held g.1 in
    let n : ℕ = bytes_of (going room (ended_lines held)) in
    let both : take n held ++ drop n held ≡ held = take-append-drop n held in
    record {
      front = q.front ++ take n held;
      parts = q.parts ∙ ap (λ (x : List ℕ). q.front ++ x) (sym both) ∙ sym (append_assoc q.front (take n held) (drop n held));
      whole = whole_append q.front (take n held) q.whole f.whole;
      said =
          ap (λ (x : List ℕ). x ++ put_out held room) q.said
          ∙ ap (λ (x : List (List ℕ)). keys_text q.front ++ over_lines key_line x) (sym f.these)
          ∙ sym (said_behind q.front (take n held) q.whole);
    }

pub every_run_is_the_whole : EveryRunIsTheWhole
every_run_is_the_whole input output held r =
    let q = split input output held r in
    ap (λ (x : List ℕ). x ++ keys_text held) q.said ∙ sym (said_behind q.front held q.whole) ∙ ap keys_text (sym q.parts)

pub what_is_left_is_one_line : WhatIsLeftIsOneLine
unfolding keys_text over_lines lines
what_is_left_is_one_line held e = record {
  none = λ z. none z;
  one = λ h. one h (dec_le (length held) (place_of line_feed held));
}
  where
    none : length held ≡ 0 → keys_text held ≡ []
    none z = let x : held ≡ [] = sym (take_all 0 held (omega arith)) in ap keys_text x

    one : 0 < length held → Dec (length held ≤ place_of line_feed held) → keys_text held ≡ key_line held
    one h (no n) = absurd (none_is_no_line _ _ (sym e ∙ ended_next held (omega arith)))
    one h (yes k) =
        let p : ℕ = place_of line_feed held in
        let this : lines held ≡ held ∷ [] =
        lines_next held h
        ∙ ap (λ (x : List ℕ). x ∷ lines (drop (suc p) held)) (take_all p held k)
        ∙ ap (λ (x : List ℕ). held ∷ lines x) (drop_of_length-le held {i = suc p} (omega arith)) in
        ap (over_lines key_line) this ∙ append-nil (key_line held)
