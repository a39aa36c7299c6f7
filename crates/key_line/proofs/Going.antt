-- A page taken line by line: what has gone out, and the lines that are left. And laws of the lines that go out into a room.
-- Assumes nothing.
use mathlib.Core.Path.{◌≡◌, refl, sym, ap, ◌∙◌}
use mathlib.Core.Bool.{Bool, true, false, not, cond}
use Rattle.std.specs.Int.{from_bool}
use mathlib.Core.List.{List, [], ◌∷◌, ◌++◌, append-nil, append_assoc}
use Prim.Native.Nat.{ℕ, suc, ◌+◌, ◌-◌, ◌≤◌, ◌<◌}
use native.Mathlib.Omega.{arith}
use lib.ListN.{length, take, drop, length-append, length-drop}
use lib.Seq.{drop-drop, length-take-le}
use borrow.Author.Tests.{le-leb, lt-leb}
use Rattle.answer.specs.Answer.{overwrite}
use Rattle.answer.specs.Parts.{written}
use Rattle.answer.proofs.Parts.{written_behind, length_written}
use Rattle.answer.proofs.Overwrites.{from_front}
use Rattle.fen_text.specs.Token.{place_of}
use Rattle.fen_text.specs.Lines.{line_feed, line_end, ended_lines, over_lines}
use Rattle.fen_text.proofs.Cases.{cond_both}
use Rattle.fen_text.proofs.Lines.{ended_next, ended_none, over_append}
use Rattle.key_line.specs.declared.Lined.{Lined}
use Rattle.key_line.specs.declared.page.Paged.{Paged}
use Rattle.key_line.specs.KeyLine.{key_line}
use Rattle.key_line.specs.KeyPage.{longest_line, is_key, lined_at, going, bytes_of, keys_among, paged_of, key_page, key_room}

-- ---- sums over lines

pub bytes_append : (xs ys : List (List ℕ)) → bytes_of (xs ++ ys) ≡ bytes_of xs + bytes_of ys
unfolding bytes_of
bytes_append [] ys = omega arith
bytes_append (x ∷ xs) ys = omega (arith, bytes_append xs ys)

keys_append : (xs ys : List (List ℕ)) → keys_among (xs ++ ys) ≡ keys_among xs + keys_among ys
unfolding keys_among
keys_append [] ys = omega arith
keys_append (x ∷ xs) ys = omega (arith, keys_append xs ys)

one_at_most : (l : List ℕ) → cond (is_key l) 1 0 ≤ 1
one_at_most l = cond_both (λ (n : ℕ). n ≤ 1) (is_key l) (omega arith) (omega arith)

pub at_most_one : (t : Bool) → from_bool t ≤ 1
at_most_one true = omega arith
at_most_one false = omega arith

-- a line counts on one side or on the other
counted : (t : Bool) → (from_bool t ≡ cond t 1 0) × (from_bool (not t) ≡ 1 - cond t 1 0)
counted true = (refl, refl)
counted false = (refl, refl)

keys_within : (ls : List (List ℕ)) → keys_among ls ≤ length ls
unfolding keys_among
keys_within [] = omega arith
keys_within (l ∷ ls) = omega (arith, one_at_most l, keys_within ls)

lines_within : (ls : List (List ℕ)) → length ls ≤ bytes_of ls
unfolding bytes_of
lines_within [] = omega arith
lines_within (l ∷ ls) = omega (arith, lines_within ls)

-- ---- which lines go: none into a short room, one more into a room with space for it

pub none_goes : (room : ℕ) (ls : List (List ℕ)) → room < longest_line → going room ls ≡ []
unfolding going
none_goes room [] h = refl
none_goes room (l ∷ ls) h = simp (lt-leb _ _ h)

one_goes : (room : ℕ) (l : List ℕ) (ls : List (List ℕ)) → longest_line ≤ room → going room (l ∷ ls) ≡ l ∷ going (room - length (key_line l)) ls
unfolding going
one_goes room l ls h = simp (le-leb _ _ h)

-- ---- so far

pub record Gone (text out₀ out : List ℕ) (taken ready accepted refused : ℕ) : Type 0 where
  pub gone : List (List ℕ)
  pub left : going (length out₀) (ended_lines text) ≡ gone ++ going (length out₀ - ready) (ended_lines (drop taken text))
  pub bytes_in : taken ≡ bytes_of gone
  pub bytes_out : ready ≡ length (over_lines key_line gone)
  pub keys : accepted ≡ keys_among gone
  pub others : refused ≡ length gone - keys_among gone
  pub room : out ≡ overwrite (over_lines key_line gone) out₀
  pub long : length out ≡ length out₀
  pub within : ready ≤ length out₀
  pub inside : taken ≤ length text

pub none_yet : (text out : List ℕ) → Gone text out out 0 0 0 0
unfolding bytes_of keys_among over_lines
none_yet text out = record {
  gone = [];
  left = let e : length out - 0 ≡ length out = omega arith in rw e;
  bytes_in = refl;
  bytes_out = refl;
  keys = refl;
  others = refl;
  room = refl;
  long = refl;
  within = omega arith;
  inside = omega arith;
}

paged : (t r a o t' r' a' o' : ℕ) → t ≡ t' → r ≡ r' → a ≡ a' → o ≡ o'
    → ◌≡◌ {A = Paged} (record { taken = t; ready = r; accepted = a; refused = o }) (record { taken = t'; ready = r'; accepted = a'; refused = o' })
paged t r a o t' r' a' o' e f g h = rw (e, f, g, h)

-- no more goes: what has gone is the page
module _ (text out₀ out : List ℕ) (taken ready accepted refused : ℕ) (g : Gone text out₀ out taken ready accepted refused)
    (none : going (length out₀ - ready) (ended_lines (drop taken text)) ≡ []) where
  all_gone : going (length out₀) (ended_lines text) ≡ g.gone
  all_gone = g.left ∙ ap (λ (ls : List (List ℕ)). g.gone ++ ls) none ∙ append-nil g.gone

  pub page_answer : ◌≡◌ {A = Paged} (record { taken = taken; ready = ready; accepted = accepted; refused = refused }) (key_page text (length out₀))
  page_answer =
      paged taken ready accepted refused _ _ _ _ g.bytes_in g.bytes_out g.keys g.others ∙ ap paged_of (sym all_gone)

  pub page_room : out ≡ key_room text out₀
  page_room = g.room ∙ ap (λ (ls : List (List ℕ)). overwrite (over_lines key_line ls) out₀) (sym all_gone)

-- it ends where no line that is left is ended, or where there is no space
pub left_unended : (text : List ℕ) (taken end room : ℕ) → taken ≤ length text → end ≡ line_end text taken → length text ≤ end
    → going room (ended_lines (drop taken text)) ≡ []
unfolding going
left_unended text taken end room h e k =
    let past : length (drop taken text) ≤ place_of line_feed (drop taken text) = rw (length-drop taken text) (omega arith) in
    ap (going room) (ended_none (drop taken text) past)

-- ---- one more line

module _ (text out₀ out : List ℕ) (taken ready accepted refused end : ℕ) (put : Lined) (out' : List ℕ)
    (g : Gone text out₀ out taken ready accepted refused) (place : longest_line ≤ length out - ready) (e : end ≡ line_end text taken) (k : end < length text)
    (p : put ≡ lined_at ready (take (end - taken) (drop taken text))) (short : length (key_line (take (end - taken) (drop taken text))) ≤ longest_line)
    (o : out' ≡ written out ready (key_line (take (end - taken) (drop taken text)))) where
  this : List ℕ
  this = take (end - taken) (drop taken text)

  this_long : length (take (end - taken) (drop taken text)) ≡ end - taken
  this_long = length-take-le (end - taken) (drop taken text) (rw (length-drop taken text) (omega arith))

  next_ended : ended_lines (drop taken text) ≡ take (end - taken) (drop taken text) ∷ ended_lines (drop (end + 1) text)
  next_ended =
      let at : place_of line_feed (drop taken text) ≡ end - taken = omega arith in
      let in_it : place_of line_feed (drop taken text) < length (drop taken text) = rw (length-drop taken text) (omega (arith, g.inside)) in
      let n : taken + suc (place_of line_feed (drop taken text)) ≡ end + 1 = omega arith in
      ended_next (drop taken text) in_it
      ∙ ap (λ (i : ℕ). take i (drop taken text) ∷ ended_lines (drop (suc (place_of line_feed (drop taken text))) (drop taken text))) at
      ∙ ap (λ (l : List ℕ). take (end - taken) (drop taken text) ∷ ended_lines l)
      (drop-drop (suc (place_of line_feed (drop taken text))) taken text ∙ ap (λ (i : ℕ). drop i text) n)

  pub put_ready : put.ready ≡ ready + length (key_line (take (end - taken) (drop taken text)))
  put_ready = ap (λ (x : Lined). x.ready) p

  pub put_key : put.accepted ≡ is_key (take (end - taken) (drop taken text))
  put_key = ap (λ (x : Lined). x.accepted) p

  -- what is counted fits, since each line has a byte of the text
  pub counts_fit : (accepted + 1 ≤ length text) × (refused + 1 ≤ length text)
  counts_fit =
      let a = keys_within g.gone in
      let b = lines_within g.gone in
      (omega (arith, g.keys, g.bytes_in), omega (arith, g.others, g.bytes_in))

  pub one_more_lem : (x y : ℕ) → x ≡ from_bool put.accepted → y ≡ from_bool (not put.accepted)
      → Gone text out₀ out' (end + 1) put.ready (accepted + x) (refused + y)
  unfolding bytes_of keys_among over_lines
  one_more_lem x y ex ey =
      let yes : x ≡ cond (is_key (take (end - taken) (drop taken text))) 1 0 = ex ∙ (counted put.accepted).0 ∙ ap (λ (t : Bool). cond t 1 0) put_key in
      let no : y ≡ 1 - cond (is_key (take (end - taken) (drop taken text))) 1 0 = ey ∙ (counted put.accepted).1 ∙ ap (λ (t : Bool). 1 - cond t 1 0) put_key in
      let l : List ℕ = take (end - taken) (drop taken text) in
      let place₀ : longest_line ≤ length out₀ - ready = omega (arith, g.long) in
      let goes = one_goes (length out₀ - ready) l (ended_lines (drop (end + 1) text)) place₀ in
      let room_left : length out₀ - ready - length (key_line l) ≡ length out₀ - put.ready = omega (arith, put_ready) in
      let said : over_lines key_line (g.gone ++ (l ∷ [])) ≡ over_lines key_line g.gone ++ key_line l =
      over_append key_line g.gone (l ∷ []) ∙ ap (λ (x : List ℕ). over_lines key_line g.gone ++ x) (append-nil (key_line l)) in
      let bytes = bytes_append g.gone (l ∷ []) in
      let keys_of = keys_append g.gone (l ∷ []) in
      let many = length-append g.gone (l ∷ []) in
      let few = keys_within g.gone in
      let one = one_at_most l in
      let fits : 0 + length (over_lines key_line g.gone) ≤ length out₀ = omega (arith, g.bytes_out, g.within) in
      let more-fit : ready + length (key_line l) ≤ length out₀ = omega arith in
      let old : out ≡ written out₀ 0 (over_lines key_line g.gone) = g.room ∙ sym (from_front out₀ (over_lines key_line g.gone)) in
      let new : out' ≡ written out₀ 0 (over_lines key_line g.gone ++ key_line l) =
      o ∙ ap (λ (x : List ℕ). written x ready (key_line l)) old
      ∙ written_behind out₀ 0 (over_lines key_line g.gone) fits ready (key_line l) (omega (arith, g.bytes_out)) more-fit in
      record {
        gone = g.gone ++ (l ∷ []);
        left =
            g.left
            ∙ ap (λ (ls : List (List ℕ)). g.gone ++ going (length out₀ - ready) ls) next_ended
            ∙ ap (λ (ls : List (List ℕ)). g.gone ++ ls) (goes ∙ ap (λ (i : ℕ). l ∷ going i (ended_lines (drop (end + 1) text))) room_left)
            ∙ sym (append_assoc g.gone (l ∷ []) (going (length out₀ - put.ready) (ended_lines (drop (end + 1) text))));
        bytes_in = omega (arith, g.bytes_in, this_long);
        bytes_out = put_ready ∙ ap (λ (n : ℕ). n + length (key_line l)) g.bytes_out
            ∙ sym (ap length said ∙ length-append (over_lines key_line g.gone) (key_line l));
        keys = omega (arith, g.keys, yes);
        others = omega (arith, g.others, no, one);
        room = new ∙ from_front out₀ (over_lines key_line g.gone ++ key_line l) ∙ ap (λ (x : List ℕ). overwrite x out₀) (sym said);
        long = ap length o ∙ length_written out ready (key_line l) (omega (arith, g.long)) ∙ g.long;
        within = omega (arith, put_ready);
        inside = omega arith;
      }
