-- The host's calls keep what is promised: each contract says that the call answers by a definition, and the definitions keep it.
-- Assumes nothing.
use Prim.Native.Nat.{ℕ, ◌≤◌}
use mathlib.Core.Path.{◌≡◌, refl, ap, ap₂, sym, ◌∙◌, subst}
use mathlib.Core.Bool.{Bool, true, false, cond}
use mathlib.Core.List.{List}
use mathlib.Core.Logic.{◌↔◌}
use native.Mathlib.Omega.{arith}
use lib.Dec.{eqb, leb}
use lib.ListN.{length, take}
use lib.Seq.{take-append_seam}
use borrow.Author.Tests.{eqb-true, eqb-false, le-leb}
use Rattle.answer.specs.declared.Answer.{Answer}
use Rattle.answer.specs.Answer.{out_of_range, bad_list, accepted, refused, too_short, write_answer, write_bytes, overwrite}
use Rattle.answer.specs.Numbers.{among}
use Rattle.answer.proofs.Numbers.{both_left, both_right}
use Rattle.board_builder.specs.declared.BoardBuilder.{BoardBuilder}
use Rattle.board_builder.specs.declared.Stepped.{Stepped}
use Rattle.board_builder.specs.BoardBuilder.{numbers, in_range}
use Rattle.board_builder.specs.Steps.{stepped}
use Rattle.chess_move.specs.Number.{last_move}
use Rattle.move_list.specs.MoveList.{longest_list, list_in_range}
use Rattle.move_rules.specs.After.{board_after, after_answer}
use Rattle.position.specs.Layout.{Position, position_at}
use Rattle.game_rules.specs.Limits.{limits}
use Rattle.game_rules.specs.Rules.{current, result}
use Rattle.actions.specs.Part.{moves_in}
use Rattle.game_rules.specs.Good.{history_of, sound, is_good}
use Rattle.game_rules.specs.Calls.{log_check, result_answer}
use Rattle.game_rules.proofs.Checks.{log_says}
use Rattle.game_rules.proofs.Log.{current_is}
use Rattle.san_text.specs.Promises.{namer, standard_namer}
use Rattle.san_text.specs.Paper.{from_san}
use Rattle.san_text.specs.Standard.{from_san_standard}
use Rattle.san_text.specs.Promises.{Namer, Reader}
use Rattle.san_lists.specs.Lists.{occurrences, Within}
use Rattle.san_lists.proofs.Counts.{reordered_within, reordered_listed}
use Rattle.move_laws.specs.declared.Judged.{Judged}
use Rattle.move_laws.specs.Attack.{in_check}
use Rattle.move_laws.specs.Legal.{legal_moves, list_check, check_byte, check_answer}
use Rattle.move_laws.specs.Judge.{judged_as, judgement, judged_answer}
use Rattle.move_laws.proofs.Listed.{lists_legal, lists_moves, king_safe}
use Rattle.legal_lists.specs.Promises.{Right, NamesLegalMoves, NeverEight, ListedRight, RuledByTheLaws}
use Rattle.legal_lists.specs.Told.{Told}
use Rattle.legal_lists.proofs.Judged.{judged_right}
use Rattle.legal_lists.proofs.Told.{judgements_tell}
use Rattle.legal_lists.proofs.Own.{check_passed, own_list_is_right}
use Rattle.legal_lists.proofs.Names.{never_eight, standard_never_eight, legal_moves_named, legal_moves_named_standard}
use Rattle.legal_lists.proofs.Mates.{mates_by_the_laws}
use Rattle.host_lists.specs.HostCalls.{Reading, ReadCall, read_board, read_list, text_to_read, san_read}
use Rattle.host_lists.specs.HostCalls.{Naming, NameCall, name_board, name_list, name_move, san_named, room_lent, room_left}
use Rattle.host_settled.specs.SettledCalls.{to_play}
use Rattle.menkhodur.proofs.menkhodur_san_read.Reads as san-read
use Rattle.menkhodur.proofs.menkhodur_san_read_standard.Reads as san-read-standard
use Rattle.menkhodur.proofs.menkhodur_san_name.Reads as san-name
use Rattle.menkhodur.proofs.menkhodur_san_name_standard.Reads as san-name-standard
use Rattle.host_legal.specs.LegalCalls.{check_told, ListCall, list_board, list_told, list_left}
use Rattle.host_legal.specs.LegalCalls.{JudgeCall, judge_board, judge_byte, judge_list, judge_told, last_position, result_told}
use Rattle.host_legal.specs.Promises.{JudgesRight, TellsWhatIsWrong, WritesTheList, OwnListPasses, KingsLeftSafe}
use Rattle.host_legal.specs.Promises.{FoundRight, NeverUnnamed, NamesReadBackAlways, RulesMates}

-- ---- the judge

right_by : (b : BoardBuilder) (byte : ℕ) (list : List ℕ) (x : Judged) → x ≡ judged_answer b byte list → x.number ≡ 0 → (x.wrong ≡ 0) ↔ Right b byte list
right_by b byte list x e z = rw e (judged_right b byte list (rw e at z))

told_by : (b : BoardBuilder) (byte : ℕ) (list : List ℕ) (x : Judged) → x ≡ judged_answer b byte list → x.number ≡ 0 → Told b byte list x
told_by b byte list x e z = rw e (judgements_tell b byte list (rw e at z))

pub judges_right : JudgesRight
judges_right j z = right_by (judge_board j) (judge_byte j) (judge_list j) (judge_told j) j.learnt z

pub tells_what_is_wrong : TellsWhatIsWrong
tells_what_is_wrong j z = told_by (judge_board j) (judge_byte j) (judge_list j) (judge_told j) j.learnt z

right : (j : JudgeCall) → FoundRight j → Right (judge_board j) (judge_byte j) (judge_list j)
right j f = (judges_right j f.judged).0 f.nothing_wrong

-- ---- the list

record Wrote (b : BoardBuilder) (r : Answer) (left : List ℕ) : Type 0 where
  passed : list_check b ≡ 0
  value : r.value ≡ length (legal_moves b)
  front : take r.value left ≡ legal_moves b

fitted : (l out : List ℕ) → leb (length l) (length out) ≡ true → write_bytes 0 l out ≡ overwrite l out
unfolding write_bytes
fitted l out h = rw h refl

wrote : (b : BoardBuilder) (out left : List ℕ) (r : Answer) → r ≡ write_answer (list_check b) (legal_moves b) (length out)
    → left ≡ write_bytes (list_check b) (legal_moves b) out → r.number ≡ 0 → Wrote b r left
unfolding write_answer
wrote b out left r e w z = go (eqb (list_check b) 0) refl (leb (length (legal_moves b)) (length out)) refl e
  where
    go : (p : Bool) → eqb (list_check b) 0 ≡ p → (q : Bool) → leb (length (legal_moves b)) (length out) ≡ q
        → r ≡ cond p (cond q (accepted (length (legal_moves b))) (too_short (length (legal_moves b)))) (refused (list_check b)) → Wrote b r left
    go true x true y k =
        let passed = eqb-true (list_check b) 0 x in
        let value = ap (λ (a : Answer). a.value) k in
        let left_so = w ∙ ap (λ (n : ℕ). write_bytes n (legal_moves b) out) passed ∙ fitted (legal_moves b) out y in
        record {
          passed = passed;
          value = value;
          front = ap₂ (λ (n : ℕ) (l : List ℕ). take n l) value left_so ∙ take-append_seam (legal_moves b) _;
        }
    go true x false y k = let seven : r.number ≡ 7 = ap (λ (a : Answer). a.number) k in absurd (omega (arith, seven, z))
    go false x q y k = absurd (eqb-false (list_check b) 0 x (sym (ap (λ (a : Answer). a.number) k) ∙ z))

wrote_by : (c : ListCall) → (list_told c).number ≡ 0 → Wrote (list_board c) (list_told c) (list_left c)
wrote_by c z = wrote (list_board c) c.given.1.0.now (list_left c) (list_told c) c.learnt.0 c.learnt.1 z

pub writes_the_list : WritesTheList
writes_the_list c z = let w = wrote_by c z in (w.front, w.value)

-- ---- its own list and byte

byte_told : (b : BoardBuilder) (x : Answer) → x ≡ check_answer b → in_range b ≡ true → x.value ≡ check_byte b
unfolding check_answer
byte_told b x e r = ap (λ (a : Answer). a.value) (e ∙ ap (λ (t : Bool). cond t (accepted (check_byte b)) (refused 5)) r)

own_passes : (b : BoardBuilder) (byte : ℕ) (list : List ℕ) (x : Judged) → x ≡ judged_answer b byte list → list_check b ≡ 0 → byte ≡ check_byte b
    → list ≡ legal_moves b
    → (x.number ≡ 0) × (x.wrong ≡ 0)
own_passes b byte list x e check p q =
    let is = e ∙ ap₂ (λ (n : ℕ) (l : List ℕ). judged_answer b n l) p q ∙ own_list_is_right b check in
    (ap (λ (j : Judged). j.number) is, ap (λ (j : Judged). j.wrong) is)

pub own_list_passes : OwnListPasses
own_list_passes c k j o =
    let w = wrote_by c o.written in
    let s = check_passed (list_board c) w.passed in
    let byte = byte_told (list_board c) (check_told k) (k.learnt ∙ ap check_answer o.record_checked) s.range in
    own_passes (list_board c) (judge_byte j) (judge_list j) (judge_told j)
    (j.learnt ∙ ap (λ (b : BoardBuilder). judged_answer b (judge_byte j) (judge_list j)) o.record_judged)
    w.passed
    (o.byte ∙ byte)
    (o.list ∙ w.front)

-- ---- the king's safety

after_legal : (b : BoardBuilder) (m : ℕ) → in_range b ≡ true → m ≤ last_move → after_answer b m ≡ stepped 0 (board_after b m)
unfolding after_answer
after_legal b m r h = rw (r, le-leb m last_move h) refl

pub kings_left_safe : KingsLeftSafe
kings_left_safe c p z from listed =
    let w = wrote_by c z in
    let b = list_board c in
    let m = to_play p in
    let here : among m (legal_moves b) ≡ true = ap (λ (l : List ℕ). among m l) (sym w.front) ∙ listed in
    let most = lists_moves b m here in
    let legal = sym (lists_legal b m most) ∙ here in
    let after = p.learnt ∙ ap (λ (x : BoardBuilder). after_answer x m) from ∙ after_legal b m (check_passed b w.passed).range most in
    (ap (λ (x : Stepped). x.number) after, ap (λ (x : Stepped). in_check x.board.pieces b.side_to_move) after ∙ king_safe b m legal)

-- ---- names

-- what a namer's contract says is that it answers by a definition
record NamedBy (w : Namer) {Learnt : Naming} (c : NameCall Learnt) : Type 0 where
  answer : san_named c ≡ w.answer (name_board c) (name_list c) (name_move c) (length (room_lent c))
  room : room_left c ≡ w.room (name_board c) (name_list c) (name_move c) (room_lent c)

-- a list judged right is within the legal moves
on_legal : (j : JudgeCall) → FoundRight j → (b : BoardBuilder) (list : List ℕ) → b ≡ judge_board j → list ≡ judge_list j → Within list (legal_moves b)
on_legal j f b list p q n =
    let k = reordered_within (judge_list j) (legal_moves (judge_board j)) (right j f).list_owed n in
    let here : occurrences n list ≡ occurrences n (judge_list j) = ap (λ (l : List ℕ). occurrences n l) q in
    let owed : occurrences n (legal_moves b) ≡ occurrences n (legal_moves (judge_board j)) = ap (λ (x : BoardBuilder). occurrences n (legal_moves x)) p in
    omega (arith, k, here, owed)

-- what the judge was lent is in range
record InRange (b : BoardBuilder) (list : List ℕ) : Type 0 where
  of_record : in_range b ≡ true
  of_list : list_in_range list ≡ true

in_range_told : (b : BoardBuilder) (byte : ℕ) (list : List ℕ) (x : Judged) → x ≡ judged_answer b byte list → x.number ≡ 0 → InRange b list
unfolding judged_answer
in_range_told b byte list x e z = go (in_range b) refl (leb byte 1) (list_in_range list) refl (sym (ap (λ (j : Judged). j.number) e) ∙ z)
  where
    last : Judged
    last = cond (leb (length (legal_moves b)) longest_list) (judgement (check_byte b) byte (legal_moves b) list) (judged_as bad_list 0 0 0 0)

    go : (p : Bool) → in_range b ≡ p → (q r : Bool) → list_in_range list ≡ r
        → (cond p (cond q (cond r last (judged_as bad_list 0 0 0 0)) (judged_as out_of_range 0 0 0 0)) (judged_as out_of_range 0 0 0 0)).number ≡ 0 →
        InRange b list
    go true u true true v k = record { of_record = u; of_list = v }
    go true u true false v k = absurd (omega (arith, k))
    go true u false r v k = absurd (omega (arith, k))
    go false u q r v k = absurd (omega (arith, k))

module _ (w : Namer) {Learnt : Naming} (is : (c : NameCall Learnt) → NamedBy w c) where
  never_unnamed : NeverEight w → NeverUnnamed Learnt
  never_unnamed never j c f o e =
      never (name_board c) (name_list c) (name_move c) (length (room_lent c)) (on_legal j f (name_board c) (name_list c) o.board o.list)
      (sym (ap (λ (a : Answer). a.number) (is c).answer) ∙ e)

  module _ (read : Reader) {Reads : Reading} (reads : (r : ReadCall Reads) → san_read r ≡ read (read_board r) (read_list r) (text_to_read r))
      (longest : ℕ) where
    read_back : NamesLegalMoves longest w read → NamesReadBackAlways longest Reads Learnt
    read_back named j c r f o legal room t =
        let b = name_board c in
        let l = name_list c in
        let m = name_move c in
        let ranges = in_range_told (judge_board j) (judge_byte j) (judge_list j) (judge_told j) j.learnt f.judged in
        let range : in_range b ≡ true = ap in_range o.board ∙ ranges.of_record in
        let list : list_in_range l ≡ true = ap list_in_range o.list ∙ ranges.of_list in
        let here : among m l ≡ true =
        ap (λ (k : List ℕ). among m k) o.list ∙ reordered_listed (judge_list j) (legal_moves (judge_board j)) (right j f).list_owed m ∙ legal in
        let n = named b l m (room_lent c) range list (on_legal j f b l o.board o.list) here room in
        let value = ap (λ (a : Answer). a.value) (is c).answer in
        let text : text_to_read r ≡ take (w.answer b l m (length (room_lent c))).value (w.room b l m (room_lent c)) =
        t.text ∙ ap₂ (λ (k : ℕ) (out : List ℕ). take k out) value (is c).room in (
          ap (λ (a : Answer). a.number) (is c).answer ∙ n.number,
          reads r
              ∙ ap (λ (x : BoardBuilder). read x (read_list r) (text_to_read r)) t.board
              ∙ ap₂ (λ (x y : List ℕ). read b x y) t.list text
              ∙ n.back,
        )

named_by : (c : NameCall san-name.Learnt) → NamedBy namer c
named_by c = record { answer = c.learnt.0; room = c.learnt.1 }

standard_named_by : (c : NameCall san-name-standard.Learnt) → NamedBy standard_namer c
standard_named_by c = record { answer = c.learnt.0; room = c.learnt.1 }

pub san_name_never_8 : NeverUnnamed san-name.Learnt
san_name_never_8 = never_unnamed namer named_by never_eight

pub san_name_standard_never_8 : NeverUnnamed san-name-standard.Learnt
san_name_standard_never_8 = never_unnamed standard_namer standard_named_by standard_never_eight

pub san_names_read_back : NamesReadBackAlways 11 san-read.Learnt san-name.Learnt
san_names_read_back = read_back namer named_by from_san (λ r. r.learnt) 11 legal_moves_named

pub san_names_standard_read_back : NamesReadBackAlways 8 san-read-standard.Learnt san-name-standard.Learnt
san_names_standard_read_back = read_back standard_namer standard_named_by from_san_standard (λ r. r.learnt) 8 legal_moves_named_standard

-- ---- mates

-- a result that is answered is that of a good log, whose last position is the current one
record ResultTold (acts ps : List ℕ) (n m v : ℕ) : Type 0 where
  value : v ≡ result (history_of acts ps n)
  here : current (history_of acts ps n) ≡ position_at ps m

good_current : (acts ps : List ℕ) (n m : ℕ) → is_good limits acts ps n m ≡ true → current (history_of acts ps n) ≡ position_at ps m
unfolding is_good
good_current acts ps n m e =
    let counted = eqb-true m (moves_in acts n) (both_left (eqb m (moves_in acts n)) (sound limits acts ps n) e) in
    current_is limits acts ps n m counted (both_right (eqb m (moves_in acts n)) (sound limits acts ps n) e)

result_told_lem : (acts ps : List ℕ) (n m : ℕ) (x : Answer) → x ≡ result_answer limits acts ps n m → x.number ≡ 0 → ResultTold acts ps n m x.value
unfolding result_answer
result_told_lem acts ps n m x e z = go (eqb (log_check limits acts ps n m) 0) refl e
  where
    go : (p : Bool) → eqb (log_check limits acts ps n m) 0 ≡ p
        → x ≡ cond p (accepted (result (history_of acts ps n))) (refused (log_check limits acts ps n m)) → ResultTold acts ps n m x.value
    go true c k = record {
      value = ap (λ (a : Answer). a.value) k;
      here = good_current acts ps n m (log_says limits acts ps n m (eqb-true (log_check limits acts ps n m) 0 c)).good;
    }
    go false c k = absurd (eqb-false (log_check limits acts ps n m) 0 c (sym (ap (λ (a : Answer). a.number) k) ∙ z))

listed_right : (b : BoardBuilder) (byte : ℕ) (list : List ℕ) (p : Position) → in_range b ≡ true → Right b byte list → numbers b ≡ p.board → byte ≡ p.check
    → list ≡ p.moves
    → ListedRight b p
listed_right b byte list p range r x y q = record {
  in_range_lem = range;
  its_record = x;
  right = record { list_owed = λ n. ap (λ (l : List ℕ). occurrences n l) (sym q) ∙ r.list_owed n; byte_owed = sym y ∙ r.byte_owed };
}

pub rules_mates : RulesMates
rules_mates j r f l z =
    let acts = r.given.0.now in
    let ps = r.given.1.0.now in
    let told = result_told_lem acts ps r.given.1.1.0 r.given.1.1.1.0 (result_told r) r.learnt z in
    let b = judge_board j in
    let ranges = in_range_told b (judge_byte j) (judge_list j) (judge_told j) j.learnt f.judged in
    let listed = listed_right b (judge_byte j) (judge_list j) (last_position r) ranges.of_record (right j f) l.record_judged l.byte l.list in
    subst (RuledByTheLaws b) (sym told.value)
    (mates_by_the_laws (history_of acts ps r.given.1.1.0) b (subst (ListedRight b) (sym told.here) listed))
