-- The quick walk: where nothing is wrong with the places that were set down, it stands where the placement rule stands, and the files hold its pieces.
-- Assumes nothing.
use mathlib.Core.Path.{◌≡◌, refl, sym, ap, subst, ◌∙◌}
use mathlib.Core.Bool.{Bool, true, false}
use Rattle.std.specs.Prelude.{Some}
use mathlib.Core.List.{List}
use Prim.Native.Nat.{ℕ, zero, suc, ◌+◌, ◌*◌, ◌-◌, ◌/◌, ◌%◌, ◌≤◌, ◌<◌}
use native.Mathlib.Decide.{dec_le}
use native.Mathlib.Omega.{arith}
use lib.Dec.{eqb}
use lib.ListN.{length, take, get_or, set, replicate, length-set}
use lib.Seq.{get_or-set_same, get_or-set_other, ext_get_or}
use borrow.Author.Tests.{eqb-true, eqb-false}
use Rattle.answer.specs.Numbers.{all_at_most}
use Rattle.answer.proofs.Bounds.{bound_at}
use Rattle.square.specs.Piece.{piece_of}
use Rattle.fen_text.specs.Placement.{Placement, start, down, skip, fill, place_byte, place_all}
use Rattle.fen_text.proofs.Keys.{piece_most}
use Rattle.fen_text.proofs.Tokens.{place_miss, where_start}
use Rattle.fen_reader.specs.declared.places.Stopped.{Stopped}
use Rattle.fen_reader.specs.CodeMarks.{slash_mark, no_mark, byte_mark}
use Rattle.fen_reader.specs.CodeWalk.{PlacementWalk}
use Rattle.fen_reader.specs.CodePlaces.{place_at, Files, Right, Stands, Walks, Laid, Slashes, Tells}
use Rattle.fen_reader.proofs.ByteMarks.{Kind, slash, digit, letter, other, kind, mark_slash, mark_digit, mark_letter, mark_other}
use Rattle.fen_reader.proofs.Placing.{rule_slash, rule_digit, rule_letter, turn}

-- a mark is set down on a place that has the same code, or on none of the files
same_code : (places : List ℕ) (at m k : ℕ) → at < length places → (k ≡ at → m / 16 ≡ get_or places at 0 / 16)
    → get_or (set places at m) k 0 / 16 ≡ get_or places k 0 / 16
same_code places at m k low h = go (eqb k at) refl
  where
    go : (t : Bool) → eqb k at ≡ t → get_or (set places at m) k 0 / 16 ≡ get_or places k 0 / 16
    go true e =
        let same : k ≡ at = eqb-true k at e in
        rw same (rw (get_or-set_same places at m 0 low) (h same))
    go false e = ap (λ (x : ℕ). x / 16) (get_or-set_other places at k m 0 (eqb-false k at e))

files_same : (places pieces : List ℕ) (at m : ℕ) → at < length places
    → ((r f : ℕ) → r < 8 → f < 8 → place_at r f ≡ at → m / 16 ≡ get_or places at 0 / 16) → Files places pieces → Files (set places at m) pieces
files_same places pieces at m low h w = record {
  long = w.long;
  each = λ r f hr hf. w.each r f hr hf ∙ sym (same_code places at m (place_at r f) low (h r f hr hf));
}

-- a piece's mark is set down
module _ (places pieces : List ℕ) (at square rank gone column m c : ℕ) (here : at ≡ gone * 16 + column) (there : square ≡ rank * 8 + column)
    (low : at < length places) (level : rank + gone ≡ 7) (narrow : column < 8) (code : m / 16 ≡ c) (w : Files places pieces) where
  set_each : (r f : ℕ) → r < 8 → f < 8 → (t : Bool) → eqb (r * 8 + f) square ≡ t
      → get_or (set pieces square c) (r * 8 + f) 0 ≡ get_or (set places at m) (place_at r f) 0 / 16
  set_each r f hr hf true e =
      let same : r * 8 + f ≡ square = eqb-true _ _ e in
      let spot : place_at r f ≡ at = omega arith in
      let long : square < length pieces = omega (arith, w.long) in
      rw (same, spot) (get_or-set_same pieces square c 0 long ∙ sym code ∙ sym (ap (λ (x : ℕ). x / 16) (get_or-set_same places at m 0 low)))
  set_each r f hr hf false e =
      let n : r * 8 + f ≡ square → ⊥ = eqb-false _ _ e in
      let elsewhere : place_at r f ≡ at → ⊥ = λ q. n (omega arith) in
      get_or-set_other pieces square (r * 8 + f) c 0 n ∙ w.each r f hr hf
      ∙ sym (ap (λ (x : ℕ). x / 16) (get_or-set_other places at (place_at r f) m 0 elsewhere))

  files_set : Files (set places at m) (set pieces square c)
  files_set = record { long = simp length-set w.long; each = λ r f hr hf. set_each r f hr hf (eqb (r * 8 + f) square) refl }

-- what is not wrong after a mark was not wrong before it
right_before : (places : List ℕ) (at m n : ℕ) → at ≤ n → Right (set places at m) n → Right places at
right_before places at m n le ok = record {
  codes = λ k r f e hf h.
      let n : k ≡ at → ⊥ = λ q. omega arith in
      subst (λ (x : ℕ). x / 16 ≤ 12) (get_or-set_other places at k m 0 n) (ok.codes k r f e hf (omega arith));
  slashes = λ k r e h.
      let n : k ≡ at → ⊥ = λ q. omega arith in
      sym (get_or-set_other places at k m 0 n) ∙ ok.slashes k r e (omega arith);
}

-- one mark m, set down at a place, with n the place after it
module _ (p : Placement) (at n m : ℕ) (places : List ℕ) (low : at < 120) (long : length places ≡ 128)
    (clear : (k : ℕ) → at ≤ k → get_or places k 0 ≡ 0) (w : Stands p at places) (more : at < n) (short : n ≤ 120) (ok : Right (set places at m) n) where
  in_reach : at < length places
  in_reach = omega arith

  here_code : w.column < 8 → m / 16 ≤ 12
  here_code h = subst (λ (x : ℕ). x / 16 ≤ 12) (get_or-set_same places at m 0 in_reach) (ok.codes at w.gone w.column w.place h more)

  here_slash : w.column ≡ 8 → m ≡ slash_mark
  here_slash h =
      let e : at ≡ w.gone * 16 + 8 = omega (arith, w.place) in
      sym (get_or-set_same places at m 0 in_reach) ∙ ok.slashes at w.gone e more

  -- a slash stands behind eight files
  behind_files : 12 < m / 16 → w.column ≡ 8
  behind_files h = go (dec_le 8 w.column)
    where
      go : Dec (8 ≤ w.column) → w.column ≡ 8
      go (yes l) = omega (arith, w.narrow)
      go (no l) =
          let few : w.column < 8 = omega arith in
          absurd (omega (arith, here_code few))

  -- anything else stands in a file
  in_files : (m ≡ slash_mark → ⊥) → w.column < 8
  in_files h = go (dec_le 8 w.column)
    where
      go : Dec (8 ≤ w.column) → w.column < 8
      go (yes l) =
          let e : w.column ≡ 8 = omega (arith, w.narrow) in
          absurd (h (here_slash e))
      go (no l) = omega arith

  after_slash : m ≡ slash_mark → n ≡ at + 8 → Stands (down p) n (set places at m)
  after_slash e next =
      let wide : 12 < m / 16 = omega arith in
      let eight : w.column ≡ 8 = behind_files wide in
      let here : at ≡ w.gone * 16 + w.column = w.place in
      let level : p.rank + w.gone ≡ 7 = w.rank in
      record {
        gone = w.gone + 1;
        column = 0;
        place = omega arith;
        narrow = omega arith;
        rank = omega arith;
        file = refl;
        good = w.good;
        pieces = files_same places p.pieces at m in_reach (λ r f hr hf q. absurd (omega arith)) w.pieces;
      }

  after_digit : (d : ℕ) → m ≡ d → 1 ≤ d → d ≤ 8 → n ≡ at + d → Stands (skip d p) n (set places at m)
  after_digit d e some few next =
      let not : m ≡ slash_mark → ⊥ = λ q. omega arith in
      let small : w.column < 8 = in_files not in
      let here : at ≡ w.gone * 16 + w.column = w.place in
      let level : p.rank + w.gone ≡ 7 = w.rank in
      let empty : get_or places at 0 / 16 ≡ 0 = ap (λ (x : ℕ). x / 16) (clear at (omega arith)) in
      let none : m / 16 ≡ 0 = omega arith in
      record {
        gone = w.gone;
        column = w.column + d;
        place = omega arith;
        narrow = fits (dec_le (w.column + d) 8);
        rank = w.rank;
        file = ap (λ (x : ℕ). (x + d) % 8) w.file ∙ wraps w.column;
        good = w.good;
        pieces = files_same places p.pieces at m in_reach (λ r f hr hf q. none ∙ sym empty) w.pieces;
      }
    where
      wraps : (x : ℕ) → (x % 8 + d) % 8 ≡ (x + d) % 8
      wraps x = omega arith

      -- a digit that passes over the place of a slash leaves it empty
      fits : Dec (w.column + d ≤ 8) → w.column + d ≤ 8
      fits (yes h) = h
      fits (no h) =
          let not : m ≡ slash_mark → ⊥ = λ q. omega arith in
          let small : w.column < 8 = in_files not in
          let here : at ≡ w.gone * 16 + w.column = w.place in
          let k : ℕ = w.gone * 16 + 8 in
          let past : k ≡ at → ⊥ = λ q. omega arith in
          let zero : get_or (set places at m) k 0 ≡ 0 = get_or-set_other places at k m 0 past ∙ clear k (omega arith) in
          let full : get_or (set places at m) k 0 ≡ slash_mark = ok.slashes k w.gone refl (omega arith) in
          absurd (omega arith)

  after_letter : (c : ℕ) → m ≡ c * 16 + 1 → c ≤ 12 → n ≡ at + 1 → Stands (fill c p) n (set places at m)
  after_letter c e few next =
      let not : m ≡ slash_mark → ⊥ = λ q. omega arith in
      let small : w.column < 8 = in_files not in
      let here : at ≡ w.gone * 16 + w.column = w.place in
      let level : p.rank + w.gone ≡ 7 = w.rank in
      let file : p.file ≡ w.column = w.file ∙ omega arith in
      let code : m / 16 ≡ c = omega arith in
      let there : p.rank * 8 + p.file ≡ p.rank * 8 + w.column = ap (λ (x : ℕ). p.rank * 8 + x) file in
      record {
        gone = w.gone;
        column = w.column + 1;
        place = omega arith;
        narrow = omega arith;
        rank = w.rank;
        file = ap (λ (x : ℕ). (x + 1) % 8) file;
        good = w.good;
        pieces =
            files_set places p.pieces at (p.rank * 8 + p.file) p.rank w.gone w.column m c here there in_reach level small code w.pieces;
      }

  no_other : m ≡ no_mark → ⊥
  no_other e =
      let wide : 12 < m / 16 = omega arith in
      omega (arith, here_slash (behind_files wide))

-- every mark takes a place, and at most eight
mark_places : (b : ℕ) → (1 ≤ byte_mark b % 16) × (byte_mark b % 16 ≤ 8)
mark_places b = by (kind b)
  where
    by : Kind b → (1 ≤ byte_mark b % 16) × (byte_mark b % 16 ≤ 8)
    by (slash e) = rw (mark_slash b e) (omega arith, omega arith)
    by (digit l h) = rw (mark_digit b l h) (omega arith, omega arith)
    by (letter e f g) = rw (mark_letter b e f g) (omega arith, omega arith)
    by (other e f g) = rw (mark_other b e f g) (omega arith, omega arith)

pub places_taken : (b m : ℕ) → m ≡ byte_mark b → (1 ≤ m % 16) × (m % 16 ≤ 8)
places_taken b m e = rw e (mark_places b)

no_space : (b : ℕ) → eqb (piece_of b) 0 ≡ false → b ≡ 32 → ⊥
unfolding piece_of
no_space b g q = eqb-false (piece_of b) 0 g (ap piece_of q)

-- one byte of the text
module _ (s places : List ℕ) (i at m n : ℕ) (h : i < length s) (low : at < 120) (long : length places ≡ 128)
    (clear : (k : ℕ) → at ≤ k → get_or places k 0 ≡ 0) (before : at ≤ 120 → Right places at → Walks s i at places)
    (mark : m ≡ byte_mark (get_or s i 0)) (next : n ≡ at + m % 16) where
  pub still_clear : (k : ℕ) → n ≤ k → get_or (set places at m) k 0 ≡ 0
  still_clear k le =
      let taken : 1 ≤ m % 16 = (places_taken (get_or s i 0) m mark).0 in
      let past : k ≡ at → ⊥ = λ q. omega arith in
      get_or-set_other places at k m 0 past ∙ clear k (omega arith)

  pub walk_next : n ≤ 120 → Right (set places at m) n → Walks s (i + 1) n (set places at m)
  walk_next short ok = by (kind b)
    where
      b : ℕ
      b = get_or s i 0

      p : Placement
      p = place_all start (take i s)

      more : at < n
      more = omega (arith, places_taken (get_or s i 0) m mark)

      w : Walks s i at places
      w = before (omega arith) (right_before places at m n (omega (arith, more)) ok)

      join : (q : Placement) → place_byte p b ≡ q → Stands q n (set places at m) → (b ≡ 32 → ⊥) → Walks s (i + 1) n (set places at m)
      join q e st ns = record {
        stands = rw (turn s i h refl e) st;
        spaceless = w.spaceless ∙ place_miss 32 s i h ns;
      }

      by : Kind b → Walks s (i + 1) n (set places at m)
      by (slash e) =
          let v : m ≡ slash_mark = mark ∙ mark_slash b e in
          join (down p) (rule_slash p b e) (after_slash p at n m places low long clear w.stands more short ok v (omega arith)) (λ q. omega arith)
      by (digit l u) =
          let v : m ≡ b - 48 = mark ∙ mark_digit b l u in
          join (skip (b - 48) p) (rule_digit p b l u)
          (after_digit p at n m places low long clear w.stands more short ok (b - 48) v (omega arith) (omega arith) (omega arith)) (λ q. omega arith)
      by (letter e f g) =
          let v : m ≡ piece_of b * 16 + 1 = mark ∙ mark_letter b e f g in
          join (fill (piece_of b) p) (rule_letter p b e f g)
          (after_letter p at n m places low long clear w.stands more short ok (piece_of b) v (piece_most b) (omega arith)) (no_space b g)
      by (other e f g) = absurd (no_other p at n m places low long clear w.stands more short ok (mark ∙ mark_other b e f g))

-- before the first byte
pub empty : (n k : ℕ) → get_or {A = ℕ} (replicate n 0) k 0 ≡ 0
empty zero k = refl
empty (suc n) zero = refl
empty (suc n) (suc k) = empty n k

pub walk_start : (s : List ℕ) → Walks s 0 0 (replicate 128 0)
unfolding place_all
walk_start s = record {
  stands = record {
    gone = 0;
    column = 0;
    place = refl;
    narrow = omega arith;
    rank = refl;
    file = refl;
    good = refl;
    pieces = record { long = refl; each = λ r f hr hf. empty 64 (r * 8 + f) ∙ sym (ap (λ (x : ℕ). x / 16) (empty 128 (place_at r f))) };
  };
  spaceless = where_start _ _;
}

-- behind the walk: the files' codes, and the slashes
right_behind : (places pieces : List ℕ) → Slashes places → Files places pieces → all_at_most 12 pieces ≡ true → Right places 120
right_behind places pieces behind w few = record {
  codes = λ k r f e hf h.
      let rank : 7 - r < 8 = omega arith in
      let there : place_at (7 - r) f ≡ k = omega arith in
      let at : get_or pieces ((7 - r) * 8 + f) 0 ≡ get_or places k 0 / 16 = w.each (7 - r) f rank hf ∙ ap (λ (x : ℕ). get_or places x 0 / 16) there in
      omega (arith, bound_at 12 pieces ((7 - r) * 8 + f) few);
  slashes = λ k r e h. ap (λ (x : ℕ). get_or places x 0) e ∙ behind r (omega arith);
}

-- the places have one list of pieces
one_board : (places a b : List ℕ) → Files places a → Files places b → a ≡ b
one_board places a b v w = ext_get_or 0 a b (v.long ∙ sym w.long) (λ k h. each k (omega (arith, v.long)))
  where
    each : (k : ℕ) → k < 64 → get_or a k 0 ≡ get_or b k 0
    each k h =
        let e : k / 8 * 8 + k % 8 ≡ k = omega arith in
        let r : k / 8 < 8 = omega arith in
        let f : k % 8 < 8 = omega arith in
        ap (λ (x : ℕ). get_or a x 0) (sym e) ∙ v.each (k / 8) (k % 8) r f ∙ sym (w.each (k / 8) (k % 8) r f) ∙ ap (λ (x : ℕ). get_or b x 0) e

-- what the places tell is what the placement rule says
pub quick : (s places pieces : List ℕ) (r : Stopped) → Laid s places r → Files places pieces → Tells s r.at r.end places pieces
    → PlacementWalk s (record { end = r.end; pieces = Some pieces })
quick s places pieces r laid w t =
    let last : r.at ≡ 120 = t.last in
    let ok : Right places r.at = rw last (right_behind places pieces t.slashes w t.codes) in
    let there : Walks s r.end r.at places = laid.told (omega arith) ok in
    record {
      place = sym (there.spaceless ∙ t.ends);
      pieces = (there.stands.good, one_board places _ pieces there.stands.pieces w);
    }
