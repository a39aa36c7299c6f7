-- Laws of the ranks from the eighth down, with those that are left.
-- Assumes nothing.
use mathlib.Core.Path.{◌≡◌, refl, sym, ap, ◌∙◌}
use mathlib.Core.Bool.{cond}
use mathlib.Core.List.{List, [], ◌∷◌, ◌++◌, append-nil, append_assoc}
use Prim.Native.Nat.{ℕ, zero, suc, ◌+◌, ◌-◌, ◌≤◌, ◌<◌}
use native.Mathlib.Omega.{arith}
use lib.Dec.{ltb}
use lib.ListN.{length, take, length-append}
use borrow.Author.Tests.{lt-ltb}
use Rattle.fen_text.specs.Write.{run_text, row_of, slash_text, ranks_text}
use Rattle.answer.specs.CodePushed.{Put}
use Rattle.answer.proofs.Pushes.{put_both}

-- the first n bytes and the text of the ranks that are left make the whole, in number and in bytes
pub record Ranks (pieces new : List ℕ) (n left : ℕ) : Type 0 where
  pub count : n + length (ranks_text left pieces) ≡ length (ranks_text 8 pieces)
  pub bytes : take n new ++ ranks_text left pieces ≡ ranks_text 8 pieces
  pub long : length new ≡ 91

slash : (k : ℕ) → slash_text k ≡ cond (ltb 0 k) (47 ∷ []) []
unfolding slash_text
slash zero = refl
slash (suc k) = rw (lt-ltb 0 (suc k) (omega arith))

above : (k : ℕ) (pieces : List ℕ) → ranks_text (suc k) pieces ≡ run_text 0 (row_of k pieces) ++ (cond (ltb 0 k) (47 ∷ []) [] ++ ranks_text k pieces)
unfolding ranks_text
above k pieces = simp (slash k)

-- of the ranks that are left, the highest is the next
next : (left : ℕ) (pieces : List ℕ) → 0 < left
    → ranks_text left pieces ≡ run_text 0 (row_of (left - 1) pieces) ++ (cond (ltb 0 (left - 1)) (47 ∷ []) [] ++ ranks_text (left - 1) pieces)
next left pieces h =
    let whole : left ≡ suc (left - 1) = omega arith in
    ap (λ (m : ℕ). ranks_text m pieces) whole ∙ above (left - 1) pieces

-- behind a rank there is room for what is left
pub ranks_room : {pieces old mid : List ℕ} {n m left : ℕ} → Ranks pieces old n left → 0 < left
    → Put 91 old n (run_text 0 (row_of (left - 1) pieces)) mid m → m ≤ length (ranks_text 8 pieces)
ranks_room {pieces} {left = left} r h p =
    omega (arith, r.count, p.pushed.count, simp length-append at (ap length (next left pieces h)))

-- one rank, and a slash where there are ranks below it
pub ranks_turn : {pieces old mid new : List ℕ} {n m r left : ℕ} → Ranks pieces old n left → 0 < left
    → Put 91 old n (run_text 0 (row_of (left - 1) pieces)) mid m → Put 91 mid m (cond (ltb 0 (left - 1)) (47 ∷ []) []) new r
    → Ranks pieces new r (left - 1)
ranks_turn {pieces} {old} {new = new} {n} {r = r} {left} a h p q =
    let row = run_text 0 (row_of (left - 1) pieces) in
    let part : List ℕ = cond (ltb 0 (left - 1)) (47 ∷ []) [] in
    let below = ranks_text (left - 1) pieces in
    let both : Put 91 old n (row ++ part) new r = put_both p q in
    record {
      count =
          omega (
            arith,
            a.count,
            both.pushed.count,
            length-append row part,
            length-append row (part ++ below),
            length-append part below,
            ap length (next left pieces h),
          );
      bytes =
          ap (λ (l : List ℕ). l ++ below) both.pushed.bytes
          ∙ append_assoc (take n old) (row ++ part) below
          ∙ ap (λ (l : List ℕ). take n old ++ l) (append_assoc row part below ∙ sym (next left pieces h))
          ∙ a.bytes;
      long = q.long;
    }

pub ranks_end : {pieces new : List ℕ} {n left : ℕ} → Ranks pieces new n left → left ≤ 0 → (old : List ℕ) → Put 91 old 0 (ranks_text 8 pieces) new n
unfolding ranks_text
ranks_end {pieces} {new} {n} {left = zero} a h old =
    record { pushed = record { count = omega (arith, a.count); bytes = sym (append-nil (take n new)) ∙ a.bytes }; long = a.long }
ranks_end {left = suc k} a h old = absurd (omega arith)
