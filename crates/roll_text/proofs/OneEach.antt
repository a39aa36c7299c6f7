-- For any programs that read back and write back: one roll per game, and one game per roll.
-- Assumes nothing.
use mathlib.Core.Path.{◌≡◌, ap, ap₂, sym, ◌∙◌}
use mathlib.Core.List.{List, ◌++◌}
use Prim.Native.Nat.{ℕ, ◌*◌, ◌≤◌}
use native.Mathlib.Omega.{arith}
use lib.ListN.{length, take, drop, length-append}
use lib.Seq.{take_at, length-take-le}
use Rattle.board_builder.specs.declared.BoardBuilder.{BoardBuilder}
use Rattle.action.specs.Layout.{action_size}
use Rattle.game_rules.specs.Limits.{Limits}
use Rattle.roll_text.specs.declared.Roll.{Roll}
use Rattle.roll_text.specs.Promises.{Writable, wrote, OneRollAGame, OneGameARoll}

pub one_roll_a_game : OneRollAGame
one_roll_a_game w r back s t old small tiny e answers parts =
    let out = s ++ t in
    let first : length s ≤ length out = omega (arith, length-append s t) in
    let second : length t ≤ length out = omega (arith, length-append s t) in
    let a = back s old out small e first in
    let b = back t old out tiny (sym (ap (λ (x : Roll). x.number) answers) ∙ e) second in
    let same : wrote w (r.answer s (length old)).board (r.part s old) (r.answer s (length old)).actions out
    ≡ wrote w (r.answer t (length old)).board (r.part t old) (r.answer t (length old)).actions out
    = ap₂ (λ (x : Roll) (p : List ℕ). wrote w x.board p x.actions out) answers parts in
    sym a.same_bytes ∙ same ∙ b.same_bytes

-- the counted actions stand in front
front : (L : Limits) (b : BoardBuilder) (part : List ℕ) (n : ℕ) (l : List ℕ) → Writable L b part n
    → take (action_size * n) (take (action_size * n) part ++ l) ≡ take (action_size * n) part
front L b part n l w =
    let all : action_size * n ≤ length part = omega (arith, w.few, w.long) in
    take_at (take (action_size * n) part) l (action_size * n) (length-take-le (action_size * n) part all)

pub one_game_a_roll : OneGameARoll
one_game_a_roll L w r back b c part other n m out room u v small tiny fits enough e =
    let x = back b part n out part u small fits u.long in
    let y = back c other m room part v tiny enough u.long in
    let answers = sym x.back ∙ ap (λ (l : List ℕ). r.answer l (length part)) e ∙ y.back in
    let counts : n ≡ m = ap (λ (a : Roll). a.actions) answers in
    let parts : take (action_size * n) part ++ drop (action_size * n) part ≡ take (action_size * m) other ++ drop (action_size * m) part
    = sym x.actions ∙ ap (λ (l : List ℕ). r.part l part) e ∙ y.actions in
    record {
      starts = ap (λ (a : Roll). a.board) answers;
      counts = counts;
      actions = sym (front L b part n (drop (action_size * n) part) u)
          ∙ ap₂ (λ (i : ℕ) (l : List ℕ). take (action_size * i) l) counts parts
          ∙ front L c other m (drop (action_size * m) part) v;
    }
