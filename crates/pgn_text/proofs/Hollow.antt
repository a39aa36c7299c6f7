-- What is promised about walking is not kept by a call that finds no move or always refuses, nor by a check that always refuses. Tried on `e4` and on nothing.
-- Assumes nothing.
use mathlib.Core.Path.{◌≡◌, refl, sym, ap, ◌∙◌}
use mathlib.Core.List.{List, [], ◌∷◌, ◌++◌}
use Prim.Native.Nat.{ℕ}
use native.Mathlib.Omega.{arith}
use lib.ListN.{length}
use Rattle.pgn_text.specs.declared.PgnMove.{PgnMove}
use Rattle.pgn_text.specs.Bytes.{is_white, is_digit, is_letter, starts_move, is_sign, in_move, in_run, onward, run_length}
use Rattle.pgn_text.specs.Token.{token}
use Rattle.pgn_text.specs.Walk.{at_end, met, walk, walk_from, no_move_found, move_found}
use Rattle.pgn_text.specs.Promises.{Check, Next, walked, moves_of, end_number, ChecksTheWalk, WalkingGivesTheMoves}
use Rattle.pgn_text.specs.Promises.{FindingNoneFails, RefusingNextFails, RefusingCheckFails}

one_move_lem : List ℕ
one_move_lem = 101 ∷ 52 ∷ []

one_accepted : end_number (walk_from one_move_lem 0 0) ≡ 0
unfolding one_move_lem is_white is_digit is_letter starts_move is_sign in_move in_run onward run_length token at_end met walk walk_from end_number
one_accepted = refl

one_found : moves_of (walk_from one_move_lem 0 0) ≡ move_found 0 2 0 ∷ []
unfolding one_move_lem is_white is_digit is_letter starts_move is_sign in_move in_run onward run_length token at_end met walk walk_from moves_of
one_found = refl

nothing_accepted : end_number (walk_from [] 0 0) ≡ 0
unfolding at_end walk walk_from end_number
nothing_accepted = refl

-- the first of the answers in a row
heading : PgnMove → List PgnMove → PgnMove
heading m [] = m
heading m (x ∷ xs) = x

first_answer : (next : Next) (ms : List PgnMove) (m : PgnMove) → walked next one_move_lem 1 0 0 ≡ (m ∷ []) ++ ms → next one_move_lem 0 0 ≡ m
unfolding walked heading
first_answer next ms m e = ap (heading m) e

-- a check and a call that keep the promise find the move
kept : (check : Check) (next : Next) → ChecksTheWalk check → WalkingGivesTheMoves check next → next one_move_lem 0 0 ≡ move_found 0 2 0
kept check next c w =
    let k = w one_move_lem ((c one_move_lem).0 ∙ one_accepted) in
    let n : (check one_move_lem).moves ≡ 1 = k.counted ∙ ap length one_found in
    first_answer next (no_move_found 0 0 ∷ []) (move_found 0 2 0)
    (sym (ap (λ (i : ℕ). walked next one_move_lem i 0 0) n) ∙ k.walked_through ∙ ap (λ (ms : List PgnMove). ms ++ (no_move_found 0 0 ∷ [])) one_found)

pub finding_none_fails : FindingNoneFails
unfolding move_found
finding_none_fails check next none c w =
    let e : ◌≡◌ {A = ℕ} 0 1 = sym (none one_move_lem 0 0) ∙ ap (λ (m : PgnMove). m.found) (kept check next c w) in
    absurd (omega arith)

pub refusing_next_fails : RefusingNextFails
unfolding move_found
refusing_next_fails check next never c w = never one_move_lem 0 0 (ap (λ (m : PgnMove). m.number) (kept check next c w))

pub refusing_check_fails : RefusingCheckFails
refusing_check_fails check never c = never [] ((c []).0 ∙ nothing_accepted)
