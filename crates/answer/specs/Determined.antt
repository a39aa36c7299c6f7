-- What document 01, "Where a promise would be hollow", asks of each public function: any two results that its contract permits are equal. `Learnt` is the
-- contract itself, as the toolchain reads it off the source (`proofs.F.Reads`): about the arguments, the result, and what is lent as it is at exit.
-- Assumes nothing.
use Rattle.std.specs.Prelude.{ℕ, List, ◌≡◌}
use contract.Lifetimes.{Lfts}
use borrow.Fn.Kinds.{Dens, res_t, ended_of, Out, ParamKind, ResultKind}
use denote.Triple.Clauses.{AtExit}

-- the contract permits one answer to one call
abbrev pub OneAnswer : {n : ℕ} (ps : List (ParamKind n)) (r : ResultKind n) → Out n ps r → Type 0
OneAnswer {n} ps r Learnt =
    (κs : Lfts n) (a : Dens κs ps) (x y : (res_t r κs).Denot) (e f : AtExit (ended_of n ps r) κs) → Learnt κs a x e → Learnt κs a y f → x ≡ y

-- and one content of a part that is lent to be written, or of the part that is answered
abbrev pub OnePart : {n : ℕ} {A : Type 0} (ps : List (ParamKind n)) (r : ResultKind n)
    → ((κs : Lfts n) → (res_t r κs).Denot → AtExit (ended_of n ps r) κs → A) → Out n ps r → Type 0
OnePart {n} ps r part Learnt =
    (κs : Lfts n) (a : Dens κs ps) (x y : (res_t r κs).Denot) (e f : AtExit (ended_of n ps r) κs)
    → Learnt κs a x e → Learnt κs a y f → part κs x e ≡ part κs y f
