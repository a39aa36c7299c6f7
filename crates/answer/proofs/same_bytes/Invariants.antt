-- `same_bytes` of lib.rt meets its contract: r ≡ same (now a.entry) (now b.entry).
use mathlib.Core.Path.{◌≡◌}
use mathlib.Core.Bool.{◌&&◌}
use lib.Dec.{eqb}
use lib.ListN.{drop}
use Rattle.answer.specs.Numbers.{same}
use Rattle.answer.proofs.same_bytes.Given as goal

abbrev pub invariant-loop-i : goal.invariant-loop-i
invariant-loop-i l = same l.a l.b ≡ eqb l.differ 0 && same (drop l.i l.a) (drop l.i l.b)
