-- `least_source` of gathering.rt meets its contract: r ≡ lowest 64 (sources (picked mask want) (now moves.entry)).
use mathlib.Core.Path.{◌≡◌}
use Prim.Native.Nat.{◌≤◌}
use lib.ListN.{drop}
use Rattle.san.specs.CodeGathered.{picked, sources, lowest}
use Rattle.san.proofs.gathering.least_source.Given as goal

abbrev pub invariant-loop-m : goal.invariant-loop-m
invariant-loop-m l =
    (l.least ≤ 64) × (lowest l.least (sources (picked l.mask l.want) (drop l.m-index l.moves)) ≡ lowest 64 (sources (picked l.mask l.want) l.moves))
