-- The version that host/menkhodur.h names and CHANGELOG.md describes. tools/abi compares the three.
-- Assumes nothing.
use Rattle.std.specs.Prelude.{ℕ}

abbrev pub version : ℕ
version = 16
