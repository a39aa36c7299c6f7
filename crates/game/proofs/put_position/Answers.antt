-- `put_position` of lib.rt meets its contract: now ps.exit ≡ written (now ps.entry) (position_size * k) (position_bytes (position_given b in_check (now
-- list.entry))).
use native.Mathlib.Omega.{arith}
use Prim.Native.Nat.{◌*◌}
use Rattle.position.specs.Layout.{Position, position_size}
use Rattle.stored_position.specs.Bytes.{position_bytes, position_check, position_given}
use Rattle.stored_position.proofs.ReadBack.{one_size}
use Rattle.answer.proofs.Puts.{put_written}
use Rattle.game.proofs.put_position.Goals as goal

pub returns : goal.returns
returns c =
    let a = c.args in
    let given = c.requires in
    let at-to-bytes = c.to_bytes in
    let p : Position = position_given a.b a.in_check a.list.now in
    put_written (position_size * a.k) (position_check p) a.ps.now (position_bytes p) _ given.1 (omega (arith, given.0, one_size p given.1))
    at-to-bytes.ensures.bytes
