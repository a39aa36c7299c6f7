-- `put_action` of lib.rt meets its contract: now acts.exit ≡ written (now acts.entry) (action_size * n) (action_bytes action).
use native.Mathlib.Omega.{arith}
use Prim.Native.Nat.{◌*◌}
use Rattle.action.specs.Layout.{action_size, action_bytes, action_check}
use Rattle.action.proofs.ReadBack.{length_bytes}
use Rattle.answer.proofs.Puts.{put_written}
use Rattle.game.proofs.put_action.Goals as goal

pub returns : goal.returns
returns c =
    let a = c.args in
    let given = c.requires in
    let at-to-bytes = c.to_bytes in
    put_written (action_size * a.n) (action_check a.action) a.acts.now (action_bytes a.action) _ given.1
    (omega (arith, given.0, length_bytes a.action)) at-to-bytes.ensures.bytes
