-- `push_key` of lib.rt meets its contract.
use mathlib.Core.Path.{sym}
use native.Mathlib.Omega.{arith}
use Rattle.differences_text.specs.Promises.{longest}
use Rattle.differences.proofs.Keys.{key_square, key_side, key_white, key_black, key_file, key_half, key_full, fits_as}
use Rattle.differences.proofs.Pushing.{put_as}
use Rattle.differences.proofs.push_key.Goals as goal

pub push_number-requires : goal.push_number-requires
push_number-requires c = fits_as _ longest (key_square c.args.i (omega arith)) c.requires

pub returns-in-0-to-63 : goal.returns-in-0-to-63
returns-in-0-to-63 c = put_as _ _ (sym (key_square c.args.i (omega arith))) c.push_number.ensures

pub push-requires : goal.push-requires
push-requires c = fits_as _ longest (key_side c.args.i c.in-64.is) c.requires

pub returns-in-64 : goal.returns-in-64
returns-in-64 c = put_as _ _ (sym (key_side c.args.i c.in-64.is)) c.push.ensures

pub push-requires-in-65 : goal.push-requires-in-65
push-requires-in-65 c = fits_as _ longest (key_white c.args.i c.in-65.is) c.requires

pub returns-in-65 : goal.returns-in-65
returns-in-65 c = put_as _ _ (sym (key_white c.args.i c.in-65.is)) c.push-in-65.ensures

pub push-requires-in-66 : goal.push-requires-in-66
push-requires-in-66 c = fits_as _ longest (key_black c.args.i c.in-66.is) c.requires

pub returns-in-66 : goal.returns-in-66
returns-in-66 c = put_as _ _ (sym (key_black c.args.i c.in-66.is)) c.push-in-66.ensures

pub push-requires-in-67 : goal.push-requires-in-67
push-requires-in-67 c = fits_as _ longest (key_file c.args.i c.in-67.is) c.requires

pub returns-in-67 : goal.returns-in-67
returns-in-67 c = put_as _ _ (sym (key_file c.args.i c.in-67.is)) c.push-in-67.ensures

pub push-requires-in-68 : goal.push-requires-in-68
push-requires-in-68 c = fits_as _ longest (key_half c.args.i c.in-68.is) c.requires

pub returns-in-68 : goal.returns-in-68
returns-in-68 c = put_as _ _ (sym (key_half c.args.i c.in-68.is)) c.push-in-68.ensures

pub push-requires-in_default : goal.push-requires-in_default
push-requires-in_default c = fits_as _ longest (key_full c.args.i (omega arith)) c.requires

pub returns-in_default : goal.returns-in_default
returns-in_default c = put_as _ _ (sym (key_full c.args.i (omega arith))) c.push-in_default.ensures
