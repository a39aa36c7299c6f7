-- `tail` of text.rt meets its contract: Put 91 (now bytes.entry) at (tail_with board []) (now bytes.exit) r.
use native.Mathlib.Omega.{arith}
use Rattle.fen_writer.proofs.Parts.{small}
use Rattle.fen_writer.proofs.text.tail.Goals as goal

pub rights-d-requires : goal.rights-d-requires
rights-d-requires c =
    let r = small c.args.board c.requires.board_value in
    record { at_bound = omega arith; white_bound = r.white; black_bound = r.black }

pub push-e-requires : goal.push-e-requires
push-e-requires c = let r = small c.args.board c.requires.board_value in omega arith

pub en_passant-requires : goal.en_passant-requires
en_passant-requires c = let r = small c.args.board c.requires.board_value in record { n_bound = omega arith; file_bound = r.file }
