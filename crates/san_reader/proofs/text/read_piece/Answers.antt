-- `read_piece` of text.rt meets its contract: r ≡ read_piece (dest_in standard) (now s.entry).
use Rattle.san_text.specs.Text.{read_piece, read_file, read_rank, read_takes}
use Rattle.san_text.proofs.Places.{place_most}
use Rattle.san_reader.proofs.text.read_piece.Goals as goal

pub invariant_of-source : goal.invariant_of-source
invariant_of-source c = record { file_bound = rw c.place_from-file.ensures (place_most 96 _); rank_bound = rw c.place_from-rank.ensures (place_most 48 _) }

pub invariant_of-source-else-standard : goal.invariant_of-source-else-standard
invariant_of-source-else-standard c =
    record { file_bound = rw c.place_from-file.ensures (place_most 96 _); rank_bound = rw c.place_from-rank.ensures (place_most 48 _) }

pub returns-then-standard : goal.returns-then-standard
unfolding read_piece read_file read_rank read_takes
returns-then-standard c = rw c.if-standard.true cc

pub returns-else-standard : goal.returns-else-standard
unfolding read_piece read_file read_rank read_takes
returns-else-standard c = rw c.if-standard.false cc
