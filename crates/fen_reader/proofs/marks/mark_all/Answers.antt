-- `mark_all` of marks.rt meets its contract: now marks.exit ≡ mark_all signs (now marks.entry).
use Rattle.answer.specs.Ascii.{ascii}
use Rattle.fen_reader.specs.CodeMarks.{mark_all}
use Rattle.fen_reader.proofs.marks.mark_all.Goals as goal

pub returns : goal.returns
unfolding mark_all ascii
returns c =
    simp (
      c.mark-21.ensures,
      c.mark-20.ensures,
      c.mark-19.ensures,
      c.mark-18.ensures,
      c.mark-17.ensures,
      c.mark-16.ensures,
      c.mark-15.ensures,
      c.mark-14.ensures,
      c.mark-13.ensures,
      c.mark-12.ensures,
      c.mark-11.ensures,
      c.mark-10.ensures,
      c.mark-9.ensures,
      c.mark-8.ensures,
      c.mark-7.ensures,
      c.mark-6.ensures,
      c.mark-5.ensures,
      c.mark-4.ensures,
      c.mark-3.ensures,
      c.mark-2.ensures,
      c.mark.ensures,
    )
