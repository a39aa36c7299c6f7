-- `token` of token.rt meets its contract: r ≡ token b (now (after .entry)).
use borrow.Author.Tests.{eq-eqb, ne_eqb}
use Rattle.pgn_text.specs.Token.{token}
use Rattle.pgn.proofs.token.token.Goals as goal

pub returns-then-is_white : goal.returns-then-is_white
unfolding token
returns-then-is_white c = simp (← c.is_white.ensures, c.if-is_white.true)

pub returns-then-starts_move : goal.returns-then-starts_move
unfolding token
returns-then-starts_move c =
    let at-is-white = c.is_white in
    let at-if1 = c.if-is_white in
    let at-starts-move = c.starts_move in
    let at-if2 = c.if-starts_move in
    simp (← at-is-white.ensures, at-if1.false, ← at-starts-move.ensures, at-if2.true, c.run_length.ensures)

pub returns-then-b-eq123 : goal.returns-then-b-eq123
unfolding token
returns-then-b-eq123 c =
    let at-is-white = c.is_white in
    let at-if1 = c.if-is_white in
    let at-starts-move = c.starts_move in
    let at-if2 = c.if-starts_move in
    let at-if3 = c.if-b-eq123 in
    simp (← at-is-white.ensures, at-if1.false, ← at-starts-move.ensures, at-if2.false, eq-eqb _ _ at-if3.true, c.brace_comment.ensures)

pub returns-then-b-eq59 : goal.returns-then-b-eq59
unfolding token
returns-then-b-eq59 c =
    let at-is-white = c.is_white in
    let at-if1 = c.if-is_white in
    let at-starts-move = c.starts_move in
    let at-if2 = c.if-starts_move in
    let at-if3 = c.if-b-eq123 in
    let at-if4 = c.if-b-eq59 in
    simp (
      ← at-is-white.ensures,
      at-if1.false,
      ← at-starts-move.ensures,
      at-if2.false,
      ne_eqb _ _ at-if3.false,
      eq-eqb _ _ at-if4.true,
      c.line_comment.ensures,
    )

pub returns-then-b-eq36 : goal.returns-then-b-eq36
unfolding token
returns-then-b-eq36 c =
    let at-is-white = c.is_white in
    let at-if1 = c.if-is_white in
    let at-starts-move = c.starts_move in
    let at-if2 = c.if-starts_move in
    let at-if3 = c.if-b-eq123 in
    let at-if4 = c.if-b-eq59 in
    let at-if5 = c.if-b-eq36 in
    simp (
      ← at-is-white.ensures,
      at-if1.false,
      ← at-starts-move.ensures,
      at-if2.false,
      ne_eqb _ _ at-if3.false,
      ne_eqb _ _ at-if4.false,
      eq-eqb _ _
          at-if5.true,
      c.glyph.ensures,
    )

pub returns-then-b-eq40 : goal.returns-then-b-eq40
unfolding token
returns-then-b-eq40 c =
    let at-is-white = c.is_white in
    let at-if1 = c.if-is_white in
    let at-starts-move = c.starts_move in
    let at-if2 = c.if-starts_move in
    let at-if3 = c.if-b-eq123 in
    let at-if4 = c.if-b-eq59 in
    let at-if5 = c.if-b-eq36 in
    simp (
      ← at-is-white.ensures,
      at-if1.false,
      ← at-starts-move.ensures,
      at-if2.false,
      ne_eqb _ _ at-if3.false,
      ne_eqb _ _ at-if4.false,
      ne_eqb _ _
          at-if5.false,
      eq-eqb _ _ c.if-b-eq40.true,
    )

pub returns-then-b-eq41 : goal.returns-then-b-eq41
unfolding token
returns-then-b-eq41 c =
    let at-is-white = c.is_white in
    let at-if1 = c.if-is_white in
    let at-starts-move = c.starts_move in
    let at-if2 = c.if-starts_move in
    let at-if3 = c.if-b-eq123 in
    let at-if4 = c.if-b-eq59 in
    let at-if5 = c.if-b-eq36 in
    let at-if6 = c.if-b-eq40 in
    simp (
      ← at-is-white.ensures,
      at-if1.false,
      ← at-starts-move.ensures,
      at-if2.false,
      ne_eqb _ _ at-if3.false,
      ne_eqb _ _ at-if4.false,
      ne_eqb _ _
          at-if5.false,
      ne_eqb _ _ at-if6.false,
      eq-eqb _ _ c.if-b-eq41.true,
    )

pub returns-then-is_result : goal.returns-then-is_result
unfolding token
returns-then-is_result c =
    let at-is-white = c.is_white in
    let at-if1 = c.if-is_white in
    let at-starts-move = c.starts_move in
    let at-if2 = c.if-starts_move in
    let at-if3 = c.if-b-eq123 in
    let at-if4 = c.if-b-eq59 in
    let at-if5 = c.if-b-eq36 in
    let at-if6 = c.if-b-eq40 in
    let at-if7 = c.if-b-eq41 in
    let at-is-result = c.is_result in
    simp (
      ← at-is-white.ensures,
      at-if1.false,
      ← at-starts-move.ensures,
      at-if2.false,
      ne_eqb _ _ at-if3.false,
      ne_eqb _ _ at-if4.false,
      ne_eqb _ _
          at-if5.false,
      ne_eqb _ _ at-if6.false,
      ne_eqb _ _ at-if7.false,
      ← at-is-result.ensures,
      c.if-is_result.true,
    )

pub returns-then-is_digit : goal.returns-then-is_digit
unfolding token
returns-then-is_digit c =
    let at-is-white = c.is_white in
    let at-if1 = c.if-is_white in
    let at-starts-move = c.starts_move in
    let at-if2 = c.if-starts_move in
    let at-if3 = c.if-b-eq123 in
    let at-if4 = c.if-b-eq59 in
    let at-if5 = c.if-b-eq36 in
    let at-if6 = c.if-b-eq40 in
    let at-if7 = c.if-b-eq41 in
    let at-is-result = c.is_result in
    let at-if8 = c.if-is_result in
    let at-is-digit = c.is_digit in
    let at-if9 = c.if-is_digit in
    simp (
      ← at-is-white.ensures,
      at-if1.false,
      ← at-starts-move.ensures,
      at-if2.false,
      ne_eqb _ _ at-if3.false,
      ne_eqb _ _ at-if4.false,
      ne_eqb _ _
          at-if5.false,
      ne_eqb _ _ at-if6.false,
      ne_eqb _ _ at-if7.false,
      ← at-is-result.ensures,
      at-if8.false,
      ← at-is-digit.ensures,
      at-if9.true,
      c.number.ensures,
    )

pub returns : goal.returns
unfolding token
returns c =
    let at-is-white = c.is_white in
    let at-if1 = c.if-is_white in
    let at-starts-move = c.starts_move in
    let at-if2 = c.if-starts_move in
    let at-if3 = c.if-b-eq123 in
    let at-if4 = c.if-b-eq59 in
    let at-if5 = c.if-b-eq36 in
    let at-if6 = c.if-b-eq40 in
    let at-if7 = c.if-b-eq41 in
    let at-is-result = c.is_result in
    let at-if8 = c.if-is_result in
    let at-is-digit = c.is_digit in
    simp (
      ← at-is-white.ensures,
      at-if1.false,
      ← at-starts-move.ensures,
      at-if2.false,
      ne_eqb _ _ at-if3.false,
      ne_eqb _ _ at-if4.false,
      ne_eqb _ _
          at-if5.false,
      ne_eqb _ _ at-if6.false,
      ne_eqb _ _ at-if7.false,
      ← at-is-result.ensures,
      at-if8.false,
      ← at-is-digit.ensures,
      c.if-is_digit.false,
    )
