-- `same_entry` of lib.rt meets its contract: (r ≡ same_entry (now text.entry) (now other.entry)) × (r ≤ 4).
use Rattle.differences.proofs.Bytes.{other_code, same_plain, other_low, same_one, other_middle, same_two, other_high, same_three}
use Rattle.differences.proofs.same_entry.Goals as goal

pub returns-then-code-byte_at-clause-size : goal.returns-then-code-byte_at-clause-size
returns-then-code-byte_at-clause-size c =
    let a = c.args in
    let at-byte-at = c.byte_at-code in
    let at-byte-at2 = c.byte_at in
    other_code a.text.now a.other.now _ at-byte-at.ensures _ at-byte-at2.ensures c.if-code-byte_at.true

pub returns-then-code-ne-MOVE_CODE-clause-size : goal.returns-then-code-ne-MOVE_CODE-clause-size
returns-then-code-ne-MOVE_CODE-clause-size c =
    let a = c.args in
    let at-byte-at = c.byte_at-code in
    let at-byte-at2 = c.byte_at in
    let at-if1 = c.if-code-byte_at in
    same_plain a.text.now a.other.now _ at-byte-at.ensures _ at-byte-at2.ensures at-if1.false c.if-code-ne-MOVE_CODE.true

pub returns-then-low-byte_at-clause-size : goal.returns-then-low-byte_at-clause-size
returns-then-low-byte_at-clause-size c =
    let a = c.args in
    let at-byte-at = c.byte_at-code in
    let at-byte-at2 = c.byte_at in
    let at-if1 = c.if-code-byte_at in
    let at-if2 = c.if-code-ne-MOVE_CODE in
    let at-byte-at3 = c.byte_at-low in
    let at-byte-at4 = c.byte_at-2 in
    other_low a.text.now a.other.now _ at-byte-at.ensures _ at-byte-at2.ensures at-if1.false at-if2.false _ at-byte-at3.ensures _
    at-byte-at4.ensures c.if-low-byte_at.true

pub returns-then-low-lt128-clause-size : goal.returns-then-low-lt128-clause-size
returns-then-low-lt128-clause-size c =
    let a = c.args in
    let at-byte-at = c.byte_at-code in
    let at-byte-at2 = c.byte_at in
    let at-if1 = c.if-code-byte_at in
    let at-if2 = c.if-code-ne-MOVE_CODE in
    let at-byte-at3 = c.byte_at-low in
    let at-byte-at4 = c.byte_at-2 in
    let at-if3 = c.if-low-byte_at in
    same_one a.text.now a.other.now _ at-byte-at.ensures _ at-byte-at2.ensures at-if1.false at-if2.false _ at-byte-at3.ensures _
    at-byte-at4.ensures at-if3.false c.if-low-lt128.true

pub returns-then-middle-byte_at-clause-size : goal.returns-then-middle-byte_at-clause-size
returns-then-middle-byte_at-clause-size c =
    let a = c.args in
    let at-byte-at = c.byte_at-code in
    let at-byte-at2 = c.byte_at in
    let at-if1 = c.if-code-byte_at in
    let at-if2 = c.if-code-ne-MOVE_CODE in
    let at-byte-at3 = c.byte_at-low in
    let at-byte-at4 = c.byte_at-2 in
    let at-if3 = c.if-low-byte_at in
    let at-if4 = c.if-low-lt128 in
    let at-byte-at5 = c.byte_at-middle in
    let at-byte-at6 = c.byte_at-3 in
    other_middle a.text.now a.other.now _ at-byte-at.ensures _ at-byte-at2.ensures at-if1.false at-if2.false _ at-byte-at3.ensures _
    at-byte-at4.ensures at-if3.false at-if4.false _ at-byte-at5.ensures _ at-byte-at6.ensures c.if-middle-byte_at.true

pub returns-then-middle-lt128-clause-size : goal.returns-then-middle-lt128-clause-size
returns-then-middle-lt128-clause-size c =
    let a = c.args in
    let at-byte-at = c.byte_at-code in
    let at-byte-at2 = c.byte_at in
    let at-if1 = c.if-code-byte_at in
    let at-if2 = c.if-code-ne-MOVE_CODE in
    let at-byte-at3 = c.byte_at-low in
    let at-byte-at4 = c.byte_at-2 in
    let at-if3 = c.if-low-byte_at in
    let at-if4 = c.if-low-lt128 in
    let at-byte-at5 = c.byte_at-middle in
    let at-byte-at6 = c.byte_at-3 in
    let at-if5 = c.if-middle-byte_at in
    same_two a.text.now a.other.now _ at-byte-at.ensures _ at-byte-at2.ensures at-if1.false at-if2.false _ at-byte-at3.ensures _
    at-byte-at4.ensures at-if3.false at-if4.false _ at-byte-at5.ensures _ at-byte-at6.ensures at-if5.false c.if-middle-lt128.true

pub returns-then-byte_at-clause-size : goal.returns-then-byte_at-clause-size
returns-then-byte_at-clause-size c =
    let a = c.args in
    let at-byte-at = c.byte_at-code in
    let at-byte-at2 = c.byte_at in
    let at-if1 = c.if-code-byte_at in
    let at-if2 = c.if-code-ne-MOVE_CODE in
    let at-byte-at3 = c.byte_at-low in
    let at-byte-at4 = c.byte_at-2 in
    let at-if3 = c.if-low-byte_at in
    let at-if4 = c.if-low-lt128 in
    let at-byte-at5 = c.byte_at-middle in
    let at-byte-at6 = c.byte_at-3 in
    let at-if5 = c.if-middle-byte_at in
    let at-if6 = c.if-middle-lt128 in
    let at-byte-at7 = c.byte_at-4 in
    let at-byte-at8 = c.byte_at-5 in
    other_high a.text.now a.other.now _ at-byte-at.ensures _ at-byte-at2.ensures at-if1.false at-if2.false _ at-byte-at3.ensures _
    at-byte-at4.ensures at-if3.false at-if4.false _ at-byte-at5.ensures _ at-byte-at6.ensures at-if5.false at-if6.false _
    at-byte-at7.ensures _ at-byte-at8.ensures c.if-byte_at.true

pub returns-clause-size : goal.returns-clause-size
returns-clause-size c =
    let a = c.args in
    let at-byte-at = c.byte_at-code in
    let at-byte-at2 = c.byte_at in
    let at-if1 = c.if-code-byte_at in
    let at-if2 = c.if-code-ne-MOVE_CODE in
    let at-byte-at3 = c.byte_at-low in
    let at-byte-at4 = c.byte_at-2 in
    let at-if3 = c.if-low-byte_at in
    let at-if4 = c.if-low-lt128 in
    let at-byte-at5 = c.byte_at-middle in
    let at-byte-at6 = c.byte_at-3 in
    let at-if5 = c.if-middle-byte_at in
    let at-if6 = c.if-middle-lt128 in
    let at-byte-at7 = c.byte_at-4 in
    let at-byte-at8 = c.byte_at-5 in
    same_three a.text.now a.other.now _ at-byte-at.ensures _ at-byte-at2.ensures at-if1.false at-if2.false _ at-byte-at3.ensures _
    at-byte-at4.ensures at-if3.false at-if4.false _ at-byte-at5.ensures _ at-byte-at6.ensures at-if5.false at-if6.false _
    at-byte-at7.ensures _ at-byte-at8.ensures c.if-byte_at.false
