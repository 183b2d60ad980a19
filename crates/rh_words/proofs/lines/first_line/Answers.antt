use Rattle.std.proofs.Common.{◌≡◌, ◌<◌, length, get_or, arith}
use Rattle.rh_words.proofs.Cutting.{lines_of-front, lines_of-joined, no_feeds}
use Rattle.rh_words.proofs.lines.first_line.Goals as goal
use Rattle.rh_words.proofs.lines.first_line.Goals.{else-end-bytes-via-then-end-bytes+else-bytes-end-ne10, else-end-bytes-via-else-end-bytes}

pub returns-then-bytes-end-ne10-clause-line : goal.returns-then-bytes-end-ne10-clause-line
returns-then-bytes-end-ne10-clause-line c =
    lines_of-joined c.args.bytes.now c.printable_end-end.result c.line_end.result c.requires (omega arith) (no_feeds c.args.bytes.now c.printable_end-end.result c.printable_end-end.ensures.within c.printable_end-end.ensures.printable) c.line_end.ensures.before c.line_end.ensures.found

pub returns-else-end-bytes-clause-line : goal.returns-else-end-bytes-clause-line
returns-else-end-bytes-clause-line c =
    let feeds : c.printable_end-end.result < length c.args.bytes.now → get_or c.args.bytes.now c.printable_end-end.result 0 ≡ 10 =
    λ inside. elim c.else-end-bytes.branch [ else-end-bytes-via-then-end-bytes+else-bytes-end-ne10 w ↦ w.if-bytes-end-ne10.false | else-end-bytes-via-else-end-bytes w ↦ absurd (omega (arith, inside, w.if-end-bytes.false)) ] in
    lines_of-front c.args.bytes.now c.printable_end-end.result c.requires c.printable_end-end.ensures.within (no_feeds c.args.bytes.now c.printable_end-end.result c.printable_end-end.ensures.within c.printable_end-end.ensures.printable) feeds
