-- `place_of` looks for a line feed, whose byte is 10.
use Rattle.std.proofs.Common.{sym}
use Rattle.std.proofs.lemmas.List.{take_rest}
use Rattle.pkcs1_program.proofs.CutAtByte.{position-some, position-none, lines_of-at, lines_of-none}
use Rattle.pkcs1_program.proofs.lines.split_line.Goals as goal

-- The first one is at `end`: the first line is in front of it, and the other lines are those of what follows it.
pub returns-in-Some-clause-lines : goal.returns-in-Some-clause-lines
returns-in-Some-clause-lines c =
    let found = position-some 10 c.in-Some.end c.args.bytes.now (sym c.in-Some.ensures) in
    rw take_rest (lines_of-at c.in-Some.end c.args.bytes.now c.requires found.0)

-- There is none: all is one line.
pub returns-in-None-clause-lines : goal.returns-in-None-clause-lines
returns-in-None-clause-lines c =
    lines_of-none c.args.bytes.now c.requires (position-none 10 c.args.bytes.now (sym c.in-None.ensures))
