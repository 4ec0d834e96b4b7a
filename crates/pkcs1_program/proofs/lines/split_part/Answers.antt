-- `place_of` looks for a space, whose byte is 32.
use Rattle.std.proofs.Common.{◌<◌, ◌==◌, length, sym, arith}
use Rattle.std.specs.List.{position_or_len}
use Rattle.std.proofs.lemmas.List.{take_rest}
use Rattle.std.proofs.lemmas.List.Splits.{slice_split_first}
use Rattle.pkcs1_program.proofs.CutAtByte.{position-some, position-none, parts_of-none}
use Rattle.pkcs1_program.proofs.lines.split_part.Goals as goal

-- The first one is at `end`: the first part is in front of it, and the other parts are those of what follows it.
pub returns-in-Some : goal.returns-in-Some
returns-in-Some c =
    let line = c.args.line.now in
    let found = position-some 32 c.in-Some.end line (sym c.in-Some.ensures) in
    let within : position_or_len (λ byte. byte == 32) line < length line = omega arith in
    rw take_rest (rw found.0 at (slice_split_first (λ byte. byte == 32) line 0 within))

-- There is none: the line is one part.
pub returns-in-None : goal.returns-in-None
returns-in-None c = parts_of-none c.args.line.now (position-none 32 c.args.line.now (sym c.in-None.ensures))
