-- What the line asks for is told by its parts, which are split at spaces. `request_with` and `pair_request_with` read
-- the HEX parts.
use Rattle.std.proofs.Common.{sym}
use Rattle.pkcs1_program.proofs.Runs.{asks_one, asks_two}
use Rattle.pkcs1_program.proofs.request.request_of.Goals as goal

-- The first part is a word with one HEX part, and `rest` is that part. If it has a space it is no HEX part, so the line
-- is bad for the code and for `asked_by`.
pub returns-in-Some-word_of : goal.returns-in-Some-word_of
returns-in-Some-word_of c =
    rw (asks_one c.args.line.now _ c.in-Some.rest.now c.in-Some-word_of.word (rw c.in-Some.is at c.split_part.ensures)
    (sym c.in-Some-word_of.ensures)) c.request_with.ensures

-- The first part is a word with two HEX parts. `cut` says that `split_part` cuts the first of them from `rest`. The
-- second is all that follows.
pub returns-in-Some-second : goal.returns-in-Some-second
returns-in-Some-second c =
    let cut = c.split_part-in-Some-pair_word_of.ensures in
    rw (asks_two c.args.line.now _ c.in-Some.rest.now _ c.in-Some-second.second.now c.in-Some-pair_word_of.word
    (rw c.in-Some.is at c.split_part.ensures) (rw c.in-Some-second.is at cut)
    (sym c.in-Some-pair_word_of.ensures)) c.pair_request_with.ensures
