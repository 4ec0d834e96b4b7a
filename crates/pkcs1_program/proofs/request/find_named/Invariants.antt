-- The loop of `find_named`: the rows so far have other names.
use Rattle.std.proofs.Common.{◌≡◌, drop, map}
use Rattle.pkcs1_program.specs.Words.{value_named}
use Rattle.pkcs1_program.proofs.request.find_named.Given as goal

abbrev pub invariant-loop-other : goal.invariant-loop-other
invariant-loop-other g l =
    value_named (map (λ row. (row.0.now, row.1)) l.rows) l.name
    ≡ value_named (map (λ row. (row.0.now, row.1)) (drop l.other-index l.rows)) l.name
