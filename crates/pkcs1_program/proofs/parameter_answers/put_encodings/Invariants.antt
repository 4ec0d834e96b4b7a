-- The loop of `put_encodings`: so many of the encodings were put.
use Rattle.std.proofs.Common.{◌≡◌, ◌++◌, take, codes, flat_map}
use Rattle.pkcs1_program.specs.Words.{hex_field}
use Rattle.pkcs1_program.proofs.parameter_answers.put_encodings.Given as goal

abbrev pub invariant-loop-encoding : goal.invariant-loop-encoding
invariant-loop-encoding l =
    l.out.items ≡ l.fn.out.items
    ++ flat_map (λ encoding. hex_field (codes " ") encoding.items) (take l.encoding-index l.encodings)
