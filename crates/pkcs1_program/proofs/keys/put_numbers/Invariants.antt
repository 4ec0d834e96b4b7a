-- The loop of `put_numbers`: so many of the numbers were put.
use Rattle.std.proofs.Common.{◌≡◌, ◌++◌, take, flat_map}
use Rattle.der_core.specs.Words.{bytes_of}
use Rattle.pkcs1.specs.Words.{number_in}
use Rattle.standard.specs.Statement.{octets}
use Rattle.pkcs1_program.specs.Words.{hex_field}
use Rattle.pkcs1_program.proofs.keys.put_numbers.Given as goal

abbrev pub invariant-loop-label : goal.invariant-loop-label
invariant-loop-label l =
    l.out.items
    ≡ l.fn.out.items ++ flat_map (λ n. hex_field n.0.now (octets (number_in bytes_of n.1)))
    (take l.label-index l.numbers)
