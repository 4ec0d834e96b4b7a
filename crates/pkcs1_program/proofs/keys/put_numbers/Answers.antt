-- One pass of the loop puts `item`, a label and a number. `put` says so, and `same` says that `as_bytes` gives the
-- octets of the number. So one item more was put.
use Rattle.std.proofs.Common.{◌++◌, ◌∙◌, ap}
use Rattle.der_core.specs.Words.{bytes_of}
use Rattle.pkcs1.specs.Words.{number_in}
use Rattle.standard.specs.Statement.{octets}
use Rattle.pkcs1_program.specs.Words.{hex_field}
use Rattle.pkcs1_program.proofs.AppendedOutput.{item_put, uint_octets_held}
use Rattle.pkcs1_program.proofs.keys.put_numbers.Goals as goal

pub loop-label-preserved : goal.loop-label-preserved
loop-label-preserved l =
    let item = l.loop-label-item.result in
    let same = l.as_bytes.ensures.number ∙ uint_octets_held item.1 in
    let put = l.in_ok-put_field.ensures in
    item_put (λ n. hex_field n.0.now (octets (number_in bytes_of n.1))) l.args.numbers.now l.loop-label.label-index item
    l.args.out.now.items l.loop-label.out.items l.put_field.new.out.items l.loop-label-test.true l.loop-label-item.is
    l.loop-label.invariant (put ∙ ap (λ b. l.loop-label.out.items ++ hex_field item.0.now b) same)
