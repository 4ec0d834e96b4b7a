-- Four pieces are put one behind the other: the word, the fields of the key, the attributes, and the encoding of the
-- container.
use Rattle.std.proofs.lemmas.Result.{on_ok_weaker}
use Rattle.pkcs1_program.proofs.AppendedOutput.{appended_four}
use Rattle.pkcs1_program.proofs.keys.put_p8.Goals as goal

pub returns : goal.returns
returns c =
    on_ok_weaker c.put_field.result
    (λ put. appended_four _ _ _ _ _ _ _ _ _ c.in_ok-extend_from_slice.ensures.items c.in_ok-put_key.ensures
    c.in_ok-put_attributes.ensures put) c.put_field.ensures
