-- Three pieces are put one behind the other: the word, the fields of the key, and the bytes of the view.
use Rattle.std.proofs.lemmas.Result.{on_ok_weaker}
use Rattle.pkcs1_program.proofs.AppendedOutput.{appended_three}
use Rattle.pkcs1_program.proofs.keys.put_priv.Goals as goal

pub returns : goal.returns
returns c =
    on_ok_weaker c.put_field.result
    (λ put. appended_three _ _ _ _ _ _ _ c.in_ok-extend_from_slice.ensures.items c.in_ok-put_key.ensures put)
    (rw c.as_bytes.ensures at c.put_field.ensures)
