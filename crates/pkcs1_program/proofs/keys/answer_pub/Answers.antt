-- The output for the line is what is told of a key, or `refused` if the bytes encode none.
use Rattle.std.proofs.Common.{◌∙◌, sym}
use Rattle.der_core.specs.Words.{bytes_of}
use Rattle.pkcs1.specs.Words.{held_public_key}
use Rattle.standard.specs.Statement.{PublicKeyEncoding}
use Rattle.pkcs1_program.specs.Words.{pub_answer}
use Rattle.pkcs1_program.proofs.AppendedOutput.{key_answer_put, refusal_put}
use Rattle.pkcs1_program.proofs.keys.answer_pub.Goals as goal

-- `try_from` gave a key. The bytes are its only encoding, so they are what `again=` has to show.
pub returns-in-Ok : goal.returns-in-Ok
returns-in-Ok c =
    key_answer_put PublicKeyEncoding c.args.encoding.now _ _ c.put_pub.result pub_answer (λ v a b p q. p.1 ∙ sym q.1)
    (held_public_key bytes_of c.in-Ok.key) c.in-Ok.ensures.read.0 c.put_pub.ensures

-- `try_from` says that the bytes encode no key, and `put_refused` puts `refused`.
pub returns-in-Err : goal.returns-in-Err
returns-in-Err c =
    refusal_put PublicKeyEncoding c.args.encoding.now _ _ c.put_refused.result _ c.in-Err.ensures.read
    c.put_refused.ensures
