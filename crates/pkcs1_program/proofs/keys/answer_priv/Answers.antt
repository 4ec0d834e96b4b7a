-- The output for the line is what is told of a key, or `refused` if the bytes encode none.
use Rattle.std.proofs.Common.{◌∙◌, sym}
use Rattle.pkcs1.specs.Words.{held_view}
use Rattle.standard.specs.Statement.{PrivateKeyEncoding}
use Rattle.pkcs1_program.specs.Words.{priv_answer}
use Rattle.pkcs1_program.proofs.AppendedOutput.{key_answer_put, refusal_put}
use Rattle.pkcs1_program.proofs.keys.answer_priv.Goals as goal

-- `try_from` gave a view of a key. The bytes of the view are its only encoding, so they are what `again=` has to show.
pub returns-in-Ok : goal.returns-in-Ok
returns-in-Ok c =
    key_answer_put PrivateKeyEncoding c.args.encoding.now _ _ c.put_priv.result priv_answer (λ v a b p q. p.2 ∙ sym q.2)
    (held_view c.in-Ok.key) c.in-Ok.ensures.read.0 (rw c.in-Ok.ensures.bytes at c.put_priv.ensures)

-- `try_from` says that the bytes encode no key, and `put_refused` puts `refused`.
pub returns-in-Err : goal.returns-in-Err
returns-in-Err c =
    refusal_put PrivateKeyEncoding c.args.encoding.now _ _ c.put_refused.result _ c.in-Err.ensures.read
    c.put_refused.ensures
