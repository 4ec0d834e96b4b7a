-- Where `read_container` gave a container and the RSA key in it: `put_p8` puts what is told of the two.
use Rattle.std.proofs.Common.{refl}
use Rattle.pkcs1.specs.Words.{held_view}
use Rattle.pkcs8_core.specs.Words.{info_of}
use Rattle.pkcs1_program.specs.Words.{RsaContainerEncoding}
use Rattle.pkcs1_program.proofs.AppendedOutput.{answer_put}
use Rattle.pkcs1_program.proofs.keys.answer_p8.Goals as goal

pub returns-in-Some : goal.returns-in-Some
returns-in-Some c =
    answer_put RsaContainerEncoding c.args.encoding.now _ _ c.put_p8.result _
    (record { info = info_of c.in-Some.info; key = held_view c.in-Some.key }) _ c.in-Some.ensures.some refl
    c.put_p8.ensures
