-- `encode_info`: what `write_only` promises is so in the words of the statement.
use Rattle.std.proofs.Common.{length}
use Rattle.der_core.specs.Words.{encodes_stated}
use Rattle.pkcs8_core.specs.Words.{container_stated, info_in}
use Rattle.pkcs8_core.proofs.ContainerWrites.{container_refused}
use Rattle.pkcs8_core.proofs.info.PrivateKeyInfoOf.encode_info.Goals as goal

-- What it says of the slice.
pub returns-clause-written : goal.returns-clause-written
returns-clause-written g c =
    encodes_stated container_stated _ c.args.out.now c.write_only.new.out _ c.write_only.ensures.written

-- What it says of its error. `lemma_has_encoding` says that the container is valid.
pub returns-clause-err : goal.returns-clause-err
returns-clause-err g c =
    container_refused (info_in g.O.IdentifierValue.octets c.args.self.now) c.lemma_has_encoding.ensures
    (length c.args.out.now) c.write_only.result c.write_only.ensures.err
