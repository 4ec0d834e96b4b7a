-- `lemma_has_encoding`: the version 0 fits an octet. The identifier and the parameters of the algorithm have encodings,
-- by what their types hold, and the key and the attributes are octets.
use Rattle.std.proofs.Common.{arith}
use Rattle.der_core.specs.Words.{are_bytes, octets_of}
use Rattle.spki_core.specs.Words.{any_of, algorithm_held, any_held}
use Rattle.pkcs8_core.proofs.ContainerWrites.{attributes_held}
use Rattle.pkcs8_core.proofs.info.PrivateKeyInfoOf.lemma_has_encoding.Goals as goal
use Rattle.standard.specs.Statement.{IsAny}

pub returns : goal.returns
returns g c =
    let info = c.args.self.now in
    let key = are_bytes (octets_of info.private_key) info.private_key.octets in
    let held = attributes_held c.attributes_encoding-attributes.result in
    let attributes = rw c.attributes_encoding-attributes.ensures at held in
    let algorithm = algorithm_held g.O.IdentifierValue.octets g.met.O.IdentifierValue.identifies any_of IsAny any_held info.algorithm in
    (omega arith, (algorithm, (key, attributes)))
