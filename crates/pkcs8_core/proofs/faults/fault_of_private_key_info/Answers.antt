-- The result is `None` exactly if the bytes encode a container: by what `try_from` says of them, in its arms `Ok` and
-- `Err`.
use Rattle.std.proofs.Common.{Ok, Err}
use Rattle.pkcs1_params.specs.Words.{fault_in_none}
use Rattle.standard.specs.Statement.{Container, ContainerEncoding}
use Rattle.pkcs8_core.proofs.faults.fault_of_private_key_info.Goals as goal

pub returns-in-Ok-clause-encodes : goal.returns-in-Ok-clause-encodes
returns-in-Ok-clause-encodes c =
    fault_in_none {V = Container} ContainerEncoding c.args.bytes.now (Ok _) c.in-Ok.ensures.read

pub returns-in-Err-clause-encodes : goal.returns-in-Err-clause-encodes
returns-in-Err-clause-encodes c =
    fault_in_none {V = Container} ContainerEncoding c.args.bytes.now (Err _) c.in-Err.ensures.read
