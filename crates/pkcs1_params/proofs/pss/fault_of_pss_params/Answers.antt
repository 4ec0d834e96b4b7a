-- `fault_of_pss_params`: `fault_of` finds no error exactly where `try_from` returned `Ok`, which is where the bytes are
-- an encoding.
use Rattle.pkcs1_params.proofs.Faults.{fault_told_encoded}
use Rattle.pkcs1_params.specs.Words.{pss_viewed}
use Rattle.standard.specs.Statement.{PssEncoding}
use Rattle.pkcs1_params.proofs.pss.fault_of_pss_params.Goals as goal

pub returns-clause-encodes : goal.returns-clause-encodes
returns-clause-encodes c =
    let read = c.try_from.ensures in
    fault_told_encoded PssEncoding _ pss_viewed _ _ _ c.fault_of.ensures read.exact read.read
