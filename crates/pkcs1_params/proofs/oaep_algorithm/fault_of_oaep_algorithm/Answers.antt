-- `fault_of_oaep_algorithm`: `fault_of` finds no error exactly where `from_algorithm_der` returned `Ok`, which is where
-- the bytes are an encoding.
use Rattle.pkcs1_params.proofs.Faults.{fault_told_encoded}
use Rattle.pkcs1_params.specs.Words.{oaep_viewed}
use Rattle.standard.specs.Statement.{OaepAlgorithmEncoding}
use Rattle.pkcs1_params.proofs.oaep_algorithm.fault_of_oaep_algorithm.Goals as goal

pub returns-clause-encodes : goal.returns-clause-encodes
returns-clause-encodes c =
    let read = c.from_algorithm_der.ensures in
    fault_told_encoded OaepAlgorithmEncoding _ oaep_viewed _ _ _ c.fault_of.ensures read.exact read.read
