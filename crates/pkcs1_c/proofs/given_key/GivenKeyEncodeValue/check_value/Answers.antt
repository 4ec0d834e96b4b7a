-- `check_value` of `GivenKey`, whose field 0 is the key: each key that is given has contents.
use Rattle.pkcs1_c.proofs.GivenRows.{given_key_valid}
use Rattle.pkcs1_c.proofs.given_key.GivenKeyEncodeValue.check_value.Goals as goal

pub returns-clause-checks : goal.returns-clause-checks
returns-clause-checks c = given_key_valid c.args.self.now.0
