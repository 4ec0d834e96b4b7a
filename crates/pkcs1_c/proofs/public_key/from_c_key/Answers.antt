-- `from_c_key`: at Ok both calls of `number` have said that their number can be held.
use Rattle.std.proofs.Common.{rules}
use Rattle.pkcs1_c.specs.Words.{two_numbers}
use Rattle.pkcs1_c.proofs.StructErrors.{numbers_none_held}
use Rattle.pkcs1_c.proofs.public_key.from_c_key.Goals as goal

pub returns-clause-held : goal.returns-clause-held
returns-clause-held c = numbers_none_held (two_numbers c.args.key.now) (search rules)
