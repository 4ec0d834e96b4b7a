-- `prepend_given`, in the arm of an error. Never so: `from_c_other_prime` fails only if a number can't be held, and all
-- can.
use Rattle.pkcs1_c.proofs.given_primes.prepend_given.Goals as goal

pub returns-in-Err : goal.returns-in-Err
returns-in-Err g c = absurd (c.requires.held _ c.in-Err.ensures.err)
