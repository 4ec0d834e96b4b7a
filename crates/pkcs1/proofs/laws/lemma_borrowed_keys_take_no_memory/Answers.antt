-- No number that is borrowed asks for memory, and nothing stands behind the eight numbers of a key of two primes.
use Rattle.std.proofs.Common.{ap, option_map, map}
use Rattle.pkcs1.specs.Words.{integer_law, other_from, private_from, private_spells}
use Rattle.pkcs1.proofs.KeyMemory.{borrowed_ask, none_in_public, two_primes_ask}
use Rattle.pkcs1.proofs.laws.lemma_borrowed_keys_take_no_memory.Goals as goal

pub returns : goal.returns
returns g c = record {
  public = λ bytes asked. none_in_public asked.3.contents asked.3.holds;
  two_primes = λ key bytes two encoded asked.
      two_primes_ask integer_law (λ n. n) _ (private_from key) (ap (option_map (map other_from)) two) borrowed_ask bytes
      (private_spells key bytes encoded) asked;
}
