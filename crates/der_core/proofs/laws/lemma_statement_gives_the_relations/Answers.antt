-- Each clause is a law of specs/Laws, that of one list of contents told of all.
use Rattle.std.proofs.Common.{◌≡◌, refl, ap, ◌∙◌, sym}
use Rattle.der_core.specs.Words.{integer_exact, length_octets-exact, octets_exact, tlv, tlv_exact}
use Rattle.der_core.proofs.laws.lemma_statement_gives_the_relations.Goals as goal

pub returns : goal.returns
returns c = record {
  length = length_octets-exact;
  octets = octets_exact;
  integer = integer_exact;
  tlv = λ tag contents bytes fits. (
    λ is. (tlv_exact (λ c. c ≡ contents) tag bytes fits).0 (contents, refl, is),
    λ p. let (c, same, is) = (tlv_exact (λ c. c ≡ contents) tag bytes fits).1 p in ap (tlv tag) (sym same) ∙ is,
  );
}
