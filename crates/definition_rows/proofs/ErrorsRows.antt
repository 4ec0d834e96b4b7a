-- Worked rows of `Errors.antt` of `der_core` and of `pkcs1_params`: which errors are of files, and which of `der_core`.
use Rattle.std.proofs.Common.{◌≡◌, codes, refl}
use Rattle.std.specs.Prelude.{◌↔◌}
use Rattle.der_core.specs.Errors.{IsFile, kind_text, octet_text}
use Rattle.der_core.specs.Tags.{integer_tag}
use Rattle.der_core.specs.declared.error.Error as der
use Rattle.der_core.specs.declared.error.ErrorKind.TheVariants.{File, Value}
use Rattle.pkcs1_params.specs.Errors.{IsAsn1, error_text}
use Rattle.pkcs1_params.specs.declared.error.Error.TheVariants as error

error_of_file : (e : der.Error) → IsFile e ↔ (e.kind ≡ File)
error_of_file e = (λ p. p, λ p. p)

error_of_der : (P : der.Error → Type 0) (e : der.Error) → (IsAsn1 P (error.Asn1 e) ↔ P e) × (IsAsn1 P error.Crypto → ⊥)
    × (IsAsn1 P error.KeyMalformed → ⊥) × (IsAsn1 P error.Version → ⊥)
error_of_der P e = ((λ p. p, λ p. p), (λ p. p), (λ p. p), (λ p. p))

octet_in_text : octet_text 175 ≡ codes "0xaf"
octet_in_text = refl

value_in_text : kind_text (Value integer_tag) ≡ codes "the value of tag 0x02 is not allowed"
value_in_text = refl

version_in_text : error_text error.Version ≡ codes "PKCS#1 version error"
version_in_text = refl
