-- The law for `Error`, whose variant `Asn1` holds an error of `der_core`. `ghosts.eq` is what `==` gives.
use Rattle.std.proofs.Common.{◌≡◌, true, refl, ap}
use Rattle.der_core.proofs.ErrorEquality.{false_is_not_true, equality_decides, kind_equals_itself, kind_tells}
use Rattle.pkcs1_params.specs.declared.error.Error.{Error}
use Rattle.pkcs1_params.specs.declared.error.Error.TheVariants as error
use Rattle.pkcs1_params.specs.contracts.error.ErrorPartialEq.TheImpl.{ghosts}
use Rattle.pkcs1.proofs.laws.lemma_errors_compare_by_value.Goals as goal

-- An error equals itself, in `Asn1` because its kind does.
error_equals_itself : (a : Error) → ghosts.eq a a ≡ true
error_equals_itself (error.Asn1 e) = kind_equals_itself e.kind
error_equals_itself a = refl

-- Errors that are equal are the same, in `Asn1` because their kinds are. Errors of two variants aren't equal.
error_equality_tells : (a b : Error) → ghosts.eq a b ≡ true → a ≡ b
error_equality_tells (error.Asn1 e) (error.Asn1 f) same =
    ap (λ k. error.Asn1 (record { kind = k })) (kind_tells e.kind f.kind same)
error_equality_tells error.Crypto error.Crypto same = refl
error_equality_tells error.KeyMalformed error.KeyMalformed same = refl
error_equality_tells error.Version error.Version same = refl
error_equality_tells a b e = false_is_not_true e

pub returns : goal.returns
returns c = equality_decides _ error_equals_itself error_equality_tells
