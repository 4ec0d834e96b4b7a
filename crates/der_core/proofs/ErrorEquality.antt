-- What an `==` that is true tells of errors: for `lemma_kinds_compare_by_value`, and of `pkcs1`
-- `lemma_errors_compare_by_value`.
use Rattle.std.proofs.Common.{ℕ, ◌≡◌, ◌&&◌, Bool, true, false, refl, eqb, ap, subst, Decides, eqb-true, eq-eqb}
use Rattle.der_core.specs.Words.{ErrorKind, and_decides, number_decides, same_tag}
use Rattle.der_core.specs.declared.error.ErrorKind.TheVariants as kind
use Rattle.der_core.specs.contracts.error.ErrorKindPartialEq.TheImpl.{ghosts}

-- An `==` that is reflexive, and true only of the same, is equality.
pub equality_decides : {K : Type 0} (E : K → K → Bool) → ((a : K) → E a a ≡ true) → ((a b : K) → E a b ≡ true → a ≡ b)
    → (a b : K) → Decides (E a b) (a ≡ b)
equality_decides E itself tells a b = (tells a b, λ e. subst (λ x. E a x ≡ true) e (itself a))

-- Two numbers are compared with two others.
pairs_decide : (k l m n : ℕ) → Decides (eqb k m && eqb l n) ((k ≡ m) × (l ≡ n))
pairs_decide k l m n =
    and_decides (number_decides k m) (number_decides l n) (λ first second. (first, second)) (λ p. p.0) (λ p. p.1)

pub kind_equals_itself : (a : ErrorKind) → ghosts.eq a a ≡ true
kind_equals_itself (kind.Length t) = eq-eqb _ _ refl
kind_equals_itself (kind.Noncanonical t) = eq-eqb _ _ refl
kind_equals_itself (kind.TagUnexpected s t) = (pairs_decide s.octet t.octet s.octet t.octet).1 (refl, refl)
kind_equals_itself (kind.TagUnknown n) = eq-eqb _ _ refl
kind_equals_itself (kind.Value t) = eq-eqb _ _ refl
kind_equals_itself a = refl

pub false_is_not_true : {A : Type 0} → ◌≡◌ {A = Bool} false true → A
false_is_not_true e = cc

-- Kinds that compare as equal are the same.
pub kind_tells : (a b : ErrorKind) → ghosts.eq a b ≡ true → a ≡ b
kind_tells kind.Failed kind.Failed e = refl
kind_tells kind.Incomplete kind.Incomplete e = refl
kind_tells kind.IndefiniteLength kind.IndefiniteLength e = refl
kind_tells (kind.Length s) (kind.Length t) e = ap kind.Length (same_tag s t (eqb-true _ _ e))
kind_tells (kind.Noncanonical s) (kind.Noncanonical t) e = ap kind.Noncanonical (same_tag s t (eqb-true _ _ e))
kind_tells kind.OidMalformed kind.OidMalformed e = refl
kind_tells kind.OidUnknown kind.OidUnknown e = refl
kind_tells kind.Overflow kind.Overflow e = refl
kind_tells kind.Overlength kind.Overlength e = refl
kind_tells kind.ParametersMissing kind.ParametersMissing e = refl
kind_tells (kind.TagUnexpected s t) (kind.TagUnexpected u v) e =
    let same = (pairs_decide s.octet t.octet u.octet v.octet).0 e in
    λ i. kind.TagUnexpected (same_tag s u same.0 i) (same_tag t v same.1 i)
kind_tells (kind.TagUnknown m) (kind.TagUnknown n) e = ap kind.TagUnknown (eqb-true _ _ e)
kind_tells kind.TrailingData kind.TrailingData e = refl
kind_tells (kind.Value s) (kind.Value t) e = ap kind.Value (same_tag s t (eqb-true _ _ e))
kind_tells kind.NoRoom kind.NoRoom e = refl
kind_tells kind.File kind.File e = refl
kind_tells kind.OutOfMemory kind.OutOfMemory e = refl
kind_tells a b e = false_is_not_true e
