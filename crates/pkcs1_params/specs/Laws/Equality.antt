-- Equality in the code of algorithm identifiers whose parameters are tags with contents, and of parameters, by that of
-- their fields.
use Rattle.std.proofs.Common.{Bool, true, ◌≡◌, ◌&&◌, eqb, refl, ap, Decides, bytes_eq}
use Rattle.std.specs.Option.{option_eq}
use Rattle.der_core.specs.Words.{and_decides, number_decides}
use Rattle.spki_core.specs.Words.{algorithm_decides, algorithm_with, own_octets_of}
use Rattle.spki_core.specs.declared.algorithm_identifier.AlgorithmIdentifierOf.{AlgorithmIdentifierOf}
use Rattle.spki_core.specs.declared.object_identifier.ObjectIdentifier.{ObjectIdentifier}
use Rattle.pkcs1_params.specs.Parameters.{PssParameters, OaepParameters}

-- What decides whether two identifiers are equal.
abbrev pub eq_with : {X : Type 0} → (X → X → Bool) → AlgorithmIdentifierOf ObjectIdentifier X
    → AlgorithmIdentifierOf ObjectIdentifier X → Bool
eq_with E a b = bytes_eq (own_octets_of a.oid) (own_octets_of b.oid) && option_eq E a.parameters b.parameters

pub plain_decides : {X V : Type 0} (any : X → V) (E : X → X → Bool) → ((x y : X) → Decides (E x y) (any x ≡ any y))
    → (a b : AlgorithmIdentifierOf ObjectIdentifier X)
    → Decides (eq_with E a b) (algorithm_with any a ≡ algorithm_with any b)
plain_decides any E d a b =
    algorithm_decides any E d (own_octets_of a.oid) (own_octets_of b.oid) a.parameters b.parameters

pub mask_decides : {X V : Type 0} (any : X → V) (E : X → X → Bool) → ((x y : X) → Decides (E x y) (any x ≡ any y))
    → (a b : AlgorithmIdentifierOf ObjectIdentifier (AlgorithmIdentifierOf ObjectIdentifier X))
    → Decides (eq_with (eq_with E) a b) (algorithm_with (algorithm_with any) a ≡ algorithm_with (algorithm_with any) b)
mask_decides any E d = plain_decides (algorithm_with any) (eq_with E) (plain_decides any E d)

pair_decides : {A B : Type 0} {a b : Bool} → Decides a A → Decides b B → Decides (a && b) (A × B)
pair_decides p q = and_decides p q (λ s u. (s, u)) (λ w. w.0) (λ w. w.1)

held_decides : {A : Type 0} → A → Decides true A
held_decides a = (λ _. a, λ _. refl)

pub pss_decides : {h g : Bool} (a b : PssParameters) → Decides h (a.hash ≡ b.hash) → Decides g (a.mask_gen ≡ b.mask_gen)
    → a.trailer_field ≡ b.trailer_field
    → Decides (h && (g && (eqb a.salt_len b.salt_len && true))) (a ≡ b)
pss_decides a b p q t =
    and_decides p (pair_decides q (pair_decides (number_decides a.salt_len b.salt_len) (held_decides t)))
    (λ hash rest. λ i. record { hash = hash i; mask_gen = rest.0 i; salt_len = rest.1.0 i; trailer_field = rest.1.1 i })
    (λ e. ap (λ (v : PssParameters). v.hash) e)
    (λ e. (
      ap (λ (v : PssParameters). v.mask_gen) e,
      (ap (λ (v : PssParameters). v.salt_len) e, ap (λ (v : PssParameters). v.trailer_field) e),
    ))

pub oaep_decides : {h g s : Bool} (a b : OaepParameters) → Decides h (a.hash ≡ b.hash)
    → Decides g (a.mask_gen ≡ b.mask_gen) → Decides s (a.p_source ≡ b.p_source) → Decides (h && (g && s)) (a ≡ b)
oaep_decides a b p q r =
    and_decides p (pair_decides q r)
    (λ hash rest. λ i. record { hash = hash i; mask_gen = rest.0 i; p_source = rest.1 i })
    (λ e. ap (λ (v : OaepParameters). v.hash) e)
    (λ e. (ap (λ (v : OaepParameters). v.mask_gen) e, ap (λ (v : OaepParameters). v.p_source) e))
