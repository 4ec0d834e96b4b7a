-- Parameters that have an encoding can be held. For the calls that write parameters, and the octets that a header adds.
use Rattle.std.proofs.Common.{ℕ, List, [], ◌∷◌, ◌++◌, ◌≡◌, ◌≤◌, length, length-append, refl, sym, subst, ap, arith, rules, ◌+◌, true, inl, inr, Option, Some, None}
use Rattle.der_core.proofs.Lengths.{length_octets-4}
use Rattle.der_core.specs.Words.{length_octets, octets_grow, tlv_fit, is_allowed}
use Rattle.pkcs1_params.specs.Words.{mgf1_identifier, pss_lawful, source_identifier}
use Rattle.spki_core.specs.Words.{field}
use Rattle.standard.specs.Statement.{Algorithm, Field, Fields, IfPresent, IsAlgorithm, IsAny, IsIdentifier, OaepEncoding, OaepParameters, PssEncoding, PssParameters, TagAndContents, algorithm, any, empty_label, integer, limit, mgf1_sha1, optional, sha1, tlv}
use Rattle.pkcs1_c.specs.Words.{NoStatus, AlgorithmError, AnyError, HashFieldsThen, MaskError, OaepFieldError, OidError, OptionError, PlainError, PssFieldError}
use Rattle.pkcs1_c.proofs.StructErrors.{part_none}

-- A value with an encoding within the limit has none of the errors.
record HasNoErrorWhereEncoded {V : Type 0} (Is : V → Type 0) (encoding : V → List ℕ)
    (WhyNot : V → ℕ → Type 0) : Type 0 where
  none : (v : V) → Is v → length (encoding v) ≤ limit → NoStatus (WhyNot v)

-- An encoding of any tag, and algorithms over it.
any_fits : HasNoErrorWhereEncoded IsAny any AnyError
any_fits = record { none = λ v ok few s p. let fit = tlv_fit v.tag v.contents in grind arith }

algorithm_parts_fit : {P : Type 0} (WhyNot : P → ℕ → Type 0) (a : Algorithm P) → IsIdentifier a.oid
    → NoStatus (OptionError WhyNot a.parameters) → NoStatus (AlgorithmError WhyNot a)
algorithm_parts_fit WhyNot a is = part_none (OidError a.oid) (OptionError WhyNot a.parameters) (λ s q. q.1 is)

module _ {P : Type 0} {Is : P → Type 0} {encoding : P → List ℕ} {WhyNot : P → ℕ → Type 0}
    (fit : HasNoErrorWhereEncoded Is encoding WhyNot) where
  option_fits : (o : Option P) → IfPresent Is o → length (optional encoding o) ≤ limit → NoStatus (OptionError WhyNot o)
  option_fits None ok few s q = q
  option_fits (Some v) ok few s q = fit.none v ok few s q

  algorithm_fits : HasNoErrorWhereEncoded (IsAlgorithm Is) (algorithm encoding) (AlgorithmError WhyNot)
  algorithm_fits = record {
    none = λ a ok few.
        let front = tlv 6 a.oid in
        let back = optional encoding a.parameters in
        algorithm_parts_fit WhyNot a ok.0
        (option_fits a.parameters ok.1 (omega (arith, tlv_fit 48 (front ++ back), length-append front back)));
  }

plain_fits : HasNoErrorWhereEncoded (IsAlgorithm IsAny) (algorithm any) PlainError
plain_fits = algorithm_fits any_fits

mask_gen_fits : HasNoErrorWhereEncoded (IsAlgorithm (IsAlgorithm IsAny)) (algorithm (algorithm any)) MaskError
mask_gen_fits = algorithm_fits plain_fits

-- The defaults can be held.
empty_fits : (tag : ℕ) → is_allowed tag ≡ true → NoStatus (AnyError (record { tag = tag; contents = [] }))
empty_fits tag allowed s p = grind arith

sha1_fits : NoStatus (PlainError sha1)
sha1_fits = algorithm_parts_fit AnyError sha1 pss_lawful.3.0 (empty_fits 5 refl)

mgf1_fits : NoStatus (MaskError mgf1_sha1)
mgf1_fits = algorithm_parts_fit PlainError mgf1_sha1 mgf1_identifier sha1_fits

empty_label_fits : NoStatus (PlainError empty_label)
empty_label_fits = algorithm_parts_fit AnyError empty_label source_identifier (empty_fits 4 refl)

-- A field that is first in contents within the limit, and what is behind it.
module _ {V : Type 0} {Is : V → Type 0} {encoding : V → List ℕ} {WhyNot : V → ℕ → Type 0}
    (fit : HasNoErrorWhereEncoded Is encoding WhyNot) (number : ℕ) (default v : V) (none : NoStatus (WhyNot default))
    (ok : Is v)
    (later : List Field) where
  field_fits : (c : List ℕ) → Fields (field number encoding default v ∷ later) c → length c ≤ limit
      → NoStatus (WhyNot v) × (d : List ℕ) × Fields later d × (length d ≤ limit)
  field_fits c (inl p) few = (subst (λ u. NoStatus (WhyNot u)) (sym p.0) none, c, p.1, few)
  field_fits c (inr (d, e, rest)) few =
      let octets = tlv (160 + number) (encoding v) in
      let l = ap length e in
      let k = length-append octets d in (
        fit.none v ok (omega (arith, tlv_fit (160 + number) (encoding v))),
        d,
        rest,
        omega arith,
      )

-- The fields that both begin with, if so does what is behind them.
hash_fit : (hash : Algorithm TagAndContents) (mask : Algorithm (Algorithm TagAndContents)) → IsAlgorithm IsAny hash
    → IsAlgorithm (IsAlgorithm IsAny) mask → (later : List Field) (Rest : ℕ → Type 0)
    → ((d : List ℕ) → Fields later d → length d ≤ limit → NoStatus Rest) → (c : List ℕ)
    → Fields (field 0 (algorithm any) sha1 hash ∷ field 1 (algorithm (algorithm any)) mgf1_sha1 mask ∷ later) c
    → length c ≤ limit → NoStatus (HashFieldsThen hash mask Rest)
hash_fit hash mask is_hash is_mask later Rest rest c p few =
    let second = field 1 (algorithm (algorithm any)) mgf1_sha1 mask ∷ later in
    let (a, d, q, fewer) = field_fits plain_fits 0 sha1 hash sha1_fits is_hash second c p few in
    let (b, r, behind, last) = field_fits mask_gen_fits 1 mgf1_sha1 mask mgf1_fits is_mask later d q fewer in
    search (rules, part_none)

-- So parameters with an encoding have no field that can't be held.
pub pss_fits : (p : PssParameters) (bytes : List ℕ) → PssEncoding p bytes → NoStatus (PssFieldError p)
pss_fits p bytes (ok, few, c, held, is) =
    hash_fit p.hash p.mask_gen ok.0 ok.1 (field 2 integer 20 p.salt_len ∷ field 3 integer 1 p.trailer_field ∷ []) _
    (λ _ _ _ s told. told.1 ok.3) c held (omega (arith, ap length is, tlv_fit 48 c))

pub oaep_fits : (p : OaepParameters) (bytes : List ℕ) → OaepEncoding p bytes → NoStatus (OaepFieldError p)
oaep_fits p bytes (ok, few, c, held, is) =
    hash_fit p.hash p.mask_gen ok.0 ok.1 (field 2 (algorithm any) empty_label p.p_source ∷ []) (PlainError p.p_source)
    (λ d q fewer. (field_fits plain_fits 2 empty_label p.p_source empty_label_fits ok.2 [] d q fewer).0) c held
    (omega (arith, ap length is, tlv_fit 48 c))

-- A tag and a length are 6 octets at most.
pub tlv_adds_at_most_six : (tag : ℕ) (c : List ℕ) → length (tlv tag c) ≤ limit → length (tlv tag c) ≤ length c + 6
tlv_adds_at_most_six tag c few =
    let whole = length-append (length_octets (length c)) c in
    let most = octets_grow (length c) limit (omega arith) (omega arith) in
    omega (arith, ap length (length_octets-4 limit (omega arith) (omega arith)))
