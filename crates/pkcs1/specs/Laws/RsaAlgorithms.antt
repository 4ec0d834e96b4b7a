-- Algorithms that the function of rsaEncryption takes and rejects.
use Rattle.std.proofs.Common.{Bool, true, false, [], ◌≡◌, ◌==◌, refl, sym, ap, ◌∙◌, Option, Some, None, Ok, Err, Decides, ◌&&◌, if◌then◌else◌, bytes_eq}
use Rattle.der_core.specs.declared.error.ErrorKind.{ErrorKind}
use Rattle.der_core.specs.declared.error.ErrorKind.TheVariants as kind
use Rattle.der_core.specs.declared.tag.Tag.{Tag}
use Rattle.der_core.specs.Words.{bytes_decide, checked_as, same_tag, TellsOfBytes, checked, is_allowed}
use Rattle.spki_core.specs.Words.{Algorithm, same_any, TagAndContents, null_value, any_decides}
use Rattle.pkcs1_params.specs.Words.{id_rsa_encryption}
use Rattle.pkcs1.specs.RsaEncryption.{null_only, rsa_only}
use Rattle.standard.specs.Statement.{rsa_encryption}

-- Algorithms that the function rejects.
null_only_refuses : (v : TagAndContents) (tag : Tag) → tag.octet ≡ v.tag → same_any v null_value ≡ false
    → null_only (Some v) ≡ Err (kind.Value tag)
null_only_refuses v tag same test =
    let allowed : is_allowed v.tag ≡ true = ap is_allowed (sym same) ∙ tag.allowed in
    let r =
    checked_as (is_allowed v.tag) (λ ok. Err (kind.Value (record { octet = v.tag; allowed = ok })))
    (Err (kind.TagUnknown v.tag)) allowed in
    rw test (r.1 ∙ ap (λ t. Err (kind.Value t)) (same_tag (record { octet = v.tag; allowed = r.0 }) tag (sym same)))

pub rsa_other : (a : Algorithm TagAndContents) (v : TagAndContents) (tag : Tag)
    → bytes_eq a.oid id_rsa_encryption ≡ true → a.parameters ≡ Some v → tag.octet ≡ v.tag
    → same_any v null_value ≡ false → rsa_only a ≡ Err (kind.Value tag)
rsa_other a v tag is some same test = rw (is, some) (null_only_refuses v tag same test)

-- Its errors are about the bytes.
null_tells : (p : Option TagAndContents) (k : ErrorKind) → null_only p ≡ Err k → TellsOfBytes k
null_tells None k e = let same : kind.ParametersMissing ≡ k = cc in (λ no. cc, λ no. cc, λ no. cc)
null_tells (Some v) k e = chosen (v.tag == 5 && bytes_eq v.contents []) (is_allowed v.tag) _ e
  where
    chosen : (b c : Bool) (of : c ≡ true → Tag)
        → (if b then Ok (tt {0}) else checked c (λ ok. Err (kind.Value (of ok))) (Err (kind.TagUnknown v.tag))) ≡ Err k
        → TellsOfBytes k
    chosen true c of e = cc
    chosen false true of e = let same : kind.Value (of refl) ≡ k = cc in (λ no. cc, λ no. cc, λ no. cc)
    chosen false false of e = let same : kind.TagUnknown v.tag ≡ k = cc in (λ no. cc, λ no. cc, λ no. cc)

pub rsa_only_tells : (a : Algorithm TagAndContents) (k : ErrorKind) → rsa_only a ≡ Err k → TellsOfBytes k
rsa_only_tells a k e = chosen (bytes_eq a.oid id_rsa_encryption) e
  where
    chosen : (b : Bool) → (if b then null_only a.parameters else Err kind.OidUnknown) ≡ Err k → TellsOfBytes k
    chosen true e = null_tells a.parameters k e
    chosen false e = let same : kind.OidUnknown ≡ k = cc in (λ no. cc, λ no. cc, λ no. cc)

pub rsa_taken : (a : Algorithm TagAndContents) → a ≡ rsa_encryption → rsa_only a ≡ Ok tt
rsa_taken a is = ap rsa_only is

null_gives : (p : Option TagAndContents) {t : Unit {0}} → null_only p ≡ Ok t → p ≡ Some null_value
null_gives None e = cc
null_gives (Some v) {t} e =
    chosen (v.tag == 5 && bytes_eq v.contents []) (is_allowed v.tag) _ (any_decides v.tag 5 v.contents []) e
  where
    chosen : (b c : Bool) (of : c ≡ true → Tag) → Decides b (v ≡ null_value)
        → (if b then Ok (tt {0}) else checked c (λ ok. Err (kind.Value (of ok))) (Err (kind.TagUnknown v.tag))) ≡ Ok t
        → Some v ≡ Some null_value
    chosen true c of d e = ap (λ x. Some x) (d.0 refl)
    chosen false true of d e = cc
    chosen false false of d e = cc

pub rsa_gives : (a : Algorithm TagAndContents) {t : Unit {0}} → rsa_only a ≡ Ok t → a ≡ rsa_encryption
rsa_gives a {t} e = chosen (bytes_eq a.oid id_rsa_encryption) (bytes_decide a.oid id_rsa_encryption) e
  where
    chosen : (b : Bool) → Decides b (a.oid ≡ id_rsa_encryption)
        → (if b then null_only a.parameters else Err kind.OidUnknown) ≡ Ok t → a ≡ rsa_encryption
    chosen true d e =
        let oid = d.0 refl in let p = null_gives a.parameters e in λ i. record { oid = oid i; parameters = p i }
    chosen false d e = cc
