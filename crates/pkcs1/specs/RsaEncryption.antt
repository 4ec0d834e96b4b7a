-- The algorithm identifier of RSA keys: rsaEncryption with NULL (RFC 8017 A.1), or the kind of the first fault.
use Rattle.std.specs.Prelude.{[], ◌==◌, ◌&&◌, Option, Some, None, Result, Ok, Err, if◌then◌else◌, bytes_eq}
use Rattle.der_core.specs.declared.error.ErrorKind.{ErrorKind}
use Rattle.der_core.specs.declared.error.ErrorKind.TheVariants as kind
use Rattle.der_core.specs.Words.{checked, is_allowed}
use Rattle.spki_core.specs.Words.{Algorithm, TagAndContents}
use Rattle.pkcs1_params.specs.Words.{id_rsa_encryption}

abbrev pub null_only : Option TagAndContents → Result (Unit {0}) ErrorKind
null_only None = Err kind.ParametersMissing
null_only (Some v) =
    if v.tag == 5 && bytes_eq v.contents [] then Ok tt
    else checked (is_allowed v.tag) (λ ok. Err (kind.Value (record { octet = v.tag; allowed = ok })))
    (Err (kind.TagUnknown v.tag))

abbrev pub rsa_only : Algorithm TagAndContents → Result (Unit {0}) ErrorKind
rsa_only a = if bytes_eq a.oid id_rsa_encryption then null_only a.parameters else Err kind.OidUnknown
