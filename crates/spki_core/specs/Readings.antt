-- Reading identifiers, encodings of any tag and fields as functions of the bytes.
use Rattle.std.specs.Prelude.{◌==◌, ◌-◌, ◌||◌, ℕ, List, Option, Result, Ok, Err, if◌then◌else◌, nat_lt}
use Rattle.der_core.specs.declared.error.ErrorKind.{ErrorKind}
use Rattle.der_core.specs.declared.error.ErrorKind.TheVariants.{OidMalformed, TagUnknown}
use Rattle.der_core.specs.declared.tag.Tag.{Tag}
use Rattle.der_core.specs.Words.{FrontReading, Reading, alone, by_tag, checked, is_next, last, made, parts, tagged, unexpected, context_octet, is_allowed, object_identifier_tag}
use Rattle.spki_core.specs.Identifiers.{Algorithm, TagAndContents}
use Rattle.spki_core.specs.Explicit.{Numbered}
use Rattle.spki_core.specs.IdentifierTest.{is_identifier}

-- Contents of no identifier are malformed, whatever the reason is.
abbrev pub identifier_read : Reading (List ℕ)
identifier_read contents = if is_identifier contents then Ok contents else Err OidMalformed

-- An identifier, and parameters that are there or not.
abbrev pub of_algorithm_parts : {P : Type 0} → List ℕ × Option P → Algorithm P
of_algorithm_parts p = record { oid = p.0; parameters = p.1 }

abbrev pub algorithm_read : {P : Type 0} → FrontReading P → Reading (Algorithm P)
algorithm_read parameters =
    made of_algorithm_parts (parts (tagged object_identifier_tag identifier_read) (last parameters))

-- An encoding of any tag, whose contents aren't looked at.
abbrev pub opaque : ℕ → Reading TagAndContents
opaque t contents = Ok (record { tag = t; contents = contents })

abbrev pub any_front : FrontReading TagAndContents
any_front = by_tag opaque

-- The value in a tag with contents, where a type with a tag of its own is expected.
abbrev pub any_as : {V : Type 0} → Tag → Reading V → TagAndContents → Result V ErrorKind
any_as tag read v = if v.tag == tag.octet then read v.contents else unexpected tag v.tag

-- A value inside an explicit tag of any number.
abbrev pub numbered_in : {V : Type 0} → FrontReading V → ℕ → Reading (Numbered V)
numbered_in at t c =
    if nat_lt t 160 || nat_lt 190 t then Err (TagUnknown t)
    else made (λ v. record { number = t - 160; value = v }) (alone at) c

abbrev pub numbered : {V : Type 0} → FrontReading V → FrontReading (Numbered V)
numbered at = by_tag (numbered_in at)

-- The tag [n] with one encoding inside.
abbrev pub explicit : {V : Type 0} → ℕ → FrontReading V → FrontReading V
explicit n at bytes =
    checked (is_allowed (context_octet n))
    (λ ok. tagged (record { octet = context_octet n; allowed = ok }) (alone at) bytes)
    (Err (TagUnknown (context_octet n)))

-- A field with a default, which it has if its octet isn't next.
abbrev pub defaulted : {V : Type 0} → ℕ → FrontReading V → V → FrontReading V
defaulted n at default bytes = if is_next (context_octet n) bytes then explicit n at bytes else Ok (default, bytes)
