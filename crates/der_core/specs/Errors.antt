-- Errors: which are of files, and what is printed of one.
use Rattle.std.specs.Prelude.{◌≡◌, ℕ, ◌/◌, ◌%◌, List, [], ◌∷◌, ◌++◌, codes, false}
use Rattle.der_core.specs.declared.error.Error.{Error}
use Rattle.der_core.specs.declared.error.ErrorKind.TheVariants.{File}
use Rattle.std.specs.Fmt.{digit_glyph}
use Rattle.der_core.specs.declared.tag.Tag.{Tag}
use Rattle.der_core.specs.declared.error.ErrorKind.{ErrorKind}
use Rattle.der_core.specs.declared.error.ErrorKind.TheVariants as kind

-- a call of a file, a source or a sink failed
abbrev pub IsFile : Error → Type 0
IsFile error = error.kind ≡ File

-- 0x and two lower-case hexadecimal digits
abbrev pub octet_text : ℕ → List ℕ
octet_text octet = codes "0x" ++ (digit_glyph false (octet / 16) ∷ digit_glyph false (octet % 16) ∷ [])

abbrev pub tag_text : Tag → List ℕ
tag_text tag = octet_text tag.octet

abbrev pub kind_text : ErrorKind → List ℕ
kind_text kind.Failed = codes "an earlier read failed"
kind_text kind.Incomplete = codes "the input ends too early"
kind_text kind.IndefiniteLength = codes "the length is indefinite"
kind_text (kind.Length tag) = codes "the contents of tag " ++ tag_text tag ++ codes " have a wrong length"
kind_text (kind.Noncanonical tag) = codes "the contents of tag " ++ tag_text tag ++ codes " are not in shortest form"
kind_text kind.OidMalformed = codes "the object identifier is malformed"
kind_text kind.OidUnknown = codes "the object identifier is another one"
kind_text kind.Overflow = codes "a length passes the limit"
kind_text kind.Overlength = codes "the length is not in shortest form"
kind_text kind.ParametersMissing = codes "the algorithm parameters are missing"
kind_text (kind.TagUnexpected expected actual) =
    codes "tag " ++ tag_text expected ++ codes " was expected, " ++ tag_text actual ++ codes " was found"
kind_text (kind.TagUnknown octet) = codes "the tag octet " ++ octet_text octet ++ codes " is not known"
kind_text kind.TrailingData = codes "bytes follow the value"
kind_text (kind.Value tag) = codes "the value of tag " ++ tag_text tag ++ codes " is not allowed"
kind_text kind.NoRoom = codes "the slice has no room"
kind_text kind.File = codes "a read or a write failed"
kind_text kind.OutOfMemory = codes "no memory was found"
