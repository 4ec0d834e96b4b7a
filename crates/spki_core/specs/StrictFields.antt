-- Fields with defaults, which are not to be written if they equal them (X.690 11.5).
use Rattle.std.specs.Prelude.{ℕ, Bool, ◌&&◌, Option, Some, None, Result, Ok, Err, if◌then◌else◌}
use Rattle.der_core.specs.Words.{context_octet, is_allowed, checked}
use Rattle.der_core.specs.declared.tag.TagNumber.{TagNumber}
use Rattle.der_core.specs.declared.error.ErrorKind.{ErrorKind}
use Rattle.der_core.specs.declared.error.ErrorKind.TheVariants.{Noncanonical, TagUnknown}

abbrev pub tag_number_in : TagNumber → ℕ
tag_number_in number = number.value

-- The error that names the tag [n].
abbrev pub noncanonical : ℕ → ErrorKind
noncanonical n =
    checked (is_allowed (context_octet n)) (λ ok. Noncanonical (record { octet = context_octet n; allowed = ok }))
    (TagUnknown (context_octet n))

-- The value, unless a default is found that is written.
abbrev pub unless_found : {V : Type 0} → Option ℕ → V → Result V ErrorKind
unless_found None v = Ok v
unless_found (Some n) v = Err (noncanonical n)

-- What is noted behind a field, which is there or not, with its default or not: the first that was noted, or this one.
abbrev pub noted_on : ℕ → Bool → Bool → Option ℕ → Option ℕ
noted_on number there default (Some first) = Some first
noted_on number there default None = if there && default then Some number else None

-- Whether what was noted is accepted: anything, or strictly nothing.
abbrev pub noted_accepted : Bool → Option ℕ → Result (Unit {0}) ErrorKind
noted_accepted strict noted = if strict then unless_found noted tt else Ok tt
