-- What functions read: other tags, a list with a fault, values that spellings mean. For
-- `from_der` of each type, `decode_as`, and `lemma_encodings_are_read`.
use Rattle.std.proofs.Common.{ℕ, false, List, ◌≡◌, arith, ◌≢◌, ◌==◌, refl, ap, ◌∙◌, Ok, Err, subst, Result}
use Rattle.der_core.specs.Words.{FrontReading, whole, Tag, AreBytes, same_tag, unexpected, contents_behind, is_allowed, checked_as, ReadsFrontAlike, ReadsFrontPrinted, Spells, Answers, Error, ok_of, value_in, values_alike, whole_alike, meant_decodes}
use Rattle.standard.specs.Statement.{Decodes}
use Rattle.der_core.specs.declared.error.ErrorKind.TheVariants.{TagUnexpected, TagUnknown}

-- Another tag than the one that is asked for.
pub unexpected_tag_read : {V : Type 0} (tag actual : Tag)
    → unexpected {V = V} tag actual.octet ≡ Err (TagUnexpected tag actual)
unexpected_tag_read tag actual =
    let r =
    checked_as (is_allowed actual.octet)
    (λ ok. Err (TagUnexpected tag (record { octet = actual.octet; allowed = ok }))) (Err (TagUnknown actual.octet))
    actual.allowed in
    r.1 ∙ ap (λ t. Err (TagUnexpected tag t)) (same_tag (record { octet = actual.octet; allowed = r.0 }) actual refl)

-- So the contents behind it aren't read.
pub contents_behind_other_tag : (tag actual : Tag) (n : ℕ) (rest : List ℕ) → actual.octet ≢ tag.octet
    → contents_behind tag ((actual.octet, n), rest) ≡ Err (TagUnexpected tag actual)
contents_behind_other_tag tag actual n rest ne =
    let no : (actual.octet == tag.octet) ≡ false = grind arith in
    rw no (unexpected_tag_read tag actual)

-- What reading a whole slice gives, of the values that spellings mean.
module _ {S V : Type 0} {valid : S → Type 0} {printed : S → List ℕ} {spelling : FrontReading S} {means : S → V}
    {at : FrontReading V} (law : ReadsFrontPrinted valid printed spelling) (alike : ReadsFrontAlike spelling means at)
  where
    -- The function that reads values decodes what is printed.
    pub values_decode : (bytes : List ℕ) → AreBytes bytes
        → Decodes (Spells valid printed means) bytes (value_in (whole at bytes))
    values_decode bytes are =
        subst (Decodes (Spells valid printed means) bytes) (values_alike (whole_alike alike) bytes)
        (meant_decodes law means bytes are)

    -- So does a call that returns what it gives.
    pub answers_decode : {X : Type 0} (value : X → V) (bytes : List ℕ) (r : Result X Error) → AreBytes bytes
        → Answers value r (whole at bytes) → Decodes (Spells valid printed means) bytes (ok_of value r)
    answers_decode value bytes (Ok x) are was =
        subst (Decodes (Spells valid printed means) bytes) (ap value_in was) (values_decode bytes are)
    answers_decode value bytes (Err e) are was =
        subst (Decodes (Spells valid printed means) bytes) (ap value_in was) (values_decode bytes are)
