-- The label of RSAES-OAEP parameters (RFC 8017 A.2.1), and what is written for it.
use Rattle.std.specs.Prelude.{ℕ, List, ◌≡◌, Option, Some, None, [], Result, if◌then◌else◌}
use Rattle.spki_core.specs.Words.{Algorithm, TagAndContents, field_printed, fields_with, octets_under}
use Rattle.pkcs1_params.specs.Parameters.{id_p_specified, octets_value, with_parameters}
use Rattle.der_core.specs.Words.{Counts}
use Rattle.der_core.specs.declared.error.Error.{Error}
use Rattle.pkcs1_params.specs.OaepValue.{labelled}
use Rattle.pkcs1_params.specs.ParameterReadings.{in_oaep_fields, oaep_kinds, source_kind}
use Rattle.standard.specs.Statement.{Algorithm, IsOaep, TagAndContents, sequence}

-- The source is pSpecified with an OCTET STRING, whose octets are the label.
abbrev pub HasLabel : Algorithm TagAndContents → List ℕ → Type 0
HasLabel source label = source ≡ with_parameters id_p_specified (octets_value label)

-- The label of a source, which is the only one, or that it has none.
abbrev pub LabelOf : Algorithm TagAndContents → Option (List ℕ) → Type 0
LabelOf source (Some label) = HasLabel source label
LabelOf source None = (label : List ℕ) → HasLabel source label → ⊥

-- The source of a label, and what is written for it.
abbrev pub source_with : List ℕ → Algorithm TagAndContents
source_with label = with_parameters id_p_specified (octets_value label)

abbrev pub written_source : List ℕ → List ℕ
written_source label =
    if source_kind.is_default (source_with label) then [] else field_printed source_kind (source_with label)

-- What is written of parameters with a label.
abbrev pub written_labelled : List ℕ → List ℕ → List ℕ
written_labelled oid label = octets_under 0 (fields_with oaep_kinds (in_oaep_fields (labelled oid label)))

-- The length of their encoding.
abbrev pub CountsLabelled : List ℕ → List ℕ → Result ℕ Error → Type 0
CountsLabelled oid label r = Counts (IsOaep (labelled oid label)) (sequence (written_labelled oid label)) r
