-- `labelled_len`, of each `label` with `len` octets (`same`). `new` makes the parameters with the empty label, `v`, and
-- `value_len` counts their fields. `source_len` counts the source after them, and `tagged_len` adds the header.
-- `valid` is that `v` may be encoded.
use Rattle.std.proofs.Common.{[], ap, subst, sym}
use Rattle.std.specs.Prelude.{⊤}
use Rattle.der_core.specs.Words.{Counts}
use Rattle.spki_core.specs.Words.{identifier_held}
use Rattle.pkcs1_params.specs.Words.{written_labelled, written_source, oaep_of, oaep_record}
use Rattle.pkcs1_params.proofs.Labels.{labelled_counted, labelled_is, labelled_written, written_before}
use Rattle.pkcs1_params.proofs.Masks.{record_is_spelled, counts_as}
use Rattle.standard.specs.Statement.{IsOaep, OaepParameters, sequence}
use Rattle.pkcs1_params.proofs.label.labelled_len.Goals as goal

pub returns : goal.returns
returns g c label bytes same =
    let oid = g.D.AssociatedOid.contents in
    let v = oaep_of c.new.result in
    let held = rw (ap (λ (v : OaepParameters). v.hash.oid) c.new.ensures) at (identifier_held c.new.result.hash.oid) in
    let valid = subst IsOaep (sym c.new.ensures) (labelled_is oid [] held tt) in
    let before =
    labelled_counted oid label v _ (record_is_spelled oaep_record v 0 valid) c.new.ensures
    c.value_len-hash_fields.ensures.counts in
    let both = c.sum_len.ensures (written_before oid) (written_source label) before (c.source_len.ensures label same) in
    counts_as (sequence (written_labelled oid label)) _ (λ _. labelled_is oid label held bytes) (λ _. tt)
    (c.tagged_len.ensures (written_labelled oid label)
    (subst (λ z. Counts ⊤ z c.sum_len.result) (sym (labelled_written oid label)) both))
