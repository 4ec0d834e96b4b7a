-- `note_oaep`. The fields are read in order: `behind_field` is one that was read, `field_fails` one with a fault,
-- `field_gives` one that was read where all are. Each is told its default (`with_null`, `mgf1_with`,
-- `empty_source`), its number (`new` to `new-3`), and that reading it asks for no memory (`plain_never`, `mask_never`).
-- `p` is that `?` hands the error on.
use Rattle.std.proofs.Common.{[], ◌∷◌, ◌∙◌, List, Ok, None, ap, sym, true}
use Rattle.der_core.specs.Words.{err_from_is_err_and}
use Rattle.spki_core.proofs.Noting.{field_noted, noted_first}
use Rattle.spki_core.proofs.Readings.{default_is_there, field_meant, value_if_next}
use Rattle.spki_core.specs.Words.{viewed_with, any_of, noted_on, Kind, Spelling}
use Rattle.pkcs1_params.specs.Words.{oaep_record, hash_kind, mask_kind, of_oaep_fields, oaep_kinds, source_kind}
use Rattle.pkcs1_params.proofs.ParameterReads.{behind_field, end_fails, field_fails, field_gives, mask_never, noted_fails, noted_gives, plain_never}
use Rattle.pkcs1_params.proofs.noting.note_oaep.Goals as goal

-- At the `?` behind hashAlgorithm.
pub returns-in_err-hash : goal.returns-in_err-hash
returns-in_err-hash c =
    let p = err_from_is_err_and c.from_residual.result c.from_residual.ensures.1 in
    rw (p.1, p.2)
    (noted_fails oaep_record (field_fails c.with_null-default.ensures c.new-number.ensures plain_never
    c.in_err-hash.ensures.read))

-- At the `?` behind maskGenAlgorithm.
pub returns-in_err-mask_gen : goal.returns-in_err-mask_gen
returns-in_err-mask_gen c =
    let p = err_from_is_err_and c.from_residual-in_err-mask_gen.result c.from_residual-in_err-mask_gen.ensures.1 in
    rw (p.1, p.2)
    (noted_fails oaep_record (behind_field c.with_null-default.ensures c.new-number.ensures c.in_ok-hash.ensures.read
    (field_fails c.mgf1_with-default.ensures c.new-number-2.ensures mask_never c.in_err-mask_gen.ensures.read)))

-- At the `?` behind pSourceAlgorithm.
pub returns-in_err-p_source : goal.returns-in_err-p_source
returns-in_err-p_source c =
    let p = err_from_is_err_and c.from_residual-in_err-p_source.result c.from_residual-in_err-p_source.ensures.1 in
    rw (p.1, p.2)
    (noted_fails oaep_record (behind_field c.with_null-default.ensures c.new-number.ensures c.in_ok-hash.ensures.read
    (behind_field c.mgf1_with-default.ensures c.new-number-2.ensures c.in_ok-mask_gen.ensures.read
    (field_fails c.empty_source-default.ensures c.new-number-3.ensures plain_never c.in_err-p_source.ensures.read))))

-- At the `?` behind `read_parts`: octets follow the fields.
pub returns-in_err-read_parts : goal.returns-in_err-read_parts
returns-in_err-read_parts c =
    let p = err_from_is_err_and c.from_residual-in_err-read_parts.result c.from_residual-in_err-read_parts.ensures.1 in
    rw (p.1, p.2)
    (noted_fails oaep_record (behind_field c.with_null-default.ensures c.new-number.ensures c.in_ok-hash.ensures.read
    (behind_field c.mgf1_with-default.ensures c.new-number-2.ensures c.in_ok-mask_gen.ensures.read
    (behind_field c.empty_source-default.ensures c.new-number-3.ensures c.in_ok-p_source.ensures.read
    (end_fails c.in_err-read_parts.ensures)))))

-- At the end. `first` to `third` are the contents from each field on. `found` is the spelling: each value that was read,
-- if the octet of its tag was next. `read` is that it is noted, `hash_is` and those behind it that each field of it means
-- the value that is returned, and `noted` that `note` found its first written default.
pub returns : goal.returns
returns c =
    let behind : List Kind = source_kind ∷ [] in
    let first = c.args.contents.now in
    let second = c.in_ok-hash.mask_part.now in
    let third = c.in_ok-mask_gen.source_part.now in
    let hash = viewed_with any_of c.in_ok-hash.hash in
    let mask = viewed_with (viewed_with any_of) c.in_ok-mask_gen.mask_gen in
    let source = viewed_with any_of c.in_ok-p_source.p_source in
    let found : Spelling oaep_kinds = (
      value_if_next hash_kind hash first,
      (value_if_next mask_kind mask second, (value_if_next source_kind source third, tt)),
    ) in
    let read =
    noted_gives oaep_record {s = found} (field_gives c.with_null-default.ensures c.new-number.ensures c.in_ok-hash.ensures.read
    (field_gives c.mgf1_with-default.ensures c.new-number-2.ensures c.in_ok-mask_gen.ensures.read
    (field_gives c.empty_source-default.ensures c.new-number-3.ensures c.in_ok-p_source.ensures.read
    (record { gives = c.in_ok-read_parts.ensures })))) in
    let hash_is = field_meant hash_kind (mask_kind ∷ behind) c.with_null-default.ensures c.new-number.ensures first second
    c.in_ok-hash.ensures.read in
    let mask_is = field_meant mask_kind behind c.mgf1_with-default.ensures c.new-number-2.ensures second third
    c.in_ok-mask_gen.ensures.read in
    let source_is = field_meant source_kind [] c.empty_source-default.ensures c.new-number-3.ensures third _
    c.in_ok-p_source.ensures.read in
    let noted =
    field_noted source_kind c.new-number-3.ensures source third c.is_default_source.ensures _ c.note-noted-3.ensures
    ∙ ap (noted_on 2 true (default_is_there source_kind (value_if_next source_kind source third)))
    (field_noted mask_kind c.new-number-2.ensures mask second c.is_default.ensures _ c.note-noted-2.ensures
    ∙ ap (noted_on 1 true (default_is_there mask_kind (value_if_next mask_kind mask second)))
    (field_noted hash_kind c.new-number.ensures hash first c.is_default_hash.ensures None c.note-noted.ensures))
    ∙ noted_first oaep_kinds found in
    read ∙ λ i. Ok (of_oaep_fields (hash_is i, (mask_is i, (source_is i, tt))), sym noted i)
