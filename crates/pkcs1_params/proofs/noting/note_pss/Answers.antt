-- `note_pss`. The fields are read in order: `behind_field` is one that was read, `field_fails` one with a fault,
-- `field_gives` one that was read where all are. Each is told its default (`with_null`, `mgf1_with`, `refl` for a
-- number), its number (`new` to `new-4`), and that reading it asks for no memory (`plain_never`, `mask_never`,
-- `number_never`). `p` is that `?` hands the error on.
use Rattle.std.proofs.Common.{[], ◌∷◌, ◌∙◌, List, Ok, None, ap, refl, sym, true}
use Rattle.der_core.specs.Words.{err_from_is_err_and}
use Rattle.spki_core.proofs.Noting.{field_noted, noted_first}
use Rattle.spki_core.proofs.Readings.{default_is_there, field_meant, value_if_next}
use Rattle.spki_core.specs.Words.{viewed_with, any_of, noted_on, Kind, Spelling}
use Rattle.pkcs1_params.specs.Words.{pss_record, hash_kind, mask_kind, of_pss_fields, pss_kinds, salt_kind, trailer_kind}
use Rattle.pkcs1_params.proofs.ParameterReads.{behind_field, end_fails, field_fails, field_gives, mask_never, noted_fails, noted_gives, number_never, plain_never}
use Rattle.pkcs1_params.proofs.noting.note_pss.Goals as goal

-- At the `?` behind hashAlgorithm.
pub returns-in_err-hash : goal.returns-in_err-hash
returns-in_err-hash c =
    let p = err_from_is_err_and c.from_residual.result c.from_residual.ensures.1 in
    rw (p.1, p.2)
    (noted_fails pss_record (field_fails c.with_null-default.ensures c.new-number.ensures plain_never
    c.in_err-hash.ensures.read))

-- At the `?` behind maskGenAlgorithm.
pub returns-in_err-mask_gen : goal.returns-in_err-mask_gen
returns-in_err-mask_gen c =
    let p = err_from_is_err_and c.from_residual-in_err-mask_gen.result c.from_residual-in_err-mask_gen.ensures.1 in
    rw (p.1, p.2)
    (noted_fails pss_record (behind_field c.with_null-default.ensures c.new-number.ensures c.in_ok-hash.ensures.read
    (field_fails c.mgf1_with-default.ensures c.new-number-2.ensures mask_never c.in_err-mask_gen.ensures.read)))

-- At the `?` behind saltLength.
pub returns-in_err-salt_len : goal.returns-in_err-salt_len
returns-in_err-salt_len c =
    let p = err_from_is_err_and c.from_residual-in_err-salt_len.result c.from_residual-in_err-salt_len.ensures.1 in
    rw (p.1, p.2)
    (noted_fails pss_record (behind_field c.with_null-default.ensures c.new-number.ensures c.in_ok-hash.ensures.read
    (behind_field c.mgf1_with-default.ensures c.new-number-2.ensures c.in_ok-mask_gen.ensures.read
    (field_fails refl c.new-number-3.ensures number_never c.in_err-salt_len.ensures.read))))

-- At the `?` behind trailerField.
pub returns-in_err-trailer_field : goal.returns-in_err-trailer_field
returns-in_err-trailer_field c =
    let told = c.from_residual-in_err-trailer_field in
    let p = err_from_is_err_and told.result told.ensures.1 in
    rw (p.1, p.2)
    (noted_fails pss_record (behind_field c.with_null-default.ensures c.new-number.ensures c.in_ok-hash.ensures.read
    (behind_field c.mgf1_with-default.ensures c.new-number-2.ensures c.in_ok-mask_gen.ensures.read
    (behind_field refl c.new-number-3.ensures c.in_ok-salt_len.ensures.read
    (field_fails refl c.new-number-4.ensures number_never c.in_err-trailer_field.ensures.read)))))

-- At the `?` behind `read_parts`: octets follow the fields.
pub returns-in_err-read_parts : goal.returns-in_err-read_parts
returns-in_err-read_parts c =
    let p = err_from_is_err_and c.from_residual-in_err-read_parts.result c.from_residual-in_err-read_parts.ensures.1 in
    rw (p.1, p.2)
    (noted_fails pss_record (behind_field c.with_null-default.ensures c.new-number.ensures c.in_ok-hash.ensures.read
    (behind_field c.mgf1_with-default.ensures c.new-number-2.ensures c.in_ok-mask_gen.ensures.read
    (behind_field refl c.new-number-3.ensures c.in_ok-salt_len.ensures.read
    (behind_field refl c.new-number-4.ensures c.in_ok-trailer_field.ensures.read
    (end_fails c.in_err-read_parts.ensures))))))

-- At the end. `first` to `fourth` are the contents from each field on. `found` is the spelling: each value that was read,
-- if the octet of its tag was next. `read` is that it is noted, `hash_is` and those behind it that each field of it means
-- the value that is returned, and `noted` that `note` found its first written default.
pub returns : goal.returns
returns c =
    let last : List Kind = trailer_kind ∷ [] in
    let first = c.args.contents.now in
    let second = c.in_ok-hash.mask_part.now in
    let third = c.in_ok-mask_gen.salt_part.now in
    let fourth = c.in_ok-salt_len.last_part.now in
    let hash = viewed_with any_of c.in_ok-hash.hash in
    let mask = viewed_with (viewed_with any_of) c.in_ok-mask_gen.mask_gen in
    let salt = c.in_ok-salt_len.salt_len in
    let found : Spelling pss_kinds = (
      value_if_next hash_kind hash first,
      (
        value_if_next mask_kind mask second,
        (value_if_next salt_kind salt third, (value_if_next trailer_kind 1 fourth, tt)),
      ),
    ) in
    let read =
    noted_gives pss_record {s = found} (field_gives c.with_null-default.ensures c.new-number.ensures c.in_ok-hash.ensures.read
    (field_gives c.mgf1_with-default.ensures c.new-number-2.ensures c.in_ok-mask_gen.ensures.read
    (field_gives refl c.new-number-3.ensures c.in_ok-salt_len.ensures.read
    (field_gives refl c.new-number-4.ensures c.in_ok-trailer_field.ensures.read
    (record { gives = c.in_ok-read_parts.ensures }))))) in
    let hash_is = field_meant hash_kind (mask_kind ∷ salt_kind ∷ last) c.with_null-default.ensures c.new-number.ensures first second
    c.in_ok-hash.ensures.read in
    let mask_is = field_meant mask_kind (salt_kind ∷ last) c.mgf1_with-default.ensures c.new-number-2.ensures second third
    c.in_ok-mask_gen.ensures.read in
    let salt_is = field_meant salt_kind last refl c.new-number-3.ensures third fourth c.in_ok-salt_len.ensures.read in
    let one = field_meant trailer_kind [] refl c.new-number-4.ensures fourth _ c.in_ok-trailer_field.ensures.read in
    let noted =
    field_noted trailer_kind c.new-number-4.ensures 1 fourth refl _ c.note-noted-4.ensures
    ∙ ap (noted_on 3 true (default_is_there trailer_kind (value_if_next trailer_kind 1 fourth)))
    (field_noted salt_kind c.new-number-3.ensures salt third refl _ c.note-noted-3.ensures
    ∙ ap (noted_on 2 true (default_is_there salt_kind (value_if_next salt_kind salt third)))
    (field_noted mask_kind c.new-number-2.ensures mask second c.is_default.ensures _ c.note-noted-2.ensures
    ∙ ap (noted_on 1 true (default_is_there mask_kind (value_if_next mask_kind mask second)))
    (field_noted hash_kind c.new-number.ensures hash first c.is_default_hash.ensures None c.note-noted.ensures)))
    ∙ noted_first pss_kinds found in
    read ∙ λ i. Ok (of_pss_fields (hash_is i, (mask_is i, (salt_is i, (one i, tt)))), sym noted i)
