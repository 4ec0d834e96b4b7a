-- Worked rows of reading, beside those of `ReadingsRows.antt` of `pkcs8_core`: attributes, tags, identifiers, salts.
use Rattle.std.proofs.Common.{[], ◌≡◌, refl, Ok, Err, Some, None, codes}
use Rattle.der_core.specs.Words.{alone, header_at, length_at, object_identifier_tag, tagged}
use Rattle.der_core.specs.declared.error.ErrorKind.TheVariants.{OidMalformed, TagUnknown}
use Rattle.spki_core.specs.Words.{any_front, identifier_read}
use Rattle.pkcs1_params.specs.Words.{rsa_pss_params}
use Rattle.pkcs8_core.specs.Words.{private_key_info}
use Rattle.standard.specs.Hex.{digit, hex}
use Rattle.standard.specs.Statement.{mgf1_sha1, sha1}

attributes_read : private_key_info (hex (codes "300f020100300406022a030402050aa000")) ≡ Ok (record {
  algorithm = record { oid = hex (codes "2a03"); parameters = None };
  private_key = hex (codes "050a");
  attributes = Some [];
})
unfolding hex digit header_at length_at
attributes_read = refl

subidentifier_of_80_refused : alone (tagged object_identifier_tag identifier_read) (hex (codes "06032a8001"))
    ≡ Err OidMalformed
unfolding hex digit header_at length_at
subidentifier_of_80_refused = refl

tag_32_refused : alone any_front (hex (codes "2000")) ≡ Err (TagUnknown 32)
unfolding hex digit header_at length_at
tag_32_refused = refl

salt_255_read : rsa_pss_params (hex (codes "3006a204020200ff"))
    ≡ Ok (record { hash = sha1; mask_gen = mgf1_sha1; salt_len = 255; trailer_field = 1 })
unfolding hex digit header_at length_at
salt_255_read = refl
