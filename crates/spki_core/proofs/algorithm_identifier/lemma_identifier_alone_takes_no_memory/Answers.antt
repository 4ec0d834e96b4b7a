-- An encoding `b` in front that asks for memory holds an identifier `o` and octets `last` of parameters, at least one.
-- The whole encoding holds the identifier `oid` alone, so `b` is all of it, and `last` is empty. `held.4` is that an
-- identifier has at most 39 octets.
use Rattle.std.proofs.Common.{◌≡◌, [], ◌++◌, ◌≤◌, length, refl, sym, subst, ap, ◌∙◌, arith, append-nil}
use Rattle.der_core.specs.Words.{IsExactly, tlv_split, tlv_made, prints_one, tagged_law, tlv_short, object_identifier_tag, Tlv, tlv}
use Rattle.spki_core.specs.Words.{oid_law}
use Rattle.spki_core.proofs.algorithm_identifier.lemma_identifier_alone_takes_no_memory.Goals as goal

pub returns : goal.returns
returns g c oid encoding held same (b, rest, is, asks) =
    let few : length (tlv 6 oid) ≤ 167 = tlv_short 6 39 oid held.4 (omega arith) in
    let alone : Tlv 48 (IsExactly (tlv 6 oid)) encoding =
    subst (Tlv 48 (IsExactly (tlv 6 oid))) (sym same)
    (tlv_made 48 (tlv 6 oid) refl (omega (arith, tlv_short 48 167 (tlv 6 oid) few (omega arith)))) in
    let (_, _, _, c, only, (other, (front, last, (o, e, identifier, printed), (more, _), split))) =
    tlv_split encoding [] b rest alone asks (append-nil encoding ∙ is) in
    let both : tlv 6 oid ++ [] ≡ tlv 6 o ++ last =
    append-nil (tlv 6 oid) ∙ sym only ∙ split ∙ ap (λ x. x ++ last) printed in
    let one =
    prints_one (tagged_law oid_law object_identifier_tag) oid o [] last held identifier
    (omega (arith, ap length (append-nil (tlv 6 oid)))) both in
    omega (arith, ap length one.1)
