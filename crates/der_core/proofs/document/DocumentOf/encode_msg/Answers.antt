-- What `write_over` wrote fills the vector, which has as many octets as `encoded_len` counted: so it holds the
-- encoding. Of the clause `counted`, `.0` is that the message is valid, `.1` that the length is its encoding's, and
-- within the limit.
use Rattle.std.proofs.Common.{◌∙◌, ◌≡◌, ◌≤◌, ◌++◌, length, take, drop, sym, subst, ap, arith}
use Rattle.der_core.specs.Words.{AreBytes, limit, tlv, IsDocument, written_is_shortest, tagged_shortest, Spells}
use Rattle.der_core.proofs.Documents.{front_written_over, written_document}
use Rattle.der_core.proofs.document.DocumentOf.encode_msg.Goals as goal
use Rattle.standard.specs.Statement.{IsShortest}

-- The document is one whole SEQUENCE. 48 is the octet of this tag, which each message has by `is_sequence`.
pub invariant_of-result : goal.invariant_of-result
invariant_of-result g c =
    let t = g.T.Contents in
    let contents = t.printed (t.written (t.value c.args.message.now)) in
    let tag = g.T.FixedTag.TAG.octet in
    let encoding = tlv tag contents in
    let same : take c.in_ok-bytes.bytes.len
    (c.write_over.new.out ++ drop (length c.write_over.new.out) c.in_ok-bytes.bytes.items) ≡ encoding =
    front_written_over _ _ _ encoding c.write_over.ensures
    (c.in_ok-bytes.ensures.len ∙ c.to_usize-length.ensures.value ∙ c.in_ok-encoded_len.ensures.counted.1) in
    let fits : length encoding ≤ limit = omega (arith, c.in_ok-encoded_len.ensures.counted) in
    let claim : g.claim c.lifetimes = assumption in
    let is : tag ≡ 48 = ap (λ x. x.octet) (g.met.T.Sequence c.lifetimes claim).is_sequence in
    let bytes = subst AreBytes (c.as_slice.ensures.value ∙ same) c.lemma_are_bytes.ensures in
    record { whole = subst IsDocument (sym same) (written_document tag contents is bytes fits) }

-- At the `Ok`: the document is the shortest encoding of the message.
pub returns-clause-holds : goal.returns-clause-holds
returns-clause-holds g c =
    let t = g.T.Contents in
    let v = t.value c.args.message.now in
    let tag = g.T.FixedTag.TAG.octet in
    let encoding = tlv tag (t.printed (t.written v)) in
    let same : take c.in_ok-bytes.bytes.len
    (c.write_over.new.out ++ drop (length c.write_over.new.out) c.in_ok-bytes.bytes.items) ≡ encoding =
    front_written_over _ _ _ encoding c.write_over.ensures
    (c.in_ok-bytes.ensures.len ∙ c.to_usize-length.ensures.value ∙ c.in_ok-encoded_len.ensures.counted.1) in
    let fits : length encoding ≤ limit = omega (arith, c.in_ok-encoded_len.ensures.counted) in
    let encodings = Spells t.valid (λ s. tlv tag (t.printed s)) t.means in
    let shortest : IsShortest encodings v encoding =
    written_is_shortest (tagged_shortest t.shortest tag) v c.in_ok-encoded_len.ensures.counted.0 fits in
    (c.in_ok-encoded_len.ensures.counted.0, same, subst (IsShortest encodings v) (sym same) shortest)
