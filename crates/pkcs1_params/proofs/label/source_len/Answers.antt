-- `source_len`, at the end, of each `label` with `len` octets (`same`), which isn't empty. From inside: `identifier`
-- and `octets` are counted, then `source`, the SEQUENCE of both, then the tag [2] around it.
use Rattle.std.proofs.Common.{arith, ◌++◌}
use Rattle.der_core.specs.Words.{tlv}
use Rattle.pkcs1_params.specs.Words.{id_p_specified, source_identifier}
use Rattle.pkcs1_params.proofs.Labels.{source_written, label_counted}
use Rattle.pkcs1_params.proofs.Masks.{counts_as}
use Rattle.pkcs1_params.proofs.label.source_len.Goals as goal

pub returns : goal.returns
returns c label same =
    let contents = tlv 6 id_p_specified ++ tlv 4 label in
    let identifier =
    counts_as (tlv 6 id_p_specified) _ (λ _. tt) (λ _. source_identifier)
    (rw c.of.ensures at c.encoded_len-identifier.ensures.counted) in
    let octets =
    c.tagged_len-octets.ensures label
    (label_counted label c.args.len _ same c.try_from.ensures.ok c.try_from.ensures.err) in
    let source =
    c.tagged_len-source.ensures contents (c.sum_len.ensures (tlv 6 id_p_specified) (tlv 4 label) identifier octets) in
    rw (source_written label (omega arith))
    (rw (c.context.ensures, c.new.ensures) at (c.tagged_len.ensures (tlv 48 contents) source))
