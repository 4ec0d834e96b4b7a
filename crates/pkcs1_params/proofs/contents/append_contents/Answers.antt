-- What `append` says is of the octets of the fields under the mask. They are what is printed of the spelling under it,
-- by `octets_under_spelled`.
use Rattle.std.proofs.Common.{subst, sym, length, ◌≤◌}
use Rattle.std.specs.Prelude.{⊤}
use Rattle.der_core.specs.Words.{limit, Appends}
use Rattle.pkcs1_params.proofs.Masks.{octets_under_spelled}
use Rattle.pkcs1_params.proofs.contents.append_contents.Goals as goal

-- The octets that `append` is to write are within the limit.
pub append-requires-clause-fits : goal.append-requires-clause-fits
append-requires-clause-fits g c =
    let t = g.T.EncodeParams in
    subst (λ z. length z ≤ limit)
    (sym (octets_under_spelled t.form (t.params c.args.params) c.args.mask _ c.fields.ensures.are)) c.requires.fits

-- What it wrote is the spelling.
pub returns-clause-appends : goal.returns-clause-appends
returns-clause-appends g c =
    let t = g.T.EncodeParams in
    let w = g.W.Writer in
    subst (λ z. Appends ⊤ z w.room w.written c.args.writer.now c.append.new.writer c.append.result)
    (octets_under_spelled t.form (t.params c.args.params) c.args.mask _ c.fields.ensures.are) c.append.ensures.appends
