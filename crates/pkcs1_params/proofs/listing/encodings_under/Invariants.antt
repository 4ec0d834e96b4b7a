-- The loop of `encodings_under`: before each pass, the encodings are those under the masks below this one, in order.
use Rattle.std.proofs.Common.{◌≡◌}
use Rattle.spki_core.specs.Words.{record_under, spelling_printed, upto}
use Rattle.pkcs1_params.specs.Words.{encodings_in}
use Rattle.standard.specs.Statement.{sequence}
use Rattle.pkcs1_params.proofs.listing.encodings_under.Given as goal

abbrev pub invariant-loop-mask : goal.invariant-loop-mask
invariant-loop-mask g l =
    let t = g.T.EncodeParams in
    encodings_in l.encodings
    ≡ upto l.mask (λ mask. sequence (spelling_printed t.form.kinds (record_under t.form mask (t.params l.params))))
