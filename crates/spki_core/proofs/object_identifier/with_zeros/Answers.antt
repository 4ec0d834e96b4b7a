-- `with_zeros` leaves zeros behind the octets: `copy_from_slice` puts these over as many of the 39 zeros.
use Rattle.std.proofs.Common.{List, ℕ, length, drop, ◌++◌, ap, ◌∙◌}
use Rattle.std.proofs.Math.ListN.{replicate}
use Rattle.std.proofs.Math.Seq.{drop-append_seam}
use Rattle.std.proofs.lemmas.List.{drop-replicate}
use Rattle.spki_core.proofs.object_identifier.with_zeros.Goals as goal

pub returns-clause-zeros : goal.returns-clause-zeros
returns-clause-zeros c =
    let octets = c.args.octets.now in
    let zeros : List ℕ = drop (length octets) (replicate 39 0) in
    ap (λ front. drop (length octets) (front ++ zeros)) c.copy_from_slice.ensures.after
    ∙ drop-append_seam octets zeros
    ∙ drop-replicate (length octets) 39 0
