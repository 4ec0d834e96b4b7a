-- `try_clone` of `RsaPssParams<P>`, at the end. The calls of `try_clone` are of the hash function and the mask
-- generation function (`-2`). They copy what a `P` means, so they copy the tag and contents that it holds (`carried`).
-- The trailer field is always 1.
use Rattle.spki_core.specs.Words.{mapped_same}
use Rattle.spki_core.proofs.Readings.{algorithm_mapped}
use Rattle.pkcs1_params.proofs.pss.RsaPssParams+P.try_clone.Goals as goal

pub returns-clause-ok : goal.returns-clause-ok
returns-clause-ok g c =
    let p = c.args.self.now in
    let carried = g.met.P.AnyValue.holds.carried in
    λ i. record {
      hash = mapped_same (algorithm_mapped carried) c.in_ok-try_clone.field-0 p.hash c.in_ok-try_clone.ensures.ok i;
      mask_gen =
          mapped_same (algorithm_mapped (algorithm_mapped carried)) c.in_ok-try_clone-2.field-0 p.mask_gen
          c.in_ok-try_clone-2.ensures.ok i;
      salt_len = p.salt_len;
      trailer_field = 1;
    }
