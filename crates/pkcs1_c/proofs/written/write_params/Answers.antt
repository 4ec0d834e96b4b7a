-- `t` is what the trait `EncodeParams` says of the type of the parameters, `v` are the parameters. What `Shortest::of`
-- makes of them is written in their encodings.
use Rattle.std.proofs.Common.{length, subst, sym}
use Rattle.der_core.specs.Words.{Spells}
use Rattle.spki_core.specs.Words.{AreSpelled, record_means, record_under, spelled_from, spelled_to, spelling_printed, under_valid}
use Rattle.pkcs1_params.specs.Words.{EncodingOfFields}
use Rattle.standard.specs.Statement.{sequence}
use Rattle.pkcs1_c.proofs.Writes.{unwritten_error_as, written_as}
use Rattle.pkcs1_c.proofs.written.write_params.Goals as goal

-- It is valid, as the parameters are.
pub write_encoding-requires : goal.write_encoding-requires
write_encoding-requires g c =
    let t = g.T.EncodeParams in
    let r = t.form in
    let v = t.params c.args.params in
    subst (λ p. AreSpelled r.kinds (record_under r 0 (t.params p))) (sym c.of.ensures)
    (under_valid r.kinds 0 (r.split v) (r.are v c.lemma_is_valid.ensures))

-- So `write_encoding` says what is asked.
pub returns : goal.returns
returns g c =
    let t = g.T.EncodeParams in
    let r = t.form in
    let v = t.params c.args.params in
    let Encoding = EncodingOfFields t.Is t.fields_of in
    let Spelled = Spells (AreSpelled r.kinds) (λ s. sequence (spelling_printed r.kinds s)) (record_means r) in
    let told = rw c.of.ensures at c.write_encoding.ensures in record {
      writes = written_as Encoding v Spelled v (λ b. (spelled_to r v b, spelled_from r v b)) told.writes;
      exact =
          unwritten_error_as Encoding v Spelled v (λ b. (spelled_to r v b, spelled_from r v b)) (length c.args.out.now)
          c.write_encoding.result told.exact;
    }
