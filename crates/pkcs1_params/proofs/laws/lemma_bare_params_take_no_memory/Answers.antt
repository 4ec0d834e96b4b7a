-- `lemma_bare_params_take_no_memory`, by one lemma for both kinds of parameters.
use Rattle.std.proofs.Common.{ℕ, List, ◌≡◌, ◌≤◌, length, length-append, sym, subst, ap, arith, refl}
use Rattle.der_core.specs.Words.{tlv_recast, tlv_is, limit, AllocatesAtFront, Tlv}
use Rattle.spki_core.specs.Words.{FieldRecord}
use Rattle.pkcs1_params.proofs.Masks.{record_delimited}
use Rattle.standard.specs.Statement.{Field, Fields, SequenceOf, sequence}
use Rattle.pkcs1_params.specs.Words.{oaep_record, pss_record, IsBareOaep, IsBarePss}
use Rattle.pkcs1_params.proofs.laws.lemma_bare_params_take_no_memory.Goals as goal

-- Of an encoding of bare parameters no beginning is one of others, so reading it asks for no memory.
module _ {V : Type 0} {Is : V → Type 0} {fields : V → List Field} (r : FieldRecord Is fields) (IsBare : V → Type 0) where
  bare_asks_none : (v : V) (bytes : List ℕ) → SequenceOf Is fields Fields v bytes → IsBare v
      → AllocatesAtFront (Tlv 48 (λ c. (w : V) × Is w × Fields (fields w) c × (IsBare w → ⊥))) bytes → ⊥
  bare_asks_none v bytes encodes bare (b, rest, is, t) =
      let (w, ok, has, octets) = t.holds in
      let alone : Tlv 48 (λ c. c ≡ t.contents) b = tlv_recast b t refl in
      let same : b ≡ sequence t.contents = tlv_is 48 t.contents b (λ c e. e) alone in
      let few : length b ≤ limit = omega (arith, ap length is, length-append b rest) in
      let there : SequenceOf Is fields Fields w b = (ok, few, t.contents, has, same) in
      let one = (record_delimited r).1 w v b rest there (subst (SequenceOf Is fields Fields v) is encodes) in
      octets (subst IsBare (sym one.0) bare)

-- `bare_asks_none` of both kinds of parameters.
pub returns : goal.returns
returns c = record {
  pss = bare_asks_none pss_record IsBarePss;
  oaep = bare_asks_none oaep_record IsBareOaep;
}
