-- The laws of a record that holds the values of fields: what reads it, and what is written of it.
use Rattle.std.proofs.Common.{ℕ, List, refl, ap, ◌∙◌}
use Rattle.der_core.specs.Words.{tagged_law, joined_shortest, reading_reads, Prints, ReadsAlike, ReadsFrontPrinted, ReadsPrinted, Spells, WritesShortest, ReadsContents, tagged}
use Rattle.der_core.specs.Tags as tags
use Rattle.spki_core.specs.FieldSpellings.{AreSpelled, FieldRecord, record_means, record_read, record_under, spelling_printed, spelling_read}
use Rattle.spki_core.specs.Laws.FieldSpellings.Shortest.{fields_alike, fields_shortest, fields_spelled, spelled_fields, spelled_valid, spellings_law}
use Rattle.standard.specs.Statement.{Field, Fields, SequenceOf, sequence}

module _ {V : Type 0} {Is : V → Type 0} {fields : V → List Field} (r : FieldRecord Is fields) where
  pub record_law : ReadsPrinted (AreSpelled r.kinds) (spelling_printed r.kinds) (spelling_read r.kinds)
  record_law = spellings_law r.kinds 0 r.lawful

  pub record_front_law : ReadsFrontPrinted (AreSpelled r.kinds) (λ s. sequence (spelling_printed r.kinds s))
      (tagged tags.sequence_tag (spelling_read r.kinds))
  record_front_law = tagged_law record_law tags.sequence_tag

  pub record_alike : ReadsAlike (spelling_read r.kinds) (record_means r) (record_read r)
  record_alike = fields_alike r.kinds r.join

  pub record_shortest : WritesShortest (AreSpelled r.kinds) (spelling_printed r.kinds) (record_means r)
      (record_under r 0)
  record_shortest = joined_shortest (fields_shortest r.kinds r.lawful) r.join r.split r.parted r.whole

  -- Spellings are what the standard calls fields.
  fields_to : (v : V) (c : List ℕ) → Prints (AreSpelled r.kinds) (spelling_printed r.kinds) (record_means r) v c
      → Is v × Fields (fields v) c
  fields_to v c (s, e, ok, same) =
      let w = record_means r s in
      let held : Is w = r.is w (rw r.parted (spelled_valid r.kinds 0 r.lawful s ok)) in
      let there : Fields (fields w) (spelling_printed r.kinds s) =
      rw (r.fields_are w, r.parted) (spelled_fields r.kinds s) in
      rw (same, ← e) (held, there)

  fields_from : (v : V) (c : List ℕ) → Is v → Fields (fields v) c
      → Prints (AreSpelled r.kinds) (spelling_printed r.kinds) (record_means r) v c
  fields_from v c ok p =
      let (s, e, same, valid) = fields_spelled r.kinds (r.split v) c (rw (r.fields_are v) at p) in
      (s, ap r.join e ∙ r.whole v, valid (r.are v ok), same)

  pub record_reads : ReadsContents (λ v c. Is v × Fields (fields v) c) (record_read r)
  record_reads =
      let old = reading_reads record_law record_alike in
      record {
        gives = λ c v bytes e. fields_to v c (old.gives c v bytes e);
        takes = λ c v few p. old.takes c v few (fields_from v c p.0 p.1);
        tells = old.tells;
      }

  pub spelled_to : (v : V) (b : List ℕ)
      → Spells (AreSpelled r.kinds) (λ s. sequence (spelling_printed r.kinds s)) (record_means r) v b
      → SequenceOf Is fields Fields v b
  spelled_to v b (few, (s, e, ok, same)) =
      let h = fields_to v (spelling_printed r.kinds s) (s, e, ok, refl) in
      (h.0, few, spelling_printed r.kinds s, h.1, same)

  pub spelled_from : (v : V) (b : List ℕ) → SequenceOf Is fields Fields v b
      → Spells (AreSpelled r.kinds) (λ s. sequence (spelling_printed r.kinds s)) (record_means r) v b
  spelled_from v b (ok, few, c, p, written) =
      let (s, e, valid, same) = fields_from v c ok p in (few, (s, e, valid, written ∙ ap sequence same))
