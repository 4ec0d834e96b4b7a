-- Algorithm identifiers with parameters of their own: what is read of them, and how many encodings there are. For
-- `src/algorithm.rt` and `lemma_algorithms`.
use Rattle.std.proofs.Common.{ℕ, Bool, true, List, ◌++◌, ◌≡◌, ◌≤◌, ◌^◌, length, refl, sym, subst, ap, ◌∙◌, arith, ⊎_elim, map, Option, Some, None, Result, Ok, Err, inl, inr, false, ◌==◌, ◌↔◌, if◌then◌else◌, option_map, bytes_eq}
use Rattle.der_core.specs.Words.{nat_tests, AreBytes, back_bytes, front_bytes, cond_cases, tlv_fit, whole_decodes, whole_takes, bind_err, bind_ok, ok_injective, unexpected_not, limit, tagged_shortest, Spells, WritesShortest, value_in, Reading, whole, ◌>>=◌}
use Rattle.std.proofs.lemmas.Slice.Eq.{bytes_eq-Decides}
use Rattle.der_core.specs.declared.error.ErrorKind.{ErrorKind}
use Rattle.spki_core.specs.Words.{is_identifier, is_identifier-sound, algorithm_contents, algorithm_map, AreSpelled, FieldRecord, Spelling, record_means, record_read, record_strictly, spelling_printed, record_under, spelling_read, strict_value, strict_whole, upto, record_alike, record_front_law, record_law, record_reads, record_shortest, spelled_from, spelled_to, under_valid, algorithm_writes_shortest}
use Rattle.spki_core.proofs.RecordEncodings.{default_count, default_count_only, encoding_under, encodings_are_all, encodings_within_longest}
use Rattle.spki_core.proofs.StrictFields.{contents_bytes, strict_decodes}
use Rattle.pkcs1_params.specs.Words.{Identifies, PlainEncoding, identified, parameters_as, whole_algorithm, plain_law, plain_front, with_parameters}
use Rattle.pkcs1_params.proofs.Wrapped.{are_all_in, wrapped, wrapped_fit, wrapped_one, wrapped_shortest_decodes}
use Rattle.standard.specs.Statement.{Algorithm, AlgorithmEncoding, AreAll, Decodes, Field, Fields, IfPresent, IsAlgorithm, IsAny, IsIdentifier, IsShortest, SequenceOf, TagAndContents, optional, TwoToTheDefaultsIn, algorithm, any, longest, sequence, tlv}
use Rattle.der_core.specs.Tags as tags

-- The algorithm with a SEQUENCE of these contents as parameters.
abbrev pub algorithm_holding : List ℕ → List ℕ → Algorithm TagAndContents
algorithm_holding oid c = record { oid = oid; parameters = Some (record { tag = 48; contents = c }) }

-- In it, the parameters are read as their contents are.
pub identified_is : {V : Type 0} (oid : List ℕ) (read : Reading V) (c : List ℕ)
    → identified oid read (algorithm_holding oid c) ≡ read c
identified_is oid read c = let same : bytes_eq oid oid ≡ true = (bytes_eq-Decides oid oid).1 refl in rw same refl

-- And nothing is read of another one.
pub identified_holds : {V : Type 0} (oid : List ℕ) (read : Reading V) (a : Algorithm TagAndContents) (v : V)
    → identified oid read a ≡ Ok v → (c : List ℕ) × (a ≡ algorithm_holding oid c) × (read c ≡ Ok v)
identified_holds {V} oid read a v is =
    ⊎_elim (λ w. go a.parameters refl w.1 ((bytes_eq-Decides a.oid oid).0 w.0)) (λ w. let no = w.1 in cc)
    (cond_cases (bytes_eq a.oid oid) _ _ _ is)
  where
    go : (o : Option TagAndContents) → a.parameters ≡ o → parameters_as read o ≡ Ok v → a.oid ≡ oid
        → (c : List ℕ) × (a ≡ algorithm_holding oid c) × (read c ≡ Ok v)
    go None e p same = cc
    go (Some x) e p same = ⊎_elim (λ w.
        let tag : x.tag ≡ 48 = grind (arith, nat_tests, w.0) in (
          x.contents,
          (λ i. record {
            oid = same i;
            parameters = (e ∙ (λ j. Some (record { tag = tag j; contents = x.contents }))) i;
          }),
          w.1,
        )) (λ w. absurd (unexpected_not tags.sequence_tag x.tag v w.1)) (cond_cases (x.tag == 48) _ _ _ p)

-- Parameters that the code holds are octets, within the limit.
abbrev pub AreHeld : TagAndContents → Type 0
AreHeld x = AreBytes x.contents × (length x.contents ≤ limit)

-- What a function promises that gives a value exactly for its encodings.
decodes_by : {V B : Type 0} (E : V → B → Type 0) (b : B) (o : Result V ErrorKind) → ((v : V) → o ≡ Ok v → E v b)
    → ((v : V) → E v b → o ≡ Ok v) → Decodes E b (value_in o)
decodes_by E b (Ok v) gives takes = (gives v refl, λ w e. ok_injective (sym (takes w e)))
decodes_by E b (Err k) gives takes = λ w e. let no = takes w e in cc

-- What is read of an identifier that the code holds.
pub identified_decodes : {V : Type 0} {Is : V → Type 0} {fields : V → List Field} (r : FieldRecord Is fields)
    (oid : List ℕ) (a : Algorithm TagAndContents) → IfPresent AreHeld a.parameters
    → Decodes (Identifies oid Is fields) a (value_in (identified oid (record_read r) a))
identified_decodes {V} {Is} {fields} r oid a held =
    decodes_by (Identifies oid Is fields) a (identified oid (record_read r) a)
    (λ v was.
    let (c, e, read) = identified_holds oid (record_read r) a v was in
    let law = (record_reads r).gives c v (held_in c e).0 read in (c, e, law.0, law.1))
    (λ v (c, e, ok, there).
    ap (identified oid (record_read r)) e ∙ identified_is oid (record_read r) c
    ∙ (record_reads r).takes c v (held_in c e).1 (ok, there))
  where
    held_in : (c : List ℕ) → a ≡ algorithm_holding oid c → AreBytes c × (length c ≤ limit)
    held_in c e = subst (λ (x : Algorithm TagAndContents). IfPresent AreHeld x.parameters) e held

-- What isn't read by one function isn't read by another one that refuses it too, for the same fault.
pub algorithm_errs : {V : Type 0} (f g : Reading V) → ((c : List ℕ) (k : ErrorKind) → f c ≡ Err k → g c ≡ Err k)
    → (oid bytes : List ℕ) (k : ErrorKind) → whole_algorithm oid f bytes ≡ Err k → whole_algorithm oid g bytes ≡ Err k
algorithm_errs {V} f g so oid bytes k = go (whole plain_front bytes)
  where
    either : (b : Bool) (x y z : Result V ErrorKind) → (x ≡ Err k → y ≡ Err k) → (if b then x else z) ≡ Err k
        → (if b then y else z) ≡ Err k
    either true x y z h p = h p
    either false x y z h p = p

    parameters_err : (o : Option TagAndContents) → parameters_as f o ≡ Err k → parameters_as g o ≡ Err k
    parameters_err None p = p
    parameters_err (Some x) p = either (x.tag == 48) _ _ _ (so x.contents k) p

    go : (o : Result (Algorithm TagAndContents) ErrorKind) → (o >>= identified oid f) ≡ Err k
        → (o >>= identified oid g) ≡ Err k
    go (Ok a) p = either (bytes_eq a.oid oid) _ _ _ (parameters_err a.parameters) p
    go (Err e) p = p

module _ (oid : List ℕ) (valid : is_identifier oid ≡ true) where
  -- What such an encoding begins with.
  pub identifier_in : (p bytes : List ℕ) → AreBytes bytes → bytes ≡ wrapped oid p → IsIdentifier oid
  identifier_in p bytes are is =
      let inner = contents_bytes 48 (tlv 6 oid ++ p) (subst AreBytes is are) in
      is_identifier-sound oid (contents_bytes 6 oid (front_bytes (tlv 6 oid) p inner)) valid

  pub bytes_in : (c bytes : List ℕ) → AreBytes bytes → bytes ≡ wrapped oid (sequence c) → AreBytes c
  bytes_in c bytes are is =
      contents_bytes 48 c
      (back_bytes (tlv 6 oid) (sequence c) (contents_bytes 48 (tlv 6 oid ++ sequence c) (subst AreBytes is are)))

  -- It is read as the contents of its parameters are.
  pub whole_algorithm_is : {V : Type 0} (read : Reading V) (c bytes : List ℕ) → AreBytes bytes → length bytes ≤ limit
      → bytes ≡ wrapped oid (sequence c) → whole_algorithm oid read bytes ≡ read c
  whole_algorithm_is read c bytes are few is =
      let held : IsAlgorithm IsAny (algorithm_holding oid c) =
      (identifier_in (sequence c) bytes are is, ((λ i. true), bytes_in c bytes are is)) in
      ap (λ r. r >>= identified oid read) (whole_takes plain_law (algorithm_holding oid c) bytes (few, held, is))
      ∙ identified_is oid read c

  -- And what is read as a value is such an encoding.
  pub algorithm_holds : {V : Type 0} (read : Reading V) (v : V) (bytes : List ℕ) → AreBytes bytes
      → whole_algorithm oid read bytes ≡ Ok v
      → (c : List ℕ) × (length bytes ≤ limit) × AreBytes c × (bytes ≡ wrapped oid (sequence c)) × (read c ≡ Ok v)
  algorithm_holds read v bytes are is =
      let s = bind_ok (whole plain_front bytes) _ is in
      let (c, e, known) = identified_holds oid read s.0 v s.2 in
      let d = subst (λ r. Decodes PlainEncoding bytes (value_in r)) s.1 (whole_decodes plain_law bytes are) in
      let held = subst (IsAlgorithm IsAny) e d.0.1 in (c, d.0.0, held.1.1, d.0.2 ∙ ap (algorithm any) e, known)

  module _ {V : Type 0} {Is : V → Type 0} {fields : V → List Field} (r : FieldRecord Is fields) where
    abbrev ParametersEncoding : V → List ℕ → Type 0
    ParametersEncoding = SequenceOf Is fields Fields

    abbrev IdentifierEncoding : V → List ℕ → Type 0
    IdentifierEncoding = AlgorithmEncoding oid ParametersEncoding

    -- An encoding is read as its value.
    whole_algorithm_read : (w : V) (bytes : List ℕ) → AreBytes bytes → IdentifierEncoding w bytes
        → whole_algorithm oid (record_read r) bytes ≡ Ok w
    whole_algorithm_read w bytes are (few, p, (ok, within, c, held, same), is) =
        let whole = is ∙ ap (wrapped oid) same in
        let less : length c ≤ limit = omega (arith, ap length same, tlv_fit 48 c) in
        whole_algorithm_is (record_read r) c bytes are few whole
        ∙ (record_reads r).takes c w less (ok, held)

    -- What the function is promised to give.
    pub algorithm_decodes : (bytes : List ℕ) → AreBytes bytes
        → Decodes IdentifierEncoding bytes (value_in (whole_algorithm oid (record_read r) bytes))
    algorithm_decodes bytes are =
        decodes_by IdentifierEncoding bytes (whole_algorithm oid (record_read r) bytes)
        (λ v was.
        let (c, few, held, is, read) = algorithm_holds (record_read r) v bytes are was in
        let law = (record_reads r).gives c v held read in
        let within : length (sequence c) ≤ limit = omega (arith, ap length is, wrapped_fit oid (sequence c)) in
        (few, sequence c, (law.0, within, c, law.1, refl), is))
        (λ v e. whole_algorithm_read v bytes are e)

    -- Strict reading of the identifier is that of the parameters.
    pub strict_algorithm_in : (v : V) (bytes p : List ℕ) → AreBytes bytes → IdentifierEncoding v bytes
        → bytes ≡ wrapped oid p
        → whole_algorithm oid (record_strictly r) bytes ≡ strict_whole r p
    strict_algorithm_in v bytes p are (few, q, x, is) given =
        let one : q ≡ p = wrapped_one oid q p (omega (arith, ap length is)) (sym is ∙ given) in
        let (within, (s, e, ok, there)) = spelled_from r v q x in
        let c = spelling_printed r.kinds s in
        let less : length c ≤ limit = omega (arith, ap length there, tlv_fit 48 c) in
        let fit : length p ≤ limit = omega (arith, ap length one) in
        whole_algorithm_is (record_strictly r) c bytes are few (is ∙ ap (wrapped oid) there)
        ∙ ap (λ x. x >>= strict_value r.kinds r.join)
        ((record_law r).takes s ok less ∙ sym (whole_takes (record_front_law r) s p (fit, ok, sym one ∙ there)))

    -- What isn't read isn't read strictly, for the same fault.
    pub strict_algorithm_errs : (bytes : List ℕ) (k : ErrorKind) → whole_algorithm oid (record_read r) bytes ≡ Err k
        → whole_algorithm oid (record_strictly r) bytes ≡ Err k
    strict_algorithm_errs bytes k =
        algorithm_errs (record_read r) (record_strictly r) (λ c e p.
        elim (bind_err (spelling_read r.kinds c) _ ((record_alike r).same c ∙ p)) [
          | inl q ↦ ap (λ x. x >>= strict_value r.kinds r.join) q
          | inr q ↦ cc
        ]) oid bytes k

    -- What strict reading is promised to give.
    pub strict_algorithm_decodes : (bytes : List ℕ) → AreBytes bytes
        → Decodes (IsShortest IdentifierEncoding) bytes (value_in (whole_algorithm oid (record_strictly r) bytes))
    strict_algorithm_decodes bytes are =
        go (whole_algorithm oid (record_read r) bytes) refl (algorithm_decodes bytes are)
      where
        go : (o : Result V ErrorKind) → whole_algorithm oid (record_read r) bytes ≡ o
            → Decodes IdentifierEncoding bytes (value_in o)
            → Decodes (IsShortest IdentifierEncoding) bytes (value_in (whole_algorithm oid (record_strictly r) bytes))
        go (Ok v) was ((few, p, holds, is), one) =
            let octets = back_bytes (tlv 6 oid) p (contents_bytes 48 (tlv 6 oid ++ p) (subst AreBytes is are)) in
            rw (strict_algorithm_in v bytes p are (few, p, holds, is) is, is)
            (wrapped_shortest_decodes oid ParametersEncoding p (omega (arith, ap length is))
            (value_in (strict_whole r p))
            (strict_decodes r p octets))
        go (Err k) was none = rw (strict_algorithm_errs bytes k was) (λ v s. none v s.0)

-- Of an identifier that is one.
module _ (oid : List ℕ) (identifier : IsIdentifier oid) where
  module _ {V : Type 0} {Is : V → Type 0} {fields : V → List Field} (r : FieldRecord Is fields) where
    abbrev HeldEncoding : V → List ℕ → Type 0
    HeldEncoding = SequenceOf Is fields Fields

    abbrev HoldingEncoding : V → List ℕ → Type 0
    HoldingEncoding = AlgorithmEncoding oid HeldEncoding

    -- What the kernel prints of the algorithm with these parameters is such an encoding.
    abbrev pub algorithm_printed : Algorithm (Spelling r.kinds) → List ℕ
    algorithm_printed a = sequence (algorithm_contents (λ s. sequence (spelling_printed r.kinds s)) a)

    abbrev pub AlgorithmSpelled : Algorithm V → List ℕ → Type 0
    AlgorithmSpelled = Spells (IsAlgorithm (AreSpelled r.kinds)) algorithm_printed (algorithm_map (record_means r))

    -- The one under mask 0 is written.
    pub algorithm_written : WritesShortest (IsAlgorithm (AreSpelled r.kinds)) algorithm_printed
        (algorithm_map (record_means r)) (algorithm_map (record_under r 0))
    algorithm_written = tagged_shortest (algorithm_writes_shortest (tagged_shortest (record_shortest r) 48)) 48

    -- It has the encodings that the statement has.
    pub algorithm_spelled : (v : V) (bytes : List ℕ)
        → AlgorithmSpelled (with_parameters oid v) bytes ↔ HoldingEncoding v bytes
    algorithm_spelled v bytes = (to, from)
      where
        to : AlgorithmSpelled (with_parameters oid v) bytes → HoldingEncoding v bytes
        to (few, (a, e, ok, is)) =
            go a.parameters (ap (λ (a : Algorithm V). a.parameters) e) ok.1
            (is ∙ ap (λ x. sequence (tlv 6 x ++ optional (λ s. sequence (spelling_printed r.kinds s)) a.parameters))
            (ap (λ (a : Algorithm V). a.oid) e))
          where
            go : (o : Option (Spelling r.kinds)) → option_map (record_means r) o ≡ Some v
                → IfPresent (AreSpelled r.kinds) o
                → bytes ≡ sequence (tlv 6 oid ++ optional (λ s. sequence (spelling_printed r.kinds s)) o)
                → HoldingEncoding v bytes
            go None never ok all = cc
            go (Some s) means ok all =
                let p = sequence (spelling_printed r.kinds s) in
                let one : record_means r s ≡ v = cc in
                (few, p, spelled_to r v p (omega (arith, ap length all, wrapped_fit oid p), (s, one, ok, refl)), all)

        from : HoldingEncoding v bytes → AlgorithmSpelled (with_parameters oid v) bytes
        from (few, p, q, is) =
            let (i, (s, e, ok, made_p)) = spelled_from r v p q in (
              few,
              (
                with_parameters oid s,
                ap (with_parameters oid) e,
                (identifier, ok),
                is ∙ ap (wrapped oid) made_p,
              ),
            )

    -- What is written of it is valid.
    pub algorithm_valid : (v : V) → Is v
        → IsAlgorithm (AreSpelled r.kinds) (algorithm_map (record_under r 0) (with_parameters oid v))
    algorithm_valid v ok = (identifier, under_valid r.kinds 0 (r.split v) (r.are v ok))

    -- Two to the number of defaults.
    pub algorithm_counted : TwoToTheDefaultsIn oid Is fields
    algorithm_counted v k ok d few =
        let less : length (longest (fields v)) ≤ limit = omega (arith, wrapped_fit oid (longest (fields v))) in
        subst (λ n. (all : List (List ℕ)) × AreAll (AlgorithmEncoding oid) Is fields v n all)
        (sym (default_count_only r v k d)) (
          map (wrapped oid) (upto (2 ^ default_count r v) (encoding_under r v)),
          are_all_in oid Is fields v (default_count r v) few (upto (2 ^ default_count r v) (encoding_under r v))
              (encodings_within_longest r v less) (encodings_are_all r v ok less),
        )
