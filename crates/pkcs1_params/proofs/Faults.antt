-- Faults of parameters: they are about the bytes, what holds of errors, and the first default that is written. For the
-- calls that decode parameters, and their laws.
use Rattle.std.proofs.Common.{ℕ, Bool, true, false, List, ◌≡◌, ⊎_elim, Option, Some, None, Err, Result, length, ◌==◌, bytes_eq, Ok, IfErr, OnErr, ◌∙◌, ap, inl, inr, refl, subst, sym, ◌↔◌, [], ◌∷◌, ◌++◌, ◌<◌, ◌+◌, drop, arith, if◌then◌else◌}
use Rattle.der_core.specs.declared.error.ErrorKind.{ErrorKind}
use Rattle.der_core.specs.declared.error.ErrorKind.TheVariants.{Noncanonical, TagUnknown}
use Rattle.der_core.specs.declared.tag.Tag.{Tag}
use Rattle.der_core.specs.Words.{cond_cases, bind_err, unexpected_tells, TellsOfBytes, checked, tagged, whole, context_octet, is_allowed, ok_of, ◌>>=◌, whole_takes, is_next}
use Rattle.der_core.specs.Tags as tags
use Rattle.spki_core.specs.Words.{FieldRecord, first_written, record_means, record_strictly, spelling_read, strict_whole, record_front_law, record_law, noncanonical, unless_found, AreLawful, AreNumbered, Kind, Spelling, Values, fields_of, spelling_means, field_printed, spelling_printed, strict_value, spelled_from, spelled_not_next, is_identifier}
use Rattle.pkcs1_params.specs.Words.{identified, parameters_as, whole_algorithm, plain_law, FaultsTell, plain_front, Error, AnswersAsn1, IsEncoded, fault_in, fault_told, NamesFirstDefaultIn, FirstWritten, NamesFirstDefault, same_contents, whole_tells}
use Rattle.standard.specs.Statement.{Algorithm, Field, TagAndContents, Decodes, Fields, SequenceOf, sequence}
use Rattle.pkcs1_params.specs.declared.error.Error.TheVariants as error
use Rattle.std.proofs.Math.Seq.{drop-append_seam}
use Rattle.spki_core.proofs.StrictFields.{noncanonical_is}
use Rattle.pkcs1_params.proofs.Algorithms.{strict_algorithm_in}
use Rattle.pkcs1_params.proofs.Wrapped.{wrapped_one}

-- A default that is written.
noncanonical_tells : (n : ℕ) → TellsOfBytes (noncanonical n)
noncanonical_tells n = go (is_allowed (context_octet n)) (λ ok. record { octet = context_octet n; allowed = ok })
  where
    go : (b : Bool) (tag : b ≡ true → Tag)
        → TellsOfBytes (checked b (λ ok. Noncanonical (tag ok)) (TagUnknown (context_octet n)))
    go true tag = (λ no. cc, λ no. cc, λ no. cc)
    go false tag = (λ no. cc, λ no. cc, λ no. cc)

found_tells : {V : Type 0} (found : Option ℕ) (v : V) (k : ErrorKind) → unless_found found v ≡ Err k → TellsOfBytes k
found_tells None v k e = cc
found_tells (Some n) v k e = let same : noncanonical n ≡ k = cc in rw same at (noncanonical_tells n)

module _ {V : Type 0} {Is : V → Type 0} {fields : V → List Field} (r : FieldRecord Is fields) where
  -- One of strict reading, of contents and of a whole slice.
  pub strictly_tells : FaultsTell (record_strictly r)
  strictly_tells c k e =
      ⊎_elim ((record_law r).tells c k) (λ s. found_tells (first_written r.kinds s.0) (record_means r s.0) k s.2)
      (bind_err (spelling_read r.kinds c) _ e)

  pub strict_tells : FaultsTell (strict_whole r)
  strict_tells b k e =
      ⊎_elim (whole_tells (record_front_law r) b k)
      (λ s. found_tells (first_written r.kinds s.0) (record_means r s.0) k s.2)
      (bind_err (whole (tagged tags.sequence_tag (spelling_read r.kinds)) b) _ e)

-- One of parameters in their identifier.
pub whole_algorithm_tells : {V : Type 0} {read : List ℕ → Result V ErrorKind} → FaultsTell read → (oid : List ℕ)
    → FaultsTell (whole_algorithm oid read)
whole_algorithm_tells {V} {read} tell oid b k e =
    ⊎_elim (whole_tells plain_law b k) (λ s. identified_tells s.0 k s.2) (bind_err (whole plain_front b) _ e)
  where
    parameters_tell : (p : Option TagAndContents) (k : ErrorKind) → parameters_as read p ≡ Err k → TellsOfBytes k
    parameters_tell None k e = (λ no. cc, λ no. cc, λ no. cc)
    parameters_tell (Some any) k e =
        ⊎_elim (λ w. tell any.contents k w.1) (λ w. unexpected_tells tags.sequence_tag any.tag k w.1)
        (cond_cases (any.tag == 48) _ _ _ e)

    identified_tells : (a : Algorithm TagAndContents) (k : ErrorKind) → identified oid read a ≡ Err k → TellsOfBytes k
    identified_tells a k e =
        ⊎_elim (λ w. parameters_tell a.parameters k w.1)
        (λ w. (λ no. cc, λ no. cc, λ no. cc))
        (cond_cases (bytes_eq a.oid oid) _ _ _ e)

-- == What holds of errors, whatever the call ==

-- What holds anyway, holds on an error.
pub err_holds : {T E : Type 0} (P : Type 0) (r : Result T E) → P → OnErr r P
err_holds P (Ok x) p = tt
err_holds P (Err e) p = p

-- What follows from a fact on an error.
pub if_err_as : {T E : Type 0} {P Q : E → Type 0} (r : Result T E) → ((e : E) → P e → Q e) → IfErr r P → IfErr r Q
if_err_as (Ok x) f p = tt
if_err_as (Err e) f p = f e p

-- The fault of a call that returns what a function gives is that of the function, and there is none exactly of bytes
-- that encode a value.
pub fault_told_given : {X V : Type 0} (value : X → V) (given : Result V ErrorKind) (r : Result X Error)
    (fault : Option ErrorKind) → fault ≡ fault_told r → AnswersAsn1 value given r → fault ≡ fault_in given
fault_told_given value given (Ok x) fault told p = told ∙ sym (ap fault_in p)
fault_told_given value given (Err (error.Asn1 e)) fault told p = told ∙ sym (ap fault_in p)
fault_told_given value given (Err error.Crypto) fault told p = absurd p
fault_told_given value given (Err error.KeyMalformed) fault told p = absurd p
fault_told_given value given (Err error.Version) fault told p = absurd p

pub fault_told_encoded : {X V : Type 0} (E : V → List ℕ → Type 0) (bytes : List ℕ) (value : X → V)
    (given : Result V ErrorKind) (r : Result X Error) (fault : Option ErrorKind) → fault ≡ fault_told r
    → AnswersAsn1 value given r → Decodes E bytes (ok_of value r) → (fault ≡ None) ↔ IsEncoded E bytes
fault_told_encoded E bytes value given (Ok x) fault told p d = (λ _. (value x, d.0), λ _. told)
fault_told_encoded E bytes value given (Err (error.Asn1 e)) fault told p d =
    (λ no. let q = sym told ∙ no in cc, λ q. absurd (d q.0 q.1))
fault_told_encoded E bytes value given (Err error.Crypto) fault told p d = absurd p
fault_told_encoded E bytes value given (Err error.KeyMalformed) fault told p d = absurd p
fault_told_encoded E bytes value given (Err error.Version) fault told p d = absurd p

-- == Strict reading names the first default that is written ==

-- Contents that a later field is found in don't begin with an earlier tag.
later_tag_not_next : (ks : List Kind) (m n : ℕ) → m < n → AreLawful n ks → (v : Values ks) (i : ℕ) (c : List ℕ)
    → FirstWritten (fields_of ks v) i c → is_next (160 + m) c ≡ false
later_tag_not_next [] m n less law v i c p = absurd p
later_tag_not_next (k ∷ ks) m n less law (x, v) i c (inl (d, e, later, is, rest)) =
    let other : m < k.number = omega arith in (grind arith)
later_tag_not_next (k ∷ ks) m n less law (x, v) i c (inr (inl (d, j, e, p))) =
    later_tag_not_next ks m (k.number + 1) (omega arith) law.4 v j c p
later_tag_not_next (k ∷ ks) m n less law (x, v) i c (inr (inr (d, j, e, later, is, p))) =
    rw is (grind arith)

-- So what is found in a spelling is the first one there.
first_written_found : (ks : List Kind) (m : ℕ) → AreLawful m ks → AreNumbered m ks → (s : Spelling ks) (n : ℕ)
    → FirstWritten (fields_of ks (spelling_means ks s)) n (spelling_printed ks s) → first_written ks s ≡ Some (m + n)
first_written_found [] m law numbered s n p = absurd p
first_written_found (k ∷ ks) m law numbered (None, s) n (inl (d, e, later, is, rest)) =
    let other = spelled_not_next ks (k.number + 1) k.number (omega arith) law.4 s in
    let here : is_next (160 + k.number) (spelling_printed ks s) ≡ true = (grind arith) in
    let never : true ≡ false = sym here ∙ other in cc
first_written_found (k ∷ ks) m law numbered (None, s) n (inr (inl (d, j, e, p))) =
    let step : k.number + 1 ≡ m + 1 = omega arith in
    first_written_found ks (m + 1) (subst (λ i. AreLawful i ks) step law.4) numbered.1 s j p
    ∙ ap (λ i. Some i) (omega arith)
first_written_found (k ∷ ks) m law numbered (None, s) n (inr (inr (d, j, e, later, is, p))) = absurd (d refl)
first_written_found (k ∷ ks) m law numbered (Some x, s) n (inl (d, e, later, is, rest)) =
    let yes : k.is_default x ≡ true = (law.2 x).1 d in rw yes (ap (λ i. Some i) (omega arith))
first_written_found (k ∷ ks) m law numbered (Some x, s) n (inr (inl (d, j, e, p))) =
    let other = later_tag_not_next ks k.number (k.number + 1) (omega arith) law.4 (spelling_means ks s) j _ p in
    let here : is_next (160 + k.number) (field_printed k x ++ spelling_printed ks s) ≡ true =
    grind arith in
    cc
first_written_found (k ∷ ks) m law numbered (Some x, s) n (inr (inr (d, j, e, later, is, p))) =
    let step : k.number + 1 ≡ m + 1 = omega arith in
    let rest : later ≡ spelling_printed ks s =
    sym (drop-append_seam (field_printed k x) later) ∙ ap (drop (length (field_printed k x))) (sym is)
    ∙ drop-append_seam (field_printed k x) (spelling_printed ks s) in
    go (k.is_default x) refl
    (first_written_found ks (m + 1) (subst (λ i. AreLawful i ks) step law.4) numbered.1 s j
    (subst (FirstWritten (fields_of ks (spelling_means ks s)) j) rest p) ∙ ap (λ i. Some i) (omega arith))
  where
    go : (b : Bool) → k.is_default x ≡ b → first_written ks s ≡ Some (m + n)
        → (if b then Some k.number else first_written ks s) ≡ Some (m + n)
    go true is later = absurd (d ((law.2 x).0 is))
    go false is later = later

module _ {V : Type 0} {Is : V → Type 0} {fields : V → List Field} (r : FieldRecord Is fields) where
  -- Strict reading names it.
  pub first_named : NamesFirstDefault Is fields (strict_whole r)
  first_named v n tag contents bytes p is first octet =
      let (few, (s, e, ok, same)) = spelled_from r v bytes p in
      let one : contents ≡ spelling_printed r.kinds s =
      same_contents contents (spelling_printed r.kinds s) (omega (arith, ap length is)) (sym is ∙ same) in
      let means : spelling_means r.kinds s ≡ r.split v = sym (r.parted (spelling_means r.kinds s)) ∙ ap r.split e in
      let here : FirstWritten (fields_of r.kinds (spelling_means r.kinds s)) n (spelling_printed r.kinds s) =
      subst (λ u. FirstWritten (fields_of r.kinds u) n (spelling_printed r.kinds s)) (sym means)
      (subst (λ fs. FirstWritten fs n (spelling_printed r.kinds s)) (r.fields_are v)
      (subst (FirstWritten (fields v) n) one first)) in
      let at = first_written_found r.kinds 0 r.lawful r.numbered s n here in
      let zero : 0 + n ≡ n = omega arith in
      ap (λ x. x >>= strict_value r.kinds r.join) (whole_takes (record_front_law r) s bytes (few, ok, same))
      ∙ ap (λ o. unless_found o (r.join (spelling_means r.kinds s))) (at ∙ ap (λ i. Some i) zero)
      ∙ ap (λ k. Err k) (noncanonical_is n tag octet)

  -- So it does in an identifier.
  pub first_named_in : (oid : List ℕ) → is_identifier oid ≡ true
      → NamesFirstDefaultIn oid Is fields (λ bytes. whole_algorithm oid (record_strictly r) bytes)
  first_named_in oid valid v n tag contents bytes are p is first octet =
      let (few, q, there, same) = p in
      let one : q ≡ sequence contents =
      wrapped_one oid q (sequence contents) (omega (arith, ap length same)) (sym same ∙ is) in
      strict_algorithm_in oid valid r v bytes (sequence contents) are p is
      ∙ first_named v n tag contents (sequence contents) (subst (SequenceOf Is fields Fields v) one there) refl first octet
