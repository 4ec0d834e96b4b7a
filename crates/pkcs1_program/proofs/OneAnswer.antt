-- All encodings of a value. A line has at most one answer.
use Rattle.std.proofs.Common.{◌≡◌, ℕ, ◌<◌, ◌≤◌, List, [], ◌++◌, length, sym, ◌∙◌, subst, ap, arith, Some, None, ◌^◌, flat_map, map, codes, ext_get_or, ◌⊎◌, inl, inr, ◌∷◌, refl, append-nil}
use Rattle.std.specs.Global.{Vec}
use Rattle.std.proofs.lemmas.List.{length-map}
use Rattle.std.proofs.lemmas.List.Folds.{flat_map-map}
use Rattle.pkcs1_params.specs.Words.{AreDelimited, DefaultsAreCounted, EachMaskHasOne, same_by_shortest}
use Rattle.standard.specs.Statement.{AtMostOne, ContainerEncoding, Decodes, Field, Fields, IsOaep, IsPss, IsShortest, Lists, OaepEncoding, PrivateKeyEncoding, PssEncoding, PublicKeyEncoding, SameByShortest, SequenceOf, limit, longest, oaep_fields, pss_fields}
use Rattle.pkcs1_program.specs.Words.{ListedEncoding, hex_field, number_field, spell_answer, Asked, bad_line, asks, asks_pair, asked_by, Answered, TellsValue, TellsParameters, SaysWhether, TellsStrict, TellsSame, TellsSpellings, RsaContainerEncoding, TellsContainer, WordAnswer, PairAnswer, AnswerTo, Answer, Outputs, pub_answer, priv_answer, p8_answer, pss_answer, oaep_answer}
use Rattle.pkcs1_program.proofs.AppendedOutput.{appended_three}
use Rattle.std.proofs.Math.Path.{subst₂}
use Rattle.der_core.specs.Words.{HasAtMostOne}
use Rattle.pkcs1_program.specs.declared.request.Word.{Word}
use Rattle.pkcs1_program.specs.declared.request.Word.TheVariants as word
use Rattle.pkcs1_program.specs.declared.request.PairWord.{PairWord}
use Rattle.pkcs1_program.specs.declared.request.PairWord.TheVariants as pair

-- the word, the number of encodings and each encoding are the answer
pub spellings_put : (word old one two new : List ℕ) (encodings : List (Vec ℕ)) → one ≡ old ++ word
    → two ≡ one ++ number_field (codes " ") (length encodings)
    → new ≡ two ++ flat_map (λ encoding. hex_field (codes " ") encoding.items) encodings
    → new ≡ old ++ spell_answer word (map (λ encoding. encoding.items) encodings)
spellings_put word old one two new encodings a b c =
    rw (
      flat_map-map (λ encoding. hex_field (codes " ") encoding) (λ (encoding : Vec ℕ). encoding.items) encodings,
      length-map,
    )
    (appended_three old one two new word (number_field (codes " ") (length encodings))
    (flat_map (λ (encoding : Vec ℕ). hex_field (codes " ") encoding.items) encodings) a b c)

module _ {V : Type 0} (Is : V → Type 0) (fields : V → List Field) where
  -- a value whose longest encoding isn't within the limit
  pub unlisted_decodes_none : (v : V) (encoding : List ℕ) → Decodes (SequenceOf Is fields Fields) encoding (Some v)
      → Lists Is fields v None
      → Decodes (ListedEncoding Is fields) encoding None
  unlisted_decodes_none v encoding read none w p =
      let fits = subst (λ u. length (longest (fields u)) ≤ limit) (read.1 w p.0) p.1 in
      omega arith

-- the list of all encodings is this one alone
pub lists_one : {V : Type 0} {Is : V → Type 0} {fields : V → List Field} → DefaultsAreCounted fields
    → EachMaskHasOne Is fields → (v : V) (xs ys : List (List ℕ)) → Lists Is fields v (Some xs)
    → Lists Is fields v (Some ys) → xs ≡ ys
lists_one counted one v xs ys (k, d, p) (j, e, q) =
    let same : k ≡ j = (counted v).2 k d ∙ sym ((counted v).2 j e) in
    ext_get_or [] xs ys (p.count ∙ ap (λ n. 2 ^ n) same ∙ sym q.count)
    (λ i below.
    let first : i < 2 ^ k = omega arith in
    let second : i < 2 ^ j = subst (λ n. i < 2 ^ n) same first in
    (one v i _ _ (p.under i first) (q.under i second)).0)

-- A line has at most one answer, and an input at most one output.

-- an encoding is that of one value
abbrev IsOfOne : {V : Type 0} → (V → List ℕ → Type 0) → Type 0
IsOfOne {V} Encoding = (v w : V) (encoding : List ℕ) → Encoding v encoding → Encoding w encoding → v ≡ w

-- what is told of the one value is one
answered_one : {V : Type 0} (Encoding : V → List ℕ → Type 0) (Told : V → List ℕ → Type 0) → IsOfOne Encoding
    → ((value : V) → HasAtMostOne (Told value)) → (encoding : List ℕ)
    → HasAtMostOne (Answered Encoding Told encoding)
answered_one Encoding Told one told encoding a b (inl p) (inl q) = p.1 ∙ sym q.1
answered_one Encoding Told one told encoding a b (inl p) (inr q) = absurd (p.0 q.0 q.1)
answered_one Encoding Told one told encoding a b (inr p) (inl q) = absurd (q.0 p.0 p.1)
answered_one Encoding Told one told encoding a b (inr p) (inr q) =
    let value : p.0 ≡ q.0 = one p.0 q.0 encoding p.1 q.1 in
    told q.0 a b (subst (λ v. Told v a) value p.2) q.2

says_one : (word : List ℕ) (fact : Type 0) → HasAtMostOne (SaysWhether word fact)
says_one word fact a b (inl p) (inl q) = p.1 ∙ sym q.1
says_one word fact a b (inl p) (inr q) = absurd (q.0 p.0)
says_one word fact a b (inr p) (inl q) = absurd (p.0 q.0)
says_one word fact a b (inr p) (inr q) = p.1 ∙ sym q.1

module _ {V : Type 0} {Encoding : V → List ℕ → Type 0} (delimited : AreDelimited Encoding) where
  means_one : IsOfOne Encoding
  means_one v w encoding p q =
      (delimited.1 v w encoding [] p (subst (Encoding w) (sym (append-nil encoding)) q)).0

  shortest_one : (v : V) → HasAtMostOne (IsShortest Encoding v)
  shortest_one v s t p q = (same_by_shortest Encoding delimited v v s s s t p.0 p.0 p q).0 refl

  tells_one : (told : V → List ℕ → List ℕ) (encoding : List ℕ) → HasAtMostOne (TellsValue Encoding told encoding)
  tells_one told encoding =
      answered_one Encoding _ means_one
      (λ value a b p q. p.2 ∙ ap (told value) (shortest_one value p.0 q.0 p.1 q.1) ∙ sym q.2) encoding

  tells_strict_one : (word encoding : List ℕ) → HasAtMostOne (TellsStrict word Encoding encoding)
  tells_strict_one word encoding =
      answered_one Encoding _ means_one (λ value. says_one word (IsShortest Encoding value encoding)) encoding

  -- no value has one of two encodings, and some value has each
  undecoded_not_both : (a b : List ℕ) (v w : V) → Decodes Encoding a None ⊎ Decodes Encoding b None → Encoding v a
      → Encoding w b → ⊥
  undecoded_not_both a b v w (inl none) p q = none v p
  undecoded_not_both a b v w (inr none) p q = none w q

  tells_same_one : (word first second : List ℕ) → HasAtMostOne (TellsSame word Encoding first second)
  tells_same_one word first second a b (inl p) (inl q) = p.1 ∙ sym q.1
  tells_same_one word first second a b (inl p) (inr q) = absurd (undecoded_not_both first second q.0 q.1 p.0 q.2 q.3)
  tells_same_one word first second a b (inr p) (inl q) = absurd (undecoded_not_both first second p.0 p.1 q.0 p.2 p.3)
  tells_same_one word first second a b (inr p) (inr q) =
      let v = means_one p.0 q.0 first p.2 q.2 in
      let w = means_one p.1 q.1 second p.3 q.3 in
      says_one word (q.0 ≡ q.1) a b (subst₂ (λ x y. SaysWhether word (x ≡ y) a) v w p.4) q.4

module _ {V : Type 0} (Is : V → Type 0) (fields : V → List Field) (counted : DefaultsAreCounted fields)
    (one : EachMaskHasOne Is fields) (delimited : AreDelimited (SequenceOf Is fields Fields)) where
  tells_parameters_one : (told : V → ℕ → List ℕ → List ℕ) (encoding : List ℕ)
      → HasAtMostOne (TellsParameters (SequenceOf Is fields Fields) fields told encoding)
  tells_parameters_one told encoding =
      answered_one (SequenceOf Is fields Fields) _ (means_one delimited)
      (λ value a b p q.
      let defaults : p.0 ≡ q.0 = (counted value).2 p.0 p.1 ∙ sym ((counted value).2 q.0 q.1) in
      let again : p.2 ≡ q.2 = shortest_one delimited value p.2 q.2 p.3 q.3 in
      p.4 ∙ (λ i. told value (defaults i) (again i)) ∙ sym q.4)
      encoding

  tells_spellings_one : (word encoding : List ℕ) → HasAtMostOne (TellsSpellings word Is fields encoding)
  tells_spellings_one word encoding =
      answered_one (ListedEncoding Is fields) _ (λ v w t p q. means_one delimited v w t p.0 q.0)
      (λ value a b p q. p.2 ∙ ap (spell_answer word) (lists_one counted one value p.0 q.0 p.1 q.1) ∙ sym q.2) encoding

-- What the laws of the crates below say.
pub record Laws : Type 0 where
  pub public_keys : AreDelimited PublicKeyEncoding
  pub private_keys : AreDelimited PrivateKeyEncoding
  pub pss : AreDelimited PssEncoding
  pub oaep : AreDelimited OaepEncoding
  pub containers : AtMostOne ContainerEncoding
  pub same_containers : SameByShortest ContainerEncoding
  pub pss_counted : DefaultsAreCounted pss_fields
  pub oaep_counted : DefaultsAreCounted oaep_fields
  pub pss_masks : EachMaskHasOne IsPss pss_fields
  pub oaep_masks : EachMaskHasOne IsOaep oaep_fields

module _ (laws : Laws) where
  container_means_one : IsOfOne RsaContainerEncoding
  container_means_one v w encoding p q =
      let only : IsShortest ContainerEncoding v.info encoding = (p.0, λ other o. inl (laws.containers v.info other encoding o p.0)) in
      let again : IsShortest ContainerEncoding w.info encoding = (q.0, λ other o. inl (laws.containers w.info other encoding o q.0)) in
      let info : v.info ≡ w.info =
      (laws.same_containers v.info w.info encoding encoding encoding encoding p.0 q.0 only again).1 refl in
      let same : PrivateKeyEncoding v.key w.info.private_key =
      subst (λ i. PrivateKeyEncoding v.key i.private_key) info p.1.1 in
      let key : v.key ≡ w.key = means_one laws.private_keys v.key w.key w.info.private_key same q.1.1 in
      λ i. record { info = info i; key = key i }

  tells_container_one : (encoding : List ℕ) → HasAtMostOne (TellsContainer encoding)
  tells_container_one encoding =
      answered_one RsaContainerEncoding (λ held a. a ≡ p8_answer held.key held.info.attributes encoding)
      container_means_one (λ held a b p q. p ∙ sym q) encoding

  word_answer_one : (asked : Word) (encoding : List ℕ) → HasAtMostOne (WordAnswer asked encoding)
  word_answer_one word.Pub encoding = tells_one laws.public_keys pub_answer encoding
  word_answer_one word.Priv encoding = tells_one laws.private_keys priv_answer encoding
  word_answer_one word.Pss encoding = tells_parameters_one IsPss pss_fields laws.pss_counted laws.pss_masks laws.pss pss_answer encoding
  word_answer_one word.Oaep encoding = tells_parameters_one IsOaep oaep_fields laws.oaep_counted laws.oaep_masks laws.oaep oaep_answer encoding
  word_answer_one word.P8 encoding = tells_container_one encoding
  word_answer_one word.SpellPss encoding = tells_spellings_one IsPss pss_fields laws.pss_counted laws.pss_masks laws.pss (codes "spell-pss") encoding
  word_answer_one word.SpellOaep encoding = tells_spellings_one IsOaep oaep_fields laws.oaep_counted laws.oaep_masks laws.oaep (codes "spell-oaep") encoding
  word_answer_one word.StrictPss encoding =
      tells_strict_one laws.pss (codes "strict-pss") encoding
  word_answer_one word.StrictOaep encoding =
      tells_strict_one laws.oaep (codes "strict-oaep") encoding

  pair_answer_one : (asked : PairWord) (first second : List ℕ) → HasAtMostOne (PairAnswer asked first second)
  pair_answer_one pair.SamePss first second =
      tells_same_one laws.pss (codes "same-pss") first second
  pair_answer_one pair.SameOaep first second =
      tells_same_one laws.oaep (codes "same-oaep") first second

  answer_to_one : (asked : Asked) → HasAtMostOne (AnswerTo asked)
  answer_to_one bad_line a b p q = p ∙ sym q
  answer_to_one (asks word encoding) a b p q = word_answer_one word encoding a b p q
  answer_to_one (asks_pair word first second) a b p q = pair_answer_one word first second a b p q

  pub answers_at_most_one : (line : List ℕ) → HasAtMostOne (Answer line)
  answers_at_most_one line a b p q = answer_to_one (asked_by line) a b p q

  pub output_at_most_one : (lines : List (List ℕ)) → HasAtMostOne (Outputs lines)
  output_at_most_one [] a b p q = p ∙ sym q
  output_at_most_one (line ∷ lines) a b p q =
      let answer : p.0 ≡ q.0 = answers_at_most_one line p.0 q.0 p.2 q.2 in
      let more : p.1 ≡ q.1 = output_at_most_one lines p.1 q.1 p.3 q.3 in
      p.4 ∙ (λ i. answer i ++ 10 ∷ more i) ∙ sym q.4
