-- Worked rows of `Answer.antt` of `pkcs1_program`: what the output for an encoding, a line and an input says.
use Rattle.std.proofs.Common.{ℕ, List, [], ◌∷◌, ◌++◌, ◌≡◌, ◌≤◌, ◌⊎◌, codes, length, Some, None}
use Rattle.std.specs.Prelude.{◌↔◌}
use Rattle.pkcs1_program.specs.Answer.{Answer, AnswerTo, Answered, ListedEncoding, Output, Outputs, PairAnswer, Puts, PutsAnswer, RsaContainer, RsaContainerEncoding, SaysWhether, TellsContainer, TellsParameters, TellsSame, TellsSpellings, TellsStrict, TellsValue, WordAnswer, oaep_answer, p8_answer, priv_answer, pss_answer, pub_answer, spell_answer}
use Rattle.pkcs1_program.specs.Request.{asked_by, asks, asks_pair, bad_line, lines_of}
use Rattle.pkcs1_program.specs.declared.request.PairWord.TheVariants as pair
use Rattle.pkcs1_program.specs.declared.request.Word.TheVariants as word
use Rattle.standard.specs.Statement.{ContainerEncoding, Decodes, Defaults, Field, Fields, IsOaep, IsPss, IsShortest, Lists, OaepEncoding, PrivateKeyEncoding, PssEncoding, PublicKeyEncoding, SequenceOf, longest, oaep_fields, pss_fields, rsa_encryption}

module _ {V : Type 0} (Encoding : V → List ℕ → Type 0) (bytes answer : List ℕ) where
  answered_or_refused : (Told : V → List ℕ → Type 0) → Answered Encoding Told bytes answer
      ↔ ((Decodes Encoding bytes None × (answer ≡ codes "refused"))
      ⊎ ((v : V) × Encoding v bytes × Told v answer))
  answered_or_refused Told = (λ p. p, λ p. p)

  value_told : (told : V → List ℕ → List ℕ) → TellsValue Encoding told bytes answer
      ↔ Answered Encoding (λ v a. (again : List ℕ) × IsShortest Encoding v again × (a ≡ told v again)) bytes answer
  value_told told = (λ p. p, λ p. p)

  parameters_told : (fields : V → List Field) (told : V → ℕ → List ℕ → List ℕ)
      → TellsParameters Encoding fields told bytes answer
      ↔ Answered Encoding (λ v a. (k : ℕ) × Defaults (fields v) k × (again : List ℕ) × IsShortest Encoding v again
      × (a ≡ told v k again)) bytes answer
  parameters_told fields told = (λ p. p, λ p. p)

  strict_told : TellsStrict (codes "it") Encoding bytes answer
      ↔ Answered Encoding (λ v a. SaysWhether (codes "it") (IsShortest Encoding v bytes) a) bytes answer
  strict_told = (λ p. p, λ p. p)

  same_told : (other : List ℕ) → TellsSame (codes "it") Encoding bytes other answer
      ↔ (((Decodes Encoding bytes None ⊎ Decodes Encoding other None) × (answer ≡ codes "refused"))
      ⊎ ((v w : V) × Encoding v bytes × Encoding w other × SaysWhether (codes "it") (v ≡ w) answer))
  same_told other = (λ p. p, λ p. p)

module _ {V : Type 0} (Is : V → Type 0) (fields : V → List Field) (v : V) (bytes answer : List ℕ) where
  encoding_listed : ListedEncoding Is fields v bytes
      ↔ (SequenceOf Is fields Fields v bytes × (length (longest (fields v)) ≤ 4294967295))
  encoding_listed = (λ p. p, λ p. p)

  spellings_told : TellsSpellings (codes "it") Is fields bytes answer ↔ Answered (ListedEncoding Is fields)
      (λ w a. (all : List (List ℕ)) × Lists Is fields w (Some all) × (a ≡ spell_answer (codes "it") all)) bytes answer
  spellings_told = (λ p. p, λ p. p)

said_whether : (fact : Type 0) (answer : List ℕ) → SaysWhether (codes "it") fact answer
    ↔ ((fact × (answer ≡ codes "it yes")) ⊎ ((fact → ⊥) × (answer ≡ codes "it no")))
said_whether fact answer = (λ p. p, λ p. p)

module _ (a b answer : List ℕ) where
  container_of_key : (held : RsaContainer) → RsaContainerEncoding held a ↔ (ContainerEncoding held.info a
      × ((held.info.algorithm ≡ rsa_encryption) × PrivateKeyEncoding held.key held.info.private_key))
  container_of_key held = (λ p. p, λ p. p)

  container_told : TellsContainer a answer ↔ Answered RsaContainerEncoding
      (λ held told. told ≡ p8_answer held.key held.info.attributes a) a answer
  container_told = (λ p. p, λ p. p)

  keys_answered : (WordAnswer word.Pub a answer ↔ TellsValue PublicKeyEncoding pub_answer a answer)
      × (WordAnswer word.Priv a answer ↔ TellsValue PrivateKeyEncoding priv_answer a answer)
      × (WordAnswer word.P8 a answer ↔ TellsContainer a answer)
  keys_answered = ((λ p. p, λ p. p), (λ p. p, λ p. p), (λ p. p, λ p. p))

  pss_answered : (WordAnswer word.Pss a answer ↔ TellsParameters PssEncoding pss_fields pss_answer a answer)
      × (WordAnswer word.SpellPss a answer ↔ TellsSpellings (codes "spell-pss") IsPss pss_fields a answer)
      × (WordAnswer word.StrictPss a answer ↔ TellsStrict (codes "strict-pss") PssEncoding a answer)
      × (PairAnswer pair.SamePss a b answer ↔ TellsSame (codes "same-pss") PssEncoding a b answer)
  pss_answered = ((λ p. p, λ p. p), (λ p. p, λ p. p), (λ p. p, λ p. p), (λ p. p, λ p. p))

  oaep_answered : (WordAnswer word.Oaep a answer ↔ TellsParameters OaepEncoding oaep_fields oaep_answer a answer)
      × (WordAnswer word.SpellOaep a answer ↔ TellsSpellings (codes "spell-oaep") IsOaep oaep_fields a answer)
      × (WordAnswer word.StrictOaep a answer ↔ TellsStrict (codes "strict-oaep") OaepEncoding a answer)
      × (PairAnswer pair.SameOaep a b answer ↔ TellsSame (codes "same-oaep") OaepEncoding a b answer)
  oaep_answered = ((λ p. p, λ p. p), (λ p. p, λ p. p), (λ p. p, λ p. p), (λ p. p, λ p. p))

  asked_answered : (AnswerTo bad_line answer ↔ (answer ≡ codes "bad line"))
      × (AnswerTo (asks word.Pub a) answer ↔ WordAnswer word.Pub a answer)
      × (AnswerTo (asks_pair pair.SamePss a b) answer ↔ PairAnswer pair.SamePss a b answer)
  asked_answered = ((λ p. p, λ p. p), (λ p. p, λ p. p), (λ p. p, λ p. p))

  line_answered : Answer a answer ↔ AnswerTo (asked_by a) answer
  line_answered = (λ p. p, λ p. p)

  answer_put_on : PutsAnswer a b answer ↔ ((told : List ℕ) × Answer a told × (answer ≡ b ++ told))
  answer_put_on = (λ p. p, λ p. p)

  bytes_put : (IsAnswer : List ℕ → Type 0) → Puts IsAnswer a b ↔ ((told : List ℕ) × IsAnswer told × (b ≡ a ++ told))
  bytes_put IsAnswer = (λ p. p, λ p. p)

  input_answered : Output a answer ↔ Outputs (lines_of a) answer
  input_answered = (λ p. p, λ p. p)

  lines_answered : (lines : List (List ℕ)) → (Outputs [] answer ↔ (answer ≡ [])) × (Outputs (a ∷ lines) answer
      ↔ ((told more : List ℕ) × Answer a told × Outputs lines more × (answer ≡ told ++ 10 ∷ more)))
  lines_answered lines = ((λ p. p, λ p. p), (λ p. p, λ p. p))
