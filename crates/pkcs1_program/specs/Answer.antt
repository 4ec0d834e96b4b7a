-- The output for keys and parameters, for a line, and for an input.
use Rattle.std.specs.Prelude.{◌≡◌, ℕ, ◌≤◌, ◌⊎◌, List, [], ◌∷◌, ◌++◌, Option, Some, None, codes, decimal, flat_map, length}
use Rattle.hex.specs.Hex.{encode_lower}
use Rattle.pkcs8_core.specs.Words.{ContainedKey}
use Rattle.standard.specs.Statement.{Algorithm, Container, ContainerEncoding, Decodes, Defaults, Field, Fields, IsOaep, IsPss, IsShortest, Lists, OaepEncoding, OaepParameters, OtherPrime, PrivateKey, PrivateKeyEncoding, PssEncoding, PssParameters, PublicKey, PublicKeyEncoding, SequenceOf, TagAndContents, limit, longest, oaep_fields, octets, pss_fields}
use Rattle.pkcs1_program.specs.declared.request.Word.{Word}
use Rattle.pkcs1_program.specs.declared.request.Word.TheVariants as word
use Rattle.pkcs1_program.specs.declared.request.PairWord.{PairWord}
use Rattle.pkcs1_program.specs.declared.request.PairWord.TheVariants as pair
use Rattle.pkcs1_program.specs.Request.{Asked, asked_by, asks, asks_pair, bad_line, lines_of}

-- a label, and bytes in hexadecimal digits
abbrev pub hex_field : List ℕ → List ℕ → List ℕ
hex_field label bytes = label ++ encode_lower bytes

-- a label, and the octets of a number in hexadecimal digits
abbrev pub number_fields : List (List ℕ × ℕ) → List ℕ
number_fields told = flat_map (λ n. hex_field n.0 (octets n.1)) told

-- `pub n=N e=E again=HEX`
abbrev pub pub_answer : PublicKey → List ℕ → List ℕ
pub_answer key again =
    codes "pub" ++ (number_fields ((codes " n=", key.modulus) ∷ (codes " e=", key.public_exponent) ∷ [])
    ++ hex_field (codes " again=") again)

-- the version is 1 if there are other primes
abbrev pub version_field : Option (List OtherPrime) → List ℕ
version_field None = codes " version=0"
version_field (Some others) = codes " version=1"

-- ` n=N e=E d=D p=P q=Q dp=DP dq=DQ qi=QI`
abbrev pub key_number_fields : PrivateKey → List ℕ
key_number_fields key =
    number_fields
    ((codes " n=", key.modulus)
    ∷ (codes " e=", key.public_exponent)
    ∷ (codes " d=", key.private_exponent)
    ∷ (codes " p=", key.prime1)
    ∷ (codes " q=", key.prime2)
    ∷ (codes " dp=", key.exponent1)
    ∷ (codes " dq=", key.exponent2)
    ∷ (codes " qi=", key.coefficient)
    ∷ [])

-- ` other=R,D,T`
abbrev pub other_prime_field : OtherPrime → List ℕ
other_prime_field other =
    number_fields ((codes " other=", other.prime) ∷ (codes ",", other.exponent) ∷ (codes ",", other.coefficient) ∷ [])

-- each other prime, in order
abbrev pub other_prime_fields : Option (List OtherPrime) → List ℕ
other_prime_fields None = []
other_prime_fields (Some others) = flat_map other_prime_field others

-- ` version=V n=N e=E d=D p=P q=Q dp=DP dq=DQ qi=QI`, and ` other=R,D,T` for each other prime
abbrev pub key_fields : PrivateKey → List ℕ
key_fields key = version_field key.other_primes ++ (key_number_fields key ++ other_prime_fields key.other_primes)

-- `priv version=V n=N e=E d=D p=P q=Q dp=DP dq=DQ qi=QI`, ` other=R,D,T` for each other prime, and ` again=HEX`
abbrev pub priv_answer : PrivateKey → List ℕ → List ℕ
priv_answer key again = codes "priv" ++ (key_fields key ++ hex_field (codes " again=") again)

-- ` attributes=-`, or ` attributes=` and their contents
abbrev pub attributes_field : Option (List ℕ) → List ℕ
attributes_field None = codes " attributes=-"
attributes_field (Some contents) = hex_field (codes " attributes=") contents

-- as `priv`, with the word `p8`, and with the attributes before ` again=HEX`
abbrev pub p8_answer : PrivateKey → Option (List ℕ) → List ℕ → List ℕ
p8_answer key attributes again =
    codes "p8" ++ (key_fields key ++ (attributes_field attributes ++ hex_field (codes " again=") again))

-- a label, and a number in decimal digits
abbrev pub number_field : List ℕ → ℕ → List ℕ
number_field label number = label ++ decimal number

-- a tag in two hexadecimal digits, `:`, and the contents in hexadecimal digits
abbrev pub any_digits : TagAndContents → List ℕ
any_digits any = encode_lower (any.tag ∷ []) ++ hex_field (codes ":") any.contents

-- `-` if parameters are absent, else what `told` says of them
abbrev pub parameters_digits : {P : Type 0} → (P → List ℕ) → Option P → List ℕ
parameters_digits told None = codes "-"
parameters_digits told (Some parameters) = told parameters

-- the contents of an identifier in hexadecimal digits, and `/`
abbrev pub identifier_digits : List ℕ → List ℕ
identifier_digits oid = encode_lower oid ++ codes "/"

abbrev pub algorithm_digits : {P : Type 0} → (P → List ℕ) → Algorithm P → List ℕ
algorithm_digits told algorithm = identifier_digits algorithm.oid ++ parameters_digits told algorithm.parameters

-- ALG: an algorithm with parameters of any type
abbrev pub plain_digits : Algorithm TagAndContents → List ℕ
plain_digits algorithm = algorithm_digits any_digits algorithm

-- `[` ALG `]`
abbrev pub bracketed_digits : Algorithm TagAndContents → List ℕ
bracketed_digits algorithm = codes "[" ++ (plain_digits algorithm ++ codes "]")

-- MASK: an algorithm whose parameters are one
abbrev pub mask_digits : Algorithm (Algorithm TagAndContents) → List ℕ
mask_digits mask_gen = algorithm_digits bracketed_digits mask_gen

-- ` hash=ALG mask=MASK`
abbrev pub hash_and_mask_fields : Algorithm TagAndContents → Algorithm (Algorithm TagAndContents) → List ℕ
hash_and_mask_fields hash mask_gen = codes " hash=" ++ (plain_digits hash ++ (codes " mask=" ++ mask_digits mask_gen))

-- ` defaults=K again=HEX`
abbrev pub spelling_fields : ℕ → List ℕ → List ℕ
spelling_fields k again = number_field (codes " defaults=") k ++ hex_field (codes " again=") again

-- `pss hash=ALG mask=MASK salt=S trailer=T defaults=K again=HEX`; T is 1 for all parameters that have an encoding
abbrev pub pss_answer : PssParameters → ℕ → List ℕ → List ℕ
pss_answer p k again =
    codes "pss"
    ++ (hash_and_mask_fields p.hash p.mask_gen
    ++ (number_field (codes " salt=") p.salt_len
    ++ (number_field (codes " trailer=") p.trailer_field ++ spelling_fields k again)))

-- the word, the number of encodings, and each of them
abbrev pub spell_answer : List ℕ → List (List ℕ) → List ℕ
spell_answer word encodings =
    word ++ (number_field (codes " ") (length encodings)
    ++ flat_map (λ encoding. hex_field (codes " ") encoding) encodings)

-- `oaep hash=ALG mask=MASK source=ALG defaults=K again=HEX`
abbrev pub oaep_answer : OaepParameters → ℕ → List ℕ → List ℕ
oaep_answer p k again =
    codes "oaep" ++ (hash_and_mask_fields p.hash p.mask_gen
    ++ (codes " source=" ++ (plain_digits p.p_source ++ spelling_fields k again)))

-- If no value has the encoding, the output is `refused`; else it is what `Told` says of the value.
abbrev pub Answered : {V : Type 0} → (V → List ℕ → Type 0) → (V → List ℕ → Type 0) → List ℕ → List ℕ → Type 0
Answered {V} Encoding Told encoding answer =
    (Decodes Encoding encoding None × (answer ≡ codes "refused"))
    ⊎ ((value : V) × Encoding value encoding × Told value answer)

-- the value and its shortest encoding
abbrev pub TellsValue : {V : Type 0} → (V → List ℕ → Type 0) → (V → List ℕ → List ℕ) → List ℕ → List ℕ → Type 0
TellsValue Encoding told encoding answer =
    Answered Encoding (λ value a. (again : List ℕ) × IsShortest Encoding value again × (a ≡ told value again)) encoding
    answer

-- the value, how many of its fields have their defaults, and its shortest encoding
abbrev pub TellsParameters : {V : Type 0} → (V → List ℕ → Type 0) → (V → List Field) → (V → ℕ → List ℕ → List ℕ)
    → List ℕ → List ℕ → Type 0
TellsParameters Encoding fields told encoding answer =
    Answered Encoding (λ value a. (k : ℕ) × Defaults (fields value) k × (again : List ℕ)
    × IsShortest Encoding value again × (a ≡ told value k again)) encoding answer

-- the word and ` yes` if the fact holds, else the word and ` no`
abbrev pub SaysWhether : List ℕ → Type 0 → List ℕ → Type 0
SaysWhether word fact answer = (fact × (answer ≡ word ++ codes " yes")) ⊎ ((fact → ⊥) × (answer ≡ word ++ codes " no"))

-- whether the encoding is the shortest of its value
abbrev pub TellsStrict : {V : Type 0} → List ℕ → (V → List ℕ → Type 0) → List ℕ → List ℕ → Type 0
TellsStrict word Encoding encoding answer =
    Answered Encoding (λ value a. SaysWhether word (IsShortest Encoding value encoding) a) encoding answer

-- An encoding of a value whose longest encoding is within the limit.
abbrev pub ListedEncoding : {V : Type 0} → (V → Type 0) → (V → List Field) → V → List ℕ → Type 0
ListedEncoding Is fields value encoding =
    SequenceOf Is fields Fields value encoding × (length (longest (fields value)) ≤ limit)

-- If no value has the encoding, or the longest encoding of its value isn't within the limit, the output is `refused`;
-- else it lists all encodings of the value, ordered by mask.
abbrev pub TellsSpellings : {V : Type 0} → List ℕ → (V → Type 0) → (V → List Field) → List ℕ → List ℕ → Type 0
TellsSpellings word Is fields encoding answer =
    Answered (ListedEncoding Is fields)
    (λ value a. (all : List (List ℕ)) × Lists Is fields value (Some all) × (a ≡ spell_answer word all)) encoding answer

-- If one of the two is no encoding of any value, the output is `refused`; else it says whether their values are equal.
abbrev pub TellsSame : {V : Type 0} → List ℕ → (V → List ℕ → Type 0) → List ℕ → List ℕ → List ℕ → Type 0
TellsSame {V} word Encoding a b answer =
    ((Decodes Encoding a None ⊎ Decodes Encoding b None) × (answer ≡ codes "refused"))
    ⊎ ((v : V) × (w : V) × Encoding v a × Encoding w b × SaysWhether word (v ≡ w) answer)

-- a PKCS #8 container, with the RSA key that it holds
pub record RsaContainer : Type 0 where
  pub info : Container
  pub key : PrivateKey

abbrev pub RsaContainerEncoding : RsaContainer → List ℕ → Type 0
RsaContainerEncoding held encoding =
    ContainerEncoding held.info encoding × ContainedKey held.info held.key held.info.private_key

-- the RSA key in the container, the container's attributes, and its encoding
abbrev pub TellsContainer : List ℕ → List ℕ → Type 0
TellsContainer encoding answer =
    Answered RsaContainerEncoding (λ held a. a ≡ p8_answer held.key held.info.attributes encoding) encoding answer

-- the output for a word with one encoding
abbrev pub WordAnswer : Word → List ℕ → List ℕ → Type 0
WordAnswer word.Pub encoding answer = TellsValue PublicKeyEncoding pub_answer encoding answer
WordAnswer word.Priv encoding answer = TellsValue PrivateKeyEncoding priv_answer encoding answer
WordAnswer word.Pss encoding answer = TellsParameters PssEncoding pss_fields pss_answer encoding answer
WordAnswer word.Oaep encoding answer = TellsParameters OaepEncoding oaep_fields oaep_answer encoding answer
WordAnswer word.P8 encoding answer = TellsContainer encoding answer
WordAnswer word.SpellPss encoding answer = TellsSpellings (codes "spell-pss") IsPss pss_fields encoding answer
WordAnswer word.SpellOaep encoding answer = TellsSpellings (codes "spell-oaep") IsOaep oaep_fields encoding answer
WordAnswer word.StrictPss encoding answer = TellsStrict (codes "strict-pss") PssEncoding encoding answer
WordAnswer word.StrictOaep encoding answer = TellsStrict (codes "strict-oaep") OaepEncoding encoding answer

-- the output for a word with two encodings
abbrev pub PairAnswer : PairWord → List ℕ → List ℕ → List ℕ → Type 0
PairAnswer pair.SamePss a b answer = TellsSame (codes "same-pss") PssEncoding a b answer
PairAnswer pair.SameOaep a b answer = TellsSame (codes "same-oaep") OaepEncoding a b answer

abbrev pub AnswerTo : Asked → List ℕ → Type 0
AnswerTo bad_line answer = answer ≡ codes "bad line"
AnswerTo (asks word encoding) answer = WordAnswer word encoding answer
AnswerTo (asks_pair word a b) answer = PairAnswer word a b answer

-- the output for a line
abbrev pub Answer : List ℕ → List ℕ → Type 0
Answer line answer = AnswerTo (asked_by line) answer

-- the output for lines: that for each, followed by a line feed
abbrev pub Outputs : List (List ℕ) → List ℕ → Type 0
Outputs [] output = output ≡ []
Outputs (line ∷ lines) output =
    (answer : List ℕ) × (more : List ℕ) × Answer line answer × Outputs lines more × (output ≡ answer ++ 10 ∷ more)

-- the output for an input
abbrev pub Output : List ℕ → List ℕ → Type 0
Output input output = Outputs (lines_of input) output

-- Bytes of which `IsAnswer` holds were appended.
abbrev pub Puts : (List ℕ → Type 0) → List ℕ → List ℕ → Type 0
Puts IsAnswer old new = (answer : List ℕ) × IsAnswer answer × (new ≡ old ++ answer)

-- The output for the line was appended.
abbrev pub PutsAnswer : List ℕ → List ℕ → List ℕ → Type 0
PutsAnswer line old new = Puts (Answer line) old new
