-- What is put behind bytes, piece by piece.
use Rattle.std.proofs.Common.{◌≡◌, ℕ, List, [], ◌∷◌, ◌++◌, ◌+◌, ◌<◌, length, take, inl, inr, refl, sym, ap, ◌∙◌, append_assoc, append-nil, get_or, None, flat_map, Result, OnOk, codes}
use Rattle.std.proofs.lemmas.Grind.{flat_map-append}
use Rattle.std.proofs.lemmas.List.{take_more}
use Rattle.std.proofs.lemmas.Result.{on_ok_weaker}
use Rattle.der_core.specs.Words.{holds_canonical, number_octets, bytes_of}
use Rattle.der_core.specs.declared.integer.uint.UintRef.{UintRef}
use Rattle.pkcs1.specs.Words.{number_in}
use Rattle.standard.specs.Statement.{AtMostOne, Decodes, IsShortest, octets}
use Rattle.pkcs1_program.specs.Words.{Answered, TellsValue}

-- one piece more in front of those that follow
appended_two : (old now new piece rest : List ℕ) → now ≡ old ++ piece → new ≡ now ++ rest → new ≡ old ++ (piece ++ rest)
appended_two old now new piece rest e f = f ∙ ap (λ b. b ++ rest) e ∙ append_assoc old piece rest

-- three pieces, and four
pub appended_three : (o p q new a b c : List ℕ) → p ≡ o ++ a → q ≡ p ++ b → new ≡ q ++ c → new ≡ o ++ (a ++ (b ++ c))
appended_three o p q new a b c h i j = appended_two o p new a _ h (appended_two p q new b _ i j)

pub appended_four : (o p q r new a b c d : List ℕ) → p ≡ o ++ a → q ≡ p ++ b → r ≡ q ++ c → new ≡ r ++ d
    → new ≡ o ++ (a ++ (b ++ (c ++ d)))
appended_four o p q r new a b c d h i j k = appended_two o p new a _ h (appended_three p q r new b c d i j k)

-- one item more of a list
pub item_put : {X : Type 0} (tell : X → List ℕ) (xs : List X) (i : ℕ) (x : X) (old now new : List ℕ) → i < length xs
    → x ≡ get_or xs i x → now ≡ old ++ flat_map tell (take i xs) → new ≡ now ++ tell x
    → new ≡ old ++ flat_map tell (take (i + 1) xs)
item_put tell xs i x old now new below is before put =
    let last : take (i + 1) xs ≡ take i xs ++ x ∷ [] =
    take_more xs i x below ∙ ap (λ y. take i xs ++ y ∷ []) (sym is) in
    put ∙ ap (λ b. b ++ tell x) before ∙ append_assoc old (flat_map tell (take i xs)) (tell x)
    ∙ ap (λ b. old ++ b)
    (ap (λ b. flat_map tell (take i xs) ++ b) (sym (append-nil (tell x)))
    ∙ sym (flat_map-append tell (take i xs) (x ∷ []))
    ∙ ap (flat_map tell) (sym last))

module _ {V T E : Type 0} (Encoding : V → List ℕ → Type 0) (encoding old new : List ℕ) (r : Result T E) where
  -- what is put of a value is an answer
  pub answer_put : (Told : V → List ℕ → Type 0) (v : V) (answer : List ℕ) → Encoding v encoding → Told v answer
      → OnOk r (new ≡ old ++ answer)
      → OnOk r ((a : List ℕ) × Answered Encoding Told encoding a × (new ≡ old ++ a))
  answer_put Told v answer is tells put = on_ok_weaker r (λ p. (answer, inr (v, is, tells), p)) put

  -- so is `refusal_put`, of no value
  pub refusal_put : (Told : V → List ℕ → Type 0) → Decodes Encoding encoding None
      → OnOk r (new ≡ old ++ codes "refused")
      → OnOk r ((a : List ℕ) × Answered Encoding Told encoding a × (new ≡ old ++ a))
  refusal_put Told none put = on_ok_weaker r (λ p. (codes "refused", inl (none, refl), p)) put

  -- what is put of a value, with its only encoding
  pub key_answer_put : (tell : V → List ℕ → List ℕ) → AtMostOne Encoding → (v : V) → Encoding v encoding
      → OnOk r (new ≡ old ++ tell v encoding)
      → OnOk r ((a : List ℕ) × TellsValue Encoding tell encoding a × (new ≡ old ++ a))
  key_answer_put tell one v is put =
      let shortest : IsShortest Encoding v encoding = (is, λ other p. inl (one v other encoding p is)) in
      answer_put (λ v a. (again : List ℕ) × IsShortest Encoding v again × (a ≡ tell v again)) v (tell v encoding) is
      (encoding, shortest, refl) put

-- the octets of a number
pub uint_octets_held : (u : UintRef) → bytes_of u ≡ octets (number_in bytes_of u)
uint_octets_held u = sym (number_octets (bytes_of u) (holds_canonical (bytes_of u) u.canonical))
