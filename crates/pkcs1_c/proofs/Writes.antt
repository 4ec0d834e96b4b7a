-- What is so of all calls that write: the reason, and the status of an error. For each call that returns a status.
use Rattle.std.proofs.Common.{ℕ, zero, suc, List, ◌≡◌, ◌<◌, ◌∙◌, length, refl, sym, subst, arith, rules, Some, ◌↔◌, Result, Err}
use Rattle.standard.specs.Statement.{Decodes}
use Rattle.pkcs1_c.specs.Words.{IsErrorOf, NoStatus, FieldsError, PartThen, UnwrittenStatus, EncodingIfHeld, WritesOrTells, kind_number, status_of, IsErrorNumber, IsStatusOf}
use Rattle.pkcs1_c.proofs.StructErrors.{HasOneStatus, IsPartError}
use Rattle.der_core.specs.Words.{TellsOfBytes}
use Rattle.der_core.specs.declared.error.ErrorKind.{ErrorKind}
use Rattle.pkcs1_params.specs.Words.{IsAsn1}
use Rattle.pkcs1_params.specs.declared.error.Error.{Error}
use Rattle.pkcs1_params.specs.declared.error.Error.TheVariants as error

-- A status that is the only one is that of the error.
pub only_status_is_error : (WhyNot : ℕ → Type 0) (s : ℕ) → HasOneStatus WhyNot → 0 < s → WhyNot s → IsErrorOf WhyNot s
only_status_is_error WhyNot zero one some p = absurd (omega arith)
only_status_is_error WhyNot (suc n) one some p = search rules

-- Two ways to say the same reasons.
pub error_of_same_reasons : (A B : ℕ → Type 0) (s : ℕ) → ((t : ℕ) → A t → B t) → ((t : ℕ) → B t → A t) → IsErrorOf A s
    → IsErrorOf B s
error_of_same_reasons A B zero there back none = search rules
error_of_same_reasons A B (suc n) there back error = search rules

-- A value, and another that has the same encodings.
module _ {V W : Type 0} (Encoding : V → List ℕ → Type 0) (v : V) (Other : W → List ℕ → Type 0) (w : W)
    (same : (bytes : List ℕ) → Other w bytes ↔ Encoding v bytes) where
  pub written_as : {old new : List ℕ} {l m s : ℕ} → WritesOrTells Other w old new l m s
      → WritesOrTells Encoding v old new l m s
  written_as told = search rules

  pub unwritten_error_as : (room s : ℕ) → IsErrorOf (UnwrittenStatus Other w room) s
      → IsErrorOf (UnwrittenStatus Encoding v room) s
  unwritten_error_as room s =
      error_of_same_reasons (UnwrittenStatus Other w room) (UnwrittenStatus Encoding v room) s (λ t p. search rules)
      (λ t p. search rules)

  -- Parts of the value can be held.
  pub held_written : (Has : Type 0) → Has → {old new : List ℕ} {l m s : ℕ} → WritesOrTells Other w old new l m s
      → WritesOrTells (EncodingIfHeld Has Encoding) v old new l m s
  held_written Has has told = search rules

-- A part that can be held, or not.
pub error_behind : (Part Rest : ℕ → Type 0) (s : ℕ) → NoStatus Part → IsErrorOf Rest s
    → IsErrorOf (PartThen Part Rest) s
error_behind Part Rest zero none error = search rules
error_behind Part Rest (suc n) none error = search rules

error_first : (Part Rest : ℕ → Type 0) (s : ℕ) → IsPartError Part → Part s → IsErrorOf (PartThen Part Rest) s
error_first Part Rest zero part p = absurd (omega (arith, part.1 zero p))
error_first Part Rest (suc n) part p = search rules

-- A call whose status is that of a part that can't be held. What has the encoding that is asked for has such parts.
pub part_rejected : (Part Rest : ℕ → Type 0) → IsPartError Part → {V : Type 0} (Asked : V → List ℕ → Type 0) (v : V)
    → ((bytes : List ℕ) → Asked v bytes → NoStatus Part) → (old : List ℕ) (l : ℕ) {s t : ℕ} → s ≡ t → Part t
    → WritesOrTells Asked v old old l l s × IsErrorOf (PartThen Part Rest) s
part_rejected Part Rest part Asked v fits old l {s} is p =
    let q = subst Part (sym is) p in
    let told = part.1 s q in (search rules, error_first Part Rest s part q)

-- Parameters, a field of which can't be held.
pub fields_rejected : {V : Type 0} (Part : V → ℕ → Type 0) (Encoding : V → List ℕ → Type 0) (v : V)
    → IsPartError (Part v)
    → ((bytes : List ℕ) → Encoding v bytes → NoStatus (Part v)) → (old : List ℕ) (l : ℕ) {s t : ℕ} → s ≡ t
    → Part v t → WritesOrTells Encoding v old old l l s × IsErrorOf (FieldsError Part Encoding v (length old)) s
fields_rejected Part Encoding v part fits old =
    part_rejected (Part v) (UnwrittenStatus Encoding v (length old)) part Encoding v fits old

-- An error that tells of bytes has a number, below that of lack of room.
tells_below : (e : ErrorKind) → TellsOfBytes e → (0 < kind_number e) × (kind_number e < 15)
tells_below e t = grind arith

-- What is known of an error, of its number.
module _ {V : Type 0} (given : Result V ErrorKind) (tells : (k : ErrorKind) → given ≡ Err k → TellsOfBytes k) where
  -- its number is that of the fault, and not that of lack of room
  pub status_known : (e : Error) → IsAsn1 (λ a. given ≡ Err a.kind) e
      → ((0 < status_of e) × (status_of e < 15)) × IsErrorNumber given (status_of e)
  status_known (error.Asn1 a) p = (tells_below a.kind (tells a.kind p), (a.kind, p, refl))
  status_known error.Crypto p = absurd p
  status_known error.KeyMalformed p = absurd p
  status_known error.Version p = absurd p

  -- so the call returns that status
  pub status_exact : (e : Error) (number : ℕ) → number ≡ status_of e → IsAsn1 (λ a. given ≡ Err a.kind) e
      → IsStatusOf given number
  status_exact e zero is p = absurd (omega (arith, (status_known e p).0.0))
  status_exact e (suc n) is p =
      let known = status_known e p in (omega arith, (known.1.0, known.1.1, is ∙ known.1.2))

-- A value that was read, and the equal one that a struct has.
pub decodes_equal_value : {V : Type 0} (Encoding : V → List ℕ → Type 0) {bytes : List ℕ} {u v : V} → u ≡ v
    → Decodes Encoding bytes (Some v) → Decodes Encoding bytes (Some u)
decodes_equal_value Encoding {bytes} is read = subst (λ v. Decodes Encoding bytes (Some v)) (sym is) read
