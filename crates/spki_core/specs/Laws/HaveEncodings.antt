-- What memory holds has an encoding, and is written as what it holds.
use Rattle.std.proofs.Common.{List, ℕ, Option, Some, None, option_map, ◌++◌, ◌≡◌, ◌↔◌, refl, ap}
use Rattle.der_core.specs.Words.{are_bytes, object_identifier_octet, sequence_octet, tlv, last_part_asks_as_it, last_once, AreSpelledOnce}
use Rattle.spki_core.specs.AlgorithmValue.{algorithm_in}
use Rattle.spki_core.specs.HeldValues.{any_of, own_octets_of, identifier_octets, own_any_of}
use Rattle.spki_core.specs.Laws.IdentifierTest.{is_identifier-sound}
use Rattle.spki_core.specs.declared.algorithm_identifier.AlgorithmIdentifierOf.{AlgorithmIdentifierOf}
use Rattle.spki_core.specs.declared.any.AnyRef.{AnyRef}
use Rattle.spki_core.specs.declared.identifier_view.IdentifierView.{IdentifierView}
use Rattle.spki_core.specs.declared.object_identifier.ObjectIdentifier.{ObjectIdentifier}
use Rattle.spki_core.specs.declared.owned_any.Any.{Any}
use Rattle.standard.specs.Statement.{IfPresent, IsAlgorithm, IsAny, IsIdentifier, algorithm, optional}
use Rattle.spki_core.specs.Identifiers.{algorithm_contents, algorithm_map}
use Rattle.spki_core.specs.Allocating.{AllocatesForParameters}

pub identifier_held : (oid : ObjectIdentifier) → IsIdentifier (own_octets_of oid)
identifier_held oid = is_identifier-sound (own_octets_of oid) (are_bytes (own_octets_of oid) oid.bytes) oid.valid

pub viewed_held : (oid : IdentifierView) → IsIdentifier (identifier_octets oid)
viewed_held oid = is_identifier-sound (identifier_octets oid) (are_bytes (identifier_octets oid) oid.bytes) oid.valid

pub any_held : (any : AnyRef) → IsAny (any_of any)
any_held any = (any.tag.allowed, are_bytes any.contents.now any.octets)

pub own_any_held : (any : Any) → IsAny (own_any_of any)
own_any_held any = (any.tag.allowed, are_bytes any.contents.items any.octets)

-- So has an identifier with it as parameters.
module _ {O X V : Type 0} (octets : O → List ℕ) (identifies : (oid : O) → IsIdentifier (octets oid)) (of : X → V)
    (Is : V → Type 0) (held : (x : X) → Is (of x)) where
  parameters_held : (p : Option X) → IfPresent Is (option_map of p)
  parameters_held None = tt
  parameters_held (Some x) = held x

  pub algorithm_held : (a : AlgorithmIdentifierOf O X) → IsAlgorithm Is (algorithm_in octets of a)
  algorithm_held a = (identifies a.oid, parameters_held a.parameters)

-- == Types whose values are written as what they hold ==

-- What a value means is written exactly if what it holds is, and in the same octets.
pub record WritesAs {X V W : Type 0} (value : X → V) (Has : V → Type 0) (written : V → List ℕ) (held : X → W)
    (Holds : W → Type 0) (octets : W → List ℕ) : Type 0 where
  pub has_to : (x : X) → Has (value x) → Holds (held x)
  pub has_of : (x : X) → Holds (held x) → Has (value x)
  pub same : (x : X) → written (value x) ≡ octets (held x)

pub writes_itself : {X V : Type 0} (value : X → V) (Has : V → Type 0) (written : V → List ℕ)
    → WritesAs value Has written value Has written
writes_itself value Has written = record { has_to = λ x h. h; has_of = λ x h. h; same = λ x. refl }

-- An identifier is written as one whose parameters are what they hold.
module _ {O X V W S : Type 0} (oid_of : O → List ℕ) {value : X → V} (spelling : V → S) (valid : S → Type 0)
    (printed : S → List ℕ) {held : X → W} {Holds : W → Type 0} {octets : W → List ℕ}
    (w : WritesAs value (λ v. valid (spelling v)) (λ v. printed (spelling v)) held Holds octets) where
  parameters_written : (p : Option X)
      → (IfPresent valid (option_map spelling (option_map value p)) ↔ IfPresent Holds (option_map held p))
      × (optional printed (option_map spelling (option_map value p)) ≡ optional octets (option_map held p))
  parameters_written None = ((λ h. h, λ h. h), refl)
  parameters_written (Some x) = ((w.has_to x, w.has_of x), w.same x)

  pub algorithm_writes : WritesAs (algorithm_in oid_of value) (λ a. IsAlgorithm valid (algorithm_map spelling a))
      (λ a. tlv sequence_octet (algorithm_contents printed (algorithm_map spelling a))) (algorithm_in oid_of held)
      (IsAlgorithm Holds) (algorithm octets)
  algorithm_writes = record {
    has_to = λ (a : AlgorithmIdentifierOf O X) h. (h.0, (parameters_written a.parameters).0.0 h.1);
    has_of = λ (a : AlgorithmIdentifierOf O X) h. (h.0, (parameters_written a.parameters).0.1 h.1);
    same = λ (a : AlgorithmIdentifierOf O X).
        ap (λ p. tlv sequence_octet (tlv object_identifier_octet (oid_of a.oid) ++ p))
        (parameters_written a.parameters).1;
  }

-- Algorithm identifiers as parts of records. One asks of memory what its parameters ask; and it has one spelling if
-- they have.
pub algorithm_asks_as_parameters : {may : List ℕ → Type 0} {Asked : Type 0} → ((b : List ℕ) → may b → Asked)
    → (c : List ℕ) → AllocatesForParameters may c → Asked
algorithm_asks_as_parameters parameters c (v, (x, y, t, w, is)) = last_part_asks_as_it parameters y w

pub algorithm_once : {S V : Type 0} {means : S → V} → AreSpelledOnce means → AreSpelledOnce (algorithm_map means)
algorithm_once once s t e =
    let parameters = last_once once s.parameters t.parameters (ap (λ a. a.parameters) e) in
    λ i. record { oid = ap (λ a. a.oid) e i; parameters = parameters i }
