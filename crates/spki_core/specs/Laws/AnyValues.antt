-- Tags with contents and algorithm identifiers: equality, and values that are mapped to others.
use Rattle.std.proofs.Common.{ℕ, List, ◌≡◌, ap, Decides, eqb, ◌&&◌, bytes_eq, sym, ◌∙◌, Bool, refl, Option, option_map}
use Rattle.der_core.specs.Words.{bytes_decide, number_decides, and_decides, option_decides, optional_itself}
use Rattle.spki_core.specs.Identifiers.{TagAndContents, Algorithm, same_any, same_algorithm, same_plain, same_mask}
use Rattle.std.specs.Option.{option_eq}

-- By tag and contents.
pub any_decides : (t u : ℕ) (c d : List ℕ)
    → Decides (eqb t u && bytes_eq c d)
    (◌≡◌ {A = TagAndContents} (record { tag = t; contents = c }) (record { tag = u; contents = d }))
any_decides t u c d =
    and_decides (number_decides t u) (bytes_decide c d) (λ p q i. record { tag = p i; contents = q i })
    (λ e. ap (λ (v : TagAndContents). v.tag) e) (λ e. ap (λ (v : TagAndContents). v.contents) e)

-- == Values that are mapped to other ones and back ==

-- What X means one way is mapped to what it means the other way.
pub record IsMapped {X V W : Type 0} (value : X → V) (other : X → W) : Type 0 where
  pub there : V → W
  pub back : W → V
  pub meant : (x : X) → other x ≡ there (value x)

-- Two that mean the same one way mean the same the other way.
pub mapped_same : {X V W : Type 0} {value : X → V} {other : X → W} → IsMapped value other → (x y : X)
    → value x ≡ value y → other x ≡ other y
mapped_same k x y same = k.meant x ∙ ap k.there same ∙ sym (k.meant y)

-- == A type that holds a tag with contents octets, whatever its values mean ==

-- Its values are tags with contents.
pub record HoldsAny {X V : Type 0} (value : X → V) (any : X → TagAndContents) : Type 0 where
  pub carried : IsMapped value any
  pub back_there : (v : V) → carried.back (carried.there v) ≡ v

-- A type whose values mean their tag and contents.
pub holds_itself : {X : Type 0} (any : X → TagAndContents) → HoldsAny any any
holds_itself any =
    record { carried = record { there = λ v. v; back = λ v. v; meant = λ x. refl }; back_there = λ v. refl }

-- An equality of what the values mean is an equality of what they hold.
pub holds_decides : {X V : Type 0} {value : X → V} {any : X → TagAndContents} (E : X → X → Bool) → HoldsAny value any
    → ((x y : X) → Decides (E x y) (value x ≡ value y)) → (x y : X) → Decides (E x y) (any x ≡ any y)
holds_decides E h d x y =
    let k = h.carried in (
      λ e. mapped_same k x y ((d x y).0 e),
      λ same. (d x y).1 (sym (h.back_there _) ∙ ap k.back (sym (k.meant x) ∙ same ∙ k.meant y) ∙ h.back_there _),
    )

-- Algorithm identifiers: equality.
-- Equality, by that of the parameters.
pub algorithm_decides : {P V : Type 0} (value : P → V) (E : P → P → Bool)
    → ((a b : P) → Decides (E a b) (value a ≡ value b)) → (x y : List ℕ) (p q : Option P)
    → Decides (bytes_eq x y && option_eq E p q)
    (◌≡◌ {A = Algorithm V} (record { oid = x; parameters = option_map value p })
    (record { oid = y; parameters = option_map value q }))
algorithm_decides {P} {V} value E d x y p q =
    and_decides (bytes_decide x y) (option_decides value E d p q) (λ p q i. record { oid = p i; parameters = q i })
    (λ e. ap (λ (v : Algorithm V). v.oid) e) (λ e. ap (λ (v : Algorithm V). v.parameters) e)

option_same : {V : Type 0} (E : V → V → Bool) → ((v w : V) → Decides (E v w) (v ≡ w)) → (p q : Option V)
    → Decides (option_eq E p q) (p ≡ q)
option_same E d p q = rw (optional_itself p, optional_itself q) at (option_decides (λ v. v) E d p q)

pub same_algorithm_decides : {P : Type 0} (same : P → P → Bool) → ((v w : P) → Decides (same v w) (v ≡ w))
    → (a b : Algorithm P) → Decides (same_algorithm same a b) (a ≡ b)
same_algorithm_decides {P} same d a b =
    and_decides (bytes_decide a.oid b.oid) (option_same same d a.parameters b.parameters) (λ p q i. record { oid = p i; parameters = q i })
    (λ e. ap (λ (v : Algorithm P). v.oid) e) (λ e. ap (λ (v : Algorithm P). v.parameters) e)

pub same_plain_decides : (a b : Algorithm TagAndContents) → Decides (same_plain a b) (a ≡ b)
same_plain_decides = same_algorithm_decides same_any (λ v w. any_decides v.tag w.tag v.contents w.contents)

pub same_mask_decides : (a b : Algorithm (Algorithm TagAndContents)) → Decides (same_mask a b) (a ≡ b)
same_mask_decides = same_algorithm_decides same_plain same_plain_decides
