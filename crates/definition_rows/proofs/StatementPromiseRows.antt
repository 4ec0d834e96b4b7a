-- Worked rows of the promises in `specs/Statement.antt` of `standard`: each fails where one claims too little, or too
-- much.
use Rattle.std.proofs.Common.{List, [], ◌∷◌, ◌++◌, ◌≡◌, ◌<◌, ◌∙◌, ◌⊎◌, length, refl, ap, sym, arith, Some, None, inl, inr, ◌^◌, length-append, ℕ, zero, suc}
use Rattle.std.specs.Prelude.{slice_index_or}
use Rattle.standard.specs.Statement.{AlgorithmEncoding, AreAll, AtMostOne, Decodes, Defaults, Encodes, Field, Fields, FieldsUnder, IsShortest, Lists, SameByShortest, SequenceOf, TwoToTheDefaults, TwoToTheDefaultsIn, length_octets, limit, longest, sequence, tlv}

-- == Each of these would hold if the promise claimed too little ==
abbrev EmptyEncoding : ℕ → List ℕ → Type 0
EmptyEncoding v bytes = bytes ≡ []

abbrev Whatever : ℕ → List ℕ → Type 0
Whatever v bytes = bytes ≡ bytes

nothing_read : Decodes EmptyEncoding [] None → ⊥
nothing_read p = p 0 refl

two_values_read : Decodes EmptyEncoding [] (Some 1) → ⊥
two_values_read p = omega (arith, p.1 0 refl)

no_encoding_read : Decodes EmptyEncoding (1 ∷ []) (Some 0) → ⊥
no_encoding_read p = let same = p.0 in cc

less_than_none : (◌≡◌ {A = List ℕ} [] (1 ∷ [])) ⊎ (1 < 0) → ⊥
less_than_none (inl e) = cc
less_than_none (inr less) = omega (arith, less)

longer_one : IsShortest Whatever 0 (1 ∷ []) → ⊥
longer_one p = less_than_none (p.1 [] refl)

shortest_encodes : IsShortest EmptyEncoding 0 (1 ∷ []) → ⊥
shortest_encodes p = let same = p.0 in cc

nothing_written : Encodes EmptyEncoding 0 [] [] None → ⊥
nothing_written p = omega (arith, p.1 [] refl)

unwritten_slice_unchanged : Encodes (λ (v : ℕ) bytes. bytes ≡ 1 ∷ 2 ∷ []) 0 [] (3 ∷ []) None → ⊥
unwritten_slice_unchanged p = let same = p.0 in cc

written_within_slice : Encodes (λ (v : ℕ) bytes. bytes ≡ []) 0 [] [] (Some 1) → ⊥
written_within_slice p = omega (arith, p.0)

rest_kept : Encodes EmptyEncoding 0 (1 ∷ []) (2 ∷ []) (Some 0) → ⊥
rest_kept p = let same = p.2 in cc

at_most_one_encoding : AtMostOne Whatever → ⊥
at_most_one_encoding p = let same = p 0 [] (1 ∷ []) refl refl in cc

nothing_listed : Lists (λ (v : ℕ). v ≡ v) (λ (v : ℕ). []) 0 None → ⊥
unfolding length_octets
nothing_listed p = omega (arith, p refl)

none_listed : Lists (λ (v : ℕ). v ≡ v) (λ (v : ℕ). []) 0 (Some []) → ⊥
none_listed p = omega (arith, p.2.count, ap (λ k. 2 ^ k) p.1)

empty_is_shortest : (v : ℕ) → IsShortest EmptyEncoding v []
empty_is_shortest v = (refl, λ other is. inl is)

same_means : SameByShortest EmptyEncoding → ⊥
same_means p =
    omega (arith, (p 0 1 [] [] [] [] refl refl (empty_is_shortest 0) (empty_is_shortest 1)).1 refl)

-- A field that is written by no octets: both its spellings are equal, so there can't be two.
abbrev silent : List Field
silent = record { IsDefault = Unit {0}; written = [] } ∷ []

silent_contents : (mask : ℕ) (contents : List ℕ) → FieldsUnder mask silent contents → contents ≡ []
silent_contents mask contents (inl (default, half, is, (empty, none))) = empty
silent_contents mask contents (inr (inl (default, half, is, later, e, (empty, none)))) = e ∙ empty
silent_contents mask contents (inr (inr p)) = absurd (p.0 tt)

abbrev AreTwo : List (List ℕ) → Type 0
AreTwo all = AreAll (λ Encoding. Encoding) (λ (v : ℕ). v ≡ v) (λ (v : ℕ). silent) 0 1 all

silent_twice : (all : List (List ℕ)) → AreTwo all → ⊥
silent_twice all p =
    let first = p.under 0 (omega arith) in
    let second = p.under 1 (omega arith) in
    let first_is = first.4 ∙ ap sequence (silent_contents 0 first.2 first.3) in
    let second_is = second.4 ∙ ap sequence (silent_contents 1 second.2 second.3) in
    omega (arith, p.different 0 1 (omega arith) (omega arith) (first_is ∙ sym second_is))

two_of_silent : TwoToTheDefaults (λ (v : ℕ). v ≡ v) (λ (v : ℕ). silent) → ⊥
unfolding length_octets
two_of_silent p =
    let both = p 0 1 refl (inl (tt, 0, refl, refl)) (omega arith) in silent_twice both.0 both.1

abbrev AreTwoIn : List (List ℕ) → Type 0
AreTwoIn all = AreAll (AlgorithmEncoding []) (λ (v : ℕ). v ≡ v) (λ (v : ℕ). silent) 0 1 all

silent_twice_in : (all : List (List ℕ)) → AreTwoIn all → ⊥
silent_twice_in all p =
    let first = p.under 0 (omega arith) in
    let second = p.under 1 (omega arith) in
    let one = first.2.4 ∙ ap sequence (silent_contents 0 first.2.2 first.2.3) in
    let other = second.2.4 ∙ ap sequence (silent_contents 1 second.2.2 second.2.3) in
    let first_is = first.3 ∙ ap (λ octets. sequence (tlv 6 [] ++ octets)) one in
    let second_is = second.3 ∙ ap (λ octets. sequence (tlv 6 [] ++ octets)) other in
    omega (arith, p.different 0 1 (omega arith) (omega arith) (first_is ∙ sym second_is))

two_of_silent_in : TwoToTheDefaultsIn [] (λ (v : ℕ). v ≡ v) (λ (v : ℕ). silent) → ⊥
unfolding length_octets
two_of_silent_in p =
    let both = p 0 1 refl (inl (tt, 0, refl, refl)) (omega arith) in silent_twice_in both.0 both.1

-- A longer encoding than another one isn't what is written.
longer_written : Encodes Whatever 0 (1 ∷ []) (1 ∷ []) (Some 1) → ⊥
longer_written p = longer_one p.1

default_counted : Defaults silent 0 → ⊥
default_counted (inl (default, j, more, rest)) = omega (arith, more)
default_counted (inr (never, rest)) = never tt

-- The bits of a mask count the fields that have their defaults, and no other.
bit_of_second : FieldsUnder 1
    (record { IsDefault = ⊥; written = 1 ∷ [] } ∷ record { IsDefault = Unit {0}; written = 2 ∷ [] } ∷ []) (1 ∷ 2 ∷ [])
bit_of_second = inr (inr ((λ no. no), 2 ∷ [], refl, inr (inl (tt, 0, refl, [], refl, (refl, refl)))))

-- A field that hasn't its default is written.
abbrev never_default : List Field
never_default = record { IsDefault = ⊥; written = 1 ∷ [] } ∷ []

left_out : Fields never_default [] → ⊥
left_out (inl p) = p.0
left_out (inr (later, is, rest)) = cc

left_out_under : FieldsUnder 0 never_default [] → ⊥
left_out_under (inl p) = p.0
left_out_under (inr (inl p)) = p.0
left_out_under (inr (inr (never, later, is, rest))) = cc

counted_default : Defaults never_default 1 → ⊥
counted_default (inl p) = p.0
counted_default (inr (never, none)) = omega (arith, none)

-- == Each of these would fail if the promise claimed too much ==
-- Each value has one encoding, which no other value has.
abbrev Itself : ℕ → List ℕ → Type 0
Itself v bytes = bytes ≡ v ∷ []

head_of : List ℕ → ℕ
head_of [] = 0
head_of (x ∷ xs) = x

itself_read : Decodes Itself (1 ∷ []) (Some 1)
unfolding head_of
itself_read = (refl, λ other is. ap head_of (sym is))

two_octets_refused : Decodes Itself (1 ∷ 2 ∷ []) None
two_octets_refused v is = cc

itself_is_shortest : (v : ℕ) → IsShortest Itself v (v ∷ [])
itself_is_shortest v = (refl, λ other is. inl is)

abbrev NoneOrOne : ℕ → List ℕ → Type 0
NoneOrOne v bytes = (bytes ≡ []) ⊎ (bytes ≡ 1 ∷ [])

none_or_longer : (other : List ℕ) → NoneOrOne 0 other → (other ≡ []) ⊎ (0 < length other)
none_or_longer other (inl e) = inl e
none_or_longer other (inr e) = inr (omega (arith, ap length e))

shorter_of_two : IsShortest NoneOrOne 0 []
shorter_of_two = (inl refl, none_or_longer)

itself_written : Encodes Itself 1 (2 ∷ 3 ∷ []) (1 ∷ 3 ∷ []) (Some 1)
itself_written = (omega arith, itself_is_shortest 1, refl)

itself_without_room : Encodes Itself 1 [] [] None
itself_without_room = (refl, λ bytes is. omega (arith, ap length is))

one_encoding : AtMostOne Itself
one_encoding v a b va vb = va ∙ sym vb

same_itself : SameByShortest Itself
unfolding head_of
same_itself v w a b s t va wb vs wt =
    ((λ e. vs.0 ∙ ap (λ n. n ∷ []) e ∙ sym wt.0), (λ e. ap head_of (sym vs.0 ∙ e ∙ wt.0)))

silent_default : Defaults silent 1
silent_default = inl (tt, 0, refl, refl)

-- A value without fields has one encoding.
abbrev Whole : ℕ → List ℕ → Type 0
Whole = SequenceOf (λ (v : ℕ). v ≡ v) (λ (v : ℕ). []) Fields

under_mask_0 : (i : ℕ) → i < 1 → SequenceOf (λ (v : ℕ). v ≡ v) (λ (v : ℕ). []) (FieldsUnder i) 0
    (slice_index_or ((48 ∷ 0 ∷ []) ∷ []) i [])
unfolding length_octets
under_mask_0 zero less = (refl, omega arith, [], (refl, refl), refl)
under_mask_0 (suc i) less = absurd (omega (arith, less))

one_of_no_fields : (i : ℕ) (bytes : List ℕ) → i < 1 → slice_index_or ((48 ∷ 0 ∷ []) ∷ []) i [] ≡ bytes → Whole 0 bytes
unfolding length_octets
one_of_no_fields zero bytes less is =
    (refl, omega (arith, ap length is), [], refl, sym is)
one_of_no_fields (suc i) bytes less is = absurd (omega (arith, less))

all_of_no_fields : AreAll (λ Encoding. Encoding) (λ (v : ℕ). v ≡ v) (λ (v : ℕ). []) 0 0 ((48 ∷ 0 ∷ []) ∷ [])
unfolding length_octets
all_of_no_fields = record {
  count = refl;
  under = under_mask_0;
  different = λ i j i_less j_less e. omega (arith, i_less, j_less);
  every = λ bytes. (
    (λ is. (0, omega arith, ap sequence (sym is.3) ∙ sym is.4)),
    (λ at. one_of_no_fields at.0 bytes at.1 at.2),
  );
}

no_fields_listed : Lists (λ (v : ℕ). v ≡ v) (λ (v : ℕ). []) 0 (Some ((48 ∷ 0 ∷ []) ∷ []))
no_fields_listed = (0, refl, all_of_no_fields)

past_the_limit : Lists (λ (v : ℕ). ⊥) (λ (v : ℕ). []) 0 None
past_the_limit is = absurd is

-- == At the limit: a field without octets that has its default, and one of octets that fill what is left ==
abbrev filled : List ℕ → List Field
filled octets =
    record { IsDefault = Unit {0}; written = [] } ∷ record { IsDefault = ⊥; written = octets } ∷ []

filled_defaults : (octets : List ℕ) → Defaults (filled octets) 1
filled_defaults octets = inl (tt, 0, refl, inr ((λ no. no), refl))

second_filled : (octets contents : List ℕ) (mask : ℕ)
    → FieldsUnder mask (record { IsDefault = ⊥; written = octets } ∷ []) contents → contents ≡ octets ++ []
second_filled octets contents mask (inl p) = absurd p.0
second_filled octets contents mask (inr (inl p)) = absurd p.0
second_filled octets contents mask (inr (inr (never, later, is, (empty, none)))) = is ∙ ap (λ l. octets ++ l) empty

filled_contents : (octets contents : List ℕ) (mask : ℕ) → FieldsUnder mask (filled octets) contents
    → contents ≡ octets ++ []
filled_contents octets contents mask (inl (default, half, is, rest)) = second_filled octets contents half rest
filled_contents octets contents mask (inr (inl (default, half, is, later, e, rest))) =
    e ∙ second_filled octets later half rest
filled_contents octets contents mask (inr (inr p)) = absurd (p.0 tt)

filled_twice : (octets : List ℕ) (all : List (List ℕ))
    → AreAll (λ Encoding. Encoding) (λ v. v ≡ octets) filled octets 1 all → ⊥
filled_twice octets all p =
    let first = p.under 0 (omega arith) in
    let second = p.under 1 (omega arith) in
    let first_is = first.4 ∙ ap sequence (filled_contents octets first.2 0 first.3) in
    let second_is = second.4 ∙ ap sequence (filled_contents octets second.2 1 second.3) in
    omega (arith, p.different 0 1 (omega arith) (omega arith) (first_is ∙ sym second_is))

two_at_the_limit : (octets : List ℕ) → length (longest (filled octets)) ≡ limit
    → TwoToTheDefaults (λ v. v ≡ octets) filled → ⊥
two_at_the_limit octets fills p =
    let both = p octets 1 refl (filled_defaults octets) (omega (arith, fills)) in filled_twice octets both.0 both.1

-- With the identifier around it, it is past the limit.
abbrev identifier : List ℕ
identifier = 42 ∷ 134 ∷ 72 ∷ 134 ∷ []

identifier_counted : length (tlv 6 identifier) ≡ 6
unfolding length_octets
identifier_counted = refl

none_past_the_limit : (octets : List ℕ) → length (sequence (longest (filled octets))) ≡ limit
    → length (length_octets (length (longest (filled octets)))) ≡ 5
    → TwoToTheDefaultsIn identifier (λ v. v ≡ octets) filled
none_past_the_limit octets fills counted v k is defaults within =
    let same = ap (λ it. length (longest (filled it))) is in
    let inner = longest (filled octets) in
    let outer = tlv 6 identifier ++ longest (filled v) in
    absurd (omega (
      arith,
      fills,
      counted,
      within,
      same,
      identifier_counted,
      length-append (length_octets (length inner)) inner,
      length-append (length_octets (length outer)) outer,
      length-append (tlv 6 identifier) (longest (filled v)),
    ))

two_past_the_limit : (octets : List ℕ) → limit < length (longest (filled octets))
    → TwoToTheDefaults (λ v. v ≡ octets) filled
two_past_the_limit octets long v k is defaults within =
    absurd (omega (arith, long, within, ap (λ it. length (longest (filled it))) is))

filled_twice_in : (octets : List ℕ) (all : List (List ℕ))
    → AreAll (AlgorithmEncoding identifier) (λ v. v ≡ octets) filled octets 1 all → ⊥
filled_twice_in octets all p =
    let first = p.under 0 (omega arith) in
    let second = p.under 1 (omega arith) in
    let one = first.2.4 ∙ ap sequence (filled_contents octets first.2.2 0 first.2.3) in
    let other = second.2.4 ∙ ap sequence (filled_contents octets second.2.2 1 second.2.3) in
    let first_is = first.3 ∙ ap (λ b. sequence (tlv 6 identifier ++ b)) one in
    let second_is = second.3 ∙ ap (λ b. sequence (tlv 6 identifier ++ b)) other in
    omega (arith, p.different 0 1 (omega arith) (omega arith) (first_is ∙ sym second_is))

two_at_the_limit_in : (octets : List ℕ) → length (sequence (tlv 6 identifier ++ longest (filled octets))) ≡ limit
    → TwoToTheDefaultsIn identifier (λ v. v ≡ octets) filled → ⊥
two_at_the_limit_in octets fills p =
    let both = p octets 1 refl (filled_defaults octets) (omega (arith, fills)) in filled_twice_in octets both.0 both.1

-- Shortest encodings are equal exactly if the values are, of any encodings.
same_says : {V : Type 0} (Encoding : V → List ℕ → Type 0) → SameByShortest Encoding → (v w : V) (a b s t : List ℕ)
    → Encoding v a → Encoding w b → IsShortest Encoding v s → IsShortest Encoding w t
    → (v ≡ w → s ≡ t) × (s ≡ t → v ≡ w)
same_says Encoding p v w a b s t va wb vs wt = p v w a b s t va wb vs wt
