-- `EncodeValue` for `GivenPrimes`. `given_encoded` is the encoding of one prime.
use Rattle.std.proofs.Common.{◌≡◌, ◌+◌, ◌-◌, ◌∙◌, ◌++◌, ap, arith, drop, get_or, length, subst, sym, take}
use Rattle.der_core.specs.Words.{all_encodings}
use Rattle.der_core.proofs.Items.{encodings_rest}
use Rattle.pkcs1_c.specs.Words.{given_encoded}
use Rattle.pkcs1_c.proofs.GivenKeys.{around_given, empty_prime, given_encodings_are}
use Rattle.pkcs1_c.proofs.StructErrors.{numbers_held_at}
use Rattle.pkcs1_c.proofs.given_primes.GivenPrimesEncodeValue.prepend_value.Goals as goal

-- The numbers of this prime can be held. There was room for all encodings, and only those after it have taken theirs.
pub prepend_given-requires : goal.prepend_given-requires
prepend_given-requires g c =
    let given = c.args.self.now in
    let others = given.others.now in
    let left = c.loop-left.left in
    let before = all_encodings given_encoded (take (left - 1) others) in
    let here = given_encoded (get_or others (left - 1) empty_prime) in
    let rest = all_encodings given_encoded (drop left others) in
    let whole = sym (given_encodings_are others)
    ∙ around_given others left empty_prime c.loop-left-test.true c.loop-left.invariant.0 in
    let room = subst (λ o. g.W.Prepend.has_room c.args.writer.now (length o) × g.W.Prepend.length_fits (length o)) whole c.requires.room in
    let behind = g.met.W.Prepend.room_for_parts before (here ++ rest) _ room in record {
      held = numbers_held_at others (left - 1) empty_prime (omega arith) given.held;
      room = (g.met.W.Prepend.room_for_parts here rest _ behind.0).1 _ c.loop-left.invariant.1;
    }

-- Its encoding stands in front of those after it.
pub loop-left-preserved : goal.loop-left-preserved
loop-left-preserved g c =
    let others = c.args.self.now.others.now in
    let left = c.loop-left.left in
    let few = c.loop-left.invariant.0 in
    let next : left - 1 + 1 ≡ left = omega arith in
    let is = encodings_rest (λ _. Unit {0}) given_encoded others (left - 1) empty_prime (omega arith)
    ∙ ap (λ k. given_encoded (get_or others (left - 1) empty_prime) ++ all_encodings given_encoded (drop k others)) next in (
      omega arith,
      subst (λ o. g.W.Prepend.prepended o c.args.writer.now c.prepend_given.new.writer) (sym is)
          (g.met.W.Prepend.prepended_through _ _ _ _ _ c.loop-left.invariant.1 c.prepend_given.ensures),
    )

-- None is left, so all are written.
pub returns : goal.returns
returns g c =
    let others = c.args.self.now.others.now in
    let none : c.loop-left.left ≡ 0 = omega arith in
    subst (λ octets. g.W.Prepend.prepended octets c.args.writer.now c.loop-left.writer)
    (ap (λ k. all_encodings given_encoded (drop k others)) none ∙ given_encodings_are others) c.loop-left.invariant.1
