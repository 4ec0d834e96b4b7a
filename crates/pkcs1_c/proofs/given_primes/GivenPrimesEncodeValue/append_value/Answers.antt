-- `EncodeValue` for `GivenPrimes`. `given_encoded` is the encoding of one prime.
use Rattle.std.proofs.Common.{◌≤◌, ◌++◌, ◌∙◌, ap, arith, drop, get_or, length, length-append, refl, ◌+◌, subst, sym, take, take_all, ◌≡◌, rules}
use Rattle.std.proofs.lemmas.Grind.{common_steps}
use Rattle.der_core.specs.Words.{Receives, TakesRoom, err_from_is_err_and, limit, all_encodings}
use Rattle.der_core.proofs.Items.{encodings_around, encodings_more}
use Rattle.der_core.proofs.Writing.{appends_behind, appends_in_front, receives_both, takes_both}
use Rattle.pkcs1_c.specs.Words.{given_encoded}
use Rattle.pkcs1_c.proofs.GivenKeys.{empty_prime, given_encodings_are, given_primes_valid}
use Rattle.pkcs1_c.proofs.StructErrors.{numbers_held_at}
use Rattle.pkcs1_c.proofs.given_primes.GivenPrimesEncodeValue.append_value.Goals as goal

-- The numbers of all primes can be held, so those of this one can. Its encoding is within the limit, as all are.
pub append_given-requires : goal.append_given-requires
append_given-requires g c =
    let given = c.args.self.now in
    let others = given.others.now in
    let i = c.loop-other.other-index in
    let here = given_encoded (get_or others i empty_prime) in
    let rest = all_encodings given_encoded (drop (i + 1) others) in
    let whole = sym (given_encodings_are others)
    ∙ encodings_around (λ _. Unit {0}) given_encoded others i empty_prime c.loop-other-test.true in record {
      held = numbers_held_at others i empty_prime c.loop-other-test.true given.held;
      fits =
          omega (
            arith,
            c.requires.fits,
            ap length whole,
            length-append (all_encodings given_encoded (take i others)) (here ++ rest),
            length-append here rest,
          );
    }

-- The encoding of this prime stands after those before it.
pub loop-other-preserved : goal.loop-other-preserved
loop-other-preserved g c =
    let others = c.args.self.now.others.now in
    let i = c.loop-other.other-index in
    let more = encodings_more (λ _. Unit {0}) given_encoded others i empty_prime c.loop-other-test.true in
    let front = all_encodings given_encoded (take i others) in
    let here = given_encoded (get_or others i empty_prime) in
    let one = c.in_ok-append_given.ensures.appends in
    let written = g.W.Writer.written in
    record {
      written =
          receives_both front here (written c.args.writer.now) (written c.loop-other.writer)
          (written c.append_given.new.writer) more c.loop-other.invariant.written one.written;
      room = takes_both _ _ _ _ _ (ap length more ∙ length-append front here) c.loop-other.invariant.room one.room;
      kept = search rules;
    }

-- At the `?` after `append_given`, whose error `from_residual` hands on: the encodings before this prime are written,
-- and writing this one failed, so writing all did.
pub returns-in_err-append_given-clause-appends : goal.returns-in_err-append_given-clause-appends
returns-in_err-append_given-clause-appends g c =
    let p = err_from_is_err_and c.from_residual.result c.from_residual.ensures.1 in
    let others = c.args.self.now.others.now in
    let i = c.loop-other.other-index in
    let unit : Unit {0} = tt in
    let here = given_encoded (get_or others i empty_prime) in
    let rest = all_encodings given_encoded (drop (i + 1) others) in
    let whole = sym (given_encodings_are others) ∙ encodings_around (λ _. Unit {0}) given_encoded others i empty_prime c.loop-other-test.true in
    let less : length (here ++ rest) ≤ limit = grind (arith, common_steps) in
    rw (p.1, p.2) (appends_behind _ _ _ unit (given_primes_valid others) whole c.requires.fits
    c.loop-other.invariant.written
    c.loop-other.invariant.room (appends_in_front _ _ rest unit unit refl less c.in_err-append_given.ensures.appends))

-- After the last round all are written.
pub returns-clause-appends : goal.returns-clause-appends
returns-clause-appends g c =
    let others = c.args.self.now.others.now in
    let all : take c.loop-other.other-index others ≡ others = take_all c.loop-other.other-index others
    (omega arith) in
    let is = ap (all_encodings given_encoded) all ∙ given_encodings_are others in
    let w = g.W.Writer in
    let old = c.args.writer.now in
    let new = c.loop-other.writer in
    record {
      has = (given_primes_valid others, c.requires.fits);
      written = subst (λ o. Receives o (w.written old) (w.written new)) is c.loop-other.invariant.written;
      room = subst (λ o. TakesRoom (length o) (w.room old) (w.room new)) is c.loop-other.invariant.room;
      left = tt;
    }
