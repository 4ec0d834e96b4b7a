-- What `encode_spelling` answers and leaves in the slice, from what the calls in it say.
use Rattle.std.proofs.Common.{ℕ, List, ◌≡◌, ◌≤◌, length, subst, sym, arith, length-take, Result, Ok, Err, Some, IfOk, Bor}
use Rattle.der_core.specs.Words.{IsFront, ok_of}
use Rattle.standard.specs.Statement.{Encodes, IsShortest}

module _ {V E : Type 0} (Encoding : V → List ℕ → Type 0) (v : V) (xs ys : List ℕ) (long : length ys ≡ length xs) where
  -- The length that is returned is no more than the slice's.
  pub encoded_fits : (r : Result ℕ E) → Encodes Encoding v xs ys (ok_of (λ n. n) r) → IfOk r (λ n. n ≤ length ys)
  encoded_fits (Ok n) w = let m = w.0 in omega arith
  encoded_fits (Err e) w = tt

  -- The slice holds the encoding in front, as long as the front that is answered. After an error it is as it was.
  pub leaves_encoded : (r : Result ℕ E) (t : Result (Bor (List ℕ)) E) → Encodes Encoding v xs ys (ok_of (λ n. n) r)
      → IsFront ys r t
      → Encodes Encoding v xs ys (ok_of (λ front. length front.now) t)
  leaves_encoded (Ok n) (Ok front) w a =
      let m = w.0 in
      let as_long : length front.now ≡ n = rw a (omega (arith, length-take n ys)) in
      subst (λ k. Encodes Encoding v xs ys (Some k)) (sym as_long) w
  leaves_encoded (Ok n) (Err e) w a = absurd a
  leaves_encoded (Err e) (Ok front) w a = absurd a
  leaves_encoded (Err e) (Err e') w a = w

  -- The front that is answered is the shortest encoding.
  pub front_is_shortest : (r : Result ℕ E) (t : Result (Bor (List ℕ)) E)
      → Encodes Encoding v xs ys (ok_of (λ n. n) r)
      → IsFront ys r t → IfOk t (λ front. IsShortest Encoding v front.now)
  front_is_shortest (Ok n) (Ok front) w a = subst (λ x. IsShortest Encoding v x) (sym a) w.1
  front_is_shortest (Ok n) (Err e) w a = absurd a
  front_is_shortest (Err e) (Ok front) w a = absurd a
  front_is_shortest (Err e) (Err e') w a = tt
