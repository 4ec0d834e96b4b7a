-- The last digit is pushed, behind those of the number without it.
use Rattle.std.proofs.Common.{◌∷◌, [], ◌/◌, ◌%◌, ◌+◌, append_assoc}
use Rattle.std.specs.Fmt.{decimal}
use Rattle.pkcs1_program.proofs.DecimalDigits.{decimal-last, decimal-one}
use Rattle.pkcs1_program.proofs.digits.+put_decimal.Goals as goal
use Rattle.pkcs1_program.proofs.digits.+put_decimal.Goals.{then-number-ge10+in_ok-put_decimal, else-number-ge10}

pub returns : goal.returns
returns t c = elim c.if-number-ge10.branch [
  | then-number-ge10+in_ok-put_decimal w ↦
      let front = decimal (c.args.number / 10) in
      let last = (48 + c.args.number % 10) ∷ [] in
      rw (
        c.in_ok-push.ensures.items,
        w.out-is,
        w.in_ok-put_decimal.ensures,
        decimal-last c.args.number w.if-number-ge10.true c.ranges.number.fits,
      )
      (append_assoc c.args.out.now.items front last)
  | else-number-ge10 w ↦
      rw (c.in_ok-push.ensures.items, w.out-is, decimal-one c.args.number w.if-number-ge10.false)
]
