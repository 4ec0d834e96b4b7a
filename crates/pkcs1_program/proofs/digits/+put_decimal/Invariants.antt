-- `put_decimal` calls itself on a number with one digit less.
use Rattle.pkcs1_program.proofs.digits.+put_decimal.Given as goal

abbrev pub decreases-put_decimal : goal.decreases-put_decimal
decreases-put_decimal l = l.number
