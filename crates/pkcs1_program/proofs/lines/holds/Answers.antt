-- Each step of the fold adds whether one more byte is such a byte.
use Rattle.std.proofs.Common.{◌≡◌, ◌==◌, ℕ, Bool, ◌∷◌, [], subst, refl, rules}
use Rattle.std.specs.List.{list_any}
use Rattle.std.proofs.lemmas.List.Folds.{list_any-append}
use Rattle.std.proofs.lemmas.Fn.{fold_over, slice_gives, fronts}
use Rattle.pkcs1_program.proofs.lines.holds.Goals as goal

pub returns : goal.returns
returns c =
    let such : ℕ → Bool = λ other. other == c.args.byte in
    subst (λ l. c.fold.result ≡ list_any such l) c.iter.ensures.rest
    (fold_over fronts (λ y. y.now) _ (λ ys found. found ≡ list_any such ys) _
    (λ ys a x b f' j k. let more = list_any-append such ys (x.now ∷ []) in search rules)
    _ _ _ _ (slice_gives c.iter.result) refl c.fold.ensures.ran)
