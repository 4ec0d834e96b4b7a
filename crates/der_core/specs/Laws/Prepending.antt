-- What receives octets from their end: laws of a counter, and of a writer that fills a slice.
use Rattle.std.specs.Prelude.{ℕ, ◌≡◌, ◌+◌, ◌≤◌, List, [], ◌++◌, length, take, drop}
use Rattle.std.proofs.Common.{arith, length-append, append_assoc, ap, refl, sym, inl, inr, ◌∙◌}
use Rattle.std.proofs.Math.Seq.{drop-append_seam}
use Rattle.std.proofs.lemmas.Bool.{cases_lt}
use Rattle.std.proofs.lemmas.List.{length-take-le, take-append-drop, take-append-le, take-take}
use Rattle.der_core.specs.Length.{limit}
use Rattle.der_core.specs.Counting.{Counted}
use Rattle.der_core.specs.Slices.{HasRoom, Prepends}
use Rattle.der_core.specs.declared.counter.Counter.{Counter}
use Rattle.der_core.specs.declared.back_writer.BackWriter.{BackWriter}

-- == A counter ==
pub Counted-nothing : (w : Counter) → Counted [] w w
Counted-nothing w = (λ _. omega arith, λ h. omega (arith, h))

pub Counted-through : (a b : List ℕ) (u v w : Counter) → Counted b u v → Counted a v w → Counted (a ++ b) u w
Counted-through a b u v w p q =
    let whole = length-append a b in
    elim (cases_lt limit (u.sum + length b)) [
      | inl past ↦
          let beyond = p.1 past in
          (λ few. absurd (omega (arith, whole, few, past)), λ many. q.1 (omega (arith, beyond)))
      | inr within ↦
          let mid = p.0 within in (
            λ few. q.0 (omega (arith, whole, mid, few)) ∙ omega (arith, whole, mid),
            λ many. q.1 (omega (arith, whole, mid, many)),
          )
    ]

-- == A writer that fills a slice from its end ==
pub Prepends-nothing : (w : BackWriter) → Prepends [] w w
Prepends-nothing w = (refl, omega arith, sym (take-append-drop w.free w.slice.now))

pub Prepends-through : (a b : List ℕ) (u v w : BackWriter) → Prepends b u v → Prepends a v w → Prepends (a ++ b) u w
Prepends-through a b u v w p q =
    let all = u.slice.now in
    let front = take v.free all in
    let behind = b ++ drop u.free all in
    let fits : u.free ≤ length all = u.fits in
    let few : v.free ≤ length all = omega (arith, fits, p.1) in
    let long : length front ≡ v.free = length-take-le v.free all few in
    let kept : take w.free v.slice.now ≡ take w.free all =
    ap (λ s. take w.free s) p.2 ∙ (take-append-le w.free front behind (omega (arith, long, q.1))
    ∙ take-take w.free v.free all (omega (arith, q.1))) in
    let rest : drop v.free v.slice.now ≡ behind =
    ap (λ s. drop v.free s) p.2 ∙ (ap (λ n. drop n (front ++ behind)) (sym long) ∙ drop-append_seam front behind) in (
      q.0 ∙ p.0,
      omega (arith, length-append a b, p.1, q.1),
      q.2 ∙ (ap (λ f. f ++ (a ++ drop v.free v.slice.now)) kept
          ∙ ap (λ s. take w.free all ++ s) (ap (λ s. a ++ s) rest ∙ sym (append_assoc a b (drop u.free all)))),
    )

pub HasRoom-parts : (a b : List ℕ) (u : BackWriter) → HasRoom u (length (a ++ b)) × (length (a ++ b) ≤ limit)
    → (HasRoom u (length b) × (length b ≤ limit))
    × ((v : BackWriter) → Prepends b u v → HasRoom v (length a) × (length a ≤ limit))
HasRoom-parts a b u room =
    let whole = length-append a b in (
      (omega (arith, whole, room.0), omega (arith, whole, room.1)),
      λ v p. (omega (arith, whole, room.0, p.1), omega (arith, whole, room.1)),
    )
