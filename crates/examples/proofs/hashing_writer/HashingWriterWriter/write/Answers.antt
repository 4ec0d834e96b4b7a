-- `write` of `HashingWriter` leaves the hash of all octets that were written so far.
use Rattle.std.proofs.Common.{ℕ, List, [], ◌∷◌, ◌++◌, ◌≡◌, ◌∙◌, ap, sym, refl}
use Rattle.std.proofs.lemmas.List.{at_drop_all, at_drop_more}
use Rattle.examples.specs.Fnv.{fnv_after}
use Rattle.examples.proofs.hashing_writer.HashingWriterWriter.write.Goals as goal

-- The hash of octets is made of those in front, and then of those behind.
fnv_append : (front back : List ℕ) (hash : ℕ) → fnv_after hash (front ++ back) ≡ fnv_after (fnv_after hash front) back
fnv_append [] back hash = refl
fnv_append (octet ∷ front) back hash = fnv_append front back _

-- The hash of an octet and then of those behind it is that of what is left.
pub loop-octet-preserved : goal.loop-octet-preserved
loop-octet-preserved c =
    let now = fnv_after c.loop-octet.self.hash in
    rw c.from.ensures (sym (at_drop_more now c.args.bytes.now c.loop-octet.octet-index 0 c.loop-octet-test.true)
    ∙ c.loop-octet.invariant)

-- After the last round the hash is that of the octets behind those written before.
pub returns-clause-written : goal.returns-clause-written
returns-clause-written c = λ before is.
    let bytes = c.args.bytes.now in
    let now = fnv_after c.loop-octet.self.hash in
    sym (at_drop_all now bytes c.loop-octet.octet-index c.loop-octet-test.false) ∙ c.loop-octet.invariant
    ∙ ap (λ h. fnv_after h bytes) is ∙ sym (fnv_append before bytes _)
