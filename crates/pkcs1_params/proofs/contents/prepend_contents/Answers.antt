-- `prepend_contents`: the octets that `prepend` is to write are what is printed of the spelling (`is`).
use Rattle.std.proofs.Common.{rules, subst, sym, length}
use Rattle.pkcs1_params.proofs.Masks.{octets_under_spelled}
use Rattle.pkcs1_params.proofs.contents.prepend_contents.Goals as goal

pub prepend-requires : goal.prepend-requires
prepend-requires g c =
    let t = g.T.EncodeParams in
    let is = octets_under_spelled t.form (t.params c.args.params) c.args.mask _ c.fields.ensures.are in record {
      non_defaults = search rules;
      room = subst (λ z. g.W.Prepend.has_room c.args.writer.now (length z) × g.W.Prepend.length_fits (length z)) (sym is) c.requires.room;
    }

pub returns : goal.returns
returns g c =
    let t = g.T.EncodeParams in
    subst (λ z. g.W.Prepend.prepended z c.args.writer.now c.prepend.new.writer)
    (octets_under_spelled t.form (t.params c.args.params) c.args.mask _ c.fields.ensures.are) c.prepend.ensures
