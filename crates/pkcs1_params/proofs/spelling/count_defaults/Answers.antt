-- `count_defaults`: what `fields` returns are the fields of the parameters. `Defaults` holds of the number of those
-- that have their defaults.
use Rattle.std.proofs.Common.{sym, subst, ap, ◌∙◌}
use Rattle.spki_core.specs.Words.{defaults_in, defaults_same}
use Rattle.spki_core.proofs.RecordEncodings.{default_count_there}
use Rattle.standard.specs.Statement.{Defaults}
use Rattle.pkcs1_params.proofs.spelling.count_defaults.Goals as goal

pub returns-clause-count : goal.returns-clause-count
returns-clause-count g c =
    let t = g.T.EncodeParams in
    let v = t.params c.args.params in
    let is =
    c.count_defaults.ensures.count ∙ ap defaults_in c.fields.ensures.are
    ∙ defaults_same t.form.kinds (t.form.split v) in
    subst (Defaults (t.fields_of v)) (sym is) (default_count_there t.form v)
