-- `label_fits`: labels of this length fit exactly if `labelled_len` counts the encoding with one.
use Rattle.pkcs1_params.proofs.Labels.{label_fits_where_counted, no_label_fits_where_uncounted}
use Rattle.pkcs1_params.proofs.label.RsaOaepParams+AnyRef.label_fits.Goals as goal

-- `labelled_len` counted the encoding with each label of this length, so each has one within the limit.
pub returns-clause-fits : goal.returns-clause-fits
returns-clause-fits g c ok =
    label_fits_where_counted g.D.AssociatedOid.contents c.args.len _ (rw c.is_ok.ensures.value at ok)
    c.labelled_len.ensures

-- Nothing was counted, so the shortest encoding passes the limit, and each other one is longer.
pub returns-clause-too_long : goal.returns-clause-too_long
returns-clause-too_long g c err =
    no_label_fits_where_uncounted g.D.AssociatedOid.contents c.args.len _ (rw c.is_ok.ensures.value at err)
    c.labelled_len.ensures
