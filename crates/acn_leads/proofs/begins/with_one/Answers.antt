use Rattle.acn_leads.proofs.BeginsLaw.{half_fits}
use Rattle.acn_leads.proofs.begins.with_one.Goals as goal

pub overflow_add-result : goal.overflow_add-result
overflow_add-result c = record { fits = half_fits c.args.rest.now c.half_of-half.result c.number_of.result c.half_of-half.ensures c.number_of.ensures c.requires }
