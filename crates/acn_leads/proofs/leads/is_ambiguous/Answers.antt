use Rattle.std.proofs.Common.{length}
use Rattle.acn_grammar.specs.View.{grammar_of}
use Rattle.acn_leads.proofs.LeadLaw.{some_of, lead_plain}
use Rattle.acn_leads.proofs.leads.is_ambiguous.Goals as goal

pub can_begin-requires-clause-plain : goal.can_begin-requires-clause-plain
can_begin-requires-clause-plain c = lead_plain (length c.args.pattern.now) (grammar_of c.args.element.now) c.in-Some.leaf.now (some_of _ _ _ _ c.lead_of.ensures c.in-Some.is)
