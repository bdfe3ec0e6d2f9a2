use Rattle.std.proofs.Common.{[], refl}
use Rattle.acn_grammar.specs.Faults.{unfit_of}
use Rattle.acn_grammar.specs.View.{data_of, grammar_of}
use Rattle.acn_plain.proofs.Encoding.{breached, meets_all}
use Rattle.acn_plain.proofs.encode.encode.Goals as goal

pub meets-requires : goal.meets-requires
meets-requires c = record { root = grammar_of c.args.root.now; path = []; formed = c.requires.accepted.formed; leads = refl }

pub encode_met-requires : goal.encode_met-requires
encode_met-requires c = record { accepted = c.requires.accepted; meets = meets_all (grammar_of c.args.root.now) (data_of c.args.v.now) c.requires.shaped c.in-Ok.ensures }

pub returns-in-Err-clause-refused : goal.returns-in-Err-clause-refused
returns-in-Err-clause-refused c = breached (grammar_of c.args.root.now) (data_of c.args.v.now) (unfit_of c.in-Err.unfit) c.in-Err.ensures
