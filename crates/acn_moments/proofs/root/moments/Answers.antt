use Rattle.std.proofs.Common.{[], rules}
use Rattle.acn_grammar.specs.Asks as asks
use Rattle.acn_grammar.specs.View.{data_of, grammar_of}
use Rattle.acn_moments.proofs.Gathering.{without_numbers}
use Rattle.acn_moments.proofs.root.moments.Goals as goal

pub returns-clause-said : goal.returns-clause-said
returns-clause-said c = without_numbers (grammar_of c.args.root.now) c.gather.new.gathered (asks.moments (grammar_of c.args.root.now) (grammar_of c.args.root.now) [] [] (data_of c.args.v.now)) (search rules)
