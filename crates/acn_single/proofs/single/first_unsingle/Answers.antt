use Rattle.std.proofs.Common.{[], false}
use Rattle.acn_grammar.specs.View.{grammar_of}
use Rattle.acn_single.proofs.Rules.{root_can_list}
use Rattle.acn_single.proofs.Told.{told}
use Rattle.acn_single.proofs.single.first_unsingle.Goals as goal

pub first_reason-requires : goal.first_reason-requires
first_reason-requires c = (let root = grammar_of c.args.root.now in root_can_list root c.requires.formed [] (λ s. false) (c.accepted_is_sound.ensures root c.requires))

pub returns : goal.returns
returns c = told (grammar_of c.args.root.now) (c.first_unsingle_is_found.ensures (grammar_of c.args.root.now) c.requires) c.first_reason.result c.first_reason.ensures
