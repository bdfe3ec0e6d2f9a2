use Rattle.acn_grammar.specs.View.{data_of, grammar_of}
use Rattle.acn_plain.proofs.Encoding.{can_gather}
use Rattle.acn_plain.proofs.encode.encode_met.Goals as goal

pub moments-requires : goal.moments-requires
moments-requires c =
    can_gather (grammar_of c.args.root.now) (data_of c.args.v.now) c.requires.accepted c.requires.meets c.accepted_is_sound.ensures c.each_path_has_its_number.ensures c.no_fault_without_a_first.ensures c.sound_values_can_be_gathered.ensures c.values_lie_within_bounds.ensures
