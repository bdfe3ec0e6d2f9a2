use Rattle.acn_grammar.specs.View.{grammar_of, data_of}
use Rattle.acn_explain.proofs.Measuring.{can_walk, recorded_near}
use Rattle.acn_explain.proofs.stream.recorded.Goals as goal

pub list_pieces-requires-clause-can : goal.list_pieces-requires-clause-can
list_pieces-requires-clause-can c =
    let p = c.requires.packet in
    can_walk c.accepted_is_sound.ensures c.spelled_values_meet.ensures c.sound_values_can_be_walked.ensures (grammar_of c.args.root.now) c.requires.accepted (data_of c.args.value.now) p.spelling p.spelled

pub list_pieces-requires-clause-near : goal.list_pieces-requires-clause-near
list_pieces-requires-clause-near c = recorded_near c.lengths_are_told.ensures (grammar_of c.args.root.now) c.requires.accepted (data_of c.args.value.now) c.args.piece.now c.requires.few c.requires.packet
