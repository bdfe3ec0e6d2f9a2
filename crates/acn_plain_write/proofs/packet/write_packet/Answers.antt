use Rattle.acn_grammar.specs.View.{data_of, grammar_of}
use Rattle.acn_plain_write.proofs.Packets.{packet_ready}
use Rattle.acn_plain_write.proofs.packet.write_packet.Goals as goal

pub write_root-requires : goal.write_root-requires
write_root-requires c =
    let m = c.requires.met in
    packet_ready c.accepted_is_sound.ensures c.each_length_is_told.ensures c.each_occurrence_asks.ensures c.each_path_has_its_number.ensures c.each_value_is_written_or_refused.ensures c.parts_are_of_nodes.ensures c.sound_values_can_be_measured.ensures c.spellings_have_no_breach.ensures c.values_are_of_nodes.ensures (grammar_of c.args.root.now) (data_of c.args.v.now) c.args.heard.now m.0 c.requires.accepted c.requires.meets m.1 m.2
