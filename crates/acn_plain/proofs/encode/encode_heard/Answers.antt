use Rattle.std.proofs.Common.{subst}
use Rattle.acn_asks.specs.Judged.{Judged}
use Rattle.acn_grammar.specs.View.{data_of, grammar_of}
use Rattle.acn_plain.proofs.Encoding.{of_slots, paths_at, refuses}
use Rattle.acn_plain.proofs.encode.encode_heard.Goals as goal

pub write_heard-requires : goal.write_heard-requires
write_heard-requires c =
    let root = grammar_of c.args.root.now in
    let told = c.fields_tell_their_slots.ensures root c.requires.accepted in
    let slots = of_slots root (data_of c.args.v.now) told.0 told.1 c.args.moments.now c.requires.numbers in
    record {
      accepted = c.requires.accepted;
      meets = c.requires.meets;
      met = (told.0, told.1, subst (λ qs. Judged root told.0 qs c.in-Ok.heard) c.requires.gathered (c.in-Ok.ensures.judged root told.0 slots));
    }

pub halted-requires : goal.halted-requires
halted-requires c =
    let root = grammar_of c.args.root.now in
    let told = c.fields_tell_their_slots.ensures root c.requires.accepted in
    paths_at root (data_of c.args.v.now) c.requires.accepted c.requires.meets c.each_node_is_sound.ensures c.each_path_has_its_number.ensures c.refusals_are_at_nodes.ensures told.0 told.1 c.args.moments.now c.requires.gathered c.requires.numbers c.in-Err.halt c.in-Err.ensures.unmet

pub returns-in-Err-clause-refused : goal.returns-in-Err-clause-refused
returns-in-Err-clause-refused c =
    let root = grammar_of c.args.root.now in
    let told = c.fields_tell_their_slots.ensures root c.requires.accepted in
    refuses root (data_of c.args.v.now) c.requires.accepted c.requires.meets c.each_node_is_sound.ensures c.each_path_has_its_number.ensures c.refusals_are_at_nodes.ensures told.0 told.1 c.args.moments.now c.requires.gathered c.requires.numbers c.in-Err.halt c.halted.result c.in-Err.ensures.unmet c.halted.ensures
