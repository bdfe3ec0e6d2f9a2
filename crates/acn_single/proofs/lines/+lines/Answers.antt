use Rattle.std.proofs.Common.{length, rules}
use Rattle.acn_grammar.specs.View.{grammar_of, field_of}
use Rattle.acn_grammar.specs.declared.node.Node.{the_lemmas}
use Rattle.acn_single.proofs.Listing.{node_room, field_room, seq_can, cases_can}
use Rattle.acn_single.proofs.lines.+lines.Goals as goal

pub list_element-inner-path-requires : goal.list_element-inner-path-requires
list_element-inner-path-requires t c = node_room (length c.args.place.path.now) (grammar_of c.args.element.now) c.requires

pub list_content-inner-path-requires : goal.list_content-inner-path-requires
list_content-inner-path-requires t c = node_room (length c.args.place.path.now) (grammar_of c.args.content.now) c.requires

pub list_field-inner-path-requires : goal.list_field-inner-path-requires
list_field-inner-path-requires t c = field_room (length c.args.place.path.now) (field_of c.args.field.now) c.requires

pub list_case-inner-path-requires : goal.list_case-inner-path-requires
list_case-inner-path-requires t c = node_room (length c.args.place.path.now) _ c.requires

pub list_body-list_sequence-requires : goal.list_body-list_sequence-requires
list_body-list_sequence-requires t c =
    let k = seq_can (length c.args.place.path.now) c.args.body.now c.in-Seq.seq c.items.result.now c.in-Seq.is c.items.ensures c.requires in
    (search (rules, the_lemmas), (k.0, k.1))

pub list_body-list_cases-requires : goal.list_body-list_cases-requires
list_body-list_cases-requires t c =
    let k = cases_can (length c.args.place.path.now) c.args.body.now c.in-Choice.choice c.items-in-Choice.result.now c.in-Choice.is c.items-in-Choice.ensures c.requires in
    (search (rules, the_lemmas), (k.0, k.1))
