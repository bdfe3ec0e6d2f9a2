use Rattle.std.proofs.Common.{◌≡◌, [], drop}
use Rattle.acn_firsts.specs.Placed.{noted_all}
use Rattle.acn_grammar.specs.View.{fields_view}
use Rattle.acn_json.specs.Few.{component_places}
use Rattle.acn_json.proofs.members.names_of.Given as goal

abbrev pub invariant-loop-field : goal.invariant-loop-field
invariant-loop-field l = noted_all l.names (component_places (fields_view (drop l.field-index l.fields))) ≡ noted_all [] (component_places (fields_view l.fields))
