use Rattle.std.proofs.Common.{◌≡◌, ◌+◌, [], length}
use Rattle.serde_json.specs.View.{members_view}
use Rattle.acn_firsts.specs.Placed.{noted_all}
use Rattle.acn_grammar.specs.Grammar.{Fields}
use Rattle.acn_json.specs.Few.{component_places}
use Rattle.acn_json.specs.Reads.{first_unknown}
use Rattle.acn_json.proofs.members.first_unnoted.Given as goal

abbrev pub invariant-loop-key : goal.invariant-loop-key
invariant-loop-key l = record {
  count : l.at + length l.key-iterator ≡ length l.members.entries;
  same : (fs : Fields) → l.names ≡ noted_all [] (component_places fs) → first_unknown fs l.at (members_view l.key-iterator) ≡ first_unknown fs 0 (members_view l.members.entries);
}
