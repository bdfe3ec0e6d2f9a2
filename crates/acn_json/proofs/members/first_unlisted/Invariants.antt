use Rattle.std.proofs.Common.{◌≡◌, ◌+◌, length}
use Rattle.serde_json.specs.View.{members_view}
use Rattle.acn_grammar.specs.View.{fields_view}
use Rattle.acn_json.specs.Reads.{first_unknown}
use Rattle.acn_json.proofs.members.first_unlisted.Given as goal

abbrev pub invariant-loop-key : goal.invariant-loop-key
invariant-loop-key l = record {
  count : l.at + length l.key-iterator ≡ length l.members.entries;
  same : first_unknown (fields_view l.fields) l.at (members_view l.key-iterator) ≡ first_unknown (fields_view l.fields) 0 (members_view l.members.entries);
}
