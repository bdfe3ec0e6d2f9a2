use Rattle.std.proofs.Common.{◌≡◌, ◌+◌, ◌++◌, drop, map, length}
use Rattle.acn_grammar.specs.Walk.{conditions_of}
use Rattle.acn_grammar.specs.View.{alternatives_view}
use Rattle.acn_well_formed.proofs.names.listed_alternatives_differ.Given as goal

abbrev pub invariant-loop-alternative : goal.invariant-loop-alternative
invariant-loop-alternative t l = record {
  whole : map (λ name. name.now) l.names.items ++ map (λ c. c.0) (conditions_of (alternatives_view (drop l.alternative-index l.front))) ≡ map (λ c. c.0) (conditions_of (alternatives_view l.front));
  few : length l.names.items ≡ l.alternative-index;
}

abbrev pub invariant-loop-alternative-2 : goal.invariant-loop-alternative-2
invariant-loop-alternative-2 t l = record {
  whole : map (λ name. name.now) l.names.items ++ map (λ c. c.0) (conditions_of (alternatives_view (drop l.alternative-index l.behind))) ≡ map (λ c. c.0) (conditions_of (alternatives_view l.front)) ++ map (λ c. c.0) (conditions_of (alternatives_view l.behind));
  few : length l.names.items ≡ length l.front + l.alternative-index;
}
