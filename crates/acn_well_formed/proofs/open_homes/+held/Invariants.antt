use Rattle.std.proofs.Common.{◌≡◌, drop, map}
use Rattle.acn_well_formed.specs.Held.{fields_held, alternatives_held}
use Rattle.acn_grammar.specs.View.{fields_view, alternatives_view}
use Rattle.acn_well_formed.proofs.open_homes.+held.Given as goal

abbrev pub invariant-fields_held-loop-field : goal.invariant-fields_held-loop-field
invariant-fields_held-loop-field l = fields_held (map (λ home. home.now) l.homes) (fields_view (drop l.field-index l.fields)) ≡ fields_held (map (λ home. home.now) l.homes) (fields_view l.fields)

abbrev pub invariant-alternatives_held-loop-alternative : goal.invariant-alternatives_held-loop-alternative
invariant-alternatives_held-loop-alternative l = alternatives_held (map (λ home. home.now) l.homes) (alternatives_view (drop l.alternative-index l.alternatives)) ≡ alternatives_held (map (λ home. home.now) l.homes) (alternatives_view l.alternatives)
