use Rattle.std.proofs.Common.{Some, option_map, sym, ap, ◌∙◌}
use Rattle.std.specs.Int.{w128}
use Rattle.std.proofs.lemmas.Int.{to_z-of_z}
use Rattle.acn_grammar.specs.Grammar.{int}
use Rattle.acn_lines.proofs.LeafLaw.{natural_is, view_int}
use Rattle.acn_lines.proofs.leaves.natural.Goals as goal

pub returns : goal.returns
returns c =
    let number = rw c.scan.ensures.parts at c.in_ok-number.ensures in
    let x = c.from.result in
    rw (to_z-of_z w128 x (record { sfits = c.from.type_inv }))
    (ap (option_map int) (natural_is c.args.text.now c.in_ok-number.number c.requires number.0.0 number.0.1 number.1 ∙ ap Some (sym c.from.ensures)) ∙ ap Some (sym (view_int x)))
