use Rattle.std.proofs.Common.{rules, FitsSigned, ap, ◌∙◌, List}
use Rattle.std.proofs.lemmas.Int.{to_z-of_z}
use Rattle.std.specs.Int.{w128}
use Rattle.std.specs.Prelude.{map, option_map}
use Rattle.std.specs.Borrow.{Bor}
use Rattle.acn_num.specs.Names.{Name}
use Rattle.acn_written.specs.Items.{Numbered}
use Rattle.acn_enum_values.specs.EnumValues.{with_number}
use Rattle.acn_enum_values.specs.Keyed.{keyed_view}
use Rattle.acn_enum_values.proofs.ByNumber.{looked_up}
use Rattle.acn_enum_values.proofs.seen.Seen.with_number.Goals as goal

pub returns-in-Some : goal.returns-in-Some
returns-in-Some c =
    let fits : FitsSigned w128 c.args.number = search rules in
    let all = c.self.inside.names.entries in
    ap (option_map (λ (n : Bor Name). n.now)) ((c.in-Some.ensures {u = tt}).value) ∙ (looked_up _ all ∙ (ap (with_number (map keyed_view all)) (to_z-of_z w128 c.args.number fits) ∙ ap (λ (is : List Numbered). with_number is c.args.number) c.self.view_is))

pub returns-in-None : goal.returns-in-None
returns-in-None c =
    let fits : FitsSigned w128 c.args.number = search rules in
    let all = c.self.inside.names.entries in
    ap (option_map (λ (n : Bor Name). n.now)) ((c.in-None.ensures {u = tt}).value) ∙ (looked_up _ all ∙ (ap (with_number (map keyed_view all)) (to_z-of_z w128 c.args.number fits) ∙ ap (λ (is : List Numbered). with_number is c.args.number) c.self.view_is))
