use Rattle.std.proofs.Common.{rules, FitsSigned, ap, ◌∙◌, ◌++◌, ◌∷◌, [], List}
use Rattle.std.proofs.lemmas.Int.{to_z-of_z}
use Rattle.std.specs.Int.{w128}
use Rattle.std.specs.Prelude.{map}
use Rattle.indexmap.proofs.CallerLemmas.{insert_entry-new}
use Rattle.acn_written.specs.Items.{Numbered}
use Rattle.acn_enum_values.specs.EnumValues.{with_number}
use Rattle.acn_enum_values.specs.Keyed.{keyed_view}
use Rattle.acn_enum_values.proofs.ByNumber.{looked_up, one_more, none}
use Rattle.acn_enum_values.proofs.seen.Seen.add.Goals as goal

pub returns : goal.returns
returns c =
    let all = c.self.inside.names.entries in
    let x = c.args.number in
    let fits : FitsSigned w128 c.args.number = search rules in
    let absent = none _ _ (looked_up x all ∙ (ap (λ (is : List Numbered). with_number is x) c.self.view_is ∙ c.requires)) in
    let put = rw (to_z-of_z w128 c.args.number fits) at (c.in_ok-insert.ensures {u = tt}).entries in
    let entries = put ∙ insert_entry-new _ c.self.inside.names x c.args.name absent in
    ap (map keyed_view) entries ∙ (one_more all x c.args.name ∙ ap (λ (z : List Numbered). z ++ (c.args.name.now, x) ∷ []) c.self.view_is)
