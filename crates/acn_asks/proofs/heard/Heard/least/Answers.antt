use Rattle.std.proofs.Common.{◌≡◌, Some, None, ap, sym, ◌∙◌}
use Rattle.std.proofs.lemmas.Int.{to_z-of_z}
use Rattle.std.specs.Int.{w128}
use Rattle.std.specs.Prelude.{option_copied}
use Rattle.acn_asks.specs.Heard.{kept_of}
use Rattle.acn_asks.proofs.Steps.{unasked}
use Rattle.acn_asks.proofs.Fields.{looked_up, heard_some, heard_none}
use Rattle.acn_asks.proofs.heard.Heard.least.Goals as goal

pub returns-in-Some : goal.returns-in-Some
returns-in-Some c =
    let field = c.args.field.now in
    let found = looked_up (λ k. k.items) field c.self.inside.fields.entries ∙ ap (kept_of field) c.self.view_is in
    let there : kept_of field c.args.self.now ≡ Some c.in-Some.asked.now = sym found ∙ (sym c.get.ensures.value ∙ ap option_copied c.in-Some.is) in
    λ wanted h. rw (to_z-of_z w128 c.least.result (record { sfits = c.least.type_inv })) (c.least.ensures c.args.set.now wanted (heard_some c.args.set.now wanted _ c.in-Some.asked.now there h))

pub returns-in-None : goal.returns-in-None
returns-in-None c =
    let field = c.args.field.now in
    let found = looked_up (λ k. k.items) field c.self.inside.fields.entries ∙ ap (kept_of field) c.self.view_is in
    let absent : kept_of field c.args.self.now ≡ None = sym found ∙ (sym c.get.ensures.value ∙ ap option_copied c.in-None.is) in
    λ wanted h. unasked c.args.set.now c.least_except.result c.least_except.ensures wanted (heard_none c.args.set.now wanted _ absent h)
