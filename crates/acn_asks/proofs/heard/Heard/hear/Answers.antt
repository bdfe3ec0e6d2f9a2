use Rattle.std.proofs.Common.{ap, sym, refl, ◌∙◌, is_some}
use Rattle.acn_asks.specs.Heard.{kept_of}
use Rattle.acn_grammar.specs.Faults.{ask_of}
use Rattle.acn_asks.proofs.Fields.{looked_up, is_none, ok_both, err_after}
use Rattle.acn_asks.proofs.Walked.{judged_more, first_conflict}
use Rattle.acn_asks.proofs.heard.Heard.hear.Goals as goal

pub hear_more-requires : goal.hear_more-requires
hear_more-requires c =
    let field = c.args.field.now in
    let found = looked_up (λ k. k.items) field c.self.inside.fields.entries ∙ ap (kept_of field) c.self.view_is in
    sym (ap is_some found) ∙ sym (c.if-contains_key.ensures {u = tt})

pub hear_first-requires : goal.hear_first-requires
hear_first-requires c =
    let field = c.args.field.now in
    let found = looked_up (λ k. k.items) field c.self.inside.fields.entries ∙ ap (kept_of field) c.self.view_is in
    is_none (kept_of field c.args.self.now) (sym (ap is_some found) ∙ sym (c.if-contains_key.ensures {u = tt}))

pub returns-then-contains_key-clause-judged : goal.returns-then-contains_key-clause-judged
returns-then-contains_key-clause-judged c =
    ok_both c.hear_more.result c.hear_more.ensures.kept c.hear_more.ensures.others (λ kept others. judged_more c.args.set.now c.args.self.now c.hear_more.new.self c.args.field.now (ask_of c.args.wanted.now) kept others)

pub returns-then-contains_key-clause-conflict : goal.returns-then-contains_key-clause-conflict
returns-then-contains_key-clause-conflict c =
    err_after c.hear_more.result _ refl c.hear_more.ensures.refused (λ u h. first_conflict c.args.set.now c.args.self.now c.args.field.now (ask_of c.args.wanted.now) u h)

pub returns-else-contains_key-clause-judged : goal.returns-else-contains_key-clause-judged
returns-else-contains_key-clause-judged c =
    ok_both c.hear_first.result c.hear_first.ensures.kept c.hear_first.ensures.others (λ kept others. judged_more c.args.set.now c.args.self.now c.hear_first.new.self c.args.field.now (ask_of c.args.wanted.now) kept others)

pub returns-else-contains_key-clause-conflict : goal.returns-else-contains_key-clause-conflict
returns-else-contains_key-clause-conflict c =
    err_after c.hear_first.result _ refl c.hear_first.ensures.refused (λ u h. first_conflict c.args.set.now c.args.self.now c.args.field.now (ask_of c.args.wanted.now) u h)
