use Rattle.std.proofs.Common.{sym, ap, ◌++◌, ◌∷◌, [], ◌∙◌, true≢false}
use Rattle.indexmap.proofs.CallerLemmas.{insert_entry-new}
use Rattle.acn_route.proofs.Lookups.{told, absent, added, ready_after, ok_turned}
use Rattle.acn_route.proofs.routes.Routes.add.Goals as goal
use Rattle.acn_tree.specs.declared.tree.Tree.{Tree}

pub returns-then-contains_key-clause-taken : goal.returns-then-contains_key-clause-taken
returns-then-contains_key-clause-taken c a h = (cc h, sym (told c.args.apid c.self.inside.routes.entries _ _ c.if-contains_key.ensures c.self.view_is))

pub returns-in_err-route-clause-always : goal.returns-in_err-route-clause-always
returns-in_err-route-clause-always c h = absurd (true≢false (sym h ∙ sym (told c.args.apid c.self.inside.routes.entries _ _ c.if-contains_key.ensures c.self.view_is)))

pub returns-in-Ok-clause-always : goal.returns-in-Ok-clause-always
returns-in-Ok-clause-always c h = absurd (true≢false (sym h ∙ sym (told c.args.apid c.self.inside.routes.entries _ _ c.if-contains_key.ensures c.self.view_is)))

pub returns-in-Ok-clause-added : goal.returns-in-Ok-clause-added
returns-in-Ok-clause-added c =
    let none = absent c.args.apid c.self.inside.routes.entries c.if-contains_key.ensures in
    let more = added c.args.apid _ c.self.inside.routes.entries _ _ (c.in-Ok.ensures.entries ∙ insert_entry-new _ c.self.inside.routes c.args.apid _ none) c.self.view_is in
    more ∙ ap (λ (t : Tree). c.args.self.now ++ record { apid = c.args.apid; tree = t } ∷ []) c.in_ok-route.ensures.tree

pub invariant_of-self : goal.invariant_of-self
invariant_of-self c =
    let none = absent c.args.apid c.self.inside.routes.entries c.if-contains_key.ensures in
    ready_after c.insert.result c.args.apid c.in_ok-route.route c.self.inside.routes.entries c.insert.new.self.entries
    (ok_turned c.insert.result c.insert.new.self.entries _ (c.self.inside.routes.entries ++ (c.args.apid, c.in_ok-route.route) ∷ []) c.insert.ensures.entries (insert_entry-new _ c.self.inside.routes c.args.apid _ none))
    c.insert.ensures.err c.self.invariant c.in_ok-route.ensures.ready

pub returns-clause-always : goal.returns-clause-always
returns-clause-always c h = absurd (true≢false (sym h ∙ sym (told c.args.apid c.self.inside.routes.entries _ _ c.if-contains_key.ensures c.self.view_is)))
