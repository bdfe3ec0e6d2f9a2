use Rattle.std.proofs.Common.{ℕ, List, [], ◌∷◌, ◌++◌, ap, ◌∙◌}
use Rattle.indexmap.proofs.CallerLemmas.{insert_entry-new}
use Rattle.acn_asks.specs.Heard.{kept_of}
use Rattle.acn_asks.specs.declared.asked.Asked.{Asked}
use Rattle.acn_asks.proofs.Fields.{seen, looked_up, one_more}
use Rattle.acn_asks.proofs.heard.Heard.put.Goals as goal

pub returns-in-Ok-insert-clause-ok : goal.returns-in-Ok-insert-clause-ok
returns-in-Ok-insert-clause-ok c =
    let key = c.in-Ok.field in
    let all = c.self.inside.fields.entries in
    let same = (c.in-Ok.ensures {u = tt}).items in
    let none = looked_up (λ k. k.items) key.items all ∙ (ap (kept_of key.items) c.self.view_is ∙ (ap (λ (n : List ℕ). kept_of n c.args.self.now) same ∙ c.requires)) in
    let entries = (c.in-Ok-insert.ensures {u = tt}).entries ∙ insert_entry-new _ c.self.inside.fields key c.args.asked none in
    ap (seen (λ k. k.items)) entries
    ∙ (one_more (λ k. k.items) all key c.args.asked
    ∙ (ap (λ (z : List (List ℕ × Asked)). z ++ (key.items, c.args.asked) ∷ []) c.self.view_is ∙ ap (λ (n : List ℕ). c.args.self.now ++ (n, c.args.asked) ∷ []) same))
