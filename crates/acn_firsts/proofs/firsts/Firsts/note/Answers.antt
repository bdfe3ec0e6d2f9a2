use Rattle.std.proofs.Common.{◌≡◌, ℕ, false, List, [], ◌∷◌, ◌++◌, is_some, ap, sym, ◌∙◌}
use Rattle.indexmap.proofs.CallerLemmas.{insert_entry-new}
use Rattle.acn_num.specs.Names.{Name}
use Rattle.acn_firsts.specs.Placed.{place_of}
use Rattle.acn_firsts.proofs.Entries.{placed, looked_up, one_more, there, absent, is_none}
use Rattle.acn_firsts.proofs.firsts.Firsts.note.Goals as goal

pub returns-then-contains_key-clause-ok : goal.returns-then-contains_key-clause-ok
returns-then-contains_key-clause-ok c =
    let seen = looked_up (λ k. k.items) c.args.name.now c.self.inside.places.entries ∙ ap (place_of c.args.name.now) c.self.view_is in
    there c.args.self.now c.args.name.now c.args.place (sym (ap is_some seen) ∙ sym (c.if-contains_key.ensures {u = tt}))

pub returns-clause-ok : goal.returns-clause-ok
returns-clause-ok c =
    let name = c.args.name.now in
    let key = c.in_ok-name.name in
    let all = c.self.inside.places.entries in
    let same = c.in_ok-name.ensures {u = tt} in
    let seen = looked_up (λ k. k.items) name all ∙ ap (place_of name) c.self.view_is in
    let not_there : is_some (place_of name c.args.self.now) ≡ false = sym (ap is_some seen) ∙ sym (c.if-contains_key.ensures {u = tt}) in
    let none = looked_up (λ k. k.items) key.items all ∙ (ap (place_of key.items) c.self.view_is ∙ (ap (λ (n : Name). place_of n c.args.self.now) same.items ∙ is_none (place_of name c.args.self.now) not_there)) in
    let entries = (c.in_ok-insert.ensures {u = tt}).entries ∙ insert_entry-new _ c.self.inside.places key c.args.place none in
    ap (placed (λ k. k.items)) entries ∙ (one_more (λ k. k.items) all key c.args.place ∙ (ap (λ (z : List (Name × ℕ)). z ++ (key.items, c.args.place) ∷ []) c.self.view_is ∙ (ap (λ (n : Name). c.args.self.now ++ (n, c.args.place) ∷ []) same.items ∙ absent c.args.self.now name c.args.place not_there)))
