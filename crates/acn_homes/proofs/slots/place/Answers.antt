use Rattle.std.proofs.Common.{rules, sym, subst, ◌∙◌, ◌<◌, length, IfSome}
use Rattle.std.proofs.lemmas.List.Sorted.{answers_always}
use Rattle.acn_homes.specs.View.{slot_view}
use Rattle.acn_homes.proofs.Numbered.{searched, found_within}
use Rattle.acn_homes.proofs.slots.place.Goals as goal

pub returns : goal.returns
returns c =
    let there = c.binary_search_by_key.ensures.position (λ s. s.field) (answers_always _ _ _ (λ f a r g called. search rules)) in
    let within = c.binary_search_by_key.ensures.bound in
    record {
      value = c.ok.ensures.value ∙ searched slot_view c.args.path.now c.args.slots.now c.binary_search_by_key.result c.requires there within;
      within = subst (λ o. IfSome o (λ at. at < length c.args.slots.now)) (sym c.ok.ensures.value) (found_within c.binary_search_by_key.result (length c.args.slots.now) within);
    }
