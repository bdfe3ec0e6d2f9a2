use Rattle.std.proofs.Common.{rules, ◌≡◌, filter, not, List, ℕ, subst, sym, ap, ◌∙◌, arith}
use Rattle.std.proofs.lemmas.Bool.Decides.{nat_tests}
use Rattle.arrayvec.proofs.ArrayVecLemmas.{filter-from_retain}
use Rattle.acn_grammar.specs.Tree.{holds}
use Rattle.acn_open_slots.specs.Noted.{OnceEach}
use Rattle.acn_open_slots.proofs.Counts.{once_left, all_left, none_in}
use Rattle.acn_open_slots.proofs.few.FewSlotsSlotTable.forget.Goals as goal

pub returns-then-is_empty : goal.returns-then-is_empty
returns-then-is_empty c = subst (λ (h : List ℕ). c.args.self.now ≡ filter (λ e. not (holds h e.0)) c.args.self.now) (sym (none_in c.args.home.now (let q = c.if-is_empty.ensures in grind (arith, nat_tests, q)))) (sym (all_left c.args.self.now))

pub invariant_of-self : goal.invariant_of-self
invariant_of-self c =
    let e : c.retain.new.self.items ≡ filter (λ e. not (holds c.args.home.now e.0)) c.self.inside.numbers.items = filter-from_retain _ _ _ (λ x b f' y called. search rules) _ _ c.retain.ensures.filtered in
    let b = c.retain.ensures.bound in
    let i = c.self.invariant.0 in
    (omega (arith, b, i), subst OnceEach (sym e) (once_left (λ e. not (holds c.args.home.now e.0)) c.self.inside.numbers.items c.self.invariant.1))

pub returns : goal.returns
returns c =
    let e : c.retain.new.self.items ≡ filter (λ e. not (holds c.args.home.now e.0)) c.self.inside.numbers.items = filter-from_retain _ _ _ (λ x b f' y called. search rules) _ _ c.retain.ensures.filtered in
    e ∙ ap (filter (λ e. not (holds c.args.home.now e.0))) c.self.view_is
