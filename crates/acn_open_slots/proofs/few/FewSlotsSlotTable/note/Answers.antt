use Rattle.std.proofs.Common.{◌≡◌, ◌≤◌, ◌<◌, ◌++◌, ◌∷◌, [], length, List, ℕ, ℤ, None, subst, sym, ap, ◌∙◌, arith, length-append}
use Rattle.acn_grammar.specs.Env.{Env, at_slot}
use Rattle.acn_open_slots.specs.Noted.{OnceEach}
use Rattle.acn_open_slots.proofs.Counts.{once_more}
use Rattle.acn_open_slots.proofs.few.FewSlotsSlotTable.note.Goals as goal

pub invariant_of-self : goal.invariant_of-self
invariant_of-self c =
    let e = c.push.ensures.items in
    let l = ap length e ∙ length-append c.self.inside.numbers.items (_ ∷ []) in
    let room = c.if-len-lt-FEW_SLOTS.true in
    let n = c.len.ensures.value in
    (omega (arith, l, room, n), subst OnceEach (sym e) (once_more c.self.inside.numbers.items c.args.slot _ c.self.invariant.1 (subst (λ (t : Env). at_slot t c.args.slot ≡ None) (sym c.self.view_is) c.requires)))
