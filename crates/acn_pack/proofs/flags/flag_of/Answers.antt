use Rattle.std.proofs.Common.{Bool, sym, ap, ◌∙◌, arith}
use Rattle.acn_grammar.specs.Length.{bit_before}
use Rattle.acn_plan.specs.Back.{field_by}
use Rattle.acn_pack.proofs.Fields.{below}
use Rattle.acn_pack.proofs.PresenceBits.{component_flag, no_flag, inserted_flag}
use Rattle.acn_pack.proofs.flags.flag_of.Goals as goal

pub returns-in-Some-get-clause-within : goal.returns-in-Some-get-clause-within
returns-in-Some-get-clause-within c = let there = below _ _ c.in-Some-get.ensures.lookup.0 in omega (arith, there)

pub returns-in-Some-get-clause-some : goal.returns-in-Some-get-clause-some
returns-in-Some-get-clause-some c = λ g fs.
    let m = c.in-Some.ensures.some in
    let there = c.in-Some-get.ensures.lookup in
    component_flag (field_by c.args.place.now g) m.0 g c.in-Some.component.presence.now m.1 c.in-Some.component.slot fs c.args.next c.in-Some-get.component_place.now c.args.places.now c.bit_of-bit.result (m.2 g) (below _ _ there.0) there.1 (λ bs. ap (λ (x : Bool). bit_before c.in-Some.component.presence.now x bs) (sym c.is_there-there.ensures) ∙ c.bit_of-bit.ensures bs)

pub returns-in-None-get-clause-none : goal.returns-in-None-get-clause-none
returns-in-None-get-clause-none c = λ g fs.
    let m = c.in-Some.ensures.some in
    no_flag (field_by c.args.place.now g) m.0 g c.in-Some.component.presence.now m.1 c.in-Some.component.slot fs c.args.next c.args.places.now (m.2 g) (c.in-None-get.ensures {u = tt}).lookup.3

pub returns-in-None-clause-some : goal.returns-in-None-clause-some
returns-in-None-clause-some c = λ g fs.
    let m = c.in-None.ensures.none g in inserted_flag (field_by c.args.place.now g) m.0 g m.1 fs c.args.next c.args.places.now m.2
