use Rattle.std.proofs.Common.{rules, FitsSigned, ◌≡◌, ℤ, ◌∙◌, subst}
use Rattle.std.specs.Prelude.{OnErr, OnOk}
use Rattle.std.proofs.lemmas.Int.{to_z-of_z}
use Rattle.std.specs.Int.{w128}
use Rattle.acn_grammar.specs.Length.{number_of}
use Rattle.acn_grammar.specs.View.{data_of}
use Rattle.acn_events.specs.Event.{codes}
use Rattle.acn_writer.specs.Answers.{Comes, HaltsFor}
use Rattle.acn_pack.proofs.Ways.{one}
use Rattle.acn_pack.proofs.leaves.put_number.Goals as goal

pub returns : goal.returns
returns g c = λ path.
    let fits : FitsSigned w128 c.number-x.result = search rules in
    let e : _ ≡ number_of (data_of c.args.v.now) = to_z-of_z w128 c.number-x.result fits ∙ c.number-x.ensures in
    one (λ p. codes c.args.leaf.now (number_of (data_of c.args.v.now))) c.args.w.now c.code.new.self path c.code.new.why c.code.result
    (subst (λ (z : ℤ). OnOk c.code.result (Comes (λ p. codes c.args.leaf.now z) c.args.w.now c.code.new.self)) e c.code.ensures.ran)
    (subst (λ (z : ℤ). OnErr c.code.result (HaltsFor (λ p. codes c.args.leaf.now z) c.args.w.now c.code.new.self c.code.new.why)) e c.code.ensures.halted)
