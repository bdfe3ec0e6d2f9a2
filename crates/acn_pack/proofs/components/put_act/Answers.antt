use Rattle.std.proofs.Common.{rules, sym, ap, subst}
use Rattle.acn_grammar.specs.View.{data_of}
use Rattle.acn_events.specs.Events.{form_events}
use Rattle.acn_plan.specs.Back.{form_in}
use Rattle.acn_plan.specs.declared.step.Act.{Act}
use Rattle.acn_plan.specs.declared.step.Act.TheVariants as acts
use Rattle.acn_pack.specs.Parts.{IsString}
use Rattle.acn_pack.proofs.Ways.{packs_as}
use Rattle.acn_pack.proofs.components.put_act.Goals as goal

pub returns-in-Octets : goal.returns-in-Octets
returns-in-Octets g c = λ root next i ms path.
    let es = λ (a : Act). form_events root (form_in a next i ms) path (data_of c.args.v.now) in
    packs_as (es (acts.Octets c.in-Octets.sizing)) (es c.args.act.now) c.args.w.now c.put_octets.new.w path c.put_octets.new.why c.put_octets.result (ap es (sym c.in-Octets.is)) (c.put_octets.ensures root path)

pub returns-in-Bits : goal.returns-in-Bits
returns-in-Bits g c = λ root next i ms path.
    let es = λ (a : Act). form_events root (form_in a next i ms) path (data_of c.args.v.now) in
    packs_as (es (acts.Bits c.in-Bits.sizing)) (es c.args.act.now) c.args.w.now c.put_bits.new.w path c.put_bits.new.why c.put_bits.result (ap es (sym c.in-Bits.is)) (c.put_bits.ensures root path)

pub put_text-requires : goal.put_text-requires
put_text-requires g c = (search rules, subst IsString c.in-Text.is c.requires)

pub returns-in-Text : goal.returns-in-Text
returns-in-Text g c = λ root next i ms path.
    let es = λ (a : Act). form_events root (form_in a next i ms) path (data_of c.args.v.now) in
    packs_as (es (acts.Text c.in-Text.leaf)) (es c.args.act.now) c.args.w.now c.put_text.new.w path c.put_text.new.why c.put_text.result (ap es (sym c.in-Text.is)) (c.put_text.ensures root path)
