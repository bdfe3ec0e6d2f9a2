use Rattle.std.proofs.Common.{◌+◌, ℕ, sym, ap, ◌∙◌}
use Rattle.acn_grammar.specs.Spell.{SizePart}
use Rattle.acn_reads.specs.Decoded.{Passes}
use Rattle.acn_text.proofs.Fine.{sizing_few}
use Rattle.acn_string_lines.proofs.SizesRead.{in_front, few_in_front, small_in_front, held_here}
use Rattle.acn_string_lines.proofs.sizes.size.Goals as goal

pub take-requires : goal.take-requires
take-requires c = few_in_front c.args.sizing.now c.in-Prefix.low c.in-Prefix.width c.requires.fine c.in-Prefix.is

pub overflow_add-n : goal.overflow_add-n
overflow_add-n c = record { fits = small_in_front c.args.sizing.now c.in-Prefix.low c.in-Prefix.width c.in-Ok.ahead c.args.cur.now.rest c.requires.fine c.in-Prefix.is c.in-Ok.ensures.within c.in-Ok.ensures.value }

pub returns-then-holds_natural-clause-few : goal.returns-then-holds_natural-clause-few
returns-then-holds_natural-clause-few c = sizing_few c.args.sizing.now (c.in-Prefix.low + c.in-Ok.ahead) c.requires.fine (sym c.holds_natural.ensures ∙ c.if-holds_natural.true)

pub returns-then-holds_natural-clause-read : goal.returns-then-holds_natural-clause-read
returns-then-holds_natural-clause-read c =
    let low = c.in-Prefix.low in
    in_front c.args.sizing.now low c.in-Prefix.width (low + c.in-Ok.ahead) c.args.slots.now c.args.cur.now c.take.new.self c.in-Prefix.is (sym c.holds_natural.ensures ∙ c.if-holds_natural.true) c.in-Ok.ensures.within (ap (λ (k : ℕ). low + k) c.in-Ok.ensures.value) c.in-Ok.ensures.moved

pub returns-in-Slot-clause-read : goal.returns-in-Slot-clause-read
returns-in-Slot-clause-read c = held_here c.slot_size.result (λ n cur. Passes (λ env. SizePart c.args.sizing.now env n) c.args.slots.now cur cur) c.args.cur.now c.slot_size.ensures.read
