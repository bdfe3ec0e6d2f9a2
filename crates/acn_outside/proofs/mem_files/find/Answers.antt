use Rattle.std.proofs.Common.{◌∙◌, ap, sym, Some, option_map}
use Rattle.acn_outside.specs.Entries.{has_name}
use Rattle.acn_outside.proofs.Named.{found_at, not_found}
use Rattle.acn_outside.proofs.mem_files.find.Goals as goal

pub returns-in-Some : goal.returns-in-Some
returns-in-Some c =
    let found = found_at (has_name c.args.name.now) c.args.entries.now c.in-Some.i c.index-entries-i.result (sym c.place.ensures ∙ c.in-Some.is) c.index-entries-i.is in
    ap Some c.deref.ensures.value ∙ ap (λ x. Some x.bytes.items) (sym c.index-entries-i.is) ∙ sym (ap (option_map (λ x. x.bytes.items)) found)

pub returns-in-None : goal.returns-in-None
returns-in-None c = sym (ap (option_map (λ x. x.bytes.items)) (not_found (has_name c.args.name.now) c.args.entries.now (sym c.place.ensures ∙ c.in-None.is)))
