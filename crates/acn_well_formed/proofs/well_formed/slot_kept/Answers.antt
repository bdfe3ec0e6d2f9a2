use Rattle.std.proofs.Common.{ap, ◌∙◌, ℕ, true, false}
use Rattle.acn_well_formed.specs.Seen.{seen, slot_kept}
use Rattle.acn_grammar.specs.View.{grammar_of}
use Rattle.acn_well_formed.specs.declared.homes.Seen.{Seen}
use Rattle.acn_well_formed.proofs.well_formed.slot_kept.Goals as goal

pub returns : goal.returns
unfolding slot_kept
returns c =
    let g = grammar_of c.args.root.now in
    let e = ap (λ (r : Seen). r.about) c.look-all.ensures in
    ap (λ (r : Seen). r.fine) c.look-seen.ensures ∙ ap (λ (n : ℕ). (seen c.args.slot n false false false true g).fine) e
