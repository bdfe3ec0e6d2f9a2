use Rattle.std.proofs.Common.{◌≡◌, Some, option_map, drop, sym, ap, subst, ◌∙◌, arith, take_all, length-drop}
use Rattle.std.specs.Int.{w64, w128}
use Rattle.std.specs.Prelude.{FitsSigned}
use Rattle.std.proofs.lemmas.Int.{to_z-of_z}
use Rattle.fast_float.specs.Text.{scan}
use Rattle.acn_grammar.specs.Grammar.{int}
use Rattle.acn_lines.proofs.LeafLaw.{negative_is, view_int}
use Rattle.acn_lines.proofs.leaves.negative.Goals as goal

pub returns-then-number-lt0 : goal.returns-then-number-lt0
returns-then-number-lt0 c =
    let s = c.args.text.now in
    let parts : c.scan.result ≡ scan (drop 1 s) = c.scan.ensures.parts ∙ ap scan (take_all _ (drop 1 s) (omega (arith, length-drop 1 s))) in
    let number = rw parts at c.in_ok-number.ensures in
    let fits = subst (FitsSigned w64) (sym number.1) number.0.1 in
    let plain = to_z-of_z w64 c.in_ok-number.number fits in
    let low = rw plain at c.if-number-lt0.true in
    let x = c.from.result in
    rw (to_z-of_z w128 x (record { sfits = c.from.type_inv }))
    (ap (option_map int) (negative_is s c.in_ok-number.number c.requires.minus number.0.0 number.0.1 number.1 low ∙ ap Some (sym (c.from.ensures ∙ plain))) ∙ ap Some (sym (view_int x)))
