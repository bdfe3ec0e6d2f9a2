use Rattle.std.proofs.Common.{arith, suc, ◌≡◌, ◌+◌, sym, ap, subst, ◌∙◌, ℕ, List, ◌∷◌, [], ◌++◌, append_assoc, drop}
use Rattle.acn_grammar.specs.View.{fields_view}
use Rattle.acn_grammar.specs.Grammar.{Fields}
use Rattle.acn_grammar.specs.declared.node.Field.{Field}
use Rattle.acn_cut.specs.Stretches.{AreStretches, IsStretch}
use Rattle.acn_cut.specs.declared.stretch.Stretch.{Stretch}
use Rattle.acn_cut.proofs.Runs.{fields_behind, stretch_first, stretches_whole}
use Rattle.acn_cut.proofs.stretches.all_stretches.Goals as goal

pub loop-at-preserved : goal.loop-at-preserved
loop-at-preserved c = record {
  kept = λ ss more.
      let l = c.loop-at in
      let fields = c.args.fields.now in
      let stretch = c.in_ok-stretch.stretch in
      let one_up : l.at + 1 ≡ suc l.at = omega arith in
      let behind = subst (λ (n : ℕ). AreStretches (fields_view (drop n fields)) ss) one_up more in
      let within = c.loop-at-test.true in
      let whole = l.invariant.kept (stretch ∷ ss) (stretch_first fields l.at stretch ss (omega (arith, within)) (subst (λ (x : List Field). (rest : Fields) × IsStretch (fields_view x) stretch rest) (fields_behind fields l.at) c.in_ok-stretch.ensures) behind) in
      let items = ap (λ (x : List Stretch). x ++ ss) c.in_ok-push.ensures.ok ∙ append_assoc l.stretches (stretch ∷ []) ss in
      subst (λ (x : List Stretch). AreStretches (fields_view fields) x) (sym items) whole;
}

pub returns : goal.returns
returns c = stretches_whole c.args.fields.now c.loop-at.at c.loop-at.stretches c.loop-at.invariant.kept
