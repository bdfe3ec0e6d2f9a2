-- What a CHOICE keeps.
use Rattle.std.proofs.Common.{◌≡◌, ◌<◌, ◌^◌, List, length, sym, ap, ◌∙◌, subst}
use Rattle.acn_grammar.specs.Grammar.{choice}
use Rattle.acn_grammar.specs.View.{form_of, alternatives_view}
use Rattle.acn_grammar.specs.declared.node.Alternative.{Alternative}
use Rattle.acn_grammar.specs.declared.node.Body.{Body, Choice as Choice_body}
use Rattle.acn_grammar.specs.declared.node.Choice.{Choice as ChoiceNode, out-Choice}
use Rattle.acn_single.proofs.Views.{count_cases, view_choice_form}
use Rattle.acn_extremes.specs.Ways.{FormCanMake, AlternativesCanMake}

pub choice_can : (b : Body) (c : ChoiceNode) (as' : List Alternative) → b ≡ Choice_body c → as' ≡ (out-Choice c).alternatives → FormCanMake (form_of b) → (length as' < 2 ^ 32) × AlternativesCanMake (alternatives_view as')
choice_can b c as' e f h =
    let form : form_of b ≡ choice (alternatives_view as') (out-Choice c).rule = ap form_of e ∙ (view_choice_form c ∙ ap (λ xs. choice (alternatives_view xs) (out-Choice c).rule) (sym f)) in
    let k = subst FormCanMake form h in
    (subst (λ n. n < 2 ^ 32) (count_cases as') k.0, k.1)
