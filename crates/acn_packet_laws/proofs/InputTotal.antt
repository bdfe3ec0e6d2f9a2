-- Every input has a value of an accepted tree at its front, or a failure.
use Rattle.std.proofs.Common.{ℕ, Bool, false, List, [], ◌∷◌, length, take, refl, sym, ap, ◌∙◌, arith, inl, inr, ◌⊎◌, subst, length-append}
use Rattle.acn_grammar.specs.Code.{Any}
use Rattle.acn_grammar.specs.Env.{Env}
use Rattle.acn_grammar.specs.Fails.{Fault, Refusal, Fails}
use Rattle.acn_grammar.specs.Front.{Front}
use Rattle.acn_grammar.specs.Grammar.{Data}
use Rattle.acn_grammar.specs.Spell.{Spell}
use Rattle.acn_grammar.proofs.TreeRules.{tree_fine}
use Rattle.acn_packet_laws.specs.Laws.{EachInputIsReadOrFails}
use Rattle.acn_packet_laws.proofs.EndedTextTotal.{text_total}
use Rattle.acn_packet_laws.proofs.Envs.{SameKeys, FrontOf, Stuck}
use Rattle.acn_packet_laws.proofs.NodeLaws.{accepted_scoped}
use Rattle.acn_packet_laws.proofs.NodeTotal.{node_total}
use Rattle.acn_packet_laws.proofs.SoundLaid.{sound_laid}
use Rattle.acn_packet_laws.proofs.SoundLaws.{accepted_sound_nodes}
use Rattle.std.proofs.Math.Seq.{take-append_seam}

pub each_input_is_read_or_fails : EachInputIsReadOrFails
each_input_is_read_or_fails root input accepted =
    let o = node_total root text_total root (λ s. false) (λ s. false) (tree_fine root accepted.formed) (sound_laid root root 0 [] (λ s. false) (accepted_sound_nodes root accepted) (λ s. false) (λ s. refl)) (accepted_scoped root accepted) (λ s h. h) (λ s h. cc) []
    (record { permitted = tt; have = λ s h. cc; only = λ s h. refl }) false 0 [] 0 input in
    by o.moved.now o.moved.same o.result
  where
    by : (now : Env) → SameKeys [] now → ((d : Data) × FrontOf (Spell root Any root now d) 0 input) ⊎ Stuck (Fails root root now false 0 []) 0 input → ((d : Data) × (n : ℕ) × Front root input d n) ⊎ ((fault : Fault) × (reach : ℕ) × Refusal root input fault reach)
    by (e ∷ now) k r = absurd k
    by [] k (inr x) = inr x
    by [] k (inl (d, f)) =
        inl (
          d,
          length f.front,
          record {
            within = omega (arith, ap length f.whole, length-append f.front f.back);
            spelled = subst (λ (z : List Bool). Spell root Any root [] d 0 z) (sym (ap (take (length f.front)) f.whole ∙ take-append_seam f.front f.back)) f.spelled;
          },
        )
