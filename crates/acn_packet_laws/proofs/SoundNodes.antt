-- Each node below a sound one is sound, by its number.
use Rattle.std.proofs.Common.{◌≡◌, ℕ, zero, suc, List, [], ◌∷◌, ◌++◌, length, true, false, Option, Some, None, refl, sym, ap, subst}
use Rattle.std.specs.Prelude.{slice_get}
use Rattle.acn_grammar.specs.Grammar.{Grammar, Form, Fields, Alternatives, node, num, octets, bits, text, seq, list, choice, contained, no_fields, component, inserted, no_alternatives, alternative}
use Rattle.acn_grammar.specs.Scoped.{Known, after, choose_known, with_own, with_slot}
use Rattle.acn_grammar.specs.Sound.{Sound, FormSound, FieldsSound, AlternativesSound}
use Rattle.acn_grammar.specs.Tree.{holds}
use Rattle.acn_grammar.specs.declared.node.Presence.{Presence}
use Rattle.acn_grammar.specs.declared.node.Presence.TheVariants.{Always, Bit, When}
use Rattle.acn_grammar.specs.Walk.{Stand, Role, component_role, an_inserted, alternative_role, an_element, a_content, root_node, nodes, form_nodes, field_nodes, alternative_nodes}
use Rattle.acn_grammar.specs.declared.node.ChoiceRule.{ChoiceRule}
use Rattle.acn_packet_laws.specs.Laws.{EachNodeIsSound, IsSoundAt}
use Rattle.acn_packet_laws.proofs.NodeLaws.{in_either}
use Rattle.acn_packet_laws.proofs.OneFault.{some_same}
use Rattle.acn_packet_laws.proofs.Placed.{here_at, holds_right}
use Rattle.acn_packet_laws.proofs.Homes.{out}
use Rattle.acn_packet_laws.proofs.SoundLaws.{accepted_sound_nodes}
use Rattle.acn_packet_laws.proofs.Sounding.{one_step, own_open, sound_after}
use Rattle.acn_packet_laws.proofs.Tuples.{first_four, fourth_five, last_five, last_four, last_three, last_two, second_five, second_three, third_four}

-- the known slots are at home round the place
abbrev AtHome : List ℕ → Known → Type 0
AtHome around ks = (s : ℕ) → ks s ≡ true → holds around s ≡ true

module _ (root : Grammar) where
  abbrev Somewhere : Stand → Type 0
  Somewhere at = IsSoundAt root at

  -- what is known behind a component is at home round it
  behind_home : (name : List ℕ) (g : Grammar) (presence : Presence) (default : Option (List ℕ)) (own : Option ℕ) (fs : Fields) (d : ℕ) (around : List ℕ) (ks : Known) → AtHome around ks → FieldsSound root d around ks (component name g presence default own fs) → AtHome around (choose_known presence ks (with_own own (after ks g)))
  behind_home name g Always default own fs d around ks w h s e =
      out {F = holds around s ≡ true} (own_open root around ks own Always g (second_five h) (after ks g) s e)
      (λ q. out {F = holds around s ≡ true} (sound_after root g d around ks (fourth_five h) s q) (λ r. w s r) (λ r. r))
      (λ q. q)
  behind_home name g Bit default own fs d around ks w h s e = w s e
  behind_home name g (When ts) default own fs d around ks w h s e = w s e

  behind_slot : (name : List ℕ) (g : Grammar) (t : ℕ) (fs : Fields) (d : ℕ) (around : List ℕ) (ks : Known) → AtHome around ks → FieldsSound root d around ks (inserted name g (Some t) fs) → AtHome around (with_slot t ks)
  behind_slot name g t fs d around ks w h s e = out {F = holds around s ≡ true} (own_open root around ks (Some t) Always g (refl, first_four h) ks s e) (λ r. w s r) (λ r. r)

  mutual
    at_node : (g : Grammar) (role : Role) (path around : List ℕ) (d : ℕ) → length path ≡ d → (ks : Known) → AtHome around ks → Sound root d around ks g → (n : ℕ) (at : Stand) → slice_get (nodes role path around g) n ≡ Some at → Somewhere at
    at_node (node align form) role path around d e ks w h zero at is = subst Somewhere (some_same (here_at role path around align form) at is) (record { known = ks; at_home = w; sound = subst (λ m. Sound root m around ks (node align form)) (sym e) h })
    at_node (node align form) role path around d e ks w h (suc n) at is = at_form form path around d e ks w (last_three h) n at is

    at_form : (form : Form) (path around : List ℕ) (d : ℕ) → length path ≡ d → (ks : Known) → AtHome around ks → FormSound root d around ks form → (n : ℕ) (at : Stand) → slice_get (form_nodes path around form) n ≡ Some at → Somewhere at
    at_form (num leaf) path around d e ks w h n at is = cc
    at_form (octets sizing) path around d e ks w h n at is = cc
    at_form (bits sizing) path around d e ks w h n at is = cc
    at_form (text leaf) path around d e ks w h n at is = cc
    at_form (seq fields home) path around d e ks w h n at is = at_fields fields path (home ++ around) 0 (suc d) (ap suc e) ks (λ s k. holds_right home around s (w s k)) (last_two h) n at is
    at_form (list sizing g) path around d e ks w h n at is = at_node g an_element (path ++ 0 ∷ []) around (suc d) (one_step path 0 (suc d) (ap suc e)) ks w (last_five h) n at is
    at_form (contained sizing g) path around d e ks w h n at is = at_node g a_content (path ++ 0 ∷ []) around (suc d) (one_step path 0 (suc d) (ap suc e)) ks w (last_four h) n at is
    at_form (choice cases rule) path around d e ks w h n at is = at_cases cases rule path around 0 (suc d) (ap suc e) ks w (last_four h) n at is

    at_fields : (fs : Fields) (path around : List ℕ) (k d : ℕ) → suc (length path) ≡ d → (ks : Known) → AtHome around ks → FieldsSound root d around ks fs → (n : ℕ) (at : Stand) → slice_get (field_nodes path around k fs) n ≡ Some at → Somewhere at
    at_fields no_fields path around k d e ks w h n at is = cc
    at_fields (component name g presence default own fs) path around k d e ks w h n at is =
        in_either {F = Somewhere at} (nodes (component_role name presence default own) (path ++ k ∷ []) around g) (field_nodes path around (suc k) fs) n at is
        (λ q. at_node g (component_role name presence default own) (path ++ k ∷ []) around d (one_step path k d e) ks w (fourth_five h) n at q)
        (λ m l q. at_fields fs path around (suc k) d e (choose_known presence ks (with_own own (after ks g))) (behind_home name g presence default own fs d around ks w h) (last_five h) m at q)
    at_fields (inserted name g (Some s) fs) path around k d e ks w h n at is =
        in_either {F = Somewhere at} (nodes (an_inserted name (Some s)) (path ++ k ∷ []) around g) (field_nodes path around (suc k) fs) n at is
        (λ q. at_node g (an_inserted name (Some s)) (path ++ k ∷ []) around d (one_step path k d e) ks w (third_four h) n at q)
        (λ m l q. at_fields fs path around (suc k) d e (with_slot s ks) (behind_slot name g s fs d around ks w h) (last_four h) m at q)
    at_fields (inserted name g None fs) path around k d e ks w h n at is =
        in_either {F = Somewhere at} (nodes (an_inserted name None) (path ++ k ∷ []) around g) (field_nodes path around (suc k) fs) n at is
        (λ q. at_node g (an_inserted name None) (path ++ k ∷ []) around d (one_step path k d e) ks w (second_three h) n at q)
        (λ m l q. at_fields fs path around (suc k) d e ks w (last_three h) m at q)

    at_cases : (cases : Alternatives) (rule : ChoiceRule) (path around : List ℕ) (k d : ℕ) → suc (length path) ≡ d → (ks : Known) → AtHome around ks → AlternativesSound root d around ks cases → (n : ℕ) (at : Stand) → slice_get (alternative_nodes rule path around k cases) n ≡ Some at → Somewhere at
    at_cases no_alternatives rule path around k d e ks w h n at is = cc
    at_cases (alternative name g tests more) rule path around k d e ks w h n at is =
        in_either {F = Somewhere at} (nodes (alternative_role name tests rule) (path ++ k ∷ []) around g) (alternative_nodes rule path around (suc k) more) n at is
        (λ q. at_node g (alternative_role name tests rule) (path ++ k ∷ []) around d (one_step path k d e) ks w (second_three h) n at q)
        (λ m l q. at_cases more rule path around (suc k) d e ks w (last_three h) m at q)

pub each_node_sound : EachNodeIsSound
each_node_sound root k here a is = at_node root root root_node [] [] 0 refl (λ s. false) (λ s e. cc) (accepted_sound_nodes root a) k here is
