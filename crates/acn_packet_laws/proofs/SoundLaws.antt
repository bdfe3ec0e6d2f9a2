-- What follows of nodes that are sound.
use Rattle.std.proofs.Common.{ℕ, suc, ◌++◌, List, length, map, Some, None, refl, ap, ◌∙◌, ◌&&◌, nat_lt}
use Rattle.acn_grammar.specs.Asks.{same_name}
use Rattle.acn_grammar.specs.Check.{too_many_open, open_at}
use Rattle.acn_grammar.specs.Walk.{conditions_of}
use Rattle.acn_grammar.specs.Grammar.{Grammar, Form, Fields, Alternatives, node, num, octets, bits, text, seq, list, choice, contained, no_fields, component, inserted, no_alternatives, alternative}
use Rattle.acn_grammar.specs.Leaves.{all_differ}
use Rattle.acn_grammar.specs.Scoped.{Known, PresenceIn, FineField, Scoped, FormScoped, FieldsScoped, AlternativesScoped, after, choose_known, with_own, with_slot}
use Rattle.acn_grammar.specs.Sound.{Sound, FormSound, FieldsSound, AlternativesSound, PresenceSound, SaysSlot}
use Rattle.acn_grammar.specs.Tree.{choice_rule_fine}
use Rattle.acn_grammar.specs.declared.node.ChoiceRule.TheVariants.{Index, Tests, Item}
use Rattle.acn_grammar.specs.declared.node.Presence.{Presence}
use Rattle.acn_grammar.specs.declared.node.Presence.TheVariants.{Always, Bit, When}
use Rattle.acn_packet_laws.specs.Laws.{AcceptedIsSound, SoundIsScoped, KnownBehind, FewAreOpen}
use Rattle.acn_packet_laws.proofs.NodeLaws.{accepted_sound}
use Rattle.acn_packet_laws.proofs.Scoping.{names_are}
use Rattle.acn_packet_laws.proofs.Sounding.{root_sound, sound_after, at_most}
use Rattle.std.proofs.lemmas.Bool.{and_parts}
use Rattle.acn_packet_laws.proofs.Tuples.{first_five, first_four, first_two, fourth_five, last_five, last_four, last_three, last_two, second_five, second_four, second_three, third_five, third_four}

pub accepted_sound_nodes : AcceptedIsSound
accepted_sound_nodes root a = root_sound root a.formed (accepted_sound root a)

pub known_behind : KnownBehind
known_behind root k around ks g h = sound_after root g k around ks h

pub few_are_open : FewAreOpen
few_are_open root k here a is = at_most (open_at here) 256 (λ h. accepted_sound root a (too_many_open here.path (open_at here)) (record { node = k; use_here = 0; holds = record { at = here; is_at = is; path_is = refl; count_is = refl; many = h } }))

-- What is sound is scoped.

presence_scoped : (ks : Known) (presence : Presence) → PresenceSound ks presence → PresenceIn ks presence
presence_scoped ks Always h = tt
presence_scoped ks Bit h = tt
presence_scoped ks (When ts) h = last_two h

module _ (root : Grammar) where
  fine_field : (k : ℕ) (around : List ℕ) (ks : Known) (s : ℕ) (g : Grammar) → SaysSlot root around ks s g → Sound root k around ks g → FineField g
  fine_field k around ks s (node align (num leaf)) h f = last_three f
  fine_field k around ks s (node align (octets sizing)) h f = absurd h
  fine_field k around ks s (node align (bits sizing)) h f = absurd h
  fine_field k around ks s (node align (text leaf)) h f = absurd h
  fine_field k around ks s (node align (seq _ home)) h f = absurd h
  fine_field k around ks s (node align (list sizing g)) h f = absurd h
  fine_field k around ks s (node align (choice cases rule)) h f = absurd h
  fine_field k around ks s (node align (contained sizing g)) h f = absurd h

  mutual
    scoped_node : (g : Grammar) (k : ℕ) (around : List ℕ) (ks : Known) → Sound root k around ks g → Scoped root ks g
    scoped_node (node align form) k around ks h = scoped_form form k around ks (last_three h)

    scoped_form : (form : Form) (k : ℕ) (around : List ℕ) (ks : Known) → FormSound root k around ks form → FormScoped root ks form
    scoped_form (num leaf) k around ks h = h
    scoped_form (octets sizing) k around ks h = last_two h
    scoped_form (bits sizing) k around ks h = last_two h
    scoped_form (text leaf) k around ks h = (last_two h, first_two h)
    scoped_form (seq fields home) k around ks h = ((first_two h).unknown, scoped_fields fields (suc k) (home ++ around) ks (last_two h))
    scoped_form (list sizing g) k around ks h = (second_five h, scoped_node g (suc k) around ks (last_five h), third_five h)
    scoped_form (contained sizing g) k around ks h = (second_four h, scoped_node g (suc k) around ks (last_four h))
    scoped_form (choice cases (Index width)) k around ks h = scoped_cases cases (suc k) around ks (last_four h)
    scoped_form (choice cases Tests) k around ks h =
        let rule = third_four h in
        (scoped_cases cases (suc k) around ks (last_four h), first_two rule, last_two rule)
    scoped_form (choice cases (Item s)) k around ks h =
        let f = and_parts (nat_lt 0 (length (conditions_of cases))) (all_differ same_name (map (λ c. c.0) (conditions_of cases)) && choice_rule_fine (conditions_of cases) (Item s)) (first_four h) in
        let g = and_parts (all_differ same_name (map (λ c. c.0) (conditions_of cases))) (choice_rule_fine (conditions_of cases) (Item s)) f.1 in
        (scoped_cases cases (suc k) around ks (last_four h), first_two (third_four h), ap (all_differ same_name) (names_are cases) ∙ g.0)

    scoped_fields : (fs : Fields) (k : ℕ) (around : List ℕ) (ks : Known) → FieldsSound root k around ks fs → FieldsScoped root ks fs
    scoped_fields no_fields k around ks h = tt
    scoped_fields (component name g presence default own fs) k around ks h =
        (presence_scoped ks presence (first_five h), scoped_node g k around ks (fourth_five h), scoped_fields fs k around (choose_known presence ks (with_own own (after ks g))) (last_five h))
    scoped_fields (inserted name g (Some s) fs) k around ks h = (fine_field k around ks s g (first_four h) (third_four h), scoped_fields fs k around (with_slot s ks) (last_four h))
    scoped_fields (inserted name g None fs) k around ks h = (scoped_node g k around ks (second_three h), scoped_fields fs k around ks (last_three h))

    scoped_cases : (cases : Alternatives) (k : ℕ) (around : List ℕ) (ks : Known) → AlternativesSound root k around ks cases → AlternativesScoped root ks cases
    scoped_cases no_alternatives k around ks h = tt
    scoped_cases (alternative name g tests more) k around ks h = (scoped_node g k around ks (second_three h), scoped_cases more k around ks (last_three h))

pub sound_scoped : SoundIsScoped
sound_scoped root k around ks g h = scoped_node root g k around ks h
