-- In a sound node every slot's leaf has one width, so a spelling has the length that is told.
use Rattle.std.proofs.Common.{◌≡◌, ℕ, suc, ℤ, pos, List, [], ◌∷◌, ◌++◌, length, true, false, Some, None, refl, sym, ap, ◌∙◌, arith, ◌&&◌, IsTrue}
use Rattle.std.proofs.lemmas.Bool.{or_left, and_parts}
use Rattle.std.specs.Prelude.{◌≤ℤ◌, int_le}
use Rattle.std.proofs.lemmas.Int.{ints}
use Rattle.acn_num.specs.Ranges.{In, has}
use Rattle.acn_grammar.specs.Check.{HasWidth, NodeAt}
use Rattle.acn_grammar.specs.Code.{Any}
use Rattle.acn_grammar.specs.Grammar.{Grammar, Form, Fields, Alternatives, node, num, octets, bits, text, seq, list, choice, contained, no_fields, component, inserted, no_alternatives, alternative}
use Rattle.acn_grammar.specs.Leaves.{num_fine, is_range, no_items}
use Rattle.acn_grammar.specs.Length.{num_length, least}
use Rattle.acn_grammar.specs.Scoped.{Known, after, choose_known, with_own, with_slot}
use Rattle.acn_grammar.specs.Sound.{OneWidth as SlotWidth, IsNull, Sound, FormSound, FieldsSound, AlternativesSound}
use Rattle.acn_grammar.specs.Walk.{Stand}
use Rattle.acn_grammar.specs.declared.node.NumKind.TheVariants.{Null}
use Rattle.acn_grammar.specs.declared.node.NumLeaf.{NumLeaf}
use Rattle.acn_grammar.proofs.FineLeaves.{rules_of}
use Rattle.acn_grammar.proofs.LeafLengths.{code-length}
use Rattle.acn_grammar.proofs.SpellLength.{OneWidth, Steady, SteadyForm, SteadyLeaf, SteadyFields, SteadyAlternatives}
use Rattle.acn_packet_laws.specs.Laws.{IsAccepted, LengthsAreTold, EachLengthIsTold}
use Rattle.acn_packet_laws.proofs.Codes.{each_number_has_a_code}
use Rattle.acn_packet_laws.proofs.LengthLaw.{length_law}
use Rattle.acn_packet_laws.proofs.SoundLaws.{accepted_sound_nodes}
use Rattle.acn_packet_laws.proofs.SoundNodes.{each_node_sound}
use Rattle.acn_packet_laws.proofs.Tuples.{first_three, second_three, second_four, third_four, fourth_five, last_two, last_three, last_four, last_five}
use Rattle.acn_grammar.proofs.HasImage.{set_ordered, range_within, Ordered}
use Rattle.acn_grammar.proofs.WholeTests.{le_test}

-- Leaves of one width.

pub least_there : (set : List (ℤ × ℤ)) (x : ℤ) → Ordered set → has set x ≡ true → has set (least set) ≡ true
least_there [] x o h = cc
least_there (r ∷ rs) x o h = or_left (int_le r.0 r.0 && int_le r.0 r.1) (has rs r.0) (rw (le_test r.0 r.0 (omega (arith, ints)), le_test r.0 r.1 o.0) refl)

-- all codes of one length
one_width : (leaf : NumLeaf) → IsTrue (num_fine leaf) → (w : ℕ) → HasWidth leaf w → OneWidth leaf
one_width leaf fine w h x p = length_is x p ∙ sym (length_is (least leaf.set) (least_there leaf.set x (set_ordered leaf.kind leaf.coding leaf.items leaf.table leaf.set (rules_of leaf fine).set) p))
  where
    length_is : (z : ℤ) → In leaf.set z → num_length leaf z ≡ w
    length_is z q = let c = each_number_has_a_code Any leaf fine z q in sym (code-length Any leaf fine z c.0 c.1) ∙ h z c.0 c.1

-- a NULL has one number
null_width : (leaf : NumLeaf) → IsTrue (num_fine leaf) → leaf.kind ≡ Null → OneWidth leaf
null_width leaf fine k x p =
    let r = rules_of leaf fine in
    let set = rw k at r.set in
    let f = and_parts (is_range (pos 0) (pos 0) leaf.set) (no_items leaf.items) set in
    let one = range_within (pos 0) (pos 0) leaf.set x f.0 p in
    let two = range_within (pos 0) (pos 0) leaf.set (least leaf.set) f.0 (least_there leaf.set x (set_ordered leaf.kind leaf.coding leaf.items leaf.table leaf.set r.set) p) in
    ap (num_length leaf) (same x (least leaf.set) one.0 one.1 two.0 two.1)
  where
    same : (x y : ℤ) → pos 0 ≤ℤ x → x ≤ℤ pos 0 → pos 0 ≤ℤ y → y ≤ℤ pos 0 → x ≡ y
    same x y a b c d = omega (arith, ints)

-- From what a sound node keeps.

module _ (root : Grammar) where
  slot_steady : (k : ℕ) (around : List ℕ) (ks : Known) (g : Grammar) → Sound root k around ks g → SlotWidth g → SteadyLeaf g
  slot_steady k around ks (node align (num leaf)) h w = (last_three h, one_width leaf (last_three h) w.width w.all_codes)
  slot_steady k around ks (node align _) h w = absurd w

  null_steady : (k : ℕ) (around : List ℕ) (ks : Known) (g : Grammar) → Sound root k around ks g → IsNull g → SteadyLeaf g
  null_steady k around ks (node align (num leaf)) h n = (last_three h, null_width leaf (last_three h) n)
  null_steady k around ks (node align _) h n = absurd n

  mutual
    pub sound_steady : (g : Grammar) (k : ℕ) (around : List ℕ) (ks : Known) → Sound root k around ks g → Steady g
    sound_steady (node align form) k around ks h = form_steady form k around ks (last_three h)

    form_steady : (form : Form) (k : ℕ) (around : List ℕ) (ks : Known) → FormSound root k around ks form → SteadyForm form
    form_steady (num leaf) k around ks h = h
    form_steady (octets sizing) k around ks h = tt
    form_steady (bits sizing) k around ks h = tt
    form_steady (text leaf) k around ks h = tt
    form_steady (seq fields home) k around ks h = fields_steady fields (suc k) (home ++ around) ks (last_two h)
    form_steady (list sizing g) k around ks h = sound_steady g (suc k) around ks (last_five h)
    form_steady (contained sizing g) k around ks h = sound_steady g (suc k) around ks (last_four h)
    form_steady (choice cases rule) k around ks h = cases_steady cases (suc k) around ks (last_four h)

    fields_steady : (fs : Fields) (k : ℕ) (around : List ℕ) (ks : Known) → FieldsSound root k around ks fs → SteadyFields fs
    fields_steady no_fields k around ks h = tt
    fields_steady (component name g presence default own fs) k around ks h = (sound_steady g k around ks (fourth_five h), fields_steady fs k around (choose_known presence ks (with_own own (after ks g))) (last_five h))
    fields_steady (inserted name g (Some s) fs) k around ks h = (slot_steady k around ks g (third_four h) (second_four h), fields_steady fs k around (with_slot s ks) (last_four h))
    fields_steady (inserted name g None fs) k around ks h = (null_steady k around ks g (second_three h) (first_three h), fields_steady fs k around ks (last_three h))

    cases_steady : (cases : Alternatives) (k : ℕ) (around : List ℕ) (ks : Known) → AlternativesSound root k around ks cases → SteadyAlternatives cases
    cases_steady no_alternatives k around ks h = tt
    cases_steady (alternative name g tests more) k around ks h = (sound_steady g k around ks (second_three h), cases_steady more k around ks (last_three h))

pub root_steady : (root : Grammar) → IsAccepted root → Steady root
root_steady root a = sound_steady root root 0 [] (λ s. false) (accepted_sound_nodes root a)

pub steady_at : (root : Grammar) (k : ℕ) (here : Stand) → IsAccepted root → NodeAt root k here → Steady (node here.align here.form)
steady_at root k here a is = (let h = each_node_sound root k here a is in sound_steady root (node here.align here.form) (length here.path) here.around h.known h.sound)

pub lengths_told : LengthsAreTold
lengths_told root mode d bs accepted t = length_law root mode root (root_steady root accepted) [] d 0 bs t

pub each_length_told : EachLengthIsTold
each_length_told root k here mode env d at bs accepted is_at t = length_law root mode (node here.align here.form) (steady_at root k here accepted is_at) env d at bs t
