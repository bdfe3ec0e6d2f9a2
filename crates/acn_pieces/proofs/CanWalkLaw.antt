-- Values of sound nodes that meet their constraints can be walked over.
use Rattle.std.proofs.Common.{◌≡◌, ℕ, zero, suc, ◌<◌, ◌≤◌, Bool, true, false, ◌&&◌, List, [], ◌∷◌, ◌++◌, Option, Some, None, refl, sym, arith, true≢false}
use Rattle.std.specs.Prelude.{IsTrue, ℤ, ◌≤ℤ◌, nat_lt, length}
use Rattle.acn_num.specs.Ranges.{has}
use Rattle.acn_num.specs.declared.limits.TheConstants.{MOST_STEPS}
use Rattle.acn_grammar.specs.Grammar.{Grammar, Form, Fields, Alternatives, Data, Places, Elements, node, num, octets, bits, text, seq, list, choice, contained, no_fields, component, inserted, no_alternatives, alternative, record_of, list_of, alt, no_places, empty, filled, no_elements, element, element_count}
use Rattle.acn_grammar.specs.Leaves.{num_fine, set_fine}
use Rattle.acn_grammar.specs.Length.{least, number_of}
use Rattle.acn_grammar.specs.Meets.{Why, Unfit, unless, at_path, size_breach, size_out_of_range, out_of_range, breaches, form_breaches, field_breaches, alternative_breaches, run_breaches}
use Rattle.acn_grammar.specs.Scoped.{Known}
use Rattle.acn_grammar.specs.Sound.{Sound, FormSound, FieldsSound, AlternativesSound}
use Rattle.acn_grammar.specs.Tree.{is_align}
use Rattle.acn_grammar.specs.declared.node.Items.{Items}
use Rattle.acn_grammar.specs.declared.node.NumCoding.{NumCoding}
use Rattle.acn_grammar.specs.declared.node.NumKind.{NumKind}
use Rattle.acn_grammar.specs.declared.node.NumKind.TheVariants.{Integer, Boolean, Enumerated, Null}
use Rattle.acn_grammar.specs.declared.node.NumLeaf.{NumLeaf}
use Rattle.acn_grammar.specs.declared.node.Table.{Table}
use Rattle.acn_grammar.proofs.FineLeaves.{rules_of}
use Rattle.acn_grammar.proofs.HasImage.{set_ordered, Ordered}
use Rattle.acn_grammar.proofs.RangeEnds.{first_in}
use Rattle.acn_grammar.proofs.TextRules.{size_few}
use Rattle.acn_pieces.specs.CanWalk.{CanWalk, CanWalkForm, CanWalkFields, CanWalkField, CanWalkEach, CanWalkCase, HasCode, SoundValuesCanBeWalked}

some_align : (n : ℕ) → is_align n ≡ true → 0 < n
some_align zero h = cc
some_align (suc n) h = omega arith

-- a set that keeps its rules has a least number
set_there : (kind : NumKind) (coding : NumCoding) (items : Items) (table : Option Table) (set : List (ℤ × ℤ)) → set_fine kind coding items table set ≡ true → has set (least set) ≡ true
set_there Integer coding items table [] h = cc
set_there Boolean coding items table [] h = cc
set_there Enumerated coding items table [] h = absurd (none (nat_lt 0 (length items.items)) h)
  where
    none : (b : Bool) → (b && false) ≡ true → ⊥
    none true h = cc
    none false h = cc
set_there Null coding items table [] h = cc
set_there kind coding items table (r ∷ rs) h = first_in r rs (below (set_ordered kind coding items table (r ∷ rs) h))
  where
    below : Ordered (r ∷ rs) → r.0 ≤ℤ r.1
    below o = o.0

pub least_in : (leaf : NumLeaf) → IsTrue (num_fine leaf) → has leaf.set (least leaf.set) ≡ true
least_in leaf fine = set_there leaf.kind leaf.coding leaf.items leaf.table leaf.set (rules_of leaf fine).set

front_none : (a b : List Unfit) → a ++ b ≡ [] → a ≡ []
front_none [] b e = refl
front_none (x ∷ a) b e = cc

back_none : (a b : List Unfit) → a ++ b ≡ [] → b ≡ []
back_none [] b e = e
back_none (x ∷ a) b e = cc

is_in : (path : List ℕ) (b : Bool) (why : Why) → at_path path (unless b why) ≡ [] → b ≡ true
is_in path true why e = refl
is_in path false why e = cc

both_first : (a b : Bool) → (a && b) ≡ true → a ≡ true
both_first true b h = refl
both_first false b h = h

module _ (root : Grammar) where
  has_code : (g : Grammar) (k : ℕ) (around : List ℕ) (ks : Known) → Sound root k around ks g → HasCode g
  has_code (node align (num leaf)) k around ks s = (some_align align s.0, s.2, least_in leaf s.2)
  has_code (node align (octets sizing)) k around ks s = tt
  has_code (node align (bits sizing)) k around ks s = tt
  has_code (node align (text leaf)) k around ks s = tt
  has_code (node align (seq fields home)) k around ks s = tt
  has_code (node align (list sizing g)) k around ks s = tt
  has_code (node align (choice cases rule)) k around ks s = tt
  has_code (node align (contained sizing g)) k around ks s = tt

  deep : (g : Grammar) (k : ℕ) (around : List ℕ) (ks : Known) → Sound root k around ks g → k ≤ MOST_STEPS
  deep (node align form) k around ks s = s.1

  field_can : (g : Grammar) (k : ℕ) (around : List ℕ) (ks : Known) → Sound root k around ks g → CanWalkField k g
  field_can g k around ks s = (deep g k around ks s, has_code g k around ks s)

  each_can : (g : Grammar) (k : ℕ) → ((path : List ℕ) (d : Data) → breaches path g d ≡ [] → CanWalk k g d) → (path : List ℕ) (n : ℕ) (es : Elements) → run_breaches (λ k d. breaches (path ++ k ∷ []) g d) n es ≡ [] → CanWalkEach (CanWalk k g) es
  each_can g k h path n no_elements e = tt
  each_can g k h path n (element d es) e =
      let here = breaches (path ++ n ∷ []) g d in
      let rest = run_breaches (λ k d. breaches (path ++ k ∷ []) g d) (suc n) es in
      (h (path ++ n ∷ []) d (front_none here rest e), each_can g k h path (suc n) es (back_none here rest e))

  mutual
    node_can : (g : Grammar) (k : ℕ) (around : List ℕ) (ks : Known) → Sound root k around ks g → (path : List ℕ) (d : Data) → breaches path g d ≡ [] → CanWalk k g d
    node_can (node align form) k around ks s path d e = (some_align align s.0, s.1, form_can form k around ks s.2 path d e)

    form_can : (form : Form) (k : ℕ) (around : List ℕ) (ks : Known) → FormSound root k around ks form → (path : List ℕ) (d : Data) → form_breaches path form d ≡ [] → CanWalkForm k form d
    form_can (num leaf) k around ks s path d e = (s, is_in path (has leaf.set (number_of d)) (out_of_range (number_of d)) e)
    form_can (seq fields home) k around ks s path (record_of ps) e = (s.0.few_fields, fields_can fields (suc k) (home ++ around) ks s.1 path 0 ps e)
    form_can (list sizing g) k around ks s path (list_of es) e =
        let size = at_path path (size_breach sizing (element_count es)) in
        let rest = run_breaches (λ n d. breaches (path ++ n ∷ []) g d) 0 es in (
          size_few sizing.sizes (element_count es) (both_first _ _ s.0) (is_in path _ (size_out_of_range (element_count es)) (front_none size rest e)),
          each_can g (suc k) (λ p d b. node_can g (suc k) around ks s.4 p d b) path 0 es (back_none size rest e),
        )
    form_can (choice cases rule) k around ks s path (alt i d) e = case_can cases (suc k) around ks s.3 path i i d e
    form_can (contained sizing g) k around ks s path d e = node_can g (suc k) around ks s.3 (path ++ 0 ∷ []) d e
    form_can _ k around ks s path d e = tt

    fields_can : (fs : Fields) (k : ℕ) (around : List ℕ) (ks : Known) → FieldsSound root k around ks fs → (path : List ℕ) (n : ℕ) (ps : Places) → field_breaches path n fs ps ≡ [] → CanWalkFields k fs ps
    fields_can no_fields k around ks s path n ps e = tt
    fields_can (component name g presence default own fs) k around ks s path n (filled d ps) e =
        let here = breaches (path ++ n ∷ []) g d in
        let rest = field_breaches path (suc n) fs ps in
        (node_can g k around ks s.3 (path ++ n ∷ []) d (front_none here rest e), fields_can fs k around _ s.4 path (suc n) ps (back_none here rest e))
    fields_can (component name g presence default own fs) k around ks s path n (empty ps) e = fields_can fs k around _ s.4 path (suc n) ps e
    fields_can (component name g presence default own fs) k around ks s path n no_places e = tt
    fields_can (inserted name g (Some slot) fs) k around ks s path n ps e = (field_can g k around ks s.2, fields_can fs k around _ s.3 path (suc n) ps e)
    fields_can (inserted name g None fs) k around ks s path n ps e = (field_can g k around ks s.1, fields_can fs k around _ s.2 path (suc n) ps e)

    case_can : (cases : Alternatives) (k : ℕ) (around : List ℕ) (ks : Known) → AlternativesSound root k around ks cases → (path : List ℕ) (i j : ℕ) (d : Data) → alternative_breaches path i cases j d ≡ [] → CanWalkCase k cases j d
    case_can (alternative name g tests more) k around ks s path i zero d e = node_can g k around ks s.1 (path ++ i ∷ []) d e
    case_can (alternative name g tests more) k around ks s path i (suc j) d e = case_can more k around ks s.2 path i j d e
    case_can no_alternatives k around ks s path i j d e = tt

pub sound_values_can : SoundValuesCanBeWalked
sound_values_can root k around ks g s d m = node_can root g k around ks s [] d m.none
