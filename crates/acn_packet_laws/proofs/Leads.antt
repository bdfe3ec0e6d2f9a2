-- Every spelling of a node begins with a code of its lead.
use Rattle.std.proofs.Common.{◌≡◌, ℕ, zero, suc, ◌+◌, ◌<◌, ◌≤◌, ℤ, Bool, true, false, not, ◌&&◌, List, [], ◌∷◌, ◌++◌, length, take, Option, Some, None, refl, sym, ap, ◌∙◌, arith, append_assoc, subst, nat_eq, IsTrue}
use Rattle.std.specs.Prelude.{if◌then◌else◌}
use Rattle.std.proofs.lemmas.Bool.Decides.{nat_tests}
use Rattle.acn_grammar.specs.Check.{is_wide, has_no_table, is_lead, lead, form_lead, fields_lead, LeadAmbiguous}
use Rattle.acn_grammar.specs.Code.{Any, Code}
use Rattle.acn_grammar.specs.Env.{Env}
use Rattle.acn_grammar.specs.Fails.{presence_count}
use Rattle.acn_grammar.specs.Grammar.{Grammar, Form, Fields, Data, Places, node, num, octets, bits, text, seq, list, choice, contained, no_fields, component, inserted, null, record_of, no_places, empty, filled}
use Rattle.acn_grammar.specs.Leaves.{num_fine}
use Rattle.acn_grammar.specs.Length.{coding_length, presence_bits}
use Rattle.acn_grammar.specs.Scoped.{Known, FineField, Scoped, FormScoped, FieldsScoped}
use Rattle.acn_grammar.specs.Spell.{Part, ◌then◌, Padding, Spell, FormPart, FieldsPart, SlotField}
use Rattle.acn_grammar.specs.declared.node.NumLeaf.{NumLeaf}
use Rattle.acn_grammar.specs.declared.node.NumCoding.{NumCoding}
use Rattle.acn_grammar.specs.declared.node.NumCoding.TheVariants.{Range, CountedFrom, CountedSigned, PosInt, Twos, Bcd, BcdEnded, Ascii, AsciiEnded, Flag, Fixed}
use Rattle.acn_grammar.specs.declared.node.Presence.TheVariants.{Always, Bit, When}
use Rattle.acn_grammar.proofs.FineLeaves.{rules_of}
use Rattle.acn_grammar.proofs.LeafLengths.{limits_of, coding-length}
use Rattle.std.proofs.lemmas.Bool.{and_parts}

-- the bits begin with a code of at least n bits
pub record Leads (n : ℕ) (leaf : NumLeaf) (bs : List Bool) : Type 0 where
  pub number : ℤ
  pub code : List Bool
  pub rest : List Bool
  pub whole : bs ≡ code ++ rest
  pub codes : Code Any leaf number code
  pub long : n ≤ length code

wide_long : (n : ℕ) (coding : NumCoding) (y : ℤ) → is_wide n coding ≡ true → n ≤ coding_length coding y
wide_long n (Range low width) y h = grind (arith, nat_tests)
wide_long n (PosInt width) y h = grind (arith, nat_tests)
wide_long n (Twos width) y h = grind (arith, nat_tests)
wide_long n (Flag ones zeros) y h = grind (arith, nat_tests)
wide_long n (Fixed pattern) y h = grind (arith, nat_tests)
wide_long n (CountedFrom low) y h = cc
wide_long n CountedSigned y h = cc
wide_long n (Bcd width) y h = cc
wide_long n BcdEnded y h = cc
wide_long n (Ascii width signed) y h = cc
wide_long n (AsciiEnded end signed) y h = cc

pub chosen : {A : Type 0} (b : Bool) (x : A) (o : Option A) → (if b then o else None) ≡ Some x → (b ≡ true) × (o ≡ Some x)
chosen true x o h = (refl, h)
chosen false x o h = cc

none_long : (bs : List Bool) → length bs < 1 → bs ≡ []
none_long [] h = refl
none_long (b ∷ bs) h = absurd (omega arith)

one_is : (n : ℕ) → nat_eq n 1 ≡ true → n ≡ 1
one_is n h = grind (arith, nat_tests)

pub zero_is : (n : ℕ) → nat_eq n 0 ≡ true → n ≡ 0
zero_is n h = grind (arith, nat_tests)

-- nothing stands before a node that isn't aligned
unpadded : {P : Part} (align at : ℕ) (bs : List Bool) → nat_eq align 1 ≡ true → (t : (Padding Any align then P) at bs) → bs ≡ t.back
unpadded align at bs one t =
    let is = one_is align one in
    let few = t.first.fewest in
    t.whole ∙ ap (λ x. x ++ t.back) (none_long t.front (omega arith))

-- what leads the front leads the whole
leads_on : (n : ℕ) (leaf : NumLeaf) (bs front back : List Bool) → bs ≡ front ++ back → Leads n leaf front → Leads n leaf bs
leads_on n leaf bs front back e l = record { number = l.number; code = l.code; rest = l.rest ++ back; whole = e ∙ (ap (λ x. x ++ back) l.whole ∙ append_assoc l.code l.rest back); codes = l.codes; long = l.long }

leads_same : (n : ℕ) (leaf : NumLeaf) (bs back : List Bool) → bs ≡ back → Leads n leaf back → Leads n leaf bs
leads_same n leaf bs back e l = rw e l

code_leads : (n : ℕ) (own leaf : NumLeaf) → IsTrue (num_fine own) → (if is_lead n own then Some own else None) ≡ Some leaf → (x : ℤ) (bs : List Bool) → Code Any own x bs → Leads n leaf bs
code_leads n own leaf fine h x bs c =
    let p = chosen (is_lead n own) leaf (Some own) h in
    let w = and_parts (is_wide n own.coding) (not own.little && has_no_table own.table) p.0 in
    let l = coding-length own.coding own.little Any c.image bs (rules_of own fine).coding (limits_of own x c.image fine c.permitted c.maps) c.spelled in
    let more = wide_long n own.coding c.image w.0 in
    let is : own ≡ leaf = cc in
    let here : Leads n own bs = record { number = x; code = bs; rest = []; whole = all_of bs; codes = c; long = omega arith } in
    subst (λ (z : NumLeaf). Leads n z bs) is here
  where
    all_of : (bs : List Bool) → bs ≡ bs ++ []
    all_of [] = refl
    all_of (b ∷ bs) = ap (λ x. b ∷ x) (all_of bs)

no_bits : (fs : Fields) (ps : Places) → presence_count fs ≡ 0 → presence_bits fs ps ≡ []
no_bits no_fields ps h = refl
no_bits (component name g Always default own fs) (filled d ps) h = no_bits fs ps h
no_bits (component name g Always default own fs) (empty ps) h = no_bits fs ps h
no_bits (component name g Always default own fs) no_places h = refl
no_bits (component name g (When ts) default own fs) (filled d ps) h = no_bits fs ps h
no_bits (component name g (When ts) default own fs) (empty ps) h = no_bits fs ps h
no_bits (component name g (When ts) default own fs) no_places h = refl
no_bits (component name g Bit default own fs) ps h = absurd (omega arith)
no_bits (inserted name g slot fs) ps h = no_bits fs ps h

module _ (root : Grammar) (n : ℕ) (leaf : NumLeaf) where
  pub slot_leads : (g : Grammar) → FineField g → lead n g ≡ Some leaf → (env : Env) (s at : ℕ) (bs : List Bool) → SlotField root Any g env s at bs → Leads n leaf bs
  slot_leads (node align (num own)) fine h env s at bs t =
      let p = chosen (nat_eq align 1) leaf (form_lead n (num own)) h in
      leads_same n leaf bs t.2.back (unpadded align at bs p.0 t.2) (code_leads n own leaf fine p.1 t.0 t.2.back t.2.second)
  slot_leads (node align _) fine h env s at bs t = absurd fine

  mutual
    pub node_leads : (g : Grammar) (ks : Known) → Scoped root ks g → lead n g ≡ Some leaf → (env : Env) (d : Data) (at : ℕ) (bs : List Bool) → Spell root Any g env d at bs → Leads n leaf bs
    node_leads (node align form) ks fine h env d at bs t =
        let p = chosen (nat_eq align 1) leaf (form_lead n form) h in
        leads_same n leaf bs t.back (unpadded align at bs p.0 t) (form_leads form ks fine p.1 env d (at + length t.front) t.back t.second)

    form_leads : (form : Form) (ks : Known) → FormScoped root ks form → form_lead n form ≡ Some leaf → (env : Env) (d : Data) (at : ℕ) (bs : List Bool) → FormPart root Any form env d at bs → Leads n leaf bs
    form_leads (num own) ks fine h env d at bs t = code_leads n own leaf fine h t.0 bs t.2
    form_leads (seq fields home) ks fine h env (record_of ps) at bs t =
        let p = chosen (nat_eq (presence_count fields) 0) leaf (fields_lead n fields) h in
        let none = t.spelled.first ∙ no_bits fields ps (zero_is (presence_count fields) p.0) in
        leads_same n leaf bs t.spelled.back (t.spelled.whole ∙ ap (λ x. x ++ t.spelled.back) none) (fields_leads fields ks fine.1 p.1 _ ps _ t.spelled.back t.spelled.second)
    form_leads (seq fields home) ks fine h env _ at bs t = absurd t.0
    form_leads (octets sizing) ks fine h env d at bs t = cc
    form_leads (bits sizing) ks fine h env d at bs t = cc
    form_leads (text own) ks fine h env d at bs t = cc
    form_leads (list sizing g) ks fine h env d at bs t = cc
    form_leads (choice cases rule) ks fine h env d at bs t = cc
    form_leads (contained sizing g) ks fine h env d at bs t = cc

    fields_leads : (fs : Fields) (ks : Known) → FieldsScoped root ks fs → fields_lead n fs ≡ Some leaf → (env : Env) (ps : Places) (at : ℕ) (bs : List Bool) → FieldsPart root Any fs env ps at bs → Leads n leaf bs
    fields_leads no_fields ks fine h env ps at bs t = cc
    fields_leads (component name g Always default own fs) ks fine h env (filled d ps) at bs t =
        leads_on n leaf bs t.front t.back t.whole (node_leads g ks fine.1 h env d at t.front t.first.spelled)
    fields_leads (component name g Always default own fs) ks fine h env (empty ps) at bs t = absurd t.given
    fields_leads (component name g Always default own fs) ks fine h env no_places at bs t = absurd t.0
    fields_leads (component name g Bit default own fs) ks fine h env ps at bs t = cc
    fields_leads (component name g (When ts) default own fs) ks fine h env ps at bs t = cc
    fields_leads (inserted name g (Some s) fs) ks fine h env ps at bs t = leads_on n leaf bs t.front t.back t.whole (slot_leads g fine.0 h env s at t.front t.first)
    fields_leads (inserted name g None fs) ks fine h env ps at bs t = leads_on n leaf bs t.front t.back t.whole (node_leads g ks fine.0 h env null at t.front t.first)

take_less : (n : ℕ) (a b : List Bool) → n ≤ length a → take n (a ++ b) ≡ take n a
take_less zero a b h = refl
take_less (suc n) [] b h = absurd (omega arith)
take_less (suc n) (x ∷ a) b h = ap (λ l. x ∷ l) (take_less n a b (omega arith))

-- no spelling of an element begins with the pattern that ends its list
pub not_begun : (root : Grammar) (p : List Bool) (g : Grammar) (ks : Known) → Scoped root ks g → (LeadAmbiguous p (lead (length p) g) → ⊥) → (env : Env) (d : Data) (at : ℕ) (bs r : List Bool)
    → Spell root Any g env d at bs → take (length p) (bs ++ r) ≡ p → ⊥
not_begun root p g ks fine told env d at bs r t e = by (lead (length p) g) refl told
  where
    by : (o : Option NumLeaf) → lead (length p) g ≡ o → (LeadAmbiguous p o → ⊥) → ⊥
    by None is h = h tt
    by (Some leaf) is h =
        let l = node_leads root (length p) leaf g ks fine is env d at bs t in
        let far = take_less (length p) l.code (l.rest ++ r) l.long in
        h (record { number = l.number; code = l.code; codes = l.codes; begins = sym far ∙ (ap (take (length p)) (sym (append_assoc l.code l.rest r) ∙ ap (λ x. x ++ r) (sym l.whole)) ∙ e) })
