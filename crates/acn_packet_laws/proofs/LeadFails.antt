-- A node that fails for another reason than the want of bits has as many bits before it as lead its spellings.
use Rattle.std.proofs.Common.{◌≡◌, ℕ, ◌+◌, ◌≤◌, Bool, true, false, not, ◌&&◌, List, [], ◌∷◌, ◌++◌, length, drop, Some, None, ap, ◌∙◌, arith, nat_eq, length-append}
use Rattle.std.proofs.lemmas.List.{length-drop}
use Rattle.acn_grammar.specs.Check.{is_wide, has_no_table, is_lead, lead, form_lead, fields_lead}
use Rattle.acn_grammar.specs.Env.{Env}
use Rattle.acn_grammar.specs.Fails.{Fault, Fails, FormFails, FieldsFail, presence_count, padding_cut, fails_behind_padding, presence_cut, fails_behind_presence, fails_at_component, fails_behind_component, fails_behind_absent, fails_at_inserted, fails_behind_inserted}
use Rattle.acn_grammar.specs.Grammar.{Grammar, Form, Fields, null, node, num, octets, bits, text, seq, list, choice, contained, no_fields, component, inserted}
use Rattle.acn_grammar.specs.LeafFails.{Reason, short, CodingFails, code_cut, code_not_permitted}
use Rattle.acn_grammar.specs.Length.{flag_width}
use Rattle.acn_grammar.specs.Scoped.{Known, FineField, Scoped, FormScoped, FieldsScoped}
use Rattle.acn_grammar.specs.Spell.{with_home}
use Rattle.acn_grammar.specs.declared.node.NumCoding.{NumCoding}
use Rattle.acn_grammar.specs.declared.node.NumCoding.TheVariants.{Range, CountedFrom, CountedSigned, PosInt, Twos, Bcd, BcdEnded, Ascii, AsciiEnded, Flag, Fixed}
use Rattle.acn_grammar.specs.declared.node.NumLeaf.{NumLeaf}
use Rattle.acn_grammar.specs.declared.node.Presence.TheVariants.{Always, Bit, When}
use Rattle.acn_packet_laws.proofs.Leads.{Leads, chosen, slot_leads, node_leads}
use Rattle.acn_packet_laws.proofs.Reaches.{out}
use Rattle.std.proofs.lemmas.Bool.{leb-true, and_parts}
use Rattle.acn_packet_laws.proofs.Tuples.{first_two, last_two, second_three}

by_coding : (coding : NumCoding) (own : NumLeaf) (n : ℕ) → is_wide n coding ≡ true → (rest : List Bool) (r : Reason) (reach : ℕ) → CodingFails coding own rest r reach → (r ≡ short → ⊥) → n ≤ length rest
by_coding (Range low width) own n w rest r reach (code_cut t) s = absurd (s t.1)
by_coding (Range low width) own n w rest r reach (code_not_permitted t) s = let a = t.0 in let b = leb-true n width w in omega arith
by_coding (PosInt width) own n w rest r reach (code_cut t) s = absurd (s t.1)
by_coding (PosInt width) own n w rest r reach (code_not_permitted t) s = let a = t.0 in let b = leb-true n width w in omega arith
by_coding (Twos width) own n w rest r reach (code_cut t) s = absurd (s t.1)
by_coding (Twos width) own n w rest r reach (code_not_permitted t) s = let a = t.0 in let b = leb-true n width w in omega arith
by_coding (Flag p q) own n w rest r reach (code_cut t) s = absurd (s t.1)
by_coding (Flag p q) own n w rest r reach (code_not_permitted t) s = let a = t.0 in let b = leb-true n (flag_width p q) w in omega arith
by_coding (Fixed pattern) own n w rest r reach (code_cut t) s = absurd (s t.1)
by_coding (Fixed pattern) own n w rest r reach (code_not_permitted t) s = let a = t.0 in let b = leb-true n (length pattern) w in omega arith
by_coding (CountedFrom low) own n w rest r reach t s = cc
by_coding CountedSigned own n w rest r reach t s = cc
by_coding (Bcd width) own n w rest r reach t s = cc
by_coding BcdEnded own n w rest r reach t s = cc
by_coding (Ascii width signed) own n w rest r reach t s = cc
by_coding (AsciiEnded end signed) own n w rest r reach t s = cc

behind_far : (n : ℕ) (rest front back : List Bool) → rest ≡ front ++ back → n ≤ length back → n ≤ length rest
behind_far n rest front back e h = omega (arith, ap length e, length-append front back)

front_far : (n : ℕ) (leaf : NumLeaf) (rest front back : List Bool) → rest ≡ front ++ back → Leads n leaf front → n ≤ length rest
front_far n leaf rest front back e l = omega (arith, ap length e, length-append front back, ap length l.whole, length-append l.code l.rest, l.long)

pub field_scoped : (root : Grammar) (ks : Known) (g : Grammar) → FineField g → Scoped root ks g
field_scoped root ks (node align (num own)) f = f
field_scoped root ks (node align _) f = absurd f

module _ (root : Grammar) (n : ℕ) (leaf : NumLeaf) where
  mutual
    pub node_far : (g : Grammar) (ks : Known) → Scoped root ks g → lead n g ≡ Some leaf → (env : Env) (origin : ℕ) (path : List ℕ) (at : ℕ) (rest : List Bool) (fault : Fault) (reach : ℕ) → Fails root g env false origin path at rest fault reach → (fault.reason ≡ short → ⊥) → n ≤ length rest
    node_far (node align form) ks sc h env origin path at rest fault reach (padding_cut t) r = absurd (r (ap (λ f. f.reason) t.1))
    node_far (node align form) ks sc h env origin path at rest fault reach (fails_behind_padding t) r =
        behind_far n rest t.front t.back t.whole (form_far form ks sc (chosen (nat_eq align 1) leaf (form_lead n form) h).1 env path (origin + at) origin (at + length t.front) t.back fault t.more t.fails r)

    form_far : (form : Form) (ks : Known) → FormScoped root ks form → form_lead n form ≡ Some leaf → (env : Env) (path : List ℕ) (place origin at : ℕ) (rest : List Bool) (fault : Fault) (reach : ℕ) → FormFails root form env (out path place) origin at rest fault reach → (fault.reason ≡ short → ⊥) → n ≤ length rest
    form_far (num own) ks sc h env path place origin at rest fault reach t r =
        let p = chosen (is_lead n own) leaf (Some own) h in
        let w = and_parts (is_wide n own.coding) (not own.little && has_no_table own.table) p.0 in
        by_coding own.coding own n w.0 rest t.reason reach t.fails (λ e. r (ap (λ f. f.reason) t.says ∙ e))
    form_far (seq fields home) ks sc h env path place origin at rest fault reach (presence_cut t) r = absurd (r (ap (λ f. f.reason) t.1))
    form_far (seq fields home) ks sc h env path place origin at rest fault reach (fails_behind_presence t) r =
        let a = t.behind in
        let l = length-drop (presence_count fields) rest in
        let b = fields_far fields ks (last_two sc) (chosen (nat_eq (presence_count fields) 0) leaf (fields_lead n fields) h).1 (with_home home t.numbers env) _ path place origin 0 (at + presence_count fields) (drop (presence_count fields) rest) fault a.more a.fails r in
        omega arith
    form_far (octets sizing) ks sc h env path place origin at rest fault reach t r = cc
    form_far (bits sizing) ks sc h env path place origin at rest fault reach t r = cc
    form_far (text own) ks sc h env path place origin at rest fault reach t r = cc
    form_far (list sizing g) ks sc h env path place origin at rest fault reach t r = cc
    form_far (choice cases rule) ks sc h env path place origin at rest fault reach t r = cc
    form_far (contained sizing g) ks sc h env path place origin at rest fault reach t r = cc

    fields_far : (fs : Fields) (ks : Known) → FieldsScoped root ks fs → fields_lead n fs ≡ Some leaf → (env : Env) (flags : List Bool) (path : List ℕ) (place origin k at : ℕ) (rest : List Bool) (fault : Fault) (reach : ℕ) → FieldsFail root fs env flags (out path place) origin k at rest fault reach
        → (fault.reason ≡ short → ⊥) → n ≤ length rest
    fields_far no_fields ks sc h env flags path place origin k at rest fault reach t r = cc
    fields_far (component name g Always default own fs) ks sc h env flags path place origin k at rest fault reach (fails_behind_absent t) r = absurd (t.0 tt)
    fields_far (component name g Always default own fs) ks sc h env flags path place origin k at rest fault reach (fails_at_component t) r = node_far g ks (second_three sc) h env origin (path ++ k ∷ []) at rest fault reach t.1 r
    fields_far (component name g Always default own fs) ks sc h env flags path place origin k at rest fault reach (fails_behind_component t) r =
        let b = t.1 in
        front_far n leaf rest b.1.front b.1.back b.1.whole (node_leads root n leaf g ks (second_three sc) h env b.0 at b.1.front b.1.spelled.spelled)
    fields_far (component name g Bit default own fs) ks sc h env flags path place origin k at rest fault reach t r = cc
    fields_far (component name g (When ts) default own fs) ks sc h env flags path place origin k at rest fault reach t r = cc
    fields_far (inserted name g (Some s) fs) ks sc h env flags path place origin k at rest fault reach (fails_at_inserted f) r = node_far g ks (field_scoped root ks g (first_two sc)) h env origin (path ++ k ∷ []) at rest fault reach f r
    fields_far (inserted name g (Some s) fs) ks sc h env flags path place origin k at rest fault reach (fails_behind_inserted b) r = front_far n leaf rest b.front b.back b.whole (slot_leads root n leaf g (first_two sc) h env s at b.front b.spelled)
    fields_far (inserted name g None fs) ks sc h env flags path place origin k at rest fault reach (fails_at_inserted f) r = node_far g ks (first_two sc) h env origin (path ++ k ∷ []) at rest fault reach f r
    fields_far (inserted name g None fs) ks sc h env flags path place origin k at rest fault reach (fails_behind_inserted b) r = front_far n leaf rest b.front b.back b.whole (node_leads root n leaf g ks (first_two sc) h env null at b.front b.spelled)
