-- A value that begins later doesn't end earlier.
use Rattle.std.proofs.Common.{◌≡◌, ℕ, zero, suc, ◌+◌, ◌-◌, ◌*◌, ◌/◌, ◌%◌, ◌<◌, ◌≤◌, Bool, List, length, Option, Some, None, refl, ap, ◌∙◌, arith, inl, inr, ◌⊎◌}
use Rattle.std.proofs.Math.Nat.{div-add-mod, mod-lt, mod_self, mod-eq_of_lt, mul-le-mul_left, mul-suc}
use Rattle.acn_grammar.specs.Grammar.{Grammar, Form, Fields, Alternatives, Data, Places, Elements, node, num, octets, bits, text, seq, list, choice, contained, component, inserted, no_alternatives, alternative, octet_string, bit_string, characters, record_of, list_of, alt, empty, filled, no_elements, element}
use Rattle.acn_grammar.specs.Length.{padding, bit_length, form_length, fields_length, alternative_length, run_length, list_length, inserted_length, presence_bits, rule_width, index_width, ending}
use Rattle.acn_grammar.specs.declared.node.SizeRule.{SizeRule}
use Rattle.acn_grammar.proofs.SpanLaw.{Fine, FormFine, FieldsFine, AlternativesFine}
use Rattle.acn_packet_laws.specs.Laws.{LaterStartsEndLater}
use Rattle.acn_packet_laws.proofs.FineNodes.{fine_at}
use Rattle.acn_packet_laws.proofs.Tuples.{last_two}
use Rattle.acn_grammar.proofs.FirstPlaces.{less_or_not}

-- Padding.

-- a position that is a multiple has none, and every other as many bits as it lacks
padding_is : (a at : ℕ) → 0 < a → ((at % a ≡ 0) × (padding a at ≡ 0)) ⊎ ((0 < at % a) × (padding a at + at % a ≡ a))
padding_is a at h = by (at % a) refl
  where
    by : (r : ℕ) → at % a ≡ r → ((at % a ≡ 0) × (padding a at ≡ 0)) ⊎ ((0 < at % a) × (padding a at + at % a ≡ a))
    by zero e =
        let whole : a - at % a ≡ a = omega arith in
        inl (e, ap (λ x. x % a) whole ∙ mod_self a)
    by (suc r) e =
        let below = mod-lt at {m = a} h in
        let few : a - at % a < a = omega arith in
        let is = mod-eq_of_lt few in
        inr (omega arith, omega arith)

grow : (a q r s t x y : ℕ) → a * q + r ≤ a * t + s → s < a → ((r ≡ 0) × (x ≡ 0)) ⊎ ((0 < r) × (x + r ≡ a)) → ((s ≡ 0) × (y ≡ 0)) ⊎ ((0 < s) × (y + s ≡ a)) → a * q + r + x ≤ a * t + s + y
grow a q r s t x y h k p o = by (less_or_not t q) p o
  where
    by : (t < q) ⊎ (q ≤ t) → ((r ≡ 0) × (x ≡ 0)) ⊎ ((0 < r) × (x + r ≡ a)) → ((s ≡ 0) × (y ≡ 0)) ⊎ ((0 < s) × (y + s ≡ a)) → a * q + r + x ≤ a * t + s + y
    by (inl l) u v =
        let m = mul-le-mul_left {m = suc t} {n = q} a l in
        let n = mul-suc a t in
        absurd (omega arith)
    by (inr l) (inl u) v = omega (arith, u.0, u.1)
    by (inr l) (inr u) (inr v) =
        let m = mul-le-mul_left {m = q} {n = t} a l in
        omega (arith, u.1, v.1)
    by (inr l) (inr u) (inl v) = strict (less_or_not q t)
      where
        strict : (q < t) ⊎ (t ≤ q) → a * q + r + x ≤ a * t + s + y
        strict (inl g) =
            let m = mul-le-mul_left {m = suc q} {n = t} a g in
            let n = mul-suc a q in
            omega (arith, u.1)
        strict (inr g) =
            let m = mul-le-mul_left {m = t} {n = q} a g in
            absurd (omega (arith, u.0, v.0))

abbrev Grows : (ℕ → ℕ) → Type 0
Grows f = (a b : ℕ) → a ≤ b → a + f a ≤ b + f b

padding_grows : (a : ℕ) → 0 < a → Grows (padding a)
padding_grows a h at later l =
    let one = div-add-mod at a in
    let two = div-add-mod later a in
    let g = grow a (at / a) (at % a) (later % a) (later / a) (padding a at) (padding a later) (omega arith) (mod-lt later {m = a} h) (padding_is a at h) (padding_is a later h) in
    omega arith

-- one behind another
after : (f g : ℕ → ℕ) → Grows f → Grows g → Grows (λ n. f n + g (n + f n))
after f g p q a b l =
    let one = p a b l in
    let two = q (a + f a) (b + f b) one in
    omega arith

same : (n : ℕ) → Grows (λ at. n)
same n a b l = omega arith

run_grows : (each : ℕ → Data → ℕ) → ((d : Data) → Grows (λ at. each at d)) → (es : Elements) → Grows (λ at. run_length each at es)
run_grows each h no_elements = same 0
run_grows each h (element d es) = after (λ at. each at d) (λ at. run_length each at es) (h d) (run_grows each h es)

list_grows : (end : Option (List Bool)) (rule : SizeRule) (each : ℕ → Data → ℕ) → ((d : Data) → Grows (λ at. each at d)) → (es : Elements) → Grows (λ at. list_length end rule each at es)
list_grows None rule each h es = after (λ at. rule_width rule) (λ at. run_length each at es) (same (rule_width rule)) (run_grows each h es)
list_grows (Some p) rule each h es = after (λ at. run_length each at es) (λ at. length p) (run_grows each h es) (same (length p))

inserted_grows : (g : Grammar) → Fine g → Grows (inserted_length g)
inserted_grows (node align (num leaf)) f = after (padding align) (λ at. _) (padding_grows align f.0) (same _)
inserted_grows (node align (octets sizing)) f = same 0
inserted_grows (node align (bits sizing)) f = same 0
inserted_grows (node align (text leaf)) f = same 0
inserted_grows (node align (seq _ home)) f = same 0
inserted_grows (node align (list sizing g)) f = same 0
inserted_grows (node align (choice cases rule)) f = same 0
inserted_grows (node align (contained sizing g)) f = same 0

mutual
  node_grows : (g : Grammar) → Fine g → (d : Data) → Grows (λ at. bit_length g at d)
  node_grows (node align form) f d = after (padding align) (λ at. form_length form at d) (padding_grows align f.0) (form_grows form (last_two f) d)

  form_grows : (form : Form) → FormFine form → (d : Data) → Grows (λ at. form_length form at d)
  form_grows (num leaf) f d = same _
  form_grows (octets sizing) f (octet_string os) = same _
  form_grows (bits sizing) f (bit_string cs) = same _
  form_grows (text leaf) f (characters cs) = same _
  form_grows (seq fields home) f (record_of ps) = after (λ at. length (presence_bits fields ps)) (λ at. fields_length fields at ps) (same (length (presence_bits fields ps))) (fields_grow fields f ps)
  form_grows (list sizing g) f (list_of es) = list_grows (ending sizing.rule) sizing.rule (bit_length g) (node_grows g (last_two f)) es
  form_grows (choice cases rule) f (alt i d) = after (λ at. index_width rule) (λ at. alternative_length cases i at d) (same (index_width rule)) (case_grows cases f i d)
  form_grows (contained sizing g) f d = same _
  form_grows _ f d = same 0

  fields_grow : (fs : Fields) → FieldsFine fs → (ps : Places) → Grows (λ at. fields_length fs at ps)
  fields_grow (component name g presence default own fs) f (filled d ps) = after (λ at. bit_length g at d) (λ at. fields_length fs at ps) (node_grows g f.0 d) (fields_grow fs f.1 ps)
  fields_grow (component name g presence default own fs) f (empty ps) = fields_grow fs f.1 ps
  fields_grow (inserted name g slot fs) f ps = after (inserted_length g) (λ at. fields_length fs at ps) (inserted_grows g f.0) (fields_grow fs f.1 ps)
  fields_grow _ f ps = same 0

  case_grows : (cases : Alternatives) → AlternativesFine cases → (i : ℕ) (d : Data) → Grows (λ at. alternative_length cases i at d)
  case_grows (alternative name g tests more) f zero d = node_grows g f.0 d
  case_grows (alternative name g tests more) f (suc i) d = case_grows more f.1 i d
  case_grows no_alternatives f i d = same 0

pub later_starts_end_later : LaterStartsEndLater
later_starts_end_later root k here d at later tree is l = node_grows (node here.align here.form) (fine_at root k here tree is) d at later l
