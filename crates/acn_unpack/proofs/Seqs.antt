-- Fields among steps.
use Rattle.std.proofs.Common.{◌≡◌, ℕ, suc, ◌<◌, ◌≤◌, List, [], ◌++◌, length, filter, not, take, Option, Some, None, sym, ap, ◌∙◌, arith, subst, Bool, length-append}
use Rattle.std.proofs.lemmas.List.{length-take-le}
use Rattle.acn_bits.specs.Reading.{Reading, passed, window_of}
use Rattle.acn_grammar.specs.Env.{Env}
use Rattle.acn_grammar.specs.Fails.{Here, presence_count, seen}
use Rattle.acn_grammar.specs.Grammar.{Grammar, Fields, Data, seq, no_fields, record_of, component, inserted}
use Rattle.acn_grammar.specs.LeafFails.{Reason, short}
use Rattle.acn_grammar.specs.Tree.{holds}
use Rattle.acn_grammar.specs.ItemsNamed.{ItemsNamed, FieldsItemsNamed}
use Rattle.acn_grammar.specs.declared.limits.TheConstants.{MOST_OPEN_SLOTS}
use Rattle.acn_grammar.specs.View.{places_of, OneField, a_component, an_inserted, with_field}
use Rattle.acn_grammar.specs.declared.node.Presence.{Presence}
use Rattle.acn_grammar.specs.declared.node.Presence.TheVariants.{Always, Bit, When}
use Rattle.acn_reads.proofs.Loops.{head_named}
use Rattle.acn_reads.specs.Decoded.{FormStands, FieldsStand, Fine, Turn, FieldsStop, FormRead, FormStops}
use Rattle.acn_reads.proofs.Turns.{seq_read, seq_fails, seq_short, inside_stands}
use Rattle.acn_plan.specs.Back.{field_by}
use Rattle.acn_plan.specs.declared.step.Place.{Place}
use Rattle.acn_plan.specs.declared.step.Place.TheVariants as places

pub flags_are : (fields : Fields) (n : ℕ) (a w : Reading) → n ≡ presence_count fields → n ≤ length a.rest → w ≡ window_of n a → presence_count fields ≡ length w.rest
flags_are fields n a w c room is = sym c ∙ (sym (length-take-le n a.rest room) ∙ ap (λ (r : Reading). length r.rest) (sym is))

-- the items of a field have numbers of 32 bits, and those of the others
pub field_named : (p : Place) (g : Grammar) (fs : Fields) → FieldsItemsNamed (with_field (field_by p g) fs) → ItemsNamed g × FieldsItemsNamed fs
field_named (places.Component name presence default own) g fs h = head_named (a_component name g presence default own) fs h
field_named (places.Inserted name slot) g fs h = head_named (an_inserted name g slot) fs h
field_named places.Root g fs h = head_named (an_inserted [] g None) fs h
field_named (places.Alternative name tests item) g fs h = head_named (an_inserted [] g None) fs h
field_named places.Element g fs h = head_named (an_inserted [] g None) fs h
field_named places.Content g fs h = head_named (an_inserted [] g None) fs h

module _ (root : Grammar) where
  -- what is ready of a field that is a component, or an inserted one
  pub component_ready : (p : Place) (name : List ℕ) (g : Grammar) (presence : Presence) (default : Option (List ℕ)) (own : Option ℕ) (depth : ℕ) (t : Env) (bits : ℕ) → p ≡ places.Component name presence default own
      → ((around : List ℕ) × (fs : Fields) × FieldsStand root depth (with_field (field_by p g) fs) t around × (presence_count (with_field (field_by p g) fs) ≡ bits) × (length around ≤ MOST_OPEN_SLOTS))
      → (around : List ℕ) × (fs : Fields) × FieldsStand root depth (component [] g presence None own fs) t around × (presence_count (component [] g presence None own fs) ≡ bits) × (length around ≤ MOST_OPEN_SLOTS)
  component_ready p name g presence default own depth t bits e r =
      (let q = subst (λ (x : Place). FieldsStand root depth (with_field (field_by x g) r.1) t r.0) e r.2 in
      let n = subst (λ (x : Place). presence_count (with_field (field_by x g) r.1) ≡ bits) e r.3 in
      (r.0, r.1, record { known = q.known; noted = q.noted; is = q.is }, same presence r.1 n, r.4))
    where
      same : (x : Presence) (fs : Fields) → presence_count (component name g x default own fs) ≡ bits → presence_count (component [] g x None own fs) ≡ bits
      same Always fs h = h
      same Bit fs h = h
      same (When ts) fs h = h

  pub inserted_ready : (p : Place) (name : List ℕ) (g : Grammar) (slot : Option ℕ) (depth : ℕ) (t : Env) (bits : ℕ) → field_by p g ≡ an_inserted name g slot
      → ((around : List ℕ) × (fs : Fields) × FieldsStand root depth (with_field (field_by p g) fs) t around × (presence_count (with_field (field_by p g) fs) ≡ bits) × (length around ≤ MOST_OPEN_SLOTS))
      → (around : List ℕ) × (fs : Fields) × FieldsStand root depth (inserted [] g slot fs) t around × (length around ≤ MOST_OPEN_SLOTS)
  inserted_ready p name g None depth t bits e r = (let q = subst (λ (f : OneField). FieldsStand root depth (with_field f r.1) t r.0) e r.2 in (r.0, r.1, record { known = q.known; noted = q.noted; is = q.is }, r.4))
  inserted_ready p name g (Some s) depth t bits e r = (let q = subst (λ (f : OneField). FieldsStand root depth (with_field f r.1) t r.0) e r.2 in (r.0, r.1, record { known = q.known; noted = q.noted; is = q.is }, r.4))

  pub fields_ready : (fields : Fields) (home : List ℕ) (depth : ℕ) (t : Env) → ((around : List ℕ) × FormStands root depth (seq fields home) t around) → (around : List ℕ) × FieldsStand root (suc depth) fields t around × (length around ≤ MOST_OPEN_SLOTS)
  fields_ready fields home depth t r = (home ++ r.0, inside_stands root depth fields home r.0 t r.1, (let few = r.1.is.0.few_open in let l = length-append home r.0 in omega (arith, few, l)))

  -- what the next field needs
  pub next_field_ready : (here : Here) (origin k depth : ℕ) (all rest next : Fields) (f : OneField) (done : List (Option Data)) (t t' : Env) (flags flags' : List Bool) (a b : Reading) → rest ≡ with_field f next
      → Turn root here origin 0 k all rest done t t' flags flags' a b → presence_count all ≡ length flags → ((around : List ℕ) × FieldsStand root depth all t around × (length around ≤ MOST_OPEN_SLOTS))
      → (around : List ℕ) × (fs : Fields) × FieldsStand root depth (with_field f fs) t' around × (presence_count (with_field f fs) ≡ length flags') × (length around ≤ MOST_OPEN_SLOTS)
  next_field_ready here origin k depth all rest next f done t t' flags flags' a b e p count r =
      (let o = p.known depth r.0 r.1 in
      (r.0, next, subst (λ (x : Fields). FieldsStand root depth x t' r.0) e o.stands, subst (λ (x : Fields). presence_count x ≡ length flags') e (p.counts count), r.2))

  pub seq_read_at : (here : Here) (origin k' depth : ℕ) (fields : Fields) (home : List ℕ) (done : List (Option Data)) (t t' left : Env) (a m b w : Reading) (n : ℕ) (flags' : List Bool)
      → left ≡ filter (λ e. not (holds home e.0)) t' → n ≡ presence_count fields → n ≤ length a.rest → w ≡ window_of n a → m ≡ passed n a
      → ((around : List ℕ) × FormStands root depth (seq fields home) t around) → Turn root here origin 0 k' fields no_fields done t t' w.rest flags' m b → FormRead root (seq fields home) (record_of (places_of done)) t left a b
  seq_read_at here origin k' depth fields home done t t' left a m b w n flags' left_is count room w_is moved q p =
      subst (λ (x : Env). FormRead root (seq fields home) (record_of (places_of done)) t x a b) (sym left_is)
      (seq_read root here origin 0 k' fields home q.0 depth done t t' a m b w.rest flags' q.1 (subst (λ (x : ℕ). x ≤ length a.rest) count room) (moved ∙ ap (λ (x : ℕ). passed x a) count) (ap (λ (r : Reading). r.rest) w_is ∙ ap (λ (x : ℕ). take x a.rest) count) p)

  pub seq_fails_at : (here : Here) (depth : ℕ) (fields : Fields) (home : List ℕ) (t : Env) (a m w : Reading) (n : ℕ) (path : List ℕ) (r : Reason) (at : ℕ)
      → n ≡ presence_count fields → n ≤ length a.rest → w ≡ window_of n a → m ≡ passed n a
      → ((around : List ℕ) × FormStands root depth (seq fields home) t around) → FieldsStop root fields w.rest here m.origin 0 t m path r at → FormStops root (seq fields home) here a.origin t a path r at
  seq_fails_at here depth fields home t a m w n path r at count room w_is moved q s =
      seq_fails root here a.origin m.origin fields home q.0 depth t a m w.rest path r at q.1 (subst (λ (x : ℕ). x ≤ length a.rest) count room) (moved ∙ ap (λ (x : ℕ). passed x a) count) (ap (λ (r : Reading). r.rest) w_is ∙ ap (λ (x : ℕ). take x a.rest) count) (ap (λ (r : Reading). r.origin) moved) s

  pub seq_short_at : (here : Here) (fields : Fields) (home : List ℕ) (t : Env) (a : Reading) (n : ℕ) (r : Reason) → n ≡ presence_count fields → r ≡ seen here.inside short → Fine root t → length a.rest < n → FormStops root (seq fields home) here a.origin t a here.path r here.place
  seq_short_at here fields home t a n r count e m h = seq_short root here a.origin fields home t a r e m (subst (λ (x : ℕ). length a.rest < x) count h)
