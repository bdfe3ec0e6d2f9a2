-- In a sound world each reference behind `::=` names a value in its module.
use Rattle.std.proofs.Common.{◌≡◌, ℕ, zero, suc, ◌+◌, List, [], ◌∷◌, ◌++◌, map, refl, sym, ap, ◌∙◌, arith}
use Rattle.std.specs.Prelude.{Option, Some, None, slice_get, flat_map, is_some, not}
use Rattle.std.specs.List.{enumerate_from}
use Rattle.std.proofs.lemmas.Grind.{flat_map-append}
use Rattle.acn_asn_syntax.specs.Mirror.{AsnModule, AsnType, Assign, ValueIs}
use Rattle.acn_asn_syntax.specs.declared.values.AsnValue.TheVariants as value
use Rattle.acn_num.specs.Names.{Name}
use Rattle.acn_index.specs.World.{World, assignment}
use Rattle.acn_index.specs.Lookup.{value_named, imports_of}
use Rattle.acn_mentions.specs.Mentions.{Mention, in_assignment, mentions, assign_mentions}
use Rattle.acn_world.specs.Repeated.{repeats, when}
use Rattle.acn_world.specs.Unknown.{missing_modules, unknowns, unknown_of, unknown_in, unknown_mentions, import_unknown, acn_unknown_in, is_known, mention_name}
use Rattle.acn_acn_syntax.specs.Mirror.{Module}
use Rattle.acn_world.specs.Faults.{first, early_fault}
use Rattle.acn_world.specs.declared.fault.NameFault.TheVariants as fault
use Rattle.acn_index.specs.declared.sources.TypeId.{TypeId}
use Rattle.acn_names.proofs.Valued.{stands_in}

no_first : {A : Type 0} (xs : List A) → first xs ≡ None → xs ≡ []
no_first [] e = refl
no_first (x ∷ xs) e = absurd (cc e)

pub front_empty : {A : Type 0} (xs ys : List A) → xs ++ ys ≡ [] → xs ≡ []
front_empty [] ys e = refl
front_empty (x ∷ xs) ys e = absurd (cc e)

pub back_empty : {A : Type 0} (xs ys : List A) → xs ++ ys ≡ [] → ys ≡ []
back_empty [] ys e = e
back_empty (x ∷ xs) ys e = absurd (cc e)

map_empty : {A B : Type 0} (f : A → B) (xs : List A) → map f xs ≡ [] → xs ≡ []
map_empty f [] e = refl
map_empty f (x ∷ xs) e = absurd (cc e)

each_empty : {A B : Type 0} (f : A → List B) (xs : List A) (n : ℕ) (x : A) → flat_map f xs ≡ [] → slice_get xs n ≡ Some x → f x ≡ []
each_empty f [] n x e g = absurd (cc g)
each_empty f (z ∷ xs) zero x e g = let same : z ≡ x = cc g in ap f (sym same) ∙ front_empty (f z) (flat_map f xs) e
each_empty f (z ∷ xs) (suc n) x e g = each_empty f xs n x (back_empty (f z) (flat_map f xs) e) g

numbered_empty : {A B : Type 0} (f : ℕ × A → List B) (j k : ℕ) (xs : List A) (n : ℕ) (x : A) → k ≡ j + n → flat_map f (enumerate_from j xs) ≡ [] → slice_get xs n ≡ Some x → f (k, x) ≡ []
numbered_empty f j k [] n x s e g = absurd (cc g)
numbered_empty f j k (z ∷ xs) zero x s e g =
    let same : z ≡ x = cc g in
    let at_j : k ≡ j = omega arith in
    ap (λ (y : _). f (k, y)) (sym same) ∙ (ap (λ (i : ℕ). f (i, z)) at_j ∙ front_empty (f (j, z)) (flat_map f (enumerate_from (j + 1) xs)) e)
numbered_empty f j k (z ∷ xs) (suc n) x s e g = numbered_empty f (j + 1) k xs n x (omega arith) (back_empty (f (j, z)) (flat_map f (enumerate_from (j + 1) xs)) e) g

pub there_when : {A : Type 0} (o : Option A) (name : Name) → when (not (is_some o)) name ≡ [] → (x : A) × (o ≡ Some x)
there_when None name e = absurd (cc e)
there_when (Some x) name e = (x, refl)

module _ (w : World) where
  no_unknowns : early_fault w ≡ None → unknowns w ≡ []
  unfolding early_fault
  no_unknowns e = back_empty (missing_modules w) (unknowns w) (back_empty (repeats w) (missing_modules w ++ unknowns w) (no_first (repeats w ++ (missing_modules w ++ unknowns w)) e))

  none_in : early_fault w ≡ None → (k : ℕ) (m : AsnModule) → slice_get w.modules k ≡ Some m → unknown_in w k m ≡ []
  unfolding unknowns
  none_in e k m g =
      let of_asn = front_empty (flat_map (λ (x : ℕ × AsnModule). unknown_of x.1.name (unknown_in w x.0 x.1)) (enumerate_from 0 w.modules)) (flat_map (λ (a : Module). unknown_of a.name (acn_unknown_in w a)) w.acn) (no_unknowns e) in
      map_empty (λ (n : Name). fault.Unknown m.name n) (unknown_in w k m) (numbered_empty (λ (x : ℕ × AsnModule). unknown_of x.1.name (unknown_in w x.0 x.1)) 0 k w.modules k m (omega arith) of_asn g)

  pub none_of : early_fault w ≡ None → (p : TypeId) (a : Assign) → assignment w p ≡ Some a → unknown_mentions w p.module (assign_mentions a) ≡ []
  unfolding unknown_in
  none_of e p a f =
      let m = stands_in w p a f in
      let all = none_in e p.module m.0 m.1 in
      each_empty (λ (x : Assign). unknown_mentions w p.module (assign_mentions x)) m.0.items p.item a (back_empty (flat_map (import_unknown w) (imports_of m.0)) (flat_map (λ (x : Assign). unknown_mentions w p.module (assign_mentions x)) m.0.items) all) m.2

  pub named_behind : early_fault w ≡ None → (p : TypeId) (name : Name) (t : AsnType) (other : Name) → assignment w p ≡ Some (ValueIs name t (value.Ref other)) → (q : TypeId) × (value_named w p.module other ≡ Some q)
  unfolding assign_mentions is_known
  named_behind e p name t other f =
      let k = p.module in
      let test = λ (m : Mention). when (not (is_known w k m)) (mention_name m) in
      let none = none_of e p (ValueIs name t (value.Ref other)) f in
      let last = back_empty (flat_map test (mentions t)) (flat_map test (in_assignment other ∷ [])) (sym (flat_map-append test (mentions t) (in_assignment other ∷ [])) ∙ none) in
      there_when (value_named w k other) other (front_empty (when (not (is_some (value_named w k other))) other) [] last)
