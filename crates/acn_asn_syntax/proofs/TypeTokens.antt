-- The tokens of each form of a type, and when it is proper.
use Rattle.std.proofs.Common.{◌≡◌, ℕ, Bool, true, false, ◌&&◌, cond, List, [], ◌∷◌, ◌++◌, Option, Some, None, refl, sym, ap, subst, ◌∙◌}
use Rattle.std.specs.Prelude.{codes, map}
use Rattle.std.specs.List.{flat_map, list_all}
use Rattle.acn_lex.specs.Lexeme.{Lexeme}
use Rattle.acn_lex.specs.Words.{is_identifier, is_reference}
use Rattle.acn_asn_syntax.specs.declared.sets.Set.{Set}
use Rattle.acn_asn_syntax.specs.declared.types.Tag.{Tag}
use Rattle.acn_asn_syntax.specs.declared.types.Named.{Named}
use Rattle.acn_asn_syntax.specs.declared.types.Item.{Item}
use Rattle.acn_asn_syntax.specs.declared.types.Rest.{Rest}
use Rattle.acn_asn_syntax.specs.declared.types.AsnType.{AsnType}
use Rattle.acn_asn_syntax.specs.declared.types.AsnBase.{AsnBase}
use Rattle.acn_asn_syntax.specs.declared.types.AsnBase.TheVariants as base
use Rattle.acn_asn_syntax.specs.declared.types.Constraint.{Constraint}
use Rattle.acn_asn_syntax.specs.declared.types.Constraint.TheVariants as constraint
use Rattle.acn_asn_syntax.specs.declared.types.Component.{Component}
use Rattle.acn_asn_syntax.specs.declared.types.Alternative.{Alternative}
use Rattle.acn_asn_syntax.specs.declared.types.AsnBase.TheOpen.{AsnBase-F, Constraint-F}
use Rattle.acn_asn_syntax.specs.declared.types.AsnBase.TheViews.{roll-AsnBase, roll-AsnType, roll-Constraint, roll-Component, roll-Alternative, out-AsnBase, out-AsnType, out-Constraint, out-Component, out-Alternative, roll-out-AsnBase, roll-out-AsnType, roll-out-Constraint, roll-out-Component, roll-out-Alternative}
use Rattle.acn_asn_syntax.specs.declared.types.AsnBase.TheFolds.{fold-roll-AsnBase, fold-roll-AsnType, fold-roll-Constraint, fold-roll-Component, fold-roll-Alternative}
use Rattle.acn_asn_syntax.specs.Mirror as plain
use Rattle.acn_asn_syntax.specs.Spelling as spelling
use Rattle.acn_asn_syntax.specs.Spelling.{tag_tokens, tag_fits, named_tokens, named_fits, item_tokens, item_fits, rest_tokens, rest_fits, ref_tokens, is_some}
use Rattle.acn_asn_syntax.specs.Values.{word, mark, in_parentheses, in_braces, with_commas, option_tokens, option_fits}
use Rattle.acn_asn_syntax.specs.View.{type_view, base_view, constraint_view, component_view, alternative_view, base_step, constraint_step, alternative_step, type_step, component_step, components_of, alternatives_of, constraints_of, set_view}
use Rattle.acn_asn_syntax.specs.Trees.{set_tokens, set_fits, type_tokens, base_tokens, constraint_tokens, component_tokens, alternative_tokens, type_fits, base_fits, outer_fits, inner_fits, component_fits, alternative_fits, is_list}
use Rattle.acn_asn_syntax.proofs.Views.{view_Boolean, view_Null, view_OctetString, view_BitString, view_Ia5String, view_Integer, view_Enumerated, view_Ref, view_Sequence, view_Choice, view_Of, view_SizeOf, view_type, view_Set, view_Size, view_Containing, view_component, view_alternative}

-- ---- lists of them

more_components : (cs : List Component) → spelling.more_components (components_of (map component_view cs)) ≡ flat_map (λ c. mark (codes ",") ∷ component_tokens c) cs
unfolding spelling.more_components component_tokens
more_components [] = refl
more_components (c ∷ cs) =
    let v = component_view c in
    let e = ap (λ z. (spelling.type_tokens v.of ++ rest_tokens v.rest) ++ z) (more_components cs) in
    ap (λ z. mark (codes ",") ∷ word v.name ∷ z) e

components_tokens : (cs : List Component) → spelling.components_tokens (components_of (map component_view cs)) ≡ with_commas component_tokens cs
unfolding spelling.components_tokens component_tokens
components_tokens [] = refl
components_tokens (c ∷ cs) =
    let v = component_view c in
    let e = ap (λ z. (spelling.type_tokens v.of ++ rest_tokens v.rest) ++ z) (more_components cs) in
    ap (λ z. word v.name ∷ z) e

more_alternatives : (cs : List Alternative) → spelling.more_alternatives (alternatives_of (map alternative_view cs)) ≡ flat_map (λ c. mark (codes ",") ∷ alternative_tokens c) cs
unfolding spelling.more_alternatives alternative_tokens
more_alternatives [] = refl
more_alternatives (c ∷ cs) = ap (λ z. mark (codes ",") ∷ word (alternative_view c).name ∷ (spelling.type_tokens (alternative_view c).of ++ z)) (more_alternatives cs)

alternatives_tokens : (cs : List Alternative) → spelling.alternatives_tokens (alternatives_of (map alternative_view cs)) ≡ with_commas alternative_tokens cs
unfolding spelling.alternatives_tokens alternative_tokens
alternatives_tokens [] = refl
alternatives_tokens (c ∷ cs) = ap (λ z. word (alternative_view c).name ∷ (spelling.type_tokens (alternative_view c).of ++ z)) (more_alternatives cs)

constraints_tokens : (cs : List Constraint) → spelling.constraints_tokens (constraints_of (map constraint_view cs)) ≡ flat_map constraint_tokens cs
unfolding spelling.constraints_tokens constraint_tokens
constraints_tokens [] = refl
constraints_tokens (c ∷ cs) = ap (λ z. spelling.constraint_tokens (constraint_view c) ++ z) (constraints_tokens cs)

and_assoc : (a b c d : Bool) → a && b && c && d ≡ (a && b && c) && d
and_assoc true true c d = refl
and_assoc true false c d = refl
and_assoc false b c d = refl

and_assoc3 : (a b c : Bool) → a && b && c ≡ (a && b) && c
and_assoc3 true b c = refl
and_assoc3 false b c = refl

components_fit : (cs : List Component) → spelling.components_fit (components_of (map component_view cs)) ≡ list_all component_fits cs
unfolding spelling.components_fit component_fits
components_fit [] = refl
components_fit (c ∷ cs) =
    let v = component_view c in
    ap (λ b. is_identifier v.name && spelling.type_fits v.of && rest_fits v.rest && b) (components_fit cs) ∙ and_assoc (is_identifier v.name) (spelling.type_fits v.of) (rest_fits v.rest) _

alternatives_fit : (cs : List Alternative) → spelling.alternatives_fit (alternatives_of (map alternative_view cs)) ≡ list_all alternative_fits cs
unfolding spelling.alternatives_fit alternative_fits
alternatives_fit [] = refl
alternatives_fit (c ∷ cs) =
    let v = alternative_view c in
    ap (λ b. is_identifier v.name && spelling.type_fits v.of && b) (alternatives_fit cs) ∙ and_assoc3 (is_identifier v.name) (spelling.type_fits v.of) _

constraints_fit : (cs : List Constraint) → spelling.constraints_fit (constraints_of (map constraint_view cs)) ≡ list_all outer_fits cs
unfolding spelling.constraints_fit outer_fits
constraints_fit [] = refl
constraints_fit (c ∷ cs) = ap (λ b. spelling.outer_fits (constraint_view c) && b) (constraints_fit cs)

-- a list has no item
abbrev pub is_none : {A : Type 0} → List A → Bool
is_none [] = true
is_none (x ∷ xs) = false

unconstrained : (cs : List Constraint) → spelling.is_unconstrained (constraints_of (map constraint_view cs)) ≡ is_none cs
unconstrained [] = refl
unconstrained (c ∷ cs) = refl

-- ---- the tokens of each form

pub tokens_Boolean : base_tokens base.Boolean ≡ word (codes "BOOLEAN") ∷ []
unfolding base_tokens type_tokens constraint_tokens spelling.base_tokens
tokens_Boolean = ap spelling.base_tokens view_Boolean

pub tokens_Null : base_tokens base.Null ≡ word (codes "NULL") ∷ []
unfolding base_tokens type_tokens constraint_tokens spelling.base_tokens
tokens_Null = ap spelling.base_tokens view_Null

pub tokens_OctetString : base_tokens base.OctetString ≡ word (codes "OCTET") ∷ word (codes "STRING") ∷ []
unfolding base_tokens type_tokens constraint_tokens spelling.base_tokens
tokens_OctetString = ap spelling.base_tokens view_OctetString

pub tokens_BitString : base_tokens base.BitString ≡ word (codes "BIT") ∷ word (codes "STRING") ∷ []
unfolding base_tokens type_tokens constraint_tokens spelling.base_tokens
tokens_BitString = ap spelling.base_tokens view_BitString

pub tokens_Ia5String : base_tokens base.Ia5String ≡ word (codes "IA5String") ∷ []
unfolding base_tokens type_tokens constraint_tokens spelling.base_tokens
tokens_Ia5String = ap spelling.base_tokens view_Ia5String

pub tokens_Integer : (ns : Option (List Named)) → base_tokens (base.Integer ns) ≡ word (codes "INTEGER") ∷ option_tokens (λ ns. in_braces (with_commas named_tokens ns)) ns
unfolding base_tokens type_tokens constraint_tokens spelling.base_tokens
tokens_Integer ns = ap spelling.base_tokens (view_Integer ns)

pub tokens_Enumerated : (items : List Item) → base_tokens (base.Enumerated items) ≡ word (codes "ENUMERATED") ∷ in_braces (with_commas item_tokens items)
unfolding base_tokens type_tokens constraint_tokens spelling.base_tokens
tokens_Enumerated items = ap spelling.base_tokens (view_Enumerated items)

pub tokens_Ref : (from : Option (List ℕ)) (name : List ℕ) → base_tokens (base.Ref from name) ≡ ref_tokens from name
unfolding base_tokens type_tokens constraint_tokens spelling.base_tokens
tokens_Ref from name = ap spelling.base_tokens (view_Ref from name)

pub tokens_Sequence : (cs : List Component) → base_tokens (base.Sequence cs) ≡ word (codes "SEQUENCE") ∷ in_braces (with_commas component_tokens cs)
unfolding base_tokens type_tokens constraint_tokens spelling.base_tokens
tokens_Sequence cs = ap spelling.base_tokens (view_Sequence cs) ∙ ap (λ z. word (codes "SEQUENCE") ∷ in_braces z) (components_tokens cs)

pub tokens_Choice : (more : List Alternative) → base_tokens (base.Choice more) ≡ word (codes "CHOICE") ∷ in_braces (with_commas alternative_tokens more)
unfolding base_tokens type_tokens constraint_tokens spelling.base_tokens
tokens_Choice more = ap spelling.base_tokens (view_Choice more) ∙ ap (λ z. word (codes "CHOICE") ∷ in_braces z) (alternatives_tokens more)

pub tokens_Of : (t : AsnType) → base_tokens (base.SequenceOf None t) ≡ word (codes "SEQUENCE") ∷ word (codes "OF") ∷ type_tokens t
unfolding base_tokens type_tokens constraint_tokens spelling.base_tokens
tokens_Of t = ap spelling.base_tokens (view_Of t)

pub tokens_SizeOf : (c : Constraint) (t : AsnType) → base_tokens (base.SequenceOf (Some c) t) ≡ word (codes "SEQUENCE") ∷ (constraint_tokens c ++ word (codes "OF") ∷ type_tokens t)
unfolding base_tokens type_tokens constraint_tokens spelling.base_tokens
tokens_SizeOf c t = ap spelling.base_tokens (view_SizeOf c t)

pub tokens_type : (tag : Option Tag) (b : AsnBase) (cs : List Constraint) → type_tokens (roll-AsnType (record { tag = tag; base = b; constraints = cs })) ≡ (option_tokens tag_tokens tag ++ base_tokens b) ++ flat_map constraint_tokens cs
unfolding type_tokens base_tokens spelling.type_tokens
tokens_type tag b cs = ap spelling.type_tokens (view_type tag b cs) ∙ ap (λ (z : List Lexeme). (option_tokens tag_tokens tag ++ spelling.base_tokens (base_view b)) ++ z) (constraints_tokens cs)

pub tokens_Set : (s : Set) → constraint_tokens (constraint.Set s) ≡ in_parentheses (set_tokens s)
unfolding constraint_tokens set_tokens spelling.constraint_tokens
tokens_Set s = ap spelling.constraint_tokens (view_Set s)

pub tokens_Size : (s : Set) → constraint_tokens (constraint.Size s) ≡ word (codes "SIZE") ∷ in_parentheses (set_tokens s)
unfolding constraint_tokens set_tokens spelling.constraint_tokens
tokens_Size s = ap spelling.constraint_tokens (view_Size s)

pub tokens_Containing : (t : AsnType) → constraint_tokens (constraint.Containing t) ≡ in_parentheses (word (codes "CONTAINING") ∷ type_tokens t)
unfolding constraint_tokens type_tokens spelling.constraint_tokens
tokens_Containing t = ap spelling.constraint_tokens (view_Containing t)

pub tokens_component : (name : List ℕ) (t : AsnType) (r : Rest) → component_tokens (roll-Component (record { name = name; of = t; rest = r })) ≡ word name ∷ (type_tokens t ++ rest_tokens r)
unfolding component_tokens type_tokens
tokens_component name t r = ap (λ (v : plain.Component). word v.name ∷ (spelling.type_tokens v.of ++ rest_tokens v.rest)) (view_component name t r)

pub tokens_alternative : (name : List ℕ) (t : AsnType) → alternative_tokens (roll-Alternative (record { name = name; of = t })) ≡ word name ∷ type_tokens t
unfolding alternative_tokens type_tokens
tokens_alternative name t = ap (λ (v : plain.Alternative). word v.name ∷ spelling.type_tokens v.of) (view_alternative name t)

-- ---- and when it is proper

pub fits_Boolean : base_fits base.Boolean ≡ true
unfolding base_fits type_fits inner_fits spelling.base_fits
fits_Boolean = ap spelling.base_fits view_Boolean

pub list_Boolean : is_list base.Boolean ≡ false
unfolding is_list
list_Boolean = ap spelling.is_list view_Boolean

pub fits_Null : base_fits base.Null ≡ true
unfolding base_fits type_fits inner_fits spelling.base_fits
fits_Null = ap spelling.base_fits view_Null

pub list_Null : is_list base.Null ≡ false
unfolding is_list
list_Null = ap spelling.is_list view_Null

pub fits_OctetString : base_fits base.OctetString ≡ true
unfolding base_fits type_fits inner_fits spelling.base_fits
fits_OctetString = ap spelling.base_fits view_OctetString

pub list_OctetString : is_list base.OctetString ≡ false
unfolding is_list
list_OctetString = ap spelling.is_list view_OctetString

pub fits_BitString : base_fits base.BitString ≡ true
unfolding base_fits type_fits inner_fits spelling.base_fits
fits_BitString = ap spelling.base_fits view_BitString

pub list_BitString : is_list base.BitString ≡ false
unfolding is_list
list_BitString = ap spelling.is_list view_BitString

pub fits_Ia5String : base_fits base.Ia5String ≡ true
unfolding base_fits type_fits inner_fits spelling.base_fits
fits_Ia5String = ap spelling.base_fits view_Ia5String

pub list_Ia5String : is_list base.Ia5String ≡ false
unfolding is_list
list_Ia5String = ap spelling.is_list view_Ia5String

pub fits_Integer : (ns : Option (List Named)) → base_fits (base.Integer ns) ≡ option_fits (λ ns. is_some ns && list_all named_fits ns) ns
unfolding base_fits type_fits inner_fits spelling.base_fits
fits_Integer ns = ap spelling.base_fits (view_Integer ns)

pub list_Integer : (ns : Option (List Named)) → is_list (base.Integer ns) ≡ false
unfolding is_list
list_Integer ns = ap spelling.is_list (view_Integer ns)

pub fits_Enumerated : (items : List Item) → base_fits (base.Enumerated items) ≡ is_some items && list_all item_fits items
unfolding base_fits type_fits inner_fits spelling.base_fits
fits_Enumerated items = ap spelling.base_fits (view_Enumerated items)

pub list_Enumerated : (items : List Item) → is_list (base.Enumerated items) ≡ false
unfolding is_list
list_Enumerated items = ap spelling.is_list (view_Enumerated items)

pub fits_Ref : (from : Option (List ℕ)) (name : List ℕ) → base_fits (base.Ref from name) ≡ option_fits is_reference from && is_reference name
unfolding base_fits type_fits inner_fits spelling.base_fits
fits_Ref from name = ap spelling.base_fits (view_Ref from name)

pub list_Ref : (from : Option (List ℕ)) (name : List ℕ) → is_list (base.Ref from name) ≡ false
unfolding is_list
list_Ref from name = ap spelling.is_list (view_Ref from name)

pub fits_Sequence : (cs : List Component) → base_fits (base.Sequence cs) ≡ list_all component_fits cs
unfolding base_fits type_fits inner_fits spelling.base_fits
fits_Sequence cs = ap spelling.base_fits (view_Sequence cs) ∙ components_fit cs

pub list_Sequence : (cs : List Component) → is_list (base.Sequence cs) ≡ false
unfolding is_list
list_Sequence cs = ap spelling.is_list (view_Sequence cs)

pub list_Choice : (more : List Alternative) → is_list (base.Choice more) ≡ false
unfolding is_list
list_Choice more = ap spelling.is_list (view_Choice more)

pub fits_Of : (t : AsnType) → base_fits (base.SequenceOf None t) ≡ type_fits t
unfolding base_fits type_fits inner_fits spelling.base_fits
fits_Of t = ap spelling.base_fits (view_Of t)

pub list_Of : (t : AsnType) → is_list (base.SequenceOf None t) ≡ true
unfolding is_list
list_Of t = ap spelling.is_list (view_Of t)

pub fits_SizeOf : (c : Constraint) (t : AsnType) → base_fits (base.SequenceOf (Some c) t) ≡ inner_fits c && type_fits t
unfolding base_fits type_fits inner_fits spelling.base_fits
fits_SizeOf c t = ap spelling.base_fits (view_SizeOf c t)

pub list_SizeOf : (c : Constraint) (t : AsnType) → is_list (base.SequenceOf (Some c) t) ≡ true
unfolding is_list
list_SizeOf c t = ap spelling.is_list (view_SizeOf c t)

pub fits_Choice : (a : Alternative) (more : List Alternative) → base_fits (base.Choice (a ∷ more)) ≡ list_all alternative_fits (a ∷ more)
unfolding base_fits alternative_fits spelling.base_fits
fits_Choice a more = ap spelling.base_fits (view_Choice (a ∷ more)) ∙
    (ap (λ b. is_identifier (alternative_view a).name && spelling.type_fits (alternative_view a).of && b) (alternatives_fit more) ∙ and_assoc3 (is_identifier (alternative_view a).name) (spelling.type_fits (alternative_view a).of) _)

pub fits_no_choice : base_fits (base.Choice []) ≡ false
unfolding base_fits spelling.base_fits
fits_no_choice = ap spelling.base_fits (view_Choice [])

pub fits_type : (tag : Option Tag) (b : AsnBase) (cs : List Constraint) → type_fits (roll-AsnType (record { tag = tag; base = b; constraints = cs })) ≡ option_fits tag_fits tag && base_fits b && list_all outer_fits cs && cond (is_list b) (is_none cs) true
unfolding type_fits base_fits is_list spelling.type_fits
fits_type tag b cs = ap spelling.type_fits (view_type tag b cs) ∙
    (ap (λ x. option_fits tag_fits tag && spelling.base_fits (base_view b) && x && cond (spelling.is_list (base_view b)) (spelling.is_unconstrained (constraints_of (map constraint_view cs))) true) (constraints_fit cs)
    ∙ ap (λ x. option_fits tag_fits tag && spelling.base_fits (base_view b) && list_all outer_fits cs && cond (spelling.is_list (base_view b)) x true) (unconstrained cs))

pub fits_Set : (s : Set) → (outer_fits (constraint.Set s) ≡ set_fits s) × (inner_fits (constraint.Set s) ≡ set_fits s)
unfolding outer_fits inner_fits set_fits spelling.outer_fits spelling.inner_fits
fits_Set s = (ap spelling.outer_fits (view_Set s), ap spelling.inner_fits (view_Set s))

pub fits_Size : (s : Set) → (outer_fits (constraint.Size s) ≡ false) × (inner_fits (constraint.Size s) ≡ set_fits s)
unfolding outer_fits inner_fits set_fits spelling.outer_fits spelling.inner_fits
fits_Size s = (ap spelling.outer_fits (view_Size s), ap spelling.inner_fits (view_Size s))

pub fits_Containing : (t : AsnType) → (outer_fits (constraint.Containing t) ≡ type_fits t) × (inner_fits (constraint.Containing t) ≡ type_fits t)
unfolding outer_fits inner_fits type_fits spelling.outer_fits spelling.inner_fits
fits_Containing t = (ap spelling.outer_fits (view_Containing t), ap spelling.inner_fits (view_Containing t))

pub fits_component : (name : List ℕ) (t : AsnType) (r : Rest) → component_fits (roll-Component (record { name = name; of = t; rest = r })) ≡ is_identifier name && type_fits t && rest_fits r
unfolding component_fits type_fits
fits_component name t r = ap (λ (v : plain.Component). is_identifier v.name && spelling.type_fits v.of && rest_fits v.rest) (view_component name t r)

pub fits_alternative : (name : List ℕ) (t : AsnType) → alternative_fits (roll-Alternative (record { name = name; of = t })) ≡ is_identifier name && type_fits t
unfolding alternative_fits type_fits
fits_alternative name t = ap (λ (v : plain.Alternative). is_identifier v.name && spelling.type_fits v.of) (view_alternative name t)

-- ---- what is shown of each form is shown of all

pub by_type : (P : AsnType → Type 0) → ((tag : Option Tag) (b : AsnBase) (cs : List Constraint) → P (roll-AsnType (record { tag = tag; base = b; constraints = cs }))) → (x : AsnType) → P x
by_type P made x = subst P (roll-out-AsnType x) (made (out-AsnType x).tag (out-AsnType x).base (out-AsnType x).constraints)

pub by_component : (P : Component → Type 0) → ((name : List ℕ) (t : AsnType) (r : Rest) → P (roll-Component (record { name = name; of = t; rest = r }))) → (x : Component) → P x
by_component P made x = subst P (roll-out-Component x) (made (out-Component x).name (out-Component x).of (out-Component x).rest)

pub by_alternative : (P : Alternative → Type 0) → ((name : List ℕ) (t : AsnType) → P (roll-Alternative (record { name = name; of = t }))) → (x : Alternative) → P x
by_alternative P made x = subst P (roll-out-Alternative x) (made (out-Alternative x).name (out-Alternative x).of)

pub by_constraint : (P : Constraint → Type 0) → ((s : Set) → P (constraint.Set s)) → ((s : Set) → P (constraint.Size s)) → ((t : AsnType) → P (constraint.Containing t)) → (x : Constraint) → P x
by_constraint P of_set of_size of_type x = subst P (roll-out-Constraint x) (at (out-Constraint x))
  where
    at : (y : Constraint-F AsnBase Constraint Alternative AsnType Component) → P (roll-Constraint y)
    at (Constraint-F.Set s) = subst P (sym (constraint.rolls-Set s)) (of_set s)
    at (Constraint-F.Size s) = subst P (sym (constraint.rolls-Size s)) (of_size s)
    at (Constraint-F.Containing t) = subst P (sym (constraint.rolls-Containing t)) (of_type t)

-- the one level of a base
pub record ByBase (P : AsnBase → Type 0) : Type 0 where
  pub boolean : P base.Boolean
  pub null : P base.Null
  pub integer : (ns : Option (List Named)) → P (base.Integer ns)
  pub enumerated : (items : List Item) → P (base.Enumerated items)
  pub octet_string : P base.OctetString
  pub bit_string : P base.BitString
  pub ia5_string : P base.Ia5String
  pub sequence : (cs : List Component) → P (base.Sequence cs)
  pub sequence_of : (t : AsnType) → P (base.SequenceOf None t)
  pub sequence_size : (c : Constraint) (t : AsnType) → P (base.SequenceOf (Some c) t)
  pub choice : (more : List Alternative) → P (base.Choice more)
  pub reference : (from : Option (List ℕ)) (name : List ℕ) → P (base.Ref from name)

pub by_base : (P : AsnBase → Type 0) → ByBase P → (x : AsnBase) → P x
by_base P h x = subst P (roll-out-AsnBase x) (at (out-AsnBase x))
  where
    at : (y : AsnBase-F AsnBase Constraint Alternative AsnType Component) → P (roll-AsnBase y)
    at AsnBase-F.Boolean = subst P (sym base.rolls-Boolean) h.boolean
    at AsnBase-F.Null = subst P (sym base.rolls-Null) h.null
    at (AsnBase-F.Integer ns) = subst P (sym (base.rolls-Integer ns)) (h.integer ns)
    at (AsnBase-F.Enumerated items) = subst P (sym (base.rolls-Enumerated items)) (h.enumerated items)
    at AsnBase-F.OctetString = subst P (sym base.rolls-OctetString) h.octet_string
    at AsnBase-F.BitString = subst P (sym base.rolls-BitString) h.bit_string
    at AsnBase-F.Ia5String = subst P (sym base.rolls-Ia5String) h.ia5_string
    at (AsnBase-F.Sequence cs) = subst P (sym (base.rolls-Sequence cs)) (h.sequence cs)
    at (AsnBase-F.SequenceOf None t) = subst P (sym (base.rolls-SequenceOf None t)) (h.sequence_of t)
    at (AsnBase-F.SequenceOf (Some c) t) = subst P (sym (base.rolls-SequenceOf (Some c) t)) (h.sequence_size c t)
    at (AsnBase-F.Choice more) = subst P (sym (base.rolls-Choice more)) (h.choice more)
    at (AsnBase-F.Ref from name) = subst P (sym (base.rolls-Ref from name)) (h.reference from name)
