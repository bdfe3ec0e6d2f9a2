-- A proper ENUMERATED has an item and no more than tokens, and a proper CHOICE has an alternative.
use Rattle.std.proofs.Common.{◌≡◌, ℕ, ◌≤◌, ◌<◌, ◌^◌, true, ◌&&◌, List, [], ◌∷◌, ◌++◌, length, sym, subst, arith}
use Rattle.std.specs.Prelude.{codes, flat_map, if◌then◌else◌}
use Rattle.std.specs.List.{list_all}
use Rattle.acn_asn_syntax.specs.Mirror.{AsnType, type_of, AsnBase, enumerated, choice, Alternatives, no_alternatives, and_alternative, alternative_list}
use Rattle.acn_asn_syntax.specs.Spelling.{type_fits, type_tokens, base_fits, base_tokens, constraints_fit, constraints_tokens, item_fits, item_tokens, is_some, is_list, is_unconstrained, tag_fits, tag_tokens}
use Rattle.acn_asn_syntax.specs.Values.{word, mark, in_braces, with_commas, option_fits, option_tokens}
use Rattle.acn_asn_syntax.specs.declared.types.Item.{Item}
use Rattle.acn_index.specs.Chains.{base_part}
use Rattle.acn_source_laws.proofs.Lists.{and_left, and_right, in_front, in_back, behind_one}
use Rattle.acn_source_laws.proofs.Kept.{IsKept}

-- the base of a proper type is proper, and its tokens are among those of the type
base_proper : (t : AsnType) → type_fits t ≡ true → base_fits (base_part t) ≡ true
unfolding type_fits
base_proper (type_of tag b cs) h =
    let last = if is_list b then is_unconstrained cs else true in
    let tag_ok = option_fits tag_fits tag in
    and_right tag_ok (base_fits b) (and_left (tag_ok && base_fits b) (constraints_fit cs) (and_left (tag_ok && base_fits b && constraints_fit cs) last h))

base_few : (t : AsnType) (n : ℕ) → n ≤ length (base_tokens (base_part t)) → n ≤ length (type_tokens t)
unfolding type_tokens
base_few (type_of tag b cs) n h = in_front n (option_tokens tag_tokens tag ++ base_tokens b) (constraints_tokens cs) (in_back n (option_tokens tag_tokens tag) (base_tokens b) h)

more_items : (items : List Item) → length items ≤ length (flat_map (λ x. mark (codes ",") ∷ item_tokens x) items)
more_items [] = omega arith
more_items (x ∷ items) =
    let rest = flat_map (λ x. mark (codes ",") ∷ item_tokens x) items in
    let e = in_back (length items) (item_tokens x) rest (more_items items) in
    omega arith

-- one token more than items, the brace before them
items_few : (items : List Item) → length items ≤ length (in_braces (with_commas item_tokens items))
items_few [] = omega arith
items_few (x ∷ items) =
    let rest = flat_map (λ x. mark (codes ",") ∷ item_tokens x) items in
    let e = in_front (length items) (item_tokens x ++ rest) (mark (codes "}") ∷ []) (in_back (length items) (item_tokens x) rest (more_items items)) in
    omega arith

some_item : (items : List Item) → is_some items ≡ true → 0 < length items
some_item [] h = absurd cc
some_item (x ∷ items) h = omega arith

items_proper : (items : List Item) → base_fits (enumerated items) ≡ true → 0 < length items
unfolding base_fits
items_proper items h = some_item items (and_left (is_some items) (list_all item_fits items) h)

items_in_base : (items : List Item) → length items ≤ length (base_tokens (enumerated items))
unfolding base_tokens
items_in_base items = behind_one (length items) (word (codes "ENUMERATED")) (in_braces (with_commas item_tokens items)) (items_few items)

pub items_listed : (t : AsnType) (items : List Item) → IsKept t → base_part t ≡ enumerated items → (0 < length items) × (length items < 2 ^ 64)
items_listed t items kept e =
    let proper = subst (λ (b : AsnBase). base_fits b ≡ true) e (base_proper t kept.fits) in
    let few = base_few t (length items) (subst (λ (b : AsnBase). length items ≤ length (base_tokens b)) (sym e) (items_in_base items)) in
    let most = kept.few in
    (items_proper items proper, omega arith)

alternatives_proper : (more : Alternatives) → base_fits (choice more) ≡ true → 0 < length (alternative_list more)
unfolding base_fits
alternatives_proper no_alternatives h = absurd cc
alternatives_proper (and_alternative name t more) h = omega arith

pub alternatives_listed : (t : AsnType) (more : Alternatives) → IsKept t → base_part t ≡ choice more → 0 < length (alternative_list more)
alternatives_listed t more kept e = alternatives_proper more (subst (λ (b : AsnBase). base_fits b ≡ true) e (base_proper t kept.fits))
