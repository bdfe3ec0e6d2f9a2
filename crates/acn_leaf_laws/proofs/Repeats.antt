-- Where an enumeration repeats no name, the names of its items differ.
use Rattle.std.proofs.Common.{◌≡◌, Bool, true, false, not, List, [], ◌∷◌, ◌++◌, append_assoc, refl, sym, subst, ◌∙◌}
use Rattle.std.specs.List.{list_any}
use Rattle.std.specs.Str.{bytes_eq}
use Rattle.std.proofs.lemmas.Bool.{and_from, or_parts, or_from, not_from_false, false_from_ne_true, true≢false}
use Rattle.std.proofs.lemmas.Slice.Eq.{bytes_eq-Decides}
use Rattle.acn_num.specs.Names.{Name}
use Rattle.acn_asn_syntax.specs.Mirror.{enumerated}
use Rattle.acn_asn_syntax.specs.declared.types.Item.{Item}
use Rattle.acn_grammar.specs.Asks.{same_name}
use Rattle.acn_grammar.specs.Leaves.{all_differ}
use Rattle.acn_grammar.proofs.Characters.{same_name-is}
use Rattle.acn_world.specs.Repeated.{is_among, when, repeated, twice_base}
use Rattle.acn_leaf_laws.specs.Laws.{item_names}

no_name : (b : Bool) (name : Name) (rest : List Name) → when b name ++ rest ≡ [] → (b ≡ false) × (rest ≡ [])
no_name true name rest h = cc
no_name false name rest h = (refl, h)

not_among : (front : List Name) (x : Name) (back : List Name) (name : Name) → is_among name (front ++ x ∷ back) ≡ false → bytes_eq name x ≡ false
not_among [] x back name h = (or_parts (bytes_eq name x) (is_among name back) h).0
not_among (y ∷ front) x back name h = not_among front x back name (or_parts (bytes_eq name y) (is_among name (front ++ x ∷ back)) h).1

other : (x name : Name) → bytes_eq name x ≡ false → same_name x name ≡ false
other x name h = false_from_ne_true (same_name x name) (λ same. true≢false (sym ((bytes_eq-Decides name x).1 (sym (same_name-is x name same))) ∙ h))

-- what stood before isn't named again
none_again : (front : List Name) (x : Name) (back names : List Name) → repeated (front ++ x ∷ back) names ≡ [] → list_any (same_name x) names ≡ false
unfolding repeated
none_again front x back [] h = refl
none_again front x back (name ∷ more) h =
    let n = no_name (is_among name (front ++ x ∷ back)) name (repeated ((front ++ x ∷ back) ++ name ∷ []) more) h in
    or_from (same_name x name) (list_any (same_name x) more) (other x name (not_among front x back name n.0))
    (none_again front x (back ++ name ∷ []) more (subst (λ (l : List Name). repeated l more ≡ []) (append_assoc front (x ∷ back) (name ∷ [])) n.1))

pub differ_behind : (seen names : List Name) → repeated seen names ≡ [] → all_differ same_name names ≡ true
unfolding repeated
differ_behind seen [] h = refl
differ_behind seen (name ∷ more) h =
    let n = no_name (is_among name seen) name (repeated (seen ++ name ∷ []) more) h in
    and_from (not (list_any (same_name name) more)) (all_differ same_name more) (not_from_false (list_any (same_name name) more) (none_again seen name [] more n.1)) (differ_behind (seen ++ name ∷ []) more n.1)

pub names_differ : (items : List Item) → twice_base (enumerated items) ≡ [] → all_differ same_name (item_names items) ≡ true
unfolding twice_base
names_differ items h = differ_behind [] (item_names items) h
