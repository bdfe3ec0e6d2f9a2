-- Names as lists, and members by their names.
use Rattle.std.proofs.Common.{◌≡◌, ℕ, ◌<◌, Bool, true, false, cond, List, Option, Some, None, option_map, Bor, Result, Ok, Err, refl, sym, ap, subst, ◌∙◌, arith}
use Rattle.std.specs.Prelude.{IfSome, OnOk, is_ok, is_some}
use Rattle.std.proofs.lemmas.Slice.Eq.{bytes_eq-Decides}
use Rattle.std.specs.Cmp.{both_ways}
use Rattle.std.specs.Str.{bytes_eq}
use Rattle.acn_firsts.specs.Placed.{place_of}
use Rattle.acn_grammar.specs.Grammar.{Fields, no_fields, component, inserted}
use Rattle.serde_json.specs.Data.{Members}
use Rattle.serde_json.specs.Find.{get_member}
use Rattle.serde_json.specs.View.{view}
use Rattle.serde_json.specs.declared.value.Value.{Value as Json}
use Rattle.acn_grammar.specs.Asks.{same_name}
use Rattle.acn_grammar.proofs.Characters.{same_name-is, same_name-refl}
use Rattle.acn_json.specs.Few.{size, members_size, component_places}
use Rattle.acn_json.specs.Reads.{has_component}
use Rattle.acn_json.proofs.Turns.{size-member}

pub names_differ : (xs ys : List ℕ) → same_name xs ys ≡ false → xs ≡ ys → ⊥
names_differ xs ys h e = let t : same_name xs ys ≡ true = subst (λ y. same_name xs y ≡ true) e (same_name-refl xs) in cc

pub few-some : (r : Option (Bor Json)) (name : List ℕ) (ms : Members) (n : ℕ) → option_map (λ j. view j.now) r ≡ get_member name ms → members_size ms < n → IfSome r (λ j. size (view j.now) < n)
few-some None name ms n h k = tt
few-some (Some j) name ms n h k = (let s = size-member name ms (view j.now) (sym h) in omega arith)

pub on-same : {A B E F : Type 0} (P : Type 0) (r : Result A E) (s : Result B F) → is_ok s ≡ is_ok r → OnOk r P → OnOk s P
on-same P (Ok a) (Ok b) h p = p
on-same P (Ok a) (Err e) h p = cc
on-same P (Err e) (Ok b) h p = cc
on-same P (Err e) (Err f) h p = p

-- Names in a map.

same_bytes : (a b : List ℕ) → bytes_eq a b ≡ same_name b a
same_bytes a b = both_ways (bytes_eq a b) (same_name b a)
    (λ h. ap (same_name b) ((bytes_eq-Decides a b).0 h) ∙ same_name-refl b)
    (λ h. (bytes_eq-Decides a b).1 (sym (same_name-is b a h)))

pub placed : (name : List ℕ) (fs : Fields) → is_some (place_of name (component_places fs)) ≡ has_component name fs
unfolding place_of
placed name no_fields = refl
placed name (component own g presence default slot fs) = placed_case (bytes_eq name own) refl (placed name fs)
  where
    placed_case : (b : Bool) → bytes_eq name own ≡ b → is_some (place_of name (component_places fs)) ≡ has_component name fs
        → is_some (cond b (Some 0) (place_of name (component_places fs))) ≡ cond (same_name own name) true (has_component name fs)
    placed_case true e h = rw (sym (same_bytes name own) ∙ e) refl
    placed_case false e h = rw (sym (same_bytes name own) ∙ e) h
placed name (inserted own g slot fs) = placed name fs
