-- A walk along a path that keeps the slot of the field it stands at, and how many names lead up to the first that may be absent.
use Rattle.std.proofs.Common.{◌≡◌, ℕ, suc, ◌+◌, Bool, true, false, List, [], ◌∷◌, Option, Some, None, refl, sym, ap, ◌∙◌, arith, option_map, find}
use Rattle.std.specs.Prelude.{option_and_then, Result, Ok, Err, if◌then◌else◌}
use Rattle.acn_params.specs.Paths.{Field, is_named, is_optional, inside, along, slot_of_field, slot_of_last, answer, judged, first_absent, up_to_absent}
use Rattle.acn_params.specs.declared.scope.ParamFault.{ParamFault}
use Rattle.acn_params.specs.declared.scope.ParamFault.TheVariants.{UnknownPath}

-- what is answered behind some names, from what is kept
abbrev next : (Option ℕ → Option ℕ → List Field → Result ℕ ParamFault) → Option ℕ → ℕ → Option Field → Result ℕ ParamFault
next go absent i None = Err UnknownPath
next go absent i (Some f) = go (slot_of_field f) (first_absent absent i f) (inside f)

abbrev pub resume : Option ℕ → Option ℕ → ℕ → List Field → List (List ℕ) → Result ℕ ParamFault
resume slot absent i fs [] = answer slot absent
resume slot absent i fs (name ∷ names) = next (λ slot absent fs. resume slot absent (i + 1) fs names) absent i (find (is_named name) fs)

abbrev or_later : Option ℕ → ℕ → Option ℕ → Option ℕ
or_later (Some through) i later = Some through
or_later None i None = None
or_later None i (Some k) = Some (i + k)

abbrev judged_from : Option ℕ → Option ℕ → ℕ → Option (List Field) → Result ℕ ParamFault
judged_from slot absent i None = Err UnknownPath
judged_from slot absent i (Some []) = answer slot absent
judged_from slot absent i (Some (f ∷ fs)) = answer (slot_of_last (f ∷ fs)) (or_later absent i (up_to_absent (f ∷ fs)))

later_is : (absent : Option ℕ) (i : ℕ) (f : Field) (fs : List Field) → or_later (first_absent absent i f) (i + 1) (up_to_absent fs) ≡ or_later absent i (up_to_absent (f ∷ fs))
later_is (Some through) i f fs = refl
later_is None i f fs = by (is_optional f) (up_to_absent fs)
  where
    by : (b : Bool) (o : Option ℕ) → or_later (if b then Some (suc i) else None) (i + 1) o ≡ or_later None i (if b then Some 1 else option_map suc o)
    by true o = ap Some (omega arith)
    by false None = refl
    by false (Some k) = ap Some (omega arith)

none_later : (absent : Option ℕ) (i : ℕ) → or_later absent i None ≡ absent
none_later None i = refl
none_later (Some through) i = refl

one_more : (slot absent : Option ℕ) (i : ℕ) (f : Field) (o : Option (List Field)) → judged_from (slot_of_field f) (first_absent absent i f) (i + 1) o ≡ judged_from slot absent i (option_map (λ more. f ∷ more) o)
one_more slot absent i f None = refl
one_more slot absent i f (Some []) = ap (answer (slot_of_field f)) (sym (none_later (first_absent absent i f) (i + 1)) ∙ later_is absent i f [])
one_more slot absent i f (Some (g ∷ more)) = ap (answer (slot_of_last (g ∷ more))) (later_is absent i f (g ∷ more))

go_on : (go : Option ℕ → Option ℕ → List Field → Result ℕ ParamFault) (i : ℕ) (names : List (List ℕ))
    → ((slot absent : Option ℕ) (fs : List Field) → go slot absent fs ≡ judged_from slot absent (i + 1) (along fs names))
    → (slot absent : Option ℕ) (o : Option Field)
    → next go absent i o ≡ judged_from slot absent i (option_and_then (λ f. option_map (λ more. f ∷ more) (along (inside f) names)) o)
go_on go i names h slot absent None = refl
go_on go i names h slot absent (Some f) = h (slot_of_field f) (first_absent absent i f) (inside f) ∙ one_more slot absent i f (along (inside f) names)

resumed : (slot absent : Option ℕ) (i : ℕ) (fs : List Field) (names : List (List ℕ)) → resume slot absent i fs names ≡ judged_from slot absent i (along fs names)
resumed slot absent i fs [] = refl
resumed slot absent i fs (name ∷ names) = go_on (λ slot absent fs. resume slot absent (i + 1) fs names) i names (λ slot absent fs. resumed slot absent (i + 1) fs names) slot absent (find (is_named name) fs)

from_the_front : (o : Option (List Field)) → judged_from None None 0 o ≡ judged o
from_the_front None = refl
from_the_front (Some []) = refl
from_the_front (Some (f ∷ fs)) = ap (answer (slot_of_last (f ∷ fs))) (by (up_to_absent (f ∷ fs)))
  where
    by : (o : Option ℕ) → or_later None 0 o ≡ o
    by None = refl
    by (Some k) = ap Some (omega arith)

pub resumed_is_judged : (fs : List Field) (names : List (List ℕ)) → resume None None 0 fs names ≡ judged (along fs names)
resumed_is_judged fs names = resumed None None 0 fs names ∙ from_the_front (along fs names)
