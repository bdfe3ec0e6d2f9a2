-- The first place at which two grammars differ.
use Rattle.std.specs.List.{AllByRecursion}
use Rattle.std.proofs.Common.{◌≡◌, ℕ, ℤ, ◌+◌, ◌<◌, List, [], ◌∷◌, ◌++◌, length, map, take, drop, get_or, Option, None, refl, sym, ap, ◌∙◌, subst, add-one}
use Rattle.std.proofs.lemmas.List.{drop_more, take-append-drop, map-append}
use Rattle.std.proofs.Math.Seq.{take-suc}
use Rattle.acn_compare.specs.Accepts.{Answering, Agree, AllAgree, Differs, FirstOf, answering, placed}
use Rattle.acn_compare.specs.Judging.{place_of, last_of, IsFound}
use Rattle.acn_compare.specs.declared.answer.Reason.{Reason}
use Rattle.acn_compare.specs.declared.comparing.Found.{Found}
use Rattle.acn_compare.specs.declared.places.Place as declared
use Rattle.acn_compare.specs.Tests.{Slots, Tells}
use Rattle.acn_grammar.specs.Grammar.{Grammar}
use Rattle.acn_grammar.specs.Tree.{IsTree}
use Rattle.acn_num.specs.declared.memory.NoMemory.{NoMemory}
use Rattle.std.specs.Prelude.{unwrap_or, slice_get, Result, IfOk}
use Rattle.acn_compare.proofs.Linked.{one_answer}
use Rattle.acn_compare.proofs.Pairing.{slots_tell}

-- a list up to a place, with the item there
pub all_join : {A : Type 0} (P : A → Type 0) (xs ys : List A) → AllByRecursion P xs → AllByRecursion P ys → AllByRecursion P (xs ++ ys)
all_join P [] ys p q = q
all_join P (x ∷ xs) ys p q = (p.0, all_join P xs ys p.1 q)

split : (i : ℕ) (ps : List declared.Place) (p : declared.Place) → i < length ps → p ≡ get_or ps i p → drop i ps ≡ p ∷ drop (i + 1) ps
split i ps p l e = drop_more ps i p l ∙ ap (λ q. q ∷ drop (i + 1) ps) (sym e)

taken : (i : ℕ) (ps : List declared.Place) (p : declared.Place) → i < length ps → p ≡ get_or ps i p → take (i + 1) ps ≡ take i ps ++ p ∷ []
taken i ps p l e = ap (λ n. take n ps) (add-one i) ∙ take-suc ps i p l ∙ ap (λ q. take i ps ++ q ∷ []) (sym e)

pub agree_next : (by : Answering) (i : ℕ) (ps : List declared.Place) (p : declared.Place) → i < length ps → p ≡ get_or ps i p → AllAgree by (map place_of (take i ps)) → ((r : Reason) → Agree by r (place_of p).old (place_of p).new) → AllAgree by (map place_of (take (i + 1) ps))
agree_next by i ps p l e before here =
    subst (AllAgree by) (sym (ap (map place_of) (taken i ps p l e) ∙ map-append place_of (take i ps) (p ∷ [])))
    (all_join (λ q. (r : Reason) → Agree by r q.old q.new) (map place_of (take i ps)) (place_of p ∷ []) before (here, tt))

pub first_here : (by : Answering) (i : ℕ) (ps : List declared.Place) (p : declared.Place) → i < length ps → p ≡ get_or ps i p → AllAgree by (map place_of (take i ps)) → (reason : Reason) (number : Option ℤ) → Differs by (place_of p).old (place_of p).new reason number → FirstOf by (map place_of ps) p.path reason number
first_here by i ps p l e before reason number d = record {
  before = map place_of (take i ps);
  here = place_of p;
  after = map place_of (drop (i + 1) ps);
  whole = ap (map place_of) (sym (take-append-drop i ps) ∙ ap (λ z. take i ps ++ z) (split i ps p l e)) ∙ map-append place_of (take i ps) (p ∷ drop (i + 1) ps);
  agree = before;
  least = d;
  path_is = refl;
}

-- the places of two trees, and the slots that answer to each other there
pub found_first : (old new : Grammar) (ps : List declared.Place) (slots : Slots) (result : Result (Option Found) NoMemory) → IsTree old → map place_of ps ≡ placed old new → ((s : ℕ) → unwrap_or (slice_get slots s) None ≡ last_of (answering (map place_of ps)) s None)
    → ((by : Answering) → Tells by slots → IfOk result (IsFound by (map place_of ps))) → IfOk result (IsFound (answering (placed old new)) (placed old new))
found_first old new ps slots result tree e noted found =
    let tells : Tells (answering (placed old new)) slots = slots_tell (answering (placed old new)) slots (one_answer old new tree) (λ s. noted s ∙ ap (λ q. last_of (answering q) s None) e) in
    subst (λ q. IfOk result (IsFound (answering (placed old new)) q)) e (found (answering (placed old new)) tells)
