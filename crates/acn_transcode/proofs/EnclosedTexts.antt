-- Members behind commas, of which an object is made.
use Rattle.std.proofs.Common.{◌≡◌, ℕ, suc, ◌+◌, ◌<◌, true, false, List, [], ◌∷◌, ◌++◌, length, set, refl, sym, ap, ◌∙◌, arith, length-append}
use Rattle.serde_json.specs.Data.{Members, no_members, member}
use Rattle.json.specs.Print.{quoted}
use Rattle.serde_json.specs.Written.{compact_text, members_text}
use Rattle.acn_json.specs.Kept.{Kept}

abbrev head : List ℕ → ℕ
head [] = 0
head (x ∷ xs) = x

abbrev tail : List ℕ → List ℕ
tail [] = []
tail (x ∷ xs) = xs

-- the comma in front becomes a brace
opened_at : (old text more end : List ℕ) → length old < length text → text ++ end ≡ old ++ 44 ∷ more → set text (length old) 123 ++ end ≡ old ++ 123 ∷ more
opened_at old [] more end h e = absurd (omega arith)
opened_at [] (x ∷ xs) more end h e = ap (λ t. 123 ∷ tail t) e
opened_at (o ∷ os) (x ∷ xs) more end h e = ap (λ t. head t ∷ (set xs (length os) 123 ++ end)) e ∙ ap (λ t. o ∷ t) (opened_at os xs more end (omega (arith, h)) (ap tail e))

-- without members nothing was put
same_length : (old text : List ℕ) → text ++ 125 ∷ [] ≡ old ++ 125 ∷ [] → length text ≡ length old
same_length old text e =
    let n = ap length e in
    let a = length-append text (125 ∷ []) in
    let b = length-append old (125 ∷ []) in
    omega arith

same_text : (old text : List ℕ) → text ++ 125 ∷ [] ≡ old ++ 125 ∷ [] → text ≡ old
same_text [] [] e = refl
same_text [] (x ∷ xs) e = absurd (let n = same_length [] (x ∷ xs) e in omega arith)
same_text (o ∷ os) [] e = absurd (let n = same_length (o ∷ os) [] e in omega arith)
same_text (o ∷ os) (x ∷ xs) e = ap (λ t. head t ∷ xs) e ∙ ap (λ t. o ∷ t) (same_text os xs (ap tail e))

longer : (old text more : List ℕ) → text ++ 125 ∷ [] ≡ old ++ 44 ∷ more → length text + 1 ≡ length old + suc (length more)
longer old text more e =
    let n = ap length e in
    let a = length-append text (125 ∷ []) in
    let b = length-append old (44 ∷ more) in
    omega arith

pub none_enclosed : (old text new : List ℕ) (mark : ℕ) (ms : Members) → mark ≡ length text → mark ≡ length old → text ++ 125 ∷ [] ≡ old ++ members_text true ms → new ≡ text ++ 123 ∷ 125 ∷ [] → new ≡ old ++ 123 ∷ members_text false ms
none_enclosed old text new mark no_members t o e n = n ∙ ap (λ s. s ++ 123 ∷ 125 ∷ []) (same_text old text e)
none_enclosed old text new mark (member k d ms) t o e n = absurd (
    let more = quoted k ++ 58 ∷ (compact_text d ++ members_text true ms) in
    let long = longer old text more e in
    let keyed = length-append (quoted k) (58 ∷ (compact_text d ++ members_text true ms)) in
    omega arith)

pub some_enclosed : (old text new : List ℕ) (mark : ℕ) (ms : Members) → (mark ≡ length text → ⊥) → mark ≡ length old → text ++ 125 ∷ [] ≡ old ++ members_text true ms → new ≡ set text mark 123 ++ 125 ∷ [] → new ≡ old ++ 123 ∷ members_text false ms
some_enclosed old text new mark no_members t o e n = absurd (t (o ∙ sym (same_length old text e)))
some_enclosed old text new mark (member k d ms) t o e n =
    let more = quoted k ++ 58 ∷ (compact_text d ++ members_text true ms) in
    let long = longer old text more e in
    let keyed = length-append (quoted k) (58 ∷ (compact_text d ++ members_text true ms)) in
    n ∙ (ap (λ i. set text i 123 ++ 125 ∷ []) o ∙ opened_at old text more (125 ∷ []) (omega arith) e)

set_behind : (old more : List ℕ) → set (old ++ more) (length old) 123 ≡ old ++ set more 0 123
set_behind [] more = refl
set_behind (o ∷ os) more = ap (λ t. o ∷ t) (set_behind os more)

-- what stands in front of the mark isn't changed
pub kept_set : (old text : List ℕ) (mark : ℕ) → mark ≡ length old → Kept old text → Kept old (set text mark 123)
kept_set old text mark o kept = record {
  behind = set kept.behind 0 123;
  same = ap (λ i. set text i 123) o ∙ (ap (λ t. set t (length old) 123) kept.same ∙ set_behind old kept.behind);
}
