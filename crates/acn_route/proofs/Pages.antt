-- What was put behind what stood on a page.
use Rattle.std.proofs.Common.{◌≡◌, ℕ, List, [], ◌∷◌, ◌++◌, length, take, codes, Some, refl, sym, ap, ◌∙◌, append_assoc}
use Rattle.std.proofs.Math.Seq.{take-append_seam}
use Rattle.acn_json.specs.Kept.{Kept}
use Rattle.acn_outside.specs.Moves.{Gains}
use Rattle.acn_outside.specs.Whole.{GainsFront}

some_list : (a b : List ℕ) → Some a ≡ Some b → a ≡ b
some_list a b e = cc

pub gained : (old new text : List ℕ) → Gains (Some old) (Some new) text → new ≡ old ++ text
gained old new text g = g.2 ∙ ap (λ (t : List ℕ). t ++ text) (sym (some_list old g.0 g.1))

pub front_kept : (old new text : List ℕ) → GainsFront (Some old) (Some new) text → Kept old new
front_kept old new text f = record { behind = f.0; same = gained old new f.0 f.3 }

pub kept_on : (old mid new text : List ℕ) → mid ≡ old ++ text → Kept mid new → Kept old new
kept_on old mid new text e k = record { behind = text ++ k.behind; same = k.same ∙ ap (λ (t : List ℕ). t ++ k.behind) e ∙ append_assoc old text k.behind }

-- a text between two
pub good_joined : (old a b new digits line : List ℕ) → a ≡ old ++ (codes "good " ++ (digits ++ (codes " " ++ []))) → b ≡ a ++ line → new ≡ b ++ (codes "\n" ++ [])
    → new ≡ old ++ (codes "good " ++ (digits ++ (codes " " ++ (line ++ (codes "\n" ++ [])))))
good_joined old a b new digits line first second third =
    let head : List ℕ = codes "good " ++ (digits ++ (codes " " ++ [])) in
    let tail : List ℕ = codes "\n" ++ [] in
    third ∙ ap (λ (t : List ℕ). t ++ tail) (second ∙ ap (λ (t : List ℕ). t ++ line) first) ∙ append_assoc (old ++ head) line tail ∙ append_assoc old head (line ++ tail)
    ∙ ap (λ (t : List ℕ). old ++ (codes "good " ++ t)) (append_assoc digits (codes " " ++ []) (line ++ tail))

-- a text that was put with a line feed
pub good_read : (old a new digits line : List ℕ) → a ≡ old ++ (codes "good " ++ (digits ++ (codes " " ++ []))) → new ≡ a ++ (line ++ 10 ∷ [])
    → new ≡ old ++ (codes "good " ++ (digits ++ (codes " " ++ (line ++ (codes "\n" ++ [])))))
good_read old a new digits line first second = good_joined old a (a ++ line) new digits line first refl (second ∙ sym (append_assoc a line (10 ∷ [])))

-- what stood there, where what was put is taken back
pub taken_back : (old text mid new : List ℕ) (mark : ℕ) → mark ≡ length old → mid ≡ old ++ text → new ≡ take mark mid → new ≡ old
taken_back old text mid new mark m e n = n ∙ ap (λ (k : ℕ). take k mid) m ∙ ap (take (length old)) e ∙ take-append_seam old text
