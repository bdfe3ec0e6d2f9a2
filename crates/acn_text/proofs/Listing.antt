-- Bits that are listed one by one.
use Rattle.std.proofs.Common.{◌≡◌, ℕ, zero, suc, ◌+◌, ◌<◌, ◌≤◌, Bool, List, [], ◌∷◌, ◌++◌, length, take, refl, sym, ap, ◌∙◌, arith, append_assoc, append-nil, get_or}
use Rattle.std.proofs.lemmas.List.{take_more, take_all}
use Rattle.acn_num.specs.Bits.{low_bits}
use Rattle.acn_grammar.specs.Spell.{character_number}
use Rattle.acn_grammar.specs.declared.node.TextLeaf.{TextLeaf}
use Rattle.acn_text.specs.Steps.{IsFitting, NumbersFit, character_bits}

-- Characters up to a place.

pub character_bits-append : (leaf : TextLeaf) (cs ds : List ℕ) → character_bits leaf (cs ++ ds) ≡ character_bits leaf cs ++ character_bits leaf ds
character_bits-append leaf [] ds = refl
character_bits-append leaf (c ∷ cs) ds = ap (λ (t : List Bool). low_bits leaf.width (character_number leaf c) ++ t) (character_bits-append leaf cs ds) ∙ sym (append_assoc (low_bits leaf.width (character_number leaf c)) (character_bits leaf cs) (character_bits leaf ds))

pub one_more : (leaf : TextLeaf) (cs : List ℕ) (i : ℕ) → i < length cs → character_bits leaf (take (i + 1) cs) ≡ character_bits leaf (take i cs) ++ low_bits leaf.width (character_number leaf (get_or cs i 0))
one_more leaf cs i h =
    ap (character_bits leaf) (take_more cs i 0 h) ∙ (character_bits-append leaf (take i cs) (get_or cs i 0 ∷ []) ∙ ap (λ (t : List Bool). character_bits leaf (take i cs) ++ t) (append-nil (low_bits leaf.width (character_number leaf (get_or cs i 0)))))

-- what is known of the character at a place
pub fit_at : (leaf : TextLeaf) (cs : List ℕ) (i : ℕ) → i < length cs → NumbersFit leaf cs → IsFitting leaf (get_or cs i 0)
fit_at leaf [] i h n = absurd (omega (arith, h))
fit_at leaf (c ∷ cs) zero h n = n.0
fit_at leaf (c ∷ cs) (suc i) h n = fit_at leaf cs i (omega (arith, h)) n.1

pub list_next : (leaf : TextLeaf) (cs : List ℕ) (i : ℕ) (first list new : List Bool) (number : ℕ) → i < length cs → list ≡ first ++ character_bits leaf (take i cs) → number ≡ character_number leaf (get_or cs i 0) → new ≡ list ++ low_bits leaf.width number → new ≡ first ++ character_bits leaf (take (i + 1) cs)
list_next leaf cs i first list new number h so_far is grown =
    grown ∙ (ap (λ (t : List Bool). t ++ low_bits leaf.width number) so_far ∙ (append_assoc first (character_bits leaf (take i cs)) (low_bits leaf.width number)
    ∙ ap (λ (t : List Bool). first ++ t) (ap (λ (k : ℕ). character_bits leaf (take i cs) ++ low_bits leaf.width k) is ∙ sym (one_more leaf cs i h))))

pub list_all_of : (leaf : TextLeaf) (cs : List ℕ) (i : ℕ) (first list : List Bool) → length cs ≤ i → list ≡ first ++ character_bits leaf (take i cs) → list ≡ first ++ character_bits leaf cs
list_all_of leaf cs i first list h e = e ∙ ap (λ (t : List ℕ). first ++ character_bits leaf t) (take_all i cs h)
