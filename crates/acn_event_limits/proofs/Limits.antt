-- A slot is compared with not too many numbers: each is that of a condition, and an accepted tree has not too many of these.
use Rattle.std.proofs.Common.{◌≡◌, ℕ, ◌+◌, ◌<◌, ℤ, Bool, true, false, List, [], ◌∷◌, ◌++◌, length, map, nat_eq, refl, sym, subst, arith, inl}
use Rattle.std.specs.Prelude.{cond, count_by, if◌then◌else◌}
use Rattle.std.specs.List.{flat_map}
use Rattle.std.proofs.lemmas.List.Recursion.{is_count_by}
use Rattle.acn_grammar.specs.Check.{CheckFault, Undecodable, equals_on, is_equals_on, too_many_conditions}
use Rattle.acn_grammar.specs.Grammar.{Grammar}
use Rattle.acn_grammar.specs.Walk.{Use, condition, item_of, size_of, form_uses, nodes_of, own_tests, uses}
use Rattle.acn_grammar.specs.declared.limits.TheConstants.{MOST_CONDITIONS}
use Rattle.acn_grammar.specs.declared.node.Test.TheVariants.{Flag, Equals}
use Rattle.acn_grammar.proofs.SlotLists.{same_eq}
use Rattle.acn_event_limits.proofs.Members.{Member, Differ, member_left, member_map, member_flat, no_longer, place_of}
use Rattle.acn_event_limits.proofs.Sources.{IsCompared, IsField}

-- the numbers with which conditions compare the slot
abbrev number_on : ℕ → Use → List ℤ
number_on s (condition (Equals t k)) = if nat_eq s t then k ∷ [] else []
number_on s (condition (Flag t)) = []
number_on s (item_of t) = []
number_on s (size_of t) = []

abbrev numbers_on : ℕ → List Use → List ℤ
numbers_on s us = flat_map (number_on s) us

one_number : (s : ℕ) (u : Use) (rest : List ℤ) → length (number_on s u ++ rest) ≡ cond (is_equals_on s u) (1 + length rest) (length rest)
one_number s (condition (Equals t k)) rest = by (nat_eq s t)
  where
    by : (b : Bool) → length ((if b then k ∷ [] else []) ++ rest) ≡ cond b (1 + length rest) (length rest)
    by true = omega arith
    by false = refl
one_number s (condition (Flag t)) rest = refl
one_number s (item_of t) rest = refl
one_number s (size_of t) rest = refl

-- as many as conditions
counted : (s : ℕ) (us : List Use) → length (numbers_on s us) ≡ count_by (is_equals_on s) us
counted s us = is_count_by (λ vs. length (numbers_on s vs)) (is_equals_on s) refl (λ u vs. one_number s u (numbers_on s vs)) us

among_numbers : (root : Grammar) (s : ℕ) (k : ℤ) → IsCompared (nodes_of root) s k → Member k (numbers_on s (flat_map uses (nodes_of root)))
among_numbers root s k c =
    let u = condition (Equals s k) in
    let own = member_left u (map condition (own_tests c.at.role)) (form_uses c.at.form) (member_map condition (Equals s k) (own_tests c.at.role) c.condition) in
    member_flat (number_on s) u k (flat_map uses (nodes_of root)) (member_flat uses c.at u (nodes_of root) c.is_one own) (subst (λ b. Member k (if b then k ∷ [] else [])) (sym (same_eq s)) (inl refl))

pub few_compared : (root : Grammar) → ((f : CheckFault) → Undecodable root f → ⊥) → (s : ℕ) → IsField (nodes_of root) s → (ks : List ℤ) → Differ ks → ((k : ℤ) → Member k ks → IsCompared (nodes_of root) s k) → MOST_CONDITIONS < length ks → ⊥
few_compared root none s field ks differ compared many =
    let place = place_of field.at (nodes_of root) field.is_one in
    let most = no_longer ks (numbers_on s (flat_map uses (nodes_of root))) differ (λ k m. among_numbers root s k (compared k m)) in
    let count = counted s (flat_map uses (nodes_of root)) in
    none (too_many_conditions field.at.path (equals_on root s)) (record {
      node = place.0;
      use_here = 0;
      holds = record { at = field.at; is_at = place.1; path_is = refl; slot = s; slot_is = field.slot; count_is = refl; many = omega (arith, most, count, many) };
    })
