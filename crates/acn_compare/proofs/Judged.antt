-- What differs at one place, from the tests in their order.
use Rattle.std.specs.Bool.{Decides}
use Rattle.std.proofs.Common.{◌≡◌, ℕ, suc, ℤ, Bool, true, false, List, [], ◌∷◌, Option, Some, None, refl, sym, subst, nat_eq, inl, inr}
use Rattle.std.proofs.lemmas.Bool.{true≢false}
use Rattle.std.proofs.lemmas.Bool.Decides.{Decides-eqb}
use Rattle.acn_num.specs.Ranges.{Ranges}
use Rattle.acn_grammar.specs.Grammar.{Grammar, Form, node}
use Rattle.acn_grammar.specs.View.{grammar_of, form_of}
use Rattle.acn_grammar.specs.declared.node.Node.{Node}
use Rattle.acn_grammar.proofs.Views.{view_node}
use Rattle.acn_compare.specs.Accepts.{Answering, rank, sets_of, Together, Permits, Agree, Keeps, Lost, Differs}
use Rattle.acn_compare.specs.Judging.{IsJudged, AreLeastLost}
use Rattle.acn_compare.specs.Tests.{Slots, Tells, same_kind, same_coding, same_names, same_fields, same_presence, same_determinants, same_alternatives, unless_so, written, made}
use Rattle.acn_compare.specs.declared.answer.Reason.{Reason}
use Rattle.acn_compare.specs.declared.answer.Reason.TheVariants as because
use Rattle.acn_compare.proofs.Deciding.{kind_decides, coding_decides, names_decide, fields_decide, presence_decides, determinants_decide, alternatives_decide}
use Rattle.acn_compare.proofs.Ranks.{Below, below_first, below_next, below_all}

module _ (by : Answering) (g h : Grammar) where
  -- nothing below the rank holds, or the reason is the least that does
  abbrev pub Told : (n : ℕ) → Option Reason → Type 0
  Told n None = Below by g h n
  Told n (Some r) = Differs by g h r None

  next : (n : ℕ) (b : Bool) (r : Reason) (others : Option Reason) → Decides b (Agree by r g h) → Keeps r g h None → Below by g h (rank r) → (Below by g h (suc (rank r)) → Told n others) → Told n (unless_so b r others)
  next n true r others d k below rest = rest (below_next by g h r below (d.0 refl))
  next n false r others d k below rest = record { earlier = below; differs = λ a. true≢false (sym (d.1 a)); keeps = k }

pub is_written : (by : Answering) (g h : Grammar) → Told by g h 4 (written g h)
is_written by (node a f) (node b f') =
    let g = node a f in
    let h = node b f' in
    next by g h 4 (same_kind f f') because.Kind _ (kind_decides f f') tt (below_first by g h)
    (λ p. next by g h 4 (nat_eq a b) because.Align _ (Decides-eqb a b) tt p
    (λ q. next by g h 4 (same_coding f f') because.Coding _ (coding_decides f f') tt q (λ r. r)))

pub is_made : (by : Answering) (slots : Slots) → Tells by slots → (a b : ℕ) (f f' : Form) → Below by (node a f) (node b f') 5 → Told by (node a f) (node b f') 10 (made slots f f')
is_made by slots tells a b f f' below =
    let g = node a f in
    let h = node b f' in
    next by g h 10 (same_names f f') because.Names _ (names_decide f f') tt below
    (λ p. next by g h 10 (same_fields f f') because.Fields _ (fields_decide f f') tt p
    (λ q. next by g h 10 (same_presence f f') because.Presence _ (presence_decides f f') tt q
    (λ r. next by g h 10 (same_determinants slots f f') because.Determinant _ (determinants_decide by slots tells f f') tt r
    (λ s. next by g h 10 (same_alternatives f f') because.Alternatives _ (alternatives_decide f f') tt s (λ t. t)))))

-- a number that is lost is no number of the other's
not_permitted : (olds news : List Ranges) (x : ℤ) → Lost olds news x → Together Permits olds news → ⊥
not_permitted [] news x l p = l
not_permitted (o ∷ os) [] x l p = l
not_permitted (o ∷ os) (n ∷ ns) x (inl l) p = l.lost (p.0 x l.had)
not_permitted (o ∷ os) (n ∷ ns) x (inr l) p = not_permitted os ns x l.1 p.1

-- the numbers that are lost, behind the first three reasons
pub is_lost : (by : Answering) (a b : ℕ) (f f' : Form) (x : ℤ) → Below by (node a f) (node b f') 4 → Lost (sets_of f) (sets_of f') x → Differs by (node a f) (node b f') because.Values (Some x)
is_lost by a b f f' x below l = record { earlier = below; differs = λ p. not_permitted (sets_of f) (sets_of f') x l p; keeps = l }

pub none_lost : (by : Answering) (a b : ℕ) (f f' : Form) → Below by (node a f) (node b f') 4 → Together Permits (sets_of f) (sets_of f') → Below by (node a f) (node b f') 5
none_lost by a b f f' below p = below_next by (node a f) (node b f') because.Values below p

-- The same of nodes.

at_nodes : (P : Grammar → Grammar → Type 0) (old new : Node) → P (node old.align (form_of old.body)) (node new.align (form_of new.body)) → P (grammar_of old) (grammar_of new)
at_nodes P old new p = subst (λ g. P g (grammar_of new)) (sym (view_node old)) (subst (λ h. P (node old.align (form_of old.body)) h) (sym (view_node new)) p)

below_written : (by : Answering) (g h : Grammar) → None ≡ written g h → Below by g h 4
below_written by g h e = subst (Told by g h 4) (sym e) (is_written by g h)

pub in_written : (by : Answering) (g h : Grammar) (r : Reason) → Some r ≡ written g h → IsJudged by g h (Some (record { reason = r; number = None }))
in_written by g h r e = subst (Told by g h 4) (sym e) (is_written by g h)

pub in_lost : (by : Answering) (old new : Node) (x : ℤ) → None ≡ written (grammar_of old) (grammar_of new) → AreLeastLost (sets_of (form_of old.body)) (sets_of (form_of new.body)) (Some x) → IsJudged by (grammar_of old) (grammar_of new) (Some (record { reason = because.Values; number = Some x }))
in_lost by old new x w l = at_nodes (λ g h. None ≡ written g h → Differs by g h because.Values (Some x)) old new
    (λ e. is_lost by old.align new.align (form_of old.body) (form_of new.body) x (below_written by (node old.align (form_of old.body)) (node new.align (form_of new.body)) e) l) w

told_made : (by : Answering) (slots : Slots) (old new : Node) → Tells by slots → None ≡ written (grammar_of old) (grammar_of new) → AreLeastLost (sets_of (form_of old.body)) (sets_of (form_of new.body)) None → Told by (grammar_of old) (grammar_of new) 10 (made slots (form_of old.body) (form_of new.body))
told_made by slots old new tells w l = at_nodes (λ g h. None ≡ written g h → Told by g h 10 (made slots (form_of old.body) (form_of new.body))) old new
    (λ e. is_made by slots tells old.align new.align (form_of old.body) (form_of new.body) (none_lost by old.align new.align (form_of old.body) (form_of new.body) (below_written by (node old.align (form_of old.body)) (node new.align (form_of new.body)) e) l)) w

pub in_made : (by : Answering) (slots : Slots) (old new : Node) (r : Reason) → Tells by slots → None ≡ written (grammar_of old) (grammar_of new) → AreLeastLost (sets_of (form_of old.body)) (sets_of (form_of new.body)) None → Some r ≡ made slots (form_of old.body) (form_of new.body)
    → IsJudged by (grammar_of old) (grammar_of new) (Some (record { reason = r; number = None }))
in_made by slots old new r tells w l e = subst (Told by (grammar_of old) (grammar_of new) 10) (sym e) (told_made by slots old new tells w l)

pub in_none : (by : Answering) (slots : Slots) (old new : Node) → Tells by slots → None ≡ written (grammar_of old) (grammar_of new) → AreLeastLost (sets_of (form_of old.body)) (sets_of (form_of new.body)) None → None ≡ made slots (form_of old.body) (form_of new.body) → IsJudged by (grammar_of old) (grammar_of new) None
in_none by slots old new tells w l e = below_all by (grammar_of old) (grammar_of new) (subst (Told by (grammar_of old) (grammar_of new) 10) (sym e) (told_made by slots old new tells w l))
