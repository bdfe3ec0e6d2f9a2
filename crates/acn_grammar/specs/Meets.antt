-- Which values meet the constraints of X.680 (value ranges, SIZE, FROM: 51.4, 51.5, 51.7), and the first place in preorder
-- where one doesn't. That a terminator may not stand inside a text is this profile's own.
use Rattle.std.specs.Prelude.{◌≡◌, ℕ, zero, suc, ℤ, pos, Bool, true, false, not, List, [], ◌∷◌, ◌++◌, length, map, take, drop, Option, Some, None, position}
use Rattle.std.specs.List.{range_with_len, find}
use Rattle.acn_num.specs.Ranges.{has}
use Rattle.acn_grammar.specs.Grammar.{Grammar, Form, Fields, Alternatives, Data, Places, Elements, node, num, octets, bits, text, seq, list, choice, contained, component, inserted, no_alternatives, alternative, octet_string, bit_string, characters, record_of, list_of, alt, empty, filled, no_elements, element, element_count}
use Rattle.acn_grammar.specs.Length.{number_of}
use Rattle.acn_grammar.specs.Shaped.{Shaped}
use Rattle.acn_grammar.specs.Spell.{octet_numbers}
use Rattle.acn_grammar.specs.Asks.{Ask, same_name}
use Rattle.acn_grammar.specs.declared.node.TextLeaf.{TextLeaf}
use Rattle.acn_grammar.specs.declared.node.Sizing.{Sizing}

pub data Why : Type 0 where
  out_of_range : ℤ → Why
  size_out_of_range : ℕ → Why
  bad_character : (index : ℕ) → Why
  terminator_inside : (index : ℕ) → Why
  conflict : (slot : List ℕ) → (earlier : Option Ask) → (wanted : Ask) → Why
  content_size : (octets : ℕ) → Why

pub record Unfit : Type 0 where
  pub path : List ℕ
  pub why : Why

abbrev pub unless : Bool → Why → List Why
unless true why = []
unless false why = why ∷ []

abbrev pub where_found : Option ℕ → (ℕ → Why) → List Why
where_found None why = []
where_found (Some i) why = why i ∷ []

abbrev pub size_breach : Sizing → ℕ → List Why
size_breach sizing n = unless (has sizing.sizes (pos n)) (size_out_of_range n)

-- the first place at which the terminator occurs in the text followed by it
abbrev pub first_end : List ℕ → List ℕ → Option ℕ
first_end end cs = find (λ i. same_name (take (length end) (drop i (cs ++ end))) end) (range_with_len 0 (length cs))

abbrev pub end_breach : Option (List Bool) → List ℕ → List Why
end_breach None cs = []
end_breach (Some end) cs = where_found (first_end (octet_numbers end) cs) terminator_inside

abbrev pub text_breach : TextLeaf → List ℕ → List Why
text_breach leaf cs = size_breach leaf.sized (length cs) ++ where_found (position (λ c. not (has leaf.alphabet (pos c))) cs) bad_character ++ end_breach leaf.ended cs

abbrev pub at_path : List ℕ → List Why → List Unfit
at_path path whys = map (λ why. record { path = path; why = why }) whys

abbrev pub run_breaches : (ℕ → Data → List Unfit) → ℕ → Elements → List Unfit
run_breaches each k no_elements = []
run_breaches each k (element d es) = each k d ++ run_breaches each (suc k) es

-- every place in preorder where the value doesn't meet its node
abbrev mutual
  pub breaches : List ℕ → Grammar → Data → List Unfit
  breaches path (node align form) d = form_breaches path form d

  pub form_breaches : List ℕ → Form → Data → List Unfit
  form_breaches path (num leaf) d = at_path path (unless (has leaf.set (number_of d)) (out_of_range (number_of d)))
  form_breaches path (octets sizing) (octet_string bs) = at_path path (size_breach sizing (length bs))
  form_breaches path (bits sizing) (bit_string bs) = at_path path (size_breach sizing (length bs))
  form_breaches path (text leaf) (characters cs) = at_path path (text_breach leaf cs)
  form_breaches path (seq fields home) (record_of ps) = field_breaches path 0 fields ps
  form_breaches path (list sizing g) (list_of es) = at_path path (size_breach sizing (element_count es)) ++ run_breaches (λ k d. breaches (path ++ k ∷ []) g d) 0 es
  form_breaches path (choice alternatives rule) (alt i d) = alternative_breaches path i alternatives i d
  form_breaches path (contained sizing g) d = breaches (path ++ 0 ∷ []) g d
  form_breaches path _ d = []

  pub field_breaches : List ℕ → ℕ → Fields → Places → List Unfit
  field_breaches path k (component name g presence default own fs) (filled d ps) = breaches (path ++ k ∷ []) g d ++ field_breaches path (suc k) fs ps
  field_breaches path k (component name g presence default own fs) (empty ps) = field_breaches path (suc k) fs ps
  field_breaches path k (inserted name g slot fs) ps = field_breaches path (suc k) fs ps
  field_breaches path k _ ps = []

  pub alternative_breaches : List ℕ → (i : ℕ) → Alternatives → (j : ℕ) → Data → List Unfit
  alternative_breaches path i (alternative name g tests more) zero d = breaches (path ++ i ∷ []) g d
  alternative_breaches path i (alternative name g tests more) (suc j) d = alternative_breaches path i more j d
  alternative_breaches path i no_alternatives j d = []

-- the value has the form of the node and meets its constraints
pub record Meets (g : Grammar) (d : Data) : Type 0 where
  pub shaped : Shaped g d
  pub none : breaches [] g d ≡ []

abbrev pub first_of : List Unfit → Option Unfit
first_of [] = None
first_of (u ∷ us) = Some u

abbrev pub breach : Grammar → Data → Option Unfit
breach g d = first_of (breaches [] g d)
