-- The values that are made from a number: a linear congruence modulo 2^64 draws them. (This profile's own.)
use Rattle.std.specs.Prelude.{ℕ, zero, suc, ◌+◌, ◌*◌, ◌/◌, ◌%◌, ◌^◌, ℤ, pos, nat_abs, min, nat_eq, if◌then◌else◌, Bool, true, List, [], ◌∷◌, unwrap_or}
use Rattle.std.specs.Ordering.{int_eq}
use Rattle.acn_num.specs.Ranges.{count, nth}
use Rattle.acn_grammar.specs.Grammar.{Grammar, Form, Fields, Alternatives, Data, Places, Elements, node, num, octets, bits, text, seq, list, choice, contained, no_fields, component, inserted, no_alternatives, alternative, int, boolean, item, null, octet_string, bit_string, characters, record_of, list_of, alt, no_places, empty, filled, no_elements, element}
use Rattle.acn_grammar.specs.declared.node.NumKind.{NumKind}
use Rattle.acn_grammar.specs.declared.node.NumKind.TheVariants.{Integer, Boolean, Enumerated, Null}
use Rattle.acn_grammar.specs.declared.node.Presence.{Presence}
use Rattle.acn_grammar.specs.declared.node.Presence.TheVariants.{Always}

-- the number behind a number
abbrev pub step : ℕ → ℕ
step s = (s * 6364136223846793005 + 1442695040888963407) % 2 ^ 64

-- what is drawn, and the number of the draw behind it
pub record Drawn (A : Type 0) : Type 0 where
  pub value : A
  pub state : ℕ

-- one of n numbers from 0, by two steps
abbrev pub pick : (n state : ℕ) → Drawn ℕ
pick n s = record { value = (step s / 2 ^ 32 * 2 ^ 32 + step (step s) / 2 ^ 32) % n; state = step (step s) }

abbrev pub after : {A B : Type 0} → Drawn A → (A → ℕ → Drawn B) → Drawn B
after d next = next d.value d.state

abbrev pub is : {A B : Type 0} → (A → B) → Drawn A → Drawn B
is f d = record { value = f d.value; state = d.state }

-- the permitted number at a place
abbrev pub at_place : List (ℤ × ℤ) → ℕ → ℤ
at_place set n = unwrap_or (nth set n) (pos 0)

abbrev pub number : List (ℤ × ℤ) → ℕ → Drawn ℤ
number set s = is (at_place set) (pick (count set) s)

-- one of the first eight sizes
abbrev pub size : List (ℤ × ℤ) → ℕ → Drawn ℕ
size sizes s = is (λ n. nat_abs (at_place sizes n)) (pick (min (count sizes) 8) s)

-- n parts, one after another
abbrev pub parts : {A : Type 0} → (ℕ → Drawn A) → (n state : ℕ) → Drawn (List A)
parts each zero s = record { value = []; state = s }
parts each (suc n) s = after (each s) (λ x t. is (λ xs. x ∷ xs) (parts each n t))

abbrev pub elements : (ℕ → Drawn Data) → (n state : ℕ) → Drawn Elements
elements each zero s = record { value = no_elements; state = s }
elements each (suc n) s = after (each s) (λ d t. is (element d) (elements each n t))

abbrev pub string : {A : Type 0} → List (ℤ × ℤ) → (ℕ → Drawn A) → ℕ → Drawn (List A)
string sizes each s = after (size sizes s) (parts each)

abbrev pub number_data : NumKind → ℤ → Data
number_data Integer x = int x
number_data Boolean x = boolean (int_eq x (pos 1))
number_data Enumerated x = item (nat_abs x)
number_data Null x = null

abbrev pub alternative_count : Alternatives → ℕ
alternative_count no_alternatives = 0
alternative_count (alternative name g tests more) = suc (alternative_count more)

-- whether a component is there
abbrev pub presence : Presence → ℕ → Drawn Bool
presence Always s = record { value = true; state = s }
presence _ s = is (nat_eq 1) (pick 2 s)

abbrev mutual
  -- the value of a node, in preorder, a size before its parts
  pub made : Grammar → ℕ → Drawn Data
  made (node align form) s = form_made form s

  pub form_made : Form → ℕ → Drawn Data
  form_made (num leaf) s = is (number_data leaf.kind) (number leaf.set s)
  form_made (octets sizing) s = is octet_string (string sizing.sizes (pick 256) s)
  form_made (bits sizing) s = is bit_string (string sizing.sizes (λ t. is (nat_eq 1) (pick 2 t)) s)
  form_made (text leaf) s = is characters (string leaf.sized.sizes (λ t. is nat_abs (number leaf.alphabet t)) s)
  form_made (seq fields home) s = is record_of (fields_made fields s)
  form_made (list sizing g) s = after (size sizing.sizes s) (λ n t. is list_of (elements (made g) n t))
  form_made (choice cases rule) s = after (pick (alternative_count cases) s) (λ i t. is (alt i) (alternative_made cases i t))
  form_made (contained sizing g) s = made g s

  -- an inserted field draws nothing
  pub fields_made : Fields → ℕ → Drawn Places
  fields_made no_fields s = record { value = no_places; state = s }
  fields_made (component name g p default own fs) s =
      after (presence p s) (λ there t. if there then after (made g t) (λ d u. is (filled d) (fields_made fs u)) else is empty (fields_made fs t))
  fields_made (inserted name g slot fs) s = fields_made fs s

  pub alternative_made : Alternatives → ℕ → ℕ → Drawn Data
  alternative_made (alternative name g tests more) zero s = made g s
  alternative_made (alternative name g tests more) (suc i) s = alternative_made more i s
  alternative_made no_alternatives i s = record { value = null; state = s }

-- so many values, the draws going on from one to the next
abbrev pub values : Grammar → (count state : ℕ) → Drawn (List Data)
values root = parts (made root)
