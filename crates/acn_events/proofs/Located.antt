-- The field that the walk has for a slot is the one that is found along the path of the node that asks.
use Rattle.std.proofs.Common.{◌≡◌, ℕ, zero, suc, ◌+◌, pos, Bool, true, false, List, [], ◌∷◌, ◌++◌, length, Option, Some, None, refl, sym, ap, ◌∙◌, arith, append_assoc, append-nil, map}
use Rattle.std.specs.Prelude.{option_map, unwrap_or}
use Rattle.std.specs.List.{AllByRecursion}
use Rattle.acn_num.specs.Bits.{octets as octets_for}
use Rattle.acn_grammar.specs.Asks.{Ask, Equal, Avoid, Moment, asks, counts, FieldPaths, field_of, field_steps, field_path, or_else, with_fields, asked, test_asks, presence_asks, size_asks, own_asks, rule_asks, run_moments, moments, fields_moments, alternative_moments, index_of, same_name}
use Rattle.acn_grammar.specs.Grammar.{Grammar, Form, Fields, Alternatives, Data, Places, Elements, node, num, octets, bits, text, seq, list, choice, contained, no_fields, component, inserted, no_alternatives, alternative, octet_string, bit_string, characters, record_of, list_of, alt, no_places, empty, filled, no_elements, element, element_count}
use Rattle.acn_grammar.specs.Length.{bit_length, number_of}
use Rattle.acn_grammar.specs.Paths.{field_at as field_node, alternative_at, if_some, node_along, part_node}
use Rattle.acn_grammar.specs.Slots.{items_of}
use Rattle.acn_grammar.specs.Tree.{holds}
use Rattle.acn_grammar.specs.declared.node.ChoiceRule.{ChoiceRule}
use Rattle.acn_grammar.specs.declared.node.ChoiceRule.TheVariants.{Index, Tests, Item}
use Rattle.acn_grammar.specs.declared.node.Presence.{Presence}
use Rattle.acn_grammar.specs.declared.node.Presence.TheVariants.{Always, Bit, When}
use Rattle.acn_grammar.specs.declared.node.SizeRule.{SizeRule}
use Rattle.acn_grammar.specs.declared.node.SizeRule.TheVariants.{Prefix, Slot, Ended}
use Rattle.acn_grammar.specs.declared.node.Test.{Test}
use Rattle.acn_grammar.specs.declared.node.Test.TheVariants.{Flag, Equals}
use Rattle.acn_packet_laws.proofs.Occurrences.{field_in, field_out}
use Rattle.acn_events.specs.Located.{form_here, here, in_some, located, behind, field_at}
use Rattle.acn_events.proofs.Small.{truth, if_yes, if_no}

-- the paths of fields that the walk has at a path
abbrev pub form_enters : Form → List ℕ → FieldPaths → FieldPaths
form_enters (seq fields home) at paths = with_fields at fields home paths
form_enters _ at paths = paths

abbrev pub enters : Grammar → List ℕ → FieldPaths → FieldPaths
enters (node align form) at paths = form_enters form at paths

abbrev pub along_some : Option Grammar → FieldPaths → (Grammar → FieldPaths) → FieldPaths
along_some None paths f = paths
along_some (Some g) paths f = f g

abbrev pub along : Grammar → (at path : List ℕ) → FieldPaths → FieldPaths
along g at [] paths = paths
along g at (k ∷ path) paths = along_some (part_node g k) (enters g at paths) (λ inside. along inside (at ++ k ∷ []) path (enters g at paths))

form_entered : (form : Form) (at : List ℕ) (paths : FieldPaths) (s : ℕ) → field_of (form_enters form at paths) s ≡ behind at (form_here form s) (field_of paths s)
form_entered (seq fields home) at paths s = truth {F = field_of (with_fields at fields home paths) s ≡ behind at (form_here (seq fields home) s) (field_of paths s)} (holds home s)
    (λ e. field_in (field_path at fields) home paths s e ∙ sym (ap (λ o. behind at o (field_of paths s)) (if_yes (holds home s) (Some (unwrap_or (field_steps fields 0 s) [])) None e)))
    (λ e. field_out (field_path at fields) home paths s e ∙ sym (ap (λ o. behind at o (field_of paths s)) (if_no (holds home s) (Some (unwrap_or (field_steps fields 0 s) [])) None e)))
form_entered (num leaf) at paths s = refl
form_entered (octets sizing) at paths s = refl
form_entered (bits sizing) at paths s = refl
form_entered (text leaf) at paths s = refl
form_entered (list sizing g) at paths s = refl
form_entered (choice cases rule) at paths s = refl
form_entered (contained sizing g) at paths s = refl

entered : (g : Grammar) (at : List ℕ) (paths : FieldPaths) (s : ℕ) → field_of (enters g at paths) s ≡ behind at (here g s) (field_of paths s)
entered (node align form) at paths s = form_entered form at paths s

-- found inside, or here
chosen : (inside mine : Option (List ℕ)) (at : List ℕ) (k : ℕ) (other outer : List ℕ) → other ≡ behind at mine outer → behind (at ++ k ∷ []) inside other ≡ behind at (or_else (option_map (λ f. k ∷ f) inside) mine) outer
chosen None mine at k other outer e = e
chosen (Some f) mine at k other outer e = append_assoc at (k ∷ []) f

step : (child : Option Grammar) (at path : List ℕ) (k s : ℕ) (paths : FieldPaths) (mine : Option (List ℕ)) (outer : List ℕ) → field_of paths s ≡ behind at mine outer
    → ((g : Grammar) → field_of (along g (at ++ k ∷ []) path paths) s ≡ behind (at ++ k ∷ []) (located g path s) (field_of paths s))
    → field_of (along_some child paths (λ inside. along inside (at ++ k ∷ []) path paths)) s ≡ behind at (or_else (option_map (λ f. k ∷ f) (in_some child (λ inside. located inside path s))) mine) outer
step None at path k s paths mine outer e h = e
step (Some g) at path k s paths mine outer e h = h g ∙ chosen (located g path s) mine at k (field_of paths s) outer e

pub found : (g : Grammar) (at path : List ℕ) (paths : FieldPaths) (s : ℕ) → field_of (along g at path paths) s ≡ behind at (located g path s) (field_of paths s)
found g at [] paths s = refl
found g at (k ∷ path) paths s = step (part_node g k) at path k s (enters g at paths) (here g s) (field_of paths s) (entered g at paths s) (λ inside. found inside (at ++ k ∷ []) path (enters g at paths) s)

-- The paths that the walk has at a path.

along_some_is : (o : Option Grammar) (paths : FieldPaths) → along_some o paths (λ inside. paths) ≡ paths
along_some_is None paths = refl
along_some_is (Some g) paths = refl

one_node : {a b : Grammar} → Some a ≡ Some b → a ≡ b
one_node e = cc

along_in : (o : Option Grammar) (at path : List ℕ) (j k : ℕ) (paths : FieldPaths) (h : Grammar) → if_some o (λ inside. node_along part_node inside path) ≡ Some h
    → ((inner : Grammar) → node_along part_node inner path ≡ Some h → along inner (at ++ j ∷ []) (path ++ k ∷ []) paths ≡ enters h ((at ++ j ∷ []) ++ path) (along inner (at ++ j ∷ []) path paths))
    → along_some o paths (λ inside. along inside (at ++ j ∷ []) (path ++ k ∷ []) paths) ≡ enters h (at ++ j ∷ path) (along_some o paths (λ inside. along inside (at ++ j ∷ []) path paths))
along_in None at path j k paths h e f = cc
along_in (Some inner) at path j k paths h e f = f inner e ∙ ap (λ z. enters h z (along inner (at ++ j ∷ []) path paths)) (append_assoc at (j ∷ []) path)

along_end : (g : Grammar) (at path : List ℕ) (k : ℕ) (paths : FieldPaths) (h : Grammar) → node_along part_node g path ≡ Some h → along g at (path ++ k ∷ []) paths ≡ enters h (at ++ path) (along g at path paths)
along_end g at [] k paths h e =
    along_some_is (part_node g k) (enters g at paths) ∙ (ap (λ (z : Grammar). enters z at paths) (one_node e) ∙ ap (λ z. enters h z paths) (sym (append-nil at)))
along_end g at (j ∷ path) k paths h e = along_in (part_node g j) at path j k (enters g at paths) h e (λ inner i. along_end inner (at ++ j ∷ []) path k (enters g at paths) h i)

last_step : (o : Option Grammar) → if_some o (λ inside. Some inside) ≡ o
last_step None = refl
last_step (Some x) = refl

node_in : (o : Option Grammar) (path : List ℕ) (k : ℕ) (h : Grammar) → if_some o (λ inside. node_along part_node inside path) ≡ Some h → ((inner : Grammar) → node_along part_node inner path ≡ Some h → node_along part_node inner (path ++ k ∷ []) ≡ part_node h k)
    → if_some o (λ inside. node_along part_node inside (path ++ k ∷ [])) ≡ part_node h k
node_in None path k h e f = cc
node_in (Some inner) path k h e f = f inner e

node_end : (g : Grammar) (path : List ℕ) (k : ℕ) (h : Grammar) → node_along part_node g path ≡ Some h → node_along part_node g (path ++ k ∷ []) ≡ part_node h k
node_end g [] k h e = last_step (part_node g k) ∙ ap (λ (z : Grammar). part_node z k) (one_node e)
node_end g (j ∷ path) k h e = node_in (part_node g j) path k h e (λ inner i. node_end inner path k h i)

both_all : {A : Type 0} (P : A → Type 0) (a b : List A) → AllByRecursion P a → AllByRecursion P b → AllByRecursion P (a ++ b)
both_all P [] b f g = g
both_all P (x ∷ a) b f g = (f.0, both_all P a b f.1 g)

module _ (root : Grammar) where
  -- the field of a moment is the one that is found
  abbrev pub IsLocated : Moment → Type 0
  IsLocated (asks path field s a) = field ≡ field_at root path s
  IsLocated (counts path n sizing) = Unit {0}

  abbrev pub AreLocated : List Moment → Type 0
  AreLocated ms = AllByRecursion IsLocated ms

  -- what the walk has at a path, and the node there
  pub record At (g : Grammar) (path : List ℕ) (paths : FieldPaths) : Type 0 where
    pub there : node_along part_node root path ≡ Some g
    pub paths_are : along root [] path [] ≡ paths

  -- at this path, whatever stands there
  abbrev Has : List ℕ → FieldPaths → Type 0
  Has path paths = along root [] path [] ≡ paths

  inside : (g h : Grammar) (path : List ℕ) (paths : FieldPaths) (k : ℕ) → At g path paths → part_node g k ≡ Some h → At h (path ++ k ∷ []) (enters g path paths)
  inside g h path paths k a e = record {
    there = node_end root path k g a.there ∙ e;
    paths_are = along_end root [] path k [] g a.there ∙ ap (enters g path) a.paths_are;
  }

  next_to : (g : Grammar) (path : List ℕ) (paths : FieldPaths) (k : ℕ) → At g path paths → Has (path ++ k ∷ []) (enters g path paths)
  next_to g path paths k a = along_end root [] path k [] g a.there ∙ ap (enters g path) a.paths_are

  one_located : (path : List ℕ) (paths : FieldPaths) → Has path paths → (s : ℕ) (a : Ask) → IsLocated (asked paths path s a)
  one_located path paths h s a = ap (λ z. field_of z s) (sym h) ∙ found root [] path [] s

  test_located : (path : List ℕ) (paths : FieldPaths) → Has path paths → (there : Bool) (t : Test) → IsLocated (test_asks paths path there t)
  test_located path paths h true (Flag s) = one_located path paths h s (Equal (pos 1))
  test_located path paths h false (Flag s) = one_located path paths h s (Equal (pos 0))
  test_located path paths h true (Equals s k) = one_located path paths h s (Equal k)
  test_located path paths h false (Equals s k) = one_located path paths h s (Avoid k)

  tests_located : (path : List ℕ) (paths : FieldPaths) → Has path paths → (there : Bool) (ts : List Test) → AreLocated (map (test_asks paths path there) ts)
  tests_located path paths h there [] = tt
  tests_located path paths h there (t ∷ ts) = (test_located path paths h there t, tests_located path paths h there ts)

  presence_located : (path : List ℕ) (paths : FieldPaths) → Has path paths → (there : Bool) (presence : Presence) → AreLocated (presence_asks paths path there presence)
  presence_located path paths h there Always = tt
  presence_located path paths h there Bit = tt
  presence_located path paths h there (When ts) = tests_located path paths h there ts

  size_located : (path : List ℕ) (paths : FieldPaths) → Has path paths → (n : ℕ) (rule : SizeRule) → AreLocated (size_asks paths path n rule)
  size_located path paths h n (Slot s) = (one_located path paths h s (Equal (pos n)), tt)
  size_located path paths h n (Prefix low width) = tt
  size_located path paths h n (Ended p) = tt

  own_located : (path : List ℕ) (paths : FieldPaths) → Has path paths → (own : Option ℕ) (d : Data) → AreLocated (own_asks paths path own d)
  own_located path paths h None d = tt
  own_located path paths h (Some s) d = (one_located path paths h s (Equal (number_of d)), tt)

  rule_located : (path : List ℕ) (paths : FieldPaths) (i : ℕ) → Has path paths → Has (path ++ i ∷ []) paths → (rule : ChoiceRule) (name : List ℕ) (ts : List Test) → AreLocated (rule_asks root paths path i rule name ts)
  rule_located path paths i h c (Index width) name ts = tests_located (path ++ i ∷ []) paths c true ts
  rule_located path paths i h c Tests name ts = tests_located (path ++ i ∷ []) paths c true ts
  rule_located path paths i h c (Item s) name ts = (one_located path paths h s (Equal (pos (index_of (same_name name) (items_of root s)))), tt)

  run_located : (each : ℕ → Data → List Moment) → ((k : ℕ) (d : Data) → AreLocated (each k d)) → (k : ℕ) (es : Elements) → AreLocated (run_moments each k es)
  run_located each h k no_elements = tt
  run_located each h k (element d es) = both_all IsLocated (each k d) (run_moments each (suc k) es) (h k d) (run_located each h (suc k) es)

  -- the fields from a number on
  abbrev From : (all : Fields) → ℕ → Fields → Type 0
  From all n fs = (m : ℕ) → field_node all (n + m) ≡ field_node fs m

  from_next : (all : Fields) (n : ℕ) (fs : Fields) → ((m : ℕ) → field_node all (n + suc m) ≡ field_node fs m) → From all (suc n) fs
  from_next all n fs h m = ap (field_node all) (moved n m) ∙ h m
    where
      moved : (a b : ℕ) → suc a + b ≡ a + suc b
      moved a b = omega arith

  from_here : (all : Fields) (n : ℕ) (g : Grammar) → field_node all (n + 0) ≡ Some g → field_node all n ≡ Some g
  from_here all n g h = ap (field_node all) (sym (none n)) ∙ h
    where
      none : (a : ℕ) → a + 0 ≡ a
      none a = omega arith

  zero_front : (n : ℕ) → 0 + n ≡ n
  zero_front n = omega arith

  mutual
    pub node_located : (g : Grammar) (path : List ℕ) (paths : FieldPaths) → At g path paths → (d : Data) → AreLocated (moments root g paths path d)
    node_located (node align (num leaf)) path paths a d = tt
    node_located (node align (octets sizing)) path paths a (octet_string os) = size_located path paths a.paths_are (length os) sizing.rule
    node_located (node align (bits sizing)) path paths a (bit_string bs) = size_located path paths a.paths_are (length bs) sizing.rule
    node_located (node align (text leaf)) path paths a (characters cs) = size_located path paths a.paths_are (length cs) leaf.sized.rule
    node_located (node align (seq fields home)) path paths a (record_of ps) =
        fields_located align fields home path paths a fields 0 (λ m. ap (field_node fields) (zero_front m)) ps
    node_located (node align (list sizing g)) path paths a (list_of es) =
        both_all IsLocated (size_asks paths path (element_count es) sizing.rule) (run_moments (λ k d. moments root g paths (path ++ k ∷ []) d) 0 es) (size_located path paths a.paths_are (element_count es) sizing.rule)
        (run_located (λ k d. moments root g paths (path ++ k ∷ []) d) (λ k d. node_located g (path ++ k ∷ []) paths (inside (node align (list sizing g)) g path paths k a refl) d) 0 es)
    node_located (node align (choice cases rule)) path paths a (alt i d) = case_located align cases rule path paths a cases i i d (λ g e. e)
    node_located (node align (contained sizing g)) path paths a d =
        both_all IsLocated (moments root g paths (path ++ 0 ∷ []) d) (counts path (octets_for (bit_length g 0 d)) sizing ∷ size_asks paths path (octets_for (bit_length g 0 d)) sizing.rule)
        (node_located g (path ++ 0 ∷ []) paths (inside (node align (contained sizing g)) g path paths 0 a refl) d) (tt, size_located path paths a.paths_are (octets_for (bit_length g 0 d)) sizing.rule)
    node_located (node align (octets sizing)) path paths a _ = tt
    node_located (node align (bits sizing)) path paths a _ = tt
    node_located (node align (text leaf)) path paths a _ = tt
    node_located (node align (seq _ home)) path paths a _ = tt
    node_located (node align (list sizing g)) path paths a _ = tt
    node_located (node align (choice cases rule)) path paths a _ = tt

    fields_located : (align : ℕ) (all : Fields) (home path : List ℕ) (paths : FieldPaths) → At (node align (seq all home)) path paths → (fs : Fields) (n : ℕ) → From all n fs → (ps : Places) → AreLocated (fields_moments root fs (with_fields path all home paths) path n ps)
    fields_located align all home path paths a (component name g presence default own fs) n f (filled d ps) =
        let q = path ++ n ∷ [] in
        let inner = with_fields path all home paths in
        let h : Has q inner = next_to (node align (seq all home)) path paths n a in
        let child = inside (node align (seq all home)) g path paths n a (from_here all n g (f 0)) in
        both_all IsLocated (own_asks inner q own d ++ presence_asks inner q true presence ++ moments root g inner q d) (fields_moments root fs inner path (suc n) ps)
        (both_all IsLocated (own_asks inner q own d ++ presence_asks inner q true presence) (moments root g inner q d)
        (both_all IsLocated (own_asks inner q own d) (presence_asks inner q true presence) (own_located q inner h own d) (presence_located q inner h true presence)) (node_located g q inner child d))
        (fields_located align all home path paths a fs (suc n) (from_next all n fs (λ m. f (suc m))) ps)
    fields_located align all home path paths a (component name g presence default own fs) n f (empty ps) =
        let q = path ++ n ∷ [] in
        let inner = with_fields path all home paths in
        both_all IsLocated (presence_asks inner q false presence) (fields_moments root fs inner path (suc n) ps) (presence_located q inner (next_to (node align (seq all home)) path paths n a) false presence)
        (fields_located align all home path paths a fs (suc n) (from_next all n fs (λ m. f (suc m))) ps)
    fields_located align all home path paths a (inserted name g slot fs) n f ps = fields_located align all home path paths a fs (suc n) (from_next all n fs (λ m. f (suc m))) ps
    fields_located align all home path paths a no_fields n f ps = tt
    fields_located align all home path paths a (component name g presence default own fs) n f no_places = tt

    case_located : (align : ℕ) (all : Alternatives) (rule : ChoiceRule) (path : List ℕ) (paths : FieldPaths) → At (node align (choice all rule)) path paths → (cases : Alternatives) (i j : ℕ) (d : Data) → ((g : Grammar) → alternative_at cases j ≡ Some g → alternative_at all i ≡ Some g) → AreLocated (alternative_moments root cases rule paths path i j d)
    case_located align all rule path paths a (alternative name g tests more) i zero d f =
        both_all IsLocated (rule_asks root paths path i rule name tests) (moments root g paths (path ++ i ∷ []) d) (rule_located path paths i a.paths_are (next_to (node align (choice all rule)) path paths i a) rule name tests)
        (node_located g (path ++ i ∷ []) paths (inside (node align (choice all rule)) g path paths i a (f g refl)) d)
    case_located align all rule path paths a (alternative name g tests more) i (suc j) d f = case_located align all rule path paths a more i j d f
    case_located align all rule path paths a no_alternatives i j d f = tt

-- of the whole walk
pub all_located : (root : Grammar) (d : Data) → AreLocated root (moments root root [] [] d)
all_located root d = node_located root root [] [] (record { there = refl; paths_are = refl }) d
