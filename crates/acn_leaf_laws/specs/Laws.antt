-- The leaves of sites that have no reason are fine. (Which leaves are fine is said in Leaves of acn_grammar; the reasons are those of acn_survey.)
use Rattle.std.specs.Prelude.{◌≡◌, ℕ, ◌<◌, ◌^◌, Bool, true, false, List, [], length, map, None}
use Rattle.acn_asn_syntax.specs.Mirror.{AsnBase, enumerated}
use Rattle.acn_asn_syntax.specs.declared.types.Item.{Item}
use Rattle.acn_grammar.specs.Asks.{same_name}
use Rattle.acn_grammar.specs.Grammar.{Grammar}
use Rattle.acn_grammar.specs.Leaves.{all_differ, num_fine, text_fine, sizing_fine, list_fine}
use Rattle.acn_grammar.specs.Tree.{is_align, form_fine}
use Rattle.acn_index.specs.World.{World}
use Rattle.acn_leaves.specs.Leaves.{null_leaf, boolean_leaf}
use Rattle.acn_made.specs.Made.{alignment_at, number_at, form_at}
use Rattle.acn_made.specs.Named.{Slots}
use Rattle.acn_made.specs.Sized.{sizing_at, list_sizing_at, text_at}
use Rattle.acn_num.specs.Names.{Name}
use Rattle.acn_reasons.specs.Classes.{class_of, is_sized}
use Rattle.acn_reasons.specs.declared.classes.Class.{Class}
use Rattle.acn_reasons.specs.declared.classes.Class.TheVariants as class
use Rattle.acn_sites.specs.Sites.{Site, base_of}
use Rattle.acn_survey.specs.Reasons.{reason_at}
use Rattle.acn_world.specs.Repeated.{twice_base}

-- no reason of the survey holds at the site, as the site of this number in preorder
abbrev pub HasNoReason : World → ℕ → Site → Type 0
HasNoReason w number s = reason_at w number s ≡ None

-- ---- what no reason of a site says

abbrev pub item_names : List Item → List Name
item_names items = map (λ (i : Item). i.name) items

-- Items that an enumeration can have: there is one (X.680 clause 20), there are fewer than 2^64, and no two have one name.
pub record AreItems (items : List Item) : Type 0 where
  pub some : 0 < length items
  pub few : length items < 2 ^ 64
  pub differ : all_differ same_name (item_names items) ≡ true

abbrev pub HasItems : AsnBase → Type 0
HasItems (enumerated items) = AreItems items
HasItems _ = Unit {0}

-- The last of these holds where the enumeration repeats no name, which a fault of names would tell.
abbrev pub NamesDifferWhereNoneIsRepeated : Type 0
NamesDifferWhereNoneIsRepeated = (items : List Item) → twice_base (enumerated items) ≡ [] → all_differ same_name (item_names items) ≡ true

-- ---- laws, a type each

abbrev pub NullsAreFine : Type 0
NullsAreFine = (s : Site) → num_fine (null_leaf s) ≡ true

abbrev pub BooleansAreFine : Type 0
BooleansAreFine = (w : World) (number : ℕ) (s : Site) → HasNoReason w number s → class_of s ≡ class.Boolean → num_fine (boolean_leaf s) ≡ true

abbrev pub IntegersAreFine : Type 0
IntegersAreFine = (w : World) (number : ℕ) (s : Site) → HasNoReason w number s → class_of s ≡ class.Integer → num_fine (number_at w s) ≡ true

abbrev pub EnumerationsAreFine : Type 0
EnumerationsAreFine = (w : World) (number : ℕ) (s : Site) → HasNoReason w number s → class_of s ≡ class.Enumerated → HasItems (base_of s) → num_fine (number_at w s) ≡ true

-- OCTET STRING, contained octets and BIT STRING
abbrev pub SizesAreFine : Type 0
SizesAreFine = (w : World) (number : ℕ) (all : Slots) (s : Site) → HasNoReason w number s → is_sized (class_of s) ≡ true → sizing_fine (sizing_at w all s) ≡ true

-- SEQUENCE OF
abbrev pub ListsAreFine : Type 0
ListsAreFine = (w : World) (number : ℕ) (all : Slots) (s : Site) → HasNoReason w number s → class_of s ≡ class.List → list_fine (list_sizing_at w all s) ≡ true

abbrev pub TextsAreFine : Type 0
TextsAreFine = (w : World) (number : ℕ) (all : Slots) (s : Site) → HasNoReason w number s → class_of s ≡ class.Text → text_fine (text_at w all s) ≡ true

abbrev pub AlignmentsAreFine : Type 0
AlignmentsAreFine = (s : Site) → is_align (alignment_at s) ≡ true

-- ---- all of them

-- a SEQUENCE or a CHOICE, whose rules speak of the nodes inside
abbrev pub holds_nodes : Class → Bool
holds_nodes class.Sequence = true
holds_nodes class.Choice = true
holds_nodes _ = false

-- The form of every other site keeps its rules, however the nodes below are made.
abbrev pub FormsAreFine : Type 0
FormsAreFine = (w : World) (number : ℕ) (all : Slots) (made : Site → Grammar) (s : Site) → HasNoReason w number s → HasItems (base_of s) → holds_nodes (class_of s) ≡ false → form_fine (form_at w all made s (class_of s)) ≡ true
