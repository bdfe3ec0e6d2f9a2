-- Arguments that differ from the parameters. These rules are this profile's own.
use Rattle.std.specs.Prelude.{ℕ, Bool, true, false, not, ◌&&◌, ◌||◌, nat_eq, List, [], length, Option, Some, None, option_and_then, if◌then◌else◌}
use Rattle.std.specs.List.{zip, list_all}
use Rattle.acn_asn_syntax.specs.Mirror.{AsnType}
use Rattle.acn_acn_syntax.specs.declared.modules.AcnPath.{AcnPath}
use Rattle.acn_acn_syntax.specs.declared.modules.Param.{Param}
use Rattle.acn_acn_syntax.specs.declared.modules.ParamKind.{ParamKind}
use Rattle.acn_acn_syntax.specs.declared.modules.ParamKind.TheVariants as param
use Rattle.acn_index.specs.World.{World}
use Rattle.acn_index.specs.Lookup.{EntryAt}
use Rattle.acn_index.specs.Chains.{written, chain_of, gives_parameters, has_items}
use Rattle.acn_slots.specs.declared.slots.Sort.{Sort}
use Rattle.acn_slots.specs.declared.slots.Sort.TheVariants as sort
use Rattle.acn_slots.specs.declared.slots.Lead.{Lead}
use Rattle.acn_slots.specs.declared.slots.Lead.TheVariants as lead
use Rattle.acn_slots.specs.Slots.{Origin, named_chain, sort_of, braces_origin, leads}
use Rattle.acn_sites.specs.Sites.{Site, base_of, Inside, an_element, octets, inside_of, has_parameters, content_of}

-- ---- whether arguments stand for what is in a site

abbrev pub takes : World → ℕ → AsnType → Bool
takes w k t = has_parameters (chain_of w (written k t))

-- the element of a list without braces
abbrev pub element_takes : World → Site → AsnType → Option Origin → Bool
element_takes w s t None = takes w s.chain.owner t
element_takes w s t (Some from) = false

abbrev pub content_takes : World → Option (ℕ × AsnType) → Bool
content_takes w None = false
content_takes w (Some t) = takes w t.0 t.1

abbrev pub inside_takes : World → Site → Inside → Bool
inside_takes w s (an_element t) = element_takes w s t (braces_origin s.chain s.used)
inside_takes w s octets = content_takes w (content_of s.chain)
inside_takes w s _ = false

-- Arguments that the type of a site doesn't take, and that the type of its element or content takes, are that site's.
unfoldable pub are_passed_on : World → Site → Bool
are_passed_on w s = not (has_parameters s.chain) && inside_takes w s (inside_of (base_of s))

abbrev pub own_arguments : World → Site → List AcnPath
own_arguments w s = if are_passed_on w s then [] else s.used.arguments

-- ---- kinds

-- the kind of a parameter of an entry in a module, behind its references
abbrev pub sort_of_param : World → ℕ → ParamKind → Option Sort
sort_of_param w k param.Integer = Some sort.Integer
sort_of_param w k param.Boolean = Some sort.Boolean
sort_of_param w k (param.Ref name) = option_and_then sort_of (named_chain w k name)

abbrev pub same_sort : Sort → Sort → Bool
same_sort sort.Integer sort.Integer = true
same_sort sort.Boolean sort.Boolean = true
same_sort sort.Enumerated sort.Enumerated = true
same_sort _ _ = false

abbrev pub is_sort : Sort → Option Sort → Bool
is_sort x None = false
is_sort x (Some y) = same_sort x y

-- An argument has the kind of the determinant to which it leads, also of one that may be absent. One that leads to none has no kind, and
-- is left to the fault of its path.
abbrev pub lead_fits : Option Sort → Lead → Bool
lead_fits wanted (lead.Slot x) = is_sort x.sort wanted
lead_fits wanted lead.Nowhere = true
lead_fits wanted (lead.Absent through x) = is_sort x wanted

abbrev pub argument_fits : World → Site → ℕ → Param × AcnPath → Bool
argument_fits w s k a = lead_fits (sort_of_param w k a.0.kind) (leads w s.scope a.1.names)

-- ---- Arguments: their number or kinds differ from the parameters

-- the arguments fit the parameters of an entry that has some
abbrev pub entry_fits : World → Site → EntryAt → Bool
entry_fits w s e = not (gives_parameters e) || (nat_eq (length e.is.parameters) (length s.used.arguments) && list_all (argument_fits w s e.owner) (zip e.is.parameters s.used.arguments))

abbrev pub arguments_fit : World → Site → Bool
arguments_fit w s = if has_parameters s.chain then list_all (entry_fits w s) s.chain.entries else (not (has_items s.used.arguments) || are_passed_on w s)

unfoldable pub has_wrong_arguments : World → Site → Bool
has_wrong_arguments w s = not (arguments_fit w s)
