-- A use of a slot asks for the kind of number that its field is.
use Rattle.std.proofs.Common.{[], refl, ◌⊎◌, inl, inr}
use Rattle.acn_grammar.specs.Check.{det_kind, AsksFor}
use Rattle.acn_grammar.specs.Walk.{Use, condition, item_of, size_of, slot_of, nodes_of, root_node}
use Rattle.acn_grammar.specs.declared.node.NumKind.{NumKind}
use Rattle.acn_grammar.specs.declared.node.NumKind.TheVariants.{Integer, Boolean, Enumerated, Null}
use Rattle.acn_grammar.specs.declared.node.Test.TheVariants.{Flag, Equals}
use Rattle.acn_packet_laws.specs.Laws.{UsesFitTheirSlots}
use Rattle.acn_packet_laws.proofs.Homes.{truth, out}
use Rattle.acn_packet_laws.proofs.NodeLaws.{accepted_sound}
use Rattle.acn_packet_laws.proofs.Placed.{has_field}
use Rattle.acn_packet_laws.proofs.Scoping.{find_field}
use Rattle.acn_packet_laws.proofs.SlotLeaves.{no_node_leaf}

asks : (use' : Use) (kind : NumKind) → AsksFor use' kind ⊎ (AsksFor use' kind → ⊥)
asks (condition (Flag s)) Integer = inr (λ h. h)
asks (condition (Flag s)) Boolean = inl tt
asks (condition (Flag s)) Enumerated = inr (λ h. h)
asks (condition (Flag s)) Null = inr (λ h. h)
asks (condition (Equals s k)) Integer = inl tt
asks (condition (Equals s k)) Boolean = inr (λ h. h)
asks (condition (Equals s k)) Enumerated = inr (λ h. h)
asks (condition (Equals s k)) Null = inr (λ h. h)
asks (item_of s) Integer = inr (λ h. h)
asks (item_of s) Boolean = inr (λ h. h)
asks (item_of s) Enumerated = inl tt
asks (item_of s) Null = inr (λ h. h)
asks (size_of s) Integer = inl tt
asks (size_of s) Boolean = inr (λ h. h)
asks (size_of s) Enumerated = inr (λ h. h)
asks (size_of s) Null = inr (λ h. h)

pub uses_fit : UsesFitTheirSlots
uses_fit root k here u use' leaf a is is_use is_leaf =
    truth {F = AsksFor use' leaf.kind} (has_field (slot_of use') (nodes_of root))
    (λ h.
    let f = find_field (nodes_of root) (slot_of use') h in
    out {F = AsksFor use' leaf.kind} (asks use' leaf.kind) (λ yes'. yes') (λ no'. absurd (accepted_sound root a (det_kind here.path f.1.path) (record {
      node = k;
      use_here = u;
      holds = record {
        named = use';
        field_at = f.0;
        leaf = leaf;
        use_is = record { at = here; field = f.1; is_at = is; is_use = is_use; is_field = f.2; slot = f.3; user_path = refl; det_path = refl };
        leaf_is = is_leaf;
        another = no';
      };
    }))))
    (λ h. let none = no_node_leaf root root_node [] [] (slot_of use') h in cc)
