use Rattle.std.proofs.Common.{◌≡◌, ℕ, zero, suc, ◌<◌, ◌≤◌, List, [], ◌∷◌, length, get_or, ◌++◌, false, refl, sym, ap, ◌∙◌, append_assoc, arith, rules}
use Rattle.std.proofs.lemmas.Grind.{common_steps}
use Rattle.serde_json.specs.Data.{no_members, member}
use Rattle.acn_grammar.specs.Grammar.{Data}
use Rattle.acn_grammar.specs.View.{grammar_of, alternatives_view}
use Rattle.acn_grammar.specs.declared.node.Alternative.{Alternative}
use Rattle.acn_grammar.specs.declared.node.Body.{the_lemmas as node_lemmas}
use Rattle.acn_grammar.specs.View.{data_of}
use Rattle.acn_grammar.proofs.Views.{view_seq, view_node, view_seq_form}
use Rattle.acn_json.specs.Lines.{json_of, alternative_json}
use Rattle.acn_json.specs.Lines.{fields_json}
use Rattle.acn_json.specs.Spots.{json_at, members_at}
use Rattle.acn_json.proofs.Objects.{first-within, first-member, json-here}
use Rattle.acn_json.proofs.Texts.{members-turn}
use Rattle.std.proofs.lemmas.Result.{on_ok_weaker}
use Rattle.serde_json.specs.Written.{compact_text, members_text}
use Rattle.acn_grammar.specs.View.{field_of, fields_view, places_view}
use Rattle.std.specs.Prelude.{option_map, None}
use Rattle.acn_json.proofs.write.+write.Goals as goal

alternative-at : (as' : List Alternative) (i : ℕ) (a : Alternative) (d : Data) → i < length as' → alternative_json (alternatives_view as') i d ≡ member (get_or as' i a).name (json_of (grammar_of (get_or as' i a).node) d) no_members
alternative-at [] i a d h = absurd (omega arith)
alternative-at (x ∷ xs) zero a d h = search (rules, node_lemmas)
alternative-at (x ∷ xs) (suc i) a d h = alternative-at xs i a d (omega arith)

alternative-past : (as' : List Alternative) (i : ℕ) (d : Data) → length as' ≤ i → alternative_json (alternatives_view as') i d ≡ no_members
alternative-past [] i d h = refl
alternative-past (x ∷ xs) zero d h = absurd (omega arith)
alternative-past (x ∷ xs) (suc i) d h = alternative-past xs i d (omega arith)

pub write_alternative-returns-in_ok-write_node-in-Some :
    goal.write_alternative-returns-in_ok-write_node-in-Some
write_alternative-returns-in_ok-write_node-in-Some t c =
    grind (arith, common_steps, alternative-at c.args.alternatives.now c.args.at c.in-Some.alternative.now (data_of c.args.v.now))

pub write_alternative-returns-in-None : goal.write_alternative-returns-in-None
write_alternative-returns-in-None t c = grind (arith, common_steps, alternative-past c.args.alternatives.now c.args.at (data_of c.args.v.now))

pub write_node-returns-in-Seq-v : goal.write_node-returns-in-Seq-v
write_node-returns-in-Seq-v t c = grind (arith, common_steps, view_seq, view_node, view_seq_form)

pub write_object-returns : goal.write_object-returns
write_object-returns t c =
    let fs = fields_view c.args.fields.now in
    let ps = places_view c.args.places.now in
    let ms = fields_json no_members fs ps in
    let brace : c.put_octet.new.out.items ≡ c.args.out.now.items ++ 123 ∷ [] = c.in_ok-put_octet.ensures.added in
    on_ok_weaker c.write_members.result
    (λ e. e ∙ (ap (λ xs. c.put_octet.new.out.items ++ members_text false xs) c.in_ok-known.ensures.members ∙ (ap (λ t. t ++ members_text false ms) brace ∙ append_assoc c.args.out.now.items (123 ∷ []) (members_text false ms)))) c.write_members.ensures

pub write_members-loop-name-preserved : goal.write_members-loop-name-preserved
write_members-loop-name-preserved t c =
    let l = c.loop-name in
    let fs = c.args.fields.now in
    let ps = c.args.places.now in
    let first = first-within (length fs) (length ps) l.name-iterator c.next.new.self c.in-Some.name.now c.in-Some.spot.now c.in-Some.ensures.steps l.invariant.within in
    let here = json-here fs ps c.in-Some.spot.now.field c.in-Some.spot.now.place c.index-fields-spot.result c.index-places-spot.result c.in-Some.spot.now first.0 first.1 c.index-fields-spot.is c.index-places-spot.is refl refl in
    record {
      within = first.2;
      same = members-turn l.later c.in-Some.name.now.now (json_at fs ps c.in-Some.spot.now) (members_at (json_at fs ps) c.next.new.self) l.out.items c.put_comma.new.out.items c.put_key.new.out.items c.write_place.new.out.items _ c.in_ok-put_comma.ensures.added c.in_ok-put_key.ensures.added
          (c.in_ok-write_place.ensures ∙ ap (λ j. c.put_key.new.out.items ++ compact_text j) (sym here))
          (sym (ap (λ ms. l.out.items ++ members_text l.later ms) (first-member (json_at fs ps) l.name-iterator c.next.new.self c.in-Some.name.now c.in-Some.spot.now c.in-Some.ensures.steps)) ∙ l.invariant.same);
    }
