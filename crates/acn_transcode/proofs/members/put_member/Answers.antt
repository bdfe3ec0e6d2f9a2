use Rattle.std.proofs.Common.{◌≡◌, ◌<◌, ◌++◌, true, sym, ap, ◌∙◌, length, get_or, arith}
use Rattle.std.proofs.lemmas.Grind.{common_steps}
use Rattle.serde_json.specs.Written.{comma_if}
use Rattle.acn_grammar.specs.View.{field_of, fields_view}
use Rattle.acn_transcode.specs.declared.draft.Part.TheVariants.{Away, Text, Number}
use Rattle.acn_transcode.proofs.LaidTexts.{field_here, found_at, span_fits, member_put, no_member, number_there, value_put}
use Rattle.acn_transcode.proofs.Walks.{when_ok}
use Rattle.acn_transcode.proofs.members.put_member.Goals as goal

pub cut_out-requires-clause-rises : goal.cut_out-requires-clause-rises
cut_out-requires-clause-rises c =
    let t = c.args.turn.now in
    let l = c.requires.laid in
    let within : t.place < length c.args.parts.now = grind (arith, common_steps) in
    let same : Text c.in-Some-Text.span ≡ get_or c.args.parts.now t.place (Text c.in-Some-Text.span) = grind (arith, common_steps) in
    (span_fits _ _ _ _ (found_at c.args.aside.now (fields_view c.args.fields.now) c.args.parts.now l.0 t.field t.place t.key (Text c.in-Some-Text.span) l.1 l.2 l.3 within same)).0

pub cut_out-requires-clause-within : goal.cut_out-requires-clause-within
cut_out-requires-clause-within c =
    let t = c.args.turn.now in
    let l = c.requires.laid in
    let within : t.place < length c.args.parts.now = grind (arith, common_steps) in
    let same : Text c.in-Some-Text.span ≡ get_or c.args.parts.now t.place (Text c.in-Some-Text.span) = grind (arith, common_steps) in
    (span_fits _ _ _ _ (found_at c.args.aside.now (fields_view c.args.fields.now) c.args.parts.now l.0 t.field t.place t.key (Text c.in-Some-Text.span) l.1 l.2 l.3 within same)).1

pub returns-in-Some-Text-clause-put : goal.returns-in-Some-Text-clause-put
returns-in-Some-Text-clause-put c =
    let t = c.args.turn.now in
    let span = c.in-Some-Text.span in
    let within : t.place < length c.args.parts.now = grind (arith, common_steps) in
    let same : Text span ≡ get_or c.args.parts.now t.place (Text span) = grind (arith, common_steps) in
    λ sure ds laid has is ms. member_put _ _ _ _ t.key true ms _ _ (found_at c.args.aside.now (fields_view c.args.fields.now) c.args.parts.now ds t.field t.place t.key (Text span) laid has is within same) has (when_ok c.put_pair.result (sym c.is_ok.ensures.value ∙ sure) c.put_pair.ensures.added ∙ ap (λ v. c.args.text.now.items ++ comma_if true ++ t.key ++ v) c.cut_out.ensures)

pub returns-in-Some-Away-clause-put : goal.returns-in-Some-Away-clause-put
returns-in-Some-Away-clause-put c =
    let t = c.args.turn.now in
    let within : t.place < length c.args.parts.now = grind (arith, common_steps) in
    let same : Away ≡ get_or c.args.parts.now t.place Away = grind (arith, common_steps) in
    λ sure ds laid has is ms. no_member _ _ _ true ms _ (found_at c.args.aside.now (fields_view c.args.fields.now) c.args.parts.now ds t.field t.place t.key Away laid has is within same)

pub put_numbered-requires : goal.put_numbered-requires
put_numbered-requires c =
    let t = c.args.turn.now in
    let l = c.requires.laid in
    let f = c.in-Some.field.now in
    let x = c.in-Some-Number.x in
    let within : t.place < length c.args.parts.now = grind (arith, common_steps) in
    let same : Number x ≡ get_or c.args.parts.now t.place (Number x) = grind (arith, common_steps) in
    let inside : t.field < length c.args.fields.now = grind (arith, common_steps) in
    let here : f ≡ get_or c.args.fields.now t.field f = grind (arith, common_steps) in
    let v = number_there c.args.aside.now _ (field_of f) x _ (field_here c.args.fields.now t.field f inside here) (found_at c.args.aside.now (fields_view c.args.fields.now) c.args.parts.now l.0 t.field t.place t.key (Number x) l.1 l.2 l.3 within same) in
    record { short = c.requires.short; number = (v.0, v.2) }

pub returns-in-Some-clause-put : goal.returns-in-Some-clause-put
returns-in-Some-clause-put c =
    let t = c.args.turn.now in
    let f = c.in-Some.field.now in
    let x = c.in-Some-Number.x in
    let within : t.place < length c.args.parts.now = grind (arith, common_steps) in
    let same : Number x ≡ get_or c.args.parts.now t.place (Number x) = grind (arith, common_steps) in
    let inside : t.field < length c.args.fields.now = grind (arith, common_steps) in
    let here : f ≡ get_or c.args.fields.now t.field f = grind (arith, common_steps) in
    let is_here = field_here c.args.fields.now t.field f inside here in
    λ sure ds laid has is ms.
    let v = number_there c.args.aside.now _ (field_of f) x _ is_here (found_at c.args.aside.now (fields_view c.args.fields.now) c.args.parts.now ds t.field t.place t.key (Number x) laid has is within same) in
    let added = c.put_numbered.ensures.put sure v.0 v.2 in
    value_put _ (field_of f) _ v.0 t.key true ms c.args.text.now.items c.put_numbered.new.text.items is_here v.1 has added
