use Rattle.std.proofs.Common.{◌≡◌, [], Bool, true, false, cond, List, ℕ, Some, None, Result, Ok, Err, IsTrue, IsUtf8, refl, sym, ap, subst, arith}
use Rattle.std.specs.Str.{is_utf8}
use Rattle.std.proofs.lemmas.Str.{IsUtf8-from_is_utf8, is_utf8-from_IsUtf8}
use Rattle.serde_json.specs.Data.{Data}
use Rattle.serde_json.specs.Errors.{IsMemory}
use Rattle.serde_json.specs.Read.{read}
use Rattle.serde_json.specs.View.{view}
use Rattle.acn_grammar.specs.View.{grammar_of, data_of}
use Rattle.acn_json.specs.Answers.{Gives}
use Rattle.acn_json.specs.Reads.{json_in, or_not_json, after, value_from}
use Rattle.acn_json.proofs.ShapedLaw.{gives-fits}
use Rattle.acn_json.proofs.SizeLaw.{size-read}
use Rattle.acn_grammar.specs.Shaped.{fits}
use Rattle.acn_json.specs.declared.json_fault.JsonFault.{JsonFault}
use Rattle.acn_grammar.specs.declared.value.Value.{Value}
use Rattle.std.specs.Prelude.{IfOk}
use Rattle.acn_json.proofs.read.from_line.Goals as goal

json-is : (line : List ℕ) (j : Data) → IsUtf8 line → read line ≡ Some j → json_in line ≡ Some j
json-is line j u h = rw (is_utf8-from_IsUtf8 line u) h

no-json : (line : List ℕ) → (IsUtf8 line → read line ≡ None) → json_in line ≡ None
no-json line h = go (is_utf8 line) refl
  where
    go : (b : Bool) → is_utf8 line ≡ b → cond b (read line) None ≡ None
    go true e = h (IsUtf8-from_is_utf8 line e)
    go false e = refl

never : IsTrue false → ⊥
never h = cc

pub value_from-requires : goal.value_from-requires
value_from-requires c =
    let s = size-read c.args.line.now (view c.in-Ok.json) c.in-Ok.ensures.ok.1 in
    let short = c.requires in
    omega arith

pub returns-in-Ok-clause-gives : goal.returns-in-Ok-clause-gives
returns-in-Ok-clause-gives c =
    let g = grammar_of c.args.tree.now.root in
    let is = json-is c.args.line.now (view c.in-Ok.json) c.in-Ok.ensures.ok.0 c.in-Ok.ensures.ok.1 in
    subst (Gives data_of c.value_from.result) (sym (ap (λ o. after (or_not_json o) (value_from [] g)) is)) c.value_from.ensures

pub returns-in-Ok-clause-shaped : goal.returns-in-Ok-clause-shaped
returns-in-Ok-clause-shaped c = if_ok c.value_from.result c.value_from.ensures
  where
    if_ok : (r : Result Value JsonFault) → Gives data_of r (value_from [] (grammar_of c.args.tree.now.root) (view c.in-Ok.json)) → IfOk r (λ v. IsTrue (fits (grammar_of c.args.tree.now.root) (data_of v)))
    if_ok (Ok v) h = gives-fits (grammar_of c.args.tree.now.root) [] (view c.in-Ok.json) (data_of v) h
    if_ok (Err e) h = tt

pub returns-then-is_memory-clause-gives : goal.returns-then-is_memory-clause-gives
returns-then-is_memory-clause-gives c = tt

pub returns-else-is_memory-clause-gives : goal.returns-else-is_memory-clause-gives
returns-else-is_memory-clause-gives c =
    let other = λ (m : IsMemory c.in-Err.error). (let t = c.if-is_memory.ensures.1 m in never t) in
    let none = no-json c.args.line.now (c.in-Err.ensures.err other) in
    sym (ap (λ o. after (or_not_json o) (value_from [] (grammar_of c.args.tree.now.root))) none)
