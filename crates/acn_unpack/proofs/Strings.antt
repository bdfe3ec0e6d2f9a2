-- Octets, bits and texts that a step reads.
use Rattle.std.proofs.Common.{◌≡◌, sym, subst}
use Rattle.std.specs.Prelude.{Result, IfOk, IfErr}
use Rattle.acn_bits.specs.Reading.{Reading}
use Rattle.acn_grammar.specs.Code.{Any}
use Rattle.acn_grammar.specs.Env.{Env}
use Rattle.acn_grammar.specs.Fails.{Here}
use Rattle.acn_grammar.specs.Grammar.{Grammar, Form, Data}
use Rattle.acn_grammar.specs.Scoped.{Known, form_after}
use Rattle.acn_grammar.specs.Spell.{FormPart}
use Rattle.acn_reads.specs.Decoded.{Fine, FormRead, FormStops, Passes}
use Rattle.acn_reads.specs.Steps.{Named, NoForm}
use Rattle.acn_reads.specs.declared.stop.Stop.{Stop}
use Rattle.acn_reads.proofs.Nodes.{ok_map}
use Rattle.acn_reads.proofs.StringReads.{form_passed, form_fails}
use Rattle.acn_unpack.specs.Keeps.{Halts}
use Rattle.acn_unpack.proofs.Halting.{stops_map}

module _ (root : Grammar) where
  pub string_read : {Kept : Type 0} (says : Kept → Data → Type 0) (form seen_as : Form) (t items : Env) (a b : Reading) (r : Result Kept Stop) → seen_as ≡ form → items ≡ t → ((ks : Known) → form_after ks form ≡ ks) → Fine root t
      → IfOk r (λ kept. (d : Data) × says kept d × ((root : Grammar) → Passes (λ env. FormPart root Any form env d) items a b)) → IfOk r (λ kept. (d : Data) × says kept d × FormRead root seen_as d t t a b)
  string_read says form seen_as t items a b r e i same m h =
      ok_map r _ _ (λ kept p. (p.0, p.1, subst (λ (x : Form). FormRead root x p.0 t t a b) (sym e) (form_passed root form p.0 t a b same m (subst (λ (x : Env). Passes (λ env. FormPart root Any form env p.0) x a b) i (p.2 root))))) h

  pub string_fails : {Kept : Type 0} (L M : Type 0) (form seen_as : Form) (here : Here) (t items : Env) (a : Reading) (r : Result Kept Stop) → (L → M) → seen_as ≡ form → items ≡ t → Fine root t
      → IfErr r (λ s. Halts L s (Named here.inside here.place (NoForm form items a))) → IfErr r (λ s. Halts M s (FormStops root seen_as here a.origin t a here.path))
  string_fails L M form seen_as here t items a r l e i m h =
      stops_map r L M _ _ l (λ q at n. subst (λ (x : Form). FormStops root x here a.origin t a here.path q at) (sym e) (form_fails root form here a.origin t a q at m (subst (λ (x : Env). Named here.inside here.place (NoForm form x a) q at) i n))) h
