-- The faults of a world and its soundness exclude each other; ranks exclude cycles.
use Rattle.std.proofs.Common.{◌≡◌, ℕ, ◌<◌, List, Option, Some, None, sym, ◌∙◌, arith}
use Rattle.acn_index.specs.World.{World}
use Rattle.acn_graph.specs.Graph.{Among}
use Rattle.acn_world.specs.Cycles.{targets, Reaches, once, more, HasNoCycle}
use Rattle.acn_world.specs.Faults.{IsFault, early, cyclic, late, IsSound}
use Rattle.acn_index.specs.declared.sources.TypeId.{TypeId}
use Rattle.acn_world.specs.declared.fault.NameFault.{NameFault}

some_is_not_none : {A : Type 0} {o : Option A} {x : A} → o ≡ Some x → o ≡ None → ⊥
some_is_not_none {A} {o} {x} e f = let h : Some x ≡ None = sym e ∙ f in absurd (cc h)

pub sound : (w : World) (f : NameFault) → IsFault w f → IsSound w → ⊥
sound w f (early e) s = some_is_not_none e s.early
sound w f (cyclic e c o n) s = s.acyclic.none _ _ c.cyclic
sound w f (late e a l) s = some_is_not_none l s.late

module _ (w : World) (rank : TypeId → ℕ) (falls : (p q : TypeId) → Among q (targets w p) → rank q < rank p) where
  lower : {p q : TypeId} {way : List TypeId} → Reaches w p q way → rank q < rank p
  lower (once {p} {q} i) = falls p q i
  lower (more {p} {q} i r) = let a = falls p q i in let b = lower r in omega arith

  pub ranked : HasNoCycle w
  ranked = record { none = λ q round r. let h = lower r in absurd (omega arith) }

-- What is closed under references and never refers to an assignment doesn't reach it: how a search that ends without
-- finding it shows that it lies on no ring.
module _ (w : World) (p : TypeId) (Inside : TypeId → Type 0) (closed : (r t : TypeId) → Inside r → Among t (targets w r) → Inside t) (never : (r : TypeId) → Inside r → Among p (targets w r) → ⊥) where
  pub unreached : {r : TypeId} {way : List TypeId} → Inside r → Reaches w r p way → ⊥
  unreached {r} i (once e) = never r i e
  unreached {r} i (more {q = q} e rest) = unreached (closed r q i e) rest
