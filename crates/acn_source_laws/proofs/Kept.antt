-- A type that stands in proper sources is proper, and has no more tokens than their trees.
use Rattle.std.proofs.Common.{◌≡◌, ℕ, ◌<◌, ◌^◌, Bool, true, ◌&&◌, List, [], ◌∷◌, ◌++◌, length, map, Option, Some, None, refl, inl, inr, arith}
use Rattle.std.specs.Prelude.{codes, flat_map, option_and_then, slice_get}
use Rattle.std.specs.List.{list_all}
use Rattle.acn_lex.specs.Words.{is_identifier, is_reference}
use Rattle.acn_graph.specs.Graph.{Among, here, there}
use Rattle.acn_asn_syntax.specs.Mirror.{AsnModule, AsnType, Assign, TypeIs, ValueIs}
use Rattle.acn_asn_syntax.specs.Modules.{module_fits, module_tokens, head_tokens, assign_fits, assign_tokens, exports_fit, exports_tokens, import_fits, imports_tokens, oid_fits, tokens_of, IsProper}
use Rattle.acn_asn_syntax.specs.Spelling.{type_fits, type_tokens}
use Rattle.acn_asn_syntax.specs.Values.{Tokens, word, mark, value_tokens, value_fits, option_tokens, option_fits}
use Rattle.acn_asn_syntax.specs.View.{module_view}
use Rattle.acn_asn_syntax.specs.declared.modules.AsnModule as tree
use Rattle.acn_asn_syntax.specs.declared.modules.AsnModules.{AsnModules}
use Rattle.acn_index.specs.World.{world_of, asn_modules, place, assignment, type_of_assign}
use Rattle.acn_index.specs.declared.sources.Sources.{Sources}
use Rattle.acn_names.specs.Standing.{parts, Stands, assigned, inside}
use Rattle.acn_source_laws.specs.Laws.{AreProper}
use Rattle.acn_source_laws.proofs.Lists.{among_at, either_part}
use Rattle.acn_source_laws.proofs.Inside.{IsWithin, itself, one, left_test, right_test, front, back, part_in}

pub record IsKept (t : AsnType) : Type 0 where
  pub fits : type_fits t ≡ true
  pub few : length (type_tokens t) < 2 ^ 32

kept_inside : (t u : AsnType) → Among u (parts t) → IsKept t → IsKept u
kept_inside t u i h =
    let within = part_in t i in
    let few = within.few in
    let all = h.few in
    record { fits = within.fits h.fits; few = omega arith }

-- ---- assignments and modules

of_assign : (a : Assign) → IsWithin (type_of_assign a) (assign_fits a) (assign_tokens a)
unfolding assign_tokens
of_assign (TypeIs name t) = right_test (is_reference name) (type_fits t) _ (one (type_fits t) (word name) (one (type_fits t) (mark (codes "::=")) itself))
of_assign (ValueIs name t v) =
    let ts = word name ∷ (type_tokens t ++ mark (codes "::=") ∷ value_tokens v) in
    left_test (is_identifier name && type_fits t) (value_fits v) ts (right_test (is_identifier name) (type_fits t) ts
    (one (type_fits t) (word name) (front (type_fits t) (type_tokens t) (mark (codes "::=") ∷ value_tokens v) itself)))

of_items : (items : List Assign) (a : Assign) → Among a items → IsWithin (type_of_assign a) (list_all assign_fits items) (flat_map assign_tokens items)
of_items [] a i = absurd (elim i [ ])
of_items (b ∷ items) _ here = left_test (assign_fits b) (list_all assign_fits items) _ (front (assign_fits b) (assign_tokens b) (flat_map assign_tokens items) (of_assign b))
of_items (b ∷ items) a (there i) = right_test (assign_fits b) (list_all assign_fits items) _ (back (list_all assign_fits items) (assign_tokens b) (flat_map assign_tokens items) (of_items items a i))

of_module : (m : AsnModule) (a : Assign) → Among a m.items → IsWithin (type_of_assign a) (module_fits m) (module_tokens m)
unfolding module_tokens
of_module m a i =
    let before = head_tokens m ++ option_tokens exports_tokens m.exports ++ option_tokens imports_tokens m.imports in
    let fit = is_reference m.name && option_fits oid_fits m.oid && option_fits exports_fit m.exports && option_fits (list_all import_fits) m.imports in
    right_test fit (list_all assign_fits m.items) _ (front (list_all assign_fits m.items) (before ++ flat_map assign_tokens m.items) (word (codes "END") ∷ [])
    (back (list_all assign_fits m.items) before (flat_map assign_tokens m.items) (of_items m.items a i)))

-- ---- files

abbrev fit_of : tree.AsnModule → Bool
fit_of m = module_fits (module_view m)

abbrev tokens : tree.AsnModule → Tokens
tokens m = module_tokens (module_view m)

module _ {u : AsnType} where
  of_file : (ms : List tree.AsnModule) (m : AsnModule) → Among m (map module_view ms) → IsWithin u (module_fits m) (module_tokens m) → IsWithin u (list_all fit_of ms) (flat_map tokens ms)
  of_file [] m i h = absurd (elim i [ ])
  of_file (n ∷ ms) m here h = left_test (fit_of n) (list_all fit_of ms) _ (front (fit_of n) (tokens n) (flat_map tokens ms) h)
  of_file (n ∷ ms) m (there i) h = right_test (fit_of n) (list_all fit_of ms) _ (back (list_all fit_of ms) (tokens n) (flat_map tokens ms) (of_file ms m i h))

of_proper : (t : AsnModules) (u : AsnType) → IsProper t × (length (tokens_of t) < 2 ^ 32) → IsWithin u (list_all fit_of t.modules) (tokens_of t) → IsKept u
of_proper t u is h =
    let few = h.few in
    let all = is.1 in
    record { fits = h.fits is.0.1; few = omega arith }

in_trees : (ts : List AsnModules) (u : AsnType) (m : AsnModule) → ((t : AsnModules) → Among t ts → IsProper t × (length (tokens_of t) < 2 ^ 32)) → Among m (asn_modules ts) → IsWithin u (module_fits m) (module_tokens m) → IsKept u
in_trees [] u m proper i h = absurd (elim i [ ])
in_trees (t ∷ ts) u m proper i h = elim (either_part (map module_view t.modules) i) [
  | inl k ↦ of_proper t u (proper t here) (of_file t.modules m k h)
  | inr k ↦ in_trees ts u m (λ t j. proper t (there j)) k h
]

-- ---- what stands in their world

module _ (s : Sources) (proper : AreProper s) where
  assigned_kept : (k i : ℕ) (a : Assign) → assignment (world_of s) (place k i) ≡ Some a → IsKept (type_of_assign a)
  unfolding assignment world_of
  assigned_kept k i a e = by (slice_get (asn_modules s.asn) k) refl e
    where
      by : (o : Option AsnModule) → slice_get (asn_modules s.asn) k ≡ o → option_and_then (λ (m : AsnModule). slice_get m.items i) o ≡ Some a → IsKept (type_of_assign a)
      by None f g = cc
      by (Some m) f g = in_trees s.asn (type_of_assign a) m proper (among_at (asn_modules s.asn) k f) (of_module m a (among_at m.items i g))

  pub stands_kept : (k : ℕ) (t : AsnType) → Stands (world_of s) k t → IsKept t
  stands_kept k t (assigned i a e) = assigned_kept k i a e
  stands_kept k t (inside {t = outer} i stands) = kept_inside outer t i (stands_kept k outer stands)
