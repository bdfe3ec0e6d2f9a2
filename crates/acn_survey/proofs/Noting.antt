-- What is noted of one site, or why the walk stops there.
use Rattle.std.proofs.Common.{◌≡◌, rules, ℕ, ◌≤◌, List, [], ◌∷◌, ◌++◌, Option, Some, None, refl, ◌∙◌, ap, sym, option_map, Bool, true, false, drop, map}
use Rattle.std.proofs.lemmas.List.{append-nil, append_assoc, map-append}
use Rattle.acn_homes.specs.declared.uses.Use.{Use}
use Rattle.std.specs.Prelude.{Ok, Err, nat_lt}
use Rattle.std.specs.Option.{option_or}
use Rattle.acn_grammar.specs.declared.limits.TheConstants.{MOST_NODES}
use Rattle.acn_index.specs.World.{World}
use Rattle.acn_sites.specs.Attributes.{Given, nearest}
use Rattle.acn_sites.specs.declared.attributes.AttrKind.TheVariants as kind
use Rattle.acn_sites.specs.Sites.{Site}
use Rattle.acn_survey.specs.Walk.{fields_named, uses_at}
use Rattle.acn_reasons.specs.Standing.{is_too_deep}
use Rattle.acn_survey.specs.Reasons.{Reason, given, first, reasons_at, reason_at, fault_from, too_deep, too_many_nodes}
use Rattle.acn_survey.specs.Seen.{Noted, behind, unless_fault, surveyed}
use Rattle.acn_survey.specs.View.{reason_of, fault_with}
use Rattle.acn_survey.specs.declared.reason.MergeReason.{MergeReason}

abbrev use_by : List ℕ → List ℕ → Use
use_by user f = record { user = user; field = f }

-- ---- the number of a site without a reason

not_given : (b : Bool) (r : Reason) → given b r ≡ None → b ≡ false
not_given true r h = absurd (cc h)
not_given false r h = refl

in_limit : (n : ℕ) → nat_lt MOST_NODES n ≡ false → n ≤ MOST_NODES
in_limit n h = search (rules, h)

second_none : (a b : Option Reason) (more : List (Option Reason)) → first (a ∷ b ∷ more) ≡ None → b ≡ None
second_none None None more h = refl
second_none None (Some r) more h = absurd (cc h)
second_none (Some r) b more h = absurd (cc h)

some_none : (o : Option Reason) → None ≡ option_map Some o → o ≡ None
some_none None h = refl
some_none (Some r) h = absurd (cc h)

-- the reasons behind the first two
abbrev later : World → Site → List (Option Reason)
later w s = drop 2 (reasons_at w 0 s)

module _ (w : World) where
  pub few : (n : ℕ) (s : Site) → None ≡ option_map Some (reason_at w n s) → n ≤ MOST_NODES
  unfolding reason_at
  few n s h = in_limit n (not_given (nat_lt MOST_NODES n) too_many_nodes (second_none (given (is_too_deep s) too_deep) (given (nat_lt MOST_NODES n) too_many_nodes) (later w s) (some_none (first (reasons_at w n s)) h)))

  by_reason : (n : Noted) (text : List ℕ) (s : Site) (o : Option Reason) → o ≡ reason_at w n.next s → fault_from w n.next (record { text = text; site = s } ∷ []) ≡ option_or (option_map (fault_with text) o) None
  unfolding fault_from
  by_reason n text s o e = ap (λ x. option_or (option_map (fault_with text) x) None) (sym e)

  pub gone : (n : Noted) (text : List ℕ) (s : Site) → None ≡ option_map Some (reason_at w n.next s) → Ok (behind w n (record { text = text; site = s } ∷ [])) ≡ surveyed w n (record { text = text; site = s } ∷ [])
  unfolding surveyed
  gone n text s h = sym (ap (λ o. unless_fault o (behind w n (record { text = text; site = s } ∷ []))) (by_reason n text s None (sym (some_none (reason_at w n.next s) h))))

  refused_by : (n : Noted) (text : List ℕ) (s : Site) (r : Option Reason) (o : Option Reason) → o ≡ reason_at w n.next s → Some r ≡ option_map Some o
      → option_map Err (option_map (fault_with text) r) ≡ Some (surveyed w n (record { text = text; site = s } ∷ []))
  unfolding surveyed
  refused_by n text s r None e h = absurd (cc h)
  refused_by n text s None (Some x) e h = absurd (cc h)
  refused_by n text s (Some y) (Some x) e h = ap (λ z. Some (Err (fault_with text z))) (cc h) ∙ sym (ap (λ o. Some (unless_fault o (behind w n (record { text = text; site = s } ∷ [])))) (by_reason n text s (Some x) e))

  pub refused : (n : Noted) (text : List ℕ) (s : Site) (r : MergeReason) → Some (reason_of r) ≡ option_map Some (reason_at w n.next s)
      → option_map Err (option_map (fault_with text) (reason_of r)) ≡ Some (surveyed w n (record { text = text; site = s } ∷ []))
  refused n text s r h = refused_by n text s (reason_of r) (reason_at w n.next s) refl h

-- the uses of three attributes, one behind the other
pub three_uses : (user : List ℕ) (a b c : List (List ℕ)) (start one two three : List Use) → one ≡ start ++ map (use_by user) a → two ≡ one ++ map (use_by user) b → three ≡ two ++ map (use_by user) c
    → three ≡ start ++ map (use_by user) (a ++ (b ++ (c ++ [])))
three_uses user a b c start one two three e f g =
    g ∙ (ap (λ x. x ++ map (use_by user) c) (f ∙ ap (λ x. x ++ map (use_by user) b) e)
    ∙ (append_assoc (start ++ map (use_by user) a) (map (use_by user) b) (map (use_by user) c)
    ∙ (append_assoc start (map (use_by user) a) (map (use_by user) b ++ map (use_by user) c)
    ∙ ap (λ x. start ++ x) (sym (map-append (use_by user) a (b ++ (c ++ [])) ∙ ap (λ x. map (use_by user) a ++ x) (map-append (use_by user) b (c ++ []) ∙ ap (λ x. map (use_by user) b ++ map (use_by user) x) (append-nil c)))))))

-- the uses of a site
pub three_given : (w : World) (s : Site) (a b c : Option Given) (start one two three : List Use) → a ≡ nearest kind.Size s → b ≡ nearest kind.PresentWhen s → c ≡ nearest kind.Determinant s
    → one ≡ start ++ map (use_by s.path) (fields_named w s a) → two ≡ one ++ map (use_by s.path) (fields_named w s b) → three ≡ two ++ map (use_by s.path) (fields_named w s c)
    → three ≡ start ++ uses_at w s
three_given w s a b c start one two three p q r e f g =
    three_uses s.path (fields_named w s (nearest kind.Size s)) (fields_named w s (nearest kind.PresentWhen s)) (fields_named w s (nearest kind.Determinant s)) start one two three
    (e ∙ ap (λ x. start ++ map (use_by s.path) (fields_named w s x)) p)
    (f ∙ ap (λ x. one ++ map (use_by s.path) (fields_named w s x)) q)
    (g ∙ ap (λ x. two ++ map (use_by s.path) (fields_named w s x)) r)
