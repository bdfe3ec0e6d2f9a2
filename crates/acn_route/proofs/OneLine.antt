-- A packet has one line.
use Rattle.std.proofs.Common.{◌≡◌, ℕ, ◌<◌, List, [], ◌∷◌, ◌++◌, length, codes, refl, sym, ap, subst, ◌∙◌, arith}
use Rattle.std.specs.Fmt.{decimal}
use Rattle.std.specs.List.{concat}
use Rattle.acn_num.specs.Bits.{bits, octets as octets_for}
use Rattle.acn_grammar.specs.Faults.{reason_of, fault_of}
use Rattle.acn_grammar.specs.Fails as cases
use Rattle.acn_grammar.specs.Grammar.{Data}
use Rattle.acn_grammar.specs.LeafFails as wire
use Rattle.acn_grammar.specs.View.{grammar_of}
use Rattle.acn_grammar.specs.declared.fault.Fault.{Fault}
use Rattle.acn_grammar.specs.declared.fault.Reason.{Reason}
use Rattle.acn_grammar.specs.declared.fault.Reason.TheVariants.{Short, OutOfRange, NotMinimal, BadDigit, BadCharacter, BadPattern, TooLong, SizeOutOfRange, NoAlternative, ContentSize, PastContent}
use Rattle.acn_json.specs.Lines.{line_of}
use Rattle.acn_packet_laws.specs.Laws.{OneFront, FrontsExcludeFailures, OneFailure}
use Rattle.acn_report.specs.Texts.{fault_words}
use Rattle.acn_route.specs.Laws.{OneLine}
use Rattle.acn_route.specs.Routing.{good, long, bad}
use Rattle.acn_route.specs.Space.{apid_of}

-- ---- a fault is told by the failure that it says

abbrev reason_back : wire.Reason → Reason
reason_back wire.short = Short
reason_back (wire.out_of_range x) = OutOfRange x
reason_back wire.not_minimal = NotMinimal
reason_back wire.bad_digit = BadDigit
reason_back wire.bad_character = BadCharacter
reason_back wire.bad_pattern = BadPattern
reason_back wire.too_long = TooLong
reason_back (wire.size_out_of_range n) = SizeOutOfRange n
reason_back wire.no_alternative = NoAlternative
reason_back (wire.content_size octets used) = ContentSize octets used
reason_back wire.past_content = PastContent

back_is : (r : Reason) → reason_back (reason_of r) ≡ r
back_is Short = refl
back_is (OutOfRange x) = refl
back_is NotMinimal = refl
back_is BadDigit = refl
back_is BadCharacter = refl
back_is BadPattern = refl
back_is TooLong = refl
back_is (SizeOutOfRange n) = refl
back_is NoAlternative = refl
back_is (ContentSize n used) = refl
back_is PastContent = refl

abbrev fault_back : cases.Fault → Fault
fault_back f = record { path = f.path; reason = reason_back f.reason; at = f.at }

fault_is : (f : Fault) → fault_back (fault_of f) ≡ f
fault_is f = ap (λ (r : Reason). record { path = f.path; reason = r; at = f.at }) (back_is f.reason)

one_fault : (f g : Fault) → fault_of f ≡ fault_of g → f ≡ g
one_fault f g e = sym (fault_is f) ∙ ap fault_back e ∙ fault_is g

not_both : (m n k : ℕ) → m ≡ n → octets_for m ≡ k → octets_for n < k → ⊥
not_both m n k e full less = omega (arith, full, subst (λ (x : ℕ). octets_for x < k) (sym e) less)

pub told : OneFront → FrontsExcludeFailures → OneFailure → OneLine
told one exclude failure tree packet _ _ _ _ a (good d m f e) (good d' n g e') =
    let same = one (grammar_of tree.root) (bits packet) d d' m n a f g in
    (refl, ap (λ (x : Data). concat (codes "good " ∷ decimal (apid_of packet) ∷ codes " " ∷ line_of (grammar_of tree.root) x ∷ codes "\n" ∷ [])) same.0)
told one exclude failure tree packet _ _ _ _ a (good d m f e) (long d' n g less) =
    absurd (not_both m n (length packet) (one (grammar_of tree.root) (bits packet) d d' m n a f g).1 e less)
told one exclude failure tree packet _ _ _ _ a (good d m f e) (bad why reach g) = absurd (exclude (grammar_of tree.root) (bits packet) d m (fault_of why) reach a f g)
told one exclude failure tree packet _ _ _ _ a (long d m f less) (good d' n g e) =
    absurd (not_both n m (length packet) (one (grammar_of tree.root) (bits packet) d' d n m a g f).1 e less)
told one exclude failure tree packet _ _ _ _ a (long d m f less) (long d' n g less') =
    let same = one (grammar_of tree.root) (bits packet) d d' m n a f g in
    (refl, ap (λ (x : ℕ). concat (codes "long " ∷ decimal (apid_of packet) ∷ codes " " ∷ decimal (length packet) ∷ codes " " ∷ decimal x ∷ codes "\n" ∷ [])) same.1)
told one exclude failure tree packet _ _ _ _ a (long d m f less) (bad why reach g) = absurd (exclude (grammar_of tree.root) (bits packet) d m (fault_of why) reach a f g)
told one exclude failure tree packet _ _ _ _ a (bad why reach f) (good d n g e) = absurd (exclude (grammar_of tree.root) (bits packet) d n (fault_of why) reach a g f)
told one exclude failure tree packet _ _ _ _ a (bad why reach f) (long d n g less) = absurd (exclude (grammar_of tree.root) (bits packet) d n (fault_of why) reach a g f)
told one exclude failure tree packet _ _ _ _ a (bad why reach f) (bad other more g) =
    let same = one_fault why other (failure (grammar_of tree.root) (bits packet) (fault_of why) (fault_of other) reach more a f g).0 in
    (refl, ap (λ (x : Fault). concat (codes "bad " ∷ decimal (apid_of packet) ∷ codes " " ∷ (fault_words tree x ++ codes "\n" ∷ []))) same)
