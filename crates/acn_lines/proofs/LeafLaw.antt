-- What a token gives to a leaf.
use Rattle.std.proofs.Common.{◌≡◌, ℕ, zero, suc, ◌^◌, ◌<◌, ◌≤◌, ℤ, pos, Bool, true, false, ◌==◌, ◌&&◌, cond, nat_lt, nat_le, List, ◌∷◌, drop, Option, Some, None, option_map, option_and_then, refl, sym, ap, subst, arith, rules, lt-ltb, le-leb}
use Rattle.std.specs.Prelude.{slice_index, int_lt, FitsSigned, IfSome}
use Rattle.std.specs.Int.{w64}
use Rattle.fast_float.specs.Text.{Parts, scan, digits_of, IsInteger, with_sign}
use Rattle.json.specs.Token.{Token}
use Rattle.serde_json.specs.Data.{Num, unsigned, negative}
use Rattle.serde_json.specs.Data as json
use Rattle.serde_json.specs.Find.{as_integer}
use Rattle.serde_json.specs.Read.{number_of, is_integer}
use Rattle.acn_grammar.specs.Grammar.{Data, int, boolean, null, octet_string, bit_string, characters, list_of}
use Rattle.acn_grammar.specs.View.{data_of, elements_view}
use Rattle.acn_grammar.specs.declared.node.NumKind.TheVariants.{Integer, Boolean, Null}
use Rattle.acn_grammar.specs.declared.value.Value.{Value, Int, Octets, Bits, Text, List as List_value, the_lemmas}
use Rattle.acn_json.specs.Reads.{num_from}
use Rattle.acn_lines.specs.Taken.{LeafTaken}

-- Numbers.

whole_parts : (p : Parts) → IsInteger p → is_integer p ≡ true
whole_parts p h = rw (lt-ltb _ _ h.0, h.1, h.2) refl

pub natural_is : (s : List ℕ) (n : ℕ) → (slice_index s 0 == 45) ≡ false → IsInteger (scan s) → digits_of (scan s) < 2 ^ 64 → n ≡ digits_of (scan s) → option_and_then as_integer (number_of s) ≡ Some (pos n)
unfolding number_of
natural_is s n minus h few e = rw (minus, whole_parts (scan s) h, lt-ltb _ _ few) (ap (λ k. Some (pos k)) (sym e))

below : (d : ℕ) (o : Option Num) (x : ℤ) → FitsSigned w64 (with_sign true d) → x ≡ with_sign true d → int_lt x (pos 0) ≡ true → option_and_then as_integer (cond (nat_lt 0 d && nat_le d (2 ^ 63)) (Some (negative (with_sign true d))) o) ≡ Some x
below zero o x fits e low = let t = subst (λ z. int_lt z (pos 0) ≡ true) e low in cc
below (suc d) o x fits e low =
    let le : suc d ≤ 2 ^ 63 = (let b = fits.sfits in omega arith) in
    let some : 0 < suc d = omega arith in
    rw (lt-ltb _ _ some, le-leb _ _ le) (ap Some (sym e))

pub negative_is : (s : List ℕ) (x : ℤ) → (slice_index s 0 == 45) ≡ true → IsInteger (scan (drop 1 s)) → FitsSigned w64 (with_sign true (digits_of (scan (drop 1 s)))) → x ≡ with_sign true (digits_of (scan (drop 1 s))) → int_lt x (pos 0) ≡ true
    → option_and_then as_integer (number_of s) ≡ Some x
unfolding number_of
negative_is s x minus h fits e low = rw (minus, whole_parts (scan (drop 1 s)) h) (below (digits_of (scan (drop 1 s))) _ x fits e low)

-- Tokens.

pub integers_taken : (items : List (List ℕ × ℤ)) (s : List ℕ) (r : Option Value) (old new : List Token) → old ≡ Token.number s ∷ new → IfSome r (λ v. option_map int (option_and_then as_integer (number_of s)) ≡ Some (data_of v)) → IfSome r (λ v. LeafTaken (num_from Integer items) (data_of v) old new)
integers_taken items s None old new first h = tt
integers_taken items s (Some v) old new first h = go (number_of s) refl h
  where
    go : (o : Option Num) → number_of s ≡ o → option_map int (option_and_then as_integer o) ≡ Some (data_of v) → LeafTaken (num_from Integer items) (data_of v) old new
    go None is k = cc
    go (Some n) is k = record { token = Token.number s; said = json.number n; tokens = first; is = ap (option_map json.number) is; gives = k }

pub truth_taken : (items : List (List ℕ × ℤ)) (b : Bool) (v : Data) (old new : List Token) → old ≡ Token.boolean b ∷ new → v ≡ boolean b → LeafTaken (num_from Boolean items) v old new
truth_taken items b v old new first e = record { token = Token.boolean b; said = json.boolean b; tokens = first; is = refl; gives = ap Some (sym e) }

pub null_taken : (items : List (List ℕ × ℤ)) (v : Data) (old new : List Token) → old ≡ Token.null ∷ new → v ≡ null → LeafTaken (num_from Null items) v old new
null_taken items v old new first e = record { token = Token.null; said = json.null; tokens = first; is = refl; gives = ap Some (sym e) }

pub string_taken : (from : json.Data → Option Data) (s : List ℕ) (v : Data) (old new : List Token) → old ≡ Token.string s ∷ new → from (json.string s) ≡ Some v → LeafTaken from v old new
string_taken from s v old new first h = record { token = Token.string s; said = json.string s; tokens = first; is = refl; gives = h }

-- Values.

pub view_int : (x : ℤ) → data_of (Int x) ≡ int x
view_int x = search (rules, the_lemmas)

pub view_octets : (os : List ℕ) → data_of (Octets os) ≡ octet_string os
view_octets os = search (rules, the_lemmas)

pub view_bits : (bs : List Bool) → data_of (Bits bs) ≡ bit_string bs
view_bits bs = search (rules, the_lemmas)

pub view_text : (cs : List ℕ) → data_of (Text cs) ≡ characters cs
view_text cs = search (rules, the_lemmas)

pub view_list : (vs : List Value) → data_of (List_value vs) ≡ list_of (elements_view vs)
view_list vs = search (rules, the_lemmas)
