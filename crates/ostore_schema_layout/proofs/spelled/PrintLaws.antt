-- Laws of the canonical text: that it spells a lawful schema.
use Rattle.std.proofs.Common.{◌≡◌, ◌≢◌, ℕ, zero, suc, ◌<◌, ◌≤◌, true, IsTrue, nat_lt, List, [], ◌∷◌, ◌++◌, length, map, codes, decimal, Option, Some, None, refl, arith}
use Rattle.std.specs.List.{AllByRecursion, flat_map, list_all, slice_get}
use Rattle.std.proofs.lemmas.Bool.{and_from, lt-ltb}
use Rattle.ostore_text_words.specs.Words.{is_identifier, dotted}
use Rattle.ostore_text_words.specs.Lines.{is_bare, is_bare_line}
use Rattle.ostore_text_words.proofs.BareWords.{decimal_ascii, decimal_bare, dotted_ascii, dotted_bare, identifier_ascii, identifier_bare, is_ascii_byte}
use Rattle.ostore_text_words.proofs.PrintedLines.{is_ascii_line, printed_lines, printed_utf8}
use Rattle.ostore_schema_layout.specs.declared.schema.Schema.{Schema}
use Rattle.ostore_schema_layout.specs.declared.schema.TypeDef.{TypeDef}
use Rattle.ostore_schema_layout.specs.declared.schema.TypeNo.{TypeNo}
use Rattle.ostore_schema_layout.specs.declared.schema.MemberDef.{MemberDef}
use Rattle.ostore_schema_layout.specs.declared.schema.MemberNo.{MemberNo}
use Rattle.ostore_schema_layout.specs.declared.schema.MemberKind.{MemberKind}
use Rattle.ostore_schema_layout.specs.declared.schema.MemberKind.TheVariants as kinds
use Rattle.ostore_schema_layout.specs.declared.schema.Inverse.{Inverse}
use Rattle.ostore_schema_layout.specs.Cells.{IsType}
use Rattle.ostore_schema_layout.specs.Numbers.{members_of_found, type_at, name_of_member, name_of_type, type_name}
use Rattle.ostore_schema_layout.specs.Lawful.{AreLawfulMembers, AreLawfulTypes, IsLawful, IsLawfulInverse, IsLawfulKind, IsLawfulMember, IsLawfulType}
use Rattle.ostore_schema_layout.specs.Spells.{Spells, canonical_text, inverse_words, kind_words, member_words, schema_lines, type_lines}
use Rattle.ostore_schema_layout.specs.Limits.{longest_schema}

-- ---- plain words: they stand in a text as they are, and are ASCII

abbrev IsPlain : List ℕ → Type 0
IsPlain word = (is_bare word ≡ true) × (list_all is_ascii_byte word ≡ true)

abbrev ArePlain : List (List ℕ) → Type 0
ArePlain words = AllByRecursion IsPlain words

plain_identifier : (word : List ℕ) → IsTrue (is_identifier word) → IsPlain word
plain_identifier word h = (identifier_bare word h, identifier_ascii word h)

plain_dotted : (first second : List ℕ) → IsTrue (is_identifier first) → IsTrue (is_identifier second) → IsPlain (dotted first second)
plain_dotted first second h k = (dotted_bare first second h k, dotted_ascii first second h k)

plain_decimal : (n : ℕ) → n ≤ 40 → IsPlain (decimal n)
plain_decimal n h = (decimal_bare n (omega arith), decimal_ascii n (omega arith))

all_append : {A : Type 0} (P : A → Type 0) (xs ys : List A) → AllByRecursion P xs → AllByRecursion P ys → AllByRecursion P (xs ++ ys)
all_append P [] ys h k = k
all_append P (x ∷ xs) ys h k = (h.0, all_append P xs ys h.1 k)

-- ---- the names in a lawful schema

abbrev IsNamedMember : MemberDef → Type 0
IsNamedMember member = IsTrue (is_identifier member.name)

abbrev IsNamed : Option TypeDef → Type 0
IsNamed None = Unit {0}
IsNamed (Some ty) = IsTrue (is_identifier ty.name) × AllByRecursion IsNamedMember ty.members

members_named : (schema : Schema) (ty : TypeNo) (start : ℕ) (members : List MemberDef) → AreLawfulMembers schema ty start members → AllByRecursion IsNamedMember members
members_named schema ty start [] lawful = tt
members_named schema ty start (member ∷ members) lawful = (lawful.0.name, members_named schema ty (suc start) members lawful.1)

found_named : (schema : Schema) (start n : ℕ) (types : List TypeDef) → AreLawfulTypes schema start types → IsNamed (slice_get types n)
found_named schema start n [] lawful = tt
found_named schema start zero (ty ∷ types) lawful = (lawful.0.name, members_named schema _ 0 ty.members lawful.0.members)
found_named schema start (suc n) (ty ∷ types) lawful = found_named schema (suc start) n types lawful.1

type_named : (schema : Schema) (n : ℕ) → IsLawful schema → IsNamed (type_at schema n)
type_named schema zero lawful = tt
type_named schema (suc n) lawful = found_named schema 1 n schema.types lawful.types

found_there : (types : List TypeDef) (n : ℕ) → n < length types → slice_get types n ≢ None
found_there [] n h = absurd (omega arith)
found_there (ty ∷ types) zero h = λ none. cc
found_there (ty ∷ types) (suc n) h = found_there types n (omega arith)

type_there : (schema : Schema) (n : ℕ) → IsType schema n → type_at schema n ≢ None
type_there schema zero h = absurd (omega arith)
type_there schema (suc n) h = found_there schema.types n (omega arith)

name_there : (found : Option TypeDef) → IsNamed found → found ≢ None → IsTrue (is_identifier (name_of_type found))
name_there None named there = absurd (there refl)
name_there (Some ty) named there = named.0

plain_type : (schema : Schema) (ty : TypeNo) → IsLawful schema → IsType schema ty.0 → IsPlain (type_name schema ty)
plain_type schema ty lawful there = plain_identifier _ (name_there (type_at schema ty.0) (type_named schema ty.0 lawful) (type_there schema ty.0 there))

found_member_named : (members : List MemberDef) (n : ℕ) (other : MemberDef) → AllByRecursion IsNamedMember members → slice_get members n ≡ Some other → IsTrue (is_identifier (name_of_member (slice_get members n)))
found_member_named [] n other named found = absurd cc
found_member_named (member ∷ members) zero other named found = named.0
found_member_named (member ∷ members) (suc n) other named found = found_member_named members n other named.1 found

plain_member : (found : Option TypeDef) (n : ℕ) (other : MemberDef) → IsNamed found → slice_get (members_of_found found) n ≡ Some other → IsPlain (dotted (name_of_type found) (name_of_member (slice_get (members_of_found found) n)))
plain_member None n other named found = absurd cc
plain_member (Some ty) n other named found = plain_dotted _ _ named.0 (found_member_named ty.members n other named.1 found)

-- ---- the words of lines

plain_kind : (schema : Schema) (kind : MemberKind) → IsLawful schema → IsLawfulKind schema kind → ArePlain (kind_words schema kind)
plain_kind schema kinds.Int lawful there = ((refl, refl), tt)
plain_kind schema (kinds.Text max) lawful there = ((refl, refl), (plain_decimal max there.1, tt))
plain_kind schema (kinds.Ref target) lawful there = ((refl, refl), (plain_type schema target lawful there, tt))
plain_kind schema (kinds.Set target) lawful there = ((refl, refl), (plain_type schema target lawful there, tt))
plain_kind schema (kinds.List target) lawful there = ((refl, refl), (plain_type schema target lawful there, tt))
plain_kind schema (kinds.DictInt target) lawful there = ((refl, refl), ((refl, refl), (plain_type schema target lawful there, tt)))
plain_kind schema (kinds.DictText target) lawful there = ((refl, refl), ((refl, refl), (plain_type schema target lawful there, tt)))

plain_inverse : (schema : Schema) (ty : TypeNo) (number : MemberNo) (kind : MemberKind) (inverse : Option Inverse) → IsLawful schema → IsLawfulInverse schema ty number kind inverse → ArePlain (inverse_words schema inverse)
plain_inverse schema ty number kind None lawful sided = tt
plain_inverse schema ty number kind (Some inverse) lawful sided =
    ((refl, refl), (plain_member (type_at schema inverse.ty.0) inverse.member.0 sided.named.other (type_named schema inverse.ty.0 lawful) sided.named.there, tt))

-- a line of some plain words
abbrev IsPlainLine : List (List ℕ) → Type 0
IsPlainLine line = (is_bare_line line ≡ true) × (is_ascii_line line ≡ true)

bare_words : (words : List (List ℕ)) → ArePlain words → list_all is_bare words ≡ true
bare_words [] plain = refl
bare_words (word ∷ words) plain = and_from (is_bare word) (list_all is_bare words) plain.0.0 (bare_words words plain.1)

ascii_words : (words : List (List ℕ)) → ArePlain words → list_all (list_all is_ascii_byte) words ≡ true
ascii_words [] plain = refl
ascii_words (word ∷ words) plain = and_from (list_all is_ascii_byte word) (list_all (list_all is_ascii_byte) words) plain.0.1 (ascii_words words plain.1)

plain_line : (word : List ℕ) (words : List (List ℕ)) → ArePlain (word ∷ words) → IsPlainLine (word ∷ words)
plain_line word words plain =
    (and_from (nat_lt 0 (length (word ∷ words))) (list_all is_bare (word ∷ words)) (lt-ltb 0 (length (word ∷ words)) (omega arith)) (bare_words (word ∷ words) plain), ascii_words (word ∷ words) plain)

plain_member_line : (schema : Schema) (ty : TypeNo) (number : MemberNo) (member : MemberDef) → IsLawful schema → IsLawfulMember schema ty number member → IsPlainLine (member_words schema member)
plain_member_line schema ty number member lawful own =
    plain_line member.name _ (plain_identifier member.name own.name, all_append IsPlain (kind_words schema member.kind) (inverse_words schema member.inverse) (plain_kind schema member.kind lawful own.kind) (plain_inverse schema ty number member.kind member.inverse lawful own.inverse))

plain_member_lines : (schema : Schema) (ty : TypeNo) (start : ℕ) (members : List MemberDef) → IsLawful schema → AreLawfulMembers schema ty start members → AllByRecursion IsPlainLine (map (member_words schema) members)
plain_member_lines schema ty start [] lawful own = tt
plain_member_lines schema ty start (member ∷ members) lawful own = (plain_member_line schema ty _ member lawful own.0, plain_member_lines schema ty (suc start) members lawful own.1)

plain_type_lines : (schema : Schema) (number : TypeNo) (ty : TypeDef) → IsLawful schema → IsLawfulType schema number ty → AllByRecursion IsPlainLine (type_lines schema ty)
plain_type_lines schema number ty lawful own =
    (plain_line (codes "type") (ty.name ∷ []) ((refl, refl), (plain_identifier ty.name own.name, tt)), plain_member_lines schema number 0 ty.members lawful own.members)

plain_lines : (schema : Schema) (start : ℕ) (types : List TypeDef) → IsLawful schema → AreLawfulTypes schema start types → AllByRecursion IsPlainLine (flat_map (type_lines schema) types)
plain_lines schema start [] lawful own = tt
plain_lines schema start (ty ∷ types) lawful own =
    all_append IsPlainLine (type_lines schema ty) (flat_map (type_lines schema) types) (plain_type_lines schema _ ty lawful own.0) (plain_lines schema (suc start) types lawful own.1)

bare_lines : (lines : List (List (List ℕ))) → AllByRecursion IsPlainLine lines → list_all is_bare_line lines ≡ true
bare_lines [] plain = refl
bare_lines (line ∷ lines) plain = and_from (is_bare_line line) (list_all is_bare_line lines) plain.0.0 (bare_lines lines plain.1)

ascii_lines : (lines : List (List (List ℕ))) → AllByRecursion IsPlainLine lines → list_all is_ascii_line lines ≡ true
ascii_lines [] plain = refl
ascii_lines (line ∷ lines) plain = and_from (is_ascii_line line) (list_all is_ascii_line lines) plain.0.1 (ascii_lines lines plain.1)

-- ---- spelled

pub spells_canonical : (schema : Schema) → IsLawful schema → length (canonical_text schema) ≤ longest_schema → Spells (canonical_text schema) schema
spells_canonical schema lawful short =
    let plain = plain_lines schema 1 schema.types lawful lawful.types in
    record {
      short = short;
      utf8 = printed_utf8 (schema_lines schema) (ascii_lines (schema_lines schema) plain);
      lines = printed_lines (schema_lines schema) (bare_lines (schema_lines schema) plain);
      lawful = lawful;
    }
