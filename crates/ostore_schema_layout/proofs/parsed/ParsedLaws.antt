-- A text is read as what it spells, and spells what it is read as.
use Rattle.std.proofs.Common.{◌≡◌, ℕ, ◌≤◌, Bool, true, false, cond, List, [], length, Option, Some, None, Result, Ok, Err, ◌⊎◌, inl, inr, refl, sym, ap, subst, ◌∙◌, leb}
use Rattle.std.specs.Prelude.{IfOk, IfErr}
use Rattle.std.specs.Str.{IsUtf8, is_utf8}
use Rattle.std.proofs.lemmas.Bool.{leb-true, le-leb}
use Rattle.std.proofs.lemmas.Str.{IsUtf8-from_is_utf8, is_utf8-from_IsUtf8}
use Rattle.ostore_text_words.specs.Lines.{lines_of, utf8_fault}
use Rattle.ostore_schema_layout.specs.declared.schema.Schema.{Schema}
use Rattle.ostore_schema_layout.specs.declared.declarations.TypeDeclaration.{TypeDeclaration}
use Rattle.ostore_schema_layout.specs.declared.fault.SchemaFault.{SchemaFault}
use Rattle.ostore_schema_layout.specs.declared.fault.SchemaFault.TheVariants as faults
use Rattle.ostore_schema_layout.specs.Spells.{Spells}
use Rattle.ostore_schema_layout.specs.Limits.{longest_schema}
use Rattle.ostore_schema_layout.specs.DeclaredBy.{declared_by}
use Rattle.ostore_schema_layout.specs.Faults.{faults_of, first_of}
use Rattle.ostore_schema_layout.specs.Resolved.{resolved}
use Rattle.ostore_schema_layout.specs.Order.{IsLeastFault}
use Rattle.ostore_schema_layout.specs.Parsed.{IsOrMemory, if_faultless, schema_of, if_utf8, parsed}
use Rattle.ostore_schema_layout.proofs.spelled.Declared.{naming}
use Rattle.ostore_schema_layout.proofs.spelled.DeclaredLaws.{declared_spelled, spelled_declared}
use Rattle.ostore_schema_layout.proofs.lawful.LawfulLaws.{lawful_named, naming_spelled, naming_faultless, naming_resolved}
use Rattle.ostore_schema_layout.proofs.ordered.OrderLaws.{least_fault}
use Rattle.ostore_schema_layout.proofs.resolved.ResolveLaws.{faultless_lawful, resolved_spelled}
use Rattle.ostore_schema_layout.proofs.resolved.ResolveLawsPlaces.{faultless_unplaced, resolved_unplaced}

-- ---- what a text that is read has

chosen : (test : Bool) (p q : Result Schema SchemaFault) (s : Schema) (fault : SchemaFault) → q ≡ Err fault → cond test p q ≡ Ok s → (test ≡ true) × (p ≡ Ok s)
chosen true p q s fault is e = (refl, e)
chosen false p q s fault is e = absurd cc

utf8_taken : (fault : Option ℕ) (read : Result Schema SchemaFault) (s : Schema) → if_utf8 fault read ≡ Ok s → (fault ≡ None) × (read ≡ Ok s)
utf8_taken None read s e = (refl, e)
utf8_taken (Some at) read s e = absurd cc

faultless_taken : (types : List TypeDeclaration) (fault : Option SchemaFault) (s : Schema) → if_faultless types fault ≡ Ok s → (fault ≡ None) × (◌≡◌ {A = Result Schema SchemaFault} (Ok (resolved types)) (Ok s))
faultless_taken types None s e = (refl, e)
faultless_taken types (Some fault) s e = absurd cc

schema_taken : (declared : Result (List TypeDeclaration) ℕ) (s : Schema) → schema_of declared ≡ Ok s
    → (types : List TypeDeclaration) × (declared ≡ Ok types) × (first_of (faults_of types) ≡ None) × (◌≡◌ {A = Result Schema SchemaFault} (Ok (resolved types)) (Ok s))
schema_taken (Ok types) s e = let f = faultless_taken types (first_of (faults_of types)) s e in (types, refl, f.0, f.1)
schema_taken (Err at) s e = absurd cc

utf8_from : (text : List ℕ) (test : Bool) (n : ℕ) → is_utf8 text ≡ test → cond {A = Option ℕ} test None (Some n) ≡ None → IsUtf8 text
utf8_from text true n is e = IsUtf8-from_is_utf8 text is
utf8_from text false n is e = absurd cc

ok_same : (r s : Schema) → ◌≡◌ {A = Result Schema SchemaFault} (Ok r) (Ok s) → r ≡ s
ok_same r s e = cc

spells_resolved : (text : List ℕ) (types : List TypeDeclaration) → length text ≤ longest_schema → IsUtf8 text → declared_by (lines_of text) ≡ Ok types → first_of (faults_of types) ≡ None → Spells text (resolved types)
spells_resolved text types short utf8 declared faultless =
    let words = declared_spelled (lines_of text) types declared in
    record { short = short; utf8 = utf8; lines = words.0 ∙ sym (resolved_spelled types words.1 faultless); lawful = faultless_lawful types words.1 faultless }

-- what is read is spelled in the text
pub parsed_spells : (text : List ℕ) (s : Schema) → parsed text ≡ Ok s → Spells text s
unfolding parsed
parsed_spells text s e =
    let a = chosen (leb (length text) longest_schema) (if_utf8 (utf8_fault text) (schema_of (declared_by (lines_of text)))) (Err (faults.TooLong longest_schema)) s (faults.TooLong longest_schema) refl e in
    let b = utf8_taken (utf8_fault text) (schema_of (declared_by (lines_of text))) s a.1 in
    let c = schema_taken (declared_by (lines_of text)) s b.1 in
    subst (λ (r : Schema). Spells text r) (ok_same (resolved c.0) s c.3)
    (spells_resolved text c.0 (leb-true (length text) longest_schema a.0) (utf8_from text (is_utf8 text) _ refl b.0) c.1 c.2)

-- ---- what a text that spells a schema is read as

none_first : (fs : List SchemaFault) → fs ≡ [] → first_of fs ≡ None
none_first fs e = ap first_of e

-- what is spelled in the text is read
pub spells_parsed : (text : List ℕ) (s : Schema) → Spells text s → parsed text ≡ Ok s
unfolding parsed
spells_parsed text s says =
    let named = lawful_named s says.lawful in
    let placed = spelled_declared (lines_of text) (naming s) (says.lines ∙ sym (naming_spelled s says.lawful)) named in
    let faultless = none_first (faults_of placed.0) (faultless_unplaced (naming s) placed.0 (sym placed.2) (naming_faultless s says.lawful)) in
    let same = resolved_unplaced placed.0 (naming s) placed.2 ∙ naming_resolved s says.lawful in
    rw (le-leb (length text) longest_schema says.short, is_utf8-from_IsUtf8 text says.utf8, placed.1, faultless, same) refl

-- ---- a reader's answer

pub is_spelled : (text : List ℕ) (result : Result Schema SchemaFault) → IsOrMemory result (parsed text) → IfOk result (λ schema. Spells text schema)
is_spelled text (Ok schema) given = parsed_spells text schema given
is_spelled text (Err fault) given = tt

ok_is_no_err : {P : Type 0} (read : Result Schema SchemaFault) (s : Schema) (fault : SchemaFault) → read ≡ Ok s → read ≡ Err fault → P
ok_is_no_err read s fault e f = let clash : ◌≡◌ {A = Result Schema SchemaFault} (Ok s) (Err fault) = sym e ∙ f in absurd cc

pub is_read_again : (text : List ℕ) (result : Result Schema SchemaFault) → IsOrMemory result (parsed text) → (schema : Schema) → Spells text schema → (result ≡ Ok schema) ⊎ (result ≡ Err faults.OutOfMemory)
is_read_again text (Ok found) given = λ schema says. inl (sym given ∙ spells_parsed text schema says)
is_read_again text (Err fault) (inl memory) = λ schema says. inr (ap (λ (f : SchemaFault). Err f) memory)
is_read_again text (Err fault) (inr found) = λ schema says. ok_is_no_err (parsed text) schema fault (spells_parsed text schema says) found

-- ---- the least fault

first_found : (types : List TypeDeclaration) (first : Option SchemaFault) (fault : SchemaFault) → if_faultless types first ≡ Err fault → first ≡ Some fault
first_found types None fault e = absurd cc
first_found types (Some found) fault e = cc

judged : (text : List ℕ) (types : List TypeDeclaration) → length text ≤ longest_schema → utf8_fault text ≡ None → declared_by (lines_of text) ≡ Ok types → parsed text ≡ if_faultless types (first_of (faults_of types))
unfolding parsed
judged text types short utf8 declared = rw (le-leb (length text) longest_schema short, utf8, declared) refl

least_found : (text : List ℕ) (fault : SchemaFault) → parsed text ≡ Err fault → IsLeastFault text fault
least_found text fault e = λ types short utf8 declared.
    least_fault text types fault declared (first_found types (first_of (faults_of types)) fault (sym (judged text types short utf8 declared) ∙ e))

pub is_least : (text : List ℕ) (result : Result Schema SchemaFault) → IsOrMemory result (parsed text) → IfErr result (λ fault. (fault ≡ faults.OutOfMemory) ⊎ IsLeastFault text fault)
is_least text (Ok schema) given = tt
is_least text (Err fault) (inl memory) = inl memory
is_least text (Err fault) (inr found) = inr (least_found text fault found)
