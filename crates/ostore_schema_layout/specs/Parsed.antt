-- The fault of a text, and what reading it gives. The length is judged first, then UTF-8, then the words,
-- and then what they declare.
use Rattle.std.specs.Prelude.{◌≡◌, ◌⊎◌, ℕ, if◌then◌else◌, nat_le, List, length, Option, Some, None, Result, Ok, Err}
use Rattle.ostore_text_words.specs.Lines.{lines_of, utf8_fault}
use Rattle.ostore_schema_layout.specs.declared.schema.Schema.{Schema}
use Rattle.ostore_schema_layout.specs.declared.declarations.TypeDeclaration.{TypeDeclaration}
use Rattle.ostore_schema_layout.specs.declared.fault.SchemaFault.{SchemaFault}
use Rattle.ostore_schema_layout.specs.declared.fault.SchemaFault.TheVariants as faults
use Rattle.ostore_schema_layout.specs.Limits.{longest_schema}
use Rattle.ostore_schema_layout.specs.DeclaredBy.{declared_by}
use Rattle.ostore_schema_layout.specs.Faults.{faults_of, first_of}
use Rattle.ostore_schema_layout.specs.Resolved.{resolved}

-- the schema of declarations, or their first fault
abbrev pub if_faultless : List TypeDeclaration → Option SchemaFault → Result Schema SchemaFault
if_faultless types None = Ok (resolved types)
if_faultless types (Some fault) = Err fault

abbrev pub schema_of : Result (List TypeDeclaration) ℕ → Result Schema SchemaFault
schema_of (Err at) = Err (faults.Syntax at)
schema_of (Ok types) = if_faultless types (first_of (faults_of types))

abbrev pub if_utf8 : Option ℕ → Result Schema SchemaFault → Result Schema SchemaFault
if_utf8 None read = read
if_utf8 (Some at) read = Err (faults.NotUtf8 at)

-- what a text is read as
unfoldable pub parsed : List ℕ → Result Schema SchemaFault
parsed text =
    if nat_le (length text) longest_schema then if_utf8 (utf8_fault text) (schema_of (declared_by (lines_of text)))
    else Err (faults.TooLong longest_schema)

-- what a reader gave is what reading gives, unless memory ran out
abbrev pub IsOrMemory : {A : Type 0} → Result A SchemaFault → Result A SchemaFault → Type 0
IsOrMemory (Ok x) read = read ≡ Ok x
IsOrMemory (Err fault) read = (fault ≡ faults.OutOfMemory) ⊎ (read ≡ Err fault)

-- this value was given, unless memory ran out
abbrev pub IsOkOrMemory : {A : Type 0} → Result A SchemaFault → A → Type 0
IsOkOrMemory result x = (result ≡ Ok x) ⊎ (result ≡ Err faults.OutOfMemory)
