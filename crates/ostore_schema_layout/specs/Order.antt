-- The order of faults: by their places, and at one place by their numbers.
use Rattle.ostore_text_words.specs.Lines.{lines_of, utf8_fault}
use Rattle.ostore_schema_layout.specs.Titles.{fault_number, fault_place}
use Rattle.ostore_schema_layout.specs.declared.declarations.TypeDeclaration.{TypeDeclaration}
use Rattle.ostore_schema_layout.specs.Limits.{longest_schema}
use Rattle.ostore_schema_layout.specs.DeclaredBy.{declared_by}
use Rattle.ostore_schema_layout.specs.Faults.{faults_of}
use Rattle.std.specs.Prelude.{◌≡◌, ◌⊎◌, ℕ, ◌<◌, ◌≤◌, List, length, None, Ok, Contains}
use Rattle.std.specs.List.{AllByRecursion}
use Rattle.ostore_schema_layout.specs.declared.fault.SchemaFault.{SchemaFault}
use Rattle.ostore_schema_layout.specs.declared.fault.SchemaFault.TheVariants.{OutOfMemory}

-- a fault is before another: it stands before it, or at its place with a lesser number
abbrev pub IsBefore : SchemaFault → SchemaFault → Type 0
IsBefore fault other = (fault_place fault < fault_place other) ⊎ ((fault_place fault ≡ fault_place other) × (fault_number fault < fault_number other))

-- the fault is one of these, and before every other one
abbrev pub IsLeastOf : List SchemaFault → SchemaFault → Type 0
IsLeastOf faults fault = Contains faults fault × AllByRecursion (λ other. (fault ≡ other) ⊎ IsBefore fault other) faults

-- the fault is the least of all that a text declares, where the text is short enough, UTF-8, and its words stand
abbrev pub IsLeastFault : List ℕ → SchemaFault → Type 0
IsLeastFault text fault =
    (types : List TypeDeclaration) → length text ≤ longest_schema → utf8_fault text ≡ None → declared_by (lines_of text) ≡ Ok types → IsLeastOf (faults_of types) fault

abbrev pub IsLeastOrMemory : List ℕ → SchemaFault → Type 0
IsLeastOrMemory text fault = (fault ≡ OutOfMemory) ⊎ IsLeastFault text fault
