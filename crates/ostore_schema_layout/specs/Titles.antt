-- How a fault is told: by its number, its name and its place.
use Rattle.std.specs.Prelude.{ℕ, List, ◌++◌, codes}
use Rattle.std.specs.Fmt.{decimal}
use Rattle.ostore_text_words.specs.declared.fault.TextFault.{TextFault}
use Rattle.ostore_text_words.specs.declared.fault.TextFault.TheVariants as texts
use Rattle.ostore_schema_layout.specs.declared.fault.SchemaFault.{SchemaFault}
use Rattle.ostore_schema_layout.specs.declared.fault.SchemaFault.TheVariants.{Syntax, DuplicateType, DuplicateMember, UnknownType, InverseMismatch, CellTooLarge, TooManyTypes, TooManyMembers, TooLong, NotUtf8, OutOfMemory}

-- want of memory has no number, and 0 stands for it
abbrev pub fault_number : SchemaFault → ℕ
fault_number (Syntax at) = 1
fault_number (DuplicateType at) = 2
fault_number (DuplicateMember at) = 3
fault_number (UnknownType at) = 4
fault_number (InverseMismatch at) = 5
fault_number (CellTooLarge at) = 6
fault_number (TooManyTypes at) = 7
fault_number (TooManyMembers at) = 8
fault_number (TooLong at) = 9
fault_number (NotUtf8 at) = 10
fault_number OutOfMemory = 0

abbrev pub fault_name : SchemaFault → List ℕ
fault_name (Syntax at) = codes "Syntax"
fault_name (DuplicateType at) = codes "DuplicateType"
fault_name (DuplicateMember at) = codes "DuplicateMember"
fault_name (UnknownType at) = codes "UnknownType"
fault_name (InverseMismatch at) = codes "InverseMismatch"
fault_name (CellTooLarge at) = codes "CellTooLarge"
fault_name (TooManyTypes at) = codes "TooManyTypes"
fault_name (TooManyMembers at) = codes "TooManyMembers"
fault_name (TooLong at) = codes "TooLong"
fault_name (NotUtf8 at) = codes "NotUtf8"
fault_name OutOfMemory = codes "OutOfMemory"

-- the place; want of memory has none, and 0 stands for it
abbrev pub fault_place : SchemaFault → ℕ
fault_place (Syntax at) = at
fault_place (DuplicateType at) = at
fault_place (DuplicateMember at) = at
fault_place (UnknownType at) = at
fault_place (InverseMismatch at) = at
fault_place (CellTooLarge at) = at
fault_place (TooManyTypes at) = at
fault_place (TooManyMembers at) = at
fault_place (TooLong at) = at
fault_place (NotUtf8 at) = at
fault_place OutOfMemory = 0

-- a fault of the words of a schema's text
abbrev pub fault_of_words : TextFault → SchemaFault
fault_of_words (texts.Syntax at) = Syntax at
fault_of_words texts.OutOfMemory = OutOfMemory

-- how a fault is written
abbrev pub fault_text : SchemaFault → List ℕ
fault_text fault = codes "schema fault " ++ decimal (fault_number fault) ++ codes " " ++ fault_name fault ++ codes " at " ++ decimal (fault_place fault)
