-- How the faults of a page are told: by the number of the broken rule, and by its name.
use Rattle.std.specs.Prelude.{ℕ, List, ◌++◌, codes}
use Rattle.std.specs.Fmt.{decimal}
use Rattle.ostore_page_tags.specs.declared.check.PageFault.{PageFault}
use Rattle.ostore_page_tags.specs.declared.check.PageFault.TheVariants.{BadHeader, RowsOverlap, RowOrder, BadType, CellPastEnd}

abbrev pub fault_number : PageFault → ℕ
fault_number BadHeader = 1
fault_number RowsOverlap = 2
fault_number RowOrder = 3
fault_number BadType = 4
fault_number CellPastEnd = 5

abbrev pub fault_name : PageFault → List ℕ
fault_name BadHeader = codes "BadHeader"
fault_name RowsOverlap = codes "RowsOverlap"
fault_name RowOrder = codes "RowOrder"
fault_name BadType = codes "BadType"
fault_name CellPastEnd = codes "CellPastEnd"

-- how a fault is written
abbrev pub fault_text : PageFault → List ℕ
fault_text fault = codes "rule " ++ decimal (fault_number fault) ++ codes " " ++ fault_name fault
