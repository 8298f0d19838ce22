-- Laws of the lines of a transaction.
use Rattle.std.specs.Prelude.{◌≡◌, ◌≢◌, ℕ, ◌<◌, ◌≤◌, List, [], length, None}
use Rattle.std.specs.List.{AllPairs, Contains}
use Rattle.ostore_base.specs.declared.page.PageImage.{PageImage}
use Rattle.ostore_schema_layout.specs.declared.schema.Schema.{Schema}
use Rattle.ostore_graph_model.specs.declared.values.Reply.{Reply}
use Rattle.ostore_graph_model.specs.declared.commands.Txn.{Txn}
use Rattle.ostore_graph_model.specs.Valid.{IsValid}
use Rattle.ostore_object_ops.specs.Means.{Leads, HasMeaning}
use Rattle.ostore_object_ops.specs.Claiming.{IsTriedPage, IsBelowGrowth}
use Rattle.ostore_object_ops.specs.Lines.{RunsLine, HasRun, Transacts}

-- before its first line a transaction has run on a valid list, whatever it is
abbrev pub LawOfFirstLines : Type 0
LawOfFirstLines =
    (schema : Schema) (txn : Txn) (leads : Leads) (list : List PageImage) → IsValid schema list
    → ((variable : List ℕ) → leads variable ≡ None) → HasRun schema txn [] leads list list

-- a line more
abbrev pub LawOfNextLines : Type 0
LawOfNextLines =
    (schema : Schema) (txn : Txn) (replies more : List Reply) (before after : Leads) (begun old new : List PageImage)
    → HasRun schema txn replies before begun old → RunsLine schema txn replies more before after old new
    → HasRun schema txn more after begun new

-- the list on which a transaction has run has a meaning
abbrev pub LawOfMeanings : Type 0
LawOfMeanings =
    (schema : Schema) (txn : Txn) (replies : List Reply) (leads : Leads) (begun list : List PageImage)
    → HasRun schema txn replies leads begun list → HasMeaning schema leads list

-- with no line left the transaction was executed
abbrev pub LawOfLastLines : Type 0
LawOfLastLines =
    (schema : Schema) (txn : Txn) (replies : List Reply) (leads : Leads) (begun list : List PageImage)
    → HasRun schema txn replies leads begun list → length txn.commands ≤ length replies
    → Transacts schema txn replies begun list

-- The pages that its lines try are few: at one of its lines, pages no two of which are equal, and each of which a line
-- may have tried, are fewer than 2, the data pages of the list with which it began, and its *Growth* together.
abbrev pub LawOfFewPages : Type 0
LawOfFewPages =
    (schema : Schema) (txn : Txn) (replies : List Reply) (leads : Leads) (begun list : List PageImage)
    → HasRun schema txn replies leads begun list → length replies < length txn.commands
    → (pages : List ℕ) → AllPairs (λ page later. page ≢ later) pages
    → ((page : ℕ) → Contains pages page → IsTriedPage txn.update list page)
    → IsBelowGrowth txn begun (length pages)
