-- The refusals of commands, as they are printed: a number and a name each.
use Rattle.std.specs.Prelude.{ℕ, List, codes}
use Rattle.ostore_graph_model.specs.declared.refusal.Refusal.{Refusal}
use Rattle.ostore_graph_model.specs.declared.refusal.Refusal.TheVariants as refusals

abbrev pub refusal_title : Refusal → ℕ × List ℕ
refusal_title refusals.NoVariable = (1, codes "NoVariable")
refusal_title refusals.NoMember = (2, codes "NoMember")
refusal_title refusals.WrongKind = (3, codes "WrongKind")
refusal_title refusals.WrongType = (4, codes "WrongType")
refusal_title refusals.Dangling = (5, codes "Dangling")
refusal_title refusals.Null = (6, codes "Null")
refusal_title refusals.NoRoot = (7, codes "NoRoot")
refusal_title refusals.TextTooLong = (8, codes "TextTooLong")
refusal_title refusals.NoKey = (9, codes "NoKey")
refusal_title refusals.OutOfRange = (10, codes "OutOfRange")
refusal_title refusals.NotMember = (11, codes "NotMember")
refusal_title refusals.AlreadyMember = (12, codes "AlreadyMember")
refusal_title refusals.NotIndexable = (13, codes "NotIndexable")
refusal_title refusals.IndexThere = (14, codes "IndexThere")
refusal_title refusals.NoIndex = (15, codes "NoIndex")
refusal_title refusals.ReadOnly = (16, codes "ReadOnly")
refusal_title refusals.NoObject = (17, codes "NoObject")
refusal_title refusals.SerialsSpent = (18, codes "SerialsSpent")
refusal_title refusals.RootsFull = (19, codes "RootsFull")

abbrev pub refusal_number : Refusal → ℕ
refusal_number refusal = (refusal_title refusal).0

abbrev pub refusal_name : Refusal → List ℕ
refusal_name refusal = (refusal_title refusal).1
