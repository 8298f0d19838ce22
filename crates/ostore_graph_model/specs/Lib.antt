-- What the contracts of public calls rest on: first the graph, by itself.
pub mod Refusals
pub mod Orders
pub mod Sets
pub mod Graph
pub mod Kinds
pub mod Links
pub mod Paths
pub mod Deeds
pub mod Step
pub mod Transaction
pub mod LawsOfSteps
pub mod LiveGraphs
pub mod GraphRules
pub mod History
pub mod LawsOfHistories
pub mod Growth
pub mod Examples
pub mod FullGraphs
pub mod RefusalOrders
pub mod FullSets
-- What a list of pages says: cells, values, what leads on, and who owns it.
pub mod Limits
pub mod Addresses
pub mod FixedPages
pub mod MemberValues
pub mod Chunks
pub mod Records
pub mod Heap
pub mod Chains
pub mod Owners
-- When it is valid, and the graph that it stands for.
pub mod CellRules
pub mod HeapRules
pub mod StandsFor
pub mod IndexRules
pub mod Valid
-- Edits of pages, and the laws.
pub mod Collections
pub mod PageEdits
pub mod LawsOfMeaning
pub mod LawsOfCells
pub mod CollectionEdits
pub mod LawsOfLinks
pub mod LawsOfBothSides
pub mod LawsOfIndexes
pub mod LawsOfFreshPages
pub mod LawsOfGraphs
