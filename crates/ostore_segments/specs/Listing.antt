-- Why the pages of a segment can't be listed.
use Rattle.ostore_segments.specs.declared.chain.PagesOfFault.{PagesOfFault}
use Rattle.ostore_segments.specs.declared.chain.PagesOfFault.TheVariants.{Fault, OutOfMemory}

-- one thing where the holder answered a fault, and another where memory was refused
abbrev pub MatchPagesOfFault : {F : Type 0} → PagesOfFault F → (F → Type 0) → Type 0 → Type 0
MatchPagesOfFault (Fault fault) holders memory = holders fault
MatchPagesOfFault (OutOfMemory refused) holders memory = memory
