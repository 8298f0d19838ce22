-- What a reader gave of a word that stands at a place.
use Rattle.std.specs.Prelude.{◌≡◌, ℕ, Option, Some, None, Result, Ok, Err}
use Rattle.ostore_text_words.specs.declared.fault.TextFault.{TextFault}
use Rattle.ostore_text_words.specs.declared.fault.TextFault.TheVariants as texts

-- what a word says that stands at a place, or the fault there
abbrev pub LacksAt : {X : Type 0} → ℕ → TextFault → Option X → Type 0
LacksAt at (texts.Syntax place) said = (said ≡ None) × (place ≡ at)
LacksAt at texts.OutOfMemory said = Unit {0}

abbrev pub GivesAt : {X : Type 0} → ℕ → Result X TextFault → Option X → Type 0
GivesAt at (Ok x) said = said ≡ Some x
GivesAt at (Err fault) said = LacksAt at fault said
