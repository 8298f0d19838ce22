-- What a reader gave, and what reading gives: a value seen by a view, or the place of a fault of the words.
-- Where memory ran out, nothing is said.
use Rattle.std.specs.Prelude.{◌≡◌, ℕ, Result, Ok, Err}
use Rattle.ostore_text_words.specs.Lines.{PlacedLine, LinesAhead, behind_line}
use Rattle.ostore_text_words.specs.LineWords.{◌>>=◌, line_at}
use Rattle.ostore_text_words.specs.declared.fault.TextFault.{TextFault}
use Rattle.ostore_text_words.specs.declared.fault.TextFault.TheVariants as faults

abbrev pub Fails : {Y : Type 0} → TextFault → Result Y ℕ → Type 0
Fails (faults.Syntax at) read = read ≡ Err at
Fails faults.OutOfMemory read = Unit {0}

abbrev pub Gives : {X Y : Type 0} → (X → Y) → Result X TextFault → Result Y ℕ → Type 0
Gives view (Ok x) read = read ≡ Ok (view x)
Gives view (Err fault) read = Fails fault read

-- the same of a value that is given as reading gives it
abbrev pub GivesSame : {X : Type 0} → Result X TextFault → Result X ℕ → Type 0
GivesSame result read = Gives (λ x. x) result read

-- What a reader of the next line gave: what the line says. Then it stands behind that line.
abbrev pub GivesTaken : {X : Type 0} → (PlacedLine → Result X ℕ) → LinesAhead → LinesAhead → Result X TextFault → Type 0
GivesTaken says before after (Ok x) = ((line_at before >>= says) ≡ Ok x) × (after ≡ behind_line before)
GivesTaken says before after (Err fault) = Fails fault (line_at before >>= says)
