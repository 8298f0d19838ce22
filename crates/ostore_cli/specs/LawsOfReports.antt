-- Where no transaction was given up, the promise allows one report alone.
use Rattle.std.specs.Prelude.{◌≡◌, ℕ, false, List}
use Rattle.ostore_cli.specs.Promise.{IsReportOf}

-- Two reports of one text, of whose job no transaction was given up, are equal, so that the bytes that are printed then
-- are a function of the text.
abbrev pub LawOfOneReport : Type 0
LawOfOneReport =
    (text output other : List ℕ) → IsReportOf text output false → IsReportOf text other false → output ≡ other
