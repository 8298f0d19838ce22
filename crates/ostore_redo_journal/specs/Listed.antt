-- What is listed of the records of a journal.
use Rattle.std.specs.Prelude.{◌≡◌, ℕ, ◌+◌, List, [], ◌∷◌, length, Option, IfSome}
use Rattle.ostore_redo_journal.specs.Records.{Logged}
use Rattle.ostore_redo_journal.specs.OnDisk.{IsOpened}
use Rattle.ostore_redo_journal.specs.declared.header.Header.{Header}
use Rattle.ostore_redo_journal.specs.declared.header.Scan.{Scan}
use Rattle.ostore_redo_journal.specs.declared.listing.Item.{Item}

-- the record with this commit number: whose it is, and how many pages it writes
abbrev pub item_of : ℕ → Logged → Item
item_of number r = record {
  number = number;
  client = record { 0 = r.client };
  ordinal = r.ordinal;
  pages = length r.pages;
}

-- the records after commit n, one commit after the other
abbrev pub items_of : ℕ → List Logged → List Item
items_of n [] = []
items_of n (r ∷ rs) = item_of (n + 1) r ∷ items_of (n + 1) rs

-- where the disk tells, these are its records
abbrev pub Lists : Option (List ℕ) → Header → Scan → List Item → Type 0
Lists told header scan items =
    IfSome told (λ held. (rs : List Logged) → IsOpened held header scan rs
    → items ≡ items_of header.base rs)
