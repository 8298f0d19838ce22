-- The bytes behind a gate, as the code judges them.
use Rattle.std.specs.Prelude.{◌≡◌, ℕ, ◌<◌, List, get_or, drop}
use Rattle.ostore_redo_journal.specs.declared.layout.TheConstants.{GENERATION_IN_HEAD, NUMBER_IN_HEAD, CLIENT_IN_HEAD, ORDINAL_IN_HEAD, COUNT_IN_HEAD, HEAD_BYTES, PAGES_IN_RECORD}
use Rattle.ostore_redo_journal.specs.declared.listing.Item.{Item}
use Rattle.ostore_redo_journal.specs.Records.{Logged, u16_at, u32_at, u64_at, pages_of, AreAscending}

-- the bytes, with the count that they say, are those of a lawful record
pub record IsRecord (pages generation number : ℕ) (bytes : List ℕ) : Type 0 where
  pub generation_is : u32_at bytes GENERATION_IN_HEAD ≡ generation
  pub number_is : u64_at bytes NUMBER_IN_HEAD ≡ number
  pub ordinal_is : 0 < u32_at bytes ORDINAL_IN_HEAD
  pub ascending_is : AreAscending 0 pages (pages_of (u16_at bytes COUNT_IN_HEAD) (drop HEAD_BYTES bytes))

-- the same, with this count
pub record IsCounted (pages generation number count : ℕ) (bytes : List ℕ) : Type 0 where
  pub small : (i : ℕ) → get_or bytes i 0 < 256
  pub count_is : u16_at bytes COUNT_IN_HEAD ≡ count
  pub right : IsRecord pages generation number bytes

-- what the buffer of a record with so many pages says
abbrev pub logged_in : ℕ → ℕ → ℕ → List ℕ → Logged
logged_in client ordinal count bytes =
    record { client = client; ordinal = ordinal; pages = pages_of count (drop PAGES_IN_RECORD bytes) }

-- what the head of the record with this commit number says
abbrev pub item_in : ℕ → List ℕ → Item
item_in number head = record {
  number = number;
  client = record { 0 = u16_at head CLIENT_IN_HEAD };
  ordinal = u32_at head ORDINAL_IN_HEAD;
  pages = u16_at head COUNT_IN_HEAD;
}
