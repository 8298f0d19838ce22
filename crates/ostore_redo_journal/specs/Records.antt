-- Records of commits, and their bytes in the journal. Numbers are little-endian.
use Rattle.std.specs.Prelude.{◌≡◌, ℕ, zero, suc, ◌+◌, ◌*◌, ◌<◌, ◌≤◌, ◌^◌, List, [], ◌∷◌, ◌++◌, length, take, drop, flat_map, ⊤}
use Rattle.std.specs.Int.{w16, w32, w64, to_le_bytes, from_le_bytes}
use Rattle.ostore_base.specs.declared.numbers.PageNo.{PageNo}
use Rattle.ostore_base.specs.declared.page.PageImage.{PageImage}
use Rattle.ostore_base.specs.declared.page.TheConstants.{PAGE_SIZE}
use Rattle.ostore_redo_journal.specs.declared.layout.TheConstants.{CLIENT_IN_HEAD, ORDINAL_IN_HEAD, COUNT_IN_HEAD, HEAD_BYTES, IMAGE_IN_LOGGED, LOGGED_BYTES, PAGES_IN_RECORD}
use Rattle.ostore_redo_journal.specs.Drafts.{Writes, Draft}

-- the transaction of a client, and the images that it wrote
pub record Logged : Type 0 where
  pub client : ℕ
  pub ordinal : ℕ
  pub pages : Writes

-- what a record says, without its room
abbrev pub logged : Draft → Logged
logged draft = record { client = draft.client; ordinal = draft.ordinal; pages = draft.pages }

-- a page with its image
abbrev pub page_bytes : PageNo × PageImage → List ℕ
page_bytes page = to_le_bytes w32 page.0.0 ++ page.1.bytes

-- the head, which stands between a gate and the pages
abbrev pub head_bytes : ℕ → ℕ → ℕ → ℕ → ℕ → List ℕ
head_bytes generation number client ordinal count =
    to_le_bytes w32 generation ++ to_le_bytes w64 number ++ to_le_bytes w16 client ++ to_le_bytes w32 ordinal
    ++ to_le_bytes w16 count

-- the bytes behind the gate of the record with this commit number
abbrev pub behind_gate : ℕ → ℕ → Logged → List ℕ
behind_gate generation number r =
    to_le_bytes w32 generation ++ to_le_bytes w64 number ++ to_le_bytes w16 r.client ++ to_le_bytes w32 r.ordinal
    ++ to_le_bytes w16 (length r.pages) ++ flat_map page_bytes r.pages

-- the record with its gate open
abbrev pub record_bytes : ℕ → ℕ → Logged → List ℕ
record_bytes generation number r = 1 ∷ behind_gate generation number r

-- how many bytes a record with so many pages has, and how many of them stand behind its gate
abbrev pub record_size : ℕ → ℕ
record_size count = PAGES_IN_RECORD + LOGGED_BYTES * count

abbrev pub behind_size : ℕ → ℕ
behind_size count = HEAD_BYTES + LOGGED_BYTES * count

-- the open records after commit n, one commit after the other
abbrev pub log_bytes : ℕ → ℕ → List Logged → List ℕ
log_bytes generation n [] = []
log_bytes generation n (r ∷ rs) = record_bytes generation (n + 1) r ++ log_bytes generation (n + 1) rs

-- each page is at low or above, below the limit, and above the one before
abbrev pub AreAscending : ℕ → ℕ → Writes → Type 0
AreAscending low limit [] = ⊤
AreAscending low limit (page ∷ pages) =
    (low ≤ page.0.0) × (page.0.0 < limit) × AreAscending (page.0.0 + 1) limit pages

-- each image has the bytes of a page
abbrev pub AreWhole : Writes → Type 0
AreWhole [] = ⊤
AreWhole (page ∷ pages) = (length page.1.bytes ≡ PAGE_SIZE) × AreWhole pages

-- what a record of a database with so many pages may say
pub record IsLawful (pages : ℕ) (r : Logged) : Type 0 where
  pub client : r.client < 2 ^ 16
  pub ordinal : 0 < r.ordinal
  pub ordinal_fits : r.ordinal < 2 ^ 32
  pub count : length r.pages < 2 ^ 16
  pub whole : AreWhole r.pages
  pub ascending : AreAscending 0 pages r.pages

-- the number at a place
abbrev pub u16_at : List ℕ → ℕ → ℕ
u16_at bytes at = from_le_bytes w16 (take 2 (drop at bytes))

abbrev pub u32_at : List ℕ → ℕ → ℕ
u32_at bytes at = from_le_bytes w32 (take 4 (drop at bytes))

abbrev pub u64_at : List ℕ → ℕ → ℕ
u64_at bytes at = from_le_bytes w64 (take 8 (drop at bytes))

-- the first k pages that stand in these bytes
abbrev pub pages_of : ℕ → List ℕ → Writes
pages_of zero bytes = []
pages_of (suc k) bytes =
    (record { 0 = u32_at bytes 0 }, record { bytes = take PAGE_SIZE (drop IMAGE_IN_LOGGED bytes) })
    ∷ pages_of k (drop LOGGED_BYTES bytes)

-- what the bytes behind a gate say
abbrev pub record_in : List ℕ → Logged
record_in bytes = record {
  client = u16_at bytes CLIENT_IN_HEAD;
  ordinal = u32_at bytes ORDINAL_IN_HEAD;
  pages = pages_of (u16_at bytes COUNT_IN_HEAD) (drop HEAD_BYTES bytes);
}
