-- What the header of a database says, which is its first 4,096 bytes, and when it says nothing. `front` are
-- these bytes, and `size` is the length of the whole.
use Rattle.std.specs.Prelude.{◌≡◌, ◌⊎◌, ℕ, ◌+◌, ◌*◌, ◌<◌, ◌≤◌, List, [], ◌∷◌, get_or, take}
use Rattle.ostore_base.specs.declared.page.TheConstants.{PAGE_SIZE}
use Rattle.ostore_base.specs.Limits.{least_pages, most_pages}
use Rattle.ostore_redo_journal.specs.declared.layout.TheConstants.{NAME_BYTES, FORMAT_AT, PAGES_AT, SLOT_A_AT, SLOT_B_AT, GENERATION_IN_SLOT, BASE_IN_SLOT}
use Rattle.ostore_redo_journal.specs.Limits.{greatest_base}
use Rattle.ostore_redo_journal.specs.Records.{u32_at, u64_at}
use Rattle.ostore_redo_journal.specs.declared.header.Header.{Header}

-- the place of the journal
abbrev pub journal_at : Header → ℕ
journal_at header = PAGE_SIZE * (1 + header.pages)

-- the header in the bytes of a disk
abbrev pub front_of : List ℕ → List ℕ
front_of held = take PAGE_SIZE held

-- `OSPAGES1`, with which a database begins
abbrev pub database_name : List ℕ
database_name = 79 ∷ 83 ∷ 80 ∷ 65 ∷ 71 ∷ 69 ∷ 83 ∷ 49 ∷ []

-- A slot that counts: its gate is open, and its generation isn't 0 and has this parity. The
-- generations of slot A are odd, those of slot B even.
pub record SlotCounts (front : List ℕ) (at parity : ℕ) : Type 0 where
  pub is_open : get_or front at 0 ≡ 1
  pub some : 0 < u32_at front (at + GENERATION_IN_SLOT)
  pub right : (half : ℕ) × (u32_at front (at + GENERATION_IN_SLOT) ≡ 2 * half + parity)

-- it counts, and the other one doesn't or has an older generation
pub record IsNewest (front : List ℕ) (at parity other other_parity : ℕ) : Type 0 where
  pub counts : SlotCounts front at parity
  pub newer : SlotCounts front other other_parity → u32_at front (other + GENERATION_IN_SLOT) < u32_at front (at + GENERATION_IN_SLOT)

-- the current slot stands here
abbrev pub IsCurrent : List ℕ → ℕ → Type 0
IsCurrent front at =
    ((at ≡ SLOT_A_AT) × IsNewest front SLOT_A_AT 1 SLOT_B_AT 0)
    ⊎ ((at ≡ SLOT_B_AT) × IsNewest front SLOT_B_AT 0 SLOT_A_AT 1)

-- these are the bytes of a database, in some format
pub record IsOurs (front : List ℕ) (size : ℕ) : Type 0 where
  pub long : PAGE_SIZE ≤ size
  pub name : take NAME_BYTES front ≡ database_name
  pub some : 0 < u32_at front FORMAT_AT

-- its pages fit, and a slot counts
pub record IsPlaced (front : List ℕ) (size : ℕ) : Type 0 where
  pub least : least_pages ≤ u32_at front PAGES_AT
  pub most : u32_at front PAGES_AT ≤ most_pages
  pub long : PAGE_SIZE * (1 + u32_at front PAGES_AT) < size
  pub counts : SlotCounts front SLOT_A_AT 1 ⊎ SlotCounts front SLOT_B_AT 0

-- what the header says
pub record HasHeader (front : List ℕ) (header : Header) : Type 0 where
  pub name : take NAME_BYTES front ≡ database_name
  pub format : u32_at front FORMAT_AT ≡ 1
  pub pages : header.pages ≡ u32_at front PAGES_AT
  pub least : least_pages ≤ header.pages
  pub most : header.pages ≤ most_pages
  pub at : ℕ
  pub current : IsCurrent front at
  pub generation : header.generation ≡ u32_at front (at + GENERATION_IN_SLOT)
  pub base : header.base ≡ u64_at front (at + BASE_IN_SLOT)
  pub small : header.base ≤ greatest_base

-- they are none of a database
abbrev pub IsNotDatabase : List ℕ → ℕ → Type 0
IsNotDatabase front size =
    (IsOurs front size → ⊥)
    ⊎ (IsOurs front size × (u32_at front FORMAT_AT ≡ 1) × (IsPlaced front size → ⊥))

-- they have a newer format
abbrev pub IsNewer : List ℕ → ℕ → Type 0
IsNewer front size = IsOurs front size × (1 < u32_at front FORMAT_AT)

-- their base, in the slot at this place, is too great
pub record IsBadBase (front : List ℕ) (size at : ℕ) : Type 0 where
  pub ours : IsOurs front size
  pub format : u32_at front FORMAT_AT ≡ 1
  pub placed : IsPlaced front size
  pub current : IsCurrent front at
  pub great : greatest_base < u64_at front (at + BASE_IN_SLOT)
