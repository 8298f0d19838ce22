-- What a disk's bytes stand for.
use Rattle.std.specs.Prelude.{◌≡◌, ◌≢◌, ◌⊎◌, ℕ, ◌+◌, ◌<◌, ◌≤◌, List, [], ◌∷◌, ◌++◌, length, take, drop, All}
use Rattle.ostore_redo_journal.specs.declared.layout.TheConstants.{GENERATION_IN_HEAD, NUMBER_IN_HEAD}
use Rattle.ostore_redo_journal.specs.Records.{Logged, record_bytes, log_bytes, IsLawful, u32_at}
use Rattle.ostore_redo_journal.specs.Headers.{HasHeader, journal_at, front_of}
use Rattle.ostore_redo_journal.specs.declared.header.Header.{Header}
use Rattle.ostore_redo_journal.specs.declared.header.Scan.{Scan}

-- a closed gate
abbrev pub IsClosed : List ℕ → Type 0
IsClosed rest = (gate : ℕ) × (behind : List ℕ) × (rest ≡ gate ∷ behind) × (gate ≢ 1)

-- an open gate of an older generation, which ends a journal without records
abbrev pub IsOld : ℕ → List ℕ → Type 0
IsOld generation rest =
    (behind : List ℕ) × (rest ≡ 1 ∷ behind) × (NUMBER_IN_HEAD ≤ length behind)
    × (u32_at behind GENERATION_IN_HEAD < generation)

-- what stands at the end of a journal with so many records
abbrev pub IsEnd : Header → ℕ → List ℕ → Type 0
IsEnd header records rest = IsClosed rest ⊎ ((records ≡ 0) × IsOld header.generation rest)

-- The journal on disk: the bytes are a header and pages, these open records, and an end.
pub record ReadsAs (bytes : List ℕ) (header : Header) (rs : List Logged) : Type 0 where
  pub front : List ℕ
  pub rest : List ℕ
  pub split : bytes ≡ front ++ log_bytes header.generation header.base rs ++ rest
  pub size : length front ≡ journal_at header
  pub says : HasHeader (front_of front) header
  pub lawful : All (IsLawful header.pages) rs
  pub ends : IsEnd header (length rs) rest

-- the same, where the gate at the end is closed and stands at a place that is known
pub record IsOpened (bytes : List ℕ) (header : Header) (scan : Scan) (rs : List Logged) : Type 0 where
  pub front : List ℕ
  pub rest : List ℕ
  pub split : bytes ≡ front ++ log_bytes header.generation header.base rs ++ rest
  pub size : length front ≡ journal_at header
  pub says : HasHeader (front_of front) header
  pub lawful : All (IsLawful header.pages) rs
  pub closed : IsClosed rest
  pub records : scan.records ≡ length rs
  pub end : scan.end ≡ length (front ++ log_bytes header.generation header.base rs)
  pub before : scan.end < length bytes

-- the bytes read as these records, without one more or with it
abbrev pub IsBeforeOrAfter : Header → List Logged → Logged → List ℕ → Type 0
IsBeforeOrAfter header rs r bytes = ReadsAs bytes header rs ⊎ ReadsAs bytes header (rs ++ r ∷ [])

-- an open record that is right begins here, and a gate stands behind it
pub record HasRecord (header : Header) (records : ℕ) (rest : List ℕ) (size : ℕ) : Type 0 where
  pub r : Logged
  pub more : List ℕ
  pub lawful : IsLawful header.pages r
  pub split : rest ≡ record_bytes header.generation (header.base + records + 1) r ++ more
  pub some : 0 < length more
  pub sized : size ≡ length (record_bytes header.generation (header.base + records + 1) r)

-- The journal doesn't end here, and no open record begins here that is right and has a gate behind it.
pub record IsBad (header : Header) (records : ℕ) (rest : List ℕ) : Type 0 where
  pub goes_on : IsEnd header records rest → ⊥
  pub wrong : (r : Logged) (more : List ℕ) → IsLawful header.pages r
      → rest ≡ record_bytes header.generation (header.base + records + 1) r ++ more → more ≡ []

-- the open records up to a place
pub record HasRecords (held : List ℕ) (header : Header) (scan : Scan) : Type 0 where
  pub rs : List Logged
  pub split : held ≡ take (journal_at header) held ++ log_bytes header.generation header.base rs ++ drop scan.end held
  pub lawful : All (IsLawful header.pages) rs
  pub records : scan.records ≡ length rs
  pub end : scan.end ≡ length (take (journal_at header) held ++ log_bytes header.generation header.base rs)

-- these are the open records, and the journal ends behind them
abbrev pub IsScanned : Header → Scan → List ℕ → Type 0
IsScanned header scan held = HasRecords held header scan × IsEnd header scan.records (drop scan.end held)

-- behind the open records before this place stands a bad one
abbrev pub IsBadAt : Header → ℕ → List ℕ → Type 0
IsBadAt header at held =
    (before : Scan) × (before.end ≡ at) × HasRecords held header before
    × IsBad header before.records (drop at held)
