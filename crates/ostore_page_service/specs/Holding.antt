-- What words, images and records mean to one client.
use Rattle.std.specs.Prelude.{◌≡◌, ℕ, ◌+◌, ◌-◌, ◌==◌, if◌then◌else◌, Bool, true, false, List, [], Option, Some, None, slice_get, vec_len, vec_capacity}
use Rattle.std.specs.declared.vec.Vec.{Vec}
use Rattle.std.specs.Borrow.{GName}
use Rattle.ostore_base.specs.declared.page.PageImage.{PageImage}
use Rattle.ostore_page_service.specs.declared.word.Word.{Word}
use Rattle.ostore_page_service.specs.Words.{use_of, keep_of, owner}
use Rattle.ostore_page_service.specs.History.{Meaning, IsServed}
use Rattle.ostore_page_service.specs.Told.{Side, Told}

-- a page's word and its image in the last list say of the client c: the image that it holds
abbrev pub held_in : Option Word → Option PageImage → ℕ → Option PageImage
held_in None image c = None
held_in (Some w) image c = if use_of w.0 c == 1 then image else None

-- whether it owns the page
abbrev pub owned_in : Option Word → ℕ → Bool
owned_in None c = false
owned_in (Some w) c = owner w.0 == c + 1

-- the image that it keeps and doesn't use
abbrev pub kept_in : Option Word → Option PageImage → ℕ → Option PageImage
kept_in None image c = None
kept_in (Some w) image c = if use_of w.0 c == 1 then None else (if keep_of w.0 c == 1 then image else None)

-- whether it may drop a copy
abbrev pub droppable_in : Option Word → ℕ → Bool
droppable_in None c = false
droppable_in (Some w) c = use_of w.0 c == 0

module _ {E Z : Type 0} where
  abbrev pub records_of : Option (Vec (E × ℕ) Z) → List (E × ℕ)
  records_of None = []
  records_of (Some v) = v.items

  abbrev pub room_of : Option (Vec (E × ℕ) Z) → ℕ
  room_of None = 0
  room_of (Some v) = vec_capacity v - vec_len v

  -- what is held for the client c
  abbrev pub side_in : List Word → List PageImage → List (Vec (E × ℕ) Z) → ℕ → Side E
  side_in words last records c = record {
    held = λ p. held_in (slice_get words p) (slice_get last p) c;
    owned = λ p. owned_in (slice_get words p) c;
    kept = λ p. kept_in (slice_get words p) (slice_get last p) c;
    droppable = λ p. droppable_in (slice_get words p) c;
    records = records_of (slice_get records c);
    room = room_of (slice_get records c);
  }

  -- what a server tells as the service of the client c: its journal's disk doesn't fail
  abbrev pub told_in : GName → ℕ → ℕ → List PageImage → List Word → List PageImage → List (Vec (E × ℕ) Z) → ℕ → ℕ → ℕ → Told E
  told_in behind c first opened words last records busy number disk_faults = record {
    behind = behind;
    client = c;
    may_write = true;
    may_fail = false;
    first = first;
    opened = opened;
    mine = side_in words last records c;
    tells_others = true;
    others = side_in words last records;
    busy = busy;
    busies = None;
    faults = None;
    number = Some number;
    disk_faults = Some disk_faults;
    writes = None;
    touched = None;
  }

-- the last list is reached for every client
abbrev pub ServedBy : {E S Z : Type 0} → Meaning E S → S → ℕ → List PageImage → List (Vec (E × ℕ) Z) → ℕ → List PageImage → Type 0
ServedBy m s first opened records n last = IsServed m s first opened (λ c. records_of (slice_get records c)) n last

-- nothing is held for the client
pub record IsEmpty {E : Type 0} (side : Side E) : Type 0 where
  pub held : (p : ℕ) → side.held p ≡ None
  pub owned : (p : ℕ) → side.owned p ≡ false
  pub kept : (p : ℕ) → side.kept p ≡ None
  pub records : side.records ≡ []
