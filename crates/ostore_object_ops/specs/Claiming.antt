-- Which pages commands bring into view, and which they own.
use Rattle.std.specs.Prelude.{◌≡◌, ◌≢◌, ◌⊎◌, ℕ, ◌+◌, ◌*◌, ◌<◌, Bool, true, List, length, Some}
use Rattle.std.specs.List.{AllPairs, Contains, slice_get}
use Rattle.ostore_base.specs.declared.page.PageImage.{PageImage}
use Rattle.ostore_base.specs.declared.page.TheConstants.{PAGE_SIZE}
use Rattle.ostore_page_tags.specs.declared.layout.TheConstants.{OBJECTS_KIND, FRONT_PAGE, ROOTS_PAGE, FIRST_OPEN_PAGE}
use Rattle.ostore_page_tags.specs.PageLists.{header_at}
use Rattle.ostore_page_tags.specs.PageChains.{IsOpen}
use Rattle.ostore_page_tags.specs.Allocated.{HasFree}
use Rattle.ostore_segments.specs.Holdings.{PagesHeld, Becomes, BringsOnEach, OwnsOnEach, BreaksOff}
use Rattle.ostore_segments.specs.Naming.{IsNamedIn, IsFirstFree, IsWantedIn}
use Rattle.ostore_graph_model.specs.declared.values.Reply.{Reply}
use Rattle.ostore_graph_model.specs.declared.commands.Command.{Command}
use Rattle.ostore_graph_model.specs.declared.commands.Command.TheVariants as commands
use Rattle.ostore_graph_model.specs.declared.commands.Txn.{Txn}
use Rattle.ostore_graph_model.specs.Graph.{Graph}
use Rattle.ostore_graph_model.specs.Growth.{growth, update_commands}
use Rattle.ostore_object_ops.specs.declared.progress.Progress.{Progress}
use Rattle.ostore_object_ops.specs.Means.{Leads}
use Rattle.ostore_object_ops.specs.Progresses.{replies_of, leads_by}

-- ---- one command

-- the page of the object that a variable leads to
abbrev pub IsObjectPage : Leads → List ℕ → ℕ → Type 0
IsObjectPage leads variable page =
    (offset : ℕ) × (offset < PAGE_SIZE) × (leads variable ≡ Some (Some (page * PAGE_SIZE + offset)))

-- What a command that was executed uses: `new` in an update page 0 and pages of its segment, `get` and `set` the object's
-- page. In a read `new` is refused before it looks at a page.
abbrev pub IsUsedBy : Bool → Command → Leads → List PageImage → ℕ → Type 0
IsUsedBy update (commands.New to ty segment) leads list page = (update ≡ true) × IsNamedIn list segment page
IsUsedBy update (commands.Get object member) leads list page = IsObjectPage leads object page
IsUsedBy update (commands.Set object member value) leads list page = IsObjectPage leads object page
IsUsedBy update other leads list page = ⊥

-- What a command that was executed may own: in an update `new` page 0 and pages of its segment, and `set` the object's
-- page. `get` owns none, and in a read nothing does.
abbrev pub IsOwnedBy : Bool → Command → Leads → List PageImage → ℕ → Type 0
IsOwnedBy update (commands.New to ty segment) leads list page = (update ≡ true) × IsNamedIn list segment page
IsOwnedBy update (commands.Set object member value) leads list page = (update ≡ true) × IsObjectPage leads object page
IsOwnedBy update other leads list page = ⊥

-- what one that was broken off may use: `new` also the head of the free list, which its segment was to get
abbrev pub IsWantedBy : Bool → Command → Leads → List PageImage → ℕ → Type 0
IsWantedBy update (commands.New to ty segment) leads list page = (update ≡ true) × IsWantedIn list segment page
IsWantedBy update (commands.Get object member) leads list page = IsObjectPage leads object page
IsWantedBy update (commands.Set object member value) leads list page = IsObjectPage leads object page
IsWantedBy update other leads list page = ⊥

-- ---- one line

-- what the command behind these replies uses where it was executed
abbrev pub IsUsedByLine : Txn → List Reply → Leads → List PageImage → ℕ → Type 0
IsUsedByLine txn replies leads list page =
    (command : Command) × (slice_get txn.commands (length replies) ≡ Some command) × IsUsedBy txn.update command leads list page

-- what it may own there
abbrev pub IsOwnedByLine : Txn → List Reply → Leads → List PageImage → ℕ → Type 0
IsOwnedByLine txn replies leads list page =
    (command : Command) × (slice_get txn.commands (length replies) ≡ Some command)
    × IsOwnedBy txn.update command leads list page

-- what it may use where it was broken off
abbrev pub IsWantedByLine : Txn → List Reply → Leads → List PageImage → ℕ → Type 0
IsWantedByLine txn replies leads list page =
    (command : Command) × (slice_get txn.commands (length replies) ≡ Some command) × IsWantedBy txn.update command leads list page

-- each page in view behind the line was so before, or is one that its command uses
abbrev pub BringsUsed : Txn → Progress → PagesHeld → PagesHeld → Type 0
BringsUsed txn progress before after = BringsOnEach before after (IsUsedByLine txn (replies_of progress) (leads_by before progress))

-- each page that is owned behind the line was so before, or is one that its command writes
abbrev pub OwnsWritten : Txn → Progress → PagesHeld → PagesHeld → Type 0
OwnsWritten txn progress before after =
    OwnsOnEach before after (IsOwnedByLine txn (replies_of progress) (leads_by before progress))

-- the line was broken off, and each page in view was so before, or is one that its command may have used
abbrev pub BringsWanted : Txn → Progress → PagesHeld → PagesHeld → Type 0
BringsWanted txn progress before after = BreaksOff before after (IsWantedByLine txn (replies_of progress) (leads_by before progress))

-- ---- the lines of an attempt

-- a data page
pub record IsDataPage (list : List PageImage) (page : ℕ) : Type 0 where
  pub lies : IsOpen (length list) page
  pub kind : (header_at list page).kind ≡ OBJECTS_KIND

-- as many pages, and what was a data page is one still
pub record KeepsDataPages (old new : List PageImage) : Type 0 where
  pub count : length new ≡ length old
  pub kept : (page : ℕ) → IsDataPage old page → IsDataPage new page

-- page 0 in an update, the page of roots, or a data page
abbrev pub IsLinePage : Bool → List PageImage → ℕ → Type 0
IsLinePage update list page =
    ((update ≡ true) × (page ≡ FRONT_PAGE)) ⊎ (page ≡ ROOTS_PAGE) ⊎ IsDataPage list page

-- such a page, or in an update the head of the free list, which a segment was to get
abbrev pub IsTriedPage : Bool → List PageImage → ℕ → Type 0
IsTriedPage update list page = IsLinePage update list page ⊎ ((update ≡ true) × IsFirstFree list page)

-- each page in view is a line's page on each list for which the holder may stand
abbrev pub SeesLinePages : Bool → PagesHeld → Type 0
SeesLinePages update holding =
    (begun list : List PageImage) → holding.may_be begun list
    → (page : ℕ) → holding.in_view page → IsLinePage update list page

-- each page in view is one that a line may have tried
abbrev pub SeesOneMore : Bool → PagesHeld → List PageImage → Type 0
SeesOneMore update holding list = (page : ℕ) → holding.in_view page → IsTriedPage update list page

-- A line was broken off. Each list for which the holder may then stand has come from one for which it might stand before
-- the line, and on that one each page in view is a page that a line may have tried.
abbrev pub BreaksLine : Bool → PagesHeld → PagesHeld → Type 0
BreaksLine update before after = Becomes before after (λ old new. SeesOneMore update after old)

-- *Growth* of a transaction: a read takes no page
abbrev pub growth_of : Graph → Txn → ℕ
growth_of graph txn = growth graph (update_commands txn)

-- So many pages are fewer than 2, the data pages of a list, and the transaction's *Growth* together. The data pages are
-- those from page 10 on that aren't free.
abbrev pub IsBelowGrowth : Txn → List PageImage → ℕ → Type 0
IsBelowGrowth txn list n =
    (graph : Graph) (free : List ℕ) → HasFree list free
    → n + FIRST_OPEN_PAGE + length free < 2 + length list + growth_of graph txn

-- so are pages that are in view
abbrev pub HasFewInView : PagesHeld → Txn → List PageImage → Type 0
HasFewInView holding txn list =
    (pages : List ℕ) → AllPairs (λ page later. page ≢ later) pages
    → ((page : ℕ) → Contains pages page → holding.in_view page) → IsBelowGrowth txn list (length pages)
