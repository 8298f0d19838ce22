-- The pages that commands bring into view, and those that they own.
use Rattle.std.proofs.Common.{◌≡◌, ◌+◌, ◌*◌, ℕ, Bool, true, List, [], length, Some, sym, ap, subst, arith, ◌∙◌, inl, inr}
use Rattle.std.specs.List.{slice_get}
use Rattle.std.proofs.lemmas.List.Elements.{All-contains}
use Rattle.ostore_base.specs.declared.page.PageImage.{PageImage}
use Rattle.ostore_page_tags.specs.PageLists.{header_at, first_of}
use Rattle.ostore_page_tags.specs.PageChains.{IsSegment}
use Rattle.ostore_page_tags.specs.Allocated.{IsAllocated}
use Rattle.ostore_page_tags.proofs.allocation.ChainLaws.{chain_owned}
use Rattle.ostore_schema_layout.specs.declared.schema.Schema.{Schema}
use Rattle.ostore_segments.specs.Holdings.{PagesHeld, Stands, Becomes, BringsOnly, BringsOnEach, OwnsOnEach, BreaksOff}
use Rattle.ostore_segments.specs.Naming.{IsPageOf, IsNamedIn, IsWantedIn}
use Rattle.ostore_segments.specs.Placing.{Places, last, grown, early}
use Rattle.ostore_segments.specs.Making.{Makes}
use Rattle.ostore_segments.proofs.NamingLaws.{kept_made}
use Rattle.ostore_segments.proofs.OwnLaws.{each_owns_weaker}
use Rattle.ostore_graph_model.specs.declared.values.Reply.{Reply}
use Rattle.ostore_graph_model.specs.declared.commands.Command.{Command}
use Rattle.ostore_graph_model.specs.declared.commands.Command.TheVariants as commands
use Rattle.ostore_graph_model.specs.declared.commands.Txn.{Txn}
use Rattle.ostore_object_ops.specs.Means.{Leads, HasMeaning}
use Rattle.ostore_object_ops.specs.Claiming.{IsObjectPage, IsUsedBy, IsUsedByLine, IsOwnedBy, IsOwnedByLine, IsWantedBy, IsWantedByLine, IsDataPage, KeepsDataPages, IsLinePage, IsTriedPage, SeesLinePages, BreaksLine}
use Rattle.ostore_object_ops.specs.Executes.{Executes}
use Rattle.ostore_object_ops.proofs.CellPlaces.{cell_on}
use Rattle.ostore_object_ops.proofs.MemberFacts.{leads_to}

-- ---- data pages

pub page_data : (list : List PageImage) (segment page : ℕ) → IsPageOf list segment page → IsDataPage list page
page_data list segment page it =
    let owned = chain_owned (length list) (header_at list) (first_of list segment) segment page it.chain it.has it.there in
    record { lies = (owned.low, owned.high); kind = owned.kind }

data_in : (list : List PageImage) (page : ℕ) → IsAllocated list → IsDataPage list page → (segment : ℕ) × IsSegment segment × IsPageOf list segment page
data_in list page fine is =
    let linked = fine.chains in
    elim (linked.2.reached page is.lies) [
      | inl free ↦
          let kind : (header_at list page).kind ≡ 1 = All-contains (λ (p : ℕ). (header_at list p).kind ≡ 1) linked.0 page linked.2.free_list.kinds free in
          let other = is.kind in
          absurd (omega arith)
      | inr (segment, within, there) ↦ (segment, within, record { chain = linked.1 segment; has = linked.2.chains segment within; there = there })
    ]

placed_count : (old new : List PageImage) (segment need page : ℕ) → Places old new segment need page → length new ≡ length old
placed_count old new segment need page (last it same) = ap (λ (l : List PageImage). length l) same
placed_count old new segment need page (grown full it) = it.elsewhere.count
placed_count old new segment need page (early full none it same) = ap (λ (l : List PageImage). length l) same

pub made_data : (old new : List PageImage) (segment page size code serial offset : ℕ) → IsAllocated old → Makes old new segment page size code serial offset → KeepsDataPages old new
made_data old new segment page size code serial offset fine makes = record {
  count = makes.made.added.count ∙ makes.made.drawn.elsewhere.count ∙ placed_count old makes.middle segment (size + 8) page makes.placed;
  kept = λ named is. let at = data_in old named fine is in page_data new at.0 named (kept_made old new segment page size code serial offset at.0 named at.1 makes at.2);
}

pub made_kept : (old new : List PageImage) (segment page size code serial offset named : ℕ) → IsSegment segment → Makes old new segment page size code serial offset → IsNamedIn old segment named → IsNamedIn new segment named
made_kept old new segment page size code serial offset named within makes (inl front) = inl front
made_kept old new segment page size code serial offset named within makes (inr is) = inr (kept_made old new segment page size code serial offset segment named within makes is)

-- ---- pages of a line

-- the page of an object is a data page
pub object_data : (schema : Schema) (leads : Leads) (variable : List ℕ) (list : List PageImage) (page : ℕ) → HasMeaning schema leads list → IsObjectPage leads variable page → IsDataPage list page
object_data schema leads variable list page known is =
    let row = leads_to schema leads variable [] list (page * 4096 + is.0) is.2 known.vars known.graph known.means in
    let on = cell_on list page is.0 row.cell known.means.valid.pages_kept.allocated is.1 row.there in
    record { lies = (on.low, on.high); kind = on.kind }

named_line : (update : Bool) (list : List PageImage) (segment page : ℕ) → update ≡ true → IsNamedIn list segment page → IsLinePage update list page
named_line update list segment page may (inl front) = inl (may, front)
named_line update list segment page may (inr is) = inr (inr (page_data list segment page is))

wanted_line : (update : Bool) (list : List PageImage) (segment page : ℕ) → update ≡ true → IsWantedIn list segment page → IsTriedPage update list page
wanted_line update list segment page may (inl named) = inl (named_line update list segment page may named)
wanted_line update list segment page may (inr free) = inr (may, free)

kept_line : (update : Bool) (old new : List PageImage) (page : ℕ) → KeepsDataPages old new → IsLinePage update old page → IsLinePage update new page
kept_line update old new page keeps (inl front) = inl front
kept_line update old new page keeps (inr (inl roots)) = inr (inl roots)
kept_line update old new page keeps (inr (inr is)) = inr (inr (keeps.kept page is))

used_line : (schema : Schema) (update : Bool) (command : Command) (leads : Leads) (old new : List PageImage) (page : ℕ) → HasMeaning schema leads old → KeepsDataPages old new → IsUsedBy update command leads new page → IsLinePage update new page
used_line schema update (commands.New to ty segment) leads old new page known keeps is = named_line update new segment page is.0 is.1
used_line schema update (commands.Get object member) leads old new page known keeps is = inr (inr (keeps.kept page (object_data schema leads object old page known is)))
used_line schema update (commands.Set object member value) leads old new page known keeps is = inr (inr (keeps.kept page (object_data schema leads object old page known is)))
used_line schema update (commands.Find to name) leads old new page known keeps is = absurd is
used_line schema update (commands.Root to root) leads old new page known keeps is = absurd is
used_line schema update (commands.SetRoot root item) leads old new page known keeps is = absurd is
used_line schema update (commands.Follow to object member) leads old new page known keeps is = absurd is
used_line schema update (commands.Delete object) leads old new page known keeps is = absurd is
used_line schema update (commands.Insert object member item) leads old new page known keeps is = absurd is
used_line schema update (commands.Remove object member item) leads old new page known keeps is = absurd is
used_line schema update (commands.Members object member) leads old new page known keeps is = absurd is
used_line schema update (commands.Size object member) leads old new page known keeps is = absurd is
used_line schema update (commands.Append object member item) leads old new page known keeps is = absurd is
used_line schema update (commands.Put object member index item) leads old new page known keeps is = absurd is
used_line schema update (commands.At to object member index) leads old new page known keeps is = absurd is
used_line schema update (commands.Bind object member key item) leads old new page known keeps is = absurd is
used_line schema update (commands.Look to object member key) leads old new page known keeps is = absurd is
used_line schema update (commands.Unbind object member key) leads old new page known keeps is = absurd is
used_line schema update (commands.Index object member path) leads old new page known keeps is = absurd is
used_line schema update (commands.Unindex object member path) leads old new page known keeps is = absurd is
used_line schema update (commands.Query object member path op key) leads old new page known keeps is = absurd is

broken_line : (schema : Schema) (update : Bool) (command : Command) (leads : Leads) (list : List PageImage) (page : ℕ) → HasMeaning schema leads list → IsWantedBy update command leads list page → IsTriedPage update list page
broken_line schema update (commands.New to ty segment) leads list page known is = wanted_line update list segment page is.0 is.1
broken_line schema update (commands.Get object member) leads list page known is = inl (inr (inr (object_data schema leads object list page known is)))
broken_line schema update (commands.Set object member value) leads list page known is = inl (inr (inr (object_data schema leads object list page known is)))
broken_line schema update (commands.Find to name) leads list page known is = absurd is
broken_line schema update (commands.Root to root) leads list page known is = absurd is
broken_line schema update (commands.SetRoot root item) leads list page known is = absurd is
broken_line schema update (commands.Follow to object member) leads list page known is = absurd is
broken_line schema update (commands.Delete object) leads list page known is = absurd is
broken_line schema update (commands.Insert object member item) leads list page known is = absurd is
broken_line schema update (commands.Remove object member item) leads list page known is = absurd is
broken_line schema update (commands.Members object member) leads list page known is = absurd is
broken_line schema update (commands.Size object member) leads list page known is = absurd is
broken_line schema update (commands.Append object member item) leads list page known is = absurd is
broken_line schema update (commands.Put object member index item) leads list page known is = absurd is
broken_line schema update (commands.At to object member index) leads list page known is = absurd is
broken_line schema update (commands.Bind object member key item) leads list page known is = absurd is
broken_line schema update (commands.Look to object member key) leads list page known is = absurd is
broken_line schema update (commands.Unbind object member key) leads list page known is = absurd is
broken_line schema update (commands.Index object member path) leads list page known is = absurd is
broken_line schema update (commands.Unindex object member path) leads list page known is = absurd is
broken_line schema update (commands.Query object member path op key) leads list page known is = absurd is

-- a command that was executed
pub line_sees : {a b : PagesHeld} (schema : Schema) (update : Bool) (command : Command) (reply : Reply) (leads after : Leads) → Stands a (HasMeaning schema leads) → Becomes a b (Executes schema update command reply leads after) → BringsOnEach a b (IsUsedBy update command leads) → SeesLinePages update a
    → SeesLinePages update b
line_sees schema update command reply leads after stands step brings sees = λ begun list there page seen.
    let was = step.from begun list there in
    elim ((brings.each begun list there).views page seen) [
      | inl before ↦ kept_line update was.0 list page was.2.pages (sees begun was.0 was.1 page before)
      | inr used ↦ used_line schema update command leads was.0 list page (stands.each begun was.0 was.1) was.2.pages used
    ]

-- one that was broken off
pub line_breaks : {a b : PagesHeld} (schema : Schema) (update : Bool) (command : Command) (leads : Leads) → Stands a (HasMeaning schema leads) → BreaksOff a b (IsWantedBy update command leads) → SeesLinePages update a → BreaksLine update a b
line_breaks schema update command leads stands off sees = record {
  some = off.some;
  views = off.views;
  homes = off.homes;
  from = λ begun new there.
      let was = off.from begun new there in (
        was.0,
        was.1,
        λ page seen. elim (was.2.views page seen) [
          | inl before ↦ inl (sees begun was.0 was.1 page before)
          | inr wanted ↦ broken_line schema update command leads was.0 page (stands.each begun was.0 was.1) wanted
        ],
      );
}

-- the command of a line that was executed
pub line_brings : {a b : PagesHeld} (txn : Txn) (replies : List Reply) (command : Command) (leads : Leads) → slice_get txn.commands (length replies) ≡ Some command → BringsOnEach a b (IsUsedBy txn.update command leads) → BringsOnEach a b (IsUsedByLine txn replies leads)
line_brings txn replies command leads next brings = record {
  each = λ begun list there. record {
    views = λ page seen. elim ((brings.each begun list there).views page seen) [
      | inl before ↦ inl before
      | inr used ↦ inr (command, next, used)
    ];
  };
}

pub line_owns : {a b : PagesHeld} (txn : Txn) (replies : List Reply) (command : Command) (leads : Leads) → slice_get txn.commands (length replies) ≡ Some command → OwnsOnEach a b (IsOwnedBy txn.update command leads) → OwnsOnEach a b (IsOwnedByLine txn replies leads)
line_owns txn replies command leads next one = each_owns_weaker (λ list page written. (command, next, written)) one

-- and of one that was broken off
pub line_wants : {a b : PagesHeld} (txn : Txn) (replies : List Reply) (command : Command) (leads : Leads) → slice_get txn.commands (length replies) ≡ Some command → BreaksOff a b (IsWantedBy txn.update command leads) → BreaksOff a b (IsWantedByLine txn replies leads)
line_wants txn replies command leads next off = record {
  some = off.some;
  views = off.views;
  homes = off.homes;
  from = λ begun new there.
      let was = off.from begun new there in (
        was.0,
        was.1,
        record {
          views = λ page seen. elim (was.2.views page seen) [
            | inl before ↦ inl before
            | inr wanted ↦ inr (command, next, wanted)
          ];
        },
      );
}

-- a page that was in view already
pub brings_none : {a b c : PagesHeld} (page : ℕ) {N : ℕ → Type 0} → b.in_view page → BringsOnly a b N → BringsOnly b c (λ named. named ≡ page) → BringsOnly a c N
brings_none {a} {b} page there one two = record {
  views = λ other seen. elim (two.views other seen) [
    | inl before ↦ one.views other before
    | inr same ↦ one.views other (subst b.in_view (sym same) there)
  ];
}
