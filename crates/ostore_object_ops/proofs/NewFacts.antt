-- What a made object makes of `new`.
use Rattle.std.proofs.Common.{◌≡◌, ◌≢◌, ◌∙◌, ◌+◌, ◌*◌, ◌<◌, ◌≤◌, ℕ, suc, Bool, true, false, cond, List, [], ◌∷◌, length, refl, ap, ap₂, sym, subst, subst₂, arith, Option, Some, None}
use Rattle.std.specs.Prelude.{◌%◌, not, nat_lt, is_none, unwrap_or}
use Rattle.std.specs.List.{All, slice_get}
use Rattle.std.specs.Option.{option_map, option_or}
use Rattle.std.specs.Ordering.{eq_by_cmp}
use Rattle.std.specs.FinMap as maps
use Rattle.std.proofs.lemmas.Bool.{le-ltb, lt-ltb, le-leb, and_from}
use Rattle.std.proofs.lemmas.Cmp.{nat_list_cmp_total}
use Rattle.std.proofs.lemmas.Option.{none-some, same_Some}
use Rattle.ostore_base.specs.declared.page.PageImage.{PageImage}
use Rattle.ostore_page_tags.specs.Rules.{is_type_code}
use Rattle.ostore_page_tags.specs.Cells.{free_bytes}
use Rattle.ostore_page_tags.specs.PageLists.{bytes_at, header_at, first_of}
use Rattle.ostore_page_tags.specs.declared.page_header.PageHeader.{PageHeader}
use Rattle.ostore_page_tags.specs.PageChains.{IsSegment, IsOpen, IsWalk}
use Rattle.ostore_page_tags.specs.Allocated.{IsAllocated, HasFree}
use Rattle.ostore_page_tags.proofs.allocation.ChainLaws.{chain_owned}
use Rattle.ostore_schema_layout.specs.declared.schema.Schema.{Schema}
use Rattle.ostore_schema_layout.specs.declared.schema.TypeDef.{TypeDef}
use Rattle.ostore_schema_layout.specs.declared.schema.TypeNo.{TypeNo}
use Rattle.ostore_schema_layout.specs.Cells.{IsType, cell_size, code_size}
use Rattle.ostore_schema_layout.specs.Numbers.{members_of, members_of_found, type_named}
use Rattle.ostore_schema_layout.specs.Lawful.{IsLawful}
use Rattle.ostore_schema_layout.proofs.lawful.LawfulLawsPlaces.{type_there, stands}
use Rattle.ostore_schema_layout.proofs.places.LayoutLaws.{fours_cell_size, least_cell_size, lawful_cell_size}
use Rattle.ostore_segments.specs.Holdings.{KeepsHomes}
use Rattle.ostore_segments.specs.declared.placement.NoSpace.{NoSpace}
use Rattle.ostore_segments.specs.SchemaCells.{size_told}
use Rattle.ostore_segments.specs.Serials.{counter_of, AreSpent}
use Rattle.ostore_segments.specs.Room.{IsFull}
use Rattle.ostore_segments.specs.Placing.{Places, last, grown, early}
use Rattle.ostore_segments.specs.Making.{IsObjectAsked, DrawsAndAdds, Makes}
use Rattle.ostore_segments.proofs.MakeLaws.{placed_is, unspent}
use Rattle.ostore_segments.proofs.RoomLaws.{full_or_placed}
use Rattle.ostore_graph_model.specs.declared.values.Name.{Name}
use Rattle.ostore_graph_model.specs.declared.values.Reply.TheVariants as replies
use Rattle.ostore_graph_model.specs.declared.refusal.Refusal.{Refusal}
use Rattle.ostore_graph_model.specs.declared.refusal.Refusal.TheVariants.{WrongType, SerialsSpent}
use Rattle.ostore_graph_model.specs.declared.commands.Command.TheVariants as commands
use Rattle.ostore_graph_model.specs.Kinds.{no_type}
use Rattle.ostore_graph_model.specs.Orders.{text_cmp}
use Rattle.ostore_graph_model.specs.Graph.{Graph, last_serial}
use Rattle.ostore_graph_model.specs.Deeds.{Vars, Stepped, refused_where, refused_or}
use Rattle.ostore_graph_model.specs.Deeds.Objects.{drawn, new_object, with_new, greatest_serial, next_name}
use Rattle.ostore_graph_model.specs.Step.{step}
use Rattle.ostore_graph_model.specs.Addresses.{PlacedCell, cell_at}
use Rattle.ostore_graph_model.specs.FixedPages.{serial_of}
use Rattle.ostore_graph_model.specs.LawsOfCells.{added_cell}
use Rattle.ostore_graph_model.specs.LawsOfMeaning.{LeavesGraph}
use Rattle.ostore_graph_model.specs.PageEdits.{AddsAt}
use Rattle.ostore_graph_model.specs.StandsFor.{StandsFor}
use Rattle.ostore_graph_model.specs.Valid.{IsValid}
use Rattle.ostore_graph_model.proofs.AddressLaws.{cell_at-put_other, cell_at-read, page_put}
use Rattle.ostore_graph_model.proofs.AllocationLaws.{data_page}
use Rattle.ostore_graph_model.proofs.CellFacts.{added_law}
use Rattle.ostore_graph_model.proofs.DrawLaw.{last_serial_is, same_cell}
use Rattle.ostore_graph_model.proofs.NewObjectLaw.{new_law}
use Rattle.ostore_graph_model.proofs.PageLaws.{bytes_are}
use Rattle.ostore_graph_model.proofs.RecordLaws.{code_size_of_type}
use Rattle.ostore_graph_model.proofs.TakenLaw.{serial_is, taken_law, taken_reads}
use Rattle.ostore_object_ops.specs.Bound.{with_bound}
use Rattle.ostore_object_ops.specs.Means.{Leads, LeadsToName}
use Rattle.ostore_object_ops.specs.Suits.{IsOfInts}
use Rattle.ostore_object_ops.specs.Executes.{TakesAtMost, LacksSpace, Executes}
use Rattle.ostore_object_ops.proofs.CommandFacts.{stays, valid_after, holds_graph}
use Rattle.ostore_object_ops.proofs.GoodCells.{told_type}
use Rattle.ostore_object_ops.proofs.LeadFacts.{KeepsLeads, leads_kept, name_kept}
use Rattle.ostore_object_ops.proofs.ClaimFacts.{made_data}
use Rattle.ostore_object_ops.proofs.PageBridge.{grows_is, draws_is, adds_is}

-- ---- the type

pub record IsNewType (schema : Schema) (number : TypeNo) : Type 0 where
  pub place : ℕ
  pub ty : TypeDef
  pub number_is : number ≡ record { 0 = place + 1 }
  pub there : slice_get schema.types place ≡ Some ty
  pub few : place + 1 ≤ 64
  pub typed : is_type_code number.0 ≡ true
  pub size : code_size schema number.0 ≡ cell_size ty.members
  pub asked : IsObjectAsked (code_size schema number.0) number.0
  pub told : size_told schema number.0 ≡ Some (code_size schema number.0)

pub new_type : (schema : Schema) (number : TypeNo) → IsLawful schema → IsType schema number.0 → IsNewType schema number
new_type schema number lawful is =
    let found = type_there schema number.0 is in
    let at = stands schema number found.0 found.1 in
    let low = is.0 in
    let high = is.1 in
    let most = lawful.few in
    let number_at : number.0 ≡ at.place + 1 = ap (λ (n : TypeNo). n.0) at.number_is in
    let typed : is_type_code number.0 ≡ true = and_from _ _ (le-leb 1 number.0 low) (le-leb number.0 64 (omega arith)) in
    let of_type = code_size_of_type schema number.0 typed in
    let members : members_of schema number.0 ≡ found.0.members = ap members_of_found found.1 in
    let small = lawful_cell_size schema number.0 lawful is in
    let some = least_cell_size (members_of schema number.0) in
    record {
      place = at.place;
      ty = found.0;
      number_is = at.number_is;
      there = at.there;
      few = omega arith;
      typed = typed;
      size = of_type ∙ ap cell_size members;
      asked = record {
        some = omega arith;
        fours = subst (λ (n : ℕ). n % 4 ≡ 0) (sym of_type) (fours_cell_size (members_of schema number.0));
        most = omega arith;
        ty = typed;
      };
      told = told_type schema number.0 is;
    }

-- ---- refusals

module _ (schema : Schema) (vars : Vars) (graph : Graph) (to ty : List ℕ) (segment : ℕ) where
  -- `new`, by the type that the name means and by whether a serial is left
  abbrev new_by : Option TypeNo → Bool → Stepped
  new_by o below = refused_or (option_or (refused_where (is_none o) WrongType) (option_or (refused_where (not below) SerialsSpent) None)) vars graph (drawn vars graph to segment (new_object schema (unwrap_or o no_type)))

  new_is : (o : Option TypeNo) (below : Bool) → type_named schema ty ≡ o → nat_lt (last_serial graph segment) greatest_serial ≡ below → step schema true vars graph (commands.New to ty segment) ≡ new_by o below
  new_is o below named left = ap₂ new_by named left

last_is : (schema : Schema) (list : List PageImage) (segment : ℕ) (graph : Graph) → IsValid schema list → StandsFor schema list graph → IsSegment segment → last_serial graph segment ≡ counter_of list segment
last_is schema list segment graph valid stands within = last_serial_is (serial_of list) graph segment stands.serials ∙ serial_is list segment valid.pages_kept.allocated within

module _ (schema : Schema) (before after : Leads) (to ty : List ℕ) (segment : ℕ) (list : List PageImage) (keeps : KeepsLeads before after) where
  pub new_wrong : type_named schema ty ≡ None → Executes schema true (commands.New to ty segment) (replies.Refused WrongType) before after list list
  new_wrong none =
      stays schema true (commands.New to ty segment) (replies.Refused WrongType) before after list keeps
      (λ vars graph means. new_is schema vars graph to ty segment None (nat_lt (last_serial graph segment) greatest_serial) none refl)
      (λ lack lacks. no_type_named lack lacks)
    where
      no_type_named : (lack : NoSpace) → LacksSpace schema true (commands.New to ty segment) lack list → ⊥
      no_type_named lack lacks =
          let same : ty ≡ lacks.ty = let is = lacks.is in cc in
          none-some lacks.number (sym none ∙ ap (type_named schema) same ∙ lacks.named)

  pub new_spent : (number : TypeNo) → type_named schema ty ≡ Some number → IsSegment segment → AreSpent list segment → Executes schema true (commands.New to ty segment) (replies.Refused SerialsSpent) before after list list
  new_spent number named within spent =
      stays schema true (commands.New to ty segment) (replies.Refused SerialsSpent) before after list keeps
      (λ vars graph means.
      new_is schema vars graph to ty segment (Some number) false named
      (le-ltb (last_serial graph segment) greatest_serial (let same = last_is schema list segment graph means.valid means.stands within in let all = spent.all in omega arith)))
      (λ lack lacks. none_left lack lacks)
    where
      none_left : (lack : NoSpace) → LacksSpace schema true (commands.New to ty segment) lack list → ⊥
      none_left lack lacks =
          let same : segment ≡ lack.segment = let is = lacks.is in cc in
          lacks.left (subst (AreSpent list) same spent)

-- ---- a place for the cell

-- placing a cell leaves what the pages mean
place_keeps : (schema : Schema) (old new : List PageImage) (segment need page : ℕ) (graph : Graph) → IsValid schema old → StandsFor schema old graph → Places old new segment need page → IsValid schema new × StandsFor schema new graph
place_keeps schema old new segment need page graph valid stands (last it same) = subst (λ list. IsValid schema list × StandsFor schema list graph) (sym same) (valid, stands)
place_keeps schema old new segment need page graph valid stands (grown full it) =
    let law = taken_law schema old new segment page graph (grows_is old new segment page it) (holds_graph schema old graph valid stands) in
    (law.1 valid, law.0.holds.stands)
place_keeps schema old new segment need page graph valid stands (early full none it same) = subst (λ list. IsValid schema list × StandsFor schema list graph) (sym same) (valid, stands)

place_reads : (old new : List PageImage) (segment need page : ℕ) → IsAllocated old → Places old new segment need page → (address : ℕ) → cell_at new address ≡ cell_at old address
place_reads old new segment need page fine (last it same) address = ap (λ list. cell_at list address) same
place_reads old new segment need page fine (grown full it) address = (taken_reads old new segment page fine (grows_is old new segment page it)).cells address
place_reads old new segment need page fine (early full none it same) address = ap (λ list. cell_at list address) same

-- a walk over open pages is one list
same_walk : (n : ℕ) (header : ℕ → PageHeader) (from to : ℕ) (a b : List ℕ) → from ≡ to → IsWalk header from a → IsWalk header to b → All (IsOpen n) a → All (IsOpen n) b → a ≡ b
same_walk n header from to [] [] same one two la lb = refl
same_walk n header from to [] (q ∷ qs) same one two la lb = absurd (let low = (lb 0 q (omega arith)).0 in let e = two.0 in omega arith)
same_walk n header from to (p ∷ ps) [] same one two la lb = absurd (let low = (la 0 p (omega arith)).0 in let e = one.0 in omega arith)
same_walk n header from to (p ∷ ps) (q ∷ qs) same one two la lb =
    let pages : p ≡ q = sym one.0 ∙ same ∙ two.0 in
    let rest = same_walk n header (header p).next (header q).next ps qs (ap (λ (k : ℕ). (header k).next) pages) one.1 two.1 (λ k d below. la (suc k) d (omega arith)) (λ k d below. lb (suc k) d (omega arith)) in
    ap₂ (λ (k : ℕ) (ks : List ℕ). k ∷ ks) pages rest

pub same_free : (old : List PageImage) (one other : List ℕ) → HasFree old one → HasFree old other → one ≡ other
same_free old one other first second = same_walk (length old) (header_at old) (header_at old 0).next (header_at old 0).next one other refl first.walk second.walk first.pages second.pages

place_takes : (old new : List PageImage) (segment need page : ℕ) → Places old new segment need page → TakesAtMost 1 old new
place_takes old new segment need page (last it same) free has = (free, subst (λ list. HasFree list free) (sym same) has, omega arith)
place_takes old new segment need page (grown full it) free has =
    let known = it.free in
    let one : free ≡ page ∷ known.0 = same_free old free (page ∷ known.0) has known.1 in
    let long : length free ≡ length (page ∷ known.0) = ap (λ (l : List ℕ). length l) one in
    (known.0, known.2, omega arith)
place_takes old new segment need page (early full none it same) free has = (free, subst (λ list. HasFree list free) (sym same) has, omega arith)

-- ---- a new cell

pub record HasNewCell (old new : List PageImage) (address segment code serial : ℕ) : Type 0 where
  pub cell : PlacedCell
  pub there : cell_at new address ≡ Some cell
  pub code_is : cell.code ≡ code
  pub segment_is : cell.segment ≡ segment
  pub serial_is : cell.serial ≡ serial
  pub free : cell_at old address ≡ None
  pub others : (other : ℕ) → other ≢ address → cell_at new other ≡ cell_at old other

added_there : (old new : List PageImage) (address segment size code serial : ℕ) → IsAllocated old → AddsAt old new address segment size code serial → HasNewCell old new address segment code serial
unfolding header_at
added_there old new address segment size code serial fine adds =
    let held = bytes_are old adds.page adds.was adds.puts.there in
    let below = Rattle.std.proofs.lemmas.Option.slice_get_within old adds.page adds.was adds.puts.there in
    let good = data_page old adds.page fine adds.high below (ap (λ (b : List ℕ). (Rattle.ostore_page_tags.specs.Header.header_of b).kind) held ∙ adds.kind) in
    let added = added_law adds.was.bytes adds.image.bytes size code serial adds.adds (subst Rattle.ostore_page_tags.specs.Rules.IsPage held good) adds.kind in
    record {
      cell = added_cell (Rattle.ostore_page_tags.specs.Header.header_of adds.was.bytes).segment size code serial;
      there = ap (cell_at new) adds.at ∙ cell_at-read new adds.page _ adds.image (page_put old new adds.page adds.was adds.image adds.puts) adds.high adds.low ∙ added.there;
      code_is = refl;
      segment_is = adds.segment_is;
      serial_is = refl;
      free = ap (cell_at old) adds.at ∙ cell_at-read old adds.page _ adds.was adds.puts.there adds.high adds.low ∙ added.free;
      others = λ other apart. cell_at-put_other old new adds.page adds.was adds.image _ other adds.puts adds.low added.others (λ e. apart (e ∙ sym adds.at));
    }

-- ---- the object is made

record MadeObject (schema : Schema) (old new : List PageImage) (segment page offset serial : ℕ) (number : TypeNo) (graph : Graph) : Type 0 where
  pub next : serial ≡ last_serial graph segment + 1
  pub leaves : LeavesGraph schema old new (with_new graph segment (new_object schema number))
  pub cells : HasNewCell old new (page * 4096 + offset) segment number.0 serial

pub record IsMade (old new : List PageImage) (page offset : ℕ) : Type 0 where
  pub page_low : 10 ≤ page
  pub page_below : page < 16384
  pub page_there : page < length new
  pub offset_below : offset < 4096

-- cells end before the page does, where there is room
end_below : (list : List PageImage) (page size : ℕ) → size + 8 ≤ free_bytes (bytes_at list page) → (header_at list page).end < 4096
unfolding header_at
end_below list page size room = omega arith

-- where a made cell is
pub made_within : (old new : List PageImage) (segment page size code serial offset : ℕ) → IsAllocated old → size ≤ 1000 → IsSegment segment → Makes old new segment page size code serial offset → IsMade old new page offset
made_within old new segment page size code serial offset fine most within makes =
    let placed = placed_is old makes.middle segment (size + 8) page fine (omega arith) makes.placed in
    let owned = chain_owned (length makes.middle) (header_at makes.middle) (first_of makes.middle segment) segment page placed.chain placed.has placed.there in
    let count = placed.allocated.most in
    let low = owned.low in
    let high = owned.high in
    let room = end_below makes.made.middle page size (subst (λ (n : ℕ). size + 8 ≤ n) (sym (makes.made.drawn.room page)) placed.room) in
    let end = makes.made.at in
    let drawn_count = makes.made.drawn.elsewhere.count in
    let added_count = makes.made.added.count in
    record { page_low = low; page_below = omega arith; page_there = omega arith; offset_below = omega arith }

made_law : (schema : Schema) (old new : List PageImage) (segment page offset serial : ℕ) (number : TypeNo) (graph : Graph) → IsNewType schema number → IsValid schema old → StandsFor schema old graph → IsSegment segment
    → Rattle.ostore_segments.specs.Room.IsPlaced old segment (code_size schema number.0 + 8) page → DrawsAndAdds old new segment page (code_size schema number.0) number.0 serial offset
    → MadeObject schema old new segment page offset serial number graph
made_law schema old new segment page offset serial number graph is valid stands within placed made =
    let middle = made.middle in
    let draws = made.drawn in
    let chain = draws.lists.chains segment placed.chain within placed.has in
    let owned = chain_owned (length made.middle) (header_at made.middle) (first_of made.middle segment) segment page placed.chain chain placed.there in
    let counted = serial_is old segment placed.allocated within in
    let last = last_serial_is (serial_of old) graph segment stands.serials in
    let next : serial ≡ serial_of old segment + 1 = let raised = draws.next in omega arith in
    let room = end_below made.middle page (code_size schema number.0) (subst (λ (n : ℕ). code_size schema number.0 + 8 ≤ n) (sym (draws.room page)) placed.room) in
    let end = made.at in
    let drawn_is = draws_is old made.middle segment serial placed.allocated within draws in
    let added = adds_is made.middle new segment page (code_size schema number.0) number.0 serial owned.low owned.high owned.kind owned.segment room made.added in
    let there : AddsAt made.middle new (page * 4096 + offset) segment (code_size schema number.0) number.0 serial = subst (λ (n : ℕ). AddsAt made.middle new (page * 4096 + n) segment (code_size schema number.0) number.0 serial) (sym end) added in
    let cells = added_there made.middle new (page * 4096 + offset) segment (code_size schema number.0) number.0 serial draws.allocated there in
    let same = same_cell schema old made.middle segment drawn_is valid.pages_kept in
    let number_at : number.0 ≡ is.place + 1 = ap (λ (n : TypeNo). n.0) is.number_is in
    let adds : AddsAt made.middle new (page * 4096 + offset) segment (cell_size is.ty.members) (is.place + 1) (serial_of old segment + 1) =
    subst (λ (n : ℕ). AddsAt made.middle new (page * 4096 + offset) segment n (is.place + 1) (serial_of old segment + 1)) is.size
    (subst₂ (λ (c s : ℕ). AddsAt made.middle new (page * 4096 + offset) segment (code_size schema number.0) c s) number_at next there) in
    record {
      next = omega arith;
      leaves = subst (λ (n : TypeNo). LeavesGraph schema old new (with_new graph segment (new_object schema n))) (sym is.number_is)
          (new_law schema old made.middle new (page * 4096 + offset) segment is.place is.ty graph (holds_graph schema old graph valid stands) is.there is.few drawn_is adds);
      cells = record {
        cell = cells.cell;
        there = cells.there;
        code_is = cells.code_is;
        segment_is = cells.segment_is;
        serial_is = cells.serial_is;
        free = sym (same (page * 4096 + offset)) ∙ cells.free;
        others = λ other apart. cells.others other apart ∙ same other;
      };
    }

-- the variable leads to the new object, and every other one to what it led to
name_made : (old new : List PageImage) (address segment code serial : ℕ) → HasNewCell old new address segment code serial → is_type_code code ≡ true → (b : Bool) (to : Option (Option ℕ)) (name : Option Name) → LeadsToName old to name
    → LeadsToName new (cond b (Some (Some address)) to) (cond b (Some (record { segment = segment; serial = serial })) name)
name_made old new address segment code serial made typed true to name was = record {
  cell = made.cell;
  there = made.there;
  typed = ap is_type_code made.code_is ∙ typed;
  named = sym (ap₂ (λ (s n : ℕ). Some (record { segment = s; serial = n })) made.segment_is made.serial_is);
}
name_made old new address segment code serial made typed false None name was = was
name_made old new address segment code serial made typed false (Some None) name was = was
name_made old new address segment code serial made typed false (Some (Some other)) name was = record {
  cell = was.cell;
  there = made.others other (λ same. none-some was.cell (sym made.free ∙ ap (cell_at old) (sym same) ∙ was.there)) ∙ was.there;
  typed = was.typed;
  named = was.named;
}

module _ (schema : Schema) (home later : ℕ → Option ℕ) (bound now : List ℕ → Option ℕ) (to ty : List ℕ) (segment pointer : ℕ) (old new : List PageImage) (page offset serial : ℕ) (number : TypeNo) where
  abbrev before : Leads
  before variable = option_map home (bound variable)

  abbrev after : Leads
  after variable = option_map later (now variable)

  abbrev between : Leads
  between variable = option_map later (bound variable)

  binds : ((variable : List ℕ) → now variable ≡ with_bound bound to pointer variable) → later pointer ≡ Some (page * 4096 + offset) → (variable : List ℕ)
      → after variable ≡ cond (eq_by_cmp text_cmp variable to) (Some (Some (page * 4096 + offset))) (between variable)
  binds is leads variable = ap (option_map later) (is variable) ∙ by (eq_by_cmp text_cmp variable to)
    where
      by : (b : Bool) → option_map later (cond b (Some pointer) (bound variable)) ≡ cond b (Some (Some (page * 4096 + offset))) (between variable)
      by true = ap (λ (h : Option ℕ). Some h) leads
      by false = refl

  pub new_done : IsOfInts schema → IsNewType schema number → type_named schema ty ≡ Some number → IsSegment segment → (AreSpent old segment → ⊥) → IsAllocated old
      → Makes old new segment page (code_size schema number.0) number.0 serial offset
      → KeepsHomes home later → ((variable : List ℕ) → now variable ≡ with_bound bound to pointer variable) → later pointer ≡ Some (page * 4096 + offset)
      → Executes schema true (commands.New to ty segment) (replies.Named (record { segment = segment; serial = serial })) before after old new
  new_done ints is named within left fine makes homes bound_now leads = record {
    does = λ vars graph means.
        let kept = place_keeps schema old makes.middle segment (code_size schema number.0 + 8) page graph means.valid means.stands makes.placed in
        let size = is.asked.most in
        let placed = placed_is old makes.middle segment (code_size schema number.0 + 8) page fine (omega arith) makes.placed in
        let made = made_law schema makes.middle new segment page offset serial number graph is kept.0 kept.1 within placed makes.made in
        let unspent_here = unspent old segment fine left in
        let counted = last_is schema old segment graph means.valid means.stands within in
        let name : record { segment = segment; serial = serial } ≡ next_name graph segment = ap (λ (n : ℕ). record { segment = segment; serial = n }) made.next in
        record {
          then = maps.insert vars to (next_name graph segment);
          next = with_new graph segment (new_object schema number);
          steps =
              new_is schema vars graph to ty segment (Some number) true named (lt-ltb (last_serial graph segment) greatest_serial (omega arith))
              ∙ ap (λ (n : Name). record { reply = replies.Named n; vars = maps.insert vars to (next_name graph segment); graph = with_new graph segment (new_object schema number) }) (sym name);
          means = record {
            valid = valid_after schema makes.middle new graph (with_new graph segment (new_object schema number)) ints kept.0 kept.1 made.leaves refl;
            stands = made.leaves.holds.stands;
            bound = λ variable.
                subst₂ (λ (lead : Option (Option ℕ)) (name : Option Name). LeadsToName new lead name) (sym (binds bound_now leads variable)) (sym (maps.get-insert nat_list_cmp_total vars to (next_name graph segment) variable))
                (subst (λ (n : Name). LeadsToName new (cond (eq_by_cmp text_cmp variable to) (Some (Some (page * 4096 + offset))) (between variable)) (cond (eq_by_cmp text_cmp variable to) (Some n) (maps.get vars variable))) name
                (name_made makes.middle new (page * 4096 + offset) segment number.0 serial made.cells is.typed (eq_by_cmp text_cmp variable to) (between variable) (maps.get vars variable)
                (name_kept old makes.middle before between variable (maps.get vars variable) (leads_kept home later bound homes)
                (λ address cell there. (cell, place_reads old makes.middle segment (code_size schema number.0 + 8) page fine makes.placed address ∙ there, refl, refl)) (means.bound variable))));
          };
        };
    room = λ lack lacks.
        let same : segment ≡ lack.segment = let eq = lacks.is in cc in
        let type_same : ty ≡ lacks.ty = let eq = lacks.is in cc in
        let number_same : number ≡ lacks.number = same_Some number lacks.number (sym named ∙ ap (type_named schema) type_same ∙ lacks.named) in
        let need : lack.need ≡ code_size schema number.0 + 8 = lacks.need ∙ ap (λ (n : TypeNo). code_size schema n.0 + 8) (sym number_same) in
        full_or_placed old makes.middle segment (code_size schema number.0 + 8) page (subst₂ (IsFull old) (sym same) need lacks.full) makes.placed;
    taken = λ free has.
        let taken = place_takes old makes.middle segment (code_size schema number.0 + 8) page makes.placed free has in
        (taken.0, makes.made.added.lists.free taken.0 (makes.made.drawn.lists.free taken.0 taken.1), taken.2);
    only_new = λ other. absurd (other to ty segment refl);
    read = λ object member is. absurd (never_get object member is);
    reads = λ never. absurd (never_false never);
    refused = λ refusal is. absurd (never_refused refusal is);
    pages = made_data old new segment page (code_size schema number.0) number.0 serial offset fine makes;
  }
    where
      never_get : (object member : List ℕ) → commands.New to ty segment ≡ commands.Get object member → ⊥
      never_get object member is = cc

      never_false : true ≡ false → ⊥
      never_false is = cc

      never_refused : (refusal : Refusal) → replies.Named (record { segment = segment; serial = serial }) ≡ replies.Refused refusal → ⊥
      never_refused refusal is = cc

-- ---- no place for it

pub new_lacks : (schema : Schema) (to ty : List ℕ) (segment need : ℕ) (number : TypeNo) (list : List PageImage) (lack : NoSpace) → type_named schema ty ≡ Some number → (AreSpent list segment → ⊥) → lack.segment ≡ segment → lack.need ≡ need
    → need ≡ code_size schema number.0 + 8 → IsFull list segment need → LacksSpace schema true (commands.New to ty segment) lack list
new_lacks schema to ty segment need number list lack named left same needed is full = record {
  to = to;
  ty = ty;
  is = ap (λ (s : ℕ). commands.New to ty s) (sym same);
  may = refl;
  number = number;
  named = named;
  left = λ spent. left (subst (AreSpent list) same spent);
  need = needed ∙ is;
  full = subst₂ (IsFull list) (sym same) (sym needed) full;
}
