-- What reads and writes of ints make of a command.
use Rattle.std.proofs.Common.{◌≡◌, ◌∙◌, ℕ, ℤ, Bool, true, false, List, [], ◌∷◌, refl, ap, sym, subst, arith, inl, inr, Option, Some}
use Rattle.std.specs.Prelude.{not}
use Rattle.std.specs.Option.{option_map, option_and_then}
use Rattle.std.specs.FinMap as maps
use Rattle.std.proofs.lemmas.Bool.{cases_eq}
use Rattle.std.proofs.lemmas.Option.{slice_get-map}
use Rattle.ostore_base.specs.declared.page.PageImage.{PageImage}
use Rattle.ostore_page_tags.specs.Numbers.{int_at, with_int}
use Rattle.ostore_schema_layout.specs.declared.schema.Schema.{Schema}
use Rattle.ostore_schema_layout.specs.declared.schema.MemberDef.{MemberDef}
use Rattle.ostore_schema_layout.specs.declared.schema.MemberKind.{MemberKind}
use Rattle.ostore_schema_layout.specs.declared.schema.MemberKind.TheVariants as kinds
use Rattle.ostore_schema_layout.specs.Cells.{places_from}
use Rattle.ostore_schema_layout.specs.Numbers.{members_of}
use Rattle.ostore_segments.specs.declared.placement.NoSpace.{NoSpace}
use Rattle.ostore_graph_model.specs.declared.values.Scalar.{Scalar}
use Rattle.ostore_graph_model.specs.declared.values.Scalar.TheVariants as scalars
use Rattle.ostore_graph_model.specs.declared.values.Value.TheVariants as values
use Rattle.ostore_graph_model.specs.declared.values.Reply.{Reply}
use Rattle.ostore_graph_model.specs.declared.values.Reply.TheVariants as replies
use Rattle.ostore_graph_model.specs.declared.refusal.Refusal.{Refusal}
use Rattle.ostore_graph_model.specs.declared.refusal.Refusal.TheVariants.{WrongKind, ReadOnly}
use Rattle.ostore_graph_model.specs.declared.commands.Command.{Command}
use Rattle.ostore_graph_model.specs.declared.commands.Command.TheVariants as commands
use Rattle.ostore_graph_model.specs.declared.commands.Operand.TheVariants as operands
use Rattle.ostore_graph_model.specs.Kinds.{is_int, is_single, is_collection}
use Rattle.ostore_graph_model.specs.Graph.{Graph, Object}
use Rattle.ostore_graph_model.specs.Paths.{held, scalar_of}
use Rattle.ostore_graph_model.specs.Deeds.{Vars, refused, refused_where, first_refusal, refused_or, shown, done}
use Rattle.ostore_graph_model.specs.Deeds.Objects.{get_deed, set_int_deed, value_of, shown_scalar, with_held}
use Rattle.ostore_graph_model.specs.Step.{step, Steps}
use Rattle.ostore_graph_model.specs.Addresses.{PlacedCell, cell_at}
use Rattle.ostore_graph_model.specs.MemberValues.{value_in, held_at}
use Rattle.ostore_graph_model.specs.LawsOfIndexes.{HasNoIndexable}
use Rattle.ostore_graph_model.specs.LawsOfMeaning.{HoldGraph, LeavesGraph}
use Rattle.ostore_graph_model.specs.Valid.{IsValid}
use Rattle.ostore_graph_model.specs.StandsFor.{StandsFor}
use Rattle.ostore_graph_model.specs.PageEdits.{EditsAt, WritesInt, name_of}
use Rattle.ostore_graph_model.proofs.AddressLaws.{placed_with, cell_at-edited_other, cell_at-edited_same}
use Rattle.ostore_graph_model.proofs.IndexLaws.{no_indexes_law}
use Rattle.ostore_graph_model.proofs.UndeclaredLaw.{undeclared_law}
use Rattle.ostore_graph_model.proofs.ValueLaws.{int_law}
use Rattle.ostore_object_ops.specs.declared.lookup.Found.{Found}
use Rattle.ostore_object_ops.specs.Means.{Leads, Means, HasMeaning}
use Rattle.ostore_object_ops.specs.Suits.{IsOfInts}
use Rattle.ostore_object_ops.specs.Executes.{TakesAtMost, LacksSpace, Executes}
use Rattle.ostore_object_ops.specs.inside.Members.{address_of, object_in, member_in, IsMember, HasInt, StoresInt, RefusesMember}
use Rattle.ostore_object_ops.proofs.IntSchemas.{ints_here}
use Rattle.ostore_object_ops.proofs.LeadFacts.{KeepsLeads, KeepsRows, name_kept, means_kept}

-- ---- commands that leave the pages

pub takes_none : (n : ℕ) (list : List PageImage) → TakesAtMost n list list
takes_none n list free has = (free, has, omega arith)

pub stays : (schema : Schema) (update : Bool) (command : Command) (reply : Reply) (before after : Leads) (list : List PageImage) → KeepsLeads before after
    → ((vars : Vars) (graph : Graph) → Means schema list before vars graph → Steps schema update vars graph command reply vars graph)
    → ((lack : NoSpace) → LacksSpace schema update command lack list → ⊥)
    → Executes schema update command reply before after list list
stays schema update command reply before after list keeps steps room = record {
  does = λ vars graph means. record { then = vars; next = graph; steps = steps vars graph means; means = means_kept schema list before after vars graph keeps means };
  room = room;
  taken = takes_none 1 list;
  only_new = λ other. takes_none 0 list;
  read = λ object member is. refl;
  reads = λ reading. refl;
  refused = λ refusal is. refl;
  pages = record { count = refl; kept = λ page is. is };
}

-- `get` and `set` want no space
pub get_room : (schema : Schema) (update : Bool) (object member : List ℕ) (list : List PageImage) (lack : NoSpace) → LacksSpace schema update (commands.Get object member) lack list → ⊥
get_room schema update object member list lack lacks = let is = lacks.is in cc

pub set_room : (schema : Schema) (update : Bool) (object member : List ℕ) (value : ℤ) (list : List PageImage) (lack : NoSpace) → LacksSpace schema update (commands.Set object member (operands.Int value)) lack list → ⊥
set_room schema update object member value list lack lacks = let is = lacks.is in cc

-- a schema of ints has no collections
pub no_indexable : (schema : Schema) → IsOfInts schema → HasNoIndexable schema
no_indexable schema ints ty member def there collection =
    let kind = ints_here schema ints ty member def there in
    let never : is_collection kinds.Int ≡ true = subst (λ (k : MemberKind). is_collection k ≡ true) kind collection in
    cc

-- an edit that leaves the graph's indexes leaves valid pages
pub valid_after : (schema : Schema) (old new : List PageImage) (graph next : Graph) → IsOfInts schema → IsValid schema old → StandsFor schema old graph → LeavesGraph schema old new next → next.indexes ≡ graph.indexes → IsValid schema new
valid_after schema old new graph next ints valid stands leaves same =
    no_indexes_law schema new next leaves.holds (leaves.links_kept valid.links_kept) (same ∙ undeclared_law schema old graph (no_indexable schema ints) valid stands)

pub holds_graph : (schema : Schema) (list : List PageImage) (graph : Graph) → IsValid schema list → StandsFor schema list graph → HoldGraph schema list graph
holds_graph schema list graph valid stands = record { pages_kept = valid.pages_kept; cells_kept = valid.cells_kept; stands = stands }

-- ---- `get`

module _ (schema : Schema) (update : Bool) (before after : Leads) (object member : List ℕ) (list : List PageImage) (keeps : KeepsLeads before after) where
  pub get_refused : (refusal : Refusal) → RefusesMember schema before object member refusal list → Executes schema update (commands.Get object member) (replies.Refused refusal) before after list list
  get_refused refusal refuses =
      stays schema update (commands.Get object member) (replies.Refused refusal) before after list keeps
      (λ vars graph means. refuses vars graph means is_single (get_deed schema vars graph) false update refl)
      (get_room schema update object member list)

  pub get_done : (found : Found) (value : ℤ) (is : IsMember schema before object member found list) → IsOfInts schema → value ≡ int_at found.place.offset is.cell.bytes
      → Executes schema update (commands.Get object member) (replies.Value (values.Int value)) before after list list
  get_done found value is ints same =
      stays schema update (commands.Get object member) (replies.Value (values.Int value)) before after list keeps
      (λ vars graph means.
      is.gives vars graph means is_single (get_deed schema vars graph) false update refl
      ∙ ap (λ (kind : MemberKind). refused_or (first_refusal (refused_where (not (is_single kind)) WrongKind ∷ [])) vars graph (shown (replies.Value (value_of schema graph (member_in is.cell found.number.0 is.def) kind)) vars graph)) (ints_here schema ints is.cell.code found.number.0 is.def is.defined)
      ∙ ap (λ (o : Option Scalar). shown (replies.Value (shown_scalar o)) vars graph) (value_here graph (is.object vars graph means))
      ∙ ap (λ (v : ℤ). shown (replies.Value (values.Int v)) vars graph) (sym same))
      (get_room schema update object member list)
    where
      kind_here : found.place.kind ≡ kinds.Int
      kind_here = is.kind ∙ ints_here schema ints is.cell.code found.number.0 is.def is.defined

      value_here : (graph : Graph) → maps.get graph.objects (name_of is.cell) ≡ Some (object_in schema is.cell) → scalar_of graph (name_of is.cell) found.number ≡ Some (scalars.Int (int_at found.place.offset is.cell.bytes))
      value_here graph got =
          ap (option_and_then (λ (o : Object). held o found.number)) got
          ∙ ap (option_and_then (λ (v : Option Scalar). v)) (slice_get-map (value_in is.cell.bytes) (places_from 0 (members_of schema is.cell.code)) found.number.0 ∙ ap (option_map (value_in is.cell.bytes)) is.has.lies)
          ∙ ap (held_at is.cell.bytes found.place.offset) kind_here

-- the int of a member that was found
pub has_int : (schema : Schema) (leads : Leads) (object member : List ℕ) (found : Found) (list : List PageImage) → IsOfInts schema → HasMeaning schema leads list → IsMember schema leads object member found list → HasInt schema found list
has_int schema leads object member found list ints known is = record {
  valid = known.means.valid;
  low = is.low;
  cell = is.cell;
  has = is.has;
  kind = is.kind ∙ ints_here schema ints is.cell.code found.number.0 is.def is.defined;
}

-- ---- `set`

-- an edit of a cell's bytes leaves the rows
rows_edited : (old new : List PageImage) (address : ℕ) (bytes : List ℕ) → EditsAt old new address bytes → KeepsRows old new
rows_edited old new address bytes edits other cell there = elim (cases_eq other address) [
  | inl here ↦ (placed_with bytes cell, ap (cell_at new) here ∙ cell_at-edited_same old new address bytes edits ∙ ap (option_map (placed_with bytes)) (ap (cell_at old) (sym here) ∙ there), refl, refl)
  | inr apart ↦ (cell, cell_at-edited_other old new address bytes other edits apart ∙ there, refl, refl)
]

module _ (schema : Schema) (before after : Leads) (object member : List ℕ) (value : ℤ) (keeps : KeepsLeads before after) where
  pub set_refused : (list : List PageImage) (refusal : Refusal) → RefusesMember schema before object member refusal list → Executes schema true (commands.Set object member (operands.Int value)) (replies.Refused refusal) before after list list
  set_refused list refusal refuses =
      stays schema true (commands.Set object member (operands.Int value)) (replies.Refused refusal) before after list keeps
      (λ vars graph means. refuses vars graph means is_int (set_int_deed vars graph value) true true refl)
      (set_room schema true object member value list)

  pub set_done : (old new : List PageImage) (found : Found) → IsOfInts schema → IsMember schema before object member found old → StoresInt schema found value old new
      → Executes schema true (commands.Set object member (operands.Int value)) replies.Done before after old new
  set_done old new found ints is stores = record {
    does = λ vars graph means.
        let law = int_law schema old new (address_of found) found.number.0 is.cell found.place value graph (object_in schema is.cell) (member_in is.cell found.number.0 is.def)
        (holds_graph schema old graph means.valid means.stands) writes (is.object vars graph means) (ap (option_map (λ (d : MemberDef). member_in is.cell found.number.0 d)) is.defined) in
        record {
          then = vars;
          next = with_held graph (member_in is.cell found.number.0 is.def) (scalars.Int value);
          steps =
              is.gives vars graph means is_int (set_int_deed vars graph value) true true refl
              ∙ ap (λ (k : MemberKind). refused_or (first_refusal (refused_where (not (is_int k)) WrongKind ∷ [])) vars graph (done vars (with_held graph (member_in is.cell found.number.0 is.def) (scalars.Int value)))) (ints_here schema ints is.cell.code found.number.0 is.def is.defined);
          means = record {
            valid = valid_after schema old new graph (with_held graph (member_in is.cell found.number.0 is.def) (scalars.Int value)) ints means.valid means.stands law refl;
            stands = law.holds.stands;
            bound = λ variable. name_kept old new before after variable (maps.get vars variable) keeps (rows_edited old new (address_of found) (with_int found.place.offset value is.cell.bytes) writes.edits) (means.bound variable);
          };
        };
    room = set_room schema true object member value old;
    taken = λ free has. (free, stores.taken free has, omega arith);
    only_new = λ other free has. (free, stores.taken free has, omega arith);
    read = λ other_object other_member is. absurd (never_get other_object other_member is);
    reads = λ never. absurd (never_false never);
    refused = λ refusal is. absurd (never_refused refusal is);
    pages = stores.pages;
  }
    where
      never_get : (other_object other_member : List ℕ) → commands.Set object member (operands.Int value) ≡ commands.Get other_object other_member → ⊥
      never_get other_object other_member is = cc

      never_false : true ≡ false → ⊥
      never_false is = cc

      never_refused : (refusal : Refusal) → replies.Done ≡ replies.Refused refusal → ⊥
      never_refused refusal is = cc

      writes : WritesInt schema old new (address_of found) found.number.0 is.cell found.place value
      writes =
          subst (λ (c : PlacedCell). WritesInt schema old new (address_of found) found.number.0 c found.place value) (Rattle.std.proofs.lemmas.Option.same_Some stores.cell is.cell (sym stores.writes.has.there ∙ is.has.there)) stores.writes

-- ---- in a read

-- a writing command is refused
pub read_only : (schema : Schema) (update : Bool) (command : Command) (before after : Leads) (list : List PageImage) → KeepsLeads before after → update ≡ false
    → ((vars : Vars) (graph : Graph) → step schema false vars graph command ≡ refused ReadOnly vars graph) → Executes schema update command (replies.Refused ReadOnly) before after list list
read_only schema update command before after list keeps lack refuses =
    stays schema update command (replies.Refused ReadOnly) before after list keeps
    (λ vars graph means. ap (λ b. step schema b vars graph command) lack ∙ refuses vars graph)
    (λ space lacks. let may = lacks.may in let never : false ≡ true = sym lack ∙ may in cc)
