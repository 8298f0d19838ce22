-- Where a graph has no indexes, nothing is asked of them.
use Rattle.std.proofs.Common.{◌≡◌, ℕ, ◌<◌, List, [], ◌∷◌, length, map, take, refl, sym, subst, ◌∙◌, arith, true≢false, get_or, ◌≢◌}
use Rattle.std.specs.List.{All}
use Rattle.ostore_graph_model.specs.Sets as sets
use Rattle.ostore_graph_model.proofs.SetFacts as set_facts
use Rattle.ostore_schema_layout.specs.declared.schema.Schema.{Schema}
use Rattle.ostore_schema_layout.specs.declared.schema.MemberDef.{MemberDef}
use Rattle.ostore_schema_layout.specs.Cells.{ArePairwise}
use Rattle.ostore_base.specs.declared.cell_codes.TheConstants.{INDEX_DESCRIPTOR}
use Rattle.ostore_graph_model.specs.Orders.{PathIndex, index_cmp}
use Rattle.ostore_graph_model.specs.Graph.{Graph}
use Rattle.ostore_graph_model.specs.Chains.{ChainLink, IsChain, indexes_of}
use Rattle.ostore_graph_model.specs.Heap.{Heap, name_in, HasMember}
use Rattle.ostore_graph_model.specs.IndexRules.{KeepsIndexes, IsGoodIndex, used_steps}
use Rattle.ostore_graph_model.specs.Chunks.{IndexDescriptor}
use Rattle.ostore_graph_model.specs.Records.{CollectionHead, Slot, RowTag}
use Rattle.ostore_graph_model.specs.StandsFor.{HasIndex, ShowsIndexes}
use Rattle.ostore_graph_model.specs.LawsOfMeaning.{LawOfNoIndexes}
use Rattle.ostore_graph_model.specs.Records.{heap_of}

module _ (schema : Schema) (heap : Heap) (shown : ShowsIndexes schema heap sets.empty) where
  nothing : (index : PathIndex) → HasIndex schema heap index → ⊥
  nothing index has = true≢false (sym ((shown index).1 has) ∙ set_facts.contains-empty index_cmp index)

  none_along : (address member : ℕ) (tag : RowTag) (def : MemberDef) (head : CollectionHead) (chain : List ChainLink) → HasMember schema heap address member tag def (Slot.Begins head)
      → IsChain heap INDEX_DESCRIPTOR tag.segment head.descriptor chain → (all : List IndexDescriptor) → all ≡ indexes_of chain → indexes_of chain ≡ []
  none_along address member tag def head chain has linked [] is = sym is
  none_along address member tag def head chain has linked (one ∷ others) is =
      absurd (nothing (record { set = record { object = name_in tag; member = record { 0 = member } }; path = map (λ step. record { 0 = step.member }) (take one.steps one.path) }) (record {
        address = address;
        tag = tag;
        def = def;
        head = head;
        has = has;
        named = refl;
        chain = chain;
        linked = linked;
        descriptor = one;
        there = subst (λ all. (k : ℕ) × (k < length all) × (get_or all k one ≡ one)) is (0, omega arith, refl);
        path = refl;
      }))

  pub no_indexes : (graph : Graph) (address : ℕ) → KeepsIndexes schema heap graph address
  no_indexes graph address = record {
    good = λ member tag def chain are. subst (λ all. All (IsGoodIndex schema heap graph tag member def) all) (sym (none_along address member tag def are.0 chain are.1 are.2 (indexes_of chain) refl)) (λ k d below. absurd (omega arith));
    apart = λ member tag def chain are. subst (λ all. ArePairwise (λ earlier later. used_steps earlier ≢ used_steps later) all) (sym (none_along address member tag def are.0 chain are.1 are.2 (indexes_of chain) refl)) tt;
  }

pub no_indexes_law : LawOfNoIndexes
no_indexes_law schema pages graph holds links none =
    let quiet = subst (λ indexes. ShowsIndexes schema (heap_of schema pages) indexes) none holds.stands.indexes in
    record {
      pages_kept = holds.pages_kept;
      cells_kept = holds.cells_kept;
      links_kept = links;
      indexes_kept = record { graph = graph; stands = holds.stands; kept = no_indexes schema (heap_of schema pages) quiet graph };
    }
