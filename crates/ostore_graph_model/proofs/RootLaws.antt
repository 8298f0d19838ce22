-- A root is bound or unbound: the pages hold the graph with that root, or without it.
use Rattle.std.proofs.Common.{◌≡◌, ◌≢◌, ◌⊎◌, ℕ, cond, List, refl, sym, ap, subst, subst₂, ◌∙◌, Option, Some, None, inl, inr, true≢false}
use Rattle.std.specs.List.{Any, Contains}
use Rattle.std.specs.Option.{option_map}
use Rattle.std.specs.Ordering.{eq_by_cmp}
use Rattle.std.specs.FinMap as maps
use Rattle.std.specs.FinMap.{IsAntisymmetric, nat_cmp-IsAntisymmetric, slice_cmp-IsAntisymmetric}
use Rattle.std.proofs.lemmas.Bool.{cases_Bool}
use Rattle.std.proofs.lemmas.Cmp.{nat_list_cmp_total}
use Rattle.std.proofs.lemmas.List.Elements.{All-weaker, All-contains, All-contains_itself}
use Rattle.std.proofs.lemmas.Option.{same_Some, none-some}
use Rattle.ostore_base.specs.declared.page.PageImage.{PageImage}
use Rattle.ostore_schema_layout.specs.declared.schema.Schema.{Schema}
use Rattle.ostore_graph_model.specs.declared.values.Name.{Name}
use Rattle.ostore_graph_model.specs.Orders.{text_cmp}
use Rattle.ostore_graph_model.specs.Graph.{Graph}
use Rattle.ostore_graph_model.specs.Addresses.{PlacedCell, cell_at}
use Rattle.ostore_graph_model.specs.FixedPages.{RootRow, roots_of, serial_of}
use Rattle.ostore_graph_model.specs.MemberValues.{values_in, values_of}
use Rattle.ostore_graph_model.specs.Records.{HeapCell, heap_cell, heap_of}
use Rattle.ostore_graph_model.specs.Heap.{Heap, tag_at, code_at, name_in, name_at}
use Rattle.ostore_graph_model.specs.HeapRules.{IsGoodRoot, KeepsRoots, KeepsPointers, KeepsSerials, KeepsChains, KeepsOwner, KeepsItems, KeepsLinks}
use Rattle.ostore_graph_model.specs.StandsFor.{HasRoot, ShowsObjects, ShowsPairs, ShowsLists, ShowsDictionaries, ShowsRoots, ShowsSerials, ShowsIndexes}
use Rattle.ostore_graph_model.specs.Valid.{HasGoodPages}
use Rattle.ostore_graph_model.specs.PageEdits.{name_of}
use Rattle.ostore_graph_model.specs.LawsOfMeaning.{HoldGraph, LeavesGraph, LawOfBoundRoots, LawOfUnboundRoots}
use Rattle.ostore_graph_model.proofs.OrderLaws.{tied_same, same_tied, apart_tied}

any_of : {X : Type 0} (P : X → Type 0) (xs : List X) (x : X) → Contains xs x → P x → Any P xs
any_of P xs x there is = (there.0, x, there.1, there.2, is)

text_same : IsAntisymmetric text_cmp
text_same = slice_cmp-IsAntisymmetric nat_cmp-IsAntisymmetric

-- the rows of roots are others, and all else is read as it was
module _ (schema : Schema) (old new : List PageImage) (cells_same : (address : ℕ) → cell_at new address ≡ cell_at old address) (serials_same : serial_of new ≡ serial_of old)
    (graph : Graph) (holds : HoldGraph schema old graph) (pages : HasGoodPages schema new) where
  same_heap : heap_of schema old ≡ heap_of schema new
  unfolding heap_of
  same_heap = λ i address. option_map (heap_cell schema) (sym (cells_same address) i)

  same_values : values_of schema old ≡ values_of schema new
  unfolding values_of
  same_values = λ i address. option_map (values_in schema) (sym (cells_same address) i)

  root_leaves : (roots : maps.FinMap text_cmp Name) → KeepsRoots (heap_of schema old) (roots_of new) → ShowsRoots (heap_of schema old) (roots_of new) roots → LeavesGraph schema old new (record graph { roots = roots })
  root_leaves roots kept shown =
      let cells = holds.cells_kept in
      let stands = holds.stands in
      record {
        holds = record {
          pages_kept = pages;
          cells_kept = record {
            written = λ address cell there. cells.written address cell (sym (cells_same address) ∙ there);
            roots = subst (λ heap. KeepsRoots heap (roots_of new)) same_heap kept;
            pointers = subst (λ heap. (address : ℕ) → KeepsPointers schema heap address) same_heap cells.pointers;
            serials = subst₂ (λ heap counters. (address : ℕ) → KeepsSerials (tag_at heap) counters address) same_heap (sym serials_same) cells.serials;
            chains = subst (λ heap. (address : ℕ) → KeepsChains schema heap address) same_heap cells.chains;
            owners = subst (λ heap. (address : ℕ) → KeepsOwner schema heap address) same_heap cells.owners;
            items = subst (λ heap. (address : ℕ) → KeepsItems heap address) same_heap cells.items;
          };
          stands = record {
            objects = subst₂ (λ heap values. ShowsObjects heap values graph.objects) same_heap same_values stands.objects;
            pairs = subst (λ heap. ShowsPairs schema heap graph.pairs) same_heap stands.pairs;
            lists = subst (λ heap. ShowsLists schema heap graph.lists) same_heap stands.lists;
            dictionaries = subst (λ heap. ShowsDictionaries schema heap graph.dictionaries) same_heap stands.dictionaries;
            roots = subst (λ heap. ShowsRoots heap (roots_of new) roots) same_heap shown;
            serials = subst (λ counters. ShowsSerials counters graph.serials) (sym serials_same) stands.serials;
            indexes = subst (λ heap. ShowsIndexes schema heap graph.indexes) same_heap stands.indexes;
          };
        };
        links_kept = λ good. subst (λ heap. (address : ℕ) → KeepsLinks schema heap address) same_heap good;
      }

-- ---- bound

module _ (heap : Heap) (was is : List RootRow) (name : List ℕ) (pointer code : ℕ) (to : Name) (roots : maps.FinMap text_cmp Name)
    (rows : (row : RootRow) → (Contains is row → (row ≡ record { name = name; pointer = pointer }) ⊎ (Contains was row × (row.name ≢ name))) × ((row ≡ record { name = name; pointer = pointer }) ⊎ (Contains was row × (row.name ≢ name)) → Contains is row))
    (named : name_at heap pointer ≡ Some to) (good : (row : RootRow) → Contains was row → IsGoodRoot heap row) (shown : ShowsRoots heap was roots) where
  abbrev bound : RootRow
  bound = record { name = name; pointer = pointer }

  got : (root : List ℕ) → maps.get (maps.insert roots name to) root ≡ cond (eq_by_cmp text_cmp root name) (Some to) (maps.get roots root)
  got root = maps.get-insert nat_list_cmp_total roots name to root

  bound_shown : ShowsRoots heap is (maps.insert roots name to)
  bound_shown root n = (forth, back)
    where
      forth : maps.get (maps.insert roots name to) root ≡ Some n → HasRoot heap is root n
      forth e = elim (cases_Bool (eq_by_cmp text_cmp root name)) [
        | inl tied ↦
            let same : root ≡ name = tied_same text_same root name tied in
            let n_is : to ≡ n = same_Some to n (sym (got root ∙ ap (λ b. cond b (Some to) (maps.get roots root)) tied) ∙ e) in
            any_of (λ (row : RootRow). (row.name ≡ root) × (name_at heap row.pointer ≡ Some n)) is bound ((rows bound).1 (inl refl)) (sym same, named ∙ ap Some n_is)
        | inr free ↦
            let any = (shown root n).0 (sym (got root ∙ ap (λ b. cond b (Some to) (maps.get roots root)) free) ∙ e) in
            let apart : (any.1).name ≢ name = λ same. true≢false (sym (same_tied nat_list_cmp_total root name (sym (any.4).0 ∙ same)) ∙ free) in
            any_of (λ (row : RootRow). (row.name ≡ root) × (name_at heap row.pointer ≡ Some n)) is any.1 ((rows any.1).1 (inr ((any.0, any.2, any.3), apart))) any.4
      ]

      back : HasRoot heap is root n → maps.get (maps.insert roots name to) root ≡ Some n
      back any = elim ((rows any.1).0 (any.0, any.2, any.3)) [
        | inl here ↦
            let same : root ≡ name = sym (any.4).0 ∙ ap (λ (row : RootRow). row.name) here in
            got root ∙ ap (λ b. cond b (Some to) (maps.get roots root)) (same_tied nat_list_cmp_total root name same) ∙ sym named ∙ ap (λ (row : RootRow). name_at heap row.pointer) (sym here) ∙ (any.4).1
        | inr old ↦
            got root ∙ ap (λ b. cond b (Some to) (maps.get roots root)) (apart_tied text_same root name (λ same. old.1 ((any.4).0 ∙ same)))
            ∙ (shown root n).1 (any_of (λ (row : RootRow). (row.name ≡ root) × (name_at heap row.pointer ≡ Some n)) was any.1 old.0 any.4)
      ]

pub bound_law : LawOfBoundRoots
unfolding heap_of
bound_law schema old new name pointer to graph holds pages binds identifier there typed =
    let heap = heap_of schema old in
    let cells = holds.cells_kept in
    let code : code_at (heap_of schema old) pointer ≡ Some to.code = ap (λ (c : Option PlacedCell). option_map (λ (l : HeapCell). l.tag.code) (option_map (heap_cell schema) c)) there in
    let named : name_at (heap_of schema old) pointer ≡ Some (name_of to) = ap (λ (c : Option PlacedCell). option_map name_in (option_map (λ (l : HeapCell). l.tag) (option_map (heap_cell schema) c))) there in
    let good : (row : RootRow) → Contains (roots_of old) row → IsGoodRoot (heap_of schema old) row = λ row inside. All-contains (IsGoodRoot heap) (roots_of old) row cells.roots.good inside in
    root_leaves schema old new binds.cells binds.serials graph holds pages (maps.insert graph.roots name (name_of to))
    (record {
      good = All-weaker (Contains (roots_of new)) (IsGoodRoot heap) (λ row inside. elim ((binds.rows row).0 inside) [
        | inl is ↦ subst (IsGoodRoot (heap_of schema old)) (sym is) (record { name = identifier; leads = (to.code, code, typed) })
        | inr was ↦ good row was.0
      ]) (roots_of new) (All-contains_itself (roots_of new));
      own = binds.once;
    })
    (bound_shown heap (roots_of old) (roots_of new) name pointer to.code (name_of to) graph.roots binds.rows named good holds.stands.roots)

-- ---- unbound

module _ (heap : Heap) (was is : List RootRow) (name : List ℕ) (roots : maps.FinMap text_cmp Name)
    (rows : (row : RootRow) → (Contains is row → Contains was row × (row.name ≢ name)) × (Contains was row × (row.name ≢ name) → Contains is row)) (shown : ShowsRoots heap was roots) where
  left : (root : List ℕ) → maps.get (maps.remove roots name) root ≡ cond (eq_by_cmp text_cmp root name) None (maps.get roots root)
  left root = maps.get-remove nat_list_cmp_total roots name root

  unbound_shown : ShowsRoots heap is (maps.remove roots name)
  unbound_shown root n = (forth, back)
    where
      forth : maps.get (maps.remove roots name) root ≡ Some n → HasRoot heap is root n
      forth e = elim (cases_Bool (eq_by_cmp text_cmp root name)) [
        | inl tied ↦ absurd (none-some n (sym (left root ∙ ap (λ b. cond b None (maps.get roots root)) tied) ∙ e))
        | inr free ↦
            let any = (shown root n).0 (sym (left root ∙ ap (λ b. cond b None (maps.get roots root)) free) ∙ e) in
            let apart : (any.1).name ≢ name = λ same. true≢false (sym (same_tied nat_list_cmp_total root name (sym (any.4).0 ∙ same)) ∙ free) in
            any_of (λ (row : RootRow). (row.name ≡ root) × (name_at heap row.pointer ≡ Some n)) is any.1 ((rows any.1).1 ((any.0, any.2, any.3), apart)) any.4
      ]

      back : HasRoot heap is root n → maps.get (maps.remove roots name) root ≡ Some n
      back any =
          let old = (rows any.1).0 (any.0, any.2, any.3) in
          left root ∙ ap (λ b. cond b None (maps.get roots root)) (apart_tied text_same root name (λ same. old.1 ((any.4).0 ∙ same)))
          ∙ (shown root n).1 (any_of (λ (row : RootRow). (row.name ≡ root) × (name_at heap row.pointer ≡ Some n)) was any.1 old.0 any.4)

pub unbound_law : LawOfUnboundRoots
unbound_law schema old new name graph holds pages unbinds =
    let heap = heap_of schema old in
    let cells = holds.cells_kept in
    root_leaves schema old new unbinds.cells unbinds.serials graph holds pages (maps.remove graph.roots name)
    (record {
      good = All-weaker (Contains (roots_of new)) (IsGoodRoot heap) (λ row inside. All-contains (IsGoodRoot (heap_of schema old)) (roots_of old) row cells.roots.good ((unbinds.rows row).0 inside).0) (roots_of new) (All-contains_itself (roots_of new));
      own = unbinds.once;
    })
    (unbound_shown heap (roots_of old) (roots_of new) name graph.roots unbinds.rows holds.stands.roots)
