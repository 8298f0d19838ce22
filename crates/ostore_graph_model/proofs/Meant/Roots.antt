-- The roots and the serials that pages hold are within their limits.
use Rattle.std.proofs.Common.{◌≡◌, ◌≢◌, ◌↔◌, ℕ, suc, ◌≤◌, Bool, true, cond, eqb, List, [], ◌∷◌, length, map, refl, sym, ap, subst, ◌∙◌, arith, Option, Some, None, inl, inr}
use Rattle.std.specs.Prelude.{filter, not, ◌+◌, ◌*◌}
use Rattle.std.specs.List.{All, range_with_len}
use Rattle.std.specs.Option.{option_map}
use Rattle.std.specs.declared.cmp.Ordering.{Ordering}
use Rattle.std.specs.Cmp.{IsTotalOrder}
use Rattle.std.specs.FinMap as maps
use Rattle.std.specs.FinMap.{nat_cmp-IsAntisymmetric, slice_cmp-IsAntisymmetric}
use Rattle.std.proofs.lemmas.Bool.{cases_eq, cases_Bool, ne_eqb}
use Rattle.std.proofs.lemmas.Cmp.{nat_list_cmp_total}
use Rattle.std.proofs.lemmas.List.FromFn.{length-map-range_with_len}
use Rattle.std.proofs.lemmas.Option.{same_Some, none-some}
use Rattle.ostore_base.specs.declared.page.PageImage.{PageImage}
use Rattle.ostore_page_tags.specs.Numbers.{number_at}
use Rattle.ostore_page_tags.specs.PageLists.{bytes_at, header_at}
use Rattle.ostore_text_words.specs.Words.{is_identifier}
use Rattle.ostore_schema_layout.specs.declared.schema.Schema.{Schema}
use Rattle.ostore_graph_model.specs.declared.values.Name.{Name}
use Rattle.ostore_graph_model.specs.Orders.{text_cmp}
use Rattle.ostore_graph_model.specs.Graph.{Graph}
use Rattle.ostore_graph_model.specs.GraphRules.{IsRootOf, IsLastSerial}
use Rattle.ostore_graph_model.specs.FixedPages.{RootRow, root_at, is_unnamed, roots_of, first_page, serial_of}
use Rattle.ostore_graph_model.specs.Heap.{code_at, name_at, name_in}
use Rattle.ostore_graph_model.specs.HeapRules.{IsGoodRoot}
use Rattle.ostore_graph_model.specs.Records.{HeapCell, heap_of}
use Rattle.ostore_graph_model.specs.StandsFor.{HasRoot}
use Rattle.ostore_graph_model.specs.LawsOfMeaning.{HoldGraph}
use Rattle.ostore_graph_model.proofs.ExistsLaws.{IsEntry, map_of_entries}
use Rattle.ostore_graph_model.proofs.FiniteLaws.{entry_contains}
use Rattle.ostore_graph_model.proofs.PageLaws.{first_within}
use Rattle.ostore_graph_model.proofs.UniqueLaws.{one_map}
use Rattle.ostore_graph_model.proofs.Meant.Bytes.{AreSmall, number_fits}
use Rattle.ostore_graph_model.proofs.Meant.Rows.{pointer_named}

-- a map of some entries has no more of them
few_entries : {K X : Type 0} {R : K → K → Ordering} → IsTotalOrder R → (entries : List (K × X)) → maps.len (maps.from_entries {R = R} entries) ≤ length entries
few_entries {K = K} {X = X} {R = R} o [] = let none = maps.len-empty R X in omega (arith, none)
few_entries {R = R} o (entry ∷ entries) =
    let less = few_entries o entries in
    let long = maps.len-insert o (maps.from_entries {R = R} entries) entry.0 entry.1 in
    elim (cases_Bool (maps.contains_key (maps.from_entries {R = R} entries) entry.0)) [
      | inl there ↦ let is = long ∙ ap (λ b. cond b (maps.len (maps.from_entries {R = R} entries)) (maps.len (maps.from_entries {R = R} entries) + 1)) there in omega (arith, less, is)
      | inr none ↦ let is = long ∙ ap (λ b. cond b (maps.len (maps.from_entries {R = R} entries)) (maps.len (maps.from_entries {R = R} entries) + 1)) none in omega (arith, less, is)
    ]

few_left : {X : Type 0} (test : X → Bool) (xs : List X) → length (filter test xs) ≤ length xs
few_left test [] = omega arith
few_left test (x ∷ xs) =
    let less = few_left test xs in
    elim (cases_Bool (test x)) [
      | inl stays ↦ let is = ap (λ b. length (cond b (x ∷ filter test xs) (filter test xs))) stays in omega (arith, less, is)
      | inr goes ↦ let is = ap (λ b. length (cond b (x ∷ filter test xs) (filter test xs))) goes in omega (arith, less, is)
    ]

few_rows : (pages : List PageImage) → length (roots_of pages) ≤ 101
unfolding roots_of
few_rows pages =
    let left = few_left (λ (row : RootRow). not (is_unnamed row.name)) (map (λ i. root_at (32 + 40 * i) (bytes_at pages 9)) (range_with_len 0 101)) in
    let all = length-map-range_with_len (λ i. root_at (32 + 40 * i) (bytes_at pages 9)) 0 101 in
    omega (arith, left, all)

module _ (schema : Schema) (pages : List PageImage) (graph : Graph) (holds : HoldGraph schema pages graph) where
  -- ---- roots

  pub root_is : (root : List ℕ) (x : Name) → maps.get graph.roots root ≡ Some x → IsRootOf graph root x
  root_is root x e =
      let any = (holds.stands.roots root x).0 e in
      let row = any.1 in
      let good = subst (IsGoodRoot (heap_of schema pages)) any.3 (holds.cells_kept.roots.good any.0 row any.2) in
      record {
        named = subst (λ name. is_identifier name ≡ true) any.4.0 good.name;
        drawn = (pointer_named schema pages graph holds (record { 0 = good.leads.0 }) row.pointer x good.leads.2 good.leads.1 any.4.1).drawn;
      }

  -- the roots as entries of a map
  pub record AreBound (rows : List RootRow) : Type 0 where
    pub entries : List (List ℕ × Name)
    pub long : length entries ≡ length rows
    pub forth : (root : List ℕ) (x : Name) → IsEntry (root, x) entries → (row : RootRow) × IsEntry row rows × (row.name ≡ root) × (name_at (heap_of schema pages) row.pointer ≡ Some x)
    pub back : (row : RootRow) (x : Name) → IsEntry row rows → name_at (heap_of schema pages) row.pointer ≡ Some x → IsEntry (row.name, x) entries

  name_there : (pointer code : ℕ) → code_at (heap_of schema pages) pointer ≡ Some code → (name : Name) × (name_at (heap_of schema pages) pointer ≡ Some name)
  name_there pointer code there = found (heap_of schema pages pointer) there
    where
      found : (cell : Option HeapCell) → option_map (λ (c : HeapCell). c.tag.code) cell ≡ Some code → (name : Name) × (option_map name_in (option_map (λ (c : HeapCell). c.tag) cell) ≡ Some name)
      found None e = absurd (none-some code e)
      found (Some cell) e = (name_in cell.tag, refl)

  bound_rows : (rows : List RootRow) → All (IsGoodRoot (heap_of schema pages)) rows → AreBound rows
  bound_rows [] good = record { entries = []; long = refl; forth = λ root x none. absurd none; back = λ row x none named. absurd none }
  bound_rows (row ∷ rows) good =
      let rest = bound_rows rows (λ k d below. good (suc k) d (omega arith)) in
      let lead = (good 0 row (omega arith)).leads in
      let name = name_there row.pointer lead.0 lead.1 in
      record {
        entries = (row.name, name.0) ∷ rest.entries;
        long = ap suc rest.long;
        forth = λ root x there. elim there [
          | inl here ↦ (row, inl refl, ap (λ (e : List ℕ × Name). e.0) (sym here), name.1 ∙ ap (λ (e : List ℕ × Name). Some e.1) (sym here))
          | inr more ↦ let is = rest.forth root x more in (is.0, inr is.1, is.2, is.3)
        ];
        back = λ one x there named. elim there [
          | inl here ↦
              let same : name.0 ≡ x = same_Some _ _ (sym name.1 ∙ ap (λ (r : RootRow). name_at (heap_of schema pages) r.pointer) (sym here) ∙ named) in
              inl (λ i. (ap (λ (r : RootRow). r.name) here i, sym same i))
          | inr more ↦ inr (rest.back one x more named)
        ];
      }

  pub roots_few : maps.len graph.roots ≤ 101
  roots_few =
      let rows = few_rows pages in
      let few = few_entries {R = text_cmp} nat_list_cmp_total all.entries in
      let long = all.long in
      let same = ap maps.len (one_map nat_list_cmp_total (slice_cmp-IsAntisymmetric nat_cmp-IsAntisymmetric) graph.roots (maps.from_entries all.entries) (HasRoot (heap_of schema pages) (roots_of pages)) holds.stands.roots answers) in
      omega (arith, rows, few, long, same)
    where
      all : AreBound (roots_of pages)
      all = bound_rows (roots_of pages) holds.cells_kept.roots.good

      of_entry : (root : List ℕ) (x : Name) → IsEntry (root, x) all.entries → HasRoot (heap_of schema pages) (roots_of pages) root x
      of_entry root x there =
          let is = all.forth root x there in
          let at = (entry_contains is.0 (roots_of pages)).0 is.1 in
          (at.0, is.0, at.1, at.2, (is.2, is.3))

      to_entry : (root : List ℕ) (x : Name) → HasRoot (heap_of schema pages) (roots_of pages) root x → IsEntry (root, x) all.entries
      to_entry root x any =
          let there = all.back any.1 x ((entry_contains any.1 (roots_of pages)).1 (any.0, any.2, any.3)) any.4.1 in
          subst (λ (name : List ℕ). IsEntry (name, x) all.entries) any.4.0 there

      one : (root : List ℕ) (x y : Name) → IsEntry (root, x) all.entries → IsEntry (root, y) all.entries → x ≡ y
      one root x y first second = same_Some x y (sym ((holds.stands.roots root x).1 (of_entry root x first)) ∙ (holds.stands.roots root y).1 (of_entry root y second))

      answers : (root : List ℕ) (x : Name) → (maps.get (maps.from_entries {R = text_cmp} all.entries) root ≡ Some x) ↔ HasRoot (heap_of schema pages) (roots_of pages) root x
      answers root x =
          let is = map_of_entries nat_list_cmp_total (slice_cmp-IsAntisymmetric nat_cmp-IsAntisymmetric) all.entries one root x in
          (λ e. of_entry root x (is.0 e), λ any. is.1 (to_entry root x any))

  -- ---- serials

  pub serial_is : ((page : ℕ) → AreSmall (bytes_at pages page)) → (segment serial : ℕ) → maps.get graph.serials segment ≡ Some serial → IsLastSerial segment serial
  unfolding serial_of header_at
  serial_is small segment serial e =
      let is = (holds.stands.serials segment serial).0 e in
      elim (cases_eq (first_page pages segment) 0) [
        | inl none ↦ absurd (is.1 (sym is.0 ∙ ap (λ (p : ℕ). cond (eqb p 0) 0 (header_at pages p).last_serial) none))
        | inr first ↦
            let within = first_within pages segment first in
            let low = within.0 in
            let high = within.1 in
            let some = is.1 in
            let read : number_at 4 12 (bytes_at pages (first_page pages segment)) ≡ serial = sym (ap (λ b. cond b 0 (number_at 4 12 (bytes_at pages (first_page pages segment)))) (ne_eqb _ _ first)) ∙ is.0 in
            let fits = number_fits 4 12 (bytes_at pages (first_page pages segment)) (small (first_page pages segment)) in
            record {
              least = low;
              most = high;
              some = positive serial some;
              fits = omega (arith, read, fits);
            }
      ]
    where
      positive : (n : ℕ) → n ≢ 0 → 1 ≤ n
      positive n some = elim (cases_eq n 0) [ inl none ↦ absurd (some none) | inr other ↦ omega (arith, other) ]
