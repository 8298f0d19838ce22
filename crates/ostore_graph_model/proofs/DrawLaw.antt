-- A segment draws a serial: the pages stay valid, and stand for the graph with that serial.
use Rattle.std.proofs.Common.{◌≡◌, ◌≢◌, ℕ, ◌+◌, ◌≤◌, cond, eqb, List, length, refl, sym, ap, subst, subst₂, ◌∙◌, arith, Option, Some, None, inl, inr, unwrap_or}
use Rattle.std.specs.List.{find}
use Rattle.std.specs.Option.{option_map}
use Rattle.std.specs.FinMap as maps
use Rattle.std.proofs.lemmas.Bool.{cases_eq, ne_eqb}
use Rattle.std.proofs.lemmas.Cmp.{nat_cmp_total}
use Rattle.std.proofs.lemmas.Option.{same_Some, none-some}
use Rattle.ostore_base.specs.declared.page.PageImage.{PageImage}
use Rattle.ostore_page_tags.specs.declared.page_header.PageHeader.{PageHeader}
use Rattle.ostore_page_tags.specs.Header.{header_of}
use Rattle.ostore_page_tags.specs.Cells.{Cell, cells_of}
use Rattle.ostore_schema_layout.specs.declared.schema.Schema.{Schema}
use Rattle.ostore_schema_layout.specs.Limits.{longest_schema}
use Rattle.ostore_schema_layout.specs.Spells.{Spells}
use Rattle.ostore_graph_model.specs.Graph.{Graph, last_serial}
use Rattle.ostore_graph_model.specs.Addresses.{placed, begins_at, cell_in, cell_at}
use Rattle.ostore_page_tags.specs.PageLists.{bytes_at, header_at}
use Rattle.ostore_page_tags.specs.Allocated.{IsAllocated}
use Rattle.ostore_graph_model.specs.FixedPages.{first_page, serial_of}
use Rattle.ostore_graph_model.specs.Heap.{tag_at}
use Rattle.ostore_graph_model.specs.HeapRules.{KeepsPointers, KeepsSerials, KeepsChains, KeepsOwner, KeepsItems, KeepsLinks, KeepsRoots}
use Rattle.ostore_graph_model.specs.MemberValues.{values_in, values_of}
use Rattle.ostore_graph_model.specs.PageEdits.{Draws}
use Rattle.ostore_graph_model.specs.Records.{heap_cell, heap_of}
use Rattle.ostore_graph_model.specs.StandsFor.{StandsFor, ShowsObjects, ShowsPairs, ShowsLists, ShowsDictionaries, ShowsRoots, ShowsSerials, ShowsIndexes}
use Rattle.ostore_graph_model.specs.Valid.{HasGoodPages}
use Rattle.ostore_graph_model.specs.LawsOfMeaning.{HoldGraph, LeavesGraph}
use Rattle.ostore_page_tags.proofs.allocation.ChainLaws.{IsOwned}
use Rattle.ostore_graph_model.proofs.PageLaws.{page_link, header_is, bytes_at-other, first_of_some}
use Rattle.ostore_graph_model.proofs.AddressLaws.{cell_at-put_all, page_put}
use Rattle.ostore_graph_model.proofs.EditLaws.{put_roots, put_firsts, put_text, put_text_length}
use Rattle.ostore_graph_model.proofs.OrderLaws.{same_tied, apart_tied}

-- what a graph says of a segment's serials is what its pages say
pub last_serial_is : (counters : ℕ → ℕ) (graph : Graph) (segment : ℕ) → ShowsSerials counters graph.serials → last_serial graph segment ≡ counters segment
last_serial_is counters graph segment shown = found (maps.get graph.serials segment) refl
  where
    found : (got : Option ℕ) → maps.get graph.serials segment ≡ got → unwrap_or (maps.get graph.serials segment) 0 ≡ counters segment
    found None e = ap (λ (o : Option ℕ). unwrap_or o 0) e ∙ elim (cases_eq (counters segment) 0) [
      | inl zero_is ↦ sym zero_is
      | inr some ↦ absurd (none-some (counters segment) (sym e ∙ (shown segment (counters segment)).1 (refl, some)))
    ]
    found (Some n) e = ap (λ (o : Option ℕ). unwrap_or o 0) e ∙ sym ((shown segment n).0 e).0

serial_read : (pages : List PageImage) (s page n : ℕ) → first_page pages s ≡ page → page ≢ 0 → (header_at pages page).last_serial ≡ n → serial_of pages s ≡ n
unfolding serial_of
serial_read pages s page n first some counter =
    ap (λ (p : ℕ). cond (eqb p 0) 0 (header_at pages p).last_serial) first
    ∙ ap (λ b. cond b 0 (header_at pages page).last_serial) (ne_eqb _ _ some)
    ∙ counter

module _ (schema : Schema) (old new : List PageImage) (segment : ℕ) (draws : Draws old new segment) (pages : HasGoodPages schema old) where
  allocated : IsAllocated old
  allocated = pages.allocated

  some_first : first_page old segment ≢ 0
  some_first none = draws.some (sym draws.first ∙ none)

  the_first : IsOwned (length old) (header_at old) segment (first_page old segment)
  the_first = first_of_some old segment allocated some_first

  high : 10 ≤ draws.page
  high = let low = the_first.low in let is = draws.first in omega arith

  same_link : page_link (header_of draws.image.bytes) ≡ page_link (header_of draws.was.bytes)
  same_link = ap page_link draws.header

  -- ---- cells

  same_in : (o : ℕ) → cell_in draws.image.bytes o ≡ cell_in draws.was.bytes o
  unfolding cell_in
  same_in o =
      ap (λ (h : PageHeader). cond (eqb h.kind 2) (option_map (placed h.segment) (find (begins_at o) (cells_of draws.image.bytes))) None) draws.header
      ∙ ap (λ (cells : List Cell). cond (eqb (header_of draws.was.bytes).kind 2) (option_map (placed (header_of draws.was.bytes).segment) (find (begins_at o) cells)) None) draws.cells

  pub same_cell : (address : ℕ) → cell_at new address ≡ cell_at old address
  same_cell = cell_at-put_all old new draws.page draws.was draws.image draws.puts same_in

  pub drawn_links : heap_of schema new ≡ heap_of schema old
  unfolding heap_of
  drawn_links = λ i address. option_map (heap_cell schema) (same_cell address i)

  pub drawn_values : values_of schema new ≡ values_of schema old
  unfolding values_of
  drawn_values = λ i address. option_map (values_in schema) (same_cell address i)

  -- ---- counters

  counter_here : (header_at new draws.page).last_serial ≡ serial_of old segment + 1
  counter_here = ap (λ (h : PageHeader). h.last_serial) (header_is new draws.page draws.image (page_put old new draws.page draws.was draws.image draws.puts) ∙ draws.header)

  counter_other : (page : ℕ) → page ≢ draws.page → (header_at new page).last_serial ≡ (header_at old page).last_serial
  unfolding header_at
  counter_other page apart =
      ap (λ (b : List ℕ). (header_of b).last_serial) (ap (λ (l : List PageImage). bytes_at l page) draws.puts.put ∙ bytes_at-other old draws.page draws.image high page apart)

  same_firsts : first_page new ≡ first_page old
  same_firsts = put_firsts old new draws.page draws.was draws.image draws.puts high same_link

  -- no other segment begins at that page
  first_apart : (other : ℕ) → other ≢ segment → first_page old other ≢ draws.page
  first_apart other apart here =
      let some : first_page old other ≢ 0 = λ none. draws.some (sym here ∙ none) in
      let first = first_of_some old other allocated some in
      apart (sym first.segment ∙ ap (λ (p : ℕ). (header_at old p).segment) (here ∙ sym draws.first) ∙ the_first.segment)

  pub serial_here : serial_of new segment ≡ serial_of old segment + 1
  serial_here = read new segment draws.page (ap (λ f. f segment) same_firsts ∙ draws.first) draws.some counter_here
    where
      read : (pages : List PageImage) (s page : ℕ) → first_page pages s ≡ page → page ≢ 0 → (header_at pages page).last_serial ≡ serial_of old segment + 1 → serial_of pages s ≡ serial_of old segment + 1
      read pages s page first some counter = serial_read pages s page (serial_of old segment + 1) first some counter

  pub serial_other : (other : ℕ) → other ≢ segment → serial_of new other ≡ serial_of old other
  unfolding serial_of
  serial_other other apart =
      ap (λ (f : ℕ → ℕ). cond (eqb (f other) 0) 0 (header_at new (f other)).last_serial) same_firsts
      ∙ ap (λ (c : ℕ). cond (eqb (first_page old other) 0) 0 c) (counter_other (first_page old other) (first_apart other apart))

  serial_grows : (other : ℕ) → serial_of old other ≤ serial_of new other
  serial_grows other = elim (cases_eq other segment) [
    | inl same ↦ let here = serial_here in let now = ap (serial_of new) same in let was = ap (serial_of old) same in omega arith
    | inr apart ↦ let same = serial_other other apart in omega arith
  ]

  -- ---- the graph

  serials_shown : (graph : Graph) → ShowsSerials (serial_of old) graph.serials → ShowsSerials (serial_of new) (maps.insert graph.serials segment (last_serial graph segment + 1))
  serials_shown graph shown s n = elim (cases_eq s segment) [
    | inl same ↦
        let hit = same_tied nat_cmp_total s segment same in
        let is : maps.get (maps.insert graph.serials segment (last_serial graph segment + 1)) s ≡ Some (last_serial graph segment + 1) =
        maps.get-insert nat_cmp_total graph.serials segment (last_serial graph segment + 1) s ∙ ap (λ b. cond b (Some (last_serial graph segment + 1)) (maps.get graph.serials s)) hit in
        let last = last_serial_is (serial_of old) graph segment shown in
        let now : serial_of new s ≡ serial_of old segment + 1 = ap (serial_of new) same ∙ serial_here in (
          λ e. let m : last_serial graph segment + 1 ≡ n = same_Some _ _ (sym is ∙ e) in (omega arith, λ none. omega arith),
          λ has. is ∙ ap Some (let m = has.0 in omega arith),
        )
    | inr apart ↦
        let miss = apart_tied maps.nat_cmp-IsAntisymmetric s segment apart in
        let is : maps.get (maps.insert graph.serials segment (last_serial graph segment + 1)) s ≡ maps.get graph.serials s =
        maps.get-insert nat_cmp_total graph.serials segment (last_serial graph segment + 1) s ∙ ap (λ b. cond b (Some (last_serial graph segment + 1)) (maps.get graph.serials s)) miss in
        let same = serial_other s apart in
        (λ e. let was = (shown s n).0 (sym is ∙ e) in (same ∙ was.0, was.1), λ has. is ∙ (shown s n).1 (sym same ∙ has.0, has.1))
  ]

  pub draw_stands : (graph : Graph) → StandsFor schema old graph → StandsFor schema new (record graph { serials = maps.insert graph.serials segment (last_serial graph segment + 1) })
  draw_stands graph stands =
      let links = sym drawn_links in
      record {
        objects = subst₂ (λ heap values. ShowsObjects heap values graph.objects) links (sym drawn_values) stands.objects;
        pairs = subst (λ heap. ShowsPairs schema heap graph.pairs) links stands.pairs;
        lists = subst (λ heap. ShowsLists schema heap graph.lists) links stands.lists;
        dictionaries = subst (λ heap. ShowsDictionaries schema heap graph.dictionaries) links stands.dictionaries;
        roots = subst₂ (λ heap rows. ShowsRoots heap rows graph.roots) links (sym (put_roots old new draws.page draws.was draws.image draws.puts high same_link)) stands.roots;
        serials = serials_shown graph stands.serials;
        indexes = subst (λ heap. ShowsIndexes schema heap graph.indexes) links stands.indexes;
      }

  pub draw_holds : (graph : Graph) → HoldGraph schema old graph → LeavesGraph schema old new (record graph { serials = maps.insert graph.serials segment (last_serial graph segment + 1) })
  draw_holds graph holds =
      let links = sym drawn_links in
      let cells = holds.cells_kept in
      record {
        holds = record {
          pages_kept = record {
            allocated = draws.allocated;
            fits = subst (λ n. n ≤ longest_schema) (sym (put_text_length old new draws.page draws.was draws.image draws.puts high same_link)) holds.pages_kept.fits;
            spelled = subst (λ text. Spells text schema) (sym (put_text old new draws.page draws.was draws.image draws.puts high same_link)) holds.pages_kept.spelled;
          };
          cells_kept = record {
            written = λ address cell there. cells.written address cell (sym (same_cell address) ∙ there);
            roots = subst₂ KeepsRoots links (sym (put_roots old new draws.page draws.was draws.image draws.puts high same_link)) cells.roots;
            pointers = subst (λ heap. (address : ℕ) → KeepsPointers schema heap address) links cells.pointers;
            serials = subst (λ heap. (address : ℕ) → KeepsSerials (tag_at heap) (serial_of new) address) links (λ address tag there typed.
                let was = cells.serials address tag there typed in
                let grows = serial_grows tag.segment in
                let low = was.drawn in
                record { own = was.own; drawn = omega arith });
            chains = subst (λ heap. (address : ℕ) → KeepsChains schema heap address) links cells.chains;
            owners = subst (λ heap. (address : ℕ) → KeepsOwner schema heap address) links cells.owners;
            items = subst (λ heap. (address : ℕ) → KeepsItems heap address) links cells.items;
          };
          stands = draw_stands graph holds.stands;
        };
        links_kept = λ good. subst (λ heap. (address : ℕ) → KeepsLinks schema heap address) links good;
      }
