-- What stays of a list of pages where a page that may have cells gets another image with the same place in the
-- chains of pages: all that is read of pages alone.
use Rattle.std.proofs.Common.{◌≡◌, ◌≢◌, ℕ, ◌+◌, ◌-◌, ◌*◌, ◌<◌, ◌≤◌, ◌⊎◌, cond, eqb, inl, inr, List, length, sym, ap, subst, ◌∙◌, arith, Some, length-set}
use Rattle.std.proofs.lemmas.Option.{slice_get_within}
use Rattle.ostore_base.specs.declared.page.PageImage.{PageImage}
use Rattle.ostore_page_tags.specs.declared.page_header.PageHeader.{PageHeader}
use Rattle.ostore_page_tags.specs.Header.{header_of}
use Rattle.ostore_page_tags.specs.Rules.{IsPage}
use Rattle.ostore_schema_layout.specs.declared.schema.Schema.{Schema}
use Rattle.ostore_schema_layout.specs.Limits.{longest_schema}
use Rattle.ostore_schema_layout.specs.Spells.{Spells}
use Rattle.ostore_graph_model.specs.Addresses.{PlacedCell, cell_at}
use Rattle.ostore_page_tags.specs.PageLists.{bytes_at, header_at, first_of, schema_bytes, schema_length, schema_text}
use Rattle.ostore_page_tags.specs.Allocated.{IsAllocated, IsFront, IsFreePage}
use Rattle.ostore_graph_model.specs.FixedPages.{roots_of, first_page, serial_of}
use Rattle.ostore_graph_model.specs.PageEdits.{PutsPage, EditsAt}
use Rattle.ostore_graph_model.specs.Valid.{HasGoodPages}
use Rattle.ostore_page_tags.specs.Numbers.{number_at}
use Rattle.std.proofs.lemmas.Bool.{cases_eq}
use Rattle.ostore_page_tags.proofs.allocation.ChainLaws.{chains_kept}
use Rattle.ostore_graph_model.proofs.AllocationLaws.{allocated_kept}
use Rattle.ostore_graph_model.proofs.AddressLaws.{page_put, cell_at-page}
use Rattle.ostore_graph_model.proofs.PageLaws.{PageLink, page_link, bytes_are, bytes_at-other, roots_of-set, first_page-set, schema_bytes-set, schema_text-set}

module _ (old new : List PageImage) (page : ℕ) (was image : PageImage) (puts : PutsPage old new page was image) (high : 10 ≤ page) (link : page_link (header_of image.bytes) ≡ page_link (header_of was.bytes)) where
  below : page < length old
  below = slice_get_within old page was puts.there

  pub put_roots : roots_of new ≡ roots_of old
  put_roots = ap roots_of puts.put ∙ roots_of-set old page image high

  pub put_firsts : first_page new ≡ first_page old
  put_firsts = ap first_page puts.put ∙ first_page-set old page image high

  pub put_length : length new ≡ length old
  put_length = ap length puts.put ∙ length-set old page image

  pub put_text : schema_text new ≡ schema_text old
  put_text = ap schema_text puts.put ∙ schema_text-set old page image high

  pub put_text_length : schema_length (schema_bytes new) ≡ schema_length (schema_bytes old)
  put_text_length = ap (λ (l : List PageImage). schema_length (schema_bytes l)) puts.put ∙ ap schema_length (schema_bytes-set old page image high)

  -- the counter stays too
  module _ (counter : (header_of image.bytes).last_serial ≡ (header_of was.bytes).last_serial) where
    here_bytes : bytes_at new page ≡ image.bytes
    here_bytes = bytes_are new page image (page_put old new page was image puts)

    other_bytes : (p : ℕ) → p ≢ page → bytes_at new p ≡ bytes_at old p
    other_bytes p apart = ap (λ (l : List PageImage). bytes_at l p) puts.put ∙ bytes_at-other old page image high p apart

    link_same : (f : PageHeader → ℕ) → f (header_of image.bytes) ≡ f (header_of was.bytes) → (p : ℕ) → f (header_at new p) ≡ f (header_at old p)
    unfolding header_at
    link_same f same p = elim (cases_eq p page) [
      | inl here ↦ ap (λ (q : ℕ). f (header_of (bytes_at new q))) here ∙ ap (λ (b : List ℕ). f (header_of b)) here_bytes ∙ same ∙ ap (λ (b : List ℕ). f (header_of b)) (sym (bytes_are old page was puts.there)) ∙ ap (λ (q : ℕ). f (header_of (bytes_at old q))) (sym here)
      | inr apart ↦ ap (λ (b : List ℕ). f (header_of b)) (other_bytes p apart)
    ]

    pub put_serials : serial_of new ≡ serial_of old
    unfolding serial_of
    put_serials = λ i segment. cond (eqb (put_firsts i segment) 0) 0 (link_same (λ h. h.last_serial) counter (put_firsts i segment) i)

    same_first_of : (segment : ℕ) → first_of new segment ≡ first_of old segment
    unfolding first_of
    same_first_of segment = ap (number_at 4 (32 + 4 * (segment - 1))) (other_bytes 0 (λ e. omega arith))

    put_allocated : IsPage image.bytes → IsAllocated old → IsAllocated new
    put_allocated good fine =
        let chains = fine.chains in
        allocated_kept old new fine
        (λ p low most. other_bytes p (λ e. omega arith)) put_length
        (λ p within. elim (cases_eq p page) [
          | inl here ↦ ap (λ (q : ℕ). length (bytes_at new q)) here ∙ ap (λ (b : List ℕ). length b) here_bytes ∙ good.whole
          | inr apart ↦ ap (λ (b : List ℕ). length b) (other_bytes p apart) ∙ fine.whole p within
        ])
        (subst IsFront (sym (other_bytes 0 (λ e. omega arith))) fine.front)
        (λ p within. elim (cases_eq p page) [
          | inl here ↦ inr (subst (λ (q : ℕ). IsPage (bytes_at new q)) (sym here) (subst IsPage (sym here_bytes) good))
          | inr apart ↦ subst (λ (b : List ℕ). IsFreePage b ⊎ IsPage b) (sym (other_bytes p apart)) (fine.others p within)
        ]) (
          chains.0,
          chains.1,
          chains_kept (length old) (header_at old) (header_at new) (first_of old) (first_of new) chains.0 chains.1 chains.2
              (link_same (λ h. h.next) (ap (λ (l : PageLink). l.next) link)) (link_same (λ h. h.kind) (ap (λ (l : PageLink). l.kind) link)) (link_same (λ h. h.segment) (ap (λ (l : PageLink). l.segment) link)) (link_same (λ h. h.last_page) (ap (λ (l : PageLink). l.last_page) link))
              (λ segment within. same_first_of segment) (λ q none. link_same (λ h. h.last_serial) counter q),
        )

    pub put_pages : (schema : Schema) → IsPage image.bytes → HasGoodPages schema old → HasGoodPages schema new
    put_pages schema good pages = record {
      allocated = put_allocated good pages.allocated;
      fits = subst (λ n. n ≤ longest_schema) (sym put_text_length) pages.fits;
      spelled = subst (λ text. Spells text schema) (sym put_text) pages.spelled;
    }

-- ---- bytes of a cell are changed

module _ (old new : List PageImage) (address : ℕ) (bytes : List ℕ) (edits : EditsAt old new address bytes) (cell : PlacedCell) (there : cell_at old address ≡ Some cell) where
  page_high : 10 ≤ edits.page
  page_high =
      let low = edits.low in
      let at = edits.at in
      let high = cell_at-page old address cell there in
      omega arith

  pub same_roots : roots_of new ≡ roots_of old
  same_roots = put_roots old new edits.page edits.was edits.image edits.puts page_high (ap page_link edits.edit.header)

  pub same_serials : serial_of new ≡ serial_of old
  same_serials = put_serials old new edits.page edits.was edits.image edits.puts page_high (ap page_link edits.edit.header) (ap (λ (h : PageHeader). h.last_serial) edits.edit.header)

  pub pages_edited : (schema : Schema) → HasGoodPages schema old → HasGoodPages schema new
  pages_edited schema pages = put_pages old new edits.page edits.was edits.image edits.puts page_high (ap page_link edits.edit.header) (ap (λ (h : PageHeader). h.last_serial) edits.edit.header) schema edits.edit.page pages
