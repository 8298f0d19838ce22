-- A page list of which one field of one header was written.
use Rattle.std.proofs.Common.{◌≡◌, ◌≢◌, ℕ, ◌+◌, ◌-◌, ◌*◌, ◌<◌, List, length, refl, sym, ap, subst, ◌∙◌, inl, inr}
use Rattle.std.proofs.lemmas.Bool.{cases_eq}
use Rattle.byteorder.specs.Endian.{little_bytes}
use Rattle.ostore_base.specs.declared.page.PageImage.{PageImage}
use Rattle.ostore_page_tags.specs.declared.page_header.PageHeader.{PageHeader}
use Rattle.ostore_page_tags.specs.Numbers.{number_at, with_number}
use Rattle.ostore_page_tags.specs.Header.{header_of}
use Rattle.ostore_page_tags.specs.Cells.{cells_of}
use Rattle.ostore_page_tags.specs.Rules.{IsPage}
use Rattle.ostore_page_tags.specs.PageLists.{bytes_at, header_at, first_of, with_bytes}
use Rattle.ostore_segments.proofs.PutLaws.{edited_length, edited_here, edited_other}
use Rattle.ostore_segments.proofs.FieldLaws.{IsField, field_length, field_page, field_cells}

module _ (old : List PageImage) (page at value : ℕ) (change : PageHeader → PageHeader) (below : page < length old) (field : IsField at value (bytes_at old page))
    (writes : header_of (with_number 4 at value (bytes_at old page)) ≡ change (header_of (bytes_at old page))) where
  abbrev pub step : List PageImage
  step = with_bytes old page at (little_bytes 4 value)

  pub step_count : length step ≡ length old
  step_count = edited_length old page at (little_bytes 4 value)

  pub step_here : bytes_at step page ≡ with_number 4 at value (bytes_at old page)
  step_here = edited_here old page at (little_bytes 4 value) below

  pub step_other : (q : ℕ) → q ≢ page → bytes_at step q ≡ bytes_at old q
  step_other q apart = edited_other old page at q (little_bytes 4 value) apart

  -- what holds of the written bytes and of the other pages' holds of all
  step_all : (P : ℕ → List ℕ → Type 0) → ((q : ℕ) → q ≡ page → P q (with_number 4 at value (bytes_at old page))) → ((q : ℕ) → P q (bytes_at old q)) → (q : ℕ) → P q (bytes_at step q)
  step_all P here there q = elim (cases_eq q page) [
    | inl same ↦ subst (P q) (sym (ap (bytes_at step) same ∙ step_here)) (here q same)
    | inr apart ↦ subst (P q) (sym (step_other q apart)) (there q)
  ]

  pub step_header : header_at step page ≡ change (header_at old page)
  unfolding header_at
  step_header = ap header_of step_here ∙ writes

  pub step_others : (q : ℕ) → q ≢ page → header_at step q ≡ header_at old q
  unfolding header_at
  step_others q apart = ap header_of (step_other q apart)

  pub step_field : (f : PageHeader → ℕ) → ((h : PageHeader) → f (change h) ≡ f h) → (q : ℕ) → f (header_at step q) ≡ f (header_at old q)
  step_field f keeps q = elim (cases_eq q page) [
    | inl same ↦ ap (λ (p : ℕ). f (header_at step p)) same ∙ ap f step_header ∙ keeps (header_at old page) ∙ ap (λ (p : ℕ). f (header_at old p)) (sym same)
    | inr apart ↦ ap f (step_others q apart)
  ]

  pub step_length : (q : ℕ) → length (bytes_at step q) ≡ length (bytes_at old q)
  step_length = step_all (λ q bytes. length bytes ≡ length (bytes_at old q)) (λ q same. field_length at value (bytes_at old page) field ∙ sym field.whole ∙ ap (λ (p : ℕ). length (bytes_at old p)) (sym same)) (λ q. refl)

  pub step_good : IsPage (bytes_at old page) → (q : ℕ) → IsPage (bytes_at old q) → IsPage (bytes_at step q)
  step_good good = step_all (λ q bytes. IsPage (bytes_at old q) → IsPage bytes) (λ q same was. field_page at value (bytes_at old page) good field) (λ q was. was)

  pub step_cells : IsPage (bytes_at old page) → (q : ℕ) → cells_of (bytes_at step q) ≡ cells_of (bytes_at old q)
  step_cells good = step_all (λ q bytes. cells_of bytes ≡ cells_of (bytes_at old q)) (λ q same. field_cells at value (bytes_at old page) good field ∙ ap (λ (p : ℕ). cells_of (bytes_at old p)) (sym same)) (λ q. refl)

  pub step_firsts : page ≢ 0 → (segment : ℕ) → first_of step segment ≡ first_of old segment
  unfolding first_of
  step_firsts some segment = ap (number_at 4 (32 + 4 * (segment - 1))) (step_other 0 (λ at. some (sym at)))
