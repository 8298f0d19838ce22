-- Pages that are grown, drawn from and added to, in the words of what pages mean.
use Rattle.std.proofs.Common.{◌≡◌, ◌≢◌, ℕ, zero, suc, ◌+◌, ◌*◌, ◌<◌, ◌≤◌, List, [], ◌∷◌, length, set, refl, sym, ap, ap₂, ◌∙◌, arith}
use Rattle.ostore_base.specs.declared.page.PageImage.{PageImage}
use Rattle.ostore_page_tags.specs.PageLists.{bytes_at, header_at, first_of}
use Rattle.ostore_page_tags.specs.PageChains.{IsSegment}
use Rattle.ostore_page_tags.specs.Allocated.{IsAllocated}
use Rattle.ostore_segments.specs.Growth.{Grows}
use Rattle.ostore_segments.specs.Serials as serials
use Rattle.ostore_segments.specs.Serials.{with_serial}
use Rattle.ostore_segments.specs.Adding.{Adds}
use Rattle.ostore_graph_model.specs.FixedPages.{serial_of}
use Rattle.ostore_graph_model.specs.PageEdits.{PutsPage, Draws, AddsAt, TakesPage}
use Rattle.ostore_graph_model.proofs.PageLaws.{first_is, first_of_some}
use Rattle.ostore_graph_model.proofs.TakenLaw.{serial_is}
use Rattle.ostore_object_ops.proofs.CellPlaces.{image_there}

abbrev image_at : List PageImage → ℕ → PageImage
image_at pages p = record { bytes = bytes_at pages p }

same_list : (old new : List PageImage) → length new ≡ length old → ((q : ℕ) → bytes_at new q ≡ bytes_at old q) → new ≡ old
same_list [] [] count same = refl
same_list [] (y ∷ ys) count same = absurd (omega arith)
same_list (x ∷ xs) [] count same = absurd (omega arith)
same_list (x ∷ xs) (y ∷ ys) count same =
    let first : y ≡ x = λ i. record { bytes = same 0 i } in
    ap₂ (λ (z : PageImage) (zs : List PageImage). z ∷ zs) first (same_list xs ys (omega arith) (λ q. same (suc q)))

-- where all pages but one stay, one page is put
one_put : (old new : List PageImage) (p : ℕ) → length new ≡ length old → p < length old → ((q : ℕ) → q ≢ p → bytes_at new q ≡ bytes_at old q) → new ≡ set old p (image_at new p)
one_put [] new p count below same = absurd (omega arith)
one_put (x ∷ xs) [] p count below same = absurd (omega arith)
one_put (x ∷ xs) (y ∷ ys) zero count below same = ap (λ (zs : List PageImage). y ∷ zs) (same_list xs ys (omega arith) (λ q. same (suc q) (λ e. omega arith)))
one_put (x ∷ xs) (y ∷ ys) (suc p) count below same =
    let first : y ≡ x = λ i. record { bytes = same 0 (λ e. omega arith) i } in
    ap₂ (λ (z : PageImage) (zs : List PageImage). z ∷ zs) first (one_put xs ys p (omega arith) (omega arith) (λ q away. same (suc q) (λ e. away (omega arith))))

puts_one : (old new : List PageImage) (p : ℕ) → length new ≡ length old → p < length old → ((q : ℕ) → q ≢ p → bytes_at new q ≡ bytes_at old q) → PutsPage old new p (image_at old p) (image_at new p)
puts_one old new p count below same = record { there = image_there old p below; put = one_put old new p count below same }

-- a grown segment
pub grows_is : (old new : List PageImage) (segment page : ℕ) → Grows old new segment page → TakesPage old new segment page
grows_is old new segment page grows = record {
  count = grows.elsewhere.count;
  fixed = grows.elsewhere.fixed;
  chain = grows.chain;
  others = grows.others;
  counters = grows.counters;
  cells = grows.cells;
  allocated = grows.allocated;
}

-- a drawn serial
pub draws_is : (old new : List PageImage) (segment serial : ℕ) → IsAllocated old → IsSegment segment → serials.Draws old new segment serial → Draws old new segment
unfolding header_at
draws_is old new segment serial fine within draws =
    let is = first_is old segment within in
    let first = first_of_some old segment fine (λ none. draws.some (sym is ∙ none)) in
    let high : first_of old segment < length old = let below = first.high in omega arith in
    let counted = serial_is old segment fine within in
    let next : serial ≡ serial_of old segment + 1 = let raised = draws.next in omega arith in
    record {
      page = first_of old segment;
      was = image_at old (first_of old segment);
      image = image_at new (first_of old segment);
      puts = puts_one old new (first_of old segment) draws.elsewhere.count high draws.apart;
      first = is;
      some = draws.some;
      header = draws.header ∙ ap (λ (n : ℕ). with_serial (header_at old (first_of old segment)) n) next;
      cells = draws.cells (first_of old segment);
      allocated = draws.allocated;
    }

-- an added cell
pub adds_is : (old new : List PageImage) (segment page size code serial : ℕ) → 10 ≤ page → page < length old → (header_at old page).kind ≡ 2 → (header_at old page).segment ≡ segment → (header_at old page).end < 4096
    → Adds old new page size code serial → AddsAt old new (page * 4096 + (header_at old page).end) segment size code serial
unfolding header_at
adds_is old new segment page size code serial low below kind owner end adds = record {
  page = page;
  was = image_at old page;
  image = image_at new page;
  puts = puts_one old new page adds.count below adds.others;
  at = refl;
  high = low;
  low = end;
  kind = kind;
  segment_is = owner;
  adds = adds.cell;
}
