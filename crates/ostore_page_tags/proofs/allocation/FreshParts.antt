-- A list of a front page, the pages of a text, a page of roots, and others, by the numbers of the pages.
use Rattle.std.proofs.Common.{◌≡◌, ℕ, zero, suc, ◌+◌, ◌-◌, ◌*◌, ◌<◌, ◌≤◌, List, [], ◌∷◌, ◌++◌, length, get_or, take, map, refl, sym, ap, ◌∙◌, arith}
use Rattle.std.specs.List.{range_with_len, flat_map}
use Rattle.std.proofs.lemmas.List.{length-append, take_all, get_or_append_left, get_or-append_right}
use Rattle.std.proofs.lemmas.List.FromFn.{get_or-map-range_with_len}
use Rattle.ostore_base.specs.declared.page.TheConstants.{PAGE_SIZE}
use Rattle.ostore_base.specs.declared.page.PageImage.{PageImage}
use Rattle.ostore_page_tags.specs.Cells.{between}
use Rattle.ostore_page_tags.specs.PageLists.{bytes_at, schema_bytes}
use Rattle.ostore_page_tags.specs.FreshPages.{part_image}
use Rattle.ostore_page_tags.proofs.parts.ApartLaws.{between-append, between_none}

abbrev pub none_image : PageImage
none_image = record { bytes = [] }

abbrev pub four_parts : PageImage → (ℕ → PageImage) → PageImage → List PageImage → List PageImage
four_parts front part roots rest = front ∷ map part (range_with_len 0 8) ++ roots ∷ rest

pub parts_long : (front : PageImage) (part : ℕ → PageImage) (roots : PageImage) (rest : List PageImage) → length (four_parts front part roots rest) ≡ 10 + length rest
parts_long front part roots rest = let long = length-append (front ∷ map part (range_with_len 0 8)) (roots ∷ rest) in omega arith

pub part_at : (front : PageImage) (part : ℕ → PageImage) (roots : PageImage) (rest : List PageImage) (i : ℕ) → i < 8 → bytes_at (four_parts front part roots rest) (suc i) ≡ (part i).bytes
part_at front part roots rest i below =
    ap (λ (image : PageImage). image.bytes)
    (get_or_append_left (front ∷ map part (range_with_len 0 8)) (roots ∷ rest) none_image (suc i) (omega arith)
    ∙ get_or-map-range_with_len part 0 8 i i none_image below (omega arith))

pub rest_at : (front : PageImage) (part : ℕ → PageImage) (roots : PageImage) (rest : List PageImage) (page : ℕ) → 10 ≤ page → bytes_at (four_parts front part roots rest) page ≡ (get_or rest (page - 10) none_image).bytes
rest_at front part roots rest page low =
    let at : page - 9 ≡ suc (page - 10) = omega arith in
    ap (λ (image : PageImage). image.bytes)
    (get_or-append_right (front ∷ map part (range_with_len 0 8)) (roots ∷ rest) 9 page none_image refl (omega arith)
    ∙ ap (λ (k : ℕ). get_or (roots ∷ rest) k none_image) at)

-- the parts from part i on are the bytes from there on
spread : (k i : ℕ) (bytes : List ℕ) → flat_map (λ j. between (PAGE_SIZE * j) (PAGE_SIZE * j + PAGE_SIZE) bytes) (range_with_len i k) ≡ between (PAGE_SIZE * i) (PAGE_SIZE * i + PAGE_SIZE * k) bytes
spread zero i bytes = sym (between_none (PAGE_SIZE * i) (PAGE_SIZE * i + PAGE_SIZE * zero) bytes (omega arith))
spread (suc k) i bytes =
    let start : PAGE_SIZE * (i + 1) ≡ PAGE_SIZE * i + PAGE_SIZE = omega arith in
    let stop : PAGE_SIZE * (i + 1) + PAGE_SIZE * k ≡ PAGE_SIZE * i + PAGE_SIZE * suc k = omega arith in
    ap (λ (l : List ℕ). between (PAGE_SIZE * i) (PAGE_SIZE * i + PAGE_SIZE) bytes ++ l)
    (spread k (i + 1) bytes
    ∙ ap (λ (s : ℕ). between s (PAGE_SIZE * (i + 1) + PAGE_SIZE * k) bytes) start
    ∙ ap (λ (s : ℕ). between (PAGE_SIZE * i + PAGE_SIZE) s bytes) stop)
    ∙ between-append (PAGE_SIZE * i) (PAGE_SIZE * i + PAGE_SIZE) (PAGE_SIZE * i + PAGE_SIZE * suc k) bytes (omega arith) (omega arith)

all_between : (n : ℕ) (bytes : List ℕ) → length bytes ≡ n → between 0 n bytes ≡ bytes
all_between n bytes long =
    let all : n - 0 ≡ n = omega arith in
    ap (λ (k : ℕ). take k bytes) all ∙ take_all n bytes (omega arith)

pub schema_joined : (front : PageImage) (bytes : List ℕ) (roots : PageImage) (rest : List PageImage) → length bytes ≡ 32768 → schema_bytes (four_parts front (part_image bytes) roots rest) ≡ bytes
unfolding schema_bytes
schema_joined front bytes roots rest long = spread 8 0 bytes ∙ all_between 32768 bytes long
